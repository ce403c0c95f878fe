-- The phase of a call by its stage and by what is in its place for a buffer (own).
use Rattle.std.specs.Prelude.{Option, None, Some}
use Rattle.lane_model.specs.declared.calls.Answer.{Answer}
use Rattle.lane_model.specs.declared.calls.Answer.TheVariants as answer
use Rattle.lane_model.specs.declared.calls.Ask.{Ask}
use Rattle.lane_model.specs.declared.calls.Ask.TheVariants as ask
use Rattle.lane_model.specs.declared.calls.CallEnd.{CallEnd}
use Rattle.lane_model.specs.declared.calls.CallEnd.TheVariants as call_end
use Rattle.lane_model.specs.HeldBuffers.{HeldBuffer}
use Rattle.split_ring.specs.CallPhases.{Phase}
use Rattle.split_ring.specs.CallPhases as phase
use Rattle.split_ring.specs.declared.stages.Request.{Request}
use Rattle.split_ring.specs.declared.stages.Request.TheVariants as request
use Rattle.split_ring.specs.declared.stages.Stage.{Stage}
use Rattle.split_ring.specs.declared.stages.Stage.TheVariants as stage

-- what is asked, with the message that it sends or the buffer that it gives back
abbrev pub ask_with : Request → HeldBuffer → Ask
ask_with request.Send held = ask.Send held.message
ask_with request.Take held = ask.Take
ask_with request.Give held = ask.Give held
ask_with (request.Bind address) held = ask.Bind address
ask_with (request.Unbind address) held = ask.Unbind address

-- the answer of a call that ends so: a take was handed this buffer
abbrev pub answer_with : CallEnd → HeldBuffer → Answer
answer_with (call_end.Sent number) held = answer.Sent number
answer_with (call_end.Took number verdict) held = answer.Took held verdict
answer_with (call_end.Gave number) held = answer.Gave number
answer_with (call_end.Bound endpoint) held = answer.Bound endpoint
answer_with (call_end.Unbound endpoint) held = answer.Unbound endpoint
answer_with (call_end.Busy holder) held = answer.Busy holder
answer_with (call_end.Dead era) held = answer.Dead era
answer_with (call_end.NoBuffer accepted returned) held = answer.NoBuffer accepted returned
answer_with (call_end.BookFull accepted) held = answer.BookFull accepted
answer_with (call_end.Empty accepted) held = answer.Empty accepted
answer_with (call_end.Refused fault) held = answer.Refused fault

abbrev pub phase_at : Stage → HeldBuffer → Phase
phase_at (stage.Asked asked) held = phase.Asked (ask_with asked held)
phase_at (stage.Sends last call) held = phase.Sends last call held.message
phase_at (stage.Takes last call buffer) held = phase.Takes last call buffer
phase_at (stage.Gives last returned) held = phase.Gives last held returned
phase_at (stage.Asks asked) held = phase.Asks asked
phase_at (stage.LeavesSender end) held = phase.LeavesSender (answer_with end held)
phase_at (stage.LeavesReceiver end) held = phase.LeavesReceiver (answer_with end held)
phase_at (stage.HandsBack holder) held = phase.LeavesReceiver (answer.GiveBusy holder held)
phase_at stage.Ended held = phase.Ended

-- the buffer that its caller is handed by an answer, or has back
abbrev pub answer_buffer : Answer → Option HeldBuffer
answer_buffer (answer.Took held verdict) = Some held
answer_buffer (answer.GiveBusy holder held) = Some held
answer_buffer other = None
