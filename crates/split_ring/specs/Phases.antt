-- What a phase of a call says: the side state that is out, how many slots are, how many steps are done, and what the next step says (own).
use Rattle.std.specs.Prelude.{◌≡◌, ◌+◌, ℕ, List, Option, Some, None, Result, Err}
use Rattle.std.specs.Option.{option_map}
use Rattle.rp_base.specs.declared.kinds.End.{End}
use Rattle.lane_model.specs.declared.calls.Answer.{Answer}
use Rattle.lane_model.specs.declared.calls.Answer.TheVariants as answer
use Rattle.lane_model.specs.declared.calls.Ask.{Ask}
use Rattle.lane_model.specs.declared.calls.Ask.TheVariants as ask
use Rattle.lane_model.specs.declared.calls.CallEnd.{CallEnd}
use Rattle.lane_model.specs.declared.calls.Outcome.{Outcome}
use Rattle.lane_model.specs.declared.calls.Outcome.TheVariants as outcome
use Rattle.lane_model.specs.declared.calls.Progress.{Progress}
use Rattle.lane_model.specs.declared.calls.Progress.TheVariants as progress
use Rattle.lane_model.specs.declared.stages.GiveStage.{GiveStage}
use Rattle.lane_model.specs.declared.stages.GiveStage.TheVariants as give_stage
use Rattle.lane_model.specs.declared.stages.SendStage.{SendStage}
use Rattle.lane_model.specs.declared.stages.SendStage.TheVariants as stage
use Rattle.lane_model.specs.declared.stages.TakeStage.{TakeStage}
use Rattle.lane_model.specs.declared.stages.TakeStage.TheVariants as take_stage
use Rattle.lane_model.specs.declared.stages.Work.TheVariants as work
use Rattle.lane_model.specs.declared.calls.Step.{Step}
use Rattle.lane_model.specs.declared.calls.Step.TheVariants as step
use Rattle.lane_model.specs.declared.calls.Wish.{Wish}
use Rattle.lane_model.specs.declared.calls.Wish.TheVariants as wish
use Rattle.lane_model.specs.declared.lane_links.LaneLink.{LaneLink}
use Rattle.lane_model.specs.Answers.{busy_answer, given_back, wish_of}
use Rattle.lane_model.specs.HeldBuffers.{HeldBuffer}
use Rattle.lane_model.specs.Lanes.{holder}
use Rattle.ring_core.specs.declared.states.RingState.{RingState}
use Rattle.link_words.specs.Words.{lane_to, other, sender_slot, receiver_slot}
use Rattle.split_ring.specs.Calls.{call_end, send_answer, take_answer}
use Rattle.split_ring.specs.Focus.{send_count, work_count}
use Rattle.split_ring.specs.CallPhases.{Phase}
use Rattle.split_ring.specs.CallPhases as phase
use Rattle.split_ring.specs.declared.sends.SendCall.{SendCall}
use Rattle.split_ring.specs.declared.sends.SendFault.{SendFault}
use Rattle.split_ring.specs.declared.takes.TakeCall.{TakeCall}
use Rattle.split_ring.specs.declared.takes.TakeFault.{TakeFault}

-- the slot of the side state that goes with the turn of a call; one that has done no step has none, and this is what it asks for
abbrev pub asked_side : End → Ask → ℕ
asked_side end (ask.Send message) = sender_slot (other end)
asked_side end ask.Take = receiver_slot end
asked_side end (ask.Give held) = receiver_slot end
asked_side end (ask.Bind address) = receiver_slot end
asked_side end (ask.Unbind address) = receiver_slot end

abbrev pub side_of : End → Phase → ℕ
side_of end (phase.Asked asked) = asked_side end asked
side_of end (phase.Sends stage c message) = sender_slot (other end)
side_of end (phase.Takes stage c buffer) = receiver_slot end
side_of end (phase.Gives stage held returned) = receiver_slot end
side_of end (phase.Asks asked) = receiver_slot end
side_of end (phase.LeavesSender answer) = sender_slot (other end)
side_of end (phase.LeavesReceiver answer) = receiver_slot end
side_of end phase.Ended = receiver_slot end

-- how many slots are out with a call in this phase
abbrev pub slots_in : Phase → ℕ
slots_in (phase.Asked asked) = 0
slots_in (phase.Sends stage c message) = send_count stage
slots_in (phase.Takes stage c buffer) = work_count (work.Take stage)
slots_in (phase.Gives stage held returned) = 1
slots_in (phase.Asks asked) = 1
slots_in (phase.LeavesSender answer) = 1
slots_in (phase.LeavesReceiver answer) = 1
slots_in phase.Ended = 0

-- a call has begun and not ended
abbrev pub IsUnderWay : Phase → Type 0
IsUnderWay phase.Ended = ⊥
IsUnderWay other = Unit {0}

-- how many steps a call in this phase has done, before its end is settled
abbrev pub send_steps : SendStage → ℕ
send_steps stage.Turn = 1
send_steps stage.Era = 2
send_steps stage.Look = 3
send_steps stage.Buffer = 4
send_steps stage.Entry = 5

abbrev pub take_steps : TakeStage → ℕ
take_steps take_stage.Turn = 1
take_steps take_stage.Era = 2
take_steps take_stage.Look = 3
take_steps take_stage.Buffer = 4

abbrev pub give_steps : GiveStage → ℕ
give_steps give_stage.Turn = 1
give_steps give_stage.Entry = 2

abbrev pub steps_in : Phase → ℕ
steps_in (phase.Sends stage c message) = send_steps stage
steps_in (phase.Takes stage c buffer) = take_steps stage
steps_in (phase.Gives stage held returned) = give_steps stage
steps_in (phase.Asks asked) = 1
steps_in other = 0

-- the answer with which a step ends a call: the one that was settled; or at the first step that another has the turn
abbrev pub IsEndOf : Phase → Answer → Type 0
IsEndOf (phase.Asked asked) said = (holder : ℕ) × (said ≡ busy_answer holder (Some asked))
IsEndOf (phase.LeavesSender answer) said = said ≡ answer
IsEndOf (phase.LeavesReceiver answer) said = said ≡ answer
IsEndOf other said = ⊥

-- the end of a call in this phase is not settled yet
abbrev pub IsUnsettled : Phase → Type 0
IsUnsettled (phase.LeavesSender answer) = ⊥
IsUnsettled (phase.LeavesReceiver answer) = ⊥
IsUnsettled phase.Ended = ⊥
IsUnsettled other = Unit {0}

-- the buffer that a call gives back, which it keeps while it goes on
abbrev pub gives_back : Phase → Option HeldBuffer
gives_back (phase.Asked asked) = given_back asked
gives_back (phase.Gives stage held returned) = Some held
gives_back other = None

-- a call settles that it gave this buffer back, or it had none to give back; and not that another has its turn
abbrev pub IsGivenBack : Option HeldBuffer → Answer → Type 0
IsGivenBack given (answer.Gave number) = option_map (λ (held : HeldBuffer). held.number) given ≡ Some number
IsGivenBack given (answer.GiveBusy holder held) = ⊥
IsGivenBack given other = given ≡ None

abbrev pub KeepsBuffer : Phase → Phase → Type 0
KeepsBuffer before (phase.Gives stage held returned) = gives_back before ≡ Some held
KeepsBuffer before (phase.LeavesSender said) = IsGivenBack (gives_back before) said
KeepsBuffer before (phase.LeavesReceiver said) = IsGivenBack (gives_back before) said
KeepsBuffer before other = gives_back before ≡ None

-- what the next step of a call of this end says: its number, with the same turn and the same buffer after it; or the call's end
abbrev pub IsNext : End → Phase → Progress → Phase → Type 0
IsNext end before (progress.At number) after = (number ≡ steps_in before + 1) × (side_of end after ≡ side_of end before) × IsUnderWay after × IsUnsettled before × KeepsBuffer before after
IsNext end before (progress.Done said) after = (after ≡ phase.Ended) × IsEndOf before said

-- what a caller wishes whose call has done no step
abbrev pub wished_in : Phase → Option Wish
wished_in (phase.Asked asked) = Some (wish_of asked)
wished_in other = None

-- who has the turn that a caller of this end needs for what it wishes
abbrev pub holder_for : {D : Type 0} → End → Wish → LaneLink (RingState D) → Option ℕ
holder_for end (wish.Send message) m = holder (lane_to m (other end)).lane.sender
holder_for end wish.Take m = holder (lane_to m end).lane.receiver
holder_for end (wish.Give number) m = holder (lane_to m end).lane.receiver
holder_for end (wish.Bind address) m = holder (lane_to m end).lane.receiver
holder_for end (wish.Unbind address) m = holder (lane_to m end).lane.receiver

-- what a step came to, by what it says
abbrev pub outcome_said : Progress → Outcome
outcome_said (progress.At number) = outcome.At number
outcome_said (progress.Done answer) = outcome.Ended (call_end answer)

-- the answer that is settled in a phase, and how the call ends with it
abbrev pub answer_in : Phase → Option Answer
answer_in (phase.LeavesSender said) = Some said
answer_in (phase.LeavesReceiver said) = Some said
answer_in other = None

abbrev pub settled_end : Phase → Option CallEnd
settled_end settled = option_map call_end (answer_in settled)

-- what a step says that left its call in this phase, and the phase after it: one that ended the call left its answer there. A call that goes on
-- has done a step, so none says 0
abbrev pub ending_progress : Option Answer → Progress
ending_progress (Some said) = progress.Done said
ending_progress None = progress.At 0

abbrev pub progress_of : Step → Phase → Progress
progress_of (step.At number) left = progress.At number
progress_of step.Ended left = ending_progress (answer_in left)

abbrev pub phase_behind : Step → Phase → Phase
phase_behind (step.At number) left = left
phase_behind step.Ended left = phase.Ended

-- the phase of a send, a take or a give after a later step, by the stage that is done and by what is settled
abbrev pub send_phase : Option (Result ℕ SendFault) → SendStage → SendCall → List ℕ → Phase
send_phase None stage call message = phase.Sends stage call message
send_phase (Some sent) stage call message = phase.LeavesSender (send_answer sent)

abbrev pub take_phase : Option TakeFault → TakeStage → TakeCall → ℕ → Phase
take_phase None stage call buffer = phase.Takes stage call buffer
take_phase (Some fault) stage call buffer = phase.LeavesReceiver (take_answer (Err fault))

abbrev pub give_phase : Option ℕ → GiveStage → HeldBuffer → ℕ → Phase
give_phase None stage held returned = phase.Gives stage held returned
give_phase (Some number) stage held returned = phase.LeavesReceiver (answer.Gave number)
