use Rattle.std.proofs.Common.{sym, ap, ◌∙◌, subst}
use Rattle.lane_model.specs.declared.calls.Answer.TheVariants as answer
use Rattle.lane_model.specs.declared.calls.Progress.TheVariants as progress
use Rattle.lane_model.specs.declared.stages.TakeStage.TheVariants as take_stage
use Rattle.lane_model.specs.HeldBuffers.{HeldBuffer}
use Rattle.split_ring.specs.CallPhases as phase
use Rattle.split_ring.specs.declared.stages.Stage.{Stage}
use Rattle.split_ring.specs.Stages.{phase_at}
use Rattle.split_ring.specs.Calls.{Advances}
use Rattle.split_ring.specs.Focus.{seat_of}
use Rattle.split_ring.specs.Receives.{taken_of}
use Rattle.split_ring.proofs.CallSteps.{hand_by, take_late, take_handed}
use Rattle.split_ring.proofs.links.SharedLink.hand_step.Goals as goal

pub returns-clause-step : goal.returns-clause-step
returns-clause-step g c =
    let coded = g.row.D.coded in let meaning = g.D.Desk.meaning in let z = c.args.self.now.sizes in let call = c.in-Takes.call in let b = c.in-Takes.buffer in
    let full = c.args.seat.now.me in let full' = c.hand_over.new.seat.me in let me = seat_of call.who.number full in let me' = seat_of call.who.number full' in
    let here = sym c.phase.view_is ∙ ap (λ (s : Stage). phase_at s c.phase.inside.place) c.in-Takes.is in
    let handing = c.in-Ok.handing in let taken = taken_of call.who handing c.hand_over.new.message in
    hand_by coded meaning z c.args.who c.args.phase.now c.in-Takes.field-0 call b (phase.LeavesReceiver (answer.Took c.hold.new.self handing.verdict)) full full' here c.requires.last c.requires.stands
    (subst (λ (held : HeldBuffer). Advances coded meaning z call.who (phase.Takes take_stage.Buffer call b) (progress.At 5) (phase.LeavesReceiver (answer.Took held handing.verdict)) me me') (sym c.hold.ensures)
    (take_handed coded meaning z call b taken me me' c.in-Ok.ensures.left c.in-Ok.ensures.handed))

pub returns-in-Err-clause-step : goal.returns-in-Err-clause-step
returns-in-Err-clause-step g c =
    let coded = g.row.D.coded in let meaning = g.D.Desk.meaning in let z = c.args.self.now.sizes in let call = c.in-Takes.call in let b = c.in-Takes.buffer in
    let full = c.args.seat.now.me in let full' = c.hand_over.new.seat.me in let me = seat_of call.who.number full in let me' = seat_of call.who.number full' in
    let here = sym c.phase.view_is ∙ ap (λ (s : Stage). phase_at s c.phase.inside.place) c.in-Takes.is in
    hand_by coded meaning z c.args.who c.args.phase.now c.in-Takes.field-0 call b (phase.LeavesReceiver (answer.Dead c.in-Err.era)) full full' here c.requires.last c.requires.stands
    (take_late coded meaning z call b c.in-Err.era me me' c.in-Err.ensures.left c.in-Err.ensures.dead)
