use Rattle.std.proofs.Common.{sym, ap, ◌∙◌, subst}
use Rattle.lane_model.specs.declared.calls.Progress.TheVariants as progress
use Rattle.split_ring.specs.CallPhases.{Phase}
use Rattle.split_ring.specs.CallPhases as phase
use Rattle.split_ring.specs.Calls.{desk_said, Advances}
use Rattle.split_ring.specs.Focus.{seat_of}
use Rattle.split_ring.proofs.CallEnds.{desk_done}
use Rattle.split_ring.proofs.links.SharedLink.desk_step.Goals as goal

pub returns-clause-step : goal.returns-clause-step
returns-clause-step g c =
    let coded = g.row.D.coded in let meaning = g.D.Desk.meaning in let z = c.args.self.now.sizes in let who = c.args.who in let me = seat_of who.number c.args.seat.now.me in let me' = seat_of who.number c.ask_desk.new.seat.me in
    subst (λ (p : Phase). Advances coded meaning z who (phase.Asks c.args.asked) (progress.At 2) p me me') (sym (c.settle_desk.ensures ∙ ap (λ a. phase.LeavesReceiver (desk_said c.args.asked a)) c.desk_result-answer.ensures))
    (desk_done coded meaning z who c.args.asked c.ask_desk.result me me' c.ask_desk.ensures.left c.ask_desk.ensures.answered c.ask_desk.ensures.dead)
