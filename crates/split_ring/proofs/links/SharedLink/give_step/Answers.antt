use Rattle.std.proofs.Common.{ℕ, ◌+◌, ◌∷◌, [], sym, subst}
use Rattle.lane_model.specs.declared.calls.Answer.TheVariants as answer
use Rattle.lane_model.specs.declared.calls.CallEnd.TheVariants as end
use Rattle.lane_model.specs.declared.calls.Progress.TheVariants as progress
use Rattle.lane_model.specs.declared.recoveries.LaneTurn.TheVariants as lane_turn
use Rattle.lane_model.specs.declared.stages.GiveStage.{GiveStage}
use Rattle.lane_model.specs.declared.stages.GiveStage.TheVariants as give_stage
use Rattle.lane_model.specs.declared.stages.Work.TheVariants as work
use Rattle.link_words.specs.declared.rule.Counted.TheVariants.{Gave}
use Rattle.link_words.specs.declared.rule.Event.TheVariants.{Count}
use Rattle.link_words.specs.Steps.{hands_but}
use Rattle.split_ring.specs.CallPhases as phase
use Rattle.split_ring.specs.Calls.{GiveStands, Advances}
use Rattle.split_ring.specs.Focus.{seat_of}
use Rattle.split_ring.specs.Phases.{give_steps}
use Rattle.split_ring.specs.Receives.{IsGiveAt}
use Rattle.split_ring.specs.Turns.{IsLeaving}
use Rattle.split_ring.specs.Walks.{HasDone}
use Rattle.split_ring.proofs.CallEnds.{give_stored, give_done}
use Rattle.split_ring.proofs.links.SharedLink.give_step.Goals as goal

pub returns-in-Turn-clause-step : goal.returns-in-Turn-clause-step
returns-in-Turn-clause-step g c =
    let coded = g.row.D.coded in let meaning = g.D.Desk.meaning in let z = c.args.self.now.sizes in let who = c.args.who in let held = c.args.held.now in let old = c.args.returned.now in let same = c.number-number.ensures in
    let me = seat_of who.number c.args.seat.now.me in let me' = seat_of who.number c.store_given.new.seat.me in let back = c.store_given.result in
    subst (λ (x : GiveStage). Advances coded meaning z who (phase.Gives x held old) (progress.At (give_steps x + 1)) (phase.Gives give_stage.Entry held back) me me') (sym c.in-Turn.is)
    (give_stored coded meaning z who held old back me me' (subst (λ (x : GiveStage). GiveStands who held old x me) c.in-Turn.is c.requires.stands).1 (subst (λ (k : ℕ). IsGiveAt who back (work.Give k give_stage.Entry) me') same c.store_given.ensures.stored) c.store_given.ensures.done)

pub returns-in-Entry-clause-step : goal.returns-in-Entry-clause-step
returns-in-Entry-clause-step g c =
    let coded = g.row.D.coded in let meaning = g.D.Desk.meaning in let z = c.args.self.now.sizes in let who = c.args.who in let held = c.args.held.now in let returned = c.args.returned.now in let same = c.number-number.ensures in
    let me = seat_of who.number c.args.seat.now.me in let me' = seat_of who.number c.publish_given.new.seat.me in let given = c.publish_given.ensures.done in
    subst (λ (k : ℕ). Advances coded meaning z who (phase.Gives c.args.stage.now held returned) (progress.At (give_steps c.args.stage.now + 1)) (phase.LeavesReceiver (answer.Gave k)) me me') (sym same)
    (subst (λ (x : GiveStage). Advances coded meaning z who (phase.Gives x held returned) (progress.At (give_steps x + 1)) (phase.LeavesReceiver (answer.Gave held.number)) me me') (sym c.in-Entry.is)
    (give_done coded meaning z who held returned me me' (subst (λ (x : GiveStage). GiveStands who held returned x me) c.in-Entry.is c.requires.stands).1 (subst (λ (k : ℕ). IsLeaving lane_turn.Receiver who.end (end.Gave k) me') same c.publish_given.ensures.given)
    (given.0, given.1, subst (λ (k : ℕ). HasDone coded meaning (Count who.end given.0 (Gave (returned + 1)) ∷ []) (λ hands. hands_but hands k) me me') same given.2)))
