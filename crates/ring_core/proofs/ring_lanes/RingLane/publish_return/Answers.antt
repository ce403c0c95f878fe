use Rattle.std.proofs.Common.{◌≡◌, Some, List, ap, ◌∙◌, arith}
use Rattle.lane_model.specs.declared.stages.Work.TheVariants as work
use Rattle.lane_model.specs.declared.stages.GiveStage.TheVariants as give_stage
use Rattle.ring_core.specs.declared.states.Hand.{Hand}
use Rattle.ring_core.specs.declared.states.RingState.{RingState}
use Rattle.ring_core.specs.RingSteps.{ring_form, next_index}
use Rattle.ring_core.specs.RingLanes.{state_of, work_of}
use Rattle.ring_core.proofs.Inside.{inside_after, received_at, receiving_at}
use Rattle.ring_core.proofs.Sound.{received_on_sound}
use Rattle.ring_core.proofs.ring_lanes.RingLane.publish_return.Goals as goal

pub advance_receive-requires : goal.advance_receive-requires
advance_receive-requires g c =
    let at : work_of c.self.inside.lane.receiver ≡ Some (work.Give c.args.number give_stage.Entry) = ap (λ (s : RingState g.row.D.Denot). work_of s.lane.receiver) c.self.view_is ∙ c.requires in
    receiving_at _ _ at

pub invariant_of-self : goal.invariant_of-self
invariant_of-self g c =
    let old = state_of c.self.inside in
    let at : work_of old.lane.receiver ≡ Some (work.Give c.args.number give_stage.Entry) = ap (λ (s : RingState g.row.D.Denot). work_of s.lane.receiver) c.self.view_is ∙ c.requires in
    inside_after _ _ _ c.self.invariant
    (received_at _ g.D.Desk.meaning old c.args.era _ _ (work.Give c.args.number give_stage.Entry) at c.advance_receive.ensures.left (ap (λ (hands : List Hand). record old.rings { return_index = next_index old.rings.return_index; hands = hands }) c.remove_hand.ensures.rest))
    (received_on_sound g.D.Desk.meaning old c.args.era c.self.invariant.sound) (omega arith) (omega arith)

pub returns-clause-left : goal.returns-clause-left
returns-clause-left g c =
    let old = state_of c.self.inside in
    let at : work_of old.lane.receiver ≡ Some (work.Give c.args.number give_stage.Entry) = ap (λ (s : RingState g.row.D.Denot). work_of s.lane.receiver) c.self.view_is ∙ c.requires in
    received_at _ g.D.Desk.meaning old c.args.era _ _ (work.Give c.args.number give_stage.Entry) at c.advance_receive.ensures.left (ap (λ (hands : List Hand). record old.rings { return_index = next_index old.rings.return_index; hands = hands }) c.remove_hand.ensures.rest)
    ∙ ap (λ s. (ring_form g.D.Desk.meaning).received_on s c.args.era) c.self.view_is
