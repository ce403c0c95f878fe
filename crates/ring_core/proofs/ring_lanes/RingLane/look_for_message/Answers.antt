use Rattle.std.proofs.Common.{◌≡◌, Some, refl, ap, ◌∙◌, arith}
use Rattle.lane_model.specs.declared.stages.Work.TheVariants as work
use Rattle.lane_model.specs.declared.stages.TakeStage.TheVariants as take_stage
use Rattle.ring_core.specs.declared.states.RingState.{RingState}
use Rattle.ring_core.specs.RingLanes.{state_of, work_of}
use Rattle.ring_core.proofs.Inside.{inside_after, any_era, received_at}
use Rattle.ring_core.proofs.Sound.{received_on_sound}
use Rattle.ring_core.proofs.ring_lanes.RingLane.look_for_message.Goals as goal

pub invariant_of-self : goal.invariant_of-self
invariant_of-self g c =
    let old = state_of c.self.inside in
    let at : work_of old.lane.receiver ≡ Some (work.Take take_stage.Era) = ap (λ (s : RingState g.row.D.Denot). work_of s.lane.receiver) c.self.view_is ∙ c.requires in
    inside_after _ _ _ c.self.invariant
    (received_at _ g.D.Desk.meaning old any_era _ _ (work.Take take_stage.Era) at (c.look_for_message.ensures any_era) refl)
    (received_on_sound g.D.Desk.meaning old any_era c.self.invariant.sound) (omega arith) (omega arith)
