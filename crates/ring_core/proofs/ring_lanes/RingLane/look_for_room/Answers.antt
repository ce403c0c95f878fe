use Rattle.std.proofs.Common.{◌≡◌, Some, refl, ap, ◌∙◌, arith}
use Rattle.lane_model.specs.declared.stages.SendStage.TheVariants as send_stage
use Rattle.ring_core.specs.declared.states.RingState.{RingState}
use Rattle.ring_core.specs.RingLanes.{state_of, stage_of}
use Rattle.ring_core.proofs.Inside.{inside_after, any_era, sent_at}
use Rattle.ring_core.proofs.Sound.{sent_on_sound}
use Rattle.ring_core.proofs.ring_lanes.RingLane.look_for_room.Goals as goal

pub invariant_of-self : goal.invariant_of-self
invariant_of-self g c =
    let old = state_of c.self.inside in
    let at : stage_of old.lane.sender ≡ Some send_stage.Era = ap (λ (s : RingState g.row.D.Denot). stage_of s.lane.sender) c.self.view_is ∙ c.requires in
    inside_after _ _ _ c.self.invariant
    (sent_at _ g.D.Desk.meaning old any_era _ _ send_stage.Era at (c.look_for_room.ensures any_era) refl)
    (sent_on_sound g.D.Desk.meaning old any_era c.self.invariant.sound) (omega arith) (omega arith)
