use Rattle.std.proofs.Common.{◌≡◌, Some, ap, ◌∙◌, arith, rules}
use Rattle.lane_model.specs.declared.stages.SendStage.TheVariants as send_stage
use Rattle.ring_core.specs.declared.states.RingState.{RingState}
use Rattle.ring_core.specs.RingSteps.{ring_form}
use Rattle.ring_core.specs.RingLanes.{state_of, stage_of}
use Rattle.ring_core.proofs.Inside.{inside_after, sent_at, sending_at}
use Rattle.ring_core.proofs.Sound.{sent_on_sound}
use Rattle.ring_core.proofs.ring_lanes.RingLane.publish_message.Goals as goal

pub advance_send-requires : goal.advance_send-requires
advance_send-requires g c =
    let at : stage_of c.self.inside.lane.sender ≡ Some (send_stage.Entry) = ap (λ (s : RingState g.row.D.Denot). stage_of s.lane.sender) c.self.view_is ∙ c.requires in
    sending_at _ _ at

pub invariant_of-self : goal.invariant_of-self
invariant_of-self g c =
    let old = state_of c.self.inside in
    let at : stage_of old.lane.sender ≡ Some (send_stage.Entry) = ap (λ (s : RingState g.row.D.Denot). stage_of s.lane.sender) c.self.view_is ∙ c.requires in
    inside_after _ _ _ c.self.invariant
    (sent_at _ g.D.Desk.meaning old c.args.era _ _ (send_stage.Entry) at c.advance_send.ensures.left (search rules))
    (sent_on_sound g.D.Desk.meaning old c.args.era c.self.invariant.sound) (omega arith) (omega arith)

pub returns-clause-left : goal.returns-clause-left
returns-clause-left g c =
    let old = state_of c.self.inside in
    let at : stage_of old.lane.sender ≡ Some (send_stage.Entry) = ap (λ (s : RingState g.row.D.Denot). stage_of s.lane.sender) c.self.view_is ∙ c.requires in
    sent_at _ g.D.Desk.meaning old c.args.era _ _ (send_stage.Entry) at c.advance_send.ensures.left (search rules)
    ∙ ap (λ s. (ring_form g.D.Desk.meaning).sent_on s c.args.era) c.self.view_is
