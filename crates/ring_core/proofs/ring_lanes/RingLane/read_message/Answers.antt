use Rattle.std.proofs.Common.{◌≡◌, Some, ap, ap₂, ◌∙◌, arith}
use Rattle.lane_model.specs.declared.stages.Work.TheVariants as work
use Rattle.lane_model.specs.declared.stages.TakeStage.TheVariants as take_stage
use Rattle.ring_core.specs.declared.states.RingState.{RingState}
use Rattle.ring_core.specs.Rings.{buffer_at}
use Rattle.ring_core.specs.RingSteps.{ring_form}
use Rattle.ring_core.specs.RingLanes.{state_of, work_of}
use Rattle.ring_core.proofs.Inside.{inside_after, received_at, receiving_at}
use Rattle.ring_core.proofs.Sound.{received_on_sound}
use Rattle.ring_core.proofs.ring_lanes.RingLane.read_message.Goals as goal

pub advance_receive-requires : goal.advance_receive-requires
advance_receive-requires g c =
    let at : work_of c.self.inside.lane.receiver ≡ Some (work.Take take_stage.Look) = ap (λ (s : RingState g.row.D.Denot). work_of s.lane.receiver) c.self.view_is ∙ c.requires in
    receiving_at _ _ at

pub invariant_of-self : goal.invariant_of-self
invariant_of-self g c =
    let old = state_of c.self.inside in
    let at : work_of old.lane.receiver ≡ Some (work.Take take_stage.Look) = ap (λ (s : RingState g.row.D.Denot). work_of s.lane.receiver) c.self.view_is ∙ c.requires in
    inside_after _ _ _ c.self.invariant
    (received_at _ g.D.Desk.meaning old c.args.era _ _ (work.Take take_stage.Look) at c.advance_receive.ensures.left (ap (λ n. record old.rings { taking = n }) (c.buffer_at-self-inside.ensures ∙ ap₂ (buffer_at old.rings.sizes.entries) c.deref.ensures.value c.handed.ensures)))
    (received_on_sound g.D.Desk.meaning old c.args.era c.self.invariant.sound) (omega arith) (omega arith)

pub returns-clause-left : goal.returns-clause-left
returns-clause-left g c =
    let old = state_of c.self.inside in
    let at : work_of old.lane.receiver ≡ Some (work.Take take_stage.Look) = ap (λ (s : RingState g.row.D.Denot). work_of s.lane.receiver) c.self.view_is ∙ c.requires in
    received_at _ g.D.Desk.meaning old c.args.era _ _ (work.Take take_stage.Look) at c.advance_receive.ensures.left (ap (λ n. record old.rings { taking = n }) (c.buffer_at-self-inside.ensures ∙ ap₂ (buffer_at old.rings.sizes.entries) c.deref.ensures.value c.handed.ensures))
    ∙ ap (λ s. (ring_form g.D.Desk.meaning).received_on s c.args.era) c.self.view_is
