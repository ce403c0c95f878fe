use Rattle.std.proofs.Common.{◌≡◌, ◌+◌, ◌%◌, ℕ, Some, List, set, ap, ap₂, ◌∙◌, arith}
use Rattle.lane_model.specs.declared.stages.Work.TheVariants as work
use Rattle.lane_model.specs.declared.stages.GiveStage.TheVariants as give_stage
use Rattle.vring_layout.specs.declared.words.UsedWord.{UsedWord}
use Rattle.ring_core.specs.declared.states.Hand.{Hand}
use Rattle.ring_core.specs.declared.states.RingState.{RingState}
use Rattle.ring_core.specs.Rings.{entry_of, return_count}
use Rattle.ring_core.specs.RingSteps.{ring_form, held_buffer}
use Rattle.ring_core.specs.RingLanes.{state_of, work_of}
use Rattle.ring_core.proofs.Inside.{inside_after, received_at, receiving_at}
use Rattle.ring_core.proofs.Sound.{received_on_sound}
use Rattle.ring_core.proofs.ring_lanes.RingLane.store_return.Goals as goal

pub advance_receive-requires : goal.advance_receive-requires
advance_receive-requires g c =
    let at : work_of c.self.inside.lane.receiver ≡ Some (work.Give c.args.number give_stage.Turn) = ap (λ (s : RingState g.row.D.Denot). work_of s.lane.receiver) c.self.view_is ∙ c.requires in
    receiving_at _ _ at

pub invariant_of-self : goal.invariant_of-self
invariant_of-self g c =
    let old = state_of c.self.inside in
    let at : work_of old.lane.receiver ≡ Some (work.Give c.args.number give_stage.Turn) = ap (λ (s : RingState g.row.D.Denot). work_of s.lane.receiver) c.self.view_is ∙ c.requires in
    let entry = c.ring_entry-entry.ensures ∙ ap entry_of (c.held_buffer.ensures ∙ ap (λ (hands : List Hand). held_buffer hands c.args.number) c.deref.ensures.value) in
    let count : c.from.result + c.returned.result ≡ return_count old.rings.sizes old.lane.lane.returned = ap₂ ◌+◌ c.from.ensures c.returned.ensures in
    let stored = c.store_at.ensures ∙ ap₂ (λ (n : ℕ) (e : UsedWord). set old.rings.returns (n % old.rings.sizes.entries) e) count entry in
    inside_after _ _ _ c.self.invariant
    (received_at _ g.D.Desk.meaning old c.args.era _ _ (work.Give c.args.number give_stage.Turn) at c.advance_receive.ensures.left (ap (λ (r : List UsedWord). record old.rings { returns = r }) stored))
    (received_on_sound g.D.Desk.meaning old c.args.era c.self.invariant.sound) (omega arith) (omega arith)

pub returns-clause-left : goal.returns-clause-left
returns-clause-left g c =
    let old = state_of c.self.inside in
    let at : work_of old.lane.receiver ≡ Some (work.Give c.args.number give_stage.Turn) = ap (λ (s : RingState g.row.D.Denot). work_of s.lane.receiver) c.self.view_is ∙ c.requires in
    let entry = c.ring_entry-entry.ensures ∙ ap entry_of (c.held_buffer.ensures ∙ ap (λ (hands : List Hand). held_buffer hands c.args.number) c.deref.ensures.value) in
    let count : c.from.result + c.returned.result ≡ return_count old.rings.sizes old.lane.lane.returned = ap₂ ◌+◌ c.from.ensures c.returned.ensures in
    let stored = c.store_at.ensures ∙ ap₂ (λ (n : ℕ) (e : UsedWord). set old.rings.returns (n % old.rings.sizes.entries) e) count entry in
    received_at _ g.D.Desk.meaning old c.args.era _ _ (work.Give c.args.number give_stage.Turn) at c.advance_receive.ensures.left (ap (λ (r : List UsedWord). record old.rings { returns = r }) stored)
    ∙ ap (λ s. (ring_form g.D.Desk.meaning).received_on s c.args.era) c.self.view_is
