use Rattle.std.proofs.Common.{◌≡◌, ◌+◌, ◌%◌, ℕ, IsTrue, None, List, set, ap, ap₂, ◌∙◌, arith}
use Rattle.lane_model.specs.declared.states.LaneState.{LaneState}
use Rattle.lane_model.specs.Lanes.{holds, holder}
use Rattle.vring_layout.specs.declared.words.UsedWord.{UsedWord}
use Rattle.ring_core.specs.declared.states.Hand.{Hand}
use Rattle.ring_core.specs.declared.states.Rings.{Rings}
use Rattle.ring_core.specs.Rings.{entry_of, return_count}
use Rattle.ring_core.specs.RingSteps.{held_buffer, next_index}
use Rattle.ring_core.specs.RingLanes.{state_of}
use Rattle.ring_core.proofs.Inside.{inside_after}
use Rattle.ring_core.proofs.AtOnce.{ring_given, after_give_sound}
use Rattle.ring_core.proofs.ring_lanes.RingLaneLaneForm.give_at_once.Goals as goal

pub invariant_of-self : goal.invariant_of-self
invariant_of-self g c =
    let old = state_of c.self.inside in
    let rings = old.rings in
    let may : holder old.lane.receiver ≡ None = c.if-not-gives_at_once.ensures.may in
    let has : IsTrue (holds old.lane.lane.held c.args.number c.args.caller) = rw (← c.self.view_is) at c.requires.held in
    let entry = c.ring_entry-entry.ensures ∙ ap entry_of (c.held_buffer.ensures ∙ ap (λ (hands : List Hand). held_buffer hands c.args.number) c.deref.ensures.value) in
    let count : c.from.result + c.returned.result ≡ return_count rings.sizes old.lane.lane.returned = ap₂ ◌+◌ c.from.ensures c.returned.ensures in
    let stored = c.store_at.ensures ∙ ap₂ (λ (n : ℕ) (e : UsedWord). set rings.returns (n % rings.sizes.entries) e) count entry in
    let left = ap₂ (λ (r : List UsedWord) (h : List Hand). record rings { returns = r; return_index = next_index rings.return_index; hands = h }) stored c.remove_hand.ensures.rest in
    inside_after _ _ _ c.self.invariant
    (ap₂ (λ (x : LaneState g.row.D.Denot) (y : Rings). record { lane = x; rings = y }) c.return_at_once.ensures left ∙ ring_given _ g.D.Desk.meaning old c.args._era c.args.caller c.args.number may)
    (after_give_sound g.D.Desk.meaning old c.args._era c.args.caller c.args.number has c.self.invariant.sound) (omega (arith, c.remove_hand.ensures.room)) (omega arith)
