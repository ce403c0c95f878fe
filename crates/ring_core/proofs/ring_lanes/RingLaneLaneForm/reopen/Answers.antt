use Rattle.std.proofs.Common.{◌≡◌, ◌-◌, ◌++◌, ℕ, List, [], replicate, ap, ap₂, ◌∙◌, arith}
use Rattle.lane_model.specs.declared.states.LaneState.{LaneState}
use Rattle.vring_layout.specs.declared.words.UsedWord.{UsedWord}
use Rattle.ring_core.specs.declared.states.Hand.{Hand}
use Rattle.ring_core.specs.declared.states.Rings.{Rings}
use Rattle.ring_core.specs.Rings.{entry_of, opened_rings, return_count}
use Rattle.ring_core.specs.RingLanes.{state_of}
use Rattle.ring_core.proofs.Inside.{inside_after}
use Rattle.ring_core.proofs.Reclaims.{reopened_sound}
use Rattle.ring_core.proofs.ring_lanes.RingLaneLaneForm.reopen.Goals as goal

pub invariant_of-self : goal.invariant_of-self
invariant_of-self g c =
    let old = state_of c.self.inside in
    let sizes = old.rings.sizes in
    let opened = opened_rings sizes old.rings.buffers in
    let made : ℕ → List UsedWord → List UsedWord → List Hand → List ℕ → Rings = λ i f r h a. record opened { return_index = i; forward = f; returns = r; hands = h; aside = a } in
    let index : sizes.capacity - sizes.own ≡ return_count sizes 0 = omega arith in
    let forward = c.fill_up.ensures.items ∙ ap (λ (xs : List UsedWord). xs ++ replicate sizes.entries (entry_of 0)) c.clear.ensures.items in
    let left = ap₂ (λ (i : ℕ) (f : List UsedWord). made i f c.restock.new.returns.items c.clear-2.new.self.items c.clear-3.new.self.items) index forward
    ∙ ap₂ (λ (r : List UsedWord) (h : List Hand). made opened.return_index opened.forward r h c.clear-3.new.self.items) c.restock.ensures.items c.clear-2.ensures.items
    ∙ ap (λ (a : List ℕ). made opened.return_index opened.forward opened.returns [] a) c.clear-3.ensures.items in
    inside_after _ _ _ c.self.invariant
    (ap₂ (λ (x : LaneState g.row.D.Denot) (y : Rings). record { lane = x; rings = y }) c.reopen.ensures.left left)
    (reopened_sound g.D.Desk.meaning old c.self.invariant.sound) (omega (arith, c.clear-2.ensures.capacity)) (omega (arith, c.clear-3.ensures.capacity))
