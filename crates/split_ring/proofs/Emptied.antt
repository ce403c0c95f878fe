-- A manager that has all four turns has no slot of a carried call out.
use Rattle.std.proofs.Common.{◌≡◌, ◌<◌, ℕ, zero, suc, true, length, List, [], ◌∷◌, refl, sym, ap, ◌∙◌, subst, arith}
use Rattle.std.specs.Prelude.{slice_index}
use mathlib.Core.Option.{some, some-injective}
use lib.ListN.{get_elem?}
use Rattle.link_words.specs.declared.rule.Call.TheVariants.{Gathers}
use Rattle.link_words.specs.declared.rule.Pass.{Pass}
use Rattle.link_words.specs.declared.rule.ReceiverSide.{ReceiverSide}
use Rattle.link_words.specs.declared.rule.SenderSide.{SenderSide}
use Rattle.link_words.specs.declared.rule.Slot.{Slot}
use Rattle.link_words.specs.declared.rule.View.{View}
use Rattle.link_words.specs.Calls.{SeatState, has_side, with_pass_at}
use Rattle.link_words.specs.Orderly.{IsOrderly}
use Rattle.link_words.specs.Passes.{place_of_number, with_call}
use Rattle.link_words.specs.Reopens.{ManagerAt, both_sides}
use Rattle.link_words.specs.Sides.{no_sides}
use Rattle.split_ring.specs.Carried.{HasBlocks, out_before}
use Rattle.split_ring.specs.Reopens.{HasAll, HasAllBeside}
use Rattle.split_ring.proofs.Carrying.{others_there}
use Rattle.split_ring.proofs.Focusing.{changed_there, false-true}

-- with no count there is no slot
none_before : (n : ℕ) (counts : List ℕ) → ((slot : ℕ) → slot < n → slice_index counts slot ≡ 0) → out_before n counts ≡ 0
none_before zero counts none = refl
none_before (suc n) [] none = refl
none_before (suc n) (c ∷ cs) none =
    let first : c ≡ 0 = none 0 (omega arith) in let rest = none_before n cs (λ slot low. none (suc slot) (let l : slot < n = low in omega (arith, l))) in omega (arith, first, rest)

none_long : (l : List (ℕ × Slot)) → length l ≡ 0 → l ≡ []
none_long [] none = refl
none_long (s ∷ l) none = absurd (omega (arith, none))

module _ (counts : List ℕ) (me : SeatState) (v : View) (x u : SenderSide) (y w : ReceiverSide) (me1 : SeatState) (blocks : HasBlocks counts me) (rests : ManagerAt me (Gathers no_sides no_sides)) (passes : v.passes ≡ me.0.passes)
    (all : HasAllBeside me.1 v x y u w me1) (order : IsOrderly me1.0) where
  has_each : (slot : ℕ) → slot < 4 → has_side slot (Gathers (both_sides x y) (both_sides u w)) ≡ true
  has_each zero low = refl
  has_each (suc zero) low = refl
  has_each (suc (suc zero)) low = refl
  has_each (suc (suc (suc zero))) low = refl
  has_each (suc (suc (suc (suc n)))) low = absurd (omega (arith, low))

  -- no other pass has one of the four side states, and the manager's own had none
  nobody : (slot : ℕ) → slot < 4 → (k : ℕ) (p : Pass) → get_elem? me.0.passes k ≡ some p → has_side slot p.call ≡ true → ⊥
  nobody slot low k p at has =
      let call = Gathers (both_sides x y) (both_sides u w) in let place = place_of_number 64 v.passes in
      let own : get_elem? me.0.passes place ≡ some rests.mover.pass = ap (λ (ps : List Pass). get_elem? me.0.passes (place_of_number 64 ps)) passes ∙ (ap (get_elem? me.0.passes) (sym rests.here) ∙ rests.mover.here) in
      let differs : k ≡ place → ⊥ = λ same. let is = some-injective p rests.mover.pass (sym at ∙ (ap (get_elem? me.0.passes) same ∙ own)) in
      false-true (ap (has_side slot) (sym rests.in_call) ∙ (ap (λ (q : Pass). has_side slot q.call) (sym is) ∙ has)) in
      let now : (j : ℕ) → get_elem? me1.0.passes j ≡ get_elem? (with_pass_at (λ q. with_call q call) place v.passes) j = λ j. ap (λ (s : SeatState). get_elem? s.0.passes j) all.is in
      let there : get_elem? me1.0.passes k ≡ some p = now k ∙ (others_there (λ q. with_call q call) place k v.passes differs ∙ (ap (λ (ps : List Pass). get_elem? ps k) passes ∙ at)) in
      let taken : get_elem? me1.0.passes place ≡ some (with_call all.manager call) = now place ∙ changed_there (λ q. with_call q call) place v.passes all.manager all.here in
      differs (order.sides slot k place p (with_call all.manager call) there taken has (has_each slot low))

  none_with : (slot : ℕ) → slot < 4 → slice_index counts slot ≡ 0
  none_with slot low = go (slice_index counts slot) refl
    where
      go : (n : ℕ) → slice_index counts slot ≡ n → slice_index counts slot ≡ 0
      go zero is = is
      go (suc n) is = let o = blocks.owned slot (λ none. let l : suc n ≡ 0 = sym is ∙ none in omega (arith, l)) in absurd (nobody slot low o.0 o.1 o.2 o.3)

  pub none_carried : me.1 ≡ []
  none_carried = none_long me.1 (sym blocks.all ∙ none_before 4 counts none_with)

  pub all_alone : HasAll v x y u w me1
  all_alone = subst (λ (l : List (ℕ × Slot)). HasAllBeside l v x y u w me1) none_carried all
