-- A step of one pass of a seat that may have several is the step of a seat that has that pass alone.
use Rattle.std.proofs.Common.{◌≡◌, ◌≢◌, ◌<◌, ℕ, zero, suc, Bool, true, false, cond, eqb, eq-eqb, length, List, [], ◌∷◌, refl, sym, ap, ◌∙◌, subst, arith}
use Rattle.std.proofs.lemmas.Bool.{eqb-true}
use Rattle.std.specs.Prelude.{None, Some, ◌&&◌, ◌||◌}
use mathlib.Core.Option.{some, some-injective, some-ne-none}
use lib.ListN.{get_elem?}
use base.Stored.{Coded}
use Rattle.atomic_table.specs.Table.{rest}
use Rattle.atomic_table.specs.Seated.{TableId}
use Rattle.lane_model.specs.declared.calls.Wish.{Wish}
use Rattle.lane_model.specs.declared.lane_links.LaneLink.{LaneLink}
use Rattle.lane_model.specs.Desks.{DeskMeaning}
use Rattle.ring_core.specs.declared.states.RingState.{RingState}
use Rattle.rp_base.specs.declared.kinds.End.TheVariants as side
use Rattle.link_words.specs.declared.copies.LinkCopy.{LinkCopy}
use Rattle.link_words.specs.declared.rule.Call.{Call}
use Rattle.link_words.specs.declared.rule.Call.TheVariants.{Idle, Sends, Rests, Reclaims, EndsHeld, Receives, EndsReceive, EndsSend, EndsBoth, Reopens, Gathers}
use Rattle.link_words.specs.declared.rule.LinkSizes.{LinkSizes}
use Rattle.link_words.specs.declared.rule.Pass.{Pass}
use Rattle.link_words.specs.declared.rule.Slot.{Slot}
use Rattle.link_words.specs.declared.rule.View.{View}
use Rattle.link_words.specs.Calls.{SeatState, Becomes, call_at, number_at, own_at, in_hand_at, first_side, has_side, is_side, place_of, place_with, with_pass_at}
use Rattle.link_words.specs.Orderly.{ArePassesIn, IsOrderly}
use Rattle.link_words.specs.Deeds.{Deed, IsSoundState, MayDo, Steps, after_deed}
use Rattle.link_words.specs.Passes.{Manages, Mover, only_pass, place_of_number}
use Rattle.link_words.specs.Codes.{copied}
use Rattle.link_words.specs.PlacedDesks.{PlacedDesk, placed_coded, placed_meaning}
use Rattle.link_words.specs.PlacedLinks.{KnowsState, IsSameCarrier, placed_link}
use Rattle.link_words.specs.Rule.{IsCallOf}
use Rattle.link_words.specs.Sides.{is_there}
use Rattle.link_words.specs.Steps.{Begins, GoesOn}
use Rattle.link_words.proofs.Orderly.{order_within}
use Rattle.link_words.proofs.Exact.{copied_one}
use Rattle.link_words.proofs.Placed.{deed_placed, state_after}
use Rattle.split_ring.specs.Focus.{slot_count, front, behind, focus, count_of, seat_of, others_of, IsAlone, IsOrderlySeat, LeavesOthers, ShowsCall, StepsAlone, StaysAlone}
use Rattle.split_ring.specs.Seats.{IsAt, IsCaller, IsSeatOf, first_pass, pass_in}
use Rattle.split_ring.specs.declared.callers.CallerId.{CallerId}
use Rattle.split_ring.proofs.Seats.{call_here, number_place, rewritten}

pub false-true : false ≡ true → ⊥
false-true e = absurd (cc)

pub nil_cons : {A : Type 0} (x : A) (xs : List A) → [] ≡ x ∷ xs → ⊥
nil_cons x xs is = let h : 0 ≡ suc (length xs) = ap length is in omega (arith, h)

-- the slots in front, and those behind
front_all : (slots : List (ℕ × Slot)) → front (length slots) slots ≡ slots
front_all [] = refl
front_all (x ∷ xs) = ap (λ (l : List (ℕ × Slot)). x ∷ l) (front_all xs)

none_behind : (slots : List (ℕ × Slot)) → behind (length slots) slots ≡ []
none_behind [] = refl
none_behind (x ∷ xs) = none_behind xs

front_whole : (c : ℕ) (slots : List (ℕ × Slot)) → behind c slots ≡ [] → front c slots ≡ slots
front_whole zero slots none = sym none
front_whole (suc c) [] none = refl
front_whole (suc c) (x ∷ xs) none = ap (λ (l : List (ℕ × Slot)). x ∷ l) (front_whole c xs none)

pub rest_front : (c : ℕ) (slots : List (ℕ × Slot)) → rest (front (suc c) slots) ≡ front c (rest slots)
rest_front zero [] = refl
rest_front (suc c) [] = refl
rest_front c (x ∷ xs) = refl

pub rest_behind : (c : ℕ) (slots : List (ℕ × Slot)) → behind c (rest slots) ≡ behind (suc c) slots
rest_behind zero [] = refl
rest_behind (suc c) [] = refl
rest_behind c (x ∷ xs) = refl

first_or : ℕ × Slot → List (ℕ × Slot) → ℕ × Slot
first_or d [] = d
first_or d (x ∷ xs) = x

-- the first of the slots in front is the first of all
pub lent_front : (c : ℕ) (slots more : List (ℕ × Slot)) (k : ℕ) (y : Slot) → front c slots ≡ (k, y) ∷ more → slots ≡ (k, y) ∷ rest slots
unfolding first_or
lent_front zero slots more k y is = absurd (nil_cons (k, y) more is)
lent_front (suc c) [] more k y is = absurd (nil_cons (k, y) more is)
lent_front (suc c) (x ∷ xs) more k y is = ap (λ (z : ℕ × Slot). z ∷ xs) (ap (first_or x) is)

-- what is in it changes
swapped_front : (c : ℕ) (slots more : List (ℕ × Slot)) (k k' : ℕ) (y w : Slot) → front c slots ≡ (k, y) ∷ more → front c ((k', w) ∷ rest slots) ≡ (k', w) ∷ rest (front c slots)
swapped_front zero slots more k k' y w is = absurd (nil_cons (k, y) more is)
swapped_front (suc c) [] more k k' y w is = absurd (nil_cons (k, y) more is)
swapped_front (suc c) (x ∷ xs) more k k' y w is = refl

swapped_behind : (c : ℕ) (slots more : List (ℕ × Slot)) (k k' : ℕ) (y w : Slot) → front c slots ≡ (k, y) ∷ more → behind c ((k', w) ∷ rest slots) ≡ behind c slots
swapped_behind zero slots more k k' y w is = absurd (nil_cons (k, y) more is)
swapped_behind (suc c) [] more k k' y w is = absurd (nil_cons (k, y) more is)
swapped_behind (suc c) (x ∷ xs) more k k' y w is = refl

-- a pass by its place
pub only_there : (k : ℕ) (ps : List Pass) (j : ℕ) (p : Pass) → get_elem? (only_pass k ps) j ≡ some p → (j ≡ 0) × (get_elem? ps k ≡ some p)
only_there k [] j p at = absurd (some-ne-none p (sym at))
only_there zero (q ∷ ps) zero p at = (refl, at)
only_there zero (q ∷ ps) (suc j) p at = absurd (some-ne-none p (sym at))
only_there (suc k) (q ∷ ps) j p at = only_there k ps j p at

pub call_there : (k : ℕ) (ps : List Pass) (p : Pass) → get_elem? ps k ≡ some p → call_at k ps ≡ p.call
call_there k [] p at = absurd (some-ne-none p (sym at))
call_there zero (q ∷ ps) p at = ap (λ (x : Pass). x.call) (some-injective q p at)
call_there (suc k) (q ∷ ps) p at = call_there k ps p at

number_there : (k : ℕ) (ps : List Pass) (p : Pass) → get_elem? ps k ≡ some p → number_at k ps ≡ p.number
number_there k [] p at = absurd (some-ne-none p (sym at))
number_there zero (q ∷ ps) p at = ap (λ (x : Pass). x.number) (some-injective q p at)
number_there (suc k) (q ∷ ps) p at = number_there k ps p at

pub changed_there : (f : Pass → Pass) (k : ℕ) (ps : List Pass) (p : Pass) → get_elem? ps k ≡ some p → get_elem? (with_pass_at f k ps) k ≡ some (f p)
changed_there f k [] p at = absurd (some-ne-none p (sym at))
changed_there f zero (q ∷ ps) p at = ap (λ (x : Pass). some (f x)) (some-injective q p at)
changed_there f (suc k) (q ∷ ps) p at = changed_there f k ps p at

-- the pass of a number has it
pub found_number : (n : ℕ) (ps : List Pass) (p : Pass) → get_elem? ps (place_of_number n ps) ≡ some p → p.number ≡ n
found_number n [] p at = absurd (some-ne-none p (sym at))
found_number n (q ∷ ps) p at = go (found_number n ps p) (eqb q.number n) refl at
  where
    go : (get_elem? ps (place_of_number n ps) ≡ some p → p.number ≡ n) → (b : Bool) → eqb q.number n ≡ b → get_elem? (q ∷ ps) (cond b 0 (suc (place_of_number n ps))) ≡ some p → p.number ≡ n
    go more true is at = ap (λ (x : Pass). x.number) (sym (some-injective q p at)) ∙ eqb-true q.number n is
    go more false is at = more at

-- and stays where it is
place_kept : (f : Pass → Pass) (k n : ℕ) (ps : List Pass) (p : Pass) → place_of_number n ps ≡ k → get_elem? ps k ≡ some p → (f p).number ≡ p.number → place_of_number n (with_pass_at f k ps) ≡ k
place_kept f k n [] p is at keeps = absurd (some-ne-none p (sym at))
place_kept f zero n (q ∷ ps) p is at keeps =
    let same : (f q).number ≡ q.number = subst (λ (x : Pass). (f x).number ≡ x.number) (sym (some-injective q p at)) keeps in ap (λ (m : ℕ). cond (eqb m n) 0 (suc (place_of_number n ps))) same ∙ is
place_kept f (suc k) n (q ∷ ps) p is at keeps = go (λ here. place_kept f k n ps p here at keeps) (eqb q.number n) is
  where
    go : (place_of_number n ps ≡ k → place_of_number n (with_pass_at f k ps) ≡ k) → (b : Bool) → cond b zero (suc (place_of_number n ps)) ≡ suc k → cond b zero (suc (place_of_number n (with_pass_at f k ps))) ≡ suc k
    go more true h = absurd (let e : zero ≡ suc k = h in omega (arith, e))
    go more false h = let e : suc (place_of_number n ps) ≡ suc k = h in ap suc (more (let d : place_of_number n ps ≡ k = omega (arith, e) in d))

-- the one pass of a seat, with all of its slots, is the seat
pub alone_same : (n : ℕ) (me : SeatState) → IsAlone n me → seat_of n me ≡ me
alone_same n me alone =
    (λ i. (record me.0 { passes = only_pass (alone.here i) (alone.one i) }, front_whole (count_of n me) me.1 alone.none i)) ∙ (λ i. (record me.0 { passes = sym alone.one i }, me.1))

pub alone_at : (n : ℕ) (me : SeatState) (call : Call) (slots : List (ℕ × Slot)) → IsAt me call slots → (pass_in me).number ≡ n → slot_count call ≡ length slots → IsAlone n me
alone_at n me call slots at number many =
    let here = number_place me n at.one number in let count : count_of n me ≡ length slots = ap slot_count (call_here me call slots (place_of_number n me.0.passes) at here) ∙ many in record {
      one = at.one;
      here = here;
      none = (λ i. behind (count i) (at.out i)) ∙ none_behind slots;
    }

-- and is in order
pub one_order : (v : View) (one : Pass) → v.passes ≡ one ∷ [] → ArePassesIn v → IsOrderly v
one_order v one is known = record {
  numbers = λ k l p q hp hq same. first k p hp ∙ sym (first l q hq);
  sides = λ slot k l p q hp hq sp sq. first k p hp ∙ sym (first l q hq);
  known = known;
}
  where
    first : (k : ℕ) (p : Pass) → get_elem? v.passes k ≡ some p → k ≡ 0
    first k p at = (only_there 0 (one ∷ []) k p (subst (λ (ps : List Pass). get_elem? ps k ≡ some p) is at)).0

-- a caller's seat is no manager's
pub alone_order : (n : ℕ) (me : SeatState) → n ≢ 64 → IsAlone n me → IsOrderly me.0
alone_order n me own alone = one_order me.0 (pass_in me) alone.one
    (λ manages out k was place q there other. let first = (only_there 0 (pass_in me ∷ []) manages.0 manages.1 (subst (λ (ps : List Pass). get_elem? ps manages.0 ≡ some manages.1) alone.one manages.2)).0 in
    absurd (own (sym (found_number n me.0.passes manages.1 (ap (get_elem? me.0.passes) (alone.here ∙ sym first) ∙ manages.2)) ∙ manages.3)))

pub alone_seat : (n : ℕ) (table : TableId) (sizes : LinkSizes) (seat : TableId) (me : SeatState) → n ≢ 64 → IsSeatOf table sizes seat me → IsAlone n me → IsOrderlySeat table sizes seat me
alone_seat n table sizes seat me own of alone = record { at_table = of.at_table; told = of.told; order = alone_order n me own alone }

pub low_own : (n : ℕ) → n < 64 → n ≢ 64
low_own n low is = absurd (omega (arith, low, is))

-- it stays alone
one_after : (f : Pass → Pass) (k : ℕ) (p : Pass) (me me' : SeatState) → me.0.passes ≡ p ∷ [] → k ≡ 0 → me'.0.passes ≡ with_pass_at f k me.0.passes → me'.0.passes ≡ pass_in me' ∷ []
one_after f k p me me' one first told = let is : me'.0.passes ≡ f p ∷ [] = told ∙ (λ i. with_pass_at f (first i) (one i)) in is ∙ ap (λ (q : Pass). q ∷ []) (sym (ap first_pass is))

pub alone_leaves : (n : ℕ) (me me' : SeatState) → LeavesOthers n me me' → IsAlone n me → IsAlone n me'
alone_leaves n me me' leaves alone = record {
  one = one_after leaves.change (place_of_number n me.0.passes) (pass_in me) me me' alone.one alone.here (ap (λ (v : View). v.passes) leaves.view);
  here = leaves.here ∙ alone.here;
  none = leaves.others ∙ alone.none;
}

pub alone_stays : (n : ℕ) (me me' : SeatState) → StaysAlone n me me' → IsAlone n me → IsAlone n me'
alone_stays n me me' stays alone = record {
  one = ap (λ (v : View). v.passes) stays.view ∙ (alone.one ∙ ap (λ (v : View). first_pass v.passes ∷ []) (sym stays.view));
  here = ap (λ (v : View). place_of_number n v.passes) stays.view ∙ alone.here;
  none = stays.others ∙ alone.none;
}

-- the slot that was taken last, which is of the call of this pass, and something else in it
pub lent_alone : (n : ℕ) (me : SeatState) (call : Call) (k k' : ℕ) (y : Slot) (more : List (ℕ × Slot)) → IsAt (seat_of n me) call ((k, y) ∷ more) → k' ≡ k → me.1 ≡ (k', y) ∷ rest me.1
lent_alone n me call k k' y more at same = lent_front (count_of n me) me.1 more k y at.out ∙ (λ i. (sym same i, y) ∷ rest me.1)

pub swapped_alone : (n : ℕ) (me : SeatState) (call : Call) (k k' : ℕ) (y w : Slot) (more : List (ℕ × Slot)) → IsAt (seat_of n me) call ((k, y) ∷ more) → seat_of n (me.0, (k', w) ∷ rest me.1) ≡ ((seat_of n me).0, (k', w) ∷ rest (seat_of n me).1)
swapped_alone n me call k k' y w more at = λ i. ((seat_of n me).0, swapped_front (count_of n me) me.1 more k k' y w at.out i)

pub rewritten_alone : (n : ℕ) (me : SeatState) (call : Call) (k k' : ℕ) (y w : Slot) (more : List (ℕ × Slot)) → IsAt (seat_of n me) call ((k, y) ∷ more) → k' ≡ k → IsAt (seat_of n (me.0, (k', w) ∷ rest me.1)) call ((k, w) ∷ more)
rewritten_alone n me call k k' y w more at same = subst (λ (s : SeatState). IsAt s call ((k, w) ∷ more)) (sym (swapped_alone n me call k k' y w more at)) (rewritten (seat_of n me) call k k' y w more at same)

-- what is in the slot that was taken last
pub inside_alone : (n : ℕ) (me : SeatState) (call : Call) (k k' : ℕ) (y w : Slot) (more : List (ℕ × Slot)) → IsAt (seat_of n me) call ((k, y) ∷ more) → me.1 ≡ (k', w) ∷ rest me.1 → w ≡ y
unfolding first_or
inside_alone n me call k k' y w more at is = ap (λ (l : List (ℕ × Slot)). (first_or (k', w) l).1) (sym is ∙ lent_front (count_of n me) me.1 more k y at.out)

-- a slot that is lent and not written leaves the seat as it was
pub read_only : (me : SeatState) (k : ℕ) (w : Slot) → me.1 ≡ (k, w) ∷ rest me.1 → me ≡ (me.0, (k, w) ∷ rest me.1)
read_only me k w is = λ i. (me.0, is i)

pub swapped_stays : (n : ℕ) (me : SeatState) (call : Call) (k k' : ℕ) (y w : Slot) (more : List (ℕ × Slot)) → IsAt (seat_of n me) call ((k, y) ∷ more) → StaysAlone n me (me.0, (k', w) ∷ rest me.1)
swapped_stays n me call k k' y w more at = record { view = refl; others = swapped_behind (count_of n me) me.1 more k k' y w at.out }

-- a pass after a change of it, alone
only_changed : (f : Pass → Pass) (k : ℕ) (ps : List Pass) → only_pass k (with_pass_at f k ps) ≡ with_pass_at f 0 (only_pass k ps)
only_changed f k [] = refl
only_changed f zero (p ∷ ps) = refl
only_changed f (suc k) (p ∷ ps) = only_changed f k ps

becomes_focus : (f : Pass → Pass) (k c c' : ℕ) (slots slots' : List (ℕ × Slot)) (me me' : SeatState) → Becomes f k slots me me' → front c' slots ≡ slots' → Becomes f 0 slots' (focus k c me) (focus k c' me')
becomes_focus f k c c' slots slots' me me' told same =
    ap (focus k c') told ∙ (λ i. (record me.0 { copy = me'.0.copy; passes = only_changed f k me.0.passes i }, same i))

-- the change of a pass is that of the pass alone, by its places; nothing else has changed
pub step_alone : (n : ℕ) (me me' : SeatState) (f : Pass → Pass) (slots slots' : List (ℕ × Slot)) (j j' c : ℕ) (p : Pass) → get_elem? me.0.passes (place_of_number n me.0.passes) ≡ some p → j ≡ place_of_number n me.0.passes → j' ≡ 0 → (f p).number ≡ p.number
    → slot_count (f p).call ≡ c → front c slots ≡ slots' → behind c slots ≡ others_of n me → Becomes f j slots me me' → Becomes f j' slots' (seat_of n me) (seat_of n me') × LeavesOthers n me me'
step_alone n me me' f slots slots' j j' c p there here start keeps counted fronts behinds told =
    let ps = me.0.passes in let k = place_of_number n ps in let is : Becomes f k slots me me' = subst (λ (i : ℕ). Becomes f i slots me me') here told in
    let passes : me'.0.passes ≡ with_pass_at f k ps = ap (λ (s : SeatState). s.0.passes) is in
    let place : place_of_number n me'.0.passes ≡ k = ap (place_of_number n) passes ∙ place_kept f k n ps p refl there keeps in
    let next : get_elem? me'.0.passes k ≡ some (f p) = ap (λ (l : List Pass). get_elem? l k) passes ∙ changed_there f k ps p there in
    let count : count_of n me' ≡ c = (λ i. slot_count (call_at (place i) me'.0.passes)) ∙ (ap slot_count (call_there k me'.0.passes (f p) next) ∙ counted) in
    let first : Becomes f 0 slots' (seat_of n me) (seat_of n me') = (λ i. focus (place i) (count i) me') ∙ becomes_focus f k (count_of n me) c slots slots' me me' is fronts in (
      subst (λ (i : ℕ). Becomes f i slots' (seat_of n me) (seat_of n me')) (sym start) first,
      record { change = f; view = ap (λ (s : SeatState). s.0) is; here = place; others = (λ i. behind (count i) (ap (λ (s : SeatState). s.1) is i)) ∙ behinds },
    )

-- what a pass is, by its place or alone
number_alone : (k : ℕ) (ps : List Pass) → number_at k ps ≡ number_at 0 (only_pass k ps)
number_alone k [] = refl
number_alone zero (p ∷ ps) = refl
number_alone (suc k) (p ∷ ps) = number_alone k ps

pub call_alone : (k : ℕ) (ps : List Pass) → call_at k ps ≡ call_at 0 (only_pass k ps)
call_alone k [] = refl
call_alone zero (p ∷ ps) = refl
call_alone (suc k) (p ∷ ps) = call_alone k ps

own_alone : (k : ℕ) (ps : List Pass) → own_at k ps ≡ own_at 0 (only_pass k ps)
own_alone k [] = refl
own_alone zero (p ∷ ps) = refl
own_alone (suc k) (p ∷ ps) = own_alone k ps

hand_alone : (k : ℕ) (ps : List Pass) → in_hand_at k ps ≡ in_hand_at 0 (only_pass k ps)
hand_alone k [] = refl
hand_alone zero (p ∷ ps) = refl
hand_alone (suc k) (p ∷ ps) = hand_alone k ps

pub place_alone : (n k : ℕ) (ps : List Pass) (p : Pass) → get_elem? ps k ≡ some p → p.number ≡ n → place_of_number n (only_pass k ps) ≡ 0
place_alone n k [] p at is = refl
place_alone n zero (q ∷ ps) p at is = ap (λ (b : Bool). cond b 0 1) (eq-eqb q.number n (ap (λ (x : Pass). x.number) (some-injective q p at) ∙ is))
place_alone n (suc k) (q ∷ ps) p at is = place_alone n k ps p at is

-- no call has a fifth side state
both_false : (b : Bool) → (b && false) ≡ false
both_false true = refl
both_false false = refl

no_sides_of : (a b c d : Bool) → ((a && false) || ((b && false) || ((c && false) || (d && false)))) ≡ false
no_sides_of a b c d = λ i. both_false a i || (both_false b i || (both_false c i || both_false d i))

pub no_side : (call : Call) → has_side 4 call ≡ false
no_side Idle = refl
no_side (Rests e) = refl
no_side (Sends side.Host t x b) = refl
no_side (Sends side.Remote t x b) = refl
no_side (EndsSend side.Host t x b) = refl
no_side (EndsSend side.Remote t x b) = refl
no_side (EndsBoth side.Host t x b y) = refl
no_side (EndsBoth side.Remote t x b y) = refl
no_side (Receives side.Host t x b message) = refl
no_side (Receives side.Remote t x b message) = refl
no_side (EndsReceive side.Host t x b message) = refl
no_side (EndsReceive side.Remote t x b message) = refl
no_side (Reclaims side.Host x) = refl
no_side (Reclaims side.Remote x) = refl
no_side (EndsHeld side.Host x) = refl
no_side (EndsHeld side.Remote x) = refl
no_side (Reopens q inc a b) = no_sides_of (is_there a.sender) (is_there a.receiver) (is_there b.sender) (is_there b.receiver)
no_side (Gathers a b) = no_sides_of (is_there a.sender) (is_there a.receiver) (is_there b.sender) (is_there b.receiver)

-- the first side state in front is the first of all
pub first_front : (c : ℕ) (slots : List (ℕ × Slot)) → first_side (front c slots) ≢ 4 → first_side slots ≡ first_side (front c slots)
first_front zero slots sided = absurd (sided refl)
first_front (suc c) [] sided = refl
first_front (suc c) ((slot, y) ∷ xs) sided = go (first_front c xs) (is_side slot) sided
  where
    go : (first_side (front c xs) ≢ 4 → first_side xs ≡ first_side (front c xs)) → (b : Bool) → cond b slot (first_side (front c xs)) ≢ 4 → cond b slot (first_side xs) ≡ cond b slot (first_side (front c xs))
    go more true h = refl
    go more false h = more h

pub has_first : (slot k : ℕ) (ps : List Pass) (p : Pass) → get_elem? ps k ≡ some p → place_with slot (only_pass k ps) ≡ 0 → has_side slot p.call ≡ true
has_first slot k [] p at is = absurd (some-ne-none p (sym at))
has_first slot zero (q ∷ ps) p at is = ap (λ (x : Pass). has_side slot x.call) (sym (some-injective q p at)) ∙ go (has_side slot q.call) refl is
  where
    go : (b : Bool) → has_side slot q.call ≡ b → cond b zero (suc zero) ≡ zero → has_side slot q.call ≡ true
    go true has h = has
    go false has h = absurd (let e : suc zero ≡ zero = h in omega (arith, e))
has_first slot (suc k) (q ∷ ps) p at is = has_first slot k ps p at is

pub found_with : (slot : ℕ) (ps : List Pass) (k : ℕ) (p : Pass) → get_elem? ps k ≡ some p → has_side slot p.call ≡ true → (q : Pass) × (get_elem? ps (place_with slot ps) ≡ some q) × (has_side slot q.call ≡ true)
found_with slot [] k p at has = absurd (some-ne-none p (sym at))
found_with slot (x ∷ xs) k p at has = go (λ j here. found_with slot xs j p here has) (has_side slot x.call) refl k at
  where
    go : ((j : ℕ) → get_elem? xs j ≡ some p → (q : Pass) × (get_elem? xs (place_with slot xs) ≡ some q) × (has_side slot q.call ≡ true)) → (b : Bool) → has_side slot x.call ≡ b → (k : ℕ) → get_elem? (x ∷ xs) k ≡ some p
        → (q : Pass) × (get_elem? (x ∷ xs) (cond b 0 (suc (place_with slot xs))) ≡ some q) × (has_side slot q.call ≡ true)
    go more true is k at = (x, refl, is)
    go more false is zero at = let same : x ≡ p = some-injective x p at in absurd (false-true (sym is ∙ (ap (λ (q : Pass). has_side slot q.call) same ∙ has)))
    go more false is (suc k) at = more k at

pub front_place : (me : SeatState) (k : ℕ) (p : Pass) → IsOrderly me.0 → get_elem? me.0.passes k ≡ some p → has_side (first_side me.1) p.call ≡ true → place_of me ≡ k
front_place me k p order at has = let f = found_with (first_side me.1) me.0.passes k p at has in order.sides (first_side me.1) (place_of me) k f.0 p f.1 at f.2 has

-- the pass of a number is the one that steps, of all and alone
pub record Focused (n : ℕ) (me : SeatState) : Type 0 where
  pub pass : Pass
  pub there : get_elem? me.0.passes (place_of_number n me.0.passes) ≡ some pass
  pub here : place_of me ≡ place_of_number n me.0.passes
  pub first : place_of (seat_of n me) ≡ 0

abbrev pub focused : (n : ℕ) (me : SeatState) → IsOrderly me.0 → (o : Mover (seat_of n me).0) → o.place ≡ place_of (seat_of n me) → Focused n me
focused n me order o steps =
    let k = place_of_number n me.0.passes in let f = seat_of n me in let at = only_there k me.0.passes o.place o.pass o.here in
    let first : place_of f ≡ 0 = sym steps ∙ at.0 in let has = has_first (first_side f.1) k me.0.passes o.pass at.1 first in
    let sided : first_side f.1 ≢ 4 = λ is. false-true (sym (no_side o.pass.call) ∙ subst (λ (s : ℕ). has_side s o.pass.call ≡ true) is has) in
    record {
      pass = o.pass;
      there = at.1;
      here = front_place me k o.pass order at.1 (subst (λ (s : ℕ). has_side s o.pass.call ≡ true) (sym (first_front (count_of n me) me.1 sided)) has);
      first = first;
    }

module _ (n : ℕ) (me : SeatState) (f : Focused n me) where
  pub number_is : number_at (place_of me) me.0.passes ≡ n
  number_is = let k = place_of_number n me.0.passes in ap (λ (j : ℕ). number_at j me.0.passes) f.here ∙ (number_there k me.0.passes f.pass f.there ∙ found_number n me.0.passes f.pass f.there)

  pub calls_same : call_at (place_of me) me.0.passes ≡ call_at (place_of (seat_of n me)) (seat_of n me).0.passes
  calls_same = let k = place_of_number n me.0.passes in ap (λ (j : ℕ). call_at j me.0.passes) f.here ∙ (call_alone k me.0.passes ∙ ap (λ (j : ℕ). call_at j (only_pass k me.0.passes)) (sym f.first))

  pub owns_same : own_at (place_of me) me.0.passes ≡ own_at (place_of (seat_of n me)) (seat_of n me).0.passes
  owns_same = let k = place_of_number n me.0.passes in ap (λ (j : ℕ). own_at j me.0.passes) f.here ∙ (own_alone k me.0.passes ∙ ap (λ (j : ℕ). own_at j (only_pass k me.0.passes)) (sym f.first))

  pub hands_same : in_hand_at (place_of me) me.0.passes ≡ in_hand_at (place_of (seat_of n me)) (seat_of n me).0.passes
  hands_same = let k = place_of_number n me.0.passes in ap (λ (j : ℕ). in_hand_at j me.0.passes) f.here ∙ (hand_alone k me.0.passes ∙ ap (λ (j : ℕ). in_hand_at j (only_pass k me.0.passes)) (sym f.first))

  pub count_is : (call : Call) → f.pass.call ≡ call → count_of n me ≡ slot_count call
  count_is call is = ap slot_count (call_there (place_of_number n me.0.passes) me.0.passes f.pass f.there ∙ is)

-- a manager's own pass that is alone is one of the seat
manages_more : (k : ℕ) (v : View) → Manages (record v { passes = only_pass k v.passes }) → Manages v
manages_more k v m = (k, m.1, (only_there k v.passes m.0 m.1 m.2).1, m.3)

-- and stays
kept_at : (f : Pass → Pass) (k : ℕ) (ps : List Pass) → ((p : Pass) → get_elem? ps k ≡ some p → (f p).number ≡ p.number) → (j : ℕ) (b : Pass) → get_elem? ps j ≡ some b → (c : Pass) × (get_elem? (with_pass_at f k ps) j ≡ some c) × (c.number ≡ b.number)
kept_at f k [] keeps j b at = absurd (some-ne-none b (sym at))
kept_at f zero (p ∷ ps) keeps zero b at = (f p, refl, keeps p refl ∙ ap (λ (x : Pass). x.number) (some-injective p b at))
kept_at f zero (p ∷ ps) keeps (suc j) b at = (b, at, refl)
kept_at f (suc k) (p ∷ ps) keeps zero b at = (b, at, refl)
kept_at f (suc k) (p ∷ ps) keeps (suc j) b at = kept_at f k ps keeps j b at

pub same_carrier : (n : ℕ) (me me' : SeatState) → LeavesOthers n me me' → Manages me.0 → IsSameCarrier me.0 me'.0
same_carrier n me me' leaves m =
    let ps = me.0.passes in let k = place_of_number n ps in let passes : me'.0.passes ≡ with_pass_at leaves.change k ps = ap (λ (v : View). v.passes) leaves.view in
    let keeps : (p : Pass) → get_elem? ps k ≡ some p → (leaves.change p).number ≡ p.number = λ p at.
    found_number n me'.0.passes (leaves.change p) ((λ i. get_elem? (passes i) (leaves.here i)) ∙ changed_there leaves.change k ps p at) ∙ sym (found_number n ps p at) in
    let kept = kept_at leaves.change k ps keeps m.0 m.1 m.2 in record {
      manages = (m.0, kept.0, ap (λ (l : List Pass). get_elem? l m.0) passes ∙ kept.1, kept.2 ∙ m.3);
      out = ap (λ (v : View). v.out) leaves.view;
      sizes = ap (λ (v : View). v.sizes) leaves.view;
    }

module _ {D : Type 0} (coded : Coded D) (meaning : DeskMeaning D) where
  abbrev pub Links : (me : SeatState) → Type 0
  Links me = LaneLink (RingState (PlacedDesk coded me.0.sizes.desks))

  -- a later step of the pass is that of the pass alone
  pub goes_alone : (n : ℕ) (me me' : SeatState) (Reads : Links me → Links me → Type 0) → Focused n me → LeavesOthers n me me' → GoesOn coded meaning me Reads me' → GoesOn coded meaning (seat_of n me) Reads (seat_of n me')
  goes_alone n me me' Reads f leaves s =
      let k = place_of_number n me.0.passes in let desk = placed_meaning coded me.0.sizes.desks meaning in
      let number : number_at (place_of me) me.0.passes ≡ number_at (place_of (seat_of n me)) (only_pass k me.0.passes) = ap (λ (j : ℕ). number_at j me.0.passes) f.here ∙ (number_alone k me.0.passes ∙ ap (λ (j : ℕ). number_at j (only_pass k me.0.passes)) (sym f.first)) in
      let next : call_at (place_of me) me'.0.passes ≡ call_at (place_of (seat_of n me)) (seat_of n me').0.passes = ap (λ (j : ℕ). call_at j me'.0.passes) f.here ∙ (call_alone k me'.0.passes ∙ (λ i. call_at (sym f.first i) (only_pass (sym leaves.here i) me'.0.passes))) in
      record {
        state = s.state;
        sound = s.sound;
        read = subst (λ (j : ℕ). Reads s.state (after_deed desk s.state (Steps j 0 None))) number s.read;
        may = subst (λ (j : ℕ). MayDo desk s.state (Steps j 0 None)) number s.may;
        before = subst (λ (t : ℕ × Call). IsCallOf s.state 0 t.0 t.1) (λ i. (number i, calls_same n me f i)) s.before;
        after = subst (λ (t : ℕ × Call). IsCallOf (after_deed desk s.state (Steps t.0 0 None)) 0 t.0 t.1) (λ i. (number i, next i)) s.after;
        copy = λ c manages none_out was. let x = s.copy c (manages_more k me.0 manages) none_out was in
            (x.0, x.1 ∙ ap (λ (j : ℕ). Some (copied (placed_coded coded me.0.sizes.desks) (after_deed desk s.state (Steps j 0 None)))) number);
      }

  -- the state of a step is the one that a manager knew
  pub known_is : (me : SeatState) (state : Links me) (m : LaneLink (RingState D)) → KnowsState coded me.0 m → ((c : LinkCopy) → me.0.copy ≡ Some c → c ≡ copied (placed_coded coded me.0.sizes.desks) state) → state ≡ placed_link coded me.0.sizes.desks m
  known_is me state m knows same = sym (copied_one (placed_coded coded me.0.sizes.desks) (placed_link coded me.0.sizes.desks m) state (same _ knows.copy))

  -- so the call before the step is one in it, and the call behind the step one in the state after the deed
  shows_calls : (n : ℕ) (d : Deed) (me me' : SeatState) (state : Links me) (m : LaneLink (RingState D)) → state ≡ placed_link coded me.0.sizes.desks m → me'.0.sizes ≡ me.0.sizes → IsCallOf state 0 n (call_at (place_of_number n me.0.passes) me.0.passes)
      → IsCallOf (after_deed (placed_meaning coded me.0.sizes.desks meaning) state d) 0 n (call_at (place_of_number n me'.0.passes) me'.0.passes) → ShowsCall coded n me m × ShowsCall coded n me' (after_deed meaning m d)
  shows_calls n d me me' state m is sizes before after =
      let z = me.0.sizes in let call = call_at (place_of_number n me'.0.passes) me'.0.passes in (
        subst (λ (l : Links me). IsCallOf l 0 n (call_at (place_of_number n me.0.passes) me.0.passes)) is before,
        subst (λ (y : LinkSizes). IsCallOf (placed_link coded y.desks (after_deed meaning m d)) 0 n call) (sym sizes)
            (subst (λ (l : Links me). IsCallOf l 0 n call) (ap (λ (l : Links me). after_deed (placed_meaning coded z.desks meaning) l d) is ∙ deed_placed coded z.desks meaning m d) after),
      )

  -- and the manager, which knew the state, knows the next one
  pub goes_on : (n : ℕ) (me me' : SeatState) (Reads : Links me → Links me → Type 0) → Focused n me → LeavesOthers n me me' → GoesOn coded meaning me Reads me' → StepsAlone coded meaning n (Steps n 0 None) me me'
  goes_on n me me' Reads f leaves s = record {
    leaves = leaves;
    knows = λ m knows. subst (λ (j : ℕ). KnowsState coded me'.0 (after_deed meaning m (Steps j 0 None))) (number_is n me f)
        (state_after coded meaning (Steps (number_at (place_of me) me.0.passes) 0 None) me.0 me'.0 s.state m knows (same_carrier n me me' leaves knows.manages) (λ c was. s.copy c knows.manages knows.carries was));
    sound = λ m knows. subst (λ (l : Links me). IsSoundState (placed_meaning coded me.0.sizes.desks meaning) l) (known_is me s.state m knows (λ c was. (s.copy c knows.manages knows.carries was).0)) s.sound;
    calls = λ m knows. let desk = placed_meaning coded me.0.sizes.desks meaning in let here = f.here ∙ sym leaves.here in
        shows_calls n (Steps n 0 None) me me' s.state m (known_is me s.state m knows (λ c was. (s.copy c knows.manages knows.carries was).0)) (ap (λ (v : View). v.sizes) leaves.view)
        (subst (λ (t : ℕ × Call). IsCallOf s.state 0 t.0 t.1) (λ i. (number_is n me f i, call_at (f.here i) me.0.passes)) s.before)
        (subst (λ (t : ℕ × Call). IsCallOf (after_deed desk s.state (Steps t.0 0 None)) 0 t.0 t.1) (λ i. (number_is n me f i, call_at (here i) me'.0.passes)) s.after);
  }

  -- a first step of the pass of this number
  pub begins_alone : (n follows : ℕ) (w : Wish) (me me' : SeatState) (Reads : Links me → Links me → Type 0) (p : Pass) → get_elem? me.0.passes (place_of_number n me.0.passes) ≡ some p → LeavesOthers n me me' → Begins coded meaning me Reads n follows w me'
      → Begins coded meaning (seat_of n me) Reads n follows w (seat_of n me')
  begins_alone n follows w me me' Reads p there leaves s =
      let k = place_of_number n me.0.passes in let desk = placed_meaning coded me.0.sizes.desks meaning in let alone = place_alone n k me.0.passes p there (found_number n me.0.passes p there) in
      record {
        state = s.state;
        sound = s.sound;
        read = s.read;
        may = s.may;
        before = subst (IsCallOf s.state 0 n) (call_alone k me.0.passes ∙ ap (λ (j : ℕ). call_at j (only_pass k me.0.passes)) (sym alone)) s.before;
        after = subst (IsCallOf (after_deed desk s.state (Steps n follows (Some w))) 0 n) (call_alone k me'.0.passes ∙ (λ i. call_at (sym alone i) (only_pass (sym leaves.here i) me'.0.passes))) s.after;
        copy = λ c manages. s.copy c (manages_more k me.0 manages);
      }

  pub begins_on : (n follows : ℕ) (w : Wish) (me me' : SeatState) (Reads : Links me → Links me → Type 0) → LeavesOthers n me me' → Begins coded meaning me Reads n follows w me' → StepsAlone coded meaning n (Steps n follows (Some w)) me me'
  begins_on n follows w me me' Reads leaves s = record {
    leaves = leaves;
    knows = λ m knows. state_after coded meaning (Steps n follows (Some w)) me.0 me'.0 s.state m knows (same_carrier n me me' leaves knows.manages) (λ c was. s.copy c knows.manages knows.carries was);
    sound = λ m knows. subst (λ (l : Links me). IsSoundState (placed_meaning coded me.0.sizes.desks meaning) l) (known_is me s.state m knows (λ c was. (s.copy c knows.manages knows.carries was).0)) s.sound;
    calls = λ m knows. shows_calls n (Steps n follows (Some w)) me me' s.state m (known_is me s.state m knows (λ c was. (s.copy c knows.manages knows.carries was).0)) (ap (λ (v : View). v.sizes) leaves.view) s.before
        (subst (λ (k : ℕ). IsCallOf (after_deed (placed_meaning coded me.0.sizes.desks meaning) s.state (Steps n follows (Some w))) 0 n (call_at k me'.0.passes)) (sym leaves.here) s.after);
  }

  -- what is in the slots of the call changes before a step, or behind it
  pub stays_steps : (n : ℕ) (d : Deed) (a b c : SeatState) → StaysAlone n a b → StepsAlone coded meaning n d b c → StepsAlone coded meaning n d a c
  stays_steps n d a b c stays steps = record {
    leaves = record {
      change = steps.leaves.change;
      view = steps.leaves.view ∙ (λ i. record (stays.view i) { copy = c.0.copy; passes = with_pass_at steps.leaves.change (place_of_number n (stays.view i).passes) (stays.view i).passes });
      here = steps.leaves.here ∙ ap (λ (v : View). place_of_number n v.passes) stays.view;
      others = steps.leaves.others ∙ stays.others;
    };
    knows = λ m knows. steps.knows m (subst (λ (v : View). KnowsState coded v m) (sym stays.view) knows);
    sound = λ m knows. subst (λ (v : View). IsSoundState (placed_meaning coded v.sizes.desks meaning) (placed_link coded v.sizes.desks m)) stays.view (steps.sound m (subst (λ (v : View). KnowsState coded v m) (sym stays.view) knows));
    calls = λ m knows. let both = steps.calls m (subst (λ (v : View). KnowsState coded v m) (sym stays.view) knows) in (subst (λ (v : View). ShowsCall coded n (v, a.1) m) stays.view both.0, both.1);
  }

  pub steps_stay : (n : ℕ) (d : Deed) (a b c : SeatState) → StepsAlone coded meaning n d a b → StaysAlone n b c → StepsAlone coded meaning n d a c
  steps_stay n d a b c steps stays = record {
    leaves = record {
      change = steps.leaves.change;
      view = stays.view ∙ (steps.leaves.view ∙ (λ i. record a.0 { copy = (ap (λ (v : View). v.copy) (sym stays.view)) i; passes = with_pass_at steps.leaves.change (place_of_number n a.0.passes) a.0.passes }));
      here = ap (λ (v : View). place_of_number n v.passes) stays.view ∙ steps.leaves.here;
      others = stays.others ∙ steps.leaves.others;
    };
    knows = λ m knows. subst (λ (v : View). KnowsState coded v (after_deed meaning m d)) (sym stays.view) (steps.knows m knows);
    sound = λ m knows. steps.sound m knows;
    calls = λ m knows. let both = steps.calls m knows in (both.0, subst (λ (v : View). ShowsCall coded n (v, c.1) (after_deed meaning m d)) (sym stays.view) both.1);
  }

-- a caller that is in no call, alone
pub caller_alone : (table : TableId) (sizes : LinkSizes) (who : CallerId) (seat : TableId) (me : SeatState) → IsCaller table sizes who seat me → IsAlone who.number me
caller_alone table sizes who seat me q = alone_at who.number me (Rests who.end) [] q.rests q.number refl

pub caller_seat : (table : TableId) (sizes : LinkSizes) (who : CallerId) (seat : TableId) (me : SeatState) → IsCaller table sizes who seat me → IsOrderlySeat table sizes seat me
caller_seat table sizes who seat me q = alone_seat who.number table sizes seat me (low_own who.number q.low) q.seat (caller_alone table sizes who seat me q)

pub caller_there : (table : TableId) (sizes : LinkSizes) (who : CallerId) (seat : TableId) (me : SeatState) → IsCaller table sizes who seat me → IsCaller table sizes who seat (seat_of who.number me)
caller_there table sizes who seat me q = subst (IsCaller table sizes who seat) (sym (alone_same who.number me (caller_alone table sizes who seat me q))) q

-- and behind a call
pub caller_again : (table : TableId) (sizes : LinkSizes) (who : CallerId) (seat : TableId) (me : SeatState) → IsOrderlySeat table sizes seat me → IsAlone who.number me → who.number < 64 → IsAt (seat_of who.number me) (Rests who.end) [] → IsCaller table sizes who seat me
caller_again table sizes who seat me of alone low rests =
    let k = place_of_number who.number me.0.passes in let same = alone_same who.number me alone in
    let there = (only_there k me.0.passes 0 (pass_in (seat_of who.number me)) (ap (λ (ps : List Pass). get_elem? ps 0) rests.one)).1 in record {
      seat = record { at_table = of.at_table; told = of.told };
      rests = subst (λ (s : SeatState). IsAt s (Rests who.end) []) same rests;
      number = ap (λ (s : SeatState). (pass_in s).number) (sym same) ∙ found_number who.number me.0.passes (pass_in (seat_of who.number me)) there;
      low = low;
    }

-- what holds of the passes alone, between two states of a seat that has one pass, holds of the seat
pub both_alone : (n : ℕ) (me me' : SeatState) (P : SeatState → SeatState → Type 0) → IsAlone n me → IsAlone n me' → P (seat_of n me) (seat_of n me') → P me me'
both_alone n me me' P alone alone' is = subst (λ (t : SeatState × SeatState). P t.0 t.1) (λ i. (alone_same n me alone i, alone_same n me' alone' i)) is

-- the passes of a view are in order where they are those of another
pub order_same : (v w : View) → w.passes ≡ v.passes → ArePassesIn w → IsOrderly v → IsOrderly w
order_same v w same known order = order_within v w (λ k p at. ap (λ (ps : List Pass). get_elem? ps k) (sym same) ∙ at) known order
