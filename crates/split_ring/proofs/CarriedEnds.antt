-- The end of the call of a caller that a manager carries: with the slots of the call in front, and with them turned back.
use Rattle.std.proofs.Common.{◌≡◌, ◌<◌, ◌≤◌, ◌+◌, ◌-◌, ℕ, zero, suc, length, List, [], ◌∷◌, ◌++◌, refl, sym, ap, ◌∙◌, subst, arith}
use Rattle.std.specs.Prelude.{slice_index, slice_set}
use Rattle.std.proofs.lemmas.List.{nil_from_length}
use mathlib.Core.Option.{some, some-injective}
use lib.ListN.{get_elem?}
use Rattle.link_words.specs.declared.rule.Call.TheVariants.{Rests}
use Rattle.link_words.specs.declared.rule.Pass.{Pass}
use Rattle.link_words.specs.declared.rule.View.{View}
use Rattle.link_words.specs.Calls.{SeatState, with_pass_at}
use Rattle.link_words.specs.Orderly.{IsOrderly}
use Rattle.link_words.specs.Passes.{place_of_number}
use Rattle.split_ring.specs.declared.callers.CallerId.{CallerId}
use Rattle.split_ring.specs.declared.callers.Manager.{Manager}
use Rattle.split_ring.specs.CallPhases.{Phase}
use Rattle.split_ring.specs.CallPhases as phase
use Rattle.split_ring.specs.declared.links.SharedLink.{SharedLink}
use Rattle.split_ring.specs.Carried.{Carries, out_before, turned_by, turned_to}
use Rattle.split_ring.specs.Callers.{IsManagerOf}
use Rattle.split_ring.specs.Focus.{LeavesOthers, behind, count_of, front, seat_of}
use Rattle.split_ring.specs.Phases.{side_of, slots_in}
use Rattle.split_ring.specs.Reclaims.{IsNow, StandsIn, ended_of}
use Rattle.split_ring.specs.Seats.{pass_in}
use Rattle.split_ring.proofs.CarriedLinks.{HasGone, carried_step, out_after, seat_after, seat_turned, turned_again, turned_front}
use Rattle.split_ring.proofs.CarriedSteps.{blocks_next}
use Rattle.split_ring.proofs.Carrying.{phase_at, side_low}
use Rattle.split_ring.proofs.EndSteps.{call_is, one_is}
use Rattle.split_ring.proofs.Focusing.{changed_there, only_there}
use Rattle.split_ring.proofs.Turning.{Slots, before_grows, before_set, front_behind, length_behind, length_both, length_front, length_turned, turned_back}

-- a pass that a change leaves as it was
changed_same : (f : Pass → Pass) (k : ℕ) (ps : List Pass) (p : Pass) → get_elem? ps k ≡ some p → f p ≡ p → with_pass_at f k ps ≡ ps
changed_same f k [] p at same = refl
changed_same f zero (q ∷ ps) p at same = let is = some-injective q p at in ap (λ (x : Pass). x ∷ ps) (ap f is ∙ (same ∙ sym is))
changed_same f (suc k) (q ∷ ps) p at same = ap (λ (l : List Pass). q ∷ l) (changed_same f k ps p at same)

-- where a pass and its slots are as they were, and the others are left, the copy alone has changed
pub left_same : (n : ℕ) (a b : SeatState) → (seat_of n a).0.passes ≡ pass_in (seat_of n a) ∷ [] → LeavesOthers n a b → IsNow (pass_in (seat_of n a)) (seat_of n a).1 (seat_of n a) (seat_of n b) → b ≡ (record a.0 { copy = b.0.copy }, a.1)
left_same n a b one leaves now =
    let ps = a.0.passes in let k = place_of_number n ps in let p = pass_in (seat_of n a) in
    let was : get_elem? ps k ≡ some p = (only_there k ps 0 p (ap (λ (l : List Pass). get_elem? l 0) one)).1 in
    let is : get_elem? b.0.passes (place_of_number n b.0.passes) ≡ some p = (only_there (place_of_number n b.0.passes) b.0.passes 0 p (ap (λ (l : List Pass). get_elem? l 0) now.one)).1 in
    let passes : b.0.passes ≡ with_pass_at leaves.change k ps = ap (λ (v : View). v.passes) leaves.view in
    let same : leaves.change p ≡ p = some-injective (leaves.change p) p (sym (changed_there leaves.change k ps p was) ∙ ((λ i. get_elem? (sym passes i) (sym leaves.here i)) ∙ is)) in
    let view : b.0 ≡ record a.0 { copy = b.0.copy } = leaves.view ∙ ap (λ (l : List Pass). record a.0 { copy = b.0.copy; passes = l }) (changed_same leaves.change k ps p was same) in
    let slots : b.1 ≡ a.1 = sym (front_behind (count_of n b) b.1) ∙ ((λ i. now.out i ++ leaves.others i) ∙ front_behind (count_of n a) a.1) in
    λ i. (view i, slots i)

-- slots that were turned, turned home
pub turned_home : (b t : ℕ) (xs : Slots) → b ≤ length xs → t + b ≡ length xs → turned_by t (behind b xs ++ front b xs) ≡ xs
turned_home b t xs few count =
    let none : b + 0 ≡ b = omega arith in let one = length_both (behind b xs) (front b xs) in let two = length_behind b xs few in let three = length_front b xs few in
    turned_back b 0 t [] xs (behind b xs ++ front b xs) (omega (arith, few)) refl (ap (λ (k : ℕ). behind k xs ++ front b xs) (sym none)) (omega (arith, count, one, two, three)) (omega arith)
    ∙ (ap (λ (k : ℕ). front b xs ++ behind k xs) none ∙ front_behind b xs)

-- the slots of the call of this caller have been turned to the front, by so many; its call is in this phase, with so many slots; and so many are out in all
pub record HasTurned {D : Type 0} (link : SharedLink D) (who : CallerId) (p : Phase) (before : Manager) (side had base all : ℕ) (a : SeatState) : Type 0 where
  pub carrier : IsManagerOf link before
  pub carries : Carries link before who p
  pub side_is : side ≡ side_of who.end p
  pub had_is : had ≡ slots_in p
  pub base_is : base ≡ out_before side before.out
  pub all_is : all ≡ out_before 4 before.out
  pub turned : a ≡ (before.seat.me.0, turned_by base before.seat.me.1)

module _ {D : Type 0} (link : SharedLink D) (who : CallerId) (p : Phase) (before : Manager) (side had base all : ℕ) (a : SeatState) (h : HasTurned link who p before side had base all a) where
  base_at : base ≡ out_before (side_of who.end p) before.out
  base_at = h.base_is ∙ ap (λ (k : ℕ). out_before k before.out) h.side_is

  pub in_front : a ≡ seat_turned who p before
  in_front = turned_front link before who p base a h.carrier base_at h.turned

  within : side_of who.end p < length before.out
  within = let low = side_low who.end p in let four = h.carrier.blocks.four in omega (arith, low, four)

  pub all_there : all ≡ length a.1
  all_there = let blocks = h.carrier.blocks in h.all_is ∙ (blocks.all ∙ (sym (length_turned (side_of who.end p) before.out before.seat.me.1 within (ap (λ (k : ℕ). out_before k before.out) blocks.four ∙ blocks.all)) ∙ ap (λ (s : SeatState). length s.1) (sym in_front)))

  pub stands_there : StandsIn link.sizes who p (seat_of who.number a)
  stands_there = subst (λ (s : SeatState). StandsIn link.sizes who p (seat_of who.number s)) (sym in_front) h.carries.stands

  -- no fewer are out with its side state
  had_fits : slots_in p ≤ slice_index before.out (side_of who.end p)
  had_fits = by (slots_in p) refl
    where
      by : (n : ℕ) → slots_in p ≡ n → slots_in p ≤ slice_index before.out (side_of who.end p)
      by zero is = omega (arith, is)
      by (suc n) is = let same = h.carries.counted (λ none. absurd (omega (arith, is, none))) in omega (arith, same)

  pub had_within : had ≤ slice_index before.out side
  had_within = let fits = had_fits in let is = h.had_is in let same = ap (slice_index before.out) h.side_is in omega (arith, fits, is, same)

  -- the call has ended
  module _ (b : SeatState) (leaves : LeavesOthers who.number a b) where
    pub has_ended : IsOrderly b.0 → IsNow (ended_of who (pass_in (seat_of who.number a))) [] (seat_of who.number a) (seat_of who.number b) → HasGone link who p phase.Ended before b
    has_ended order now = let ended = ended_of who (pass_in (seat_of who.number a)) in record {
      carrier = h.carrier;
      carries = h.carries;
      leaves = subst (λ (s : SeatState). LeavesOthers who.number s b) in_front leaves;
      order = order;
      next = record { one = one_is (seat_of who.number b) ended now.one; in_call = call_is (seat_of who.number b) ended (Rests who.end) now.one refl; out = now.out };
      same = λ more. absurd (more refl);
    }

    -- or it is where it was, and the slots are turned back
    pub turned_home_again : (me : SeatState) → IsNow (pass_in (seat_of who.number a)) (seat_of who.number a).1 (seat_of who.number a) (seat_of who.number b) → me ≡ (b.0, turned_by (all - base) b.1) → me ≡ (record before.seat.me.0 { copy = me.0.copy }, before.seat.me.1)
    turned_home_again me now turned =
        let at = side_of who.end p in let slots = before.seat.me.1 in let blocks = h.carrier.blocks in
        let stays = left_same who.number a b (phase_at link.sizes who p (seat_of who.number a) stands_there).at.one leaves now in
        let grows = before_grows at 4 before.out (let low = side_low who.end p in omega (arith, low)) in let base_is = base_at in let all_is = h.all_is in let whole = blocks.all in
        let home : turned_by (all - base) (turned_to at before.out slots) ≡ slots = turned_home (out_before at before.out) (all - base) slots (omega (arith, grows, whole)) (omega (arith, grows, whole, base_is, all_is)) in
        let view : me.0 ≡ record before.seat.me.0 { copy = me.0.copy } = ap (λ (s : SeatState). s.0) turned ∙ (ap (λ (s : SeatState). s.0) stays ∙ (λ i. record (in_front i).0 { copy = (sym turned i).0.copy })) in
        λ i. (view i, (ap (λ (s : SeatState). s.1) turned ∙ ((λ i. turned_by (all - base) ((stays i).1)) ∙ (ap (λ (s : SeatState). turned_by (all - base) s.1) in_front ∙ home))) i)

  -- and its slots are no more out
  module _ (b : SeatState) (g : HasGone link who p phase.Ended before b) where
    pub out_ended : slice_set before.out side (slice_index before.out side - had) ≡ out_after link who p phase.Ended before b g
    out_ended = let same = ap (slice_index before.out) h.side_is in let is = h.had_is in
        let count : slice_index before.out side - had ≡ slice_index before.out (side_of who.end p) + slots_in phase.Ended - slots_in p = omega (arith, same, is) in λ i. slice_set before.out (h.side_is i) (count i)

    left_out : out_before 4 (out_after link who p phase.Ended before b g) + slots_in p ≡ out_before 4 before.out
    left_out = let at = side_of who.end p in let low = side_low who.end p in let n = slice_index before.out at + slots_in phase.Ended - slots_in p in
        let set = before_set 4 at n before.out low within in let fits = had_fits in omega (arith, set, fits)

    pub seat_ended : (me : SeatState) → me ≡ (b.0, turned_by (all - had - base) b.1) → me ≡ seat_after link who p phase.Ended before b g
    seat_ended me turned = let left = left_out in let had_is = h.had_is in let base_is = base_at in let all_is = h.all_is in
        turned_again link who p phase.Ended before b g (all - had - base) me (omega (arith, left, had_is, base_is, all_is)) turned

    pub bare_ended : before.seat.me.1 ≡ [] → (seat_after link who p phase.Ended before b g).1 ≡ []
    bare_ended none = let left = left_out in let was = h.carrier.blocks.all in let next = (blocks_next link.sizes who p phase.Ended before.out before.seat.me b (carried_step link who p phase.Ended before b g)).all in
        let bare : length before.seat.me.1 ≡ 0 = ap length none in
        nil_from_length (seat_after link who p phase.Ended before b g).1 (omega (arith, left, was, next, bare))
