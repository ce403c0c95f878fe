-- A step of a call that a manager carries: which slots are out with it then, and that the other calls stay where they were.
use Rattle.std.proofs.Common.{◌≡◌, ◌≢◌, ◌⊎◌, inl, inr, ⊎_elim, ◌<◌, ◌≤◌, ◌+◌, ◌-◌, ℕ, zero, suc, true, length, List, ◌++◌, refl, sym, ap, ◌∙◌, subst, arith}
use Rattle.std.proofs.lemmas.Bool.{cases_eq}
use Rattle.std.specs.Prelude.{slice_index, slice_set}
use mathlib.Core.Option.{some, some-injective}
use lib.ListN.{get_elem?}
use Rattle.link_words.specs.declared.rule.LinkSizes.{LinkSizes}
use Rattle.link_words.specs.declared.rule.Pass.{Pass}
use Rattle.link_words.specs.declared.rule.View.{View}
use Rattle.link_words.specs.Calls.{SeatState, call_at, has_side, with_pass_at}
use Rattle.link_words.specs.Orderly.{IsOrderly}
use Rattle.link_words.specs.Passes.{only_pass, place_of_number}
use Rattle.split_ring.specs.declared.callers.CallerId.{CallerId}
use Rattle.split_ring.specs.CallPhases.{Phase}
use Rattle.split_ring.specs.Carried.{HasBlocks, carried_at, out_before, turned_by, turned_to}
use Rattle.split_ring.specs.Focus.{LeavesOthers, behind, count_of, front, seat_of, slot_count}
use Rattle.split_ring.specs.Phases.{side_of, slots_in}
use Rattle.split_ring.specs.Reclaims.{StandsIn}
use Rattle.split_ring.specs.Seats.{first_pass, pass_in}
use Rattle.split_ring.proofs.Carrying.{IsPhaseAt, only_others, others_there, phase_at, place_same, side_low, slots_few, stands_same}
use Rattle.split_ring.proofs.Focusing.{call_there, changed_there, found_number, only_there}
use Rattle.split_ring.proofs.Turning.{Slots, all_next, before_grows, before_same, block_fits, front_short, index_here, index_set, length_behind, length_block, length_both, length_front, length_set, length_turned, others_next, own_behind, own_next, turned_back, with_block}

-- the call of this caller, which a manager carries with slots in such blocks, has made a step: it was in one phase, and is in another
pub record IsCarriedStep (z : LinkSizes) (who : CallerId) (p p' : Phase) (counts : List ℕ) (me b : SeatState) : Type 0 where
  pub order : IsOrderly me.0
  pub blocks : HasBlocks counts me
  pub counted : slots_in p ≢ 0 → slice_index counts (side_of who.end p) ≡ slots_in p
  pub stands : StandsIn z who p (carried_at who p counts me)
  pub leaves : LeavesOthers who.number (me.0, turned_to (side_of who.end p) counts me.1) b
  pub next_order : IsOrderly b.0
  pub next : StandsIn z who p' (seat_of who.number b)
  pub same : slots_in p' ≢ 0 → side_of who.end p' ≡ side_of who.end p

-- the pass of a seat that has one
pub pass_there : (n : ℕ) (me : SeatState) (who : CallerId) (p : Phase) → IsPhaseAt who p (seat_of n me) → get_elem? me.0.passes (place_of_number n me.0.passes) ≡ some (pass_in (seat_of n me))
pass_there n me who p is = (only_there (place_of_number n me.0.passes) me.0.passes 0 (pass_in (seat_of n me)) (ap (λ (ps : List Pass). get_elem? ps 0) is.at.one)).1

pub count_there : (n : ℕ) (me : SeatState) (who : CallerId) (p : Phase) → IsPhaseAt who p (seat_of n me) → count_of n me ≡ slots_in p
count_there n me who p is = ap slot_count (call_there (place_of_number n me.0.passes) me.0.passes (pass_in (seat_of n me)) (pass_there n me who p is) ∙ is.at.in_call) ∙ is.counted

not_less : (n : ℕ) → suc n ≡ 0 → ⊥
not_less n is = omega (arith, is)

module _ (z : LinkSizes) (who : CallerId) (p p' : Phase) (counts : List ℕ) (me b : SeatState) (s : IsCarriedStep z who p p' counts me b) where
  abbrev at : ℕ
  at = side_of who.end p

  abbrev a : SeatState
  a = (me.0, turned_to (side_of who.end p) counts me.1)

  abbrev here : ℕ
  here = place_of_number who.number me.0.passes

  abbrev count : ℕ
  count = slice_index counts (side_of who.end p)

  abbrev pub next_count : ℕ
  next_count = slice_index counts (side_of who.end p) + slots_in p' - slots_in p

  within : at < length counts
  within = let low = side_low who.end p in let four = s.blocks.four in omega (arith, low, four)

  all : out_before (length counts) counts ≡ length me.1
  all = ap (λ (k : ℕ). out_before k counts) s.blocks.four ∙ s.blocks.all

  was : IsPhaseAt who p (seat_of who.number a)
  was = phase_at z who p (seat_of who.number a) s.stands

  now : IsPhaseAt who p' (seat_of who.number b)
  now = phase_at z who p' (seat_of who.number b) s.next

  -- the pass before the step and behind it
  here_was : get_elem? me.0.passes here ≡ some (pass_in (seat_of who.number a))
  here_was = pass_there who.number a who p was

  here_now : get_elem? b.0.passes here ≡ some (pass_in (seat_of who.number b))
  here_now = ap (get_elem? b.0.passes) (sym s.leaves.here) ∙ pass_there who.number b who p' now

  pub passes : b.0.passes ≡ with_pass_at s.leaves.change here me.0.passes
  passes = ap (λ (v : View). v.passes) s.leaves.view

  pub keeps : (q : Pass) → get_elem? me.0.passes here ≡ some q → (s.leaves.change q).number ≡ q.number
  keeps q there =
      found_number who.number b.0.passes (s.leaves.change q) ((λ i. get_elem? (passes i) (s.leaves.here i)) ∙ changed_there s.leaves.change here me.0.passes q there) ∙ sym (found_number who.number me.0.passes q there)

  -- each other pass is where it was
  pub stays_there : (k : ℕ) (q : Pass) → (k ≡ here → ⊥) → get_elem? me.0.passes k ≡ some q → get_elem? b.0.passes k ≡ some q
  stays_there k q differs there = ap (λ (ps : List Pass). get_elem? ps k) passes ∙ (others_there s.leaves.change here k me.0.passes differs ∙ there)

  -- a side state of the pass before the step
  own_side : (slot : ℕ) (q : Pass) → get_elem? me.0.passes here ≡ some q → has_side slot q.call ≡ true → (slots_in p ≢ 0) × (slot ≡ at)
  own_side slot q there has =
      was.only slot (ap (has_side slot) (sym was.at.in_call ∙ ap (λ (x : Pass). x.call) (some-injective (pass_in (seat_of who.number a)) q (sym here_was ∙ there))) ∙ has)

  side_was : slots_in p ≢ 0 → has_side at (pass_in (seat_of who.number a)).call ≡ true
  side_was more = ap (has_side at) was.at.in_call ∙ was.sided more

  side_now : slots_in p' ≢ 0 → has_side at (pass_in (seat_of who.number b)).call ≡ true
  side_now more = ap (has_side at) now.at.in_call ∙ (ap (λ (k : ℕ). has_side k now.call) (sym (s.same more)) ∙ now.sided more)

  -- the block of its side state was that of the call, or nothing is out with the call before the step and behind it
  block_was : (count ≡ slots_in p) ⊎ ((slots_in p ≡ 0) × (slots_in p' ≡ 0))
  block_was = by (slots_in p) (slots_in p') count refl refl refl
    where
      none : (n m : ℕ) → slots_in p ≡ 0 → slots_in p' ≡ suc n → count ≡ suc m → ⊥
      none n m had has more =
          let owned = s.blocks.owned at (λ is. not_less m (sym more ∙ is)) in
          ⊎_elim (λ (same : owned.0 ≡ here). (own_side at owned.1 (ap (get_elem? me.0.passes) (sym same) ∙ owned.2) owned.3).0 had)
          (λ (differs : owned.0 ≡ here → ⊥). differs (s.next_order.sides at owned.0 here owned.1 (pass_in (seat_of who.number b)) (stays_there owned.0 owned.1 differs owned.2) here_now owned.3 (side_now (λ is. not_less n (sym has ∙ is)))))
          (cases_eq owned.0 here)

      by : (had has c : ℕ) → slots_in p ≡ had → slots_in p' ≡ has → count ≡ c → (count ≡ slots_in p) ⊎ ((slots_in p ≡ 0) × (slots_in p' ≡ 0))
      by (suc n) has c had is more = inl (s.counted (λ none. not_less n (sym had ∙ none)))
      by zero zero c had is more = inr (had, is)
      by zero (suc n) zero had is more = inl (more ∙ sym had)
      by zero (suc n) (suc m) had is more = absurd (none n m had is more)

  -- where nothing was out and nothing is, the slots are the same
  slots_same : slots_in p ≡ 0 → slots_in p' ≡ 0 → b.1 ≡ a.1
  slots_same had has =
      ap (λ (k : ℕ). behind k b.1) (sym (count_there who.number b who p' now ∙ has)) ∙ (s.leaves.others ∙ ap (λ (k : ℕ). behind k a.1) (count_there who.number a who p was ∙ had))

  -- the new block, which is in front, and the others behind it
  block_next : (length (front next_count b.1) ≡ next_count) × (behind next_count b.1 ≡ behind count a.1)
  block_next = ⊎_elim
      (λ (is : count ≡ slots_in p).
      let next : next_count ≡ slots_in p' = omega (arith, is) in let cb = count_there who.number b who p' now in let ca = count_there who.number a who p was in (
        ap (λ (k : ℕ). length (front k b.1)) (next ∙ sym cb) ∙ (ap length now.at.out ∙ (now.long ∙ sym next)),
        ap (λ (k : ℕ). behind k b.1) (next ∙ sym cb) ∙ (s.leaves.others ∙ ap (λ (k : ℕ). behind k a.1) (ca ∙ sym is)),
      ))
      (λ (bare : (slots_in p ≡ 0) × (slots_in p' ≡ 0)).
      let next : next_count ≡ count = omega (arith, bare.0, bare.1) in let same = slots_same bare.0 bare.1 in let fits = block_fits at counts me.1 within all in let long = length_turned at counts me.1 within all in (
        (λ i. length (front (next i) (same i))) ∙ (length_front count a.1 (omega (arith, fits, long)) ∙ sym next),
        λ i. behind (next i) (same i),
      ))
      block_was

  abbrev new : Slots
  new = front (slice_index counts (side_of who.end p) + slots_in p' - slots_in p) b.1

  abbrev pub next_out : List ℕ
  next_out = slice_set counts (side_of who.end p) (slice_index counts (side_of who.end p) + slots_in p' - slots_in p)

  abbrev pub next_block : Slots
  next_block = with_block (out_before (side_of who.end p) counts) (slice_index counts (side_of who.end p)) (front (slice_index counts (side_of who.end p) + slots_in p' - slots_in p) b.1) me.1

  counts_same : slice_set counts at (length new) ≡ next_out
  counts_same = ap (slice_set counts at) block_next.0

  all_now : out_before 4 next_out ≡ length next_block
  all_now = ap (out_before 4) (sym counts_same) ∙ (ap (λ (k : ℕ). out_before k (slice_set counts at (length new))) (sym s.blocks.four) ∙ all_next at counts new me.1 within all)

  -- the slots, turned back
  pub turned_now : turned_by (out_before 4 next_out - out_before at counts) b.1 ≡ next_block
  turned_now =
      let base = out_before at counts in let few = block_fits at counts me.1 within all in let next = block_next in
      let rest : behind (length new) b.1 ≡ behind (base + count) me.1 ++ front base me.1 = ap (λ (k : ℕ). behind k b.1) next.0 ∙ (next.1 ∙ own_behind at counts me.1 within all) in
      let first : front (length new) b.1 ≡ new = ap (λ (k : ℕ). front k b.1) next.0 in
      let short = front_short next_count b.1 in let whole = length_block base count new me.1 few in let long = length_behind (length new) b.1 short in let both = length_both (behind (base + count) me.1) (front base me.1) in
      let one = length_behind (base + count) me.1 few in let two = length_front base me.1 (omega (arith, few)) in let rested = ap length rest in let sum = all_now in
      let grows = before_grows at 4 next_out (let low = side_low who.end p in omega (arith, low)) in let same = before_same at at next_count counts (omega arith) in
      turned_back base count (out_before 4 next_out - base) new me.1 b.1 few first rest (omega (arith, whole, long, both, one, two, rested, sum, grows, same)) short

  -- the slots of the call are in front where its block is
  own_now : front (slots_in p') (turned_to at next_out next_block) ≡ front (slots_in p') b.1
  own_now = ⊎_elim
      (λ (is : count ≡ slots_in p). let next : next_count ≡ slots_in p' = omega (arith, is) in
      (λ i. front (sym next i) (turned_to at (sym counts_same i) next_block)) ∙ (ap (λ (k : ℕ). front k (turned_to at (slice_set counts at (length new)) next_block)) (sym block_next.0) ∙ (own_next at counts new me.1 within all ∙ ap (λ (k : ℕ). front k b.1) next)))
      (λ (bare : (slots_in p ≡ 0) × (slots_in p' ≡ 0)). ap (λ (k : ℕ). front k (turned_to at next_out next_block)) bare.1 ∙ sym (ap (λ (k : ℕ). front k b.1) bare.1))
      block_was

  -- so the caller's seat is where the step left it
  pub seat_now : carried_at who p next_out (b.0, next_block) ≡ seat_of who.number b
  seat_now = let many = count_there who.number b who p' now in
      λ i. ((seat_of who.number b).0, (ap (λ (k : ℕ). front k (turned_to at next_out next_block)) many ∙ (own_now ∙ sym (ap (λ (k : ℕ). front k b.1) many))) i)

  pub seat_next : carried_at who p' next_out (b.0, next_block) ≡ seat_of who.number b
  seat_next = let many = count_there who.number b who p' now in
      λ i. ((seat_of who.number b).0, (ap (λ (k : ℕ). front k (turned_to (side_of who.end p') next_out next_block)) many ∙ (own (slots_in p') refl ∙ sym (ap (λ (k : ℕ). front k b.1) many))) i)
    where
      own : (n : ℕ) → slots_in p' ≡ n → front (slots_in p') (turned_to (side_of who.end p') next_out next_block) ≡ front (slots_in p') b.1
      own zero has = ap (λ (k : ℕ). front k (turned_to (side_of who.end p') next_out next_block)) has ∙ sym (ap (λ (k : ℕ). front k b.1) has)
      own (suc n) has = ap (λ (k : ℕ). front (slots_in p') (turned_to k next_out next_block)) (s.same (λ none. not_less n (sym has ∙ none))) ∙ own_now

  pub counted_next : slots_in p' ≢ 0 → slice_index next_out (side_of who.end p') ≡ slots_in p'
  counted_next more = ap (slice_index next_out) (s.same more) ∙ (index_here at next_count counts within ∙ ⊎_elim (λ (is : count ≡ slots_in p). let next : next_count ≡ slots_in p' = omega (arith, is) in next) (λ (bare : (slots_in p ≡ 0) × (slots_in p' ≡ 0)). absurd (more bare.1)) block_was)

  -- the slots are in blocks again
  pub blocks_next : HasBlocks next_out (b.0, next_block)
  blocks_next = record {
    four = length_set at next_count counts ∙ s.blocks.four;
    few = λ slot. ⊎_elim (λ (same : slot ≡ at). let is : slice_index next_out slot ≡ next_count = ap (slice_index next_out) same ∙ index_here at next_count counts within in omega (arith, is, few_now))
        (λ (differs : slot ≡ at → ⊥). let is = index_set slot at next_count counts differs in let few = s.blocks.few slot in omega (arith, is, few)) (cases_eq slot at);
    all = all_now;
    owned = owned;
  }
    where
      few_now : next_count ≤ 2
      few_now = ⊎_elim (λ (is : count ≡ slots_in p). let few = slots_few p' in omega (arith, is, few)) (λ (bare : (slots_in p ≡ 0) × (slots_in p' ≡ 0)). let few = s.blocks.few at in let none = bare.0 in let more = bare.1 in omega (arith, few, none, more)) block_was

      by_now : slots_in p' ≢ 0 → (k : ℕ) × (q : Pass) × (get_elem? b.0.passes k ≡ some q) × (has_side at q.call ≡ true)
      by_now more = (here, pass_in (seat_of who.number b), here_now, side_now more)

      by_was : (slot : ℕ) → ((slots_in p ≢ 0) × (slot ≡ at) → ⊥) → slice_index counts slot ≢ 0 → (k : ℕ) × (q : Pass) × (get_elem? b.0.passes k ≡ some q) × (has_side slot q.call ≡ true)
      by_was slot apart more = let old = s.blocks.owned slot more in
          (old.0, old.1, stays_there old.0 old.1 (λ same. apart (own_side slot old.1 (ap (get_elem? me.0.passes) (sym same) ∙ old.2) old.3)) old.2, old.3)

      at_side : (n : ℕ) → slots_in p' ≡ n → slice_index next_out at ≢ 0 → (k : ℕ) × (q : Pass) × (get_elem? b.0.passes k ≡ some q) × (has_side at q.call ≡ true)
      at_side (suc n) has more = by_now (λ none. not_less n (sym has ∙ none))
      at_side zero has more = let is = index_here at next_count counts within in
          by_was at (λ bad. more (is ∙ (let c = s.counted bad.0 in let e : next_count ≡ 0 = omega (arith, c, has) in e))) (λ none. more (is ∙ (let e : next_count ≡ 0 = omega (arith, none, has) in e)))

      owned : (slot : ℕ) → slice_index next_out slot ≢ 0 → (k : ℕ) × (q : Pass) × (get_elem? b.0.passes k ≡ some q) × (has_side slot q.call ≡ true)
      owned slot more = ⊎_elim
          (λ (same : slot ≡ at). subst (λ (i : ℕ). (k : ℕ) × (q : Pass) × (get_elem? b.0.passes k ≡ some q) × (has_side i q.call ≡ true)) (sym same) (at_side (slots_in p') refl (λ none. more (ap (slice_index next_out) same ∙ none))))
          (λ (differs : slot ≡ at → ⊥). by_was slot (λ bad. differs bad.1) (λ none. more (index_set slot at next_count counts differs ∙ none))) (cases_eq slot at)

  -- another caller that the manager carries
  module _ (other : CallerId) (q : Phase) (apart : other.number ≢ who.number) (number : (pass_in (carried_at other q counts me)).number ≡ other.number) (counted : slots_in q ≢ 0 → slice_index counts (side_of other.end q) ≡ slots_in q) (stood : StandsIn z other q (carried_at other q counts me)) where
    abbrev beside : SeatState
    beside = (me.0, turned_to (side_of other.end q) counts me.1)

    abbrev there : ℕ
    there = place_of_number other.number me.0.passes

    then_at : IsPhaseAt other q (seat_of other.number beside)
    then_at = phase_at z other q (seat_of other.number beside) stood

    there_was : get_elem? me.0.passes there ≡ some (pass_in (seat_of other.number beside))
    there_was = pass_there other.number beside other q then_at

    elsewhere : there ≡ here → ⊥
    elsewhere same = let one = found_number who.number me.0.passes (pass_in (seat_of other.number beside)) (ap (get_elem? me.0.passes) (sym same) ∙ there_was) in apart (sym number ∙ one)

    place_next : place_of_number other.number b.0.passes ≡ there
    place_next = ap (place_of_number other.number) passes ∙ place_same s.leaves.change here other.number me.0.passes keeps

    pass_next : only_pass (place_of_number other.number b.0.passes) b.0.passes ≡ only_pass there me.0.passes
    pass_next = (λ i. only_pass (place_next i) (passes i)) ∙ only_others s.leaves.change here there me.0.passes elsewhere

    there_now : get_elem? b.0.passes there ≡ some (pass_in (seat_of other.number beside))
    there_now = stays_there there (pass_in (seat_of other.number beside)) elsewhere there_was

    side_there : slots_in q ≢ 0 → has_side (side_of other.end q) (pass_in (seat_of other.number beside)).call ≡ true
    side_there more = ap (has_side (side_of other.end q)) then_at.at.in_call ∙ then_at.sided more

    -- two calls have no side state in common
    sides_apart : slots_in q ≢ 0 → side_of other.end q ≡ at → (slots_in p ≡ 0) × (slots_in p' ≡ 0)
    sides_apart more same = let has : has_side at (pass_in (seat_of other.number beside)).call ≡ true = ap (λ (k : ℕ). has_side k (pass_in (seat_of other.number beside)).call) (sym same) ∙ side_there more in (
      zero_of (slots_in p) (λ more. elsewhere (s.order.sides at there here (pass_in (seat_of other.number beside)) (pass_in (seat_of who.number a)) there_was here_was has (side_was more))),
      zero_of (slots_in p') (λ more. elsewhere (s.next_order.sides at there here (pass_in (seat_of other.number beside)) (pass_in (seat_of who.number b)) there_now here_now has (side_now more))),
    )
      where
        zero_of : (n : ℕ) → (n ≢ 0 → ⊥) → n ≡ 0
        zero_of zero not = refl
        zero_of (suc n) not = absurd (not (not_less n))

    pub counted_beside : slots_in q ≢ 0 → slice_index next_out (side_of other.end q) ≡ slots_in q
    counted_beside more = ⊎_elim
        (λ (same : side_of other.end q ≡ at). let bare = sides_apart more same in let had = bare.0 in let has = bare.1 in
        ap (slice_index next_out) same ∙ (index_here at next_count counts within ∙ ((let e : next_count ≡ count = omega (arith, had, has) in e) ∙ (ap (slice_index counts) (sym same) ∙ counted more))))
        (λ (differs : side_of other.end q ≡ at → ⊥). index_set (side_of other.end q) at next_count counts differs ∙ counted more) (cases_eq (side_of other.end q) at)

    block_beside : (n : ℕ) → slots_in q ≡ n → front (slots_in q) (turned_to (side_of other.end q) next_out next_block) ≡ front (slots_in q) (turned_to (side_of other.end q) counts me.1)
    block_beside zero none = ap (λ (k : ℕ). front k (turned_to (side_of other.end q) next_out next_block)) none ∙ sym (ap (λ (k : ℕ). front k (turned_to (side_of other.end q) counts me.1)) none)
    block_beside (suc n) is = let more : slots_in q ≢ 0 = λ none. not_less n (sym is ∙ none) in let c = counted more in let j = side_of other.end q in ⊎_elim
        (λ (same : side_of other.end q ≡ at). let bare = sides_apart more same in let had = bare.0 in let has = bare.1 in let e : next_count ≡ count = omega (arith, had, has) in
        let many : slots_in q ≡ length new = sym c ∙ (ap (slice_index counts) same ∙ (sym e ∙ sym block_next.0)) in
        (λ i. front (many i) (turned_to (same i) (sym counts_same i) next_block)) ∙ (own_next at counts new me.1 within all
        ∙ ((λ i. front (e i) (slots_same had has i)) ∙ (λ i. front ((ap (slice_index counts) (sym same) ∙ c) i) (turned_to (sym same i) counts me.1)))))
        (λ (differs : side_of other.end q ≡ at → ⊥). (λ i. front (sym c i) (turned_to j (sym counts_same i) next_block))
        ∙ (others_next at counts new me.1 within all j differs (let low = side_low other.end q in let four = s.blocks.four in omega (arith, low, four)) ∙ ap (λ (k : ℕ). front k (turned_to j counts me.1)) c)) (cases_eq (side_of other.end q) at)

    slots_beside : (carried_at other q next_out (b.0, next_block)).1 ≡ (carried_at other q counts me).1
    slots_beside =
        let many = count_there other.number beside other q then_at in
        let kept : count_of other.number b ≡ count_of other.number me = ap slot_count ((λ i. call_at (place_next i) b.0.passes) ∙ (call_there there b.0.passes (pass_in (seat_of other.number beside)) there_now ∙ sym (call_there there me.0.passes (pass_in (seat_of other.number beside)) there_was))) in
        ap (λ (k : ℕ). front k (turned_to (side_of other.end q) next_out next_block)) (kept ∙ many) ∙ (block_beside (slots_in q) refl ∙ sym (ap (λ (k : ℕ). front k (turned_to (side_of other.end q) counts me.1)) many))

    pub pass_beside : pass_in (carried_at other q next_out (b.0, next_block)) ≡ pass_in (carried_at other q counts me)
    pass_beside = ap first_pass pass_next

    pub stands_beside : StandsIn z other q (carried_at other q next_out (b.0, next_block))
    stands_beside = stands_same z other q (carried_at other q counts me) (carried_at other q next_out (b.0, next_block)) pass_next slots_beside stood
