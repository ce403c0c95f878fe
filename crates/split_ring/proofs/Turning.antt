-- The slots that are out in blocks, by the side states, and one block brought to the front and back.
use Rattle.std.proofs.Common.{◌≡◌, ◌≢◌, ◌<◌, ◌≤◌, ◌+◌, ◌-◌, ℕ, zero, suc, length, List, [], ◌∷◌, ◌++◌, refl, sym, ap, ◌∙◌, arith, ⊎_elim, ◌⊎◌}
use Rattle.std.proofs.lemmas.Bool.{cases_lt}
use Rattle.std.specs.Prelude.{slice_index, slice_set}
use Rattle.atomic_table.specs.Table.{turned}
use Rattle.link_words.specs.declared.rule.Slot.{Slot}
use Rattle.split_ring.specs.Carried.{out_before, turned_to, turned_by}
use Rattle.split_ring.specs.Focus.{front, behind}

abbrev pub Slots : Type 0
Slots = List (ℕ × Slot)

no_more : (xs : Slots) → xs ++ [] ≡ xs
no_more [] = refl
no_more (x ∷ xs) = ap (λ (l : Slots). x ∷ l) (no_more xs)

more_last : (xs ys zs : Slots) → (xs ++ ys) ++ zs ≡ xs ++ (ys ++ zs)
more_last [] ys zs = refl
more_last (x ∷ xs) ys zs = ap (λ (l : Slots). x ∷ l) (more_last xs ys zs)

pub length_both : (xs ys : Slots) → length (xs ++ ys) ≡ length xs + length ys
length_both [] ys = omega arith
length_both (x ∷ xs) ys = let more = length_both xs ys in omega (arith, more)

-- the slots in front and those behind
pub front_behind : (c : ℕ) (xs : Slots) → front c xs ++ behind c xs ≡ xs
front_behind zero xs = refl
front_behind (suc c) [] = refl
front_behind (suc c) (x ∷ xs) = ap (λ (l : Slots). x ∷ l) (front_behind c xs)

pub length_front : (c : ℕ) (xs : Slots) → c ≤ length xs → length (front c xs) ≡ c
length_front zero xs few = refl
length_front (suc c) [] few = absurd (omega (arith, few))
length_front (suc c) (x ∷ xs) few = ap suc (length_front c xs (omega (arith, few)))

pub front_first : (c : ℕ) (xs ys : Slots) → c ≤ length xs → front c (xs ++ ys) ≡ front c xs
front_first zero xs ys few = refl
front_first (suc c) [] ys few = absurd (omega (arith, few))
front_first (suc c) (x ∷ xs) ys few = ap (λ (l : Slots). x ∷ l) (front_first c xs ys (omega (arith, few)))

pub behind_first : (c : ℕ) (xs ys : Slots) → c ≤ length xs → behind c (xs ++ ys) ≡ behind c xs ++ ys
behind_first zero xs ys few = refl
behind_first (suc c) [] ys few = absurd (omega (arith, few))
behind_first (suc c) (x ∷ xs) ys few = behind_first c xs ys (omega (arith, few))

front_same : (xs ys : Slots) → front (length xs) (xs ++ ys) ≡ xs
front_same [] ys = refl
front_same (x ∷ xs) ys = ap (λ (l : Slots). x ∷ l) (front_same xs ys)

behind_past : (xs ys : Slots) (n d : ℕ) → n ≡ length xs + d → behind n (xs ++ ys) ≡ behind d ys
behind_past [] ys n d is = ap (λ (k : ℕ). behind k ys) (let h : n ≡ d = omega (arith, is) in h)
behind_past (x ∷ xs) ys zero d is = absurd (omega (arith, is))
behind_past (x ∷ xs) ys (suc n) d is = behind_past xs ys n d (omega (arith, is))

behind_twice : (a d : ℕ) (xs : Slots) (n : ℕ) → n ≡ a + d → a ≤ length xs → behind n xs ≡ behind d (behind a xs)
behind_twice zero d xs n is few = ap (λ (k : ℕ). behind k xs) (let h : n ≡ d = omega (arith, is) in h)
behind_twice (suc a) d [] n is few = absurd (omega (arith, few))
behind_twice (suc a) d (x ∷ xs) zero is few = absurd (omega (arith, is))
behind_twice (suc a) d (x ∷ xs) (suc n) is few = behind_twice a d xs n (omega (arith, is)) (omega (arith, few))

pub length_behind : (c : ℕ) (xs : Slots) → c ≤ length xs → c + length (behind c xs) ≡ length xs
length_behind zero xs few = omega arith
length_behind (suc c) [] few = absurd (omega (arith, few))
length_behind (suc c) (x ∷ xs) few = let more = length_behind c xs (omega (arith, few)) in omega (arith, more)

pub front_short : (c : ℕ) (xs : Slots) → length (front c xs) ≤ length xs
front_short zero xs = omega arith
front_short (suc c) [] = omega arith
front_short (suc c) (x ∷ xs) = let more = front_short c xs in omega (arith, more)

-- so many turned
turned_more : (c : ℕ) (xs ys : Slots) → c ≤ length xs → turned_by c (xs ++ ys) ≡ behind c xs ++ (ys ++ front c xs)
turned_more zero xs ys few = ap (λ (l : Slots). xs ++ l) (sym (no_more ys))
turned_more (suc c) [] ys few = absurd (omega (arith, few))
turned_more (suc c) (x ∷ xs) ys few =
    ap (turned_by c) (more_last xs ys (x ∷ [])) ∙ (turned_more c xs (ys ++ x ∷ []) (omega (arith, few)) ∙ ap (λ (l : Slots). behind c xs ++ l) (more_last ys (x ∷ []) (front c xs)))

pub turned_is : (c : ℕ) (xs : Slots) → c ≤ length xs → turned_by c xs ≡ behind c xs ++ front c xs
turned_is c xs few = ap (turned_by c) (sym (no_more xs)) ∙ turned_more c xs [] few

-- the first part goes behind the other
pub turned_parts : (xs ys : Slots) → turned_by (length xs) (xs ++ ys) ≡ ys ++ xs
turned_parts [] ys = sym (no_more ys)
turned_parts (x ∷ xs) ys = ap (turned_by (length xs)) (more_last xs ys (x ∷ [])) ∙ (turned_parts xs (ys ++ x ∷ []) ∙ more_last ys (x ∷ []) xs)

-- one more turned
pub turned_last : (c : ℕ) (xs : Slots) → turned (turned_by c xs) ≡ turned_by (c + 1) xs
turned_last zero xs = refl
turned_last (suc c) xs = turned_last c (turned xs) ∙ ap (λ (n : ℕ). turned_by n (turned xs)) (let h : c + 1 ≡ suc c = omega arith in h) ∙ ap (λ (n : ℕ). turned_by n xs) (let h : suc (suc c) ≡ suc c + 1 = omega arith in h)

-- the counts before a place
pub before_next : (i : ℕ) (cs : List ℕ) → i < length cs → out_before (suc i) cs ≡ out_before i cs + slice_index cs i
before_next i [] within = absurd (omega (arith, within))
before_next zero (c ∷ cs) within = let e : out_before zero cs ≡ 0 = refl in omega arith
before_next (suc i) (c ∷ cs) within = let more = before_next i cs (omega (arith, within)) in omega (arith, more)

pub before_grows : (i j : ℕ) (cs : List ℕ) → i ≤ j → out_before i cs ≤ out_before j cs
before_grows zero j cs less = omega arith
before_grows (suc i) zero cs less = absurd (omega (arith, less))
before_grows (suc i) (suc j) [] less = omega arith
before_grows (suc i) (suc j) (c ∷ cs) less = let more = before_grows i j cs (omega (arith, less)) in omega (arith, more)

-- a count is another
pub before_same : (j i n : ℕ) (cs : List ℕ) → j ≤ i → out_before j (slice_set cs i n) ≡ out_before j cs
before_same zero i n cs less = refl
before_same (suc j) i n [] less = refl
before_same (suc j) zero n (c ∷ cs) less = absurd (omega (arith, less))
before_same (suc j) (suc i) n (c ∷ cs) less = let more = before_same j i n cs (omega (arith, less)) in ap (λ (k : ℕ). c + k) more

pub before_set : (j i n : ℕ) (cs : List ℕ) → i < j → i < length cs → out_before j (slice_set cs i n) + slice_index cs i ≡ out_before j cs + n
before_set zero i n cs less within = absurd (omega (arith, less))
before_set (suc j) i n [] less within = absurd (omega (arith, within))
before_set (suc j) zero n (c ∷ cs) less within = omega arith
before_set (suc j) (suc i) n (c ∷ cs) less within = let more = before_set j i n cs (omega (arith, less)) (omega (arith, within)) in omega (arith, more)

pub index_set : (j i n : ℕ) (cs : List ℕ) → j ≢ i → slice_index (slice_set cs i n) j ≡ slice_index cs j
index_set j i n [] differs = refl
index_set zero zero n (c ∷ cs) differs = absurd (differs refl)
index_set zero (suc i) n (c ∷ cs) differs = refl
index_set (suc j) zero n (c ∷ cs) differs = refl
index_set (suc j) (suc i) n (c ∷ cs) differs = index_set j i n cs (λ same. differs (ap suc same))

pub index_here : (i n : ℕ) (cs : List ℕ) → i < length cs → slice_index (slice_set cs i n) i ≡ n
index_here i n [] within = absurd (omega (arith, within))
index_here zero n (c ∷ cs) within = refl
index_here (suc i) n (c ∷ cs) within = index_here i n cs (omega (arith, within))

pub length_set : (i n : ℕ) (cs : List ℕ) → length (slice_set cs i n) ≡ length cs
length_set i n [] = refl
length_set zero n (c ∷ cs) = refl
length_set (suc i) n (c ∷ cs) = ap suc (length_set i n cs)

-- the block of a side state in front
block_first : (b c : ℕ) (xs : Slots) → b + c ≤ length xs → front c (behind b xs ++ front b xs) ≡ front c (behind b xs)
block_first b c xs few = let long = length_behind b xs (omega (arith, few)) in front_first c (behind b xs) (front b xs) (omega (arith, few, long))

block_rest : (b c : ℕ) (xs : Slots) → b + c ≤ length xs → behind c (behind b xs ++ front b xs) ≡ behind (b + c) xs ++ front b xs
block_rest b c xs few = let long = length_behind b xs (omega (arith, few)) in
    behind_first c (behind b xs) (front b xs) (omega (arith, few, long)) ∙ ap (λ (l : Slots). l ++ front b xs) (sym (behind_twice b c xs (b + c) refl (omega (arith, few))))

-- so many slots are in the place of so many, behind the first
abbrev pub with_block : ℕ → ℕ → Slots → Slots → Slots
with_block b c new xs = front b xs ++ (new ++ behind (b + c) xs)

pub length_block : (b c : ℕ) (new xs : Slots) → b + c ≤ length xs → length (with_block b c new xs) + c ≡ length xs + length new
length_block b c new xs few =
    let one = length_both (front b xs) (new ++ behind (b + c) xs) in let two = length_both new (behind (b + c) xs) in let three = length_front b xs (omega (arith, few)) in let four = length_behind (b + c) xs few in omega (arith, one, two, three, four)

-- turned back
pub turned_back : (b c t : ℕ) (new xs ys : Slots) → b + c ≤ length xs → front (length new) ys ≡ new → behind (length new) ys ≡ behind (b + c) xs ++ front b xs → t + b ≡ length ys → length new ≤ length ys → turned_by t ys ≡ with_block b c new xs
turned_back b c t new xs ys few first rest count within =
    let whole : ys ≡ new ++ (behind (b + c) xs ++ front b xs) = sym (front_behind (length new) ys) ∙ (λ i. first i ++ rest i) in
    let whole2 : ys ≡ (new ++ behind (b + c) xs) ++ front b xs = whole ∙ sym (more_last new (behind (b + c) xs) (front b xs)) in
    let one = length_both (new ++ behind (b + c) xs) (front b xs) in let three = length_front b xs (omega (arith, few)) in let four = ap length whole2 in
    let long : t ≡ length (new ++ behind (b + c) xs) = omega (arith, one, three, four, count) in
    let most : t ≤ length (new ++ behind (b + c) xs) = omega (arith, long) in
    ap (turned_by t) whole2 ∙ (turned_more t (new ++ behind (b + c) xs) (front b xs) most
    ∙ ((λ i. behind (long i) (new ++ behind (b + c) xs) ++ (front b xs ++ front (long i) (new ++ behind (b + c) xs)))
    ∙ ((λ i. none (new ++ behind (b + c) xs) i ++ (front b xs ++ all (new ++ behind (b + c) xs) i)))))
  where
    none : (l : Slots) → behind (length l) l ≡ []
    none [] = refl
    none (x ∷ l) = none l

    all : (l : Slots) → front (length l) l ≡ l
    all [] = refl
    all (x ∷ l) = ap (λ (m : Slots). x ∷ m) (all l)

-- the blocks before it and behind it are where they were
block_before : (b c o d : ℕ) (new xs : Slots) → b + c ≤ length xs → o + d ≤ b → front d (behind o (with_block b c new xs)) ≡ front d (behind o xs)
block_before b c o d new xs few less =
    let three = length_front b xs (omega (arith, few)) in let four = length_behind o (front b xs) (omega (arith, three, less)) in
    ap (front d) (behind_first o (front b xs) (new ++ behind (b + c) xs) (omega (arith, three, less))) ∙ (front_first d (behind o (front b xs)) (new ++ behind (b + c) xs) (omega (arith, three, four, less))
    ∙ (sym (front_first d (behind o (front b xs)) (behind b xs) (omega (arith, three, four, less))) ∙ (ap (front d) (sym (behind_first o (front b xs) (behind b xs) (omega (arith, three, less))))
    ∙ ap (λ (l : Slots). front d (behind o l)) (front_behind b xs))))

block_behind : (b c o o' d : ℕ) (new xs : Slots) → b + c ≤ length xs → b + c ≤ o → o' + c ≡ o + length new → front d (behind o' (with_block b c new xs)) ≡ front d (behind o xs)
block_behind b c o o' d new xs few more is =
    let three = length_front b xs (omega (arith, few)) in let e = o - (b + c) in let o_is : o ≡ b + c + e = omega (arith, more) in
    ap (front d) (behind_past (front b xs) (new ++ behind (b + c) xs) o' (length new + e) (omega (arith, three, is, o_is)) ∙ (behind_past new (behind (b + c) xs) (length new + e) e refl ∙ sym (behind_twice (b + c) e xs o o_is few)))

block_here : (b c : ℕ) (new xs : Slots) → b + c ≤ length xs → front (length new) (behind b (with_block b c new xs)) ≡ new
block_here b c new xs few =
    let three = length_front b xs (omega (arith, few)) in ap (front (length new)) (behind_past (front b xs) (new ++ behind (b + c) xs) b 0 (omega (arith, three))) ∙ front_same new (behind (b + c) xs)

-- a block fits the slots
pub block_fits : (i : ℕ) (cs : List ℕ) (xs : Slots) → i < length cs → out_before (length cs) cs ≡ length xs → out_before i cs + slice_index cs i ≤ length xs
block_fits i cs xs within all = let next = before_next i cs within in let less = before_grows (suc i) (length cs) cs (omega (arith, within)) in omega (arith, next, less, all)

-- its slots come to the front
pub own_front : (i : ℕ) (cs : List ℕ) (xs : Slots) → i < length cs → out_before (length cs) cs ≡ length xs → front (slice_index cs i) (turned_to i cs xs) ≡ front (slice_index cs i) (behind (out_before i cs) xs)
own_front i cs xs within all = block_first (out_before i cs) (slice_index cs i) xs (block_fits i cs xs within all)

pub own_behind : (i : ℕ) (cs : List ℕ) (xs : Slots) → i < length cs → out_before (length cs) cs ≡ length xs → behind (slice_index cs i) (turned_to i cs xs) ≡ behind (out_before i cs + slice_index cs i) xs ++ front (out_before i cs) xs
own_behind i cs xs within all = block_rest (out_before i cs) (slice_index cs i) xs (block_fits i cs xs within all)

pub length_turned : (i : ℕ) (cs : List ℕ) (xs : Slots) → i < length cs → out_before (length cs) cs ≡ length xs → length (turned_to i cs xs) ≡ length xs
length_turned i cs xs within all =
    let b = out_before i cs in let few = block_fits i cs xs within all in let one = length_both (behind b xs) (front b xs) in let two = length_behind b xs (omega (arith, few)) in let three = length_front b xs (omega (arith, few)) in omega (arith, one, two, three)

module _ (i : ℕ) (cs : List ℕ) (new xs : Slots) (within : i < length cs) (all : out_before (length cs) cs ≡ length xs) where
  -- the counts and the slots with others of one side state
  abbrev pub next_counts : List ℕ
  next_counts = slice_set cs i (length new)

  abbrev pub next_slots : Slots
  next_slots = with_block (out_before i cs) (slice_index cs i) new xs

  pub all_next : out_before (length cs) next_counts ≡ length next_slots
  all_next = let one = before_set (length cs) i (length new) cs within within in let two = length_block (out_before i cs) (slice_index cs i) new xs (block_fits i cs xs within all) in omega (arith, one, two, all)

  all_here : out_before (length next_counts) next_counts ≡ length next_slots
  all_here = ap (λ (k : ℕ). out_before k next_counts) (length_set i (length new) cs) ∙ all_next

  pub own_next : front (length new) (turned_to i next_counts next_slots) ≡ new
  own_next =
      let here = index_here i (length new) cs within in let few = block_fits i cs xs within all in let same = before_same i i (length new) cs (omega arith) in let fits = block_fits i next_counts next_slots (omega (arith, within, length_set i (length new) cs)) all_here in
      block_first (out_before i next_counts) (length new) next_slots (omega (arith, fits, here)) ∙ (ap (λ (b : ℕ). front (length new) (behind b next_slots)) same ∙ block_here (out_before i cs) (slice_index cs i) new xs few)

  pub others_next : (j : ℕ) → j ≢ i → j < length cs → front (slice_index cs j) (turned_to j next_counts next_slots) ≡ front (slice_index cs j) (turned_to j cs xs)
  others_next j differs inside =
      let b = out_before i cs in let c = slice_index cs i in let d = slice_index cs j in let few = block_fits i cs xs within all in
      let long = length_set i (length new) cs in let same = index_set j i (length new) cs differs in let fits = block_fits j next_counts next_slots (omega (arith, inside, long)) all_here in
      block_first (out_before j next_counts) d next_slots (omega (arith, fits, same)) ∙ (by (cases_lt j i) ∙ sym (own_front j cs xs inside all))
    where
      by : (j < i) ⊎ (i ≤ j) → front (slice_index cs j) (behind (out_before j next_counts) next_slots) ≡ front (slice_index cs j) (behind (out_before j cs) xs)
      by = ⊎_elim
          (λ (less : j < i). let b = out_before i cs in let c = slice_index cs i in let d = slice_index cs j in let few = block_fits i cs xs within all in
          let same = before_same j i (length new) cs (omega (arith, less)) in let next = before_next j cs inside in let grows = before_grows (suc j) i cs (omega (arith, less)) in
          ap (λ (o : ℕ). front d (behind o next_slots)) same ∙ block_before b c (out_before j cs) d new xs few (omega (arith, next, grows)))
          (λ (more : i ≤ j). let b = out_before i cs in let c = slice_index cs i in let d = slice_index cs j in let few = block_fits i cs xs within all in
          let less : i < j = omega (arith, more, differs) in let set = before_set j i (length new) cs less within in let next = before_next i cs within in let grows = before_grows (suc i) j cs (omega (arith, less)) in
          block_behind b c (out_before j cs) (out_before j next_counts) d new xs few (omega (arith, next, grows)) set)
