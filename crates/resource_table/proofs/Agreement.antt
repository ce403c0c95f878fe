-- What is read of bytes that agree, and of bytes into which numbers were written.
use Rattle.std.proofs.Common.{◌≡◌, ℕ, zero, suc, ◌+◌, ◌≤◌, ◌<◌, ◌^◌, ◌⊎◌, List, [], ◌∷◌, ◌++◌, length, get_or, take, drop, refl, sym, ap, ◌∙◌, arith, inl, inr, append_assoc, length-take}
use Rattle.std.specs.List.{All}
use Rattle.std.proofs.Math.Seq.{drop-append_seam}
use Rattle.std.proofs.lemmas.Grind.{same_number_lists}
use Rattle.std.proofs.lemmas.List.{get_or-drop, get_or-take, length-take-le, length-drop}
use Rattle.std.proofs.lemmas.List.Elements.{All-nil, All-cons, All-weaker, All-head}
use Rattle.byteorder.specs.Endian.{little_from, little_number}
use Rattle.byteorder.specs.Numbers.{little_number-reads_back}
use Rattle.rp_base.specs.Fields.{number_at, with_number}
use Rattle.rp_base.specs.Texts.{text_before_zero}
use Rattle.std.specs.Int.{bytes_low_first}
use Rattle.resource_table.specs.Entries.{name_at}
use Rattle.resource_table.specs.Patches.{Write, after_writes, LeavesPlace}
use Rattle.resource_table.proofs.Writes.{LiesIn, written-other, still_within}

-- from one place on, up to another, b has the bytes of a
pub record Agree (a b : List ℕ) (from to : ℕ) : Type 0 where
  pub same : (place : ℕ) → from ≤ place → place < to → get_or b place 0 ≡ get_or a place 0

pub narrow : (a b : List ℕ) (from to f t : ℕ) → Agree a b from to → from ≤ f → t ≤ to → Agree a b f t
narrow a b from to f t agree less more = record { same = λ place low high. agree.same place (omega arith) (omega arith) }

pub agree_twice : (a b c : List ℕ) (from to : ℕ) → Agree a b from to → Agree b c from to → Agree a c from to
agree_twice a b c from to one two = record { same = λ place low high. two.same place low high ∙ one.same place low high }

little_same : (w i : ℕ) (xs ys : List ℕ) → ((k : ℕ) → k < i + w → get_or ys k 0 ≡ get_or xs k 0) → little_from i w ys ≡ little_from i w xs
little_same zero i xs ys same = refl
little_same (suc w) i xs ys same =
    let here = same i (omega arith) in
    let later = little_same w (suc i) xs ys (λ k below. same k (omega arith)) in
    omega (arith, here, later)

-- a number reads the same where the bytes agree
pub number_same : (w at : ℕ) (a b : List ℕ) → Agree a b at (at + w) → number_at w at b ≡ number_at w at a
number_same w at a b agree =
    little_same w 0 (drop at a) (drop at b) (λ k below. get_or-drop at b k 0 ∙ agree.same (at + k) (omega arith) (omega arith) ∙ sym (get_or-drop at a k 0))

-- and so does a name
pub name_same : (place : ℕ) (a b : List ℕ) → length b ≡ length a → Agree a b place (place + 31) → name_at place b ≡ name_at place a
name_same place a b len agree =
    ap text_before_zero (same_number_lists (take 31 (drop place b)) (take 31 (drop place a))
    (omega (arith, length-take 31 (drop place b), length-take 31 (drop place a), length-drop place b, length-drop place a))
    (λ k below.
    let short : k < 31 = omega (arith, below, length-take 31 (drop place b)) in
    get_or-take 31 (drop place b) k 0 short ∙ get_or-drop place b k 0 ∙ agree.same (place + k) (omega arith) (omega (arith, short)) ∙ sym (get_or-drop place a k 0) ∙ sym (get_or-take 31 (drop place a) k 0 short)))

-- a number that was written is read
number_written : (w at v : ℕ) (bytes : List ℕ) → at + w ≤ length bytes → v < 256 ^ w → number_at w at (with_number w at v bytes) ≡ v
number_written w at v bytes within small =
    let front : length (take at bytes) ≡ at = length-take-le at bytes (omega arith) in
    let field = bytes_low_first 0 w v in
    let rest = drop (at + w) bytes in
    let behind : drop at ((take at bytes ++ field) ++ rest) ≡ field ++ rest =
    ap (drop at) (append_assoc (take at bytes) field rest) ∙ ap (λ n. drop n (take at bytes ++ (field ++ rest))) (sym front) ∙ drop-append_seam (take at bytes) (field ++ rest) in
    ap (little_number w) behind ∙ little_number-reads_back w v rest small

-- a write leaves a range that it stands before or behind
abbrev pub LeavesRange : ℕ → ℕ → Write → Type 0
LeavesRange from to write = (to ≤ write.at) ⊎ (write.at + write.width ≤ from)

leaves_place : (from to place : ℕ) (write : Write) → from ≤ place → place < to → LeavesRange from to write → LeavesPlace place write
leaves_place from to place write low high (inl before) = inl (omega (arith, before, high))
leaves_place from to place write low high (inr behind) = inr (omega (arith, behind, low))

-- bytes agree with what they were before writes where none of these was
pub agree_writes : (writes : List Write) (bytes : List ℕ) (from to : ℕ) → All (LiesIn (length bytes)) writes → All (LeavesRange from to) writes → Agree bytes (after_writes writes bytes) from to
agree_writes writes bytes from to within leaves = record {
  same = λ place low high. written-other writes bytes place within (All-weaker (LeavesRange from to) (LeavesPlace place) (λ write. leaves_place from to place write low high) writes leaves);
}

-- the writes stand from one place on, up to another
abbrev pub StandsIn : ℕ → ℕ → Write → Type 0
StandsIn from to write = (from ≤ write.at) × (write.at + write.width ≤ to)

pub agree_outside : (writes : List Write) (bytes : List ℕ) (from to f t : ℕ) → All (StandsIn from to) writes → to ≤ length bytes → (t ≤ from) ⊎ (to ≤ f)
    → Agree bytes (after_writes writes bytes) f t
agree_outside writes bytes from to f t stand within (inl before) =
    agree_writes writes bytes f t
    (All-weaker (StandsIn from to) (LiesIn (length bytes)) (λ write h. omega (arith, h.1, within)) writes stand)
    (All-weaker (StandsIn from to) (LeavesRange f t) (λ write h. inl (omega (arith, h.0, before))) writes stand)
agree_outside writes bytes from to f t stand within (inr behind) =
    agree_writes writes bytes f t
    (All-weaker (StandsIn from to) (LiesIn (length bytes)) (λ write h. omega (arith, h.1, within)) writes stand)
    (All-weaker (StandsIn from to) (LeavesRange f t) (λ write h. inr (omega (arith, h.1, behind))) writes stand)

-- of writes in order a number is read that no later one touches
pub written_last : (write : Write) (later : List Write) (bytes : List ℕ) → All (LiesIn (length bytes)) (write ∷ later) → All (LeavesRange write.at (write.at + write.width)) later
    → write.value < 256 ^ write.width → number_at write.width write.at (after_writes (write ∷ later) bytes) ≡ write.value
written_last write later bytes within leaves small =
    let once = with_number write.width write.at write.value bytes in
    number_same write.width write.at once (after_writes later once)
    (agree_writes later once write.at (write.at + write.width) (still_within write later bytes within) leaves)
    ∙ number_written write.width write.at write.value bytes (All-head (LiesIn (length bytes)) write later within) small

pub two_leave : (from to : ℕ) (v w : Write) → LeavesRange from to v → LeavesRange from to w → All (LeavesRange from to) (v ∷ w ∷ [])
two_leave from to v w hv hw = All-cons (LeavesRange from to) v (w ∷ []) hv (All-cons (LeavesRange from to) w [] hw (All-nil (LeavesRange from to)))

pub three_leave : (from to : ℕ) (u v w : Write) → LeavesRange from to u → LeavesRange from to v → LeavesRange from to w → All (LeavesRange from to) (u ∷ v ∷ w ∷ [])
three_leave from to u v w hu hv hw = All-cons (LeavesRange from to) u (v ∷ w ∷ []) hu (two_leave from to v w hv hw)

pub one_leaves : (from to : ℕ) (w : Write) → LeavesRange from to w → All (LeavesRange from to) (w ∷ [])
one_leaves from to w hw = All-cons (LeavesRange from to) w [] hw (All-nil (LeavesRange from to))

pub none_leaves : (from to : ℕ) → All (LeavesRange from to) []
none_leaves from to = All-nil (LeavesRange from to)
