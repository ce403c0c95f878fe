-- Tests over the numbers of a range.
use Rattle.std.proofs.Common.{◌≡◌, ℕ, zero, suc, ◌+◌, ◌-◌, ◌<◌, ◌||◌, Bool, ◌∷◌, refl, sym, ap, subst, arith, map, Option, Some, None}
use Rattle.std.specs.List.{range_with_len, list_any}
use Rattle.std.specs.Option.{option_or}
use Rattle.std.proofs.lemmas.Option.{none-some}
use Rattle.rp_base.specs.Faults.{first_fault}
use Rattle.resource_table.specs.declared.faults.TableFault.{TableFault}

-- the numbers from i on, below n, are i and those from i + 1 on
pub range_more : (i n : ℕ) → i < n → range_with_len i (n - i) ≡ i ∷ range_with_len (i + 1) (n - (i + 1))
range_more i n below =
    let e : n - i ≡ suc (n - (i + 1)) = omega arith in
    rw e refl

-- a test of any of the numbers from i on is one of i and one of those from i + 1 on
pub any_more : (p : ℕ → Bool) (i n : ℕ) → i < n
    → list_any p (range_with_len i (n - i)) ≡ (p i || list_any p (range_with_len (i + 1) (n - (i + 1))))
any_more p i n below = ap (list_any p) (range_more i n below)

-- the first fault of the numbers from i on is that of i, or else of those from i + 1 on
pub first_more : (f : ℕ → Option TableFault) (i n : ℕ) → i < n
    → first_fault (map f (range_with_len i (n - i))) ≡ option_or (f i) (first_fault (map f (range_with_len (i + 1) (n - (i + 1)))))
first_more f i n below = ap (λ range. first_fault (map f range)) (range_more i n below)

-- where there is no fault among two, neither is one
pub neither : (a b : Option TableFault) → option_or a b ≡ None → (a ≡ None) × (b ≡ None)
neither None b e = (refl, e)
neither (Some x) b e = absurd (none-some x (sym e))

-- where no number of a range has a fault, each has none
pub none_in_range : (f : ℕ → Option TableFault) (a n i j : ℕ)
    → first_fault (map f (range_with_len a n)) ≡ None → i < n → a + i ≡ j → f j ≡ None
none_in_range f a zero i j e below at = absurd (omega arith)
none_in_range f a (suc n) zero j e below at =
    let is : a ≡ j = omega arith in
    subst (λ k. f k ≡ None) is (neither (f a) (first_fault (map f (range_with_len (a + 1) n))) e).0
none_in_range f a (suc n) (suc i) j e below at =
    none_in_range f (a + 1) n i j (neither (f a) (first_fault (map f (range_with_len (a + 1) n))) e).1 (omega arith) (omega arith)
