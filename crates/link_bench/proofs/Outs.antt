-- The least number from one on that passes a test.
use Rattle.std.proofs.Common.{◌≡◌, ℕ, suc, ◌+◌, ◌-◌, ◌<◌, Bool, true, false, Option, Some, None, refl, ap, ◌∙◌, arith}
use Rattle.std.specs.List.{find, range_with_len}
use Rattle.link_bench.specs.Benches.{BenchState}
use Rattle.link_bench.specs.BenchHolds.{caller_out, is_out}

-- the least of so many numbers from one on
unfoldable pub least_from : (ℕ → Bool) → ℕ → ℕ → Option ℕ
least_from passes at left = find passes (range_with_len at left)

pub all_callers : (bench : BenchState) → caller_out bench ≡ least_from (λ caller. is_out bench caller) 1 63
unfolding caller_out least_from
all_callers bench = refl

one_here : (passes : ℕ → Bool) (at left : ℕ) → passes at ≡ true → least_from passes at (suc left) ≡ Some at
unfolding least_from
one_here passes at left here = rw here refl

one_later : (passes : ℕ → Bool) (at left : ℕ) → passes at ≡ false → least_from passes at (suc left) ≡ least_from passes (at + 1) left
unfolding least_from
one_later passes at left none = rw none refl

rest_is : (at end : ℕ) → at < end → end - at ≡ suc (end - (at + 1))
rest_is at end less = omega arith

-- the first that passes is the least
pub least_here : (passes : ℕ → Bool) (at end : ℕ) → at < end → passes at ≡ true → least_from passes at (end - at) ≡ Some at
least_here passes at end less here = ap (least_from passes at) (rest_is at end less) ∙ one_here passes at (end - (at + 1)) here

-- one that doesn't pass is left out
pub least_later : (passes : ℕ → Bool) (at end : ℕ) → at < end → passes at ≡ false → least_from passes at (end - at) ≡ least_from passes (at + 1) (end - (at + 1))
least_later passes at end less none = ap (least_from passes at) (rest_is at end less) ∙ one_later passes at (end - (at + 1)) none

-- none is left
pub least_none : (passes : ℕ → Bool) (at : ℕ) → least_from passes at 0 ≡ None
unfolding least_from
least_none passes at = refl
