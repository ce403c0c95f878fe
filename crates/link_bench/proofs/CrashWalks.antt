-- The one walk of a crash: what the end of each caller of the remote end keeps, the crash keeps.
use Rattle.std.proofs.Common.{◌≡◌, ℕ, zero, suc, ◌+◌, ◌==◌, cond, Option, Some, None, refl, subst, arith}
use Rattle.std.proofs.lemmas.Bool.{cond_both}
use Rattle.rp_base.specs.declared.kinds.End.TheVariants as side
use Rattle.rp_base.specs.declared.limits.TheConstants.{CALLERS_MOST}
use Rattle.lane_model.specs.Lanes.{holder}
use Rattle.lane_model.specs.Links.{end_of}
use Rattle.link_bench.specs.BenchCrashes.{after_close, after_reclaim}
use Rattle.link_bench.specs.BenchEnds.{crashed_bench, is_first, is_remote, with_fresh_caller, without_one, without_other, without_others, without_remote}
use Rattle.link_bench.specs.Benches.{BenchState, link_in}

-- callers from a number on, by what holds before each of them
module _ (P : ℕ → BenchState → Type 0) (first : Option ℕ) (each : (at : ℕ) (bench : BenchState) → P at bench → P (at + 1) (without_other first bench at)) where
  pub others_walk : (total : ℕ) (bench : BenchState) (at count : ℕ) → at + count ≡ total → P at bench → P total (without_others first bench at count)
  unfolding without_others
  others_walk total bench at zero sum is = subst (λ (n : ℕ). P n bench) (omega (arith, sum)) is
  others_walk total bench at (suc count) sum is = others_walk total (without_other first bench at) (at + 1) count (omega (arith, sum)) (each at bench is)

module _ (P : BenchState → Type 0) where
  -- a reclaim of a caller and a new one in its place
  pub remote_walk : ((bench : BenchState) (caller : ℕ) → P bench → P (after_reclaim bench caller)) → ((bench : BenchState) → P bench → P (with_fresh_caller bench side.Remote))
      → (bench : BenchState) (caller : ℕ) → P bench → P (without_remote bench caller)
  remote_walk gone fresh bench caller is =
      let left = gone bench caller is in
      cond_both (is_remote (end_of (link_in bench).callers caller))
      (cond (caller == 1) (with_fresh_caller (after_reclaim bench caller) side.Remote) (after_reclaim bench caller)) bench P
      (λ _. cond_both (caller == 1) (with_fresh_caller (after_reclaim bench caller) side.Remote) (after_reclaim bench caller) P (λ _. fresh (after_reclaim bench caller) left) (λ _. left))
      (λ _. is)

  module _ (each : (bench : BenchState) (caller : ℕ) → P bench → P (without_remote bench caller)) where
    one_walk : (bench : BenchState) (found : Option ℕ) → P bench → P (without_one bench found)
    one_walk bench None is = is
    one_walk bench (Some caller) is = each bench caller is

    -- the close of a crash, and then the end of each caller
    pub crash_walk : (bench : BenchState) → P (after_close bench) → P (crashed_bench bench)
    crash_walk bench closed =
        let first = holder (link_in (after_close bench)).to_remote.receiver in
        others_walk (λ at left. P left) first (λ at left is. cond_both (is_first first at) left (without_remote left at) P (λ _. is) (λ _. each left at is))
        CALLERS_MOST (without_one (after_close bench) first) 0 CALLERS_MOST refl (one_walk (after_close bench) first closed)
