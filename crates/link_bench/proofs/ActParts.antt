-- Parts of an act: which of them may be done, and what they lead to, one after the other.
use Rattle.std.proofs.Common.{◌≡◌, ℕ, ◌≤◌, true, List, [], ◌∷◌, ◌++◌, None}
use Rattle.lane_model.specs.declared.calls.Wish.{Wish}
use Rattle.link_bench.specs.ActParts.{ActPart, Advances, Begins, Calls, Joins, Reclaims, Sees, bench_after, watcher_after_part}
use Rattle.link_bench.specs.Benches.{BenchState, begin_fault, is_in_call}
use Rattle.link_bench.specs.Watchers.{Seeing}

-- a part may be done on this bench: its caller is none of so many own ones, and this is known of what a call wishes
abbrev pub MayPart : ℕ → (Wish → Type 0) → BenchState → ActPart → Type 0
MayPart own Fits bench (Joins end) = Unit {0}
MayPart own Fits bench (Begins caller wanted) = (own ≤ caller) × (begin_fault bench caller wanted ≡ None) × Fits wanted
MayPart own Fits bench (Calls steps caller wanted) = (own ≤ caller) × (begin_fault bench caller wanted ≡ None) × Fits wanted
MayPart own Fits bench (Advances more steps caller) = (own ≤ caller) × (is_in_call bench caller ≡ true)
MayPart own Fits bench (Sees caller came) = Unit {0}
MayPart own Fits bench (Reclaims caller) = own ≤ caller

-- parts lead from this bench, and who watches its link, to those: each may be done where those before it have been done
pub data Does {W : Type 0} (sees : Seeing W) (own : ℕ) (Fits : Wish → Type 0) : BenchState → W → List ActPart → BenchState → W → Type 0 where
  Done : {bench : BenchState} {watcher : W} → Does sees own Fits bench watcher [] bench watcher
  Then : {bench left : BenchState} {watcher seen : W} {part : ActPart} {parts : List ActPart} → MayPart own Fits bench part
      → Does sees own Fits (bench_after bench part) (watcher_after_part sees bench watcher part) parts left seen → Does sees own Fits bench watcher (part ∷ parts) left seen

module _ {W : Type 0} (sees : Seeing W) (own : ℕ) (Fits : Wish → Type 0) where
  -- parts, and others behind them
  pub does_then : {bench mid left : BenchState} {watcher seer seen : W} {one other : List ActPart} → Does sees own Fits bench watcher one mid seer → Does sees own Fits mid seer other left seen
      → Does sees own Fits bench watcher (one ++ other) left seen
  does_then Done second = second
  does_then (Then may rest) second = Then may (does_then rest second)

  module _ (P : BenchState → W → Type 0) where
    -- each part that may be done keeps this of a bench and of who watches its link
    abbrev pub KeptByParts : Type 0
    KeptByParts = (bench : BenchState) (watcher : W) (part : ActPart) → MayPart own Fits bench part → P bench watcher → P (bench_after bench part) (watcher_after_part sees bench watcher part)

    -- so what they lead to keeps it
    pub does_kept : KeptByParts → {bench left : BenchState} {watcher seen : W} {parts : List ActPart} → Does sees own Fits bench watcher parts left seen → P bench watcher → P left seen
    does_kept keep Done is = is
    does_kept keep (Then {bench = bench} {watcher = watcher} {part = part} may rest) is = does_kept keep rest (keep bench watcher part may is)
