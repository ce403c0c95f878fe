-- Who sees how the calls on a link end (own).
use Rattle.std.specs.Prelude.{ℕ}
use Rattle.lane_model.specs.declared.calls.CallEnd.{CallEnd}
use Rattle.link_bench.specs.declared.benches.Reach.{Reach}
use Rattle.link_bench.specs.declared.benches.Reach.TheVariants as reach
use Rattle.link_bench.specs.Benches.{BenchState}

-- what a watcher makes of the end of a call of a caller, on the bench that the call left
abbrev pub Seeing : Type 0 → Type 0
Seeing W = BenchState → ℕ → CallEnd → W → W

-- a watcher, by how far a call came
abbrev pub watcher_after : {W : Type 0} → Seeing W → BenchState → ℕ → Reach → W → W
watcher_after sees bench caller (reach.At step) watcher = watcher
watcher_after sees bench caller (reach.Ended end) watcher = sees bench caller end watcher
watcher_after sees bench caller reach.Limit watcher = watcher

-- nobody sees anything
abbrev pub nobody_sees : Seeing (Unit {0})
nobody_sees bench caller end nobody = nobody
