-- What a close, a reclaim and a reopening leave of a bench, and what they answer (own).
use Rattle.std.specs.Prelude.{ℕ, slice_set, Option, Some, None, Result, Ok, Err}
use Rattle.rp_base.specs.declared.kinds.End.{End}
use Rattle.lane_model.specs.declared.recoveries.ReclaimRefusal.{ReclaimRefusal}
use Rattle.lane_model.specs.declared.recoveries.ReclaimRefusal.TheVariants as refusal
use Rattle.lane_model.specs.Links.{end_of}
use Rattle.lane_model.specs.Recoveries.{link_after_close, link_after_reclaim, link_after_reopen}
use Rattle.link_bench.specs.declared.benches.BenchFault.{BenchFault}
use Rattle.link_bench.specs.declared.benches.BenchFault.TheVariants as fault
use Rattle.link_bench.specs.declared.bench_crashes.Reclaim.{Reclaim}
use Rattle.link_bench.specs.declared.bench_crashes.Reclaim.TheVariants as reclaim
use Rattle.link_bench.specs.Benches.{BenchState, link_in, on_rings}

-- the bench after a close of the incarnation that its link is in
abbrev pub after_close : BenchState → BenchState
after_close bench = record bench { rings = link_after_close bench.rings (link_in bench).era.inc }

-- the bench without this caller, and without the call that it has begun
abbrev pub after_reclaim : BenchState → ℕ → BenchState
after_reclaim bench caller = record { rings = link_after_reclaim on_rings bench.rings caller; begun = slice_set bench.begun caller None }

-- the bench in its next incarnation; what is begun stays so
abbrev pub after_reopen : BenchState → BenchState
after_reopen bench = record bench { rings = link_after_reopen on_rings bench.rings }

-- how a reclaim of a caller in use ends
abbrev pub reclaim_end : Option ReclaimRefusal → Reclaim
reclaim_end None = reclaim.Done
reclaim_end (Some (refusal.StillOpen era)) = reclaim.StillOpen era
reclaim_end (Some (refusal.Busy holder)) = reclaim.Busy holder

-- a reclaim needs a caller in use
abbrev pub reclaim_answer : Option End → Option ReclaimRefusal → Result Reclaim BenchFault
reclaim_answer None why = Err fault.NoCaller
reclaim_answer (Some end) why = Ok (reclaim_end why)

-- the bench after a reclaim of a caller on this end, or on none, which something refuses or nothing
abbrev pub reclaim_leaves_at : BenchState → ℕ → Option End → Option ReclaimRefusal → BenchState
reclaim_leaves_at bench caller (Some end) None = after_reclaim bench caller
reclaim_leaves_at bench caller (Some end) (Some why) = bench
reclaim_leaves_at bench caller None why = bench

-- the bench after a reclaim
abbrev pub reclaim_leaves : BenchState → ℕ → Option ReclaimRefusal → BenchState
reclaim_leaves bench caller why = reclaim_leaves_at bench caller (end_of (link_in bench).callers caller) why
