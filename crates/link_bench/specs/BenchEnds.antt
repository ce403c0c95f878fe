-- What the crash of the remote end leaves of a bench, and how its caller 0 is made anew for the next incarnation (own).
use Rattle.rp_base.specs.declared.limits.TheConstants.{CALLERS_MOST}
use Rattle.std.specs.Prelude.{ℕ, ◌==◌, Bool, true, false, Option, Some, None, fold, if◌then◌else◌}
use Rattle.std.specs.List.{range_with_len}
use Rattle.rp_base.specs.declared.kinds.End.{End}
use Rattle.rp_base.specs.declared.kinds.End.TheVariants as side
use Rattle.lane_model.specs.Lanes.{holder}
use Rattle.lane_model.specs.Links.{end_of, free_number}
use Rattle.lane_model.specs.Recoveries.{link_reopen_refusal, link_reclaim_refusal}
use Rattle.lane_model.specs.declared.recoveries.ReclaimRefusal.{ReclaimRefusal}
use Rattle.lane_model.specs.declared.recoveries.ReclaimRefusal.TheVariants as refusal
use Rattle.lane_model.specs.declared.recoveries.ReopenFault.{ReopenFault}
use Rattle.lane_model.specs.declared.recoveries.ReopenFault.TheVariants as reopen
use Rattle.link_bench.specs.Benches.{BenchState, link_in, with_new_caller}
use Rattle.link_bench.specs.BenchCrashes.{after_close, after_reclaim}

-- the end of the remote
abbrev pub is_remote : Option End → Bool
is_remote (Some side.Host) = false
is_remote (Some side.Remote) = true
is_remote None = false

-- a new caller at an end, under the least free number
abbrev pub with_fresh_caller : BenchState → End → BenchState
with_fresh_caller bench end = with_new_caller bench end (free_number (link_in bench).callers)

-- the bench without this caller where it is one of the remote end; caller 1 is made anew at once
abbrev pub without_remote : BenchState → ℕ → BenchState
without_remote bench caller =
    if is_remote (end_of (link_in bench).callers caller) then (if caller == 1 then with_fresh_caller (after_reclaim bench caller) side.Remote else after_reclaim bench caller) else bench

-- the same of one who may be none
abbrev pub without_one : BenchState → Option ℕ → BenchState
without_one bench None = bench
without_one bench (Some caller) = without_remote bench caller

-- whether this is the caller that was ended first
abbrev pub is_first : Option ℕ → ℕ → Bool
is_first None caller = false
is_first (Some first) caller = first == caller

-- the same of one that was not ended first
abbrev pub without_other : Option ℕ → BenchState → ℕ → BenchState
without_other first bench caller = if is_first first caller then bench else without_remote bench caller

-- the bench without so many callers from a number on, one after the other, where they are of the remote end
unfoldable pub without_others : Option ℕ → BenchState → ℕ → ℕ → BenchState
without_others first bench from count = fold (without_other first) bench (range_with_len from count)

-- the bench without the callers of the remote end: who has its receiver's turn ends first, so that nobody who holds a buffer needs another's turn, then the others by number
abbrev pub without_remotes : BenchState → BenchState
without_remotes bench =
    let first = holder (link_in bench).to_remote.receiver in
    without_others first (without_one bench first) 0 CALLERS_MOST

-- the bench after a crash of the remote end: its incarnation is closed, and its remote callers are gone
abbrev pub crashed_bench : BenchState → BenchState
crashed_bench bench = without_remotes (after_close bench)

-- a refused reclaim of caller 0, as a reopening names it
abbrev pub unready_for : ReclaimRefusal → ReopenFault
unready_for (refusal.StillOpen era) = reopen.StillOpen era
unready_for (refusal.Busy holder) = reopen.StillTurn holder

-- the bench with a new caller in place of caller 0
abbrev pub with_new_host : BenchState → BenchState
with_new_host bench = with_fresh_caller (after_reclaim bench 0) side.Host

-- the same, unless something refuses the reclaim of caller 0
abbrev pub with_new_host_unless : BenchState → Option ReclaimRefusal → BenchState
with_new_host_unless bench None = with_new_host bench
with_new_host_unless bench (Some why) = bench

-- the bench that a reopening finds
abbrev pub bench_to_reopen : BenchState → BenchState
bench_to_reopen bench = with_new_host_unless bench (link_reclaim_refusal (link_in bench) 0)

-- why a bench is not reopened: caller 0 is not reclaimed, or the link after it is not reopened
abbrev pub reopen_refusal_by : BenchState → Option ReclaimRefusal → Option ReopenFault
reopen_refusal_by bench None = link_reopen_refusal (link_in (with_new_host bench))
reopen_refusal_by bench (Some why) = Some (unready_for why)

abbrev pub reopen_refusal_of : BenchState → Option ReopenFault
reopen_refusal_of bench = reopen_refusal_by bench (link_reclaim_refusal (link_in bench) 0)
