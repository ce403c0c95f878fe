-- What the actors of a core, its crash and its recovery do of its link and tell of takes (own).
use Rattle.std.specs.Prelude.{ℕ, zero, suc, ◌+◌, ◌-◌, ◌==◌, true, List, [], Option, Some, None, Result, Ok, Err, if◌then◌else◌}
use Rattle.rp_base.specs.declared.kinds.End.{End}
use Rattle.rp_base.specs.declared.kinds.End.TheVariants as side
use Rattle.rp_base.specs.declared.limits.TheConstants.{CALLERS_MOST}
use Rattle.proc_state.specs.declared.answers.LifeFault.{LifeFault}
use Rattle.lane_model.specs.declared.calls.Wish.{Wish}
use Rattle.lane_model.specs.declared.recoveries.ReclaimRefusal.{ReclaimRefusal}
use Rattle.lane_model.specs.Lanes.{holder}
use Rattle.lane_model.specs.Links.{end_of}
use Rattle.lane_model.specs.Recoveries.{link_reclaim_refusal}
use Rattle.lane_laws.specs.Handings.{Handing}
use Rattle.lane_laws.specs.Moves.{Close, Enlist, Reclaim}
use Rattle.link_bench.specs.BenchCrashes.{after_close}
use Rattle.link_bench.specs.BenchEnds.{is_first, is_remote, without_one, without_other}
use Rattle.link_bench.specs.declared.benches.Reach.TheVariants as reach
use Rattle.link_bench.specs.Benches.{BenchState, begun_call_of, is_in_call, link_in, start_walk}
use Rattle.crash_recover.specs.declared.core_answers.Crash.{Crash}
use Rattle.crash_recover.specs.declared.core_answers.Crash.TheVariants as crash
use Rattle.core_actors.specs.declared.progress.DriveOutcome.{DriveOutcome}
use Rattle.core_actors.specs.declared.progress.DriveOutcome.TheVariants as driven
use Rattle.crash_recover.specs.CoreCrashes.{report_of}
use Rattle.crash_recover.specs.Cores.{CoreState}
use Rattle.core_laws.specs.DriveParts.{beside_drive}
use Rattle.act_laws.specs.Deeds.{Deeds, advance_deeds, call_moves, deeds_then, no_deeds, one_move, reach_takes, walk_deeds}

-- ---- a crash

-- a reclaim, and a new caller at the end of the one that is gone
abbrev pub remote_deeds : BenchState → ℕ → Deeds
remote_deeds bench caller =
    if is_remote (end_of (link_in bench).callers caller)
    then (if caller == 1 then deeds_then (one_move (Reclaim caller)) (one_move (Enlist side.Remote)) else one_move (Reclaim caller)) else no_deeds

abbrev pub one_remote : BenchState → Option ℕ → Deeds
one_remote bench None = no_deeds
one_remote bench (Some caller) = remote_deeds bench caller

abbrev pub other_deeds : Option ℕ → BenchState → ℕ → Deeds
other_deeds first bench caller = if is_first first caller then no_deeds else remote_deeds bench caller

-- so many callers from a number on, one after the other
unfoldable pub others_deeds : Option ℕ → BenchState → ℕ → ℕ → Deeds
others_deeds first bench from zero = no_deeds
others_deeds first bench from (suc count) = deeds_then (other_deeds first bench from) (others_deeds first (without_other first bench from) (from + 1) count)

-- a crash of the remote end: the close, and the end of each of its callers
abbrev pub crash_deeds : BenchState → Deeds
crash_deeds bench =
    let first = holder (link_in (after_close bench)).to_remote.receiver in
    deeds_then (one_move (Close (link_in bench).era.inc))
    (deeds_then (one_remote (after_close bench) first) (others_deeds first (without_one (after_close bench) first) 0 CALLERS_MOST))

-- a report of a crash on the link of a core, which crashes it or doesn't
abbrev pub reported_deeds : Result Crash LifeFault → Option BenchState → Deeds
reported_deeds (Ok (crash.First closed)) (Some bench) = crash_deeds bench
reported_deeds (Ok (crash.First closed)) None = no_deeds
reported_deeds (Ok crash.Already) found = no_deeds
reported_deeds (Ok crash.Limit) found = no_deeds
reported_deeds (Err why) found = no_deeds

-- ---- a recovery

-- caller 0 of the link is made anew, where nothing refuses its reclaim
abbrev pub renewed_deeds : Option ReclaimRefusal → Deeds
renewed_deeds None = deeds_then (one_move (Reclaim 0)) (one_move (Enlist side.Host))
renewed_deeds (Some why) = no_deeds

abbrev pub ready_deeds : BenchState → Deeds
ready_deeds bench = renewed_deeds (link_reclaim_refusal (link_in bench) 0)

-- ---- steps of the actors

-- the first step of a call
abbrev pub begun_deeds : BenchState → ℕ → Wish → Deeds
begun_deeds bench caller wanted =
    let walk = start_walk bench 0 caller wanted in walk_deeds caller walk (call_moves (walk.steps - 0) caller (link_in bench).era.inc wanted)

-- a step on the link: a call under way goes on by one step, else one begins
abbrev pub link_deeds : BenchState → ℕ → Wish → Deeds
link_deeds bench caller wanted = if is_in_call bench caller then advance_deeds bench 0 0 caller (begun_call_of bench caller) else begun_deeds bench caller wanted

-- a step on the link that a core has or not
abbrev pub actor_link_deeds : Option BenchState → ℕ → Wish → Deeds
actor_link_deeds None caller wanted = no_deeds
actor_link_deeds (Some bench) caller wanted = link_deeds bench caller wanted

-- a record of the worker may report a crash
abbrev pub record_deeds : DriveOutcome → CoreState → Deeds
record_deeds (driven.Worker fault closed) core = reported_deeds (report_of true core).answer core.bench
record_deeds (driven.Crashed kind closed) core = reported_deeds (report_of true core).answer core.bench
record_deeds driven.Idle core = no_deeds
record_deeds driven.Stepped core = no_deeds
record_deeds (driven.Ended caller end) core = no_deeds

-- one step of the actors of a core
abbrev pub drive_deeds : CoreState → Deeds
drive_deeds core = beside_drive no_deeds actor_link_deeds record_deeds core

-- what a step of the actors that was this tells of takes at an end, on the link that it left: the handing where it ended a call as a take
abbrev pub driven_takes : DriveOutcome → Option BenchState → End → List Handing
driven_takes (driven.Ended caller came) (Some bench) end = reach_takes (link_in bench) caller (reach.Ended came) end
driven_takes (driven.Ended caller came) None end = []
driven_takes other found end = []
