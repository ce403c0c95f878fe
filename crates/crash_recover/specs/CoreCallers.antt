-- The calls of a core's link by callers other than its actors: each is an act on that link, or begins a call of any message (own).
use Rattle.std.specs.Prelude.{◌≡◌, ℕ, nat_lt, List, Option, Some, None, option_map, option_and_then, if◌then◌else◌}
use Rattle.rp_base.specs.Limits.{ring_capacity}
use Rattle.rp_base.specs.declared.kinds.End.{End}
use Rattle.name_service.specs.declared.channels.Channel.{Channel}
use Rattle.vring_layout.specs.declared.snapshots.Snapshot.{Snapshot}
use Rattle.fw_load.specs.declared.rings.RingPair.{RingPair}
use Rattle.lane_model.specs.declared.calls.Wish.{Wish}
use Rattle.lane_model.specs.Lanes.{holder}
use Rattle.link_bench.specs.declared.acts.ActAnswer.{ActAnswer}
use Rattle.link_bench.specs.declared.acts.ActAnswer.TheVariants as answer
use Rattle.link_bench.specs.declared.benches.BenchFault.{BenchFault}
use Rattle.link_bench.specs.declared.benches.BenchFault.TheVariants as fault
use Rattle.crash_recover.specs.declared.core_acts.TheConstants.{OWN_CALLERS}
use Rattle.crash_recover.specs.declared.core_callers.StepFault.{StepFault}
use Rattle.crash_recover.specs.declared.core_callers.StepFault.TheVariants as step
use Rattle.link_bench.specs.declared.benches.Reach.{Reach}
use Rattle.link_bench.specs.Benches.{BenchState, begin_fault, link_in, step_fault, with_begun_call}
use Rattle.link_bench.specs.BenchRings.{bench_snapshot, snapshot_at, turn_holder}
use Rattle.crash_recover.specs.Cores.{CoreState, loaded_rings}

-- a call on the link of a core is refused to the core's own callers as to one that isn't in use
abbrev pub core_fault : ℕ → Option BenchFault → Option BenchFault
core_fault caller why = if nat_lt caller OWN_CALLERS then Some fault.NoCaller else why

-- what an act that makes a caller answers: its number, or that all are in use
abbrev pub caller_answer : End → Option ℕ → ActAnswer
caller_answer end None = answer.CallersFull
caller_answer end (Some number) = answer.Caller number end

-- ---- the beginning of a call

-- why a caller can't begin this call
abbrev pub core_begin_fault : CoreState → ℕ → Wish → Option BenchFault
core_begin_fault core caller wanted = core_fault caller (option_and_then (λ (bench : BenchState). begin_fault bench caller wanted) core.bench)

-- the link on which a caller has begun this call, which follows the incarnation that the link is in
abbrev pub bench_with_call : BenchState → ℕ → Wish → BenchState
bench_with_call bench caller wanted = with_begun_call bench caller (Some (record { follows = (link_in bench).era.inc; wish = wanted }))

-- the core then
abbrev pub with_core_call : CoreState → ℕ → Wish → CoreState
with_core_call core caller wanted = record core { bench = option_map (λ (bench : BenchState). bench_with_call bench caller wanted) core.bench }

-- ---- a step of a call

-- why a caller can't do a step
abbrev pub core_step_fault : CoreState → ℕ → Option BenchFault
core_step_fault core caller = core_fault caller (option_and_then (λ (bench : BenchState). step_fault bench caller) core.bench)

-- what a step is refused for: what the caller is in, or else memory ran out
abbrev pub IsStepFault : Option BenchFault → StepFault → Type 0
IsStepFault (Some other) why = why ≡ step.Bench other
IsStepFault None why = why ≡ step.NoMemory

-- how far a call came, where an act answers that
abbrev pub reach_of : Option ActAnswer → Option Reach
reach_of (Some (answer.Reached caller reach)) = Some reach
reach_of (Some other) = None
reach_of None = None

-- ---- what a core shows of its link

-- who has the first turn that is out of the link of a core
abbrev pub core_turn_holder : CoreState → Option ℕ
core_turn_holder core = option_and_then (λ (bench : BenchState). turn_holder (link_in bench)) core.bench

-- the words of a link over the buffers of a device, or of one that no memory was given
abbrev pub snapshot_over : Option RingPair → BenchState → Snapshot
snapshot_over None bench = bench_snapshot bench
snapshot_over (Some rings) bench = snapshot_at bench rings.base (ring_capacity rings.to_host.num)

-- the words of the link of a core: they lie over the buffers that its load was given
abbrev pub core_snapshot : CoreState → Option Snapshot
core_snapshot core = option_map (snapshot_over (loaded_rings core.loaded)) core.bench

-- who has the receiver's turn of the lane to the host on the link of a core
abbrev pub core_receiver : CoreState → Option ℕ
core_receiver core = option_and_then (λ (bench : BenchState). holder (link_in bench).to_host.receiver) core.bench

-- the channels of the host end of a core's link
abbrev pub core_channels : CoreState → Option (List Channel)
core_channels core = option_map (λ (bench : BenchState). (link_in bench).to_host.desk.channels) core.bench
