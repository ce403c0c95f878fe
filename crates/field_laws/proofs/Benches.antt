-- What calls and the manager leave of a bench has its numbers and bytes within their types, and so has what calls reach.
use Rattle.std.proofs.Common.{◌≡◌, ℕ, zero, suc, ◌+◌, ◌-◌, ◌<◌, ◌^◌, eqb, Bool, true, false, cond, List, length, Option, Some, None, IfSome, is_some, slice_get, slice_set, refl, sym, ap, subst, arith}
use Rattle.std.specs.Prelude.{All}
use Rattle.std.specs.Option.{option_map, option_or}
use Rattle.std.proofs.lemmas.Bool.{cond_both, eqb-false, true≢false}
use Rattle.std.proofs.lemmas.List.{length-set}
use Rattle.std.proofs.lemmas.List.Elements.{All-replicate, All-set}
use Rattle.std.proofs.lemmas.Option.{get_or_from_slice_get, slice_get_within}
use Rattle.rp_base.specs.declared.kinds.End.{End}
use Rattle.rp_base.specs.declared.kinds.End.TheVariants as side
use Rattle.rp_base.specs.declared.limits.TheConstants.{STEPS_MOST}
use Rattle.lane_model.specs.declared.calls.LinkConfig.{LinkConfig}
use Rattle.lane_model.specs.declared.calls.Outcome.{Outcome}
use Rattle.lane_model.specs.declared.calls.Outcome.TheVariants as outcome
use Rattle.lane_model.specs.declared.calls.Wish.{Wish}
use Rattle.lane_model.specs.declared.recoveries.ReclaimRefusal.{ReclaimRefusal}
use Rattle.lane_model.specs.declared.recoveries.ReopenFault.{ReopenFault}
use Rattle.lane_model.specs.declared.recoveries.ReopenFault.TheVariants as reopen_fault
use Rattle.lane_model.specs.declared.stages.Turn.{Turn}
use Rattle.lane_model.specs.declared.stages.Turn.TheVariants as turn
use Rattle.lane_model.specs.declared.states.Holding.{Holding}
use Rattle.lane_model.specs.declared.states.LaneState.{LaneState}
use Rattle.lane_model.specs.Conditions.{MayStep, is_calling}
use Rattle.lane_model.specs.Crashes.{after_receive_end, after_send_end, ended_turn, least_held, opened_lane, turn_out}
use Rattle.lane_model.specs.Forms.{list_form}
use Rattle.lane_model.specs.Lanes.{has_call, is_live_in}
use Rattle.lane_model.specs.Links.{LinkState, caller_step, end_of, free_number, with_caller}
use Rattle.lane_model.specs.Recoveries.{link_reopen_refusal, link_reclaim_refusal, without_caller}
use Rattle.lane_model.specs.Soundness.{SoundLink}
use Rattle.lane_model.specs.WholeCalls.{WhereOn}
use Rattle.lane_laws.specs.Moves.{Step}
use Rattle.lane_laws.proofs.LinkRuns.{move_sound}
use Rattle.channel_bus.specs.Sides.{EndState, side_meaning}
use Rattle.link_bench.specs.declared.benches.BegunCall.{BegunCall}
use Rattle.link_bench.specs.declared.benches.Reach.TheVariants as reach
use Rattle.link_bench.specs.BenchCrashes.{after_close, after_reclaim, after_reopen, reclaim_leaves, reclaim_leaves_at}
use Rattle.link_bench.specs.BenchEnds.{bench_to_reopen, crashed_bench, with_fresh_caller, with_new_host_unless}
use Rattle.link_bench.specs.Benches.{BenchState, BenchWalk, IsSendable, Walk, LinkRings, advance_steps, advance_walk, begin_fault, begin_walk, begun_call_of, bench_walk, call_steps, call_walk, is_in_call, later_steps, link_in, lists_of, new_bench_of, on_lists, on_rings, start_walk, walk_lists, walk_on, with_begun_call, with_new_caller}
use Rattle.link_bench.proofs.BegunCalls.{begin_may}
use Rattle.link_bench.proofs.CrashWalks.{crash_walk, remote_walk}
use Rattle.link_bench.proofs.FitCalls.{begun_at, begun_or, calling_may}
use Rattle.link_bench.proofs.KeptWalks.{next_may}
use Rattle.link_bench.proofs.Lists.{call_lists, close_lists, later_lists, reclaim_lists}
use Rattle.core_laws.specs.BenchMoves.{IsReachedBench}
use Rattle.core_laws.proofs.CrashReclaims.{reached_sound}
use Rattle.field_laws.specs.Fields.{IsFieldLane, IsFieldLink, IsFieldOutcome, IsFieldReceiving, IsFieldSending, IsFieldSide, IsFieldTurn, IsFieldWish}
use Rattle.field_laws.specs.FieldBenches.{IsFieldBegun, IsFieldBench, IsFieldReach}
use Rattle.field_laws.proofs.Bytes.{no_bytes}
use Rattle.field_laws.proofs.Sides.{fresh_fields}
use Rattle.field_laws.proofs.Steps.{step_fields}

-- ---- calls

-- a sound link whose fields are within their types
pub record HoldsLink (link : LinkState EndState) : Type 0 where
  pub sound : SoundLink link
  pub fields : IsFieldLink link

pub record HoldsWalk (walk : Walk (LaneState EndState)) : Type 0 where
  pub link : HoldsLink walk.link
  pub reach : IsFieldReach walk.reach

step_holds : (link : LinkState EndState) (caller follows : ℕ) (wished : Option Wish) → MayStep link caller wished → HoldsLink link → IfSome wished IsFieldWish
    → HoldsLink (caller_step side_meaning link caller follows wished).state
step_holds link caller follows wished may is wishes = record {
  sound = move_sound side_meaning link (Step caller follows wished) is.sound may;
  fields = (step_fields link caller follows wished is.sound is.fields wishes).state;
}

walk_holds : (state : LinkState EndState) (caller steps : ℕ) (done : Outcome) (later : ℕ → Walk (LaneState EndState)) → HoldsLink state → IsFieldOutcome done → WhereOn done (MayStep state caller None)
    → ((step : ℕ) → step < 2 ^ 64 → MayStep state caller None → HoldsWalk (later step)) → HoldsWalk (walk_on state steps done later)
walk_holds state caller steps (outcome.At step) later is told may rest = rest step told may
walk_holds state caller steps (outcome.Ended ended) later is told may rest = record { link = is; reach = told }

later_holds : (more last steps : ℕ) (link : LinkState EndState) (caller : ℕ) → last < 2 ^ 64 → MayStep link caller None → HoldsLink link → HoldsWalk (later_steps on_lists more last steps link caller)
unfolding later_steps
later_holds zero last steps link caller small may is = record { link = is; reach = small }
later_holds (suc more) last steps link caller small may is =
    let step = caller_step side_meaning link caller 0 None in
    cond_both (eqb steps STEPS_MOST) (record { link = link; steps = steps; reach = reach.Limit })
    (walk_on step.state (steps + 1) step.outcome (λ done. later_steps on_lists more done (steps + 1) step.state caller)) HoldsWalk
    (λ _. record { link = is; reach = tt })
    (λ _. walk_holds step.state caller (steps + 1) step.outcome (λ done. later_steps on_lists more done (steps + 1) step.state caller) (step_holds link caller 0 None may is tt)
    (step_fields link caller 0 None is.sound is.fields tt).outcome (next_may caller link 0 None may)
    (λ done told next. later_holds more done (steps + 1) step.state caller told next (step_holds link caller 0 None may is tt)))

call_holds : (more steps : ℕ) (link : LinkState EndState) (caller follows : ℕ) (wanted : Wish) → MayStep link caller (Some wanted) → HoldsLink link → IsFieldWish wanted
    → HoldsWalk (call_steps on_lists more steps link caller follows wanted)
unfolding call_steps
call_holds more steps link caller follows wanted may is wishes =
    let step = caller_step side_meaning link caller follows (Some wanted) in
    cond_both (eqb steps STEPS_MOST) (record { link = link; steps = steps; reach = reach.Limit })
    (walk_on step.state (steps + 1) step.outcome (λ done. later_steps on_lists more done (steps + 1) step.state caller)) HoldsWalk
    (λ _. record { link = is; reach = tt })
    (λ _. walk_holds step.state caller (steps + 1) step.outcome (λ done. later_steps on_lists more done (steps + 1) step.state caller) (step_holds link caller follows (Some wanted) may is wishes)
    (step_fields link caller follows (Some wanted) is.sound is.fields wishes).outcome (next_may caller link follows (Some wanted) may)
    (λ done told next. later_holds more done (steps + 1) step.state caller told next (step_holds link caller follows (Some wanted) may is wishes)))

-- the same on rings
later_on : (more last steps : ℕ) (rings : LinkRings) (caller : ℕ) → last < 2 ^ 64 → MayStep (lists_of rings) caller None → HoldsLink (lists_of rings)
    → HoldsWalk (walk_lists on_rings (later_steps on_rings more last steps rings caller))
later_on more last steps rings caller small may is = subst HoldsWalk (sym (later_lists more last steps rings caller)) (later_holds more last steps (lists_of rings) caller small may is)

call_on : (more steps : ℕ) (rings : LinkRings) (caller follows : ℕ) (wanted : Wish) → MayStep (lists_of rings) caller (Some wanted) → HoldsLink (lists_of rings) → IsFieldWish wanted
    → HoldsWalk (walk_lists on_rings (call_steps on_rings more steps rings caller follows wanted))
call_on more steps rings caller follows wanted may is wishes =
    subst HoldsWalk (sym (call_lists more steps rings caller follows wanted)) (call_holds more steps (lists_of rings) caller follows wanted may is wishes)

-- ---- the calls of a bench

pub item_at : {X : Type 0} (P : X → Type 0) (items : List X) (place : ℕ) (item : X) → slice_get items place ≡ Some item → All P items → P item
item_at P items place item found all = subst P (get_or_from_slice_get items place item item found) (all place item (slice_get_within items place item found))

-- what a walk leaves of a bench, and what it reached
pub record HoldsBenchWalk (walk : BenchWalk) : Type 0 where
  pub bench : IsFieldBench walk.bench
  pub reach : IsFieldReach walk.reach

cleared : (begun : List (Option BegunCall)) (caller : ℕ) → All IsFieldBegun begun → All IsFieldBegun (slice_set begun caller None)
cleared begun caller all = All-set IsFieldBegun begun caller None tt all

begun_wish : (bench : BenchState) (caller : ℕ) (call : BegunCall) → IsFieldBench bench → begun_call_of bench caller ≡ Some call → IsFieldWish call.wish
begun_wish bench caller call is found = item_at IsFieldBegun bench.begun caller (Some call) (begun_at (slice_get bench.begun caller) call found) is.begun

-- the link of a bench that is reached
holds_link : (bench : BenchState) → IsReachedBench bench → IsFieldBench bench → HoldsLink (link_in bench)
holds_link bench reached is = record { sound = reached_sound (link_in bench) reached.link; fields = is.link }

advance_at : (bench : BenchState) (more steps caller : ℕ) (found : Option BegunCall) → begun_call_of bench caller ≡ found → is_in_call bench caller ≡ true → IsReachedBench bench → IsFieldBench bench
    → HoldsBenchWalk (advance_steps bench more steps caller found)
advance_at bench more steps caller (Some call) found in_call reached is =
    let may = reached.fit caller call (begun_at (slice_get bench.begun caller) call found) in
    let left = call_on more steps bench.rings caller call.follows call.wish may (holds_link bench reached is) (begun_wish bench caller call is found) in
    cond_both (eqb steps STEPS_MOST) (record { bench = bench; steps = steps; reach = reach.Limit })
    (bench_walk (with_begun_call bench caller None) (call_steps on_rings more steps bench.rings caller call.follows call.wish)) HoldsBenchWalk
    (λ _. record { bench = is; reach = tt })
    (λ _. record { bench = record { link = left.link.fields; begun = cleared bench.begun caller is.begun }; reach = left.reach })
advance_at bench more steps caller None none in_call reached is =
    let may = calling_may (link_in bench) caller (begun_or (begun_call_of bench caller) (is_calling (link_in bench) caller) none in_call) in
    let left = later_on (more + 1) 0 steps bench.rings caller (omega arith) may (holds_link bench reached is) in
    record { bench = record { link = left.link.fields; begun = is.begun }; reach = left.reach }

pub advance_fields : (bench : BenchState) (more steps caller : ℕ) → is_in_call bench caller ≡ true → IsReachedBench bench → IsFieldBench bench → HoldsBenchWalk (advance_walk bench more steps caller)
advance_fields bench more steps caller in_call reached is = advance_at bench more steps caller (begun_call_of bench caller) refl in_call reached is

called_to : (bench : BenchState) (more steps caller : ℕ) (wanted : Wish) → begin_fault bench caller wanted ≡ None → IsSendable wanted → IsFieldWish wanted → IsReachedBench bench → IsFieldBench bench
    → HoldsBenchWalk (begin_walk bench more steps caller wanted)
called_to bench more steps caller wanted ready sendable wishes reached is =
    let left = call_on more steps bench.rings caller (link_in bench).era.inc wanted (begin_may bench caller wanted sendable ready) (holds_link bench reached is) wishes in
    record { bench = record { link = left.link.fields; begun = is.begun }; reach = left.reach }

pub call_fields : (bench : BenchState) (steps caller : ℕ) (wanted : Wish) → begin_fault bench caller wanted ≡ None → IsSendable wanted → IsFieldWish wanted → IsReachedBench bench → IsFieldBench bench
    → HoldsBenchWalk (call_walk bench steps caller wanted)
call_fields bench steps caller wanted ready sendable wishes reached is = called_to bench 6 steps caller wanted ready sendable wishes reached is

pub start_fields : (bench : BenchState) (steps caller : ℕ) (wanted : Wish) → begin_fault bench caller wanted ≡ None → IsSendable wanted → IsFieldWish wanted → IsReachedBench bench → IsFieldBench bench
    → HoldsBenchWalk (start_walk bench steps caller wanted)
start_fields bench steps caller wanted ready sendable wishes reached is = called_to bench 0 steps caller wanted ready sendable wishes reached is

pub begun_fields : (bench : BenchState) (caller : ℕ) (wanted : Wish) → IsFieldWish wanted → IsFieldBench bench
    → IsFieldBench (with_begun_call bench caller (Some (record { follows = (link_in bench).era.inc; wish = wanted })))
begun_fields bench caller wanted wishes is = record { link = is.link; begun = All-set IsFieldBegun bench.begun caller (Some (record { follows = (link_in bench).era.inc; wish = wanted })) wishes is.begun }

-- ---- callers

more_callers : (callers : List (Option End)) (new : End) (number : Option ℕ) → length callers ≡ 64 → length (with_caller callers new number) ≡ 64
more_callers callers new None len = len
more_callers callers new (Some number) len = let same = length-set callers number (Some new) in omega (arith, len, same)

pub caller_fields : (bench : BenchState) (end : End) (number : Option ℕ) → IsFieldBench bench → IsFieldBench (with_new_caller bench end number)
caller_fields bench end number is = record {
  link = record { inc = is.link.inc; to_host = is.link.to_host; to_remote = is.link.to_remote; callers = more_callers (link_in bench).callers end number is.link.callers };
  begun = is.begun;
}

ended_fields : {C : Type 0} (P : C → Type 0) (now : Turn C) (caller : ℕ) → IsFieldTurn P now → IsFieldTurn P (ended_turn now caller)
ended_fields P now caller is = cond_both (has_call now caller) turn.Free now (IsFieldTurn P) (λ _. tt) (λ _. is)

send_end_fields : (state : LaneState EndState) (caller : ℕ) → IsFieldLane state → IsFieldLane (after_send_end state caller)
send_end_fields state caller is =
    record { accepted = is.accepted; book = is.book; sender = ended_fields IsFieldSending state.sender caller is.sender; receiver = is.receiver; desk = is.desk }

receive_end_fields : (state : LaneState EndState) (caller : ℕ) → IsFieldLane state → IsFieldLane (after_receive_end state caller)
receive_end_fields state caller is =
    record { accepted = is.accepted; book = is.book; sender = is.sender; receiver = ended_fields IsFieldReceiving state.receiver caller is.receiver; desk = is.desk }

fewer_callers : (callers : List (Option End)) (caller : ℕ) → length callers ≡ 64 → length (slice_set callers caller None) ≡ 64
fewer_callers callers caller len = let same = length-set callers caller None in omega (arith, len, same)

gone_fields : (link : LinkState EndState) (found : Option End) (caller : ℕ) → IsFieldLink link → IsFieldLink (without_caller (list_form side_meaning) link found caller)
gone_fields link None caller is = is
gone_fields link (Some side.Host) caller is = record {
  inc = is.inc;
  to_host = receive_end_fields link.to_host caller is.to_host;
  to_remote = send_end_fields link.to_remote caller is.to_remote;
  callers = fewer_callers link.callers caller is.callers;
}
gone_fields link (Some side.Remote) caller is = record {
  inc = is.inc;
  to_host = send_end_fields link.to_host caller is.to_host;
  to_remote = receive_end_fields link.to_remote caller is.to_remote;
  callers = fewer_callers link.callers caller is.callers;
}

pub reclaim_fields : (bench : BenchState) (caller : ℕ) → IsFieldBench bench → IsFieldBench (after_reclaim bench caller)
reclaim_fields bench caller is = record { link = subst IsFieldLink (sym (reclaim_lists bench caller)) (gone_fields (link_in bench) (end_of (link_in bench).callers caller) caller is.link); begun = cleared bench.begun caller is.begun }

reclaimed_at : (bench : BenchState) (caller : ℕ) (end : Option End) (why : Option ReclaimRefusal) → IsFieldBench bench → IsFieldBench (reclaim_leaves_at bench caller end why)
reclaimed_at bench caller (Some end) None is = reclaim_fields bench caller is
reclaimed_at bench caller (Some end) (Some why) is = is
reclaimed_at bench caller None why is = is

pub tried_fields : (bench : BenchState) (caller : ℕ) (why : Option ReclaimRefusal) → IsFieldBench bench → IsFieldBench (reclaim_leaves bench caller why)
tried_fields bench caller why is = reclaimed_at bench caller (end_of (link_in bench).callers caller) why is

-- ---- a close and a reopening

pub close_fields : (bench : BenchState) → IsFieldBench bench → IsFieldBench (after_close bench)
close_fields bench is = record {
  link = subst IsFieldLink (sym (close_lists bench))
      (cond_both (is_live_in (link_in bench).era (link_in bench).era.inc) (record (link_in bench) { era = record { inc = (link_in bench).era.inc; is_live = false } }) (link_in bench) IsFieldLink
      (λ _. record { inc = is.link.inc; to_host = is.link.to_host; to_remote = is.link.to_remote; callers = is.link.callers }) (λ _. is.link));
  begun = is.begun;
}

pub opened_fields : (capacity book : ℕ) (desk : EndState) → book < 2 ^ 64 → IsFieldSide desk → IsFieldLane (opened_lane capacity book desk)
opened_fields capacity book desk small is = record { accepted = λ number. no_bytes; book = small; sender = tt; receiver = tt; desk = is }

-- where nothing keeps a link from being reopened an incarnation is left
unspent : (one two three : Option ReopenFault) (inc : ℕ) (spent : Bool) → eqb inc (2 ^ 32 - 1) ≡ spent → option_or one (option_or two (option_or three (cond spent (Some reopen_fault.IncarnationsSpent) None))) ≡ None
    → eqb inc (2 ^ 32 - 1) ≡ false
unspent (Some one) two three inc spent is none = absurd (true≢false (ap is_some none))
unspent None (Some two) three inc spent is none = absurd (true≢false (ap is_some none))
unspent None None (Some three) inc spent is none = absurd (true≢false (ap is_some none))
unspent None None None inc true is none = absurd (true≢false (ap is_some none))
unspent None None None inc false is none = is

next_small : (link : LinkState EndState) → IsFieldLink link → link_reopen_refusal link ≡ None → link.era.inc + 1 < 2 ^ 32
next_small link is clear =
    let spent = unspent (cond link.era.is_live (Some (reopen_fault.StillOpen link.era)) None) (option_map reopen_fault.StillTurn (option_or (turn_out link.to_host) (turn_out link.to_remote)))
    (option_map (λ (h : Holding). reopen_fault.StillHeld h.caller h.number) (option_or (least_held link.to_host.lane.held) (least_held link.to_remote.lane.held)))
    link.era.inc (eqb link.era.inc (2 ^ 32 - 1)) refl clear in
    let other = eqb-false link.era.inc (2 ^ 32 - 1) spent in
    let small = is.inc in
    omega (arith, small, other)

pub reopen_fields : (bench : BenchState) → link_reopen_refusal (link_in bench) ≡ None → IsFieldBench bench → IsFieldBench (after_reopen bench)
reopen_fields bench clear is = record {
  link = record {
    inc = next_small (link_in bench) is.link clear;
    to_host = opened_fields (link_in bench).to_host.lane.capacity (link_in bench).to_host.lane.book _ is.link.to_host.book (fresh_fields (link_in bench).to_host.desk);
    to_remote = opened_fields (link_in bench).to_remote.lane.capacity (link_in bench).to_remote.lane.book _ is.link.to_remote.book (fresh_fields (link_in bench).to_remote.desk);
    callers = is.link.callers;
  };
  begun = is.begun;
}

-- a new link
pub new_fields : (config : LinkConfig) (host remote : EndState) → config.first < 2 ^ 32 → config.book < 2 ^ 64 → IsFieldSide host → IsFieldSide remote → IsFieldBench (new_bench_of config host remote)
new_fields config host remote first book at_host at_remote = record {
  link = record { inc = first; to_host = opened_fields _ config.book host book at_host; to_remote = opened_fields _ config.book remote book at_remote; callers = refl };
  begun = All-replicate IsFieldBegun 64 None tt;
}

-- ---- a crash and a recovery

fresh_caller : (bench : BenchState) (end : End) → IsFieldBench bench → IsFieldBench (with_fresh_caller bench end)
fresh_caller bench end is = caller_fields bench end (free_number (link_in bench).callers) is

pub crash_fields : (bench : BenchState) → IsFieldBench bench → IsFieldBench (crashed_bench bench)
crash_fields bench is = crash_walk IsFieldBench (remote_walk IsFieldBench reclaim_fields (λ left gone. fresh_caller left side.Remote gone)) bench (close_fields bench is)

renewed_fields : (bench : BenchState) (why : Option ReclaimRefusal) → IsFieldBench bench → IsFieldBench (with_new_host_unless bench why)
renewed_fields bench None is = fresh_caller (after_reclaim bench 0) side.Host (reclaim_fields bench 0 is)
renewed_fields bench (Some why) is = is

pub ready_fields : (bench : BenchState) → IsFieldBench bench → IsFieldBench (bench_to_reopen bench)
ready_fields bench is = renewed_fields bench (link_reclaim_refusal (link_in bench) 0) is
