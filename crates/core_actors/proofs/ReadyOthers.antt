-- What others do on the link of a core, and a record that the worker runs, leave its actors ready for their next steps.
use Rattle.std.proofs.Common.{◌≡◌, ◌≢◌, ◌<◌, ℕ, zero, suc, ◌+◌, eqb, Bool, true, false, not, List, [], ◌∷◌, ◌++◌, drop, Option, Some, None, Result, Ok, Err, option_and_then, slice_get, slice_set, refl, sym, ap, subst, ◌∙◌, arith}
use Rattle.std.proofs.lemmas.Bool.{cond_both, false≢true, ne_eqb, or_parts}
use Rattle.rp_base.specs.declared.kinds.End.{End}
use Rattle.rp_base.specs.declared.kinds.End.TheVariants as side
use Rattle.rp_base.specs.declared.limits.TheConstants.{STEPS_MOST}
use Rattle.addr_translate.specs.Maps.{Mapping}
use Rattle.remote_code.specs.declared.faults.WorkerFault.{WorkerFault}
use Rattle.remote_code.specs.declared.records.Record.{Record}
use Rattle.remote_code.specs.declared.records.Record.TheVariants as record_kind
use Rattle.remote_core.specs.Records.{next_record}
use Rattle.remote_core.specs.Workers.{WorkerState}
use Rattle.remote_core.specs.Works.{work_of, work_of_next, work_of_record}
use Rattle.remote_core.specs.declared.workers.Work.{Work as Worked}
use Rattle.remote_core.specs.declared.workers.Work.TheVariants as worked
use Rattle.lane_model.specs.declared.calls.CallEnd.{CallEnd}
use Rattle.lane_model.specs.declared.calls.CallEnd.TheVariants as end
use Rattle.lane_model.specs.declared.calls.Wish.{Wish}
use Rattle.lane_model.specs.declared.recoveries.ReclaimRefusal.{ReclaimRefusal}
use Rattle.lane_model.specs.declared.stages.Receiving.{Receiving}
use Rattle.lane_model.specs.declared.stages.Turn.{Turn}
use Rattle.lane_model.specs.declared.stages.Turn.TheVariants as turn
use Rattle.lane_model.specs.declared.stages.Work.{Work}
use Rattle.lane_model.specs.declared.stages.Work.TheVariants as work
use Rattle.lane_model.specs.declared.states.Holding.{Holding}
use Rattle.lane_model.specs.declared.states.LaneState.{LaneState}
use Rattle.lane_model.specs.Crashes.{after_receive_end, after_send_end}
use Rattle.lane_model.specs.Forms.{list_form}
use Rattle.lane_model.specs.Lanes.{has_call}
use Rattle.lane_model.specs.Links.{LinkState, Lanes, end_of, free_number, lanes_of}
use Rattle.lane_model.specs.Recoveries.{link_reclaim_refusal, without_caller}
use Rattle.lane_model.proofs.CrashSteps.{others_still_hold}
use Rattle.lane_model.proofs.Steps.{no_other}
use Rattle.channel_bus.specs.Sides.{EndState, side_meaning}
use Rattle.link_bench.specs.declared.benches.BegunCall.{BegunCall}
use Rattle.link_bench.specs.declared.benches.Reach.TheVariants as reach
use Rattle.link_bench.specs.BenchCrashes.{after_reclaim, reclaim_leaves, reclaim_leaves_at}
use Rattle.link_bench.specs.Benches.{AreFitCalls, BenchState, BenchWalk, IsSendable, advance_steps, advance_walk, begin_fault, begun_call_of, bench_walk, call_steps, call_walk, is_in_call, link_in, on_rings, start_walk, with_begun_call, with_new_caller}
use Rattle.link_bench.proofs.BegunCalls.{begin_may}
use Rattle.link_bench.proofs.FitCalls.{begun_at, begun_or, calling_may}
use Rattle.link_bench.proofs.Lists.{reclaim_lists}
use Rattle.core_actors.specs.Actors.{ActorsState}
use Rattle.core_actors.specs.ActorEnds.{actors_at_end, end_answer, sends_of}
use Rattle.core_actors.specs.ActorSteps.{actors_after_record, wishes_of_work}
use Rattle.core_actors.specs.PendingCalls.{AreFitLanes, AreGivable, AreOwnUsed, HasNoneBegun, IsNamed, IsOwnTurn, IsReadyBench, IsSendsTurn, give_numbers_after, give_numbers}
use Rattle.core_actors.proofs.PendingActors.{give_numbers_both, none_behind, sends_nothing, silent}
use Rattle.core_actors.proofs.PendingLanes.{KeepsOwn}
use Rattle.core_actors.proofs.PendingSteps.{fit_lanes, other_call, other_later}

-- ---- calls that are begun no more

pub cleared_begun : (begun : List (Option BegunCall)) (gone caller : ℕ) → option_and_then (λ found. found) (slice_get begun caller) ≡ None
    → option_and_then (λ found. found) (slice_get (slice_set begun gone None) caller) ≡ None
cleared_begun [] gone caller none = none
cleared_begun (found ∷ begun) zero zero none = refl
cleared_begun (found ∷ begun) zero (suc caller) none = none
cleared_begun (found ∷ begun) (suc gone) zero none = none
cleared_begun (found ∷ begun) (suc gone) (suc caller) none = cleared_begun begun gone caller none

pub reclaim_begun : (bench : BenchState) (gone : ℕ) → HasNoneBegun bench → HasNoneBegun (after_reclaim bench gone)
reclaim_begun bench gone is = record { host = cleared_begun bench.begun gone 0 is.host; worker = cleared_begun bench.begun gone 1 is.worker }

-- ---- a reclaim of another

gone_receives : (state : LaneState EndState) (gone caller : ℕ) → gone ≢ caller → KeepsOwn caller state (after_receive_end state gone)
gone_receives state gone caller differ = record {
  has = cond_both (has_call state.receiver gone) turn.Free state.receiver (λ (now : Turn Receiving). has_call now caller ≡ has_call state.receiver caller)
      (λ is. sym (no_other state.receiver gone caller is differ)) (λ _. refl);
  turn_stays = λ mine. cond_both (has_call state.receiver gone) turn.Free state.receiver (λ (now : Turn Receiving). now ≡ state.receiver)
      (λ is. absurd (false≢true (sym (no_other state.receiver gone caller is differ) ∙ mine))) (λ _. refl);
  held = λ number has. others_still_hold state.lane.held gone number caller (ne_eqb caller gone (λ same. differ (sym same))) has;
  sends = λ is. is;
}

gone_sends : (state : LaneState EndState) (gone caller : ℕ) → KeepsOwn caller state (after_send_end state gone)
gone_sends state gone caller = record {
  has = refl;
  turn_stays = λ _. refl;
  held = λ number has. has;
  sends = λ is. cond_both (has_call state.sender gone) turn.Free state.sender IsSendsTurn (λ _. tt) (λ _. is);
}

gone_fit : (link : LinkState EndState) (found : Option End) (gone caller : ℕ) (mine : End) (is_first : Bool) (calls : List Wish) → gone ≢ caller
    → AreFitLanes (lanes_of link mine) caller is_first calls → AreFitLanes (lanes_of (without_caller (list_form side_meaning) link found gone) mine) caller is_first calls
gone_fit link None gone caller mine is_first calls differ are = are
gone_fit link (Some side.Host) gone caller side.Host is_first calls differ are =
    fit_lanes caller is_first calls (lanes_of link side.Host) _ (gone_sends link.to_remote gone caller) (gone_receives link.to_host gone caller differ) are
gone_fit link (Some side.Host) gone caller side.Remote is_first calls differ are =
    fit_lanes caller is_first calls (lanes_of link side.Remote) _ (gone_receives link.to_host gone caller differ) (gone_sends link.to_remote gone caller) are
gone_fit link (Some side.Remote) gone caller side.Host is_first calls differ are =
    fit_lanes caller is_first calls (lanes_of link side.Host) _ (gone_receives link.to_remote gone caller differ) (gone_sends link.to_host gone caller) are
gone_fit link (Some side.Remote) gone caller side.Remote is_first calls differ are =
    fit_lanes caller is_first calls (lanes_of link side.Remote) _ (gone_sends link.to_host gone caller) (gone_receives link.to_remote gone caller differ) are

-- ---- what others do

pub put_other : (begun : List (Option BegunCall)) (other caller : ℕ) (found : Option BegunCall) → other ≢ caller → option_and_then (λ found. found) (slice_get begun caller) ≡ None
    → option_and_then (λ found. found) (slice_get (slice_set begun other found) caller) ≡ None
put_other [] other caller found differ none = none
put_other (first ∷ begun) zero zero found differ none = absurd (differ refl)
put_other (first ∷ begun) zero (suc caller) found differ none = none
put_other (first ∷ begun) (suc other) zero found differ none = none
put_other (first ∷ begun) (suc other) (suc caller) found differ none = put_other begun other caller found (λ same. differ (ap suc same)) none

module _ (actors : ActorsState) (bench : BenchState) (caller : ℕ) (other : 1 < caller) (begun : HasNoneBegun bench) (ready : IsReadyBench actors bench) where
  no_host : caller ≢ 0
  no_host same = absurd (omega (arith, other, same))

  no_worker : caller ≢ 1
  no_worker same = absurd (omega (arith, other, same))

  pub begun_ready : (call : BegunCall) → HasNoneBegun (with_begun_call bench caller (Some call)) × IsReadyBench actors (with_begun_call bench caller (Some call))
  begun_ready call = (
    record { host = put_other bench.begun caller 0 (Some call) no_host begun.host; worker = put_other bench.begun caller 1 (Some call) no_worker begun.worker },
    record { host = ready.host; worker = ready.worker },
  )

  pub call_ready : (steps : ℕ) (wanted : Wish) → begin_fault bench caller wanted ≡ None → IsSendable wanted
      → HasNoneBegun (call_walk bench steps caller wanted).bench × IsReadyBench actors (call_walk bench steps caller wanted).bench
  call_ready steps wanted clear sendable =
      let may = begin_may bench caller wanted sendable clear in (
        record { host = begun.host; worker = begun.worker },
        record {
          host = other_call caller 0 side.Host (not actors.is_taking) actors.host_calls no_host 6 steps bench.rings (link_in bench).era.inc wanted may ready.host;
          worker = other_call caller 1 side.Remote true actors.worker_calls no_worker 6 steps bench.rings (link_in bench).era.inc wanted may ready.worker;
        },
      )

  pub start_ready : (steps : ℕ) (wanted : Wish) → begin_fault bench caller wanted ≡ None → IsSendable wanted
      → HasNoneBegun (start_walk bench steps caller wanted).bench × IsReadyBench actors (start_walk bench steps caller wanted).bench
  start_ready steps wanted clear sendable =
      let may = begin_may bench caller wanted sendable clear in (
        record { host = begun.host; worker = begun.worker },
        record {
          host = other_call caller 0 side.Host (not actors.is_taking) actors.host_calls no_host 0 steps bench.rings (link_in bench).era.inc wanted may ready.host;
          worker = other_call caller 1 side.Remote true actors.worker_calls no_worker 0 steps bench.rings (link_in bench).era.inc wanted may ready.worker;
        },
      )

  advance_at : (more steps : ℕ) (found : Option BegunCall) → begun_call_of bench caller ≡ found → AreFitCalls (link_in bench) bench.begun → is_in_call bench caller ≡ true
      → HasNoneBegun (advance_steps bench more steps caller found).bench × IsReadyBench actors (advance_steps bench more steps caller found).bench
  advance_at more steps (Some call) is fit in_call =
      let may = fit caller call (begun_at (slice_get bench.begun caller) call is) in
      cond_both (eqb steps STEPS_MOST) (record { bench = bench; steps = steps; reach = reach.Limit })
      (bench_walk (with_begun_call bench caller None) (call_steps on_rings more steps bench.rings caller call.follows call.wish))
      (λ (walk : BenchWalk). HasNoneBegun walk.bench × IsReadyBench actors walk.bench) (λ _. (begun, ready))
      (λ _. (
        record { host = cleared_begun bench.begun caller 0 begun.host; worker = cleared_begun bench.begun caller 1 begun.worker },
        record {
          host = other_call caller 0 side.Host (not actors.is_taking) actors.host_calls no_host more steps bench.rings call.follows call.wish may ready.host;
          worker = other_call caller 1 side.Remote true actors.worker_calls no_worker more steps bench.rings call.follows call.wish may ready.worker;
        },
      ))
  advance_at more steps None none fit in_call =
      let may = calling_may (link_in bench) caller (begun_or (begun_call_of bench caller) _ none in_call) in (
        record { host = begun.host; worker = begun.worker },
        record {
          host = other_later caller 0 side.Host (not actors.is_taking) actors.host_calls no_host (more + 1) 0 steps bench.rings may ready.host;
          worker = other_later caller 1 side.Remote true actors.worker_calls no_worker (more + 1) 0 steps bench.rings may ready.worker;
        },
      )

  pub advance_ready : (more steps : ℕ) → AreFitCalls (link_in bench) bench.begun → is_in_call bench caller ≡ true
      → HasNoneBegun (advance_walk bench more steps caller).bench × IsReadyBench actors (advance_walk bench more steps caller).bench
  advance_ready more steps fit in_call = advance_at more steps (begun_call_of bench caller) refl fit in_call

  gone : (mine : ℕ) (end : End) (is_first : Bool) (calls : List Wish) → caller ≢ mine → AreFitLanes (lanes_of (link_in bench) end) mine is_first calls
      → AreFitLanes (lanes_of (link_in (after_reclaim bench caller)) end) mine is_first calls
  gone mine end is_first calls differ are =
      subst (λ (link : LinkState EndState). AreFitLanes (lanes_of link end) mine is_first calls) (sym (reclaim_lists bench caller))
      (gone_fit (link_in bench) (end_of (link_in bench).callers caller) caller mine end is_first calls differ are)

  reclaim_at : (found : Option End) (why : Option ReclaimRefusal)
      → HasNoneBegun (reclaim_leaves_at bench caller found why) × IsReadyBench actors (reclaim_leaves_at bench caller found why)
  reclaim_at (Some end) None = (
    reclaim_begun bench caller begun,
    record {
      host = gone 0 side.Host (not actors.is_taking) actors.host_calls no_host ready.host;
      worker = gone 1 side.Remote true actors.worker_calls no_worker ready.worker;
    },
  )
  reclaim_at (Some end) (Some why) = (begun, ready)
  reclaim_at None why = (begun, ready)

  pub reclaim_ready : HasNoneBegun (reclaim_leaves bench caller (link_reclaim_refusal (link_in bench) caller)) × IsReadyBench actors (reclaim_leaves bench caller (link_reclaim_refusal (link_in bench) caller))
  reclaim_ready = reclaim_at (end_of (link_in bench).callers caller) (link_reclaim_refusal (link_in bench) caller)

-- a new caller
pub caller_ready : (actors : ActorsState) (bench : BenchState) (end : End) → HasNoneBegun bench → IsReadyBench actors bench
    → HasNoneBegun (with_new_caller bench end (free_number (link_in bench).callers)) × IsReadyBench actors (with_new_caller bench end (free_number (link_in bench).callers))
caller_ready actors bench end begun ready = (record { host = begun.host; worker = begun.worker }, record { host = ready.host; worker = ready.worker })

-- ---- what the drivers send

sends_same : (calls : List Wish) (message : Option (List ℕ)) → give_numbers (calls ++ sends_of message) ≡ give_numbers calls
sends_same calls message = give_numbers_both calls (sends_of message) ∙ ap (λ (numbers : List ℕ). give_numbers calls ++ numbers) (sends_nothing message) ∙ none_behind (give_numbers calls)

sends_drop : (calls : List Wish) (message : Option (List ℕ)) → give_numbers (drop 1 (calls ++ sends_of message)) ≡ give_numbers (drop 1 calls)
sends_drop [] None = refl
sends_drop [] (Some message) = refl
sends_drop (first ∷ later) message = sends_same later message

sends_after : (ended : CallEnd) (calls : List Wish) (message : Option (List ℕ)) → give_numbers_after ended (calls ++ sends_of message) ≡ give_numbers_after ended calls
sends_after (end.Took number judged) calls message = ap (λ (numbers : List ℕ). number ∷ numbers) (sends_same calls message)
sends_after (end.Gave number) calls message = sends_drop calls message
sends_after (end.Sent number) calls message = sends_same calls message
sends_after (end.Bound endpoint) calls message = sends_same calls message
sends_after (end.Unbound endpoint) calls message = sends_same calls message
sends_after (end.Busy other) calls message = sends_same calls message
sends_after (end.Dead era) calls message = sends_same calls message
sends_after (end.NoBuffer accepted returned) calls message = sends_same calls message
sends_after (end.BookFull accepted) calls message = sends_same calls message
sends_after (end.Empty accepted) calls message = sends_same calls message
sends_after (end.Refused why) calls message = sends_same calls message

module _ (calls : List Wish) (message : Option (List ℕ)) (caller : ℕ) (is_first : Bool) where
  named_still : (now : Work) → IsNamed now is_first calls → IsNamed now is_first (calls ++ sends_of message)
  named_still (work.Take stage) is = tt
  named_still (work.Give number stage) is = (is.0, ap (λ (numbers : List ℕ). number ∷ numbers) (sends_drop calls message) ∙ is.1 ∙ sym (sends_same calls message))
  named_still (work.Bind address) is = tt
  named_still (work.Unbind address) is = tt

  turn_still : (now : Turn Receiving) (held : List Holding) → IsOwnTurn now held caller is_first calls → IsOwnTurn now held caller is_first (calls ++ sends_of message)
  turn_still turn.Free held is = tt
  turn_still (turn.Taken other call) held is = (subst (AreGivable held caller) (sym (sends_same calls message)) is.0, named_still call.work is.1)
  turn_still (turn.Leaving other ended) held is = (subst (AreGivable held caller) (sym (sends_after ended calls message)) is.0, is.1)
  turn_still turn.Manager held is = tt

  sends_fit : (lanes : Lanes (LaneState EndState)) → AreFitLanes lanes caller is_first calls → AreFitLanes lanes caller is_first (calls ++ sends_of message)
  sends_fit lanes are = record {
    sends = are.sends;
    receives = record {
      own = λ has. turn_still lanes.incoming.receiver lanes.incoming.lane.held (are.receives.own has);
      other = λ none. subst (AreGivable lanes.incoming.lane.held caller) (sym (sends_same calls message)) (are.receives.other none);
    };
  }

pub seen_ready : (actors : ActorsState) (bench : BenchState) (message : List ℕ) (ended : CallEnd) (found : Option End) → IsReadyBench actors bench
    → IsReadyBench (actors_at_end found message ended actors) bench
seen_ready actors bench message ended None ready = ready
seen_ready actors bench message ended (Some side.Remote) ready = ready
seen_ready actors bench message ended (Some side.Host) ready = record {
  host = sends_fit actors.host_calls (end_answer actors.drivers message ended) 0 (not actors.is_taking) (lanes_of (link_in bench) side.Host) ready.host;
  worker = ready.worker;
}

-- ---- a record of the worker

record_gives : (memory : List ℕ) (map : Mapping) (source : ℕ) (op : Record) → give_numbers (wishes_of_work (work_of_record memory map source op)) ≡ []
record_gives memory map source record_kind.Halt = refl
record_gives memory map source (record_kind.Announce a b c) = refl
record_gives memory map source (record_kind.Bind a) = refl
record_gives memory map source (record_kind.Send n a b c) = refl
record_gives memory map source (record_kind.Raw n c) = refl
record_gives memory map source record_kind.Take = refl
record_gives memory map source (record_kind.Trace n a c) = refl
record_gives memory map source (record_kind.Crash a) = refl
record_gives memory map source (record_kind.Loop a b) = refl

next_gives : (memory : List ℕ) (map : Mapping) (source : ℕ) (found : Result Record WorkerFault) → give_numbers (wishes_of_work (work_of_next memory map source found)) ≡ []
next_gives memory map source (Ok op) = record_gives memory map source op
next_gives memory map source (Err fault) = refl

-- no record gives a buffer back
work_gives : (memory : List ℕ) (map : Mapping) (linked : Bool) (worker : WorkerState) → give_numbers (wishes_of_work (work_of memory map linked worker)) ≡ []
work_gives memory map linked worker =
    cond_both worker.is_halted worked.Halted (work_of_next memory map worker.source (next_record memory map linked worker)) (λ (w : Worked). give_numbers (wishes_of_work w) ≡ [])
    (λ _. refl) (λ _. next_gives memory map worker.source (next_record memory map linked worker))

-- calls more, which give nothing back, of an actor that is in no call
more_calls : (lanes : Lanes (LaneState EndState)) (caller : ℕ) (calls more : List Wish) → has_call lanes.incoming.receiver caller ≡ false → give_numbers more ≡ []
    → AreFitLanes lanes caller true calls → AreFitLanes lanes caller true (calls ++ more)
more_calls lanes caller calls more none nothing are = record {
  sends = are.sends;
  receives = record {
    own = λ has. absurd (false≢true (sym none ∙ has));
    other = λ _. subst (AreGivable lanes.incoming.lane.held caller)
        (sym (give_numbers_both calls more ∙ ap (λ (numbers : List ℕ). give_numbers calls ++ numbers) nothing ∙ none_behind (give_numbers calls))) (are.receives.other none);
  };
}

pub record_bench : (actors : ActorsState) (memory : List ℕ) (map : Mapping) (linked : Bool) (bench : BenchState) → AreOwnUsed (link_in bench).callers → is_in_call bench 1 ≡ false → IsReadyBench actors bench
    → IsReadyBench (actors_after_record actors memory map linked) bench
record_bench actors memory map linked bench own none ready = record {
  host = ready.host;
  worker = more_calls (lanes_of (link_in bench) side.Remote) 1 actors.worker_calls _
      (or_parts (has_call (lanes_of (link_in bench) side.Remote).outgoing.sender 1) _ (silent bench 1 side.Remote own.remote none)).1 (work_gives memory map linked actors.worker) ready.worker;
}
