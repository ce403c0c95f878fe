-- Steps of calls keep what a core's link keeps.
use Rattle.std.proofs.Common.{ℕ, ◌+◌, eqb, cond, Bool, true, false, length, Option, Some, None}
use Rattle.std.proofs.lemmas.Bool.{cond_both}
use Rattle.rp_base.specs.declared.kinds.Era.{Era}
use Rattle.rp_base.specs.declared.kinds.End.{End}
use Rattle.rp_base.specs.declared.kinds.End.TheVariants as side
use Rattle.rp_base.specs.declared.limits.TheConstants.{STEPS_MOST}
use Rattle.proc_state.specs.Lives.{CoreLife}
use Rattle.lane_model.specs.declared.states.LaneState.{LaneState}
use Rattle.lane_model.specs.declared.stages.Sending.{Sending}
use Rattle.lane_model.specs.declared.stages.SendStage.{SendStage}
use Rattle.lane_model.specs.declared.stages.SendStage.TheVariants as stage
use Rattle.lane_model.specs.declared.stages.Receiving.{Receiving}
use Rattle.lane_model.specs.declared.stages.Work.{Work}
use Rattle.lane_model.specs.declared.stages.Work.TheVariants as work
use Rattle.lane_model.specs.declared.stages.TakeStage.TheVariants as take_stage
use Rattle.lane_model.specs.declared.stages.GiveStage.TheVariants as give_stage
use Rattle.lane_model.specs.declared.stages.Turn.{Turn}
use Rattle.lane_model.specs.declared.stages.Turn.TheVariants as turn
use Rattle.lane_model.specs.declared.calls.CallEnd.{CallEnd}
use Rattle.lane_model.specs.declared.calls.CallEnd.TheVariants as end
use Rattle.lane_model.specs.declared.calls.Outcome.{Outcome}
use Rattle.lane_model.specs.declared.calls.Outcome.TheVariants as outcome
use Rattle.lane_model.specs.declared.calls.Wish.{Wish}
use Rattle.lane_model.specs.declared.calls.Wish.TheVariants as wish
use Rattle.lane_model.specs.Lanes.{has_call, is_live_in, taken_by}
use Rattle.lane_model.specs.Sends.{send_step, sender_step}
use Rattle.lane_model.specs.Receives.{after_handing, desk_step, receive_step, receiver_step}
use Rattle.lane_model.specs.Forms.{list_form}
use Rattle.lane_model.specs.Links.{LinkState, Lanes, caller_step, end_of, lanes_of, lanes_step, on_lanes, receive_later, send_later}
use Rattle.lane_model.specs.WholeCalls.{WhereOn}
use Rattle.lane_model.proofs.SoundLanes.{turn_step_has}
use Rattle.channel_bus.specs.Sides.{EndState, side_meaning}
use Rattle.link_bench.specs.declared.benches.BegunCall.{BegunCall}
use Rattle.link_bench.specs.declared.benches.Reach.TheVariants as reach
use Rattle.link_bench.specs.Benches.{BenchState, BenchWalk, LinkRings, advance_steps, advance_walk, begun_call_of, bench_walk, call_steps, call_walk, later_steps, link_in, lists_of, on_rings, start_walk, with_begun_call}
use Rattle.link_bench.proofs.KeptWalks.{call_keeps, later_keeps}
use Rattle.crash_recover.specs.KeptCores.{IsKeptBench, IsKeptLink, IsUnmanagedLane, IsUnmanagedTurn}

-- ---- turns

either_turn : {C : Type 0} (which : Bool) (one other : Turn C) → IsUnmanagedTurn one → IsUnmanagedTurn other → IsUnmanagedTurn (cond which one other)
either_turn true one other first second = first
either_turn false one other first second = second

taken_turn : {C : Type 0} (now : Turn C) (caller : ℕ) (call : C) → IsUnmanagedTurn now → IsUnmanagedTurn (taken_by now caller call)
taken_turn turn.Free caller call is = tt
taken_turn (turn.Taken other other_call) caller call is = is
taken_turn (turn.Leaving other ended) caller call is = is
taken_turn turn.Manager caller call is = is

-- ---- lanes

send_kept : (era : Era) (state : LaneState EndState) (caller : ℕ) (s : Sending) (now : SendStage) → IsUnmanagedLane state
    → IsUnmanagedLane (send_step era state caller s now).state
send_kept era state caller s stage.Turn is =
    record { sender = either_turn (is_live_in era s.follows) (turn.Taken caller _) (turn.Leaving caller _) tt tt; receiver = is.receiver }
send_kept era state caller s stage.Era is = record {
  sender = either_turn (eqb (length state.lane.accepted) (state.lane.returned + state.lane.capacity)) (turn.Leaving caller _) _ tt
      (either_turn (eqb (length state.lane.accepted) state.lane.book) (turn.Leaving caller _) (turn.Taken caller _) tt tt);
  receiver = is.receiver;
}
send_kept era state caller s stage.Look is = record { sender = tt; receiver = is.receiver }
send_kept era state caller s stage.Buffer is = record { sender = tt; receiver = is.receiver }
send_kept era state caller s stage.Entry is = record { sender = tt; receiver = is.receiver }

sender_kept : (era : Era) (state : LaneState EndState) → IsUnmanagedLane state → IsUnmanagedLane (sender_step era state).state
sender_kept era state is =
    turn_step_has IsUnmanagedLane state (record state { sender = turn.Free }) (λ caller s. send_step era state caller s s.stage) state.sender is
    (record { sender = tt; receiver = is.receiver }) (λ caller s _. send_kept era state caller s s.stage is)

desk_kept : (era : Era) (state : LaneState EndState) (caller : ℕ) (r : Receiving) (next : EndState) (ended : CallEnd) → IsUnmanagedLane state
    → IsUnmanagedLane (desk_step era state caller r next ended).state
desk_kept era state caller r next ended is =
    cond_both (is_live_in era r.follows) (record state { receiver = turn.Leaving caller ended; desk = next }) (record state { receiver = turn.Leaving caller (end.Dead era) }) IsUnmanagedLane
    (λ _. record { sender = is.sender; receiver = tt }) (λ _. record { sender = is.sender; receiver = tt })

receive_kept : (era : Era) (state : LaneState EndState) (caller : ℕ) (r : Receiving) (now : Work) → IsUnmanagedLane state
    → IsUnmanagedLane (receive_step side_meaning era state caller r now).state
receive_kept era state caller r (work.Take take_stage.Turn) is =
    record { sender = is.sender; receiver = either_turn (is_live_in era r.follows) (turn.Taken caller _) (turn.Leaving caller _) tt tt }
receive_kept era state caller r (work.Take take_stage.Era) is =
    record { sender = is.sender; receiver = either_turn (eqb (length state.lane.takers) (length state.lane.accepted)) (turn.Leaving caller _) (turn.Taken caller _) tt tt }
receive_kept era state caller r (work.Take take_stage.Look) is = record { sender = is.sender; receiver = tt }
receive_kept era state caller r (work.Take take_stage.Buffer) is =
    cond_both (is_live_in era r.follows) (after_handing side_meaning state caller) (record state { receiver = turn.Leaving caller (end.Dead era) }) IsUnmanagedLane
    (λ _. record { sender = is.sender; receiver = tt }) (λ _. record { sender = is.sender; receiver = tt })
receive_kept era state caller r (work.Give number give_stage.Turn) is = record { sender = is.sender; receiver = tt }
receive_kept era state caller r (work.Give number give_stage.Entry) is = record { sender = is.sender; receiver = tt }
receive_kept era state caller r (work.Bind address) is = desk_kept era state caller r _ _ is
receive_kept era state caller r (work.Unbind address) is = desk_kept era state caller r _ _ is

receiver_kept : (era : Era) (state : LaneState EndState) → IsUnmanagedLane state → IsUnmanagedLane (receiver_step side_meaning era state).state
receiver_kept era state is =
    turn_step_has IsUnmanagedLane state (record state { receiver = turn.Free }) (λ caller r. receive_step side_meaning era state caller r r.work) state.receiver is
    (record { sender = is.sender; receiver = tt }) (λ caller r _. receive_kept era state caller r r.work is)

-- the lanes of a caller
record KeptLanes (lanes : Lanes (LaneState EndState)) : Type 0 where
  pub outgoing : IsUnmanagedLane lanes.outgoing
  pub incoming : IsUnmanagedLane lanes.incoming

later_lanes : (era : Era) (lanes : Lanes (LaneState EndState)) (sends : Bool) → KeptLanes lanes
    → KeptLanes (cond sends (send_later (list_form side_meaning) era lanes) (receive_later (list_form side_meaning) side_meaning era lanes)).state
later_lanes era lanes true are = record { outgoing = sender_kept era lanes.outgoing are.outgoing; incoming = are.incoming }
later_lanes era lanes false are = record { outgoing = are.outgoing; incoming = receiver_kept era lanes.incoming are.incoming }

-- the first step of a call that sends nothing
taker_kept : (lanes : Lanes (LaneState EndState)) (caller : ℕ) (first : Receiving) → KeptLanes lanes
    → KeptLanes (record lanes { incoming = record lanes.incoming { receiver = taken_by lanes.incoming.receiver caller first } })
taker_kept lanes caller first are = record {
  outgoing = are.outgoing;
  incoming = record { sender = are.incoming.sender; receiver = taken_turn lanes.incoming.receiver caller first are.incoming.receiver };
}

lanes_kept : (era : Era) (lanes : Lanes (LaneState EndState)) (caller follows : ℕ) (wished : Option Wish) → KeptLanes lanes
    → KeptLanes (lanes_step (list_form side_meaning) side_meaning era lanes caller follows wished).state
lanes_kept era lanes caller follows (Some (wish.Send message)) are = record {
  outgoing = record { sender = taken_turn lanes.outgoing.sender caller _ are.outgoing.sender; receiver = are.outgoing.receiver };
  incoming = are.incoming;
}
lanes_kept era lanes caller follows (Some wish.Take) are = taker_kept lanes caller _ are
lanes_kept era lanes caller follows (Some (wish.Give number)) are = taker_kept lanes caller _ are
lanes_kept era lanes caller follows (Some (wish.Bind address)) are = taker_kept lanes caller _ are
lanes_kept era lanes caller follows (Some (wish.Unbind address)) are = taker_kept lanes caller _ are
lanes_kept era lanes caller follows None are = later_lanes era lanes (has_call lanes.outgoing.sender caller) are

-- ---- calls on a core's link in this life

module _ (life : CoreLife) where
  step_at : (link : LinkState EndState) (found : Option End) (caller follows : ℕ) (wished : Option Wish) → IsKeptLink life link
      → IsKeptLink life (on_lanes link found (λ lanes. lanes_step (list_form side_meaning) side_meaning link.era lanes caller follows wished)).state
  step_at link (Some side.Host) caller follows wished is =
      let left = lanes_kept link.era (lanes_of link side.Host) caller follows wished (record { outgoing = is.unmanaged.to_remote; incoming = is.unmanaged.to_host }) in
      record { unmanaged = record { to_host = left.incoming; to_remote = left.outgoing }; own = is.own; inc = is.inc; live = is.live }
  step_at link (Some side.Remote) caller follows wished is =
      let left = lanes_kept link.era (lanes_of link side.Remote) caller follows wished (record { outgoing = is.unmanaged.to_host; incoming = is.unmanaged.to_remote }) in
      record { unmanaged = record { to_host = left.outgoing; to_remote = left.incoming }; own = is.own; inc = is.inc; live = is.live }
  step_at link None caller follows wished is = is

  step_kept : (link : LinkState EndState) (caller follows : ℕ) (wished : Option Wish) → IsKeptLink life link
      → IsKeptLink life (caller_step side_meaning link caller follows wished).state
  step_kept link caller follows wished is = step_at link (end_of link.callers caller) caller follows wished is

  -- any step may be made
  abbrev any : LinkState EndState → Option Wish → Type 0
  any link wished = Unit {0}

  next : (done : Outcome) → WhereOn done (Unit {0})
  next (outcome.At step) = tt
  next (outcome.Ended ended) = tt

  later_kept : (more last steps : ℕ) (rings : LinkRings) (caller : ℕ) → IsKeptLink life (lists_of rings) → IsKeptLink life (lists_of (later_steps on_rings more last steps rings caller).link)
  later_kept more last steps rings caller is =
      later_keeps (IsKeptLink life) any caller (λ link follows wished _ is. step_kept link caller follows wished is) (λ link follows wished _. next _) more last steps rings tt is

  call_kept : (more steps : ℕ) (rings : LinkRings) (caller follows : ℕ) (wanted : Wish) → IsKeptLink life (lists_of rings)
      → IsKeptLink life (lists_of (call_steps on_rings more steps rings caller follows wanted).link)
  call_kept more steps rings caller follows wanted is =
      call_keeps (IsKeptLink life) any caller (λ link follows wished _ is. step_kept link caller follows wished is) (λ link follows wished _. next _) more steps rings follows wanted tt is

  advance_at : (bench : BenchState) (more steps caller : ℕ) (found : Option BegunCall) → IsKeptBench life bench
      → IsKeptBench life (advance_steps bench more steps caller found).bench
  advance_at bench more steps caller (Some call) is =
      cond_both (eqb steps STEPS_MOST) (record { bench = bench; steps = steps; reach = reach.Limit })
      (bench_walk (with_begun_call bench caller None) (call_steps on_rings more steps bench.rings caller call.follows call.wish))
      (λ (walk : BenchWalk). IsKeptBench life walk.bench) (λ _. is) (λ _. call_kept more steps bench.rings caller call.follows call.wish is)
  advance_at bench more steps caller None is = later_kept (more + 1) 0 steps bench.rings caller is

  pub advance_kept : (bench : BenchState) (more steps caller : ℕ) → IsKeptBench life bench → IsKeptBench life (advance_walk bench more steps caller).bench
  advance_kept bench more steps caller is = advance_at bench more steps caller (begun_call_of bench caller) is

  pub whole_kept : (bench : BenchState) (steps caller : ℕ) (wanted : Wish) → IsKeptBench life bench → IsKeptBench life (call_walk bench steps caller wanted).bench
  whole_kept bench steps caller wanted is = call_kept 6 steps bench.rings caller (link_in bench).era.inc wanted is

  pub start_kept : (bench : BenchState) (steps caller : ℕ) (wanted : Wish) → IsKeptBench life bench → IsKeptBench life (start_walk bench steps caller wanted).bench
  start_kept bench steps caller wanted is = call_kept 0 steps bench.rings caller (link_in bench).era.inc wanted is
