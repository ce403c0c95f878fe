-- Each message of a link, accepted or under way, fits a buffer, whatever moves befall it.
use Rattle.std.proofs.Common.{◌≤◌, ◌+◌, ℕ, zero, suc, eqb, cond, Bool, true, false, List, [], ◌∷◌, ◌++◌, length, Option, Some, None, subst, arith}
use Rattle.std.proofs.lemmas.Bool.{cond_both}
use Rattle.rp_base.specs.declared.kinds.Era.{Era}
use Rattle.rp_base.specs.declared.kinds.End.{End}
use Rattle.rp_base.specs.declared.kinds.End.TheVariants as side
use Rattle.rp_base.specs.declared.limits.TheConstants.{MESSAGE_MOST}
use Rattle.lane_model.specs.declared.states.BookEntry.{BookEntry}
use Rattle.lane_model.specs.declared.states.LaneState.{LaneState}
use Rattle.lane_model.specs.declared.stages.Sending.{Sending}
use Rattle.lane_model.specs.declared.stages.SendStage.{SendStage}
use Rattle.lane_model.specs.declared.stages.SendStage.TheVariants as stage
use Rattle.lane_model.specs.declared.stages.Receiving.{Receiving}
use Rattle.lane_model.specs.declared.stages.Work.{Work}
use Rattle.lane_model.specs.declared.stages.Work.TheVariants as work
use Rattle.lane_model.specs.declared.stages.TakeStage.TheVariants as take_stage
use Rattle.lane_model.specs.declared.stages.GiveStage.TheVariants as give_stage
use Rattle.lane_model.specs.declared.stages.Turn.{Turn}
use Rattle.lane_model.specs.declared.stages.Turn.TheVariants as turn
use Rattle.lane_model.specs.declared.calls.CallEnd.{CallEnd}
use Rattle.lane_model.specs.declared.calls.CallEnd.TheVariants as end
use Rattle.lane_model.specs.declared.calls.Wish.{Wish}
use Rattle.lane_model.specs.declared.calls.Wish.TheVariants as wish
use Rattle.lane_model.specs.declared.recoveries.ReclaimPart.{ReclaimPart}
use Rattle.lane_model.specs.declared.recoveries.ReclaimPart.TheVariants as part
use Rattle.lane_model.specs.declared.recoveries.LaneTurn.{LaneTurn}
use Rattle.lane_model.specs.declared.recoveries.LaneTurn.TheVariants as lane_turn
use Rattle.lane_model.specs.Lanes.{OfCall, has_call, is_live_in, message_at}
use Rattle.lane_model.specs.Sends.{send_step, sender_step}
use Rattle.lane_model.specs.Receives.{receive_step, receiver_step, after_handing, desk_step}
use Rattle.lane_model.specs.Crashes.{after_receive_end, ended_turn, opened_lane}
use Rattle.lane_model.specs.Forms.{list_form}
use Rattle.lane_model.specs.Links.{LinkState, Lanes, lanes_of, with_lanes, end_of, lanes_step, send_later, receive_later, on_lanes}
use Rattle.lane_model.specs.Conditions.{MayEndStep, MayLanesStep}
use Rattle.lane_model.specs.Recoveries.{without_caller}
use Rattle.lane_laws.specs.Parts.{lanes_part, manager_leaves, manager_takes, with_manager, without_manager}
use Rattle.lane_laws.specs.Moves.{Move, Enlist, Step, Close, Reclaim, Part, Take, Leave, MayMove, MayMoves, Recorded, no_handings, link_after_move, after_move, after_moves}
use Rattle.lane_model.proofs.SoundLanes.{taken_has, turn_step_has}
use Rattle.channel_bus.specs.Sides.{EndState, side_meaning}
use Rattle.core_laws.specs.BenchMoves.{ComesBy, IsShortLane, IsShortLink}

-- a message under way fits a buffer
abbrev IsShortCall : ℕ → Sending → Type 0
IsShortCall caller sending = length sending.message ≤ MESSAGE_MOST

-- a lane without a message
pub short_lane : (capacity book : ℕ) (desk : EndState) → IsShortLane (opened_lane capacity book desk)
short_lane capacity book desk = record { accepted = λ number. (omega arith); under_way = tt }

-- one message more in a book
one_more : (book : List BookEntry) (entry : BookEntry) → ((number : ℕ) → length (message_at book number) ≤ MESSAGE_MOST) → length entry.message ≤ MESSAGE_MOST
    → (number : ℕ) → length (message_at (book ++ entry ∷ []) number) ≤ MESSAGE_MOST
one_more [] entry all one zero = one
one_more [] entry all one (suc number) = all 0
one_more (first ∷ book) entry all one zero = all 0
one_more (first ∷ book) entry all one (suc number) = one_more book entry (λ n. all (suc n)) one number

send_short : (era : Era) (state : LaneState EndState) (caller : ℕ) (s : Sending) (now : SendStage) → IsShortLane state → length s.message ≤ MESSAGE_MOST
    → IsShortLane (send_step era state caller s now).state
send_short era state caller s stage.Turn short one = record {
  accepted = short.accepted;
  under_way = cond_both (is_live_in era s.follows) (turn.Taken caller (record s { stage = stage.Era })) (turn.Leaving caller (end.Dead era))
      (λ (now : Turn Sending). OfCall now IsShortCall) (λ _. one) (λ _. tt);
}
send_short era state caller s stage.Era short one =
    let book_full : Turn Sending = turn.Leaving caller (end.BookFull (length state.lane.accepted)) in
    let room : Turn Sending = turn.Taken caller (record s { stage = stage.Look }) in
    record {
      accepted = short.accepted;
      under_way = cond_both (eqb (length state.lane.accepted) (state.lane.returned + state.lane.capacity)) (turn.Leaving caller (end.NoBuffer (length state.lane.accepted) state.lane.returned))
          (cond (eqb (length state.lane.accepted) state.lane.book) book_full room) (λ (now : Turn Sending). OfCall now IsShortCall) (λ _. tt)
          (λ _. cond_both (eqb (length state.lane.accepted) state.lane.book) book_full room (λ (now : Turn Sending). OfCall now IsShortCall) (λ _. tt) (λ _. one));
    }
send_short era state caller s stage.Look short one = record { accepted = short.accepted; under_way = one }
send_short era state caller s stage.Buffer short one = record { accepted = short.accepted; under_way = one }
send_short era state caller s stage.Entry short one =
    record { accepted = one_more state.lane.accepted (record { caller = caller; message = s.message }) short.accepted one; under_way = tt }

sender_short : (era : Era) (state : LaneState EndState) → IsShortLane state → IsShortLane (sender_step era state).state
sender_short era state short =
    turn_step_has IsShortLane state (record state { sender = turn.Free }) (λ caller s. send_step era state caller s s.stage) state.sender short
    (record { accepted = short.accepted; under_way = tt })
    (λ caller s is. send_short era state caller s s.stage short (subst (λ (now : Turn Sending). OfCall now IsShortCall) is short.under_way))

desk_short : (era : Era) (state : LaneState EndState) (caller : ℕ) (r : Receiving) (next : EndState) (ended : CallEnd) → IsShortLane state
    → IsShortLane (desk_step era state caller r next ended).state
desk_short era state caller r next ended short =
    cond_both (is_live_in era r.follows) (record state { receiver = turn.Leaving caller ended; desk = next }) (record state { receiver = turn.Leaving caller (end.Dead era) }) IsShortLane
    (λ _. record { accepted = short.accepted; under_way = short.under_way }) (λ _. record { accepted = short.accepted; under_way = short.under_way })

receive_short : (era : Era) (state : LaneState EndState) (caller : ℕ) (r : Receiving) (now : Work) → IsShortLane state
    → IsShortLane (receive_step side_meaning era state caller r now).state
receive_short era state caller r (work.Take take_stage.Turn) short = record { accepted = short.accepted; under_way = short.under_way }
receive_short era state caller r (work.Take take_stage.Era) short = record { accepted = short.accepted; under_way = short.under_way }
receive_short era state caller r (work.Take take_stage.Look) short = record { accepted = short.accepted; under_way = short.under_way }
receive_short era state caller r (work.Take take_stage.Buffer) short =
    cond_both (is_live_in era r.follows) (after_handing side_meaning state caller) (record state { receiver = turn.Leaving caller (end.Dead era) }) IsShortLane
    (λ _. record { accepted = short.accepted; under_way = short.under_way }) (λ _. record { accepted = short.accepted; under_way = short.under_way })
receive_short era state caller r (work.Give number give_stage.Turn) short = record { accepted = short.accepted; under_way = short.under_way }
receive_short era state caller r (work.Give number give_stage.Entry) short = record { accepted = short.accepted; under_way = short.under_way }
receive_short era state caller r (work.Bind address) short = desk_short era state caller r _ _ short
receive_short era state caller r (work.Unbind address) short = desk_short era state caller r _ _ short

receiver_short : (era : Era) (state : LaneState EndState) → IsShortLane state → IsShortLane (receiver_step side_meaning era state).state
receiver_short era state short =
    turn_step_has IsShortLane state (record state { receiver = turn.Free }) (λ caller r. receive_step side_meaning era state caller r r.work) state.receiver short
    (record { accepted = short.accepted; under_way = short.under_way }) (λ caller r is. receive_short era state caller r r.work short)

-- the lanes of a caller
record ShortLanes (lanes : Lanes (LaneState EndState)) : Type 0 where
  pub outgoing : IsShortLane lanes.outgoing
  pub incoming : IsShortLane lanes.incoming

later_short : (era : Era) (lanes : Lanes (LaneState EndState)) (sends : Bool) → ShortLanes lanes
    → ShortLanes (cond sends (send_later (list_form side_meaning) era lanes) (receive_later (list_form side_meaning) side_meaning era lanes)).state
later_short era lanes true short = record { outgoing = sender_short era lanes.outgoing short.outgoing; incoming = short.incoming }
later_short era lanes false short = record { outgoing = short.outgoing; incoming = receiver_short era lanes.incoming short.incoming }

-- the first step of a call that sends nothing
taker_short : (state : LaneState EndState) (receiver : Turn Receiving) → IsShortLane state → IsShortLane (record state { receiver = receiver })
taker_short state receiver short = record { accepted = short.accepted; under_way = short.under_way }

lanes_short : (era : Era) (lanes : Lanes (LaneState EndState)) (caller follows : ℕ) (wished : Option Wish) → MayLanesStep lanes caller wished → ShortLanes lanes
    → ShortLanes (lanes_step (list_form side_meaning) side_meaning era lanes caller follows wished).state
lanes_short era lanes caller follows (Some (wish.Send message)) may short = record {
  outgoing = record { accepted = short.outgoing.accepted; under_way = taken_has IsShortCall lanes.outgoing.sender caller _ short.outgoing.under_way may.1 };
  incoming = short.incoming;
}
lanes_short era lanes caller follows (Some wish.Take) may short = record { outgoing = short.outgoing; incoming = taker_short lanes.incoming _ short.incoming }
lanes_short era lanes caller follows (Some (wish.Give number)) may short = record { outgoing = short.outgoing; incoming = taker_short lanes.incoming _ short.incoming }
lanes_short era lanes caller follows (Some (wish.Bind address)) may short = record { outgoing = short.outgoing; incoming = taker_short lanes.incoming _ short.incoming }
lanes_short era lanes caller follows (Some (wish.Unbind address)) may short = record { outgoing = short.outgoing; incoming = taker_short lanes.incoming _ short.incoming }
lanes_short era lanes caller follows None may short = later_short era lanes (has_call lanes.outgoing.sender caller) short

step_short : (link : LinkState EndState) (found : Option End) (caller follows : ℕ) (wished : Option Wish) → MayEndStep link found caller wished → IsShortLink link
    → IsShortLink (on_lanes link found (λ lanes. lanes_step (list_form side_meaning) side_meaning link.era lanes caller follows wished)).state
step_short link (Some side.Host) caller follows wished may short =
    let left = lanes_short link.era (lanes_of link side.Host) caller follows wished may (record { outgoing = short.to_remote; incoming = short.to_host }) in
    record { to_host = left.incoming; to_remote = left.outgoing }
step_short link (Some side.Remote) caller follows wished may short =
    let left = lanes_short link.era (lanes_of link side.Remote) caller follows wished may (record { outgoing = short.to_host; incoming = short.to_remote }) in
    record { to_host = left.outgoing; to_remote = left.incoming }
step_short link None caller follows wished may short = short

ended_short : (state : LaneState EndState) (caller : ℕ) → IsShortLane state → IsShortLane (record state { sender = ended_turn state.sender caller })
ended_short state caller short = record {
  accepted = short.accepted;
  under_way = cond_both (has_call state.sender caller) turn.Free state.sender (λ (now : Turn Sending). OfCall now IsShortCall) (λ _. tt) (λ _. short.under_way);
}

received_short : (state : LaneState EndState) (caller : ℕ) → IsShortLane state → IsShortLane (after_receive_end state caller)
received_short state caller short = record { accepted = short.accepted; under_way = short.under_way }

reclaim_short : (link : LinkState EndState) (found : Option End) (caller : ℕ) → IsShortLink link → IsShortLink (without_caller (list_form side_meaning) link found caller)
reclaim_short link (Some side.Host) caller short = record { to_host = received_short link.to_host caller short.to_host; to_remote = ended_short link.to_remote caller short.to_remote }
reclaim_short link (Some side.Remote) caller short = record { to_host = ended_short link.to_host caller short.to_host; to_remote = received_short link.to_remote caller short.to_remote }
reclaim_short link None caller short = short

takes_short : (now : Turn Sending) → OfCall now IsShortCall → OfCall (manager_takes now) IsShortCall
takes_short turn.Free of = tt
takes_short (turn.Taken caller call) of = of
takes_short (turn.Leaving caller ended) of = tt
takes_short turn.Manager of = tt

leaves_short : (now : Turn Sending) → OfCall now IsShortCall → OfCall (manager_leaves now) IsShortCall
leaves_short turn.Free of = tt
leaves_short (turn.Taken caller call) of = of
leaves_short (turn.Leaving caller ended) of = tt
leaves_short turn.Manager of = tt

with_short : (state : LaneState EndState) (which : LaneTurn) → IsShortLane state → IsShortLane (with_manager state which)
with_short state lane_turn.Sender short = record { accepted = short.accepted; under_way = takes_short state.sender short.under_way }
with_short state lane_turn.Receiver short = record { accepted = short.accepted; under_way = short.under_way }

without_short : (state : LaneState EndState) (which : LaneTurn) → IsShortLane state → IsShortLane (without_manager state which)
without_short state lane_turn.Sender short = record { accepted = short.accepted; under_way = leaves_short state.sender short.under_way }
without_short state lane_turn.Receiver short = record { accepted = short.accepted; under_way = short.under_way }

part_short : (lanes : Lanes (LaneState EndState)) (caller : ℕ) (which : ReclaimPart) → ShortLanes lanes → ShortLanes (lanes_part lanes caller which)
part_short lanes caller part.TakesTurn short = record { outgoing = short.outgoing; incoming = with_short lanes.incoming lane_turn.Receiver short.incoming }
part_short lanes caller part.EndsCall short = record {
  outgoing = ended_short lanes.outgoing caller short.outgoing;
  incoming = cond_both (has_call lanes.incoming.receiver caller) (after_receive_end lanes.incoming caller) lanes.incoming IsShortLane
      (λ _. received_short lanes.incoming caller short.incoming) (λ _. short.incoming);
}
part_short lanes caller part.LeavesTurn short =
    record { outgoing = short.outgoing; incoming = record { accepted = short.incoming.accepted; under_way = short.incoming.under_way } }
part_short lanes caller part.FreesNumber short = record { outgoing = short.outgoing; incoming = short.incoming }

parts_short : (link : LinkState EndState) (end : End) (caller : ℕ) (which : ReclaimPart) → IsShortLink link
    → IsShortLink (with_lanes link end (lanes_part (lanes_of link end) caller which))
parts_short link side.Host caller which short =
    let left = part_short (lanes_of link side.Host) caller which (record { outgoing = short.to_remote; incoming = short.to_host }) in
    record { to_host = left.incoming; to_remote = left.outgoing }
parts_short link side.Remote caller which short =
    let left = part_short (lanes_of link side.Remote) caller which (record { outgoing = short.to_host; incoming = short.to_remote }) in
    record { to_host = left.outgoing; to_remote = left.incoming }

move_short : (link : LinkState EndState) (move : Move) → MayMove link move → IsShortLink link → IsShortLink (link_after_move side_meaning link move)
move_short link (Enlist new) may short = record { to_host = short.to_host; to_remote = short.to_remote }
move_short link (Step caller follows wished) may short = step_short link (end_of link.callers caller) caller follows wished may.may short
move_short link (Close inc) may short =
    cond_both (is_live_in link.era inc) (record link { era = record { inc = inc; is_live = false } }) link IsShortLink
    (λ _. record { to_host = short.to_host; to_remote = short.to_remote }) (λ _. short)
move_short link (Reclaim caller) may short = reclaim_short link (end_of link.callers caller) caller short
move_short link (Part end caller which) may short = let left = parts_short link end caller which short in record { to_host = left.to_host; to_remote = left.to_remote }
move_short link (Take side.Host which) may short = record { to_host = with_short link.to_host which short.to_host; to_remote = short.to_remote }
move_short link (Take side.Remote which) may short = record { to_host = short.to_host; to_remote = with_short link.to_remote which short.to_remote }
move_short link (Leave side.Host which) may short = record { to_host = without_short link.to_host which short.to_host; to_remote = short.to_remote }
move_short link (Leave side.Remote which) may short = record { to_host = short.to_host; to_remote = without_short link.to_remote which short.to_remote }

moves_short : (now : Recorded EndState) (moves : List Move) → MayMoves side_meaning now.link moves → IsShortLink now.link → IsShortLink (after_moves side_meaning now moves).link
moves_short now [] may short = short
moves_short now (move ∷ moves) may short = moves_short (after_move side_meaning now move) moves may.1 (move_short now.link move may.0 short)

pub short_by : (before after : LinkState EndState) → ComesBy side_meaning before after → IsShortLink before → IsShortLink after
short_by before after came short =
    subst (λ (link : LinkState EndState). IsShortLink link) came.left (moves_short (no_handings before) came.moves came.may short)
