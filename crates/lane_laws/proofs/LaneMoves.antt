-- What each move leaves of the book, of the count of those handed over and of the desk of a lane: one of four things.
use Rattle.std.proofs.Common.{◌≡◌, ℕ, ◌<◌, length, Bool, true, false, cond, Option, Some, None, [], ◌∷◌, ◌++◌, refl, subst, inl}
use Rattle.std.proofs.lemmas.Bool.{cond_both}
use Rattle.rp_base.specs.declared.kinds.Era.{Era}
use Rattle.rp_base.specs.declared.kinds.End.{End}
use Rattle.rp_base.specs.declared.kinds.End.TheVariants as side
use Rattle.lane_model.specs.declared.states.BookEntry.{BookEntry}
use Rattle.lane_model.specs.declared.states.LaneState.{LaneState}
use Rattle.lane_model.specs.declared.stages.Sending.{Sending}
use Rattle.lane_model.specs.declared.stages.SendStage.{SendStage}
use Rattle.lane_model.specs.declared.stages.SendStage.TheVariants as stage
use Rattle.lane_model.specs.declared.stages.Receiving.{Receiving}
use Rattle.lane_model.specs.declared.stages.Work.{Work}
use Rattle.lane_model.specs.declared.stages.Work.TheVariants as work
use Rattle.lane_model.specs.declared.stages.TakeStage.TheVariants as take_stage
use Rattle.lane_model.specs.declared.stages.GiveStage.TheVariants as give_stage
use Rattle.lane_model.specs.declared.stages.Turn.TheVariants as turn
use Rattle.lane_model.specs.declared.calls.CallEnd.{CallEnd}
use Rattle.lane_model.specs.declared.calls.CallEnd.TheVariants as end
use Rattle.lane_model.specs.declared.calls.Wish.{Wish}
use Rattle.lane_model.specs.declared.calls.Wish.TheVariants as wish
use Rattle.lane_model.specs.declared.recoveries.ReclaimPart.{ReclaimPart}
use Rattle.lane_model.specs.declared.recoveries.ReclaimPart.TheVariants as part
use Rattle.lane_model.specs.declared.recoveries.LaneTurn.{LaneTurn}
use Rattle.lane_model.specs.declared.recoveries.LaneTurn.TheVariants as lane_turn
use Rattle.lane_model.specs.Desks.{DeskMeaning, AreDeskLaws}
use Rattle.lane_model.proofs.KeptBindings.{KeepsBound, bound_keeps, unbound_keeps}
use Rattle.lane_model.specs.Lanes.{has_call, is_live_in, message_at}
use Rattle.lane_model.specs.Sends.{send_step, sender_step}
use Rattle.lane_model.specs.Receives.{receive_step, receiver_step, after_handing, desk_step}
use Rattle.lane_model.specs.Crashes.{after_receive_end}
use Rattle.lane_model.specs.Forms.{list_form}
use Rattle.lane_model.specs.Links.{LinkState, Lanes, lanes_of, end_of, lanes_step, send_later, receive_later, on_lanes}
use Rattle.lane_model.specs.Conditions.{IsFitWork, IsFitReceiver}
use Rattle.lane_model.specs.Recoveries.{link_after_close, without_caller}
use Rattle.lane_laws.specs.Parts.{lanes_part, part_done, with_manager, without_manager}
use Rattle.lane_model.specs.Soundness.{IsSoundLane, SoundLink}
use Rattle.lane_laws.specs.Moves.{Move, Enlist, Step, Close, Reclaim, Part, Take, Leave, lane_to, with_lane_to, link_after_move}
use Rattle.lane_model.proofs.SoundLanes.{turn_step_has}

-- what a move leaves of the book, of the count of those handed over and of the desk: all as it was; a message more in the book; another
-- desk; or the next message is handed over, the desk has judged it, and the taker is told so
pub data LaneMove {D : Type 0} (desk : DeskMeaning D) (before after : LaneState D) : Type 0 where
  Quiet : after.lane.accepted ≡ before.lane.accepted → after.lane.takers ≡ before.lane.takers → after.desk ≡ before.desk → LaneMove desk before after
  Accepts : (entry : BookEntry) → after.lane.accepted ≡ before.lane.accepted ++ entry ∷ [] → after.lane.takers ≡ before.lane.takers → after.desk ≡ before.desk → LaneMove desk before after
  Changes : after.lane.accepted ≡ before.lane.accepted → after.lane.takers ≡ before.lane.takers → KeepsBound desk before.desk after.desk (length before.lane.takers) → LaneMove desk before after
  Hands : (caller : ℕ) → length before.lane.takers < length before.lane.accepted → after.lane.accepted ≡ before.lane.accepted → after.lane.takers ≡ before.lane.takers ++ caller ∷ []
      → after.receiver ≡ turn.Leaving caller (end.Took (length before.lane.takers) (desk.verdict before.desk (length before.lane.takers) (message_at before.lane.accepted (length before.lane.takers))))
      → after.desk ≡ desk.delivered before.desk (length before.lane.takers) (message_at before.lane.accepted (length before.lane.takers)) → LaneMove desk before after

send_moves : {D : Type 0} (desk : DeskMeaning D) (era : Era) (state : LaneState D) (caller : ℕ) (s : Sending) (now : SendStage) → LaneMove desk state (send_step era state caller s now).state
send_moves desk era state caller s stage.Turn = Quiet refl refl refl
send_moves desk era state caller s stage.Era = Quiet refl refl refl
send_moves desk era state caller s stage.Look = Quiet refl refl refl
send_moves desk era state caller s stage.Buffer = Quiet refl refl refl
send_moves desk era state caller s stage.Entry = Accepts (record { caller = caller; message = s.message }) refl refl refl

sender_moves : {D : Type 0} (desk : DeskMeaning D) (era : Era) (state : LaneState D) → LaneMove desk state (sender_step era state).state
sender_moves desk era state =
    turn_step_has (LaneMove desk state) state (record state { sender = turn.Free }) (λ caller s. send_step era state caller s s.stage) state.sender (Quiet refl refl refl) (Quiet refl refl refl)
    (λ caller s is. send_moves desk era state caller s s.stage)

desk_moves : {D : Type 0} (desk : DeskMeaning D) (era : Era) (state : LaneState D) (caller : ℕ) (r : Receiving) (next : D) (ended : CallEnd) → KeepsBound desk state.desk next (length state.lane.takers)
    → LaneMove desk state (desk_step era state caller r next ended).state
desk_moves desk era state caller r next ended keeps =
    cond_both (is_live_in era r.follows) (record state { receiver = turn.Leaving caller ended; desk = next }) (record state { receiver = turn.Leaving caller (end.Dead era) }) (LaneMove desk state)
    (λ _. Changes refl refl keeps) (λ _. Quiet refl refl refl)

receive_moves : {D : Type 0} (desk : DeskMeaning D) → AreDeskLaws desk → (era : Era) (state : LaneState D) (caller : ℕ) (r : Receiving) (now : Work) → IsFitWork now state.lane caller
    → LaneMove desk state (receive_step desk era state caller r now).state
receive_moves desk laws era state caller r (work.Take take_stage.Turn) fit = Quiet refl refl refl
receive_moves desk laws era state caller r (work.Take take_stage.Era) fit = Quiet refl refl refl
receive_moves desk laws era state caller r (work.Take take_stage.Look) fit = Quiet refl refl refl
receive_moves desk laws era state caller r (work.Take take_stage.Buffer) fit =
    cond_both (is_live_in era r.follows) (after_handing desk state caller) (record state { receiver = turn.Leaving caller (end.Dead era) }) (LaneMove desk state)
    (λ _. Hands caller (fit refl) refl refl refl refl) (λ _. Quiet refl refl refl)
receive_moves desk laws era state caller r (work.Give number give_stage.Turn) fit = Quiet refl refl refl
receive_moves desk laws era state caller r (work.Give number give_stage.Entry) fit = Quiet refl refl refl
receive_moves desk laws era state caller r (work.Bind address) fit = desk_moves desk era state caller r _ _ (bound_keeps desk laws state.desk address (length state.lane.takers))
receive_moves desk laws era state caller r (work.Unbind address) fit = desk_moves desk era state caller r _ _ (unbound_keeps desk laws state.desk address (length state.lane.takers))

receiver_moves : {D : Type 0} (desk : DeskMeaning D) → AreDeskLaws desk → (era : Era) (state : LaneState D) → IsSoundLane state → LaneMove desk state (receiver_step desk era state).state
receiver_moves desk laws era state sound =
    turn_step_has (LaneMove desk state) state (record state { receiver = turn.Free }) (λ caller r. receive_step desk era state caller r r.work) state.receiver (Quiet refl refl refl) (Quiet refl refl refl)
    (λ caller r is. receive_moves desk laws era state caller r r.work (subst (λ now. IsFitReceiver now state.lane) is sound.fit))

-- what a step leaves of the lanes of a caller
record LanesMove {D : Type 0} (desk : DeskMeaning D) (before after : Lanes (LaneState D)) : Type 0 where
  pub outgoing : LaneMove desk before.outgoing after.outgoing
  pub incoming : LaneMove desk before.incoming after.incoming

later_moves : {D : Type 0} (desk : DeskMeaning D) → AreDeskLaws desk → (era : Era) (lanes : Lanes (LaneState D)) (sends : Bool) → IsSoundLane lanes.incoming
    → LanesMove desk lanes (cond sends (send_later (list_form desk) era lanes) (receive_later (list_form desk) desk era lanes)).state
later_moves desk laws era lanes true sound = record { outgoing = sender_moves desk era lanes.outgoing; incoming = Quiet refl refl refl }
later_moves desk laws era lanes false sound = record { outgoing = Quiet refl refl refl; incoming = receiver_moves desk laws era lanes.incoming sound }

lanes_move : {D : Type 0} (desk : DeskMeaning D) → AreDeskLaws desk → (era : Era) (lanes : Lanes (LaneState D)) (caller follows : ℕ) (wished : Option Wish) → IsSoundLane lanes.incoming
    → LanesMove desk lanes (lanes_step (list_form desk) desk era lanes caller follows wished).state
lanes_move desk laws era lanes caller follows (Some (wish.Send message)) sound = record { outgoing = Quiet refl refl refl; incoming = Quiet refl refl refl }
lanes_move desk laws era lanes caller follows (Some wish.Take) sound = record { outgoing = Quiet refl refl refl; incoming = Quiet refl refl refl }
lanes_move desk laws era lanes caller follows (Some (wish.Give number)) sound = record { outgoing = Quiet refl refl refl; incoming = Quiet refl refl refl }
lanes_move desk laws era lanes caller follows (Some (wish.Bind address)) sound = record { outgoing = Quiet refl refl refl; incoming = Quiet refl refl refl }
lanes_move desk laws era lanes caller follows (Some (wish.Unbind address)) sound = record { outgoing = Quiet refl refl refl; incoming = Quiet refl refl refl }
lanes_move desk laws era lanes caller follows None sound = later_moves desk laws era lanes (has_call lanes.outgoing.sender caller) sound

-- what a move leaves of both lanes of a link
pub record LinkMove {D : Type 0} (desk : DeskMeaning D) (before after : LinkState D) : Type 0 where
  pub to_host : LaneMove desk before.to_host after.to_host
  pub to_remote : LaneMove desk before.to_remote after.to_remote

quiet_link : {D : Type 0} (desk : DeskMeaning D) (link : LinkState D) → LinkMove desk link link
quiet_link desk link = record { to_host = Quiet refl refl refl; to_remote = Quiet refl refl refl }

step_moves : {D : Type 0} (desk : DeskMeaning D) → AreDeskLaws desk → (link : LinkState D) (found : Option End) (caller follows : ℕ) (wished : Option Wish) → SoundLink link
    → LinkMove desk link (on_lanes link found (λ lanes. lanes_step (list_form desk) desk link.era lanes caller follows wished)).state
step_moves desk laws link (Some side.Host) caller follows wished sound =
    let move = lanes_move desk laws link.era (lanes_of link side.Host) caller follows wished sound.to_host.lane in record { to_host = move.incoming; to_remote = move.outgoing }
step_moves desk laws link (Some side.Remote) caller follows wished sound =
    let move = lanes_move desk laws link.era (lanes_of link side.Remote) caller follows wished sound.to_remote.lane in record { to_host = move.outgoing; to_remote = move.incoming }
step_moves desk laws link None caller follows wished sound = quiet_link desk link

close_moves : {D : Type 0} (desk : DeskMeaning D) (link : LinkState D) (inc : ℕ) → LinkMove desk link (link_after_close link inc)
close_moves desk link inc =
    cond_both (is_live_in link.era inc) (record link { era = record { inc = inc; is_live = false } }) link (LinkMove desk link)
    (λ _. record { to_host = Quiet refl refl refl; to_remote = Quiet refl refl refl }) (λ _. quiet_link desk link)

reclaim_moves : {D : Type 0} (desk : DeskMeaning D) (link : LinkState D) (found : Option End) (caller : ℕ) → LinkMove desk link (without_caller (list_form desk) link found caller)
reclaim_moves desk link (Some side.Host) caller = record { to_host = Quiet refl refl refl; to_remote = Quiet refl refl refl }
reclaim_moves desk link (Some side.Remote) caller = record { to_host = Quiet refl refl refl; to_remote = Quiet refl refl refl }
reclaim_moves desk link None caller = quiet_link desk link

lanes_part_moves : {D : Type 0} (desk : DeskMeaning D) (lanes : Lanes (LaneState D)) (caller : ℕ) (which : ReclaimPart) → LanesMove desk lanes (lanes_part lanes caller which)
lanes_part_moves desk lanes caller part.TakesTurn = record { outgoing = Quiet refl refl refl; incoming = Quiet refl refl refl }
lanes_part_moves desk lanes caller part.EndsCall = record {
  outgoing = Quiet refl refl refl;
  incoming = cond_both (has_call lanes.incoming.receiver caller) (after_receive_end lanes.incoming caller) lanes.incoming (LaneMove desk lanes.incoming) (λ _. Quiet refl refl refl) (λ _. Quiet refl refl refl);
}
lanes_part_moves desk lanes caller part.LeavesTurn = record { outgoing = Quiet refl refl refl; incoming = Quiet refl refl refl }
lanes_part_moves desk lanes caller part.FreesNumber = record { outgoing = Quiet refl refl refl; incoming = Quiet refl refl refl }

part_moves : {D : Type 0} (desk : DeskMeaning D) (link : LinkState D) (end : End) (caller : ℕ) (which : ReclaimPart) → LinkMove desk link (part_done link end caller which)
part_moves desk link side.Host caller which = let move = lanes_part_moves desk (lanes_of link side.Host) caller which in record { to_host = move.incoming; to_remote = move.outgoing }
part_moves desk link side.Remote caller which = let move = lanes_part_moves desk (lanes_of link side.Remote) caller which in record { to_host = move.outgoing; to_remote = move.incoming }

taken_moves : {D : Type 0} (desk : DeskMeaning D) (state : LaneState D) (which : LaneTurn) → LaneMove desk state (with_manager state which)
taken_moves desk state lane_turn.Sender = Quiet refl refl refl
taken_moves desk state lane_turn.Receiver = Quiet refl refl refl

left_moves : {D : Type 0} (desk : DeskMeaning D) (state : LaneState D) (which : LaneTurn) → LaneMove desk state (without_manager state which)
left_moves desk state lane_turn.Sender = Quiet refl refl refl
left_moves desk state lane_turn.Receiver = Quiet refl refl refl

lane_moves : {D : Type 0} (desk : DeskMeaning D) (link : LinkState D) (end : End) (after : LaneState D) → LaneMove desk (lane_to link end) after → LinkMove desk link (with_lane_to link end after)
lane_moves desk link side.Host after move = record { to_host = move; to_remote = Quiet refl refl refl }
lane_moves desk link side.Remote after move = record { to_host = Quiet refl refl refl; to_remote = move }

-- what each move leaves of both lanes
pub link_moves : {D : Type 0} (desk : DeskMeaning D) → AreDeskLaws desk → (link : LinkState D) (move : Move) → SoundLink link → LinkMove desk link (link_after_move desk link move)
link_moves desk laws link (Enlist new) sound = record { to_host = Quiet refl refl refl; to_remote = Quiet refl refl refl }
link_moves desk laws link (Step caller follows wished) sound = step_moves desk laws link (end_of link.callers caller) caller follows wished sound
link_moves desk laws link (Close inc) sound = close_moves desk link inc
link_moves desk laws link (Reclaim caller) sound = reclaim_moves desk link (end_of link.callers caller) caller
link_moves desk laws link (Part end caller which) sound = part_moves desk link end caller which
link_moves desk laws link (Take end which) sound = lane_moves desk link end _ (taken_moves desk (lane_to link end) which)
link_moves desk laws link (Leave end which) sound = lane_moves desk link end _ (left_moves desk (lane_to link end) which)
