-- What holds of a link and of what it handed over after moves, one after the other.
use Rattle.std.proofs.Common.{◌≡◌, ℕ, false, Option, Some, None, List, [], ◌∷◌, ◌++◌, refl, sym, ap, ◌∙◌}
use Rattle.std.proofs.lemmas.Bool.{cond_both}
use Rattle.std.proofs.lemmas.List.{append-nil}
use Rattle.rp_base.specs.declared.kinds.Era.{Era}
use Rattle.rp_base.specs.declared.kinds.End.{End}
use Rattle.rp_base.specs.declared.kinds.End.TheVariants as side
use Rattle.rp_base.specs.declared.kinds.BoundEndpoint.{BoundEndpoint}
use Rattle.lane_model.specs.declared.states.BookEntry.{BookEntry}
use Rattle.lane_model.specs.declared.states.LaneState.{LaneState}
use Rattle.lane_model.specs.declared.calls.Wish.{Wish}
use Rattle.lane_model.specs.declared.calls.LinkConfig.{LinkConfig}
use Rattle.lane_model.specs.declared.recoveries.ReclaimPart.{ReclaimPart}
use Rattle.lane_model.specs.declared.recoveries.ReclaimPart.TheVariants as part
use Rattle.lane_model.specs.declared.recoveries.LaneTurn.{LaneTurn}
use Rattle.lane_model.specs.declared.recoveries.LaneTurn.TheVariants as lane_turn
use Rattle.lane_model.specs.Desks.{DeskMeaning, IsFreshDesk, IsBound, AreDeskLaws}
use Rattle.lane_model.specs.Lanes.{has_call, is_live_in}
use Rattle.lane_model.specs.Crashes.{after_receive_end}
use Rattle.lane_model.specs.Forms.{list_form}
use Rattle.lane_model.specs.Links.{LinkState, Lanes, lanes_of, end_of, lanes_step, on_lanes, opened_link}
use Rattle.lane_model.specs.Recoveries.{link_after_close, without_caller, link_after_reopen}
use Rattle.lane_laws.specs.Moves.{HandsNone, Move, Enlist, Step, Close, Reclaim, Part, Take, Leave, lane_to, with_lane_to, link_after_move, MayMove, Recorded, no_handings, handings_to, after_move, after_moves, MayMoves, IsNewLane, IsNewLink, WasBound}
use Rattle.lane_laws.specs.Parts.{lanes_part, part_done, with_manager, without_manager}
use Rattle.lane_model.specs.Soundness.{SoundLink}
use Rattle.lane_laws.specs.Handings.{IsPrefix, NumberedMessage, Handing, got}
use Rattle.lane_laws.proofs.SoundKept.{step_sound, caller_sound, opened_sound}
use Rattle.lane_laws.proofs.CrashLaws.{close_sound, reclaim_sound, reopen_sound, step_hands_none, reclaim_hands_none}
use Rattle.lane_laws.proofs.PartSteps.{part_sound, manager_takes_sound, manager_leaves_sound}
use Rattle.lane_laws.proofs.Numbering.{prefix_more}
use Rattle.lane_laws.proofs.LaneMoves.{LinkMove, link_moves}
use Rattle.lane_laws.proofs.LaneFacts.{IsLaneFact, HoldsOf, fact_kept, none_handed}
use Rattle.lane_laws.proofs.Judgement.{IsJudged, judged_new, judged_fact}
use Rattle.lane_laws.proofs.Traces.{IsTraced, IsOver, traced_fact, over_fact, bound_traced, traced_over}

taken_sound : {D : Type 0} (link : LinkState D) (end : End) (which : LaneTurn) → SoundLink link → SoundLink (with_lane_to link end (with_manager (lane_to link end) which))
taken_sound link side.Host which sound = (manager_takes_sound link which sound).0
taken_sound link side.Remote which sound = (manager_takes_sound link which sound).1

left_sound : {D : Type 0} (link : LinkState D) (end : End) (which : LaneTurn) → SoundLink link → SoundLink (with_lane_to link end (without_manager (lane_to link end) which))
left_sound link side.Host which sound = (manager_leaves_sound link which sound).0
left_sound link side.Remote which sound = (manager_leaves_sound link which sound).1

-- every move keeps a link sound
pub move_sound : {D : Type 0} (desk : DeskMeaning D) (link : LinkState D) (move : Move) → SoundLink link → MayMove link move → SoundLink (link_after_move desk link move)
move_sound desk link (Enlist new) sound may = caller_sound link new sound
move_sound desk link (Step caller follows wished) sound may = step_sound desk link caller follows wished sound may
move_sound desk link (Close inc) sound may = close_sound link inc sound
move_sound desk link (Reclaim caller) sound may = reclaim_sound desk link caller may sound
move_sound desk link (Part end caller which) sound may = part_sound link end caller which may.0 may.1 may.2 sound
move_sound desk link (Take end which) sound may = taken_sound link end which sound
move_sound desk link (Leave end which) sound may = left_sound link end which sound

-- and so does each list of moves
pub moves_sound : {D : Type 0} (desk : DeskMeaning D) (start : Recorded D) (moves : List Move) → SoundLink start.link → MayMoves desk start.link moves → SoundLink (after_moves desk start moves).link
moves_sound desk start [] sound may = sound
moves_sound desk start (move ∷ moves) sound may = moves_sound desk (after_move desk start move) moves (move_sound desk start.link move sound may.0) may.1

-- a sound link, of one of whose lanes a fact holds
pub record HoldsAt {D : Type 0} (P : List BookEntry → ℕ → D → List Handing → Type 0) (end : End) (now : Recorded D) : Type 0 where
  pub sound : SoundLink now.link
  pub fact : HoldsOf P (lane_to now.link end) (handings_to now end)

move_holds : {D : Type 0} (desk : DeskMeaning D) (P : List BookEntry → ℕ → D → List Handing → Type 0) → AreDeskLaws desk → IsLaneFact desk P → (end : End) (now : Recorded D) (move : Move) → LinkMove desk now.link (link_after_move desk now.link move)
    → HoldsOf P (lane_to now.link end) (handings_to now end) → HoldsOf P (lane_to (after_move desk now move).link end) (handings_to (after_move desk now move) end)
move_holds desk P laws kept side.Host now move made holds = fact_kept desk P laws kept now.link.to_host (link_after_move desk now.link move).to_host now.to_host made.to_host holds
move_holds desk P laws kept side.Remote now move made holds = fact_kept desk P laws kept now.link.to_remote (link_after_move desk now.link move).to_remote now.to_remote made.to_remote holds

-- moves, one after the other, keep such a fact
pub moves_hold : {D : Type 0} (desk : DeskMeaning D) (P : List BookEntry → ℕ → D → List Handing → Type 0) → AreDeskLaws desk → IsLaneFact desk P → (end : End) (now : Recorded D) (moves : List Move) → MayMoves desk now.link moves
    → HoldsAt P end now → HoldsAt P end (after_moves desk now moves)
moves_hold desk P laws kept end now [] may holds = holds
moves_hold desk P laws kept end now (move ∷ moves) may holds =
    moves_hold desk P laws kept end (after_move desk now move) moves may.1 (record {
      sound = move_sound desk now.link move holds.sound may.0;
      fact = move_holds desk P laws kept end now move (link_moves desk laws now.link move holds.sound) holds.fact;
    })

new_lane : {D : Type 0} (desk : DeskMeaning D) (state : LaneState D) → IsNewLane desk state → HoldsOf (IsJudged desk) state []
new_lane desk state new = rw (new.accepted, new.takers) (judged_new desk state.desk new.fresh)

new_holds : {D : Type 0} (desk : DeskMeaning D) (start : LinkState D) (end : End) → IsNewLink desk start → HoldsAt (IsJudged desk) end (no_handings start)
new_holds desk start side.Host new = record { sound = new.sound; fact = new_lane desk start.to_host new.to_host }
new_holds desk start side.Remote new = record { sound = new.sound; fact = new_lane desk start.to_remote new.to_remote }

-- what holds of a link after moves from the start of an incarnation
pub judged_after : {D : Type 0} (desk : DeskMeaning D) → AreDeskLaws desk → (start : LinkState D) (moves : List Move) (end : End) → IsNewLink desk start → MayMoves desk start moves
    → HoldsAt (IsJudged desk) end (after_moves desk (no_handings start) moves)
judged_after desk laws start moves end new may = moves_hold desk (IsJudged desk) laws (judged_fact desk laws) end (no_handings start) moves may (new_holds desk start end new)

-- what holds of an endpoint that was bound
pub traced_after : {D : Type 0} (desk : DeskMeaning D) → AreDeskLaws desk → (start : LinkState D) (before since : List Move) (end : End) (bound : BoundEndpoint) → WasBound desk start before since end bound
    → HoldsAt (IsTraced desk bound) end (after_moves desk (after_moves desk (no_handings start) before) since)
traced_after desk laws start before since end bound was =
    let then = after_moves desk (no_handings start) before in
    let judged = judged_after desk laws start before end was.new was.came in
    moves_hold desk (IsTraced desk bound) laws (traced_fact desk laws bound) end then since was.went_on
    (record { sound = judged.sound; fact = bound_traced desk bound _ _ _ (handings_to then end) judged.fact was.bound_then })

-- an endpoint that is bound no more gets no more
pub got_after : {D : Type 0} (desk : DeskMeaning D) → AreDeskLaws desk → (now : Recorded D) (later : List Move) (end : End) (bound : BoundEndpoint) (sender : ℕ) → HoldsAt (IsTraced desk bound) end now
    → (IsBound desk (lane_to now.link end).desk bound → ⊥) → MayMoves desk now.link later
    → got bound.endpoint sender (handings_to (after_moves desk now later) end) ≡ got bound.endpoint sender (handings_to now end)
got_after desk laws now later end bound sender traced unbound may =
    let kept : ℕ → List NumberedMessage = λ one. got bound.endpoint one (handings_to now end) in
    let after = moves_hold desk (IsOver desk bound.endpoint kept) laws (over_fact desk laws bound.endpoint kept) end now later may
    (record { sound = traced.sound; fact = traced_over desk bound _ _ _ (handings_to now end) traced.fact unbound }) in
    after.fact.stays sender

-- a new link, and a reopened one
pub opened_new : {D : Type 0} (desk : DeskMeaning D) (config : LinkConfig) (host remote : D) → IsFreshDesk desk host → IsFreshDesk desk remote → IsNewLink desk (opened_link config host remote)
opened_new desk config host remote fresh_host fresh_remote = record {
  sound = opened_sound config host remote;
  to_host = record { accepted = refl; takers = refl; fresh = fresh_host };
  to_remote = record { accepted = refl; takers = refl; fresh = fresh_remote };
}

pub reopened_new : {D : Type 0} (desk : DeskMeaning D) → AreDeskLaws desk → (link : LinkState D) → IsNewLink desk (link_after_reopen (list_form desk) link)
reopened_new desk laws link = record {
  sound = reopen_sound desk link;
  to_host = record { accepted = refl; takers = refl; fresh = laws.fresh link.to_host.desk };
  to_remote = record { accepted = refl; takers = refl; fresh = laws.fresh link.to_remote.desk };
}

-- nothing is handed over, and the era stays closed
pub record IsShut {D : Type 0} (before after : LinkState D) : Type 0 where
  pub none : HandsNone before after
  pub shut : after.era.is_live ≡ false

none_of : {D : Type 0} (link : LinkState D) → HandsNone link link
none_of link = record { to_host = refl; to_remote = refl }

step_era : {D : Type 0} (desk : DeskMeaning D) (link : LinkState D) (found : Option End) (caller follows : ℕ) (wished : Option Wish)
    → (on_lanes link found (λ lanes. lanes_step (list_form desk) desk link.era lanes caller follows wished)).state.era ≡ link.era
step_era desk link (Some side.Host) caller follows wished = refl
step_era desk link (Some side.Remote) caller follows wished = refl
step_era desk link None caller follows wished = refl

reclaim_era : {D : Type 0} (desk : DeskMeaning D) (link : LinkState D) (found : Option End) (caller : ℕ) → (without_caller (list_form desk) link found caller).era ≡ link.era
reclaim_era desk link (Some side.Host) caller = refl
reclaim_era desk link (Some side.Remote) caller = refl
reclaim_era desk link None caller = refl

close_shut : {D : Type 0} (link : LinkState D) (inc : ℕ) → link.era.is_live ≡ false → IsShut link (link_after_close link inc)
close_shut link inc shut =
    cond_both (is_live_in link.era inc) (record link { era = record { inc = inc; is_live = false } }) link (IsShut link)
    (λ _. record { none = record { to_host = refl; to_remote = refl }; shut = refl }) (λ _. record { none = none_of link; shut = shut })

-- no part of a reclaim hands a message over
record PartHandsNone {D : Type 0} (before after : Lanes (LaneState D)) : Type 0 where
  pub outgoing : after.outgoing.lane.takers ≡ before.outgoing.lane.takers
  pub incoming : after.incoming.lane.takers ≡ before.incoming.lane.takers

lanes_part_hands_none : {D : Type 0} (lanes : Lanes (LaneState D)) (caller : ℕ) (which : ReclaimPart) → PartHandsNone lanes (lanes_part lanes caller which)
lanes_part_hands_none lanes caller part.TakesTurn = record { outgoing = refl; incoming = refl }
lanes_part_hands_none {D} lanes caller part.EndsCall = record {
  outgoing = refl;
  incoming = cond_both (has_call lanes.incoming.receiver caller) (after_receive_end lanes.incoming caller) lanes.incoming (λ (after : LaneState D). after.lane.takers ≡ lanes.incoming.lane.takers) (λ _. refl) (λ _. refl);
}
lanes_part_hands_none lanes caller part.LeavesTurn = record { outgoing = refl; incoming = refl }
lanes_part_hands_none lanes caller part.FreesNumber = record { outgoing = refl; incoming = refl }

part_shut : {D : Type 0} (link : LinkState D) (end : End) (caller : ℕ) (which : ReclaimPart) → link.era.is_live ≡ false → IsShut link (part_done link end caller which)
part_shut link side.Host caller which shut =
    let none = lanes_part_hands_none (lanes_of link side.Host) caller which in record { none = record { to_host = none.incoming; to_remote = none.outgoing }; shut = shut }
part_shut link side.Remote caller which shut =
    let none = lanes_part_hands_none (lanes_of link side.Remote) caller which in record { none = record { to_host = none.outgoing; to_remote = none.incoming }; shut = shut }

taken_shut : {D : Type 0} (link : LinkState D) (end : End) (which : LaneTurn) → link.era.is_live ≡ false → IsShut link (with_lane_to link end (with_manager (lane_to link end) which))
taken_shut link side.Host lane_turn.Sender shut = record { none = record { to_host = refl; to_remote = refl }; shut = shut }
taken_shut link side.Host lane_turn.Receiver shut = record { none = record { to_host = refl; to_remote = refl }; shut = shut }
taken_shut link side.Remote lane_turn.Sender shut = record { none = record { to_host = refl; to_remote = refl }; shut = shut }
taken_shut link side.Remote lane_turn.Receiver shut = record { none = record { to_host = refl; to_remote = refl }; shut = shut }

left_shut : {D : Type 0} (link : LinkState D) (end : End) (which : LaneTurn) → link.era.is_live ≡ false → IsShut link (with_lane_to link end (without_manager (lane_to link end) which))
left_shut link side.Host lane_turn.Sender shut = record { none = record { to_host = refl; to_remote = refl }; shut = shut }
left_shut link side.Host lane_turn.Receiver shut = record { none = record { to_host = refl; to_remote = refl }; shut = shut }
left_shut link side.Remote lane_turn.Sender shut = record { none = record { to_host = refl; to_remote = refl }; shut = shut }
left_shut link side.Remote lane_turn.Receiver shut = record { none = record { to_host = refl; to_remote = refl }; shut = shut }

pub move_shut : {D : Type 0} (desk : DeskMeaning D) (link : LinkState D) (move : Move) → link.era.is_live ≡ false → IsShut link (link_after_move desk link move)
move_shut desk link (Enlist new) shut = record { none = record { to_host = refl; to_remote = refl }; shut = shut }
move_shut desk link (Step caller follows wished) shut = record {
  none = step_hands_none desk link caller follows wished shut;
  shut = ap (λ (era : Era). era.is_live) (step_era desk link (end_of link.callers caller) caller follows wished) ∙ shut;
}
move_shut desk link (Close inc) shut = close_shut link inc shut
move_shut desk link (Reclaim caller) shut = record {
  none = reclaim_hands_none desk link caller;
  shut = ap (λ (era : Era). era.is_live) (reclaim_era desk link (end_of link.callers caller) caller) ∙ shut;
}
move_shut desk link (Part end caller which) shut = part_shut link end caller which shut
move_shut desk link (Take end which) shut = taken_shut link end which shut
move_shut desk link (Leave end which) shut = left_shut link end which shut

-- in a closed era no moves hand a message over
pub moves_hand_none : {D : Type 0} (desk : DeskMeaning D) (now : Recorded D) (moves : List Move) → now.link.era.is_live ≡ false → HandsNone now.link (after_moves desk now moves).link
moves_hand_none desk now [] shut = none_of now.link
moves_hand_none desk now (move ∷ moves) shut =
    let one = move_shut desk now.link move shut in
    let rest = moves_hand_none desk (after_move desk now move) moves one.shut in
    record { to_host = rest.to_host ∙ one.none.to_host; to_remote = rest.to_remote ∙ one.none.to_remote }

one_records_none : {D : Type 0} (desk : DeskMeaning D) (now : Recorded D) (move : Move) (end : End) → HandsNone now.link (link_after_move desk now.link move) → handings_to (after_move desk now move) end ≡ handings_to now end
one_records_none desk now move side.Host none = none_handed now.link.to_host (link_after_move desk now.link move).to_host now.to_host none.to_host
one_records_none desk now move side.Remote none = none_handed now.link.to_remote (link_after_move desk now.link move).to_remote now.to_remote none.to_remote

pub moves_record_none : {D : Type 0} (desk : DeskMeaning D) (now : Recorded D) (moves : List Move) (end : End) → now.link.era.is_live ≡ false → handings_to (after_moves desk now moves) end ≡ handings_to now end
moves_record_none desk now [] end shut = refl
moves_record_none desk now (move ∷ moves) end shut =
    let one = move_shut desk now.link move shut in
    moves_record_none desk (after_move desk now move) moves end one.shut ∙ one_records_none desk now move end one.none

-- a book and the handings begin with these
record IsGrown {D : Type 0} (old_book : List BookEntry) (old_handings : List Handing) (book : List BookEntry) (handed : ℕ) (state : D) (handings : List Handing) : Type 0 where
  pub longer_book : IsPrefix old_book book
  pub longer_handings : IsPrefix old_handings handings

grown_fact : {D : Type 0} (desk : DeskMeaning D) (old_book : List BookEntry) (old_handings : List Handing) → IsLaneFact desk (IsGrown old_book old_handings)
grown_fact desk old_book old_handings = record {
  accepted = λ book entry handed state handings grown. record { longer_book = prefix_more old_book book (book ++ entry ∷ []) (entry ∷ []) refl grown.longer_book; longer_handings = grown.longer_handings };
  changed = λ book handed before after handings keeps grown. record { longer_book = grown.longer_book; longer_handings = grown.longer_handings };
  handed = λ book entry handed state handings is grown. record { longer_book = grown.longer_book; longer_handings = prefix_more old_handings handings _ _ refl grown.longer_handings };
}

whole_front : {X : Type 0} (xs : List X) → IsPrefix xs xs
whole_front xs = record { rest = []; is = sym (append-nil xs) }

-- moves only add to a book and to the handings
pub moves_grow : {D : Type 0} (desk : DeskMeaning D) → AreDeskLaws desk → (start : Recorded D) (moves : List Move) (end : End) → SoundLink start.link → MayMoves desk start.link moves
    → IsPrefix (lane_to start.link end).lane.accepted (lane_to (after_moves desk start moves).link end).lane.accepted × IsPrefix (handings_to start end) (handings_to (after_moves desk start moves) end)
moves_grow desk laws start moves end sound may =
    let book = (lane_to start.link end).lane.accepted in
    let handings = handings_to start end in
    let after = moves_hold desk (IsGrown book handings) laws (grown_fact desk book handings) end start moves may (record { sound = sound; fact = record { longer_book = whole_front book; longer_handings = whole_front handings } }) in
    (after.fact.longer_book, after.fact.longer_handings)
