-- What may befall a link within one incarnation, and runs of it with what they hand over (own).
use Rattle.std.specs.Prelude.{◌≡◌, ℕ, false, List, [], ◌∷◌, ◌++◌, map, Option, Some}
use Rattle.rp_base.specs.declared.kinds.End.{End}
use Rattle.rp_base.specs.declared.kinds.End.TheVariants as side
use Rattle.rp_base.specs.declared.kinds.BoundEndpoint.{BoundEndpoint}
use Rattle.lane_model.specs.declared.states.LaneState.{LaneState}
use Rattle.lane_model.specs.declared.stages.Turn.TheVariants as turn
use Rattle.lane_model.specs.declared.calls.Wish.{Wish}
use Rattle.lane_model.specs.declared.recoveries.ReclaimPart.{ReclaimPart}
use Rattle.lane_model.specs.declared.recoveries.LaneTurn.{LaneTurn}
use Rattle.lane_model.specs.Desks.{DeskMeaning, IsFreshDesk, IsBound}
use Rattle.lane_model.specs.Forms.{list_form}
use Rattle.lane_model.specs.Links.{LinkState, lanes_of, end_of, caller_step, with_caller, free_number}
use Rattle.lane_model.specs.Conditions.{MayStep}
use Rattle.lane_model.specs.Recoveries.{link_after_close, link_after_reclaim}
use Rattle.lane_laws.specs.Parts.{part_done, reclaim_parts, MayPart, with_manager, without_manager}
use Rattle.lane_model.specs.Soundness.{SoundLink}
use Rattle.lane_laws.specs.Handings.{Handing, handed_by}

-- what may befall a link within an incarnation
pub data Move : Type 0 where
  -- a caller is made on this end
  Enlist : End → Move
  -- a step of the call of this caller, which follows an incarnation; the wish is there where the call has done no step
  Step : ℕ → ℕ → Option Wish → Move
  -- this incarnation is closed
  Close : ℕ → Move
  -- this caller is reclaimed at once
  Reclaim : ℕ → Move
  -- a part of the reclaim of this caller of this end
  Part : End → ℕ → ReclaimPart → Move
  -- the manager takes, or leaves, a turn of the lane to this end
  Take : End → LaneTurn → Move
  Leave : End → LaneTurn → Move

-- the lane that carries messages to this end
abbrev pub lane_to : {D : Type 0} → LinkState D → End → LaneState D
lane_to link side.Host = link.to_host
lane_to link side.Remote = link.to_remote

-- the link with another lane to this end
abbrev pub with_lane_to : {D : Type 0} → LinkState D → End → LaneState D → LinkState D
with_lane_to link side.Host state = record link { to_host = state }
with_lane_to link side.Remote state = record link { to_remote = state }

-- the link after a move
abbrev pub link_after_move : {D : Type 0} → DeskMeaning D → LinkState D → Move → LinkState D
link_after_move desk link (Enlist new) = record link { callers = with_caller link.callers new (free_number link.callers) }
link_after_move desk link (Step caller follows wished) = (caller_step desk link caller follows wished).state
link_after_move desk link (Close inc) = link_after_close link inc
link_after_move desk link (Reclaim caller) = link_after_reclaim (list_form desk) link caller
link_after_move desk link (Part end caller which) = part_done link end caller which
link_after_move desk link (Take end which) = with_lane_to link end (with_manager (lane_to link end) which)
link_after_move desk link (Leave end which) = with_lane_to link end (without_manager (lane_to link end) which)

-- when a move may be made: a step where it may be taken, and a reclaim, at once or in parts, in a closed era
abbrev pub MayMove : {D : Type 0} → LinkState D → Move → Type 0
MayMove link (Enlist new) = Unit {0}
MayMove link (Step caller follows wished) = MayStep link caller wished
MayMove link (Close inc) = Unit {0}
MayMove link (Reclaim caller) = link.era.is_live ≡ false
MayMove link (Part end caller which) =
    (link.era.is_live ≡ false) × (end_of link.callers caller ≡ Some end) × MayPart (lanes_of link end) caller which
MayMove link (Take end which) = Unit {0}
MayMove link (Leave end which) = Unit {0}

-- the moves that reclaim this caller of this end in parts, with nothing between
abbrev pub reclaim_moves : {D : Type 0} → LinkState D → End → ℕ → List Move
reclaim_moves link end caller = map (Part end caller) (reclaim_parts (lanes_of link end) caller)

-- a link, and what it has handed over in its incarnation, to either end
pub record Recorded (D : Type 0) : Type 0 where
  pub link : LinkState D
  pub to_host : List Handing
  pub to_remote : List Handing

-- a link that has handed nothing over
abbrev pub no_handings : {D : Type 0} → LinkState D → Recorded D
no_handings link = record { link = link; to_host = []; to_remote = [] }

-- what was handed over to this end
abbrev pub handings_to : {D : Type 0} → Recorded D → End → List Handing
handings_to now side.Host = now.to_host
handings_to now side.Remote = now.to_remote

-- a link after a move, with what the move handed over
abbrev pub after_move : {D : Type 0} → DeskMeaning D → Recorded D → Move → Recorded D
after_move desk now move = record {
  link = link_after_move desk now.link move;
  to_host = now.to_host ++ handed_by now.link.to_host (link_after_move desk now.link move).to_host;
  to_remote = now.to_remote ++ handed_by now.link.to_remote (link_after_move desk now.link move).to_remote;
}

-- a link after moves, one after the other
abbrev pub after_moves : {D : Type 0} → DeskMeaning D → Recorded D → List Move → Recorded D
after_moves desk now [] = now
after_moves desk now (move ∷ moves) = after_moves desk (after_move desk now move) moves

-- each of these moves may be made where the ones before it have been
abbrev pub MayMoves : {D : Type 0} → DeskMeaning D → LinkState D → List Move → Type 0
MayMoves desk link [] = Unit {0}
MayMoves desk link (move ∷ moves) = MayMove link move × MayMoves desk (link_after_move desk link move) moves

-- nothing was handed over on either lane
pub record HandsNone {D : Type 0} (before after : LinkState D) : Type 0 where
  pub to_host : after.to_host.lane.takers ≡ before.to_host.lane.takers
  pub to_remote : after.to_remote.lane.takers ≡ before.to_remote.lane.takers

-- a lane at the start of an incarnation
pub record IsNewLane {D : Type 0} (desk : DeskMeaning D) (state : LaneState D) : Type 0 where
  pub accepted : state.lane.accepted ≡ []
  pub takers : state.lane.takers ≡ []
  pub fresh : IsFreshDesk desk state.desk

-- a lane on which nothing was accepted, handed over or given back, with no call under way
pub record IsEmptyLane {D : Type 0} (state : LaneState D) : Type 0 where
  pub accepted : state.lane.accepted ≡ []
  pub takers : state.lane.takers ≡ []
  pub held : state.lane.held ≡ []
  pub returned : state.lane.returned ≡ 0
  pub sender : state.sender ≡ turn.Free
  pub receiver : state.receiver ≡ turn.Free

-- a link at the start of an incarnation, the first one or a later one
pub record IsNewLink {D : Type 0} (desk : DeskMeaning D) (link : LinkState D) : Type 0 where
  pub sound : SoundLink link
  pub to_host : IsNewLane desk link.to_host
  pub to_remote : IsNewLane desk link.to_remote

-- a link from the start of an incarnation on, after the moves `before` and then the moves `since`; this endpoint of this end was bound
-- after the moves `before`
pub record WasBound {D : Type 0} (desk : DeskMeaning D) (start : LinkState D) (before since : List Move) (end : End) (bound : BoundEndpoint) : Type 0 where
  pub new : IsNewLink desk start
  pub came : MayMoves desk start before
  pub bound_then : IsBound desk (lane_to (after_moves desk (no_handings start) before).link end).desk bound
  pub went_on : MayMoves desk (after_moves desk (no_handings start) before).link since
