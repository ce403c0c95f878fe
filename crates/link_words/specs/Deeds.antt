-- What is done to a shared link, as changes of the ring form (own).
use Rattle.std.specs.Prelude.{None, slice_set, ◌≡◌, ℕ, false, if◌then◌else◌, [], Option, Some}
use Rattle.rp_base.specs.declared.kinds.End.{End}
use Rattle.lane_model.specs.declared.lane_links.LaneLink.{LaneLink}
use Rattle.lane_model.specs.declared.calls.Wish.{Wish}
use Rattle.lane_model.specs.declared.stages.Turn.TheVariants as turn
use Rattle.lane_model.specs.Desks.{DeskMeaning}
use Rattle.lane_model.specs.Lanes.{has_call}
use Rattle.lane_model.specs.Links.{Lanes, lanes_of, with_lanes, end_of, form_step, link_of, with_caller, free_number}
use Rattle.lane_model.specs.Conditions.{MayStep}
use Rattle.lane_model.specs.Recoveries.{link_after_close, link_after_reopen}
use Rattle.lane_laws.specs.Parts.{with_manager, without_manager, turn_left_without, MayPart}
use Rattle.lane_model.specs.declared.recoveries.LaneTurn.{LaneTurn}
use Rattle.lane_model.specs.declared.recoveries.ReclaimPart.TheVariants as part
use Rattle.link_words.specs.Words.{lane_to, with_lane}
use Rattle.link_words.specs.Turns.{HasFourTurns}
use Rattle.lane_model.specs.Soundness.{SoundLink}
use Rattle.ring_core.specs.declared.states.RingState.{RingState}
use Rattle.ring_core.specs.RingSteps.{ring_form}
use Rattle.lane_laws.specs.SoundRingLinks.{HasSoundRings}

-- one of the changes
pub data Deed : Type 0 where
  -- a step of this caller, whose call follows an incarnation; the wish is there where it is the first
  Steps : ℕ → ℕ → Option Wish → Deed
  -- the close of this incarnation
  Closes : ℕ → Deed
  -- part 3 of a reclaim of this caller of this end: the turn of its call is left
  EndsCall : End → ℕ → Deed
  -- the opening of the next incarnation
  Opens : Deed
  -- part 4 of a reclaim: the manager leaves this receiver's turn without what this caller holds
  LeavesTurn : End → ℕ → Deed
  -- the manager takes this turn of the lane to this end, where it is free, or leaves it, and nothing else changes
  ManagerTakes : LaneTurn → End → Deed
  ManagerLeaves : LaneTurn → End → Deed
  -- a caller is made on this end, or the number of this caller of this end is free
  Enlists : End → Deed
  Frees : End → ℕ → Deed
  -- a load or a reset that is no step of the ring form
  Nothing : Deed

-- the four turns are the manager's
abbrev pub AreManagers : {D : Type 0} → LaneLink (RingState D) → Type 0
AreManagers m = HasFourTurns (λ e. (lane_to m e).lane.sender) (λ e. (lane_to m e).lane.receiver)

-- and the era is closed, so that nobody steps
abbrev pub IsStill : {D : Type 0} → LaneLink (RingState D) → Type 0
IsStill m = (m.era.is_live ≡ false) × AreManagers m

-- nothing is held
abbrev pub HoldsNothing : {D : Type 0} → LaneLink (RingState D) → Type 0
HoldsNothing m = (m.to_host.lane.lane.held ≡ []) × (m.to_remote.lane.lane.held ≡ [])

module _ {D : Type 0} (desk : DeskMeaning D) where
  -- the lanes of a caller whose call is ended by a reclaim
  abbrev pub lanes_after_end : Lanes (RingState D) → ℕ → Lanes (RingState D)
  lanes_after_end lanes caller = record {
    outgoing = (ring_form desk).after_send_end lanes.outgoing caller;
    incoming = if has_call lanes.incoming.lane.receiver caller then (ring_form desk).after_receive_end lanes.incoming caller else lanes.incoming;
  }

  -- the next incarnation, with the four turns still the manager's
  abbrev pub link_after_opening : LaneLink (RingState D) → LaneLink (RingState D)
  link_after_opening m = let o = link_after_reopen (ring_form desk) m in record o {
    to_host = record o.to_host { lane = record o.to_host.lane { sender = turn.Manager; receiver = turn.Manager } };
    to_remote = record o.to_remote { lane = record o.to_remote.lane { sender = turn.Manager; receiver = turn.Manager } };
  }

  -- a lane whose receiver's turn the manager leaves, without what this caller held
  abbrev pub after_leave_without : RingState D → ℕ → RingState D
  after_leave_without s caller = record ((ring_form desk).after_receive_end s caller) { lane = turn_left_without s.lane caller }

  -- the state after a deed
  abbrev pub after_deed : LaneLink (RingState D) → Deed → LaneLink (RingState D)
  after_deed m (Steps caller follows wished) = (form_step (ring_form desk) desk m caller follows wished).state
  after_deed m (Closes inc) = link_after_close m inc
  after_deed m (EndsCall end caller) = with_lanes m end (lanes_after_end (lanes_of m end) caller)
  after_deed m Opens = link_after_opening m
  after_deed m (ManagerTakes which e) = with_lane m e (record (lane_to m e) { lane = with_manager (lane_to m e).lane which })
  after_deed m (ManagerLeaves which e) = with_lane m e (record (lane_to m e) { lane = without_manager (lane_to m e).lane which })
  after_deed m (LeavesTurn e caller) = with_lane m e (after_leave_without (lane_to m e) caller)
  after_deed m (Enlists e) = record m { callers = with_caller m.callers e (free_number m.callers) }
  after_deed m (Frees e caller) = record m { callers = slice_set m.callers caller None }
  after_deed m Nothing = m

  -- when a deed may be done: a step of a call by the condition of every step, the others in a closed era
  abbrev pub MayDo : LaneLink (RingState D) → Deed → Type 0
  MayDo m (Steps caller follows wished) = MayStep (link_of (ring_form desk) m) caller wished
  MayDo m (Closes inc) = Unit {0}
  MayDo m (EndsCall end caller) = (m.era.is_live ≡ false) × (end_of m.callers caller ≡ Some end)
  MayDo m Opens = IsStill m × HoldsNothing m
  MayDo m (ManagerTakes which e) = Unit {0}
  MayDo m (ManagerLeaves which e) = Unit {0}
  MayDo m (LeavesTurn e caller) = (m.era.is_live ≡ false) × (end_of m.callers caller ≡ Some e) × ((lane_to m e).lane.receiver ≡ turn.Manager)
  MayDo m (Enlists e) = Unit {0}
  MayDo m (Frees e caller) = (m.era.is_live ≡ false) × (end_of m.callers caller ≡ Some e) × MayPart (lanes_of (link_of (ring_form desk) m) e) caller part.FreesNumber
  MayDo m Nothing = Unit {0}

-- a state's rings are sound, and so is the link that it stands for
pub record IsSoundState {D : Type 0} (desk : DeskMeaning D) (m : LaneLink (RingState D)) : Type 0 where
  pub rings : HasSoundRings m
  pub sound : SoundLink (link_of (ring_form desk) m)
