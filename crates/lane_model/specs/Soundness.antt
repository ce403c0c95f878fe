-- What every state of a link keeps, whatever steps its callers take (own).
use Rattle.std.specs.Prelude.{◌≡◌, ℕ, ◌+◌, ◌<◌, ◌≤◌, Bool, true, false, ◌==◌, List, [], ◌∷◌, length, Option, Some}
use Rattle.std.specs.List.{list_any}
use Rattle.rp_base.specs.declared.kinds.End.{End}
use Rattle.rp_base.specs.declared.kinds.End.TheVariants as side
use Rattle.lane_model.specs.declared.states.Holding.{Holding}
use Rattle.lane_model.specs.declared.states.LaneState.{LaneState}
use Rattle.lane_model.specs.declared.stages.Turn.{Turn}
use Rattle.lane_model.specs.declared.stages.Turn.TheVariants as turn
use Rattle.lane_model.specs.Lanes.{has_call}
use Rattle.lane_model.specs.Links.{LinkState, end_of}
use Rattle.lane_model.specs.Conditions.{HasRoom, IsFitReceiver}

-- a caller is in use on this end
abbrev pub IsUser : List (Option End) → End → ℕ → Type 0
IsUser callers end caller = end_of callers caller ≡ Some end

-- the message of this number is held by somebody
abbrev pub is_held : List Holding → ℕ → Bool
is_held held number = list_any (λ holding. holding.number == number) held

-- each number is held once, and its message was handed over
abbrev pub AreHandedOnce : ℕ → List Holding → Type 0
AreHandedOnce handed [] = Unit {0}
AreHandedOnce handed (h ∷ hs) = (is_held hs h.number ≡ false) × (h.number < handed) × AreHandedOnce handed hs

-- who holds a buffer is in use on this end
abbrev pub AreUsers : List (Option End) → End → List Holding → Type 0
AreUsers callers end [] = Unit {0}
AreUsers callers end (h ∷ hs) = IsUser callers end h.caller × AreUsers callers end hs

-- a lane by itself: its counts, its holdings, and what each call under way has found
pub record IsSoundLane {D : Type 0} (state : LaneState D) : Type 0 where
  pub counts : state.lane.returned + length state.lane.held ≤ length state.lane.takers
  pub handed : length state.lane.takers ≤ length state.lane.accepted
  pub out : length state.lane.accepted ≤ state.lane.returned + state.lane.capacity
  pub within : length state.lane.accepted ≤ state.lane.book
  pub holdings : AreHandedOnce (length state.lane.takers) state.lane.held
  pub room : HasRoom state.sender state.lane
  pub fit : IsFitReceiver state.receiver state.lane

-- the caller who has a turn is in use on the end that the turn belongs to
abbrev pub IsSoundTurn : {C : Type 0} → List (Option End) → End → Turn C → Type 0
IsSoundTurn callers end turn.Free = Unit {0}
IsSoundTurn callers end (turn.Taken caller call) = IsUser callers end caller
IsSoundTurn callers end (turn.Leaving caller ended) = IsUser callers end caller
IsSoundTurn callers end turn.Manager = Unit {0}

-- a lane between these ends, of a link that is live or not
pub record IsSoundBetween {D : Type 0} (callers : List (Option End)) (sends receives : End) (is_live : Bool) (state : LaneState D) : Type 0 where
  pub lane : IsSoundLane state
  pub whole : is_live ≡ true → state.lane.returned + length state.lane.held ≡ length state.lane.takers
  pub users : AreUsers callers receives state.lane.held
  pub sender : IsSoundTurn callers sends state.sender
  pub receiver : IsSoundTurn callers receives state.receiver

-- no caller sends on one lane while it has the receiver's turn of the other
abbrev pub IsAlone : {D : Type 0} → LaneState D → LaneState D → Type 0
IsAlone outgoing incoming = (caller : ℕ) → has_call outgoing.sender caller ≡ true → has_call incoming.receiver caller ≡ false

-- a sound link
pub record SoundLink {D : Type 0} (link : LinkState D) : Type 0 where
  pub to_host : IsSoundBetween link.callers side.Remote side.Host link.era.is_live link.to_host
  pub to_remote : IsSoundBetween link.callers side.Host side.Remote link.era.is_live link.to_remote
  pub hosts : IsAlone link.to_remote link.to_host
  pub remotes : IsAlone link.to_host link.to_remote
