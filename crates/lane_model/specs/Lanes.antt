-- The words of the lane machine on one lane: what is in the book, who holds what, whose a turn is (own).
use Rattle.std.specs.Prelude.{ℕ, Bool, false, ◌==◌, ◌&&◌, not, List, [], filter, slice_get, Option, Some, None}
use Rattle.std.specs.List.{list_any}
use Rattle.std.specs.Option.{option_map, option_map_or, unwrap_or}
use Rattle.rp_base.specs.declared.kinds.Era.{Era}
use Rattle.lane_model.specs.declared.TheConstants.{MANAGER}
use Rattle.lane_model.specs.declared.states.BookEntry.{BookEntry}
use Rattle.lane_model.specs.declared.states.Holding.{Holding}
use Rattle.lane_model.specs.declared.stages.Turn.{Turn}
use Rattle.lane_model.specs.declared.stages.Turn.TheVariants as turn
use Rattle.lane_model.specs.declared.calls.Outcome.{Outcome}
use Rattle.lane_model.specs.declared.calls.Outcome.TheVariants as outcome

-- what a step leaves, and what it does to its call
pub record Stepped (S : Type 0) : Type 0 where
  pub state : S
  pub outcome : Outcome

-- where no call is under way there is no step
abbrev pub still : {S : Type 0} → S → Stepped S
still state = record { state = state; outcome = outcome.At 0 }

-- the era is this incarnation, live
abbrev pub is_live_in : Era → ℕ → Bool
is_live_in era inc = (era.inc == inc) && era.is_live

-- the message of a number, or no byte where there is none
abbrev pub message_at : List BookEntry → ℕ → List ℕ
message_at book number = unwrap_or (option_map (λ entry. entry.message) (slice_get book number)) []

-- this caller holds the buffer of the message of this number
abbrev pub holds : List Holding → ℕ → ℕ → Bool
holds held number caller = list_any (λ holding. (holding.number == number) && (holding.caller == caller)) held

-- the holdings without that of this number in the hands of this caller
abbrev pub without : List Holding → ℕ → ℕ → List Holding
without held number caller = filter (λ holding. not ((holding.number == number) && (holding.caller == caller))) held

-- who has the turn
abbrev pub holder : {C : Type 0} → Turn C → Option ℕ
holder turn.Free = None
holder (turn.Taken caller call) = Some caller
holder (turn.Leaving caller end) = Some caller
holder turn.Manager = Some MANAGER

-- a call of this caller has the turn
abbrev pub has_call : {C : Type 0} → Turn C → ℕ → Bool
has_call turn.Free caller = false
has_call (turn.Taken other call) caller = other == caller
has_call (turn.Leaving other end) caller = other == caller
has_call turn.Manager caller = false

-- a free turn becomes this call's, and any other stays
abbrev pub taken_by : {C : Type 0} → Turn C → ℕ → C → Turn C
taken_by now caller call = option_map_or (λ _. now) (holder now) (turn.Taken caller call)

-- the call that has the turn, where one has it whose end is not settled
abbrev pub call_of : {C : Type 0} → Turn C → Option C
call_of turn.Free = None
call_of (turn.Taken caller call) = Some call
call_of (turn.Leaving caller end) = None
call_of turn.Manager = None

-- a fact about the call that has the turn, where one has it whose end is not settled
abbrev pub OfCall : {C : Type 0} → Turn C → (ℕ → C → Type 0) → Type 0
OfCall turn.Free P = Unit {0}
OfCall (turn.Taken caller call) P = P caller call
OfCall (turn.Leaving caller end) P = Unit {0}
OfCall turn.Manager P = Unit {0}

-- the next step of the call that has the turn: the leave where its end is settled, else what `goes` says
abbrev pub turn_step : {S C : Type 0} → S → S → (ℕ → C → Stepped S) → Turn C → Stepped S
turn_step state freed goes turn.Free = still state
turn_step state freed goes (turn.Taken caller call) = goes caller call
turn_step state freed goes (turn.Leaving caller end) = record { state = freed; outcome = outcome.Ended end }
turn_step state freed goes turn.Manager = still state
