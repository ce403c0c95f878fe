-- When a step may be taken, and what each stage of a call has established (own).
use Rattle.std.specs.Prelude.{◌≡◌, ℕ, ◌+◌, ◌*◌, ◌^◌, ◌<◌, ◌≤◌, Bool, true, false, IsTrue, ◌||◌, List, length, Option, Some, None}
use Rattle.std.specs.Option.{option_map_or}
use Rattle.rp_base.specs.declared.kinds.End.{End}
use Rattle.rp_base.specs.declared.limits.TheConstants.{BOOK_MOST, MESSAGE_MOST}
use Rattle.rp_base.specs.Limits.{IsRingSize, ring_capacity}
use Rattle.lane_model.specs.declared.states.Holding.{Holding}
use Rattle.lane_model.specs.declared.states.Lane.{Lane}
use Rattle.lane_model.specs.declared.states.LaneState.{LaneState}
use Rattle.lane_model.specs.declared.stages.Sending.{Sending}
use Rattle.lane_model.specs.declared.stages.SendStage.{SendStage}
use Rattle.lane_model.specs.declared.stages.SendStage.TheVariants as stage
use Rattle.lane_model.specs.declared.stages.Receiving.{Receiving}
use Rattle.lane_model.specs.declared.stages.Work.{Work}
use Rattle.lane_model.specs.declared.stages.Work.TheVariants as work
use Rattle.lane_model.specs.declared.stages.TakeStage.{TakeStage}
use Rattle.lane_model.specs.declared.stages.TakeStage.TheVariants as take_stage
use Rattle.lane_model.specs.declared.stages.GiveStage.TheVariants as give_stage
use Rattle.lane_model.specs.declared.stages.Turn.{Turn}
use Rattle.lane_model.specs.declared.calls.Wish.{Wish}
use Rattle.lane_model.specs.declared.calls.Wish.TheVariants as wish
use Rattle.lane_model.specs.declared.calls.LinkConfig.{LinkConfig}
use Rattle.lane_model.specs.Lanes.{holds, has_call, OfCall}
use Rattle.lane_model.specs.Links.{LinkState, Lanes, lanes_of, end_of}

-- a send at this stage has looked for room
abbrev pub has_sought_room : SendStage → Bool
has_sought_room stage.Turn = false
has_sought_room stage.Era = false
has_sought_room stage.Look = true
has_sought_room stage.Buffer = true
has_sought_room stage.Entry = true

-- a send that has looked and not published has room in the ring and in the book
abbrev pub HasRoomAt : SendStage → Lane → Type 0
HasRoomAt stage lane = has_sought_room stage ≡ true → (length lane.accepted < lane.returned + lane.capacity) × (length lane.accepted < lane.book)

-- the send that has the turn, if any, has the room that it found
abbrev pub HasRoom : Turn Sending → Lane → Type 0
HasRoom now lane = OfCall now (λ caller s. HasRoomAt s.stage lane)

-- a take at this stage has looked for a message
abbrev pub has_sought_message : TakeStage → Bool
has_sought_message take_stage.Turn = false
has_sought_message take_stage.Era = false
has_sought_message take_stage.Look = true
has_sought_message take_stage.Buffer = true

-- a take that has looked and not handed has a message
abbrev pub HasMessageAt : TakeStage → Lane → Type 0
HasMessageAt stage lane = has_sought_message stage ≡ true → length lane.takers < length lane.accepted

-- a take has the message that it found, and a give the buffer that it names
abbrev pub IsFitWork : Work → Lane → ℕ → Type 0
IsFitWork (work.Take stage) lane caller = HasMessageAt stage lane
IsFitWork (work.Give number stage) lane caller = IsTrue (holds lane.held number caller)
IsFitWork (work.Bind address) lane caller = Unit {0}
IsFitWork (work.Unbind address) lane caller = Unit {0}

-- the call that has the receiver's turn, if any, has what it found or names
abbrev pub IsFitReceiver : Turn Receiving → Lane → Type 0
IsFitReceiver now lane = OfCall now (λ caller r. IsFitWork r.work lane caller)

-- the work of a call that has done its first step alone
abbrev pub IsFirst : Work → Type 0
IsFirst (work.Take stage) = stage ≡ take_stage.Turn
IsFirst (work.Give number stage) = stage ≡ give_stage.Turn
IsFirst (work.Bind address) = Unit {0}
IsFirst (work.Unbind address) = Unit {0}

-- a message fits a buffer, and a give names a buffer that this caller holds
abbrev pub IsFitWish : Wish → List Holding → ℕ → Type 0
IsFitWish (wish.Send message) held caller = length message ≤ MESSAGE_MOST
IsFitWish wish.Take held caller = Unit {0}
IsFitWish (wish.Give number) held caller = IsTrue (holds held number caller)
IsFitWish (wish.Bind address) held caller = Unit {0}
IsFitWish (wish.Unbind address) held caller = Unit {0}

-- the caller has a call under way
abbrev pub is_in_call : {D : Type 0} → Lanes (LaneState D) → ℕ → Bool
is_in_call lanes caller = has_call lanes.outgoing.sender caller || has_call lanes.incoming.receiver caller

-- the caller of this number is in use and has a call under way
abbrev pub is_calling : {D : Type 0} → LinkState D → ℕ → Bool
is_calling link caller = option_map_or (λ end. is_in_call (lanes_of link end) caller) (end_of link.callers caller) false

-- the caller of this number is in use and holds the buffer of the message of that number
abbrev pub is_holding : {D : Type 0} → LinkState D → ℕ → ℕ → Bool
is_holding link caller number =
    option_map_or (λ end. holds (lanes_of link end).incoming.lane.held number caller) (end_of link.callers caller) false

-- a call that has done no step is of a caller who is in no call; one that has done steps is under way
abbrev pub MayLanesStep : {D : Type 0} → Lanes (LaneState D) → ℕ → Option Wish → Type 0
MayLanesStep lanes caller (Some wished) = (is_in_call lanes caller ≡ false) × IsFitWish wished lanes.incoming.lane.held caller
MayLanesStep lanes caller None = is_in_call lanes caller ≡ true

-- the next step of a caller of this end; a number that is not in use has no step
abbrev pub MayEndStep : {D : Type 0} → LinkState D → Option End → ℕ → Option Wish → Type 0
MayEndStep link (Some end) caller wished = MayLanesStep (lanes_of link end) caller wished
MayEndStep link None caller wished = ⊥

-- the caller is in use, and this is its next step
pub record MayStep {D : Type 0} (link : LinkState D) (caller : ℕ) (wished : Option Wish) : Type 0 where
  pub may : MayEndStep link (end_of link.callers caller) caller wished

-- the caller is in use, and this work is what it may begin
abbrev pub MayWork : {D : Type 0} → LinkState D → Option End → ℕ → Work → Type 0
MayWork link (Some end) caller first = IsFirst first × IsFitWork first (lanes_of link end).incoming.lane caller
MayWork link None caller first = ⊥

-- what a link may be made of
pub record IsConfig (config : LinkConfig) : Type 0 where
  pub to_host : IsRingSize config.num0
  pub to_remote : IsRingSize config.num1
  pub book : (1 ≤ config.book) × (config.book ≤ BOOK_MOST)
  pub first : 1 ≤ config.first
  pub buffers : config.base + MESSAGE_MOST * (ring_capacity config.num0 + ring_capacity config.num1) ≤ 2 ^ 32
