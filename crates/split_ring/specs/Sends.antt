-- A send over the words: the call of its seat at each stage, and the walk that it does (own).
use Rattle.std.specs.Prelude.{◌≡◌, ◌≢◌, ◌+◌, ◌≤◌, ℕ, List, [], ◌∷◌, ◌++◌, Result, Ok, Err, true}
use base.Stored.{Coded}
use Rattle.rp_base.specs.declared.kinds.Era.{Era}
use Rattle.rp_base.specs.declared.limits.TheConstants.{BOOK_MOST}
use Rattle.lane_model.specs.declared.calls.CallEnd.{CallEnd}
use Rattle.lane_model.specs.declared.calls.CallEnd.TheVariants as end
use Rattle.lane_model.specs.declared.stages.SendStage.{SendStage}
use Rattle.lane_model.specs.declared.recoveries.LaneTurn.TheVariants as lane_turn
use Rattle.lane_model.specs.declared.stages.Turn.TheVariants as turn
use Rattle.lane_model.specs.Desks.{DeskMeaning}
use Rattle.link_words.specs.declared.rule.Call.{Call}
use Rattle.link_words.specs.declared.rule.Call.TheVariants.{Sends}
use Rattle.link_words.specs.declared.rule.Event.{Event}
use Rattle.link_words.specs.declared.rule.Counted.TheVariants.{Room}
use Rattle.link_words.specs.declared.rule.Event.TheVariants.{Step, Count, Publish}
use Rattle.link_words.specs.declared.rule.Made.TheVariants as made
use Rattle.link_words.specs.declared.rule.LinkSizes.{LinkSizes}
use Rattle.link_words.specs.declared.rule.Slot.{Slot}
use Rattle.link_words.specs.declared.rule.Slot.TheVariants.{Sender}
use Rattle.link_words.specs.Words.{other, sizes_at, sender_slot, buffer_slot}
use Rattle.link_words.specs.Calls.{SeatState}
use Rattle.link_words.specs.Histories.{LaneCounts}
use Rattle.split_ring.specs.Seats.{IsAt}
use Rattle.split_ring.specs.Turns.{MayLeave}
use Rattle.split_ring.specs.Walks.{HasDone, same_hands}
use Rattle.split_ring.specs.declared.callers.CallerId.{CallerId}
use Rattle.split_ring.specs.declared.sends.SendCall.{SendCall}
use Rattle.split_ring.specs.declared.sends.SendFault.{SendFault}
use Rattle.split_ring.specs.declared.sends.SendFault.TheVariants as fault

-- the call of a send that has done the step of this stage last
abbrev pub send_call : SendCall → SendStage → Call
send_call c stage = Sends (other c.who.end) (turn.Taken c.who.number (record { follows = c.who.follows; message = c.message.value; stage = stage })) c.side.value c.buffer

-- its side state is out
abbrev pub send_slots : SendCall → List (ℕ × Slot)
send_slots c = (sender_slot (other c.who.end), Sender c.side.value) ∷ []

-- the call knows the count of its side state, which is that of a book
pub record IsCounted (c : SendCall) : Type 0 where
  pub is : c.side.value.accepted ≡ c.accepted
  pub most : c.accepted ≤ BOOK_MOST

-- and its buffer, in which is this
abbrev pub send_buffer : LinkSizes → SendCall → Slot → List (ℕ × Slot)
send_buffer z c y = (buffer_slot z.to_host.capacity (other c.who.end) c.buffer, y) ∷ send_slots c

-- a send is at a stage, with its side state alone
abbrev pub IsSendAt : SendCall → SendStage → SeatState → Type 0
IsSendAt c stage me = IsAt me (send_call c stage) (send_slots c) × IsCounted c

-- or with its buffer too, in which is this
abbrev pub IsFilledAt : LinkSizes → SendCall → SendStage → Slot → SeatState → Type 0
IsFilledAt z c stage y me = IsAt me (send_call c stage) (send_buffer z c y) × IsCounted c

-- the live era of an incarnation
abbrev pub live_era : ℕ → Era
live_era inc = record { inc = inc; is_live = true }

-- what a send found when it found no room: each buffer is out, or else the book is full
abbrev pub HasNoRoom : LinkSizes → SendCall → ℕ → SendFault → CallEnd → Type 0
HasNoRoom z c returned (fault.Busy holder) ended = ⊥
HasNoRoom z c returned (fault.Dead era) ended = ⊥
HasNoRoom z c returned (fault.NoBuffer accepted back) ended =
    (accepted ≡ c.accepted) × (back ≡ returned) × (ended ≡ end.NoBuffer accepted back) × (accepted ≡ back + (sizes_at z (other c.who.end)).capacity)
HasNoRoom z c returned (fault.BookFull accepted) ended =
    (accepted ≡ c.accepted) × (ended ≡ end.BookFull accepted) × (accepted ≢ returned + (sizes_at z (other c.who.end)).capacity) × (accepted ≡ z.book)

-- the look for room of a caller's send: how many messages were accepted, and how many buffers are back
abbrev pub room_look : CallerId → ℕ → ℕ → Event
room_look who accepted returned = Count (other who.end) who.follows (Room accepted returned)

-- the steps of a whole send with its answer, the newest first
abbrev pub IsSendWalk : LinkSizes → CallerId → List ℕ → Result ℕ SendFault → List Event → Type 0
IsSendWalk z who message (Err (fault.Busy holder)) walk = walk ≡ Step (made.Turn (holder + 1)) ∷ []
IsSendWalk z who message (Err (fault.Dead era)) walk = (walk ≡ Step made.Left ∷ Step (made.Era era) ∷ Step (made.Turn 0) ∷ []) × (era ≢ live_era who.follows)
IsSendWalk z who message (Err (fault.NoBuffer accepted returned)) walk =
    (walk ≡ Step made.Left ∷ room_look who accepted returned ∷ Step (made.Era (live_era who.follows)) ∷ Step (made.Turn 0) ∷ [])
    × (accepted ≡ returned + (sizes_at z (other who.end)).capacity)
IsSendWalk z who message (Err (fault.BookFull accepted)) walk = (returned : ℕ)
    × (walk ≡ Step made.Left ∷ room_look who accepted returned ∷ Step (made.Era (live_era who.follows)) ∷ Step (made.Turn 0) ∷ [])
    × (accepted ≢ returned + (sizes_at z (other who.end)).capacity) × (accepted ≡ z.book)
IsSendWalk z who message (Ok number) walk = (returned : ℕ) × (buffer : ℕ)
    × (walk ≡ Step made.Left ∷ Publish (other who.end) who.follows number message ∷ Step made.Entry ∷ Step (made.Buffer buffer)
    ∷ room_look who number returned ∷ Step (made.Era (live_era who.follows)) ∷ Step (made.Turn 0) ∷ [])

-- what a send says of the counts of its lane is not below what its caller had seen
abbrev pub IsSendNotBelow : LaneCounts → Result ℕ SendFault → Type 0
IsSendNotBelow had (Ok number) = had.accepted ≤ number
IsSendNotBelow had (Err (fault.Busy holder)) = Unit {0}
IsSendNotBelow had (Err (fault.Dead era)) = Unit {0}
IsSendNotBelow had (Err (fault.NoBuffer accepted returned)) = (had.accepted ≤ accepted) × (had.returned ≤ returned)
IsSendNotBelow had (Err (fault.BookFull accepted)) = had.accepted ≤ accepted

-- a send did a whole walk, and what is in hand is as before
pub record IsSend {D : Type 0} (coded : Coded D) (meaning : DeskMeaning D) (z : LinkSizes) (who : CallerId) (message : List ℕ) (answer : Result ℕ SendFault) (me me' : SeatState) : Type 0 where
  pub walk : List Event
  pub is : IsSendWalk z who message answer walk
  pub done : HasDone coded meaning walk same_hands me me'

-- a send whose end is settled, after its first step: the answer is that of the walk which these steps and the last one make
pub record HasSettled {D : Type 0} (coded : Coded D) (meaning : DeskMeaning D) (z : LinkSizes) (who : CallerId) (message : List ℕ) (answer : Result ℕ SendFault) (me me' : SeatState) : Type 0 where
  pub leaves : MayLeave lane_turn.Sender (other who.end) me'
  pub steps : List Event
  pub is : IsSendWalk z who message answer (Step made.Left ∷ (steps ++ Step (made.Turn 0) ∷ []))
  pub done : HasDone coded meaning steps same_hands me me'
