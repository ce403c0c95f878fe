-- A take, a give, a binding and an unbinding over the words: the call of the seat at each step, and the walk that it does (own).
use Rattle.std.specs.Prelude.{◌≡◌, ◌≢◌, ◌⊎◌, ◌+◌, ◌<◌, ◌≤◌, ℕ, List, [], ◌∷◌, ◌++◌, Result, Ok, Err}
use base.Stored.{Coded}
use Rattle.rp_base.specs.declared.kinds.End.{End}
use Rattle.rp_base.specs.declared.kinds.End.TheVariants as side
use Rattle.rp_base.specs.declared.kinds.Era.{Era}
use Rattle.rp_base.specs.declared.limits.TheConstants.{BOOK_MOST}
use Rattle.lane_model.specs.declared.calls.CallEnd.{CallEnd}
use Rattle.lane_model.specs.declared.calls.CallEnd.TheVariants as ends
use Rattle.lane_model.specs.declared.recoveries.LaneTurn.TheVariants as lane_turn
use Rattle.lane_model.specs.declared.stages.Work.{Work}
use Rattle.lane_model.specs.Desks.{DeskMeaning}
use Rattle.lane_model.specs.HeldBuffers.{HeldBuffer}
use Rattle.link_words.specs.declared.rule.Event.{Event}
use Rattle.link_words.specs.declared.rule.Counted.TheVariants.{Waiting, Gave}
use Rattle.link_words.specs.declared.rule.Event.TheVariants.{Step, Count, Take}
use Rattle.link_words.specs.declared.rule.Made.TheVariants as made
use Rattle.link_words.specs.declared.rule.LinkSizes.{LinkSizes}
use Rattle.link_words.specs.declared.rule.ReceiverSide.{ReceiverSide}
use Rattle.link_words.specs.declared.rule.Slot.TheVariants.{Buffer}
use Rattle.link_words.specs.Calls.{SeatState}
use Rattle.link_words.specs.Histories.{LaneCounts, NoneLater, latest, seen}
use Rattle.link_words.specs.Passes.{HasNumber}
use Rattle.link_words.specs.Steps.{hands_but}
use Rattle.link_words.specs.Words.{buffer_slot}
use Rattle.split_ring.specs.Seats.{IsAt, pass_in}
use Rattle.split_ring.specs.Sends.{live_era}
use Rattle.split_ring.specs.Turns.{MayLeave, receive_call, receive_slots}
use Rattle.split_ring.specs.Walks.{HasDone, one_more}
use Rattle.split_ring.specs.declared.callers.CallerId.{CallerId}
use Rattle.split_ring.specs.declared.takes.Handing.{Handing}
use Rattle.split_ring.specs.declared.takes.Taken.{Taken}
use Rattle.split_ring.specs.declared.takes.TakeCall.{TakeCall}
use Rattle.split_ring.specs.declared.takes.TakeFault.{TakeFault}
use Rattle.split_ring.specs.declared.takes.TakeFault.TheVariants as take_fault
use Rattle.split_ring.specs.declared.gives.GiveBusy.{GiveBusy}

-- the lane to an end by its number
abbrev pub lane_number : End → ℕ
lane_number side.Host = 0
lane_number side.Remote = 1

-- a take is at this work, with its side state alone, which says that so many messages were handed over
pub record IsTakeAt (c : TakeCall) (work : Work) (me : SeatState) : Type 0 where
  pub side : ReceiverSide
  pub handed : side.handed ≡ c.handed
  pub most : c.handed ≤ BOOK_MOST
  pub at : IsAt me (receive_call c.who work side 0 []) (receive_slots c.who side)

-- the same, with this buffer out too, in which is this message
pub record HasBufferOut (z : LinkSizes) (c : TakeCall) (work : Work) (buffer : ℕ) (message : List ℕ) (me : SeatState) : Type 0 where
  pub side : ReceiverSide
  pub handed : side.handed ≡ c.handed
  pub most : c.handed ≤ BOOK_MOST
  pub at : IsAt me (receive_call c.who work side buffer message) ((buffer_slot z.to_host.capacity c.who.end buffer, Buffer message) ∷ receive_slots c.who side)

-- what a caller is handed: the message of this number of the lane to its end, which a desk judged so
pub record IsHandedTo {D : Type 0} (meaning : DeskMeaning D) (who : CallerId) (number : ℕ) (message : List ℕ) (taken : Taken) : Type 0 where
  pub lane : taken.held.lane ≡ lane_number who.end
  pub caller : taken.held.caller ≡ who.number
  pub numbered : taken.held.number ≡ number
  pub said : taken.held.message ≡ message
  pub desk : D
  pub judged : taken.verdict ≡ meaning.verdict desk number message

-- a message that was handed over in the lane to its caller's end, with its bytes
abbrev pub taken_of : CallerId → Handing → List ℕ → Taken
taken_of who handing message = record {
  held = record { lane = lane_number who.end; caller = who.number; number = handing.number; buffer = handing.buffer; message = message };
  verdict = handing.verdict;
}

-- the answer of a take that read the bytes into a message beside it
abbrev pub took : {F : Type 0} → CallerId → List ℕ → Result Handing F → Result Taken F
took who message (Ok handing) = Ok (taken_of who handing message)
took who message (Err fault) = Err fault

-- the end of a take at its second look at the era, after which the message of this number is handed over or not
abbrev pub handing_end : ℕ → Result Taken Era → CallEnd
handing_end number (Ok taken) = ends.Took number taken.verdict
handing_end number (Err era) = ends.Dead era

-- the look for a message of a caller's take: how many were handed over, and how many are accepted
abbrev pub message_look : CallerId → ℕ → ℕ → Event
message_look who handed accepted = Count who.end who.follows (Waiting handed accepted)

-- the steps of a whole take with its answer, the newest first
abbrev pub IsTakeWalk : {D : Type 0} → DeskMeaning D → CallerId → Result Taken TakeFault → List Event → Type 0
IsTakeWalk meaning who (Err (take_fault.Busy holder)) walk = walk ≡ Step (made.Turn (holder + 1)) ∷ []
IsTakeWalk meaning who (Err (take_fault.Dead era)) walk =
    ((walk ≡ Step made.Left ∷ Step (made.Era era) ∷ Step (made.Turn 0) ∷ [])
    ⊎ ((buffer : ℕ) × (handed accepted : ℕ) × (walk ≡ Step made.Left ∷ Step (made.Era era) ∷ Step (made.Buffer buffer) ∷ message_look who handed accepted
    ∷ Step (made.Era (live_era who.follows)) ∷ Step (made.Turn 0) ∷ [])))
    × (era ≢ live_era who.follows)
IsTakeWalk meaning who (Err (take_fault.Empty accepted)) walk =
    walk ≡ Step made.Left ∷ message_look who accepted accepted ∷ Step (made.Era (live_era who.follows)) ∷ Step (made.Turn 0) ∷ []
IsTakeWalk meaning who (Ok taken) walk = (number : ℕ) × (message : List ℕ) × (buffer accepted : ℕ) × IsHandedTo meaning who number message taken
    × (walk ≡ Step made.Left ∷ Step (made.Era (live_era who.follows)) ∷ Take who.end who.follows number message ∷ Step (made.Buffer buffer)
    ∷ message_look who number accepted ∷ Step (made.Era (live_era who.follows)) ∷ Step (made.Turn 0) ∷ [])

-- what a take says of the counts of its lane is not below what its caller had seen
abbrev pub IsTakeNotBelow : LaneCounts → Result Taken TakeFault → Type 0
IsTakeNotBelow had (Ok taken) = had.handed ≤ taken.held.number
IsTakeNotBelow had (Err (take_fault.Busy holder)) = Unit {0}
IsTakeNotBelow had (Err (take_fault.Dead era)) = Unit {0}
IsTakeNotBelow had (Err (take_fault.Empty accepted)) = (had.handed ≤ accepted) × (had.accepted ≤ accepted)

-- what is in hand after it
abbrev pub hands_after : Result Taken TakeFault → List ℕ → List ℕ
hands_after (Ok taken) hands = one_more taken.held.number hands
hands_after (Err fault) hands = hands

-- a take did a whole walk
pub record IsTake {D : Type 0} (coded : Coded D) (meaning : DeskMeaning D) (who : CallerId) (answer : Result Taken TakeFault) (me me' : SeatState) : Type 0 where
  pub walk : List Event
  pub is : IsTakeWalk meaning who answer walk
  pub done : HasDone coded meaning walk (hands_after answer) me me'

-- a take whose end is settled, after its first step: the answer is that of the walk which these steps and the last one make
pub record HasSettledTake {D : Type 0} (coded : Coded D) (meaning : DeskMeaning D) (who : CallerId) (answer : Result Taken TakeFault) (me me' : SeatState) : Type 0 where
  pub leaves : MayLeave lane_turn.Receiver who.end me'
  pub steps : List Event
  pub is : IsTakeWalk meaning who answer (Step made.Left ∷ (steps ++ Step (made.Turn 0) ∷ []))
  pub done : HasDone coded meaning steps (hands_after answer) me me'

-- a buffer that this caller has in hand
pub record IsHeldBy (who : CallerId) (held : HeldBuffer) (me : SeatState) : Type 0 where
  pub lane : held.lane ≡ lane_number who.end
  pub caller : held.caller ≡ who.number
  pub numbered : HasNumber (pass_in me).hands held.number

-- a give is at this work, with its side state, which says that so many buffers are back
pub record IsGiveAt (who : CallerId) (returned : ℕ) (work : Work) (me : SeatState) : Type 0 where
  pub side : ReceiverSide
  pub back : side.returned ≡ returned
  pub most : returned ≤ BOOK_MOST
  pub at : IsAt me (receive_call who work side 0 []) (receive_slots who side)

-- the answer of a give that was given the number of this buffer's message alone
abbrev pub given_of : HeldBuffer → Result ℕ ℕ → Result ℕ GiveBusy
given_of held (Ok number) = Ok number
given_of held (Err holder) = Err (record { holder = holder; held = held })

-- the steps of a whole give in this incarnation with its answer, the newest first; where the turn is another's the buffer comes back
abbrev pub IsGiveWalk : End → ℕ → HeldBuffer → Result ℕ GiveBusy → List Event → Type 0
IsGiveWalk end inc held (Err busy) walk = (walk ≡ Step (made.Turn (busy.holder + 1)) ∷ []) × (busy.held ≡ held)
IsGiveWalk end inc held (Ok number) walk = (number ≡ held.number)
    × ((returned : ℕ) × (walk ≡ Step made.Left ∷ Count end inc (Gave (returned + 1)) ∷ Step made.Entry ∷ Step (made.Turn 0) ∷ []))

-- a give reads no era: it is in the incarnation of its caller's latest step, which none is past. The count of buffers that are back which it
-- made is above what the caller had seen, and the caller has seen it then
abbrev pub IsGiveAbove : End → List Event → Result ℕ GiveBusy → List Event → Type 0
IsGiveAbove end before (Err busy) after = Unit {0}
IsGiveAbove end before (Ok number) after = let inc = latest before in NoneLater inc before × ((returned : ℕ) × ((seen end inc before).returned < returned) × ((seen end inc after).returned ≡ returned))

-- what is in hand after it
abbrev pub hands_left : Result ℕ GiveBusy → List ℕ → List ℕ
hands_left (Ok number) hands = hands_but hands number
hands_left (Err busy) hands = hands

-- a give did a whole walk
pub record IsGive {D : Type 0} (coded : Coded D) (meaning : DeskMeaning D) (end : End) (held : HeldBuffer) (answer : Result ℕ GiveBusy) (me me' : SeatState) : Type 0 where
  pub walk : List Event
  pub is : IsGiveWalk end (latest (pass_in me).own) held answer walk
  pub done : HasDone coded meaning walk (hands_left answer) me me'
