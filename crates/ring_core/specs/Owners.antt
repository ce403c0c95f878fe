-- Who has a buffer: the places that it is in (own).
use Rattle.std.specs.Prelude.{ℕ, zero, suc, ◌+◌, ◌-◌, ◌==◌, Bool, true, false, nat_lt, if◌then◌else◌, List, [], ◌∷◌, ◌++◌, length}
use Rattle.lane_model.specs.declared.stages.Sending.{Sending}
use Rattle.lane_model.specs.declared.stages.Receiving.{Receiving}
use Rattle.lane_model.specs.declared.stages.SendStage.{SendStage}
use Rattle.lane_model.specs.declared.stages.SendStage.TheVariants as stage
use Rattle.lane_model.specs.declared.stages.Work.{Work}
use Rattle.lane_model.specs.declared.stages.Work.TheVariants as work
use Rattle.lane_model.specs.declared.stages.TakeStage.{TakeStage}
use Rattle.lane_model.specs.declared.stages.TakeStage.TheVariants as take_stage
use Rattle.lane_model.specs.declared.stages.Turn.{Turn}
use Rattle.lane_model.specs.declared.stages.Turn.TheVariants as turn
use Rattle.ring_core.specs.declared.states.Hand.{Hand}
use Rattle.ring_core.specs.declared.states.RingState.{RingState}
use Rattle.ring_core.specs.Rings.{buffer_at, source_buffer}

-- a place of a buffer of a lane
pub data Place : Type 0 where
  -- the sender's own list, for the send of this number
  InOwnList : ℕ → Place
  -- the return ring, in the entry that the send of this number will read
  InReturnRing : ℕ → Place
  -- out with the send that has the sender's turn
  WithSend : Place
  -- the forward ring, with the message of this number
  InForwardRing : ℕ → Place
  -- out with the take that has the receiver's turn
  WithTake : Place
  -- in the hands of a caller, with the message of this number
  InHands : ℕ → Place
  -- aside, since the caller that had it in hand was reclaimed
  PutAside : Place

-- 1 where this is the buffer, else 0
abbrev pub once : ℕ → ℕ → ℕ
once buffer id = if buffer == id then 1 else 0

-- 1 below a bound, else 0
abbrev pub once_below : ℕ → ℕ → ℕ
once_below number bound = if nat_lt number bound then 1 else 0

-- how many of so many numbers from `first` on name the buffer `id`
abbrev pub times_between : (ℕ → ℕ) → ℕ → ℕ → ℕ → ℕ
times_between buffer_of id first zero = 0
times_between buffer_of id first (suc count) = once (buffer_of first) id + times_between buffer_of id (first + 1) count

-- how many hands have the buffer
abbrev pub times_in_hands : List Hand → ℕ → ℕ
times_in_hands [] id = 0
times_in_hands (hand ∷ hands) id = once hand.buffer id + times_in_hands hands id

-- how often a list of buffers has this one
abbrev pub times_in : List ℕ → ℕ → ℕ
times_in [] id = 0
times_in (buffer ∷ buffers) id = once buffer id + times_in buffers id

-- how many hands have the message of this number
abbrev pub times_numbered : List Hand → ℕ → ℕ
times_numbered [] number = 0
times_numbered (hand ∷ hands) number = once hand.number number + times_numbered hands number

-- the place where the buffer is this one
abbrev pub place_if : ℕ → ℕ → Place → List Place
place_if buffer id place = if buffer == id then place ∷ [] else []

-- the places of the buffer among so many numbers from `first` on
abbrev pub places_between : (ℕ → ℕ) → (ℕ → Place) → ℕ → ℕ → ℕ → List Place
places_between buffer_of place id first zero = []
places_between buffer_of place id first (suc count) =
    place_if (buffer_of first) id (place first) ++ places_between buffer_of place id (first + 1) count

-- the hands that have the buffer
abbrev pub places_in_hands : List Hand → ℕ → List Place
places_in_hands [] id = []
places_in_hands (hand ∷ hands) id = place_if hand.buffer id (InHands hand.number) ++ places_in_hands hands id

-- the buffer put aside
abbrev pub places_aside : List ℕ → ℕ → List Place
places_aside [] id = []
places_aside (buffer ∷ buffers) id = place_if buffer id PutAside ++ places_aside buffers id

-- a send has its buffer out from its step 4 to its step 6
abbrev pub send_is_out : SendStage → Bool
send_is_out stage.Turn = false
send_is_out stage.Era = false
send_is_out stage.Look = false
send_is_out stage.Buffer = true
send_is_out stage.Entry = true

-- some send has its buffer out
abbrev pub sender_is_out : Turn Sending → Bool
sender_is_out turn.Free = false
sender_is_out (turn.Taken caller s) = send_is_out s.stage
sender_is_out (turn.Leaving caller end) = false
sender_is_out turn.Manager = false

-- a take has its buffer out from its step 4 to its step 5
abbrev pub take_is_out : TakeStage → Bool
take_is_out take_stage.Turn = false
take_is_out take_stage.Era = false
take_is_out take_stage.Look = false
take_is_out take_stage.Buffer = true

-- this work has a buffer out of the forward ring
abbrev pub work_is_out : Work → Bool
work_is_out (work.Take stage) = take_is_out stage
work_is_out (work.Give number stage) = false
work_is_out (work.Bind address) = false
work_is_out (work.Unbind address) = false

-- some take has its buffer out
abbrev pub receiver_is_out : Turn Receiving → Bool
receiver_is_out turn.Free = false
receiver_is_out (turn.Taken caller r) = work_is_out r.work
receiver_is_out (turn.Leaving caller end) = false
receiver_is_out turn.Manager = false

-- the place of the buffer of a coming send
abbrev pub source_place : ℕ → ℕ → Place
source_place own number = if nat_lt number own then InOwnList number else InReturnRing number

-- the places of a buffer that is at one end of a window: with the call that has the window's first buffer out, or in the window
abbrev pub places_out : Bool → Place → (ℕ → ℕ) → (ℕ → Place) → ℕ → ℕ → ℕ → ℕ → List Place
places_out true out buffer_of place id having first count =
    place_if having id out ++ places_between buffer_of place id (first + 1) (count - 1)
places_out false out buffer_of place id having first count = places_between buffer_of place id first count

-- the places that have a buffer. The coming sends are those from the accepted count on, for which there are buffers; the
-- messages in the forward ring are those that were accepted and not handed over
abbrev pub owner : {D : Type 0} → RingState D → ℕ → List Place
owner s id =
    let lane = s.lane.lane in
    let rings = s.rings in
    let sizes = rings.sizes in
    let accepted = length lane.accepted in
    let handed = length lane.takers in
    places_out (sender_is_out s.lane.sender) WithSend (source_buffer sizes.entries sizes.own rings.returns) (source_place sizes.own) id rings.sending accepted (sizes.capacity + lane.returned - accepted)
    ++ places_out (receiver_is_out s.lane.receiver) WithTake (buffer_at sizes.entries rings.forward) InForwardRing id rings.taking handed (accepted - handed)
    ++ places_in_hands rings.hands id ++ places_aside rings.aside id
