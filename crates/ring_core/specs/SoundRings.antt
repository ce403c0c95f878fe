-- What the rings of a lane keep, whatever steps are taken (own).
use Rattle.std.specs.Prelude.{◌≡◌, ℕ, ◌+◌, ◌-◌, ◌%◌, ◌<◌, ◌≤◌, List, map, length, slice_index_or, []}
use Rattle.rp_base.specs.declared.limits.TheConstants.{BOOK_MOST, CAPACITY_MOST, RING_MOST}
use Rattle.rp_base.specs.Limits.{IsRingSize, ring_capacity}
use Rattle.lane_model.specs.declared.states.BookEntry.{BookEntry}
use Rattle.lane_model.specs.declared.stages.SendStage.{SendStage}
use Rattle.lane_model.specs.declared.stages.SendStage.TheVariants as stage
use Rattle.lane_model.specs.declared.stages.Work.{Work}
use Rattle.lane_model.specs.declared.stages.Work.TheVariants as work
use Rattle.lane_model.specs.declared.stages.TakeStage.{TakeStage}
use Rattle.lane_model.specs.declared.stages.TakeStage.TheVariants as take_stage
use Rattle.lane_model.specs.declared.stages.GiveStage.{GiveStage}
use Rattle.lane_model.specs.declared.stages.GiveStage.TheVariants as give_stage
use Rattle.lane_model.specs.Lanes.{message_at, OfCall}
use Rattle.lane_model.specs.Conditions.{HasRoom, IsFitReceiver}
use Rattle.vring_layout.specs.declared.words.UsedWord.{UsedWord}
use Rattle.ring_core.specs.declared.states.Hand.{Hand}
use Rattle.ring_core.specs.declared.states.RingSizes.{RingSizes}
use Rattle.ring_core.specs.declared.states.RingState.{RingState}
use Rattle.ring_core.specs.Rings.{buffer_at, source_buffer, return_count}
use Rattle.ring_core.specs.RingSteps.{held_buffer, holding_of}
use Rattle.ring_core.specs.Owners.{once_below, times_between, times_in_hands, times_in, times_numbered}

-- the sizes of the rings of a lane: a buffer for each entry, at most 256
pub record IsSized (sizes : RingSizes) (forward returns : List UsedWord) (buffers : List (List ℕ)) (capacity : ℕ) : Type 0 where
  pub size : IsRingSize sizes.entries
  pub count : sizes.capacity ≡ ring_capacity sizes.entries
  pub some : 1 ≤ sizes.capacity
  pub most : sizes.capacity ≤ CAPACITY_MOST
  pub fits : sizes.capacity ≤ sizes.entries
  pub ring : sizes.entries ≤ RING_MOST
  pub own : sizes.own ≤ sizes.capacity
  pub forward_long : length forward ≡ sizes.entries
  pub returns_long : length returns ≡ sizes.entries
  pub buffers_long : length buffers ≡ sizes.capacity
  pub lane : capacity ≡ sizes.capacity

-- each buffer is back, in hand or aside once it was handed over, and what is published and not back are buffers of the lane
pub record IsCounted (accepted handed returned hands aside capacity book : ℕ) : Type 0 where
  pub back : returned + hands + aside ≡ handed
  pub behind : handed ≤ accepted
  pub out : accepted ≤ returned + capacity
  pub within : accepted ≤ book
  pub most : book ≤ BOOK_MOST

-- a buffer of the lane is in one place, and no other number is anywhere. A buffer that a call has out counts in the
-- window that it came from, whose first it is
pub record HasOneOwner (sizes : RingSizes) (accepted handed returned : ℕ) (forward returns : List UsedWord) (hands : List Hand) (aside : List ℕ) : Type 0 where
  pub times : (id : ℕ) → times_between (source_buffer sizes.entries sizes.own returns) id accepted (sizes.capacity + returned - accepted)
      + times_between (buffer_at sizes.entries forward) id handed (accepted - handed)
      + times_in_hands hands id + times_in aside id
      ≡ once_below id sizes.capacity

-- each number in hand was handed over, and is in hand once
pub record AreApart (handed : ℕ) (hands : List Hand) : Type 0 where
  pub times : (number : ℕ) → times_numbered hands number ≤ once_below number handed

-- each message that was accepted and not handed over is in the buffer that its entry names
pub record AreFilled (entries : ℕ) (forward : List UsedWord) (buffers : List (List ℕ)) (book : List BookEntry) (handed : ℕ) : Type 0 where
  pub message : (number : ℕ) → handed ≤ number → number < length book
      → slice_index_or buffers (buffer_at entries forward number) [] ≡ message_at book number

-- what a send has read and stored still holds: the buffer that it has out, the forward entry, the message in the buffer
abbrev pub HasSource : RingSizes → List UsedWord → List UsedWord → List (List ℕ) → ℕ → ℕ → List ℕ → SendStage → Type 0
HasSource sizes forward returns buffers sending accepted message stage.Turn = Unit {0}
HasSource sizes forward returns buffers sending accepted message stage.Era = Unit {0}
HasSource sizes forward returns buffers sending accepted message stage.Look = Unit {0}
HasSource sizes forward returns buffers sending accepted message stage.Buffer = sending ≡ source_buffer sizes.entries sizes.own returns accepted
HasSource sizes forward returns buffers sending accepted message stage.Entry =
    (sending ≡ source_buffer sizes.entries sizes.own returns accepted)
    × (buffer_at sizes.entries forward accepted ≡ sending) × (slice_index_or buffers sending [] ≡ message)

-- the buffer that a take has out is that of the next message
abbrev pub HasTaken : ℕ → List UsedWord → ℕ → ℕ → TakeStage → Type 0
HasTaken entries forward taking handed take_stage.Turn = Unit {0}
HasTaken entries forward taking handed take_stage.Era = Unit {0}
HasTaken entries forward taking handed take_stage.Look = Unit {0}
HasTaken entries forward taking handed take_stage.Buffer = taking ≡ buffer_at entries forward handed

-- the return entry of a give names the buffer in hand
abbrev pub HasGiven : RingSizes → List UsedWord → List Hand → ℕ → ℕ → GiveStage → Type 0
HasGiven sizes returns hands returned number give_stage.Turn = Unit {0}
HasGiven sizes returns hands returned number give_stage.Entry =
    buffer_at sizes.entries returns (return_count sizes returned) ≡ held_buffer hands number

-- what a call that has the receiver's turn has read or stored still holds
abbrev pub HasWork : RingSizes → List UsedWord → List UsedWord → List Hand → ℕ → ℕ → ℕ → Work → Type 0
HasWork sizes forward returns hands taking handed returned (work.Take stage) = HasTaken sizes.entries forward taking handed stage
HasWork sizes forward returns hands taking handed returned (work.Give number stage) = HasGiven sizes returns hands returned number stage
HasWork sizes forward returns hands taking handed returned (work.Bind address) = Unit {0}
HasWork sizes forward returns hands taking handed returned (work.Unbind address) = Unit {0}

-- sound rings: their words stand for the counts of the lists, each buffer has one owner, and what each call has found still holds
pub record IsSoundRings {D : Type 0} (s : RingState D) : Type 0 where
  pub sized : IsSized s.rings.sizes s.rings.forward s.rings.returns s.rings.buffers s.lane.lane.capacity
  pub counted : IsCounted (length s.lane.lane.accepted) (length s.lane.lane.takers) s.lane.lane.returned (length s.rings.hands) (length s.rings.aside) s.rings.sizes.capacity s.lane.lane.book
  pub forward_index : s.rings.forward_index ≡ length s.lane.lane.accepted % 65536
  pub return_index : s.rings.return_index ≡ return_count s.rings.sizes s.lane.lane.returned % 65536
  pub owned : HasOneOwner s.rings.sizes (length s.lane.lane.accepted) (length s.lane.lane.takers) s.lane.lane.returned s.rings.forward s.rings.returns s.rings.hands s.rings.aside
  pub apart : AreApart (length s.lane.lane.takers) s.rings.hands
  pub holdings : map holding_of s.rings.hands ≡ s.lane.lane.held
  pub filled : AreFilled s.rings.sizes.entries s.rings.forward s.rings.buffers s.lane.lane.accepted (length s.lane.lane.takers)
  pub room : HasRoom s.lane.sender s.lane.lane
  pub fit : IsFitReceiver s.lane.receiver s.lane.lane
  pub source : OfCall s.lane.sender (λ caller send. HasSource s.rings.sizes s.rings.forward s.rings.returns s.rings.buffers s.rings.sending (length s.lane.lane.accepted) send.message send.stage)
  pub work : OfCall s.lane.receiver (λ caller call. HasWork s.rings.sizes s.rings.forward s.rings.returns s.rings.hands s.rings.taking (length s.lane.lane.takers) s.lane.lane.returned call.work)
