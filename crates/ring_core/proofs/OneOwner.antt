-- The places that have a buffer are as many as it is counted.
use Rattle.std.proofs.Common.{◌≡◌, ℕ, zero, suc, ◌+◌, ◌-◌, ◌<◌, ◌≤◌, Bool, true, false, cond, eqb, List, [], ◌∷◌, ◌++◌, length, refl, ap, ◌∙◌, arith, length-append}
use Rattle.lane_model.specs.declared.states.Lane.{Lane}
use Rattle.lane_model.specs.declared.stages.Sending.{Sending}
use Rattle.lane_model.specs.declared.stages.SendStage.{SendStage}
use Rattle.lane_model.specs.declared.stages.SendStage.TheVariants as stage
use Rattle.lane_model.specs.declared.stages.Receiving.{Receiving}
use Rattle.lane_model.specs.declared.stages.Work.{Work}
use Rattle.lane_model.specs.declared.stages.Work.TheVariants as work
use Rattle.lane_model.specs.declared.stages.TakeStage.{TakeStage}
use Rattle.lane_model.specs.declared.stages.TakeStage.TheVariants as take_stage
use Rattle.lane_model.specs.declared.stages.Turn.{Turn}
use Rattle.lane_model.specs.declared.stages.Turn.TheVariants as turn
use Rattle.lane_model.specs.Lanes.{OfCall}
use Rattle.lane_model.specs.Conditions.{HasRoomAt, HasRoom, HasMessageAt, IsFitWork, IsFitReceiver}
use Rattle.vring_layout.specs.declared.words.UsedWord.{UsedWord}
use Rattle.ring_core.specs.declared.states.Hand.{Hand}
use Rattle.ring_core.specs.declared.states.RingSizes.{RingSizes}
use Rattle.ring_core.specs.declared.states.RingState.{RingState}
use Rattle.ring_core.specs.Rings.{buffer_at, source_buffer}
use Rattle.ring_core.specs.Owners.{Place, InHands, PutAside, WithSend, WithTake, InForwardRing, once, once_below, times_between, times_in_hands, times_in, place_if, places_between, places_in_hands, places_aside, places_out, source_place, sender_is_out, send_is_out, receiver_is_out, work_is_out, take_is_out, owner}
use Rattle.ring_core.specs.SoundRings.{HasSource, HasTaken, HasWork, IsSoundRings}
use Rattle.ring_core.proofs.Windows.{times_first}

length-chosen : (v : Bool) (place : Place) → length (cond v (place ∷ []) []) ≡ cond v 1 0
length-chosen true place = refl
length-chosen false place = refl

length-place : (buffer id : ℕ) (place : Place) → length (place_if buffer id place) ≡ once buffer id
length-place buffer id place = length-chosen (eqb buffer id) place

length-between : (buffer_of : ℕ → ℕ) (place : ℕ → Place) (id first n : ℕ) → length (places_between buffer_of place id first n) ≡ times_between buffer_of id first n
length-between buffer_of place id first zero = refl
length-between buffer_of place id first (suc n) =
    let here = length-place (buffer_of first) id (place first) in
    let rest = length-between buffer_of place id (first + 1) n in
    let both = length-append (place_if (buffer_of first) id (place first)) (places_between buffer_of place id (first + 1) n) in
    omega arith

length-in_hands : (hands : List Hand) (id : ℕ) → length (places_in_hands hands id) ≡ times_in_hands hands id
length-in_hands [] id = refl
length-in_hands (h ∷ hs) id =
    let here = length-place h.buffer id (InHands h.number) in
    let rest = length-in_hands hs id in
    let both = length-append (place_if h.buffer id (InHands h.number)) (places_in_hands hs id) in
    omega arith

length-aside : (aside : List ℕ) (id : ℕ) → length (places_aside aside id) ≡ times_in aside id
length-aside [] id = refl
length-aside (x ∷ xs) id =
    let here = length-place x id PutAside in
    let rest = length-aside xs id in
    let both = length-append (place_if x id PutAside) (places_aside xs id) in
    omega arith

-- a window whose first buffer a call may have out
length-out : (is_out : Bool) (out : Place) (buffer_of : ℕ → ℕ) (place : ℕ → Place) (id having first n : ℕ)
    → (is_out ≡ true → (having ≡ buffer_of first) × (1 ≤ n)) → length (places_out is_out out buffer_of place id having first n) ≡ times_between buffer_of id first n
length-out true out buffer_of place id having first n has =
    let here = length-place having id out in
    let rest = length-between buffer_of place id (first + 1) (n - 1) in
    let both = length-append (place_if having id out) (places_between buffer_of place id (first + 1) (n - 1)) in
    let some = has refl in
    let all = times_first buffer_of id first n (n - 1) (omega (arith, some.1)) in
    let same : once having id ≡ once (buffer_of first) id = ap (λ b. once b id) some.0 in
    omega arith
length-out false out buffer_of place id having first n has = length-between buffer_of place id first n

module _ (sizes : RingSizes) (forward returns : List UsedWord) (buffers : List (List ℕ)) (hands : List Hand) (having : ℕ) (lane : Lane) where
  -- a send that has its buffer out has the first of the coming sends
  send_out : (message : List ℕ) (last : SendStage) → HasRoomAt last lane → HasSource sizes forward returns buffers having (length lane.accepted) message last → send_is_out last ≡ true
      → (having ≡ source_buffer sizes.entries sizes.own returns (length lane.accepted)) × (length lane.accepted < lane.returned + lane.capacity)
  send_out message stage.Turn room has out = absurd (cc)
  send_out message stage.Era room has out = absurd (cc)
  send_out message stage.Look room has out = absurd (cc)
  send_out message stage.Buffer room has out = (has, (room refl).0)
  send_out message stage.Entry room has out = (has.0, (room refl).0)

  sender_out : (t : Turn Sending) → HasRoom t lane → OfCall t (λ caller send. HasSource sizes forward returns buffers having (length lane.accepted) send.message send.stage) → sender_is_out t ≡ true
      → (having ≡ source_buffer sizes.entries sizes.own returns (length lane.accepted)) × (length lane.accepted < lane.returned + lane.capacity)
  sender_out turn.Free room has out = absurd (cc)
  sender_out (turn.Taken caller send) room has out = send_out send.message send.stage room has out
  sender_out (turn.Leaving caller end) room has out = absurd (cc)
  sender_out turn.Manager room has out = absurd (cc)

  -- a take that has its buffer out has that of the next message
  take_out : (last : TakeStage) → HasMessageAt last lane → HasTaken sizes.entries forward having (length lane.takers) last → take_is_out last ≡ true
      → (having ≡ buffer_at sizes.entries forward (length lane.takers)) × (length lane.takers < length lane.accepted)
  take_out take_stage.Turn fit has out = absurd (cc)
  take_out take_stage.Era fit has out = absurd (cc)
  take_out take_stage.Look fit has out = absurd (cc)
  take_out take_stage.Buffer fit has out = (has, fit refl)

  work_out : (caller : ℕ) (w : Work) → IsFitWork w lane caller → HasWork sizes forward returns hands having (length lane.takers) lane.returned w → work_is_out w ≡ true
      → (having ≡ buffer_at sizes.entries forward (length lane.takers)) × (length lane.takers < length lane.accepted)
  work_out caller (work.Take last) fit has out = take_out last fit has out
  work_out caller (work.Give number last) fit has out = absurd (cc)
  work_out caller (work.Bind address) fit has out = absurd (cc)
  work_out caller (work.Unbind address) fit has out = absurd (cc)

  receiver_out : (t : Turn Receiving) → IsFitReceiver t lane → OfCall t (λ caller call. HasWork sizes forward returns hands having (length lane.takers) lane.returned call.work) → receiver_is_out t ≡ true
      → (having ≡ buffer_at sizes.entries forward (length lane.takers)) × (length lane.takers < length lane.accepted)
  receiver_out turn.Free fit has out = absurd (cc)
  receiver_out (turn.Taken caller call) fit has out = work_out caller call.work fit has out
  receiver_out (turn.Leaving caller end) fit has out = absurd (cc)
  receiver_out turn.Manager fit has out = absurd (cc)

-- what a call has out is the first of its window
pub sending_is : {D : Type 0} (s : RingState D) → IsSoundRings s → sender_is_out s.lane.sender ≡ true
    → (s.rings.sending ≡ source_buffer s.rings.sizes.entries s.rings.sizes.own s.rings.returns (length s.lane.lane.accepted)) × (length s.lane.lane.accepted < s.lane.lane.returned + s.lane.lane.capacity)
sending_is s sound out =
    let rings = s.rings in
    sender_out rings.sizes rings.forward rings.returns rings.buffers rings.hands rings.sending s.lane.lane s.lane.sender sound.room sound.source out

pub taking_is : {D : Type 0} (s : RingState D) → IsSoundRings s → receiver_is_out s.lane.receiver ≡ true
    → (s.rings.taking ≡ buffer_at s.rings.sizes.entries s.rings.forward (length s.lane.lane.takers)) × (length s.lane.lane.takers < length s.lane.lane.accepted)
taking_is s sound out =
    let rings = s.rings in
    receiver_out rings.sizes rings.forward rings.returns rings.buffers rings.hands rings.taking s.lane.lane s.lane.receiver sound.fit sound.work out

-- one place for each buffer of the lane
pub owner_once : {D : Type 0} (s : RingState D) (id : ℕ) → IsSoundRings s → length (owner s id) ≡ once_below id s.rings.sizes.capacity
owner_once s id sound =
    let lane = s.lane.lane in
    let rings = s.rings in
    let sizes = rings.sizes in
    let counted = sound.counted in
    let sized = sound.sized in
    let sources = places_out (sender_is_out s.lane.sender) WithSend (source_buffer sizes.entries sizes.own rings.returns) (source_place sizes.own) id rings.sending (length lane.accepted) (sizes.capacity + lane.returned - length lane.accepted) in
    let messages = places_out (receiver_is_out s.lane.receiver) WithTake (buffer_at sizes.entries rings.forward) InForwardRing id rings.taking (length lane.takers) (length lane.accepted - length lane.takers) in
    let held = places_in_hands rings.hands id in
    let aside = places_aside rings.aside id in
    let a = length-out (sender_is_out s.lane.sender) WithSend (source_buffer sizes.entries sizes.own rings.returns) (source_place sizes.own) id rings.sending (length lane.accepted) (sizes.capacity + lane.returned - length lane.accepted)
    (λ out. let has = sending_is s sound out in (has.0, omega (arith, has.1))) in
    let b = length-out (receiver_is_out s.lane.receiver) WithTake (buffer_at sizes.entries rings.forward) InForwardRing id rings.taking (length lane.takers) (length lane.accepted - length lane.takers)
    (λ out. let has = taking_is s sound out in (has.0, omega (arith, has.1))) in
    let c = length-in_hands rings.hands id in
    let d = length-aside rings.aside id in
    let joined : length (sources ++ messages ++ held ++ aside) ≡ length sources + length messages + length held + length aside =
    length-append (sources ++ messages ++ held) aside ∙ ap (λ n. n + length aside) (length-append (sources ++ messages) held ∙ ap (λ n. n + length held) (length-append sources messages)) in
    let all = sound.owned.times id in
    omega arith
