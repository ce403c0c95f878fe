-- The call of a pass: at which stage it is, and what a step makes of it (own).
use Rattle.std.specs.Prelude.{◌≡◌, Bool, true, false, ℕ, zero, suc, if◌then◌else◌, ◌==◌, ◌||◌, List, [], ◌∷◌}
use Rattle.lane_model.specs.declared.TheConstants.{MANAGER}
use Rattle.atomic_table.specs.Table.{Me, rest}
use Rattle.rp_base.specs.declared.kinds.End.{End}
use Rattle.lane_model.specs.declared.calls.CallEnd.{CallEnd}
use Rattle.lane_model.specs.declared.stages.Receiving.{Receiving}
use Rattle.lane_model.specs.declared.stages.Sending.{Sending}
use Rattle.lane_model.specs.declared.stages.SendStage.{SendStage}
use Rattle.lane_model.specs.declared.stages.Turn.{Turn}
use Rattle.lane_model.specs.declared.stages.Turn.TheVariants as turn
use Rattle.lane_model.specs.declared.stages.Work.{Work}
use Rattle.link_words.specs.declared.rule.Slot.{Slot}
use Rattle.link_words.specs.declared.rule.Slot.TheVariants.{Sender, Receiver}
use Rattle.link_words.specs.declared.rule.SenderSide.{SenderSide}
use Rattle.link_words.specs.declared.rule.ReceiverSide.{ReceiverSide}
use Rattle.link_words.specs.declared.rule.Call.{Call}
use Rattle.link_words.specs.declared.rule.Call.TheVariants.{Idle, Sends, Rests, Reclaims, EndsHeld, Receives, EndsReceive, EndsSend, EndsBoth, Reopens, Gathers}
use Rattle.link_words.specs.declared.rule.Pass.{Pass}
use Rattle.link_words.specs.declared.rule.Made.{Made}
use Rattle.link_words.specs.declared.rule.Event.{Event}
use Rattle.link_words.specs.declared.rule.Event.TheVariants.{Step}
use Rattle.link_words.specs.declared.rule.View.{View}
use Rattle.link_words.specs.Passes.{Mover, with_call, place_of_number}
use Rattle.link_words.specs.Words.{other, sender_slot, receiver_slot}
use Rattle.link_words.specs.Sides.{has_slot}

-- what a seat knows and which slots are out with it, each with its value, the last one first
abbrev pub SeatState : Type 0
SeatState = Me Slot View

-- of a send, by its lane, its turn, its side state and the buffer that is out; else something else
abbrev pub send_or : {A : Type 0} → A → (End → Turn Sending → SenderSide → ℕ → A) → Call → A
send_or otherwise f Idle = otherwise
send_or otherwise f (Rests e) = otherwise
send_or otherwise f (Sends e t x b) = f e t x b
send_or otherwise f (EndsSend e t x b) = otherwise
send_or otherwise f (EndsBoth e t x b y) = otherwise
send_or otherwise f (Receives e t x b message) = otherwise
send_or otherwise f (EndsReceive e t x b message) = otherwise
send_or otherwise f (Reclaims e x) = otherwise
send_or otherwise f (EndsHeld e x) = otherwise
send_or otherwise f (Reopens p inc a b) = otherwise
send_or otherwise f (Gathers a b) = otherwise

-- of a call with the receiver's turn, by the same and the message of the buffer that is out; else something else
abbrev pub receive_or : {A : Type 0} → A → (End → Turn Receiving → ReceiverSide → ℕ → List ℕ → A) → Call → A
receive_or otherwise f Idle = otherwise
receive_or otherwise f (Rests e) = otherwise
receive_or otherwise f (Sends e t x b) = otherwise
receive_or otherwise f (EndsSend e t x b) = otherwise
receive_or otherwise f (EndsBoth e t x b y) = otherwise
receive_or otherwise f (Receives e t x b message) = f e t x b message
receive_or otherwise f (EndsReceive e t x b message) = otherwise
receive_or otherwise f (Reclaims e x) = otherwise
receive_or otherwise f (EndsHeld e x) = otherwise
receive_or otherwise f (Reopens p inc a b) = otherwise
receive_or otherwise f (Gathers a b) = otherwise

-- of a turn with a call under way; else something else
abbrev pub under_way_or : {A C : Type 0} → A → (ℕ → C → A) → Turn C → A
under_way_or otherwise f turn.Free = otherwise
under_way_or otherwise f (turn.Taken caller call) = f caller call
under_way_or otherwise f (turn.Leaving caller end) = otherwise
under_way_or otherwise f turn.Manager = otherwise

-- a pass whose send has another turn, by its side state
abbrev pub with_send : (SenderSide → ℕ → Sending → Turn Sending) → Pass → Pass
with_send next p = with_call p (send_or p.call (λ e t x b. Sends e (under_way_or t (next x) t) x b) p.call)

-- a pass whose call with the receiver's turn has another turn, by its side state
abbrev pub with_receive : (ReceiverSide → ℕ → Receiving → Turn Receiving) → Pass → Pass
with_receive next p = with_call p (receive_or p.call (λ e t x b message. Receives e (under_way_or t (next x) t) x b message) p.call)

-- the slots of the four side states are the first four
abbrev pub is_side : ℕ → Bool
is_side zero = true
is_side (suc zero) = true
is_side (suc (suc zero)) = true
is_side (suc (suc (suc zero))) = true
is_side (suc (suc (suc (suc n)))) = false

-- the first side state that is out with a seat, or 4
abbrev pub first_side : List (ℕ × Slot) → ℕ
first_side [] = 4
first_side ((slot, x) ∷ more) = if is_side slot then slot else first_side more

-- the call has this side state out
abbrev pub has_side : ℕ → Call → Bool
has_side slot Idle = false
has_side slot (Rests e) = false
has_side slot (Sends e t x b) = sender_slot e == slot
has_side slot (EndsSend e t x b) = sender_slot e == slot
has_side slot (EndsBoth e t x b y) = (sender_slot e == slot) || (receiver_slot (other e) == slot)
has_side slot (Receives e t x b message) = receiver_slot e == slot
has_side slot (EndsReceive e t x b message) = receiver_slot e == slot
has_side slot (Reclaims e x) = receiver_slot e == slot
has_side slot (EndsHeld e x) = receiver_slot e == slot
has_side slot (Reopens p inc a b) = has_slot slot a b
has_side slot (Gathers a b) = has_slot slot a b

abbrev pub place_with : ℕ → List Pass → ℕ
place_with slot [] = 0
place_with slot (p ∷ ps) = if has_side slot p.call then 0 else suc (place_with slot ps)

-- the pass that a step moves, where its call has a turn: the first whose call has the first side state that is out with the seat
abbrev pub place_of : SeatState → ℕ
place_of me = place_with (first_side me.1) me.0.passes

-- the passes with another at this place
abbrev pub with_pass_at : (Pass → Pass) → ℕ → List Pass → List Pass
with_pass_at f k [] = []
with_pass_at f zero (p ∷ ps) = f p ∷ ps
with_pass_at f (suc k) (p ∷ ps) = p ∷ with_pass_at f k ps

abbrev pub call_at : ℕ → List Pass → Call
call_at k [] = Idle
call_at zero (p ∷ ps) = p.call
call_at (suc k) (p ∷ ps) = call_at k ps

abbrev pub number_at : ℕ → List Pass → ℕ
number_at k [] = MANAGER
number_at zero (p ∷ ps) = p.number
number_at (suc k) (p ∷ ps) = number_at k ps

abbrev pub own_at : ℕ → List Pass → List Event
own_at k [] = []
own_at zero (p ∷ ps) = p.own
own_at (suc k) (p ∷ ps) = own_at k ps

abbrev pub in_hand_at : ℕ → List Pass → List ℕ
in_hand_at k [] = []
in_hand_at zero (p ∷ ps) = p.hands
in_hand_at (suc k) (p ∷ ps) = in_hand_at k ps

-- the pass at this place becomes another, these slots are out with the seat, and of the view nothing else but the copy changes
abbrev pub Becomes : (Pass → Pass) → ℕ → List (ℕ × Slot) → SeatState → SeatState → Type 0
Becomes f k slots me me' = me' ≡ (record me.0 { copy = me'.0.copy; passes = with_pass_at f k me.0.passes }, slots)

-- a step more in the own list of a pass
abbrev pub noted : Made → Pass → Pass
noted made p = record p { own = Step made ∷ p.own }

-- the same, with the step noted in the pass's own list
abbrev pub Notes : Made → (Pass → Pass) → ℕ → List (ℕ × Slot) → SeatState → SeatState → Type 0
Notes made f k slots me me' = Becomes (λ p. noted made (f p)) k slots me me'

-- the pass that steps has a send on the lane to this end, which has done the step of this stage last
pub record SendAt (me : SeatState) (lane : End) (stage : SendStage) : Type 0 where
  pub mover : Mover me.0
  pub here : mover.place ≡ place_of me
  pub caller : ℕ
  pub follows : ℕ
  pub message : List ℕ
  pub side : SenderSide
  pub buffer : ℕ
  pub call : mover.pass.call ≡ Sends lane (turn.Taken caller (record { follows = follows; message = message; stage = stage })) side buffer

-- the pass that steps has the receiver's turn of the lane to this end, for this work with the step that it has done last
pub record WorkAt (me : SeatState) (lane : End) (work : Work) : Type 0 where
  pub mover : Mover me.0
  pub here : mover.place ≡ place_of me
  pub caller : ℕ
  pub follows : ℕ
  pub side : ReceiverSide
  pub buffer : ℕ
  pub message : List ℕ
  pub call : mover.pass.call ≡ Receives lane (turn.Taken caller (record { follows = follows; work = work })) side buffer message

-- the pass that steps has a send whose end is settled, and its side state is the last slot that is out
pub record SendEnds (me : SeatState) (lane : End) : Type 0 where
  pub mover : Mover me.0
  pub here : mover.place ≡ place_of me
  pub caller : ℕ
  pub end : CallEnd
  pub side : SenderSide
  pub buffer : ℕ
  pub call : mover.pass.call ≡ Sends lane (turn.Leaving caller end) side buffer
  pub slots : me.1 ≡ (sender_slot lane, Sender side) ∷ rest me.1

-- the same of a call with the receiver's turn
pub record ReceiveEnds (me : SeatState) (lane : End) : Type 0 where
  pub mover : Mover me.0
  pub here : mover.place ≡ place_of me
  pub caller : ℕ
  pub end : CallEnd
  pub side : ReceiverSide
  pub buffer : ℕ
  pub message : List ℕ
  pub call : mover.pass.call ≡ Receives lane (turn.Leaving caller end) side buffer message
  pub slots : me.1 ≡ (receiver_slot lane, Receiver side) ∷ rest me.1

-- the caller of this number, of this end, is in no call
pub record RestsAt (me : SeatState) (end : End) (caller : ℕ) : Type 0 where
  pub mover : Mover me.0
  pub here : mover.place ≡ place_of_number caller me.0.passes
  pub number : mover.pass.number ≡ caller
  pub call : mover.pass.call ≡ Rests end
