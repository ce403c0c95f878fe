-- The five parts of the rule, each over what it reads of a state of the ring form, of the slots and of the views (own).
use Rattle.std.specs.Prelude.{◌≡◌, ◌≢◌, ◌⊎◌, ℕ, ◌+◌, ◌<◌, ◌≤◌, Bool, true, false, List, [], length, Option, Some, None}
use Rattle.lane_model.specs.declared.TheConstants.{MANAGER}
use Rattle.rp_base.specs.declared.limits.TheConstants.{CALLERS_MOST}
use mathlib.Core.Option.{some}
use mathlib.Core.Option.{Option as Option_of}
use lib.ListN.{get_elem?}
use base.Stored.{Coded}
use Rattle.rp_base.specs.declared.kinds.End.{End}
use Rattle.rp_base.specs.declared.kinds.End.TheVariants as side
use Rattle.lane_model.specs.declared.lane_links.LaneLink.{LaneLink}
use Rattle.lane_model.specs.declared.stages.Turn.{Turn}
use Rattle.lane_model.specs.declared.stages.Turn.TheVariants as turn
use Rattle.lane_model.specs.declared.stages.Sending.{Sending}
use Rattle.lane_model.specs.declared.stages.Receiving.{Receiving}
use Rattle.lane_model.specs.Lanes.{holder, has_call, message_at}
use Rattle.lane_model.specs.Links.{end_of}
use Rattle.ring_core.specs.declared.states.RingSizes.{RingSizes}
use Rattle.ring_core.specs.declared.states.RingState.{RingState}
use Rattle.ring_core.specs.Rings.{buffer_at}
use Rattle.ring_core.specs.Owners.{sender_is_out, receiver_is_out}
use Rattle.ring_core.specs.SoundRings.{IsSoundRings}
use Rattle.link_words.specs.declared.copies.LinkCopy.{LinkCopy}
use Rattle.link_words.specs.declared.rule.Slot.{Slot}
use Rattle.link_words.specs.declared.rule.Slot.TheVariants.{Buffer}
use Rattle.link_words.specs.declared.rule.SenderSide.{SenderSide}
use Rattle.link_words.specs.declared.rule.ReceiverSide.{ReceiverSide}
use Rattle.link_words.specs.declared.rule.Call.{Call}
use Rattle.link_words.specs.declared.rule.Call.TheVariants.{Idle, Sends, Rests, Reclaims, EndsHeld, Receives, EndsReceive, EndsSend, EndsBoth, Reopens, Gathers}
use Rattle.link_words.specs.declared.rule.LaneSides.{LaneSides}
use Rattle.link_words.specs.declared.rule.View.{View}
use Rattle.link_words.specs.declared.rule.Pass.{Pass}
use Rattle.link_words.specs.Codes.{copied}
use Rattle.link_words.specs.Passes.{PassAt, EachPass, HasNumber, Manages}
use Rattle.link_words.specs.Sides.{is_there, sides_at}
use Rattle.link_words.specs.Words.{other}
use Rattle.link_words.specs.Turns.{is_manager, LaneTurns, LinkTurns, HasFourTurns}
use Rattle.link_words.specs.Histories.{NoneOf, HasEnded, same_end, LaneBooks, HasHistory, HasHands, IsOfNow, IsCurrent, IsCurrentTake}

-- a send's turn is its lane's, with the side state and the buffer that are out with it
abbrev pub SendsAt : LaneTurns → ℕ → Turn Sending → SenderSide → ℕ → Type 0
SendsAt lane number t x buffer = (lane.sender ≡ t) × (holder t ≡ Some number) × (x ≡ lane.sender_side) × (sender_is_out t ≡ true → lane.sending ≡ buffer)

-- the same of a call with the receiver's turn, with the message of the buffer that is out
abbrev pub ReceivesAt : LaneTurns → ℕ → Turn Receiving → ReceiverSide → ℕ → List ℕ → Type 0
ReceivesAt lane number t x buffer message = (lane.receiver ≡ t) × (holder t ≡ Some number) × (x ≡ lane.receiver_side)
    × (receiver_is_out t ≡ true → (lane.taking ≡ buffer) × (message ≡ lane.next))
    × (is_manager t ≡ false)

-- the manager has these side states of a lane, and the turns that they go with
pub record HasGathered (lane : LaneTurns) (sides : LaneSides) : Type 0 where
  pub sender : (x : SenderSide) → sides.sender ≡ Some x → (lane.sender ≡ turn.Manager) × (x ≡ lane.sender_side)
  pub receiver : (x : ReceiverSide) → sides.receiver ≡ Some x → (lane.receiver ≡ turn.Manager) × (x ≡ lane.receiver_side)

-- a pass of this number is in this call, where a reopening has reset so many words. A call with a turn is the one that the turn names,
-- a caller at rest has no turn, and a manager that reopens has the four turns in a closed era in which nothing is held
abbrev pub IsCallAt : LinkTurns → ℕ → ℕ → Call → Type 0
IsCallAt t p number Idle = number ≡ MANAGER
IsCallAt t p number (Sends e u x buffer) = (end_of t.callers number ≡ Some (other e)) × SendsAt (t.lanes e) number u x buffer × IsCurrent u t.era.inc
IsCallAt t p number (Receives e u x buffer message) = (end_of t.callers number ≡ Some e) × ReceivesAt (t.lanes e) number u x buffer message × IsCurrentTake u t.era.inc
IsCallAt t p number (EndsReceive e u x buffer message) = (end_of t.callers number ≡ Some e) × ReceivesAt (t.lanes e) number u x buffer message × (t.era.is_live ≡ false)
IsCallAt t p number (EndsSend e u x buffer) = (end_of t.callers number ≡ Some (other e)) × SendsAt (t.lanes e) number u x buffer × (t.era.is_live ≡ false) × IsCurrent u t.era.inc
IsCallAt t p number (EndsBoth e u x buffer y) = (end_of t.callers number ≡ Some (other e)) × SendsAt (t.lanes e) number u x buffer × (t.era.is_live ≡ false) × ((t.lanes (other e)).receiver ≡ turn.Manager) × (y ≡ (t.lanes (other e)).receiver_side) × (p ≡ 0)
IsCallAt t p number (Rests e) = (end_of t.callers number ≡ Some e) × (has_call (t.lanes (other e)).sender number ≡ false) × (has_call (t.lanes e).receiver number ≡ false)
IsCallAt t p number (Reclaims e x) = (end_of t.callers number ≡ Some e) × ((t.lanes e).receiver ≡ turn.Manager) × (x ≡ (t.lanes e).receiver_side) × (p ≡ 0) × (has_call (t.lanes (other e)).sender number ≡ false)
IsCallAt t p number (EndsHeld e x) = (end_of t.callers number ≡ Some e) × ((t.lanes e).receiver ≡ turn.Manager) × (x ≡ (t.lanes e).receiver_side) × (p ≡ 0) × (t.era.is_live ≡ false) × (has_call (t.lanes (other e)).sender number ≡ false)
IsCallAt t p number (Reopens q inc a b) = (number ≡ MANAGER) × (q ≡ p) × ((t.era.is_live ≡ false) × HasFourTurns (λ e. (t.lanes e).sender) (λ e. (t.lanes e).receiver)) × (t.era.inc ≡ inc)
    × (((t.lanes side.Host).held ≡ []) × ((t.lanes side.Remote).held ≡ [])) × HasGathered (t.lanes side.Host) a × HasGathered (t.lanes side.Remote) b
IsCallAt t p number (Gathers a b) = (number ≡ MANAGER) × (p ≡ 0) × HasGathered (t.lanes side.Host) a × HasGathered (t.lanes side.Remote) b

-- a call that has the receiver's turn of the lane to this end for the manager
abbrev pub has_for_manager : End → Call → Bool
has_for_manager e Idle = false
has_for_manager e (Rests i) = false
has_for_manager e (Sends i u x buffer) = false
has_for_manager e (Receives i u x buffer message) = false
has_for_manager e (EndsSend i u x buffer) = false
has_for_manager e (EndsBoth i u x buffer y) = same_end e (other i)
has_for_manager e (EndsReceive i u x buffer message) = false
has_for_manager e (Reclaims i x) = same_end e i
has_for_manager e (EndsHeld i x) = same_end e i
has_for_manager e (Reopens q inc a b) = true
has_for_manager e (Gathers a b) = is_there (sides_at e a b).receiver

-- a call that has the sender's turn of the lane to this end for the manager: the manager's own alone
abbrev pub has_sender_for_manager : End → Call → Bool
has_sender_for_manager e Idle = false
has_sender_for_manager e (Rests i) = false
has_sender_for_manager e (Sends i u x buffer) = false
has_sender_for_manager e (Receives i u x buffer message) = false
has_sender_for_manager e (EndsSend i u x buffer) = false
has_sender_for_manager e (EndsBoth i u x buffer y) = false
has_sender_for_manager e (EndsReceive i u x buffer message) = false
has_sender_for_manager e (Reclaims i x) = false
has_sender_for_manager e (EndsHeld i x) = false
has_sender_for_manager e (Reopens q inc a b) = true
has_sender_for_manager e (Gathers a b) = is_there (sides_at e a b).sender

-- some pass is in such a call
abbrev pub IsKept : (Call → Bool) → List View → Type 0
IsKept F views = (j : ℕ) × (l : ℕ) × (q : Pass) × PassAt views j l q × (F q.call ≡ true)

-- some pass has each turn that is the manager's
pub record HasKeepers (t : LinkTurns) (views : List View) : Type 0 where
  pub senders : (e : End) → (t.lanes e).sender ≡ turn.Manager → IsKept (has_sender_for_manager e) views
  pub receivers : (e : End) → (t.lanes e).receiver ≡ turn.Manager → IsKept (has_for_manager e) views

-- no two passes have one turn for the manager
abbrev pub AreKeepersApart : List View → Type 0
AreKeepersApart views = (e : End) (i k j l : ℕ) (p q : Pass) → PassAt views i k p → PassAt views j l q → has_for_manager e p.call ≡ true → has_for_manager e q.call ≡ true → p.number ≡ q.number

-- the part on turns: each turn is that of the call of its holder's view, with its side state, and some pass has each that is the manager's; while a reopening
-- resets words nobody else has a turn
pub record TurnsPart (t : LinkTurns) (p : ℕ) (views : List View) : Type 0 where
  pub calls : EachPass (λ q. IsCallAt t p q.number q.call) views
  pub keepers : AreKeepersApart views
  pub some_keeper : HasKeepers t views
  pub still : (p ≡ 0) ⊎ ((t.era.is_live ≡ false) × HasFourTurns (λ e. (t.lanes e).sender) (λ e. (t.lanes e).receiver))

-- two counts of a lane are at most its capacity apart: a buffer is given back after it was accepted, and no more are out than there are.
-- So an index, which is a count modulo 65,536, gives the count
abbrev pub AreNear : ℕ → ℕ → ℕ → Type 0
AreNear capacity accepted returned = (returned ≤ accepted) × (accepted ≤ returned + capacity)

-- the slots of the buffers of a lane: one that no call has out is at home, and one of a message that was accepted and not handed over has
-- that message in it
pub record HoldsBuffers {D : Type 0} (s : RingState D) (shelf : List (Option_of Slot)) : Type 0 where
  pub long : length shelf ≡ s.rings.sizes.capacity
  pub full : (k : ℕ) → length s.lane.lane.takers ≤ k → k < length s.lane.lane.accepted → (receiver_is_out s.lane.receiver ≡ true → k ≢ length s.lane.lane.takers)
      → get_elem? shelf (buffer_at s.rings.sizes.entries s.rings.forward k) ≡ some (some (Buffer (message_at s.lane.lane.accepted k)))
  pub home : (id : ℕ) → id < s.rings.sizes.capacity → (sender_is_out s.lane.sender ≡ true → id ≢ s.rings.sending) → (receiver_is_out s.lane.receiver ≡ true → id ≢ s.rings.taking)
      → (y : Slot) × (get_elem? shelf id ≡ some (some y))

-- the part on a lane: its indexes, its entries and its buffers agree with each other and with the calls of its two holders
pub record LanePart {D : Type 0} (s : RingState D) (told : RingSizes) (told_book : ℕ) (shelf : List (Option_of Slot)) : Type 0 where
  pub sizes : s.rings.sizes ≡ told
  pub book : s.lane.lane.book ≡ told_book
  pub rings : IsSoundRings s
  pub near : AreNear told.capacity (length s.lane.lane.accepted) s.lane.lane.returned
  pub buffers : HoldsBuffers s shelf

-- the part on histories: what the books of this incarnation say of a pass is what the pass did, and who holds something did so in it
pub record HistoriesPart (inc : ℕ) (callers : List (Option End)) (books : End → LaneBooks) (views : List View) : Type 0 where
  pub own : EachPass (λ q. HasHistory inc books q.number q.first q.own) views
  pub hands : EachPass (λ q. HasHands callers books q.number q.hands) views
  pub latest : EachPass (λ q. IsOfNow inc q.number q.hands q.own) views

-- a number gives the one place of its pass
abbrev pub AreNumbersApart : List View → Type 0
AreNumbersApart views = (i k j l : ℕ) (p q : Pass) → PassAt views i k p → PassAt views j l q → p.number ≡ q.number → (i ≡ j) × (k ≡ l)

-- what the manager's view, the i-th, knows: who is in use, the incarnation, of which numbers the books say nothing, what they say of the passes
-- that were reclaimed in it, that the era is closed, where it has found it so, which passes are out, and the state itself, where none is
pub record Knows {D : Type 0} (coded : Coded D) (m : LaneLink (RingState D)) (views : List View) (i : ℕ) (v : View) : Type 0 where
  pub users : v.users ≡ m.callers
  pub inc : v.inc ≡ m.era.inc
  pub unused : (n : ℕ) → end_of m.callers n ≡ None → (HasNumber v.reclaims n → ⊥) → NoneOf m n
  pub ended : (k : ℕ) (p : Pass) → get_elem? v.ended_passes k ≡ some p → HasEnded m p
  pub closed : v.is_closed ≡ true → m.era.is_live ≡ false
  pub out : (j l : ℕ) (p : Pass) → PassAt views j l p → j ≢ i → HasNumber v.out p.number
  pub copy : (k : LinkCopy) → v.copy ≡ Some k → v.out ≡ [] → k ≡ copied coded m

abbrev pub ManagerKnows : {D : Type 0} → Coded D → LaneLink (RingState D) → List View → Type 0
ManagerKnows coded m views = (i : ℕ) (v : View) → get_elem? views i ≡ some v → Manages v → Knows coded m views i v

-- the part on numbers: which callers are in use, which passes are out, and who carries the others; an incarnation has 32 bits
pub record NumbersPart {D : Type 0} (coded : Coded D) (m : LaneLink (RingState D)) (views : List View) : Type 0 where
  pub places : AreNumbersApart views
  pub manager : ManagerKnows coded m views
  pub many : length m.callers ≡ CALLERS_MOST
  pub short : m.era.inc < 4294967296
