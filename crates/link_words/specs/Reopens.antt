-- What the steps say by which the manager takes the turns of a link, leaves them, and opens the next incarnation (own).
use Rattle.std.specs.Option.{option_map_or}
use Rattle.std.specs.Prelude.{Bool, nat_lt, fold, if◌then◌else◌, ◌≡◌, ◌≢◌, ◌⊎◌, ◌<◌, ◌≤◌, ◌+◌, ◌-◌, ℕ, suc, true, false, List, [], ◌∷◌, length, map, Option, Some, None}
use Rattle.lane_model.specs.declared.TheConstants.{MANAGER}
use mathlib.Core.Option.{some}
use lib.ListN.{get_elem?}
use base.Stored.{Coded}
use Rattle.atomic_table.specs.Table.{rest}
use Rattle.rp_base.specs.declared.kinds.End.{End}
use Rattle.rp_base.specs.declared.kinds.End.TheVariants as side
use Rattle.rp_base.specs.declared.kinds.Era.{Era}
use Rattle.lane_model.specs.declared.lane_links.LaneLink.{LaneLink}
use Rattle.lane_model.specs.declared.recoveries.LaneTurn.{LaneTurn}
use Rattle.lane_model.specs.declared.recoveries.LaneTurn.TheVariants as lane_turn
use Rattle.lane_model.specs.declared.states.BookEntry.{BookEntry}
use Rattle.lane_model.specs.Desks.{DeskMeaning}
use Rattle.lane_model.specs.Links.{end_of}
use Rattle.ring_core.specs.declared.states.Hand.{Hand}
use Rattle.ring_core.specs.declared.states.RingState.{RingState}
use Rattle.ring_core.specs.RingSteps.{holding_of}
use Rattle.link_words.specs.declared.codes.DeskRight.{DeskRight}
use Rattle.link_words.specs.declared.codes.DeskTables.{DeskTables}
use Rattle.link_words.specs.declared.rule.Call.{Call}
use Rattle.link_words.specs.declared.rule.Call.TheVariants.{Idle, Sends, Rests, Reclaims, EndsHeld, Receives, EndsReceive, EndsSend, EndsBoth, Reopens, Gathers}
use Rattle.link_words.specs.declared.rule.LaneSides.{LaneSides}
use Rattle.link_words.specs.declared.rule.Pass.{Pass}
use Rattle.link_words.specs.declared.rule.ReceiverSide.{ReceiverSide}
use Rattle.link_words.specs.declared.rule.SenderSide.{SenderSide}
use Rattle.link_words.specs.declared.rule.Slot.TheVariants.{Receiver, Sender}
use Rattle.link_words.specs.declared.rule.View.{View}
use Rattle.link_words.specs.PlacedDesks.{PlacedDesk, placed_coded, placed_meaning, no_right, IsRightTo}
use Rattle.link_words.specs.Words.{other, era_word, sender_slot, receiver_slot}
use Rattle.link_words.specs.Sides.{no_sides, sides_at}
use Rattle.link_words.specs.Parts.{has_for_manager, has_sender_for_manager}
use Rattle.link_words.specs.Passes.{Mover, HasNumber, with_call, place_of_number}
use Rattle.link_words.specs.Histories.{LaneBooks, HasHistory, entries_by, takes_by}
use Rattle.link_words.specs.declared.copies.LinkCopy.{LinkCopy}
use Rattle.link_words.specs.Codes.{copied}
use Rattle.link_words.specs.Deeds.{Deed, Opens, after_deed, MayDo, IsSoundState}
use Rattle.link_words.specs.Fresh.{opened_sender, opened_receiver, fresh_of}
use Rattle.link_words.specs.Calls.{SeatState, Becomes, call_at, number_at, with_pass_at}
use Rattle.link_words.specs.Steps.{IsStepOf}

-- of a manager's call outside a reopening, by its side states; else something else
abbrev pub gathers_or : {A : Type 0} → A → (LaneSides → LaneSides → A) → Call → A
gathers_or otherwise f Idle = otherwise
gathers_or otherwise f (Rests e) = otherwise
gathers_or otherwise f (Sends e t x b) = otherwise
gathers_or otherwise f (EndsSend e t x b) = otherwise
gathers_or otherwise f (EndsBoth e t x b y) = otherwise
gathers_or otherwise f (Receives e t x b message) = otherwise
gathers_or otherwise f (EndsReceive e t x b message) = otherwise
gathers_or otherwise f (Reclaims e x) = otherwise
gathers_or otherwise f (EndsHeld e x) = otherwise
gathers_or otherwise f (Reopens p inc a b) = otherwise
gathers_or otherwise f (Gathers a b) = f a b

-- of a manager's call in a reopening, by how many words are reset, the incarnation and its side states
abbrev pub reopens_or : {A : Type 0} → A → (ℕ → ℕ → LaneSides → LaneSides → A) → Call → A
reopens_or otherwise f Idle = otherwise
reopens_or otherwise f (Rests e) = otherwise
reopens_or otherwise f (Sends e t x b) = otherwise
reopens_or otherwise f (EndsSend e t x b) = otherwise
reopens_or otherwise f (EndsBoth e t x b y) = otherwise
reopens_or otherwise f (Receives e t x b message) = otherwise
reopens_or otherwise f (EndsReceive e t x b message) = otherwise
reopens_or otherwise f (Reclaims e x) = otherwise
reopens_or otherwise f (EndsHeld e x) = otherwise
reopens_or otherwise f (Reopens p inc a b) = f p inc a b
reopens_or otherwise f (Gathers a b) = otherwise

-- the side states that the manager has of the lane to an end
abbrev pub sides_of : Call → End → LaneSides
sides_of call e = gathers_or (reopens_or no_sides (λ q inc a b. sides_at e a b) call) (λ a b. sides_at e a b) call

-- where the manager's own pass is, and its call
abbrev pub manager_place : SeatState → ℕ
manager_place me = place_of_number MANAGER me.0.passes

abbrev pub manager_call : SeatState → Call
manager_call me = call_at (manager_place me) me.0.passes

-- the manager's own pass is in this call
pub record ManagerAt (me : SeatState) (call : Call) : Type 0 where
  pub mover : Mover me.0
  pub here : mover.place ≡ manager_place me
  pub number : mover.pass.number ≡ MANAGER
  pub in_call : mover.pass.call ≡ call

-- both side states of a lane
abbrev pub both_sides : SenderSide → ReceiverSide → LaneSides
both_sides x y = record { sender = Some x; receiver = Some y }

-- the manager's call with other side states of the lane to this end
abbrev pub gathered : End → (LaneSides → LaneSides) → LaneSides → LaneSides → Call
gathered side.Host f a b = Gathers (f a) b
gathered side.Remote f a b = Gathers a (f b)

abbrev pub with_gathered : End → (LaneSides → LaneSides) → Pass → Pass
with_gathered e f p = with_call p (gathers_or p.call (gathered e f) p.call)

-- some caller is in use
abbrev pub SomeInUse : View → Type 0
SomeInUse v = (n : ℕ) × (e : End) × (end_of v.users n ≡ Some e)

-- the word of a turn that somebody has: a caller that is in use on this end; or the manager, whose own call has it or which has it by the seat of a caller in use
abbrev pub IsHoldersWord : View → Bool → End → ℕ → Type 0
IsHoldersWord v is_own end n = (end_of v.users (n - 1) ≡ Some end) ⊎ ((n ≡ 65) × ((is_own ≡ true) ⊎ SomeInUse v))

-- who has a buffer in hand is in use on this end
abbrev pub AreInUse : View → End → List Hand → Type 0
AreInUse v end hands = (k : ℕ) (h : Hand) → get_elem? hands k ≡ some h → end_of v.users h.caller ≡ Some end

-- one attempt of the manager at the sender's turn of a lane: where it was free, its side state is out; else it was the one's whose number and 1 is the word
abbrev pub ManagerTakesSender : End → SeatState → ℕ → SeatState → Type 0
ManagerTakesSender e me n me' = (n ≡ 0 → (x : SenderSide) × Becomes (with_gathered e (λ g. record g { sender = Some x })) (manager_place me) ((sender_slot e, Sender x) ∷ me.1) me me') × (n ≢ 0 → me' ≡ me) × (n ≤ 65) × (n ≢ 0 → IsHoldersWord me.0 (has_sender_for_manager e (manager_call me)) (other e) n)

-- the same at the receiver's turn
abbrev pub ManagerTakesReceiver : End → SeatState → ℕ → SeatState → Type 0
ManagerTakesReceiver e me n me' = (n ≡ 0 → (x : ReceiverSide) × Becomes (with_gathered e (λ g. record g { receiver = Some x })) (manager_place me) ((receiver_slot e, Receiver x) ∷ me.1) me me' × AreInUse me.0 e x.hands) × (n ≢ 0 → me' ≡ me) × (n ≤ 65) × (n ≢ 0 → IsHoldersWord me.0 (has_for_manager e (manager_call me)) e n)

-- the manager leaves the sender's turn, and its side state is at home; the same of the receiver's
abbrev pub ManagerLeavesSender : End → SeatState → SeatState → Type 0
ManagerLeavesSender e me me' = Becomes (with_gathered e (λ g. record g { sender = None })) (manager_place me) (rest me.1) me me'

abbrev pub ManagerLeavesReceiver : End → SeatState → SeatState → Type 0
ManagerLeavesReceiver e me me' = Becomes (with_gathered e (λ g. record g { receiver = None })) (manager_place me) (rest me.1) me me'

-- by the turn
abbrev pub ManagerTakesTurn : LaneTurn → End → SeatState → ℕ → SeatState → Type 0
ManagerTakesTurn lane_turn.Sender e me n me' = ManagerTakesSender e me n me'
ManagerTakesTurn lane_turn.Receiver e me n me' = ManagerTakesReceiver e me n me'

abbrev pub ManagerLeavesTurn : LaneTurn → End → SeatState → SeatState → Type 0
ManagerLeavesTurn lane_turn.Sender e me me' = ManagerLeavesSender e me me'
ManagerLeavesTurn lane_turn.Receiver e me me' = ManagerLeavesReceiver e me me'

-- the manager's own pass is outside a reopening
pub record MayGather (me : SeatState) : Type 0 where
  pub to_host : LaneSides
  pub to_remote : LaneSides
  pub at : ManagerAt me (Gathers to_host to_remote)

-- it has the sender's side state of a lane, which is the last slot that is out, as it was; the same of the receiver's
pub record MayLeaveSender (e : End) (me : SeatState) : Type 0 where
  pub gather : MayGather me
  pub side : SenderSide
  pub has : (sides_at e gather.to_host gather.to_remote).sender ≡ Some side
  pub slots : me.1 ≡ (sender_slot e, Sender side) ∷ rest me.1

pub record MayLeaveReceiver (e : End) (me : SeatState) : Type 0 where
  pub gather : MayGather me
  pub side : ReceiverSide
  pub has : (sides_at e gather.to_host gather.to_remote).receiver ≡ Some side
  pub slots : me.1 ≡ (receiver_slot e, Receiver side) ∷ rest me.1

abbrev pub MayLeaveTurn : LaneTurn → End → SeatState → Type 0
MayLeaveTurn lane_turn.Sender e me = MayLeaveSender e me
MayLeaveTurn lane_turn.Receiver e me = MayLeaveReceiver e me

-- the hand that has the message of the lesser number, and of the least
abbrev pub lesser_hand : Option Hand → Hand → Option Hand
lesser_hand least h = option_map_or (λ found. if nat_lt h.number found.number then Some h else Some found) least (Some h)

abbrev pub least_hand : List Hand → Option Hand
least_hand hands = fold lesser_hand None hands

-- the manager has all side states, and nothing is held by them
pub record MayBegin (me : SeatState) : Type 0 where
  pub host_sender : SenderSide
  pub host_receiver : ReceiverSide
  pub remote_sender : SenderSide
  pub remote_receiver : ReceiverSide
  pub at : ManagerAt me (Gathers (both_sides host_sender host_receiver) (both_sides remote_sender remote_receiver))
  pub none_held : (host_receiver.hands ≡ []) × (remote_receiver.hands ≡ [])

-- the books by the side states of a lane
abbrev pub sent_by : Option SenderSide → List BookEntry
sent_by None = []
sent_by (Some x) = x.entries

abbrev pub taken_by : Option ReceiverSide → List ℕ
taken_by None = []
taken_by (Some x) = x.takers

abbrev pub hands_by : Option ReceiverSide → List Hand
hands_by None = []
hands_by (Some x) = x.hands

abbrev pub back_by : Option ReceiverSide → ℕ
back_by None = 0
back_by (Some x) = x.returned

abbrev pub books_by : LaneSides → LaneBooks
books_by g = record { accepted = sent_by g.sender; takers = taken_by g.receiver; held = map holding_of (hands_by g.receiver); returned = back_by g.receiver }

-- books of an incarnation are given by a view: each pass that it has did what they say of it, and so did each that was reclaimed in this incarnation; and they
-- say nothing of a number that is not in use and was not freed in this incarnation. No more buffers are back than were handed over
pub record AreBooksOf (v : View) (books : End → LaneBooks) : Type 0 where
  pub own : (k : ℕ) (q : Pass) → get_elem? v.passes k ≡ some q → HasHistory v.inc books q.number q.first q.own
  pub unused : (n : ℕ) → end_of v.users n ≡ None → (HasNumber v.reclaims n → ⊥) → (e : End) → (entries_by n 0 (books e).accepted ≡ []) × (takes_by n 0 (books e).takers ≡ [])
  pub ended : (k : ℕ) (p : Pass) → get_elem? v.ended_passes k ≡ some p → HasHistory v.inc books p.number p.first p.own
  pub back : (e : End) → (books e).returned ≤ length (books e).takers

-- the manager, which has all side states, loads the era: where it is closed, a reopening begins, and the books are given
abbrev pub BeginsReopening : SeatState → ℕ → SeatState → Type 0
BeginsReopening me n me' = (era : Era) × (n ≡ era_word era) × (era.inc ≡ me.0.inc) × (era.inc < 4294967296) × (me.0.is_closed ≡ true → era.is_live ≡ false)
    × (era.is_live ≡ false → Becomes (λ p. with_call p (gathers_or p.call (Reopens 0 era.inc) p.call)) (manager_place me) me.1 me me'
    × AreBooksOf me.0 (λ e. books_by (sides_of (manager_call me) e)))
    × (era.is_live ≡ true → me' ≡ me)

-- the manager's copy stays, where none of its callers is out: the state of the link is the same
abbrev pub KeepsCopy : SeatState → SeatState → Type 0
KeepsCopy me me' = (k : LinkCopy) → me.0.out ≡ [] → me.0.copy ≡ Some k → me'.0.copy ≡ Some k

-- so many words are reset, and the next is to be this
pub record MayReset (number new : ℕ) (me : SeatState) : Type 0 where
  pub inc : ℕ
  pub to_host : LaneSides
  pub to_remote : LaneSides
  pub at : ManagerAt me (Reopens number inc to_host to_remote)
  pub fresh : get_elem? (fresh_of me.0.sizes) number ≡ some new

-- one more is reset
abbrev pub ResetsWord : SeatState → SeatState → Type 0
ResetsWord me me' = Becomes (λ p. with_call p (reopens_or p.call (λ q inc a b. Reopens (suc q) inc a b) p.call)) (manager_place me) me.1 me me'

-- the side states of a lane on which nothing was accepted, with the right to a desk
abbrev pub opened_sides : ℕ → DeskRight → LaneSides
opened_sides book right = both_sides (opened_sender book) (opened_receiver book right)

-- the manager's view in the next incarnation, with the rights to the two desks
abbrev pub opened_view : View → ℕ → DeskRight → DeskRight → Option LinkCopy → View
opened_view v k host remote copy = record v {
  passes = with_pass_at (λ p. with_call p (Gathers (opened_sides v.sizes.book host) (opened_sides v.sizes.book remote))) k v.passes;
  inc = v.inc + 1;
  reclaims = [];
  ended_passes = [];
  is_closed = false;
  copy = copy;
}

-- all words are reset, and there is a next incarnation
pub record MayOpen (inc : ℕ) (me : SeatState) : Type 0 where
  pub number : ℕ
  pub host_sender : SenderSide
  pub host_receiver : ReceiverSide
  pub remote_sender : SenderSide
  pub remote_receiver : ReceiverSide
  pub at : ManagerAt me (Reopens number inc (both_sides host_sender host_receiver) (both_sides remote_sender remote_receiver))
  pub all : number ≡ length (fresh_of me.0.sizes)
  pub more : inc + 1 < 4294967296

-- the right to the desk of an end that goes with the receiver's turn
abbrev pub right_by : Option ReceiverSide → DeskRight
right_by None = no_right
right_by (Some x) = x.desk

-- the next incarnation is opened, live: the side states count nothing, and each desk is to be reset
abbrev pub OpensEra : {D : Type 0} → Coded D → DeskMeaning D → SeatState → SeatState → Type 0
OpensEra {D} coded meaning me me' = let host = right_by (sides_of (manager_call me) side.Host).receiver in let remote = right_by (sides_of (manager_call me) side.Remote).receiver in
    (to_host : D) × (to_remote : D) × IsRightTo coded me.0.sizes.desks host to_host × IsRightTo coded me.0.sizes.desks remote to_remote
    × (me' ≡ (opened_view me.0 (manager_place me) (record host { code = coded.code (meaning.fresh to_host) }) (record remote { code = coded.code (meaning.fresh to_remote) }) me'.0.copy, me.1))

-- the opening is the one step of a reopening of the ring form: in some sound state of this incarnation, in which the manager has the four turns, the
-- era is closed and nothing is held. Where the manager has a copy of the state, and none of its callers is out, that state is the copy's, and the
-- copy follows
pub record IsOpeningOf {B : Type 0} {kc : Coded B} {kz : DeskTables} (coded : Coded (PlacedDesk kc kz)) (desk : DeskMeaning (PlacedDesk kc kz)) (me me' : SeatState) : Type 0 where
  pub state : LaneLink (RingState (PlacedDesk kc kz))
  pub sound : IsSoundState desk state
  pub may : MayDo desk state Opens
  pub inc : state.era.inc ≡ me.0.inc
  pub copy : (k : LinkCopy) → me.0.out ≡ [] → me.0.copy ≡ Some k → (k ≡ copied coded state) × (me'.0.copy ≡ Some (copied coded (after_deed desk state Opens)))

-- the same, with the desks in the tables that the seat knows
abbrev pub OpensLink : {D : Type 0} → Coded D → DeskMeaning D → SeatState → SeatState → Type 0
OpensLink coded meaning me me' = IsOpeningOf (placed_coded coded me.0.sizes.desks) (placed_meaning coded me.0.sizes.desks meaning) me me'

-- a step of the manager's own pass is this deed of the ring form
abbrev pub ManagerDoes : {D : Type 0} (coded : Coded D) → DeskMeaning D → (me : SeatState) → (LaneLink (RingState (PlacedDesk coded me.0.sizes.desks)) → LaneLink (RingState (PlacedDesk coded me.0.sizes.desks)) → Type 0) → Deed → SeatState → Type 0
ManagerDoes coded meaning me Reads d me' = let k = manager_place me in
    IsStepOf (placed_coded coded me.0.sizes.desks) (placed_meaning coded me.0.sizes.desks meaning) Reads d (number_at k me.0.passes) (call_at k me.0.passes) (call_at k me'.0.passes) me me'
