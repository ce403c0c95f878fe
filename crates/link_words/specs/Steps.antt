-- What each step tells its seat: the number that was found in the word, and the view and the slots after (own; the indexes and the entries are
-- those of a split virtqueue, VIRTIO 1.2 sections 2.7.6 and 2.7.8).
use Rattle.link_words.specs.declared.codes.DeskTables.{DeskTables}
use Rattle.link_words.specs.PlacedDesks.{PlacedDesk, placed_coded, placed_meaning, no_right, IsRightTo}
use Rattle.lane_model.specs.declared.calls.CallEnd.{CallEnd}
use Rattle.ring_core.specs.RingSteps.{held_buffer, hands_without}
use Rattle.std.specs.Prelude.{◌≡◌, ◌≢◌, ℕ, ◌+◌, ◌%◌, ◌==◌, ◌<◌, ◌≤◌, if◌then◌else◌, List, [], ◌∷◌, ◌++◌, length, Some, None, filter, not, ◌⊎◌, slice_index}
use base.Stored.{Coded}
use Rattle.atomic_table.specs.Table.{rest}
use Rattle.rp_base.specs.declared.kinds.End.{End}
use Rattle.rp_base.specs.declared.kinds.End.TheVariants as side
use Rattle.rp_base.specs.declared.kinds.Era.{Era}
use Rattle.link_words.specs.declared.codes.DeskRight.{DeskRight}
use Rattle.rp_base.specs.declared.limits.TheConstants.{MESSAGE_MOST, BOOK_MOST, CAPACITY_MOST}
use Rattle.lane_model.specs.declared.calls.CallEnd.TheVariants as end
use Rattle.lane_model.specs.declared.calls.Wish.{Wish}
use Rattle.lane_model.specs.declared.calls.Wish.TheVariants as wish
use Rattle.lane_model.specs.declared.lane_links.LaneLink.{LaneLink}
use Rattle.lane_model.specs.declared.stages.GiveStage.TheVariants as give_stage
use Rattle.lane_model.specs.declared.stages.Receiving.{Receiving}
use Rattle.lane_model.specs.declared.stages.SendStage.TheVariants as stage
use Rattle.lane_model.specs.declared.stages.Sending.{Sending}
use Rattle.lane_model.specs.declared.stages.TakeStage.TheVariants as take_stage
use Rattle.lane_model.specs.declared.stages.Turn.{Turn}
use Rattle.lane_model.specs.declared.stages.Turn.TheVariants as turn
use Rattle.lane_model.specs.declared.stages.Work.{Work}
use Rattle.lane_model.specs.declared.stages.Work.TheVariants as work
use Rattle.lane_model.specs.Desks.{DeskMeaning}
use Rattle.lane_model.specs.Lanes.{is_live_in}
use Rattle.lane_model.specs.Links.{free_number}
use Rattle.lane_model.specs.Receives.{after_take_era, desk_end}
use Rattle.lane_model.specs.Sends.{after_send_era}
use Rattle.ring_core.specs.declared.states.RingSizes.{RingSizes}
use Rattle.ring_core.specs.declared.states.RingState.{RingState}
use Rattle.ring_core.specs.declared.states.Hand.{Hand}
use Rattle.ring_core.specs.Rings.{return_count, entry_length, entry_of}
use Rattle.vring_layout.specs.declared.words.UsedWord.{UsedWord}
use Rattle.lane_model.specs.declared.recoveries.LaneTurn.{LaneTurn}
use Rattle.lane_model.specs.declared.recoveries.LaneTurn.TheVariants as lane_turn
use mathlib.Core.Option.{some, none}
use mathlib.Core.Option.{Option as Option_of}
use Rattle.link_words.specs.declared.copies.LinkCopy.{LinkCopy}
use Rattle.link_words.specs.declared.rule.Call.{Call}
use Rattle.link_words.specs.declared.rule.Call.TheVariants.{Sends, Receives, Rests}
use Rattle.link_words.specs.declared.rule.Counted.TheVariants.{Room, Waiting, Gave}
use Rattle.link_words.specs.declared.rule.Event.{Event}
use Rattle.link_words.specs.declared.rule.Event.TheVariants.{Count, Publish, Take}
use Rattle.link_words.specs.declared.rule.Pass.{Pass}
use Rattle.link_words.specs.declared.rule.Made.TheVariants as made
use Rattle.link_words.specs.declared.rule.ReceiverSide.{ReceiverSide}
use Rattle.link_words.specs.declared.rule.SenderSide.{SenderSide}
use Rattle.link_words.specs.declared.rule.Slot.{Slot}
use Rattle.link_words.specs.declared.rule.Slot.TheVariants.{Empty, Buffer, Receiver, Sender, Caller, Start}
use Rattle.link_words.specs.declared.loads.IndexUse.{IndexUse}
use Rattle.link_words.specs.declared.loads.IndexUse.TheVariants as index
use Rattle.link_words.specs.declared.loads.EraUse.{EraUse}
use Rattle.link_words.specs.declared.loads.EraUse.TheVariants as era
use Rattle.link_words.specs.declared.rule.Ring.{Ring}
use Rattle.link_words.specs.declared.rule.Ring.TheVariants as ring
use Rattle.link_words.specs.Calls.{SendAt, WorkAt, SendEnds, ReceiveEnds}
use Rattle.link_words.specs.Calls.{SeatState, send_or, receive_or, under_way_or, with_send, with_receive, place_of, call_at, number_at, own_at, in_hand_at, Becomes, Notes}
use Rattle.link_words.specs.Codes.{copied}
use Rattle.link_words.specs.Histories.{NeverBack, latest}
use Rattle.link_words.specs.Deeds.{Deed, Closes, Enlists, Frees, Steps, after_deed, MayDo, IsSoundState}
use Rattle.link_words.specs.Parts.{AreNear}
use Rattle.link_words.specs.Passes.{Manages, HasNumber, with_call, place_of_number}
use Rattle.link_words.specs.Rule.{IsCallOf}
use Rattle.link_words.specs.Words.{other, era_word, sizes_at, words_of, sender_word, receiver_word, forward_word, return_word, sender_slot, receiver_slot, buffer_slot}
use Rattle.link_words.specs.Layouts.{layout}

-- in the state before the step, the word at this place of the table is the number that was found
abbrev pub HasWord : {D : Type 0} → ℕ → ℕ → LaneLink (RingState D) → LaneLink (RingState D) → Type 0
HasWord place n before after = n ≡ slice_index (layout (words_of 0 [] before)) place

-- in the state after the step, it is the number that was stored
abbrev pub StoresWord : {D : Type 0} → ℕ → ℕ → LaneLink (RingState D) → LaneLink (RingState D) → Type 0
StoresWord place n before after = n ≡ slice_index (layout (words_of 0 [] after)) place

-- the step of a seat is this deed of the ring form, by the pass of this number: in some sound state, in which the word was what was found and the
-- pass was in its call, the deed may be done, and in the state after it the pass is in its next call. Where the manager has a copy of the state, and none of its callers
-- is out, that state is the copy's, and the copy follows
pub record IsStepOf {B : Type 0} {kc : Coded B} {kz : DeskTables} (coded : Coded (PlacedDesk kc kz)) (desk : DeskMeaning (PlacedDesk kc kz)) (Reads : LaneLink (RingState (PlacedDesk kc kz)) → LaneLink (RingState (PlacedDesk kc kz)) → Type 0) (d : Deed) (number : ℕ) (call next : Call) (me me' : SeatState) : Type 0 where
  pub state : LaneLink (RingState (PlacedDesk kc kz))
  pub sound : IsSoundState desk state
  pub read : Reads state (after_deed desk state d)
  pub may : MayDo desk state d
  pub before : IsCallOf state 0 number call
  pub after : IsCallOf (after_deed desk state d) 0 number next
  pub copy : (k : LinkCopy) → Manages me.0 → me.0.out ≡ [] → me.0.copy ≡ Some k → (k ≡ copied coded state) × (me'.0.copy ≡ Some (copied coded (after_deed desk state d)))

-- the step is a later one of the call of the pass that steps
abbrev pub GoesOnWith : {B : Type 0} {kc : Coded B} {kz : DeskTables} → Coded (PlacedDesk kc kz) → DeskMeaning (PlacedDesk kc kz) → (LaneLink (RingState (PlacedDesk kc kz)) → LaneLink (RingState (PlacedDesk kc kz)) → Type 0) → SeatState → SeatState → Type 0
GoesOnWith coded desk Reads me me' = let k = place_of me in
    IsStepOf coded desk Reads (Steps (number_at k me.0.passes) 0 None) (number_at k me.0.passes) (call_at k me.0.passes) (call_at k me'.0.passes) me me'

-- the step is the first one of what this caller wishes, in a call that follows this incarnation
abbrev pub BeginsWith : {B : Type 0} {kc : Coded B} {kz : DeskTables} → Coded (PlacedDesk kc kz) → DeskMeaning (PlacedDesk kc kz) → (LaneLink (RingState (PlacedDesk kc kz)) → LaneLink (RingState (PlacedDesk kc kz)) → Type 0) → ℕ → ℕ → Wish → SeatState → SeatState → Type 0
BeginsWith coded desk Reads number follows wished me me' = let k = place_of_number number me.0.passes in
    IsStepOf coded desk Reads (Steps number follows (Some wished)) number (call_at k me.0.passes) (call_at k me'.0.passes) me me'

-- the same, with the desks in the tables that the seat knows
abbrev pub GoesOn : {D : Type 0} (coded : Coded D) → DeskMeaning D → (me : SeatState) → (LaneLink (RingState (PlacedDesk coded me.0.sizes.desks)) → LaneLink (RingState (PlacedDesk coded me.0.sizes.desks)) → Type 0) → SeatState → Type 0
GoesOn coded meaning me Reads me' = GoesOnWith (placed_coded coded me.0.sizes.desks) (placed_meaning coded me.0.sizes.desks meaning) Reads me me'

abbrev pub Begins : {D : Type 0} (coded : Coded D) → DeskMeaning D → (me : SeatState) → (LaneLink (RingState (PlacedDesk coded me.0.sizes.desks)) → LaneLink (RingState (PlacedDesk coded me.0.sizes.desks)) → Type 0) → ℕ → ℕ → Wish → SeatState → Type 0
Begins coded meaning me Reads number follows wished me' = BeginsWith (placed_coded coded me.0.sizes.desks) (placed_meaning coded me.0.sizes.desks meaning) Reads number follows wished me me'

-- a caller is made on this end: in some sound state, whose callers in use are those that the manager's view knows, the deed may be done, and in the
-- state after it the caller of the least free number is in no call. Where the manager has a copy of the state, and none of its callers is out, that state is the copy's,
-- and the copy follows
pub record IsMakingOf {B : Type 0} {kc : Coded B} {kz : DeskTables} (coded : Coded (PlacedDesk kc kz)) (desk : DeskMeaning (PlacedDesk kc kz)) (e : End) (me me' : SeatState) : Type 0 where
  pub state : LaneLink (RingState (PlacedDesk kc kz))
  pub sound : IsSoundState desk state
  pub may : MayDo desk state (Enlists e)
  pub users : me.0.users ≡ state.callers
  pub after : (n : ℕ) → free_number me.0.users ≡ Some n → IsCallOf (after_deed desk state (Enlists e)) 0 n (Rests e)
  pub copy : (k : LinkCopy) → me.0.out ≡ [] → me.0.copy ≡ Some k → (k ≡ copied coded state) × (me'.0.copy ≡ Some (copied coded (after_deed desk state (Enlists e))))

-- the same, with the desks in the tables that the seat knows
abbrev pub MakesCaller : {D : Type 0} → Coded D → DeskMeaning D → End → SeatState → SeatState → Type 0
MakesCaller coded meaning e me me' = IsMakingOf (placed_coded coded me.0.sizes.desks) (placed_meaning coded me.0.sizes.desks meaning) e me me'

-- a carried caller of this end ends: in some sound state, in which it has ended its calls and holds nothing, the deed may be done. Where the manager has a copy of
-- the state, and none of its callers is out, that state is the copy's, and the copy follows
pub record IsEndingOf {B : Type 0} {kc : Coded B} {kz : DeskTables} (coded : Coded (PlacedDesk kc kz)) (desk : DeskMeaning (PlacedDesk kc kz)) (e : End) (number : ℕ) (me me' : SeatState) : Type 0 where
  pub state : LaneLink (RingState (PlacedDesk kc kz))
  pub sound : IsSoundState desk state
  pub may : MayDo desk state (Frees e number)
  pub copy : (k : LinkCopy) → me.0.out ≡ [] → me.0.copy ≡ Some k → (k ≡ copied coded state) × (me'.0.copy ≡ Some (copied coded (after_deed desk state (Frees e number))))

-- the same, with the desks in the tables that the seat knows
abbrev pub FreesCaller : {D : Type 0} → Coded D → DeskMeaning D → ℕ → SeatState → SeatState → Type 0
FreesCaller coded meaning number me me' = (e : End) × IsEndingOf (placed_coded coded me.0.sizes.desks) (placed_meaning coded me.0.sizes.desks meaning) e number me me'

-- an attempt to close this incarnation, by a seat that found this word of the era: in some sound state of that era, the close of the ring form is
-- made. Where the manager has a copy of the state, and none of its callers is out, that state is the copy's, and the copy follows
pub record IsCloseOf {B : Type 0} {kc : Coded B} {kz : DeskTables} (coded : Coded (PlacedDesk kc kz)) (desk : DeskMeaning (PlacedDesk kc kz)) (inc n : ℕ) (me me' : SeatState) : Type 0 where
  pub state : LaneLink (RingState (PlacedDesk kc kz))
  pub sound : IsSoundState desk state
  pub found : n ≡ era_word state.era
  pub copy : (k : LinkCopy) → Manages me.0 → me.0.out ≡ [] → me.0.copy ≡ Some k → (k ≡ copied coded state) × (me'.0.copy ≡ Some (copied coded (after_deed desk state (Closes inc))))

-- the same, with the desks in the tables that the seat knows
abbrev pub ClosesLink : {D : Type 0} → Coded D → DeskMeaning D → ℕ → ℕ → SeatState → SeatState → Type 0
ClosesLink coded meaning inc n me me' = IsCloseOf (placed_coded coded me.0.sizes.desks) (placed_meaning coded me.0.sizes.desks meaning) inc n me me'

-- the manager loads the era: it is that of some sound state. Where the manager has a copy of the state, and none of its callers is out, that state is the copy's
pub record IsLookAt {B : Type 0} {kc : Coded B} {kz : DeskTables} (coded : Coded (PlacedDesk kc kz)) (desk : DeskMeaning (PlacedDesk kc kz)) (n : ℕ) (me : SeatState) : Type 0 where
  pub state : LaneLink (RingState (PlacedDesk kc kz))
  pub sound : IsSoundState desk state
  pub found : n ≡ era_word state.era
  pub copy : (k : LinkCopy) → me.0.out ≡ [] → me.0.copy ≡ Some k → k ≡ copied coded state

-- the same, with the desks in the tables that the seat knows
abbrev pub LooksAtLink : {D : Type 0} → Coded D → DeskMeaning D → ℕ → SeatState → Type 0
LooksAtLink coded meaning n me = IsLookAt (placed_coded coded me.0.sizes.desks) (placed_meaning coded me.0.sizes.desks meaning) n me

-- the work of a call that has done its first step
abbrev pub first_work : Wish → Work
first_work (wish.Send message) = work.Take take_stage.Turn
first_work wish.Take = work.Take take_stage.Turn
first_work (wish.Give number) = work.Give number give_stage.Turn
first_work (wish.Bind address) = work.Bind address
first_work (wish.Unbind address) = work.Unbind address

-- what a caller may wish: a message fits a buffer, and a give names a buffer that the caller holds
abbrev pub IsFit : Wish → List ℕ → Type 0
IsFit (wish.Send message) hands = length message ≤ MESSAGE_MOST
IsFit wish.Take hands = Unit {0}
IsFit (wish.Give number) hands = HasNumber hands number
IsFit (wish.Bind address) hands = Unit {0}
IsFit (wish.Unbind address) hands = Unit {0}

-- step 1 of a send: where the turn was free, the pass has it, and the sender's side state is out; else nothing has changed
abbrev pub TakesSender : End → ℕ → ℕ → List ℕ → SeatState → ℕ → SeatState → Type 0
TakesSender lane number follows message me n me' =
    (n ≡ 0 → (x : SenderSide) × (x.accepted ≤ BOOK_MOST) × Notes (made.Turn n) (λ p. with_call p (Sends lane (turn.Taken number (record { follows = follows; message = message; stage = stage.Turn })) x 0))
    (place_of_number number me.0.passes) ((sender_slot lane, Sender x) ∷ me.1) me me')
    × (n ≢ 0 → Notes (made.Turn n) (λ p. p) (place_of_number number me.0.passes) me.1 me me')

-- step 1 of a call that needs the receiver's turn
abbrev pub TakesReceiver : End → ℕ → ℕ → Work → SeatState → ℕ → SeatState → Type 0
TakesReceiver lane number follows first me n me' =
    (n ≡ 0 → (x : ReceiverSide) × (x.handed ≤ BOOK_MOST) × (x.returned ≤ BOOK_MOST) × Notes (made.Turn n) (λ p. with_call p (Receives lane (turn.Taken number (record { follows = follows; work = first })) x 0 []))
    (place_of_number number me.0.passes) ((receiver_slot lane, Receiver x) ∷ me.1) me me')
    × (n ≢ 0 → Notes (made.Turn n) (λ p. p) (place_of_number number me.0.passes) me.1 me me')

-- the turn that a caller of this end needs for what it wishes: the sender's of the lane to the other end, or the receiver's of the lane to its own
abbrev pub turn_word_for : End → Wish → ℕ
turn_word_for end (wish.Send message) = sender_word (other end)
turn_word_for end wish.Take = receiver_word end
turn_word_for end (wish.Give held) = receiver_word end
turn_word_for end (wish.Bind address) = receiver_word end
turn_word_for end (wish.Unbind address) = receiver_word end

-- step 1 of what a caller of this end wishes
abbrev pub TakesTurn : End → ℕ → ℕ → Wish → SeatState → ℕ → SeatState → Type 0
TakesTurn end number follows (wish.Send message) = TakesSender (other end) number follows message
TakesTurn end number follows wish.Take = TakesReceiver end number follows (first_work wish.Take)
TakesTurn end number follows (wish.Give held) = TakesReceiver end number follows (first_work (wish.Give held))
TakesTurn end number follows (wish.Bind address) = TakesReceiver end number follows (first_work (wish.Bind address))
TakesTurn end number follows (wish.Unbind address) = TakesReceiver end number follows (first_work (wish.Unbind address))

-- step 2 of a send: it goes on where the era that was found is its incarnation, live
abbrev pub SendLoadsEra : SeatState → ℕ → SeatState → Type 0
SendLoadsEra me n me' = (era : Era) × (n ≡ era_word era) × (era.inc < 4294967296) × Notes (made.Era era) (with_send (λ x caller s. after_send_era era caller s)) (place_of me) me.1 me me'

-- the lane of the call of the pass that steps, by its end
abbrev pub lane_by : SeatState → End
lane_by me = let call = call_at (place_of me) me.0.passes in send_or (receive_or side.Host (λ e t x b message. e) call) (λ e t x b. e) call

-- the sizes of that lane, and the slot of a buffer of it
abbrev pub sizes_by : SeatState → RingSizes
sizes_by me = sizes_at me.0.sizes (lane_by me)

abbrev pub slot_by : SeatState → ℕ → ℕ
slot_by me id = buffer_slot me.0.sizes.to_host.capacity (lane_by me) id

-- the count of accepted messages that a send has in its side state, and of handed ones that a take has
abbrev pub accepted_by : SeatState → ℕ
accepted_by me = send_or 0 (λ e t x b. x.accepted) (call_at (place_of me) me.0.passes)

-- and of buffers that are back
abbrev pub returned_by : SeatState → ℕ
returned_by me = receive_or 0 (λ e t x b message. x.returned) (call_at (place_of me) me.0.passes)

abbrev pub hands_by : SeatState → List Hand
hands_by me = receive_or [] (λ e t x b message. x.hands) (call_at (place_of me) me.0.passes)

abbrev pub handed_by : SeatState → ℕ
handed_by me = receive_or 0 (λ e t x b message. x.handed) (call_at (place_of me) me.0.passes)

-- and for how many takers there is room
abbrev pub taker_room_by : SeatState → ℕ
taker_room_by me = receive_or 0 (λ e t x b message. x.room) (call_at (place_of me) me.0.passes)

-- the incarnation that its call follows, and what the pass has done
abbrev pub follows_by : SeatState → ℕ
follows_by me = let call = call_at (place_of me) me.0.passes in
    send_or (receive_or 0 (λ e t x b message. under_way_or 0 (λ caller r. r.follows) t) call) (λ e t x b. under_way_or 0 (λ caller s. s.follows) t) call

abbrev pub own_by : SeatState → List Event
own_by me = own_at (place_of me) me.0.passes

-- and the numbers that it has in hand
abbrev pub in_hand_by : SeatState → List ℕ
in_hand_by me = in_hand_at (place_of me) me.0.passes

-- what a look for room decides, by the counts, the capacity and the size of the book
abbrev pub look_turn : ℕ → ℕ → ℕ → ℕ → ℕ → Sending → Turn Sending
look_turn accepted returned capacity book caller s =
    if accepted == returned + capacity then turn.Leaving caller (end.NoBuffer accepted returned)
    else (if accepted == book then turn.Leaving caller (end.BookFull accepted) else turn.Taken caller (record s { stage = stage.Look }))

-- a pass whose send has looked for room
abbrev pub with_room : ℕ → ℕ → ℕ → Pass → Pass
with_room returned capacity book p = send_or p (λ e t x b. under_way_or p (λ caller s. record p {
  call = Sends e (look_turn x.accepted returned capacity book caller s) x b;
  own = Count e s.follows (Room x.accepted returned) ∷ p.own;
}) t) p.call

-- step 3 of a send: the return index that was found is that of a count near the count of accepted messages, which decides
abbrev pub SendLooks : SeatState → ℕ → SeatState → Type 0
SendLooks me n me' = let sizes = sizes_by me in (returned : ℕ) × (n ≡ return_count sizes returned % 65536) × AreNear sizes.capacity (accepted_by me) returned
    × NeverBack (lane_by me) (follows_by me) (Room (accepted_by me) returned) (own_by me) × Becomes (with_room returned sizes.capacity me.0.sizes.book) (place_of me) me.1 me me'

-- step 4 of a send: this buffer is out
abbrev pub SendTakesBuffer : ℕ → SeatState → SeatState → Type 0
SendTakesBuffer id me me' = (y : Slot) × Notes (made.Buffer id) (λ p. with_call p (send_or p.call (λ e t x b. Sends e (under_way_or t (λ caller s. turn.Taken caller (record s { stage = stage.Buffer })) t) x id) p.call))
    (place_of me) ((slot_by me id, y) ∷ me.1) me me'

-- step 5 of a send: the forward entry names its buffer
abbrev pub SendStoresEntry : SeatState → SeatState → Type 0
SendStoresEntry me me' = Notes made.Entry (with_send (λ x caller s. turn.Taken caller (record s { stage = stage.Entry }))) (place_of me) me.1 me me'

-- the side state after the acceptance of a message of this caller, which is the next of the book
abbrev pub accepted_side : SenderSide → ℕ → List ℕ → SenderSide
accepted_side x caller message = record x { accepted = x.accepted + 1; entries = x.entries ++ record { caller = caller; message = message } ∷ [] }

-- a pass whose send was accepted: its message is the next of what it sent
abbrev pub with_publish : Pass → Pass
with_publish p = send_or p (λ e t x b. under_way_or p (λ caller s. record p {
  call = Sends e (turn.Leaving caller (end.Sent x.accepted)) (accepted_side x caller s.message) b;
  own = Publish e s.follows x.accepted s.message ∷ p.own;
}) t) p.call

-- for how many messages a send has room by its side state
abbrev pub room_by : SeatState → ℕ
room_by me = send_or 0 (λ e t x b. x.room) (call_at (place_of me) me.0.passes)

-- step 6 of a send: the message is accepted, for which the book has room, and its buffer is at home
abbrev pub SendPublishes : SeatState → SeatState → Type 0
SendPublishes me me' = (accepted_by me < room_by me) × Becomes with_publish (place_of me) (rest me.1) me me'

-- the last step of a send: the turn is free, and its side state is at home
abbrev pub LeavesSender : SeatState → SeatState → Type 0
LeavesSender me me' = Notes made.Left (λ p. with_call p (send_or p.call (λ e t x b. Rests (other e)) p.call)) (place_of me) (rest me.1) me me'

-- step 2 of a take
abbrev pub TakeLoadsEra : SeatState → ℕ → SeatState → Type 0
TakeLoadsEra me n me' = (era : Era) × (n ≡ era_word era) × (era.inc < 4294967296) × Notes (made.Era era) (with_receive (λ x caller r. after_take_era era caller r)) (place_of me) me.1 me me'

-- what a look for a message decides, by the counts
abbrev pub take_look_turn : ℕ → ℕ → ℕ → Receiving → Turn Receiving
take_look_turn handed accepted caller r = if handed == accepted then turn.Leaving caller (end.Empty accepted) else turn.Taken caller (record r { work = work.Take take_stage.Look })

-- a pass whose take has looked for a message
abbrev pub with_waiting : ℕ → Pass → Pass
with_waiting accepted p = receive_or p (λ e t x b message. under_way_or p (λ caller r. record p {
  call = Receives e (take_look_turn x.handed accepted caller r) x b message;
  own = Count e r.follows (Waiting x.handed accepted) ∷ p.own;
}) t) p.call

-- step 3 of a take: the forward index that was found is that of a count, which is at most the capacity above the count of handed messages
abbrev pub TakeLooks : SeatState → ℕ → SeatState → Type 0
TakeLooks me n me' = let sizes = sizes_by me in (accepted : ℕ) × (n ≡ accepted % 65536) × (handed_by me ≤ accepted) × (accepted ≤ handed_by me + sizes.capacity)
    × NeverBack (lane_by me) (follows_by me) (Waiting (handed_by me) accepted) (own_by me) × Becomes (with_waiting accepted) (place_of me) me.1 me me'

-- step 4 of a take: this buffer is out, with its message
abbrev pub TakeTakesBuffer : ℕ → SeatState → SeatState → Type 0
TakeTakesBuffer id me me' = (message : List ℕ)
    × Notes (made.Buffer id) (λ p. with_call p (receive_or p.call (λ e t x b old. Receives e (under_way_or t (λ caller r. turn.Taken caller (record r { work = work.Take take_stage.Buffer })) t) x id message) p.call))
    (place_of me) ((slot_by me id, Buffer message) ∷ me.1) me me'

-- the right to the desk that goes with the receiver's turn of the pass that steps
abbrev pub desk_by : SeatState → DeskRight
desk_by me = receive_or no_right (λ e t x b message. x.desk) (call_at (place_of me) me.0.passes)

-- the side state after a handing, whose right is to the desk as the handing leaves it
abbrev pub handed_side : {D : Type 0} → Coded D → DeskMeaning D → D → ReceiverSide → ℕ → ℕ → List ℕ → ReceiverSide
handed_side coded meaning desk x caller buffer message = record x {
  handed = x.handed + 1;
  takers = x.takers ++ caller ∷ [];
  hands = x.hands ++ record { number = x.handed; caller = caller; buffer = buffer } ∷ [];
  desk = record x.desk { code = coded.code (meaning.delivered desk x.handed message) };
}

-- a pass at a take's second look at the era: where it is its incarnation, live, the message is handed to it, with the verdict of the desk;
-- else the take is dead
abbrev pub with_handing : {D : Type 0} → Coded D → DeskMeaning D → Era → D → Pass → Pass
with_handing coded meaning era desk p = receive_or p (λ e t x b message. under_way_or p (λ caller r. if is_live_in era r.follows
    then record p {
      call = Receives e (turn.Leaving caller (end.Took x.handed (meaning.verdict desk x.handed message))) (handed_side coded meaning desk x caller b message) b message;
      own = Take e r.follows x.handed message ∷ p.own;
      hands = p.hands ++ x.handed ∷ [];
    }
    else with_call p (Receives e (turn.Leaving caller (end.Dead era)) x b message)) t) p.call

-- step 5 of a take: the desk that it has the right to judges the message; the buffer's slot is at home either way
abbrev pub TakeHands : {D : Type 0} → Coded D → DeskMeaning D → DeskTables → SeatState → ℕ → SeatState → Type 0
TakeHands coded meaning tables me n me' = (era : Era) × (n ≡ era_word era) × (era.inc < 4294967296) × (length (hands_by me) < CAPACITY_MOST) × (handed_by me < taker_room_by me) × (desk : _) × IsRightTo coded tables (desk_by me) desk
    × Notes (made.Era era) (with_handing coded meaning era desk) (place_of me) (rest me.1) me me'

-- the numbers in hand but for this one
abbrev pub hands_but : List ℕ → ℕ → List ℕ
hands_but hands number = filter (λ held. not (held == number)) hands

-- the work of a give that has stored its entry
abbrev pub with_entry : Work → Work
with_entry (work.Take stage) = work.Take stage
with_entry (work.Give number stage) = work.Give number give_stage.Entry
with_entry (work.Bind address) = work.Bind address
with_entry (work.Unbind address) = work.Unbind address

-- step 2 of a give: the return entry names the buffer in hand
abbrev pub GiveStoresEntry : SeatState → SeatState → Type 0
GiveStoresEntry me me' = Notes made.Entry (with_receive (λ x caller r. turn.Taken caller (record r { work = with_entry r.work }))) (place_of me) me.1 me me'

-- the number of a give, else something else
abbrev pub given_or : {A : Type 0} → A → (ℕ → A) → Work → A
given_or otherwise f (work.Take stage) = otherwise
given_or otherwise f (work.Give number stage) = f number
given_or otherwise f (work.Bind address) = otherwise
given_or otherwise f (work.Unbind address) = otherwise

-- a pass whose buffer is back, in this incarnation: it is in hand no more
abbrev pub with_given : ℕ → Pass → Pass
with_given inc p = receive_or p (λ e t x b message. under_way_or p (λ caller r. given_or p (λ number. record p {
  call = Receives e (turn.Leaving caller (end.Gave number)) (record x { returned = x.returned + 1; hands = hands_without x.hands number }) b message;
  own = Count e inc (Gave (x.returned + 1)) ∷ p.own;
  hands = hands_but p.hands number;
}) r.work) t) p.call

-- step 3 of a give, which reads no era: it is in the incarnation of the latest step of a caller that holds something
abbrev pub GivePublishes : SeatState → SeatState → Type 0
GivePublishes me me' = (inc : ℕ) × ((in_hand_by me ≡ []) ⊎ (latest (own_by me) ≡ inc)) × NeverBack (lane_by me) inc (Gave (returned_by me + 1)) (own_by me) × Becomes (with_given inc) (place_of me) me.1 me me'

-- how a binding or an unbinding ends, by what the desk says
abbrev pub desk_says : {D : Type 0} → DeskMeaning D → D → ℕ → Work → CallEnd
desk_says meaning desk handed (work.Take stage) = end.Gave 0
desk_says meaning desk handed (work.Give number stage) = end.Gave number
desk_says meaning desk handed (work.Bind address) = desk_end end.Bound (meaning.bind_answer desk address handed)
desk_says meaning desk handed (work.Unbind address) = desk_end end.Unbound (meaning.unbind_answer desk address)

-- and the desk that it leaves
abbrev pub desk_after : {D : Type 0} → DeskMeaning D → D → ℕ → Work → D
desk_after meaning desk handed (work.Take stage) = desk
desk_after meaning desk handed (work.Give number stage) = desk
desk_after meaning desk handed (work.Bind address) = meaning.bound desk address handed
desk_after meaning desk handed (work.Unbind address) = meaning.unbound desk address

-- a pass at step 2 of a binding or an unbinding
abbrev pub with_binding : {D : Type 0} → Coded D → DeskMeaning D → Era → D → Pass → Pass
with_binding coded meaning era desk p = receive_or p (λ e t x b message. under_way_or p (λ caller r. if is_live_in era r.follows
    then with_call p (Receives e (turn.Leaving caller (desk_says meaning desk x.handed r.work)) (record x { desk = record x.desk { code = coded.code (desk_after meaning desk x.handed r.work) } }) b message)
    else with_call p (Receives e (turn.Leaving caller (end.Dead era)) x b message)) t) p.call

-- step 2 of a binding or an unbinding: in its incarnation, live, the desk changes and says how the call ends
abbrev pub BindLoadsEra : {D : Type 0} → Coded D → DeskMeaning D → DeskTables → SeatState → ℕ → SeatState → Type 0
BindLoadsEra coded meaning tables me n me' = (era : Era) × (n ≡ era_word era) × (era.inc < 4294967296) × (desk : _) × IsRightTo coded tables (desk_by me) desk
    × Notes (made.Era era) (with_binding coded meaning era desk) (place_of me) me.1 me me'

-- the last step of a call that has the receiver's turn
abbrev pub LeavesReceiver : SeatState → SeatState → Type 0
LeavesReceiver me me' = Notes made.Left (λ p. with_call p (receive_or p.call (λ e t x b message. Rests e) p.call)) (place_of me) (rest me.1) me me'

-- the index that is loaded for this
abbrev pub index_number : IndexUse → End → ℕ
index_number index.Room lane = return_word lane
index_number index.OwnBuffer lane = return_word lane
index_number index.Message lane = forward_word lane

-- the index of a ring of a lane
abbrev pub ring_index : Ring → End → ℕ
ring_index ring.Forward lane = forward_word lane
ring_index ring.Return lane = return_word lane

-- a turn of a lane
abbrev pub turn_number : LaneTurn → End → ℕ
turn_number lane_turn.Sender lane = sender_word lane
turn_number lane_turn.Receiver lane = receiver_word lane

-- what a call is at when it loads an index for this
abbrev pub MayLoadIndex : IndexUse → End → SeatState → Type 0
MayLoadIndex index.Room lane me = SendAt me lane stage.Era
MayLoadIndex index.OwnBuffer lane me = SendAt me lane stage.Look × (accepted_by me < (sizes_by me).own)
MayLoadIndex index.Message lane me = WorkAt me lane (work.Take take_stage.Era)

abbrev pub LoadsIndex : IndexUse → SeatState → ℕ → SeatState → Type 0
LoadsIndex index.Room me n me' = SendLooks me n me'
LoadsIndex index.OwnBuffer me n me' = SendTakesBuffer (accepted_by me) me me'
LoadsIndex index.Message me n me' = TakeLooks me n me'

-- a send loads the return entry of its number, after those that take a buffer of the own list; a take the forward entry of its message.
-- The low half of an entry's word is the number of the buffer
abbrev pub MayLoadEntry : Ring → End → ℕ → SeatState → Type 0
MayLoadEntry ring.Return lane count me = SendAt me lane stage.Look × (accepted_by me ≡ (sizes_by me).own + count)
MayLoadEntry ring.Forward lane count me = WorkAt me lane (work.Take take_stage.Look) × (handed_by me ≡ count)

abbrev pub LoadsEntry : Ring → SeatState → ℕ → SeatState → Type 0
LoadsEntry ring.Return me n me' = SendTakesBuffer (n % 4294967296) me me'
LoadsEntry ring.Forward me n me' = TakeTakesBuffer (n % 4294967296) me me'

-- a take that has its buffer out, with the message in it, which is the last slot that is out
pub record HandsAt (me : SeatState) : Type 0 where
  pub lane : End
  pub at : WorkAt me lane (work.Take take_stage.Buffer)
  pub slots : me.1 ≡ (buffer_slot me.0.sizes.to_host.capacity lane at.buffer, Buffer at.message) ∷ rest me.1

-- a binding or an unbinding, which have one step after their turn
abbrev pub BindsAt : SeatState → Type 0
BindsAt me = (lane : End) × (address : ℕ) × (WorkAt me lane (work.Bind address) ⊎ WorkAt me lane (work.Unbind address))

abbrev pub MayLoadEra : EraUse → SeatState → Type 0
MayLoadEra era.Send me = (lane : End) × SendAt me lane stage.Turn
MayLoadEra era.Take me = (lane : End) × WorkAt me lane (work.Take take_stage.Turn)
MayLoadEra era.Hand me = HandsAt me
MayLoadEra era.Bind me = BindsAt me

abbrev pub LoadsEra : {D : Type 0} → Coded D → DeskMeaning D → EraUse → SeatState → ℕ → SeatState → Type 0
LoadsEra coded meaning era.Send me n me' = SendLoadsEra me n me'
LoadsEra coded meaning era.Take me n me' = TakeLoadsEra me n me'
LoadsEra coded meaning era.Hand me n me' = TakeHands coded meaning me.0.sizes.desks me n me'
LoadsEra coded meaning era.Bind me n me' = BindLoadsEra coded meaning me.0.sizes.desks me n me'

-- a send stores the forward entry of its number, with its buffer and the length of its message
pub record SendStoresAt (lane : End) (number : ℕ) (stored : UsedWord) (me : SeatState) : Type 0 where
  pub at : SendAt me lane stage.Buffer
  pub count : at.side.accepted ≡ number
  pub entry : stored ≡ record { id = at.buffer; len = entry_length (sizes_by me) (length at.message) }

-- a give stores the return entry of the next count, with the buffer in hand
pub record GiveStoresAt (lane : End) (number : ℕ) (stored : UsedWord) (me : SeatState) : Type 0 where
  pub given : ℕ
  pub at : WorkAt me lane (work.Give given give_stage.Turn)
  pub count : return_count (sizes_by me) at.side.returned ≡ number
  pub entry : stored ≡ entry_of (held_buffer at.side.hands given)

abbrev pub MayStoreEntry : Ring → End → ℕ → UsedWord → SeatState → Type 0
MayStoreEntry ring.Forward lane count entry me = SendStoresAt lane count entry me
MayStoreEntry ring.Return lane count entry me = GiveStoresAt lane count entry me

abbrev pub StoresEntry : Ring → SeatState → SeatState → Type 0
StoresEntry ring.Forward me me' = SendStoresEntry me me'
StoresEntry ring.Return me me' = GiveStoresEntry me me'

-- a send publishes the count after its number, with its message in its buffer, which is the last slot that is out
pub record SendPublishesAt (lane : End) (number : ℕ) (me : SeatState) : Type 0 where
  pub at : SendAt me lane stage.Entry
  pub count : at.side.accepted + 1 ≡ number
  pub slots : me.1 ≡ (buffer_slot me.0.sizes.to_host.capacity lane at.buffer, Buffer at.message) ∷ rest me.1

-- a give publishes the count after that of its entry
pub record GivePublishesAt (lane : End) (number : ℕ) (me : SeatState) : Type 0 where
  pub given : ℕ
  pub at : WorkAt me lane (work.Give given give_stage.Entry)
  pub count : return_count (sizes_by me) at.side.returned + 1 ≡ number

abbrev pub MayPublish : Ring → End → ℕ → SeatState → Type 0
MayPublish ring.Forward lane count me = SendPublishesAt lane count me
MayPublish ring.Return lane count me = GivePublishesAt lane count me

abbrev pub PublishesIndex : Ring → SeatState → SeatState → Type 0
PublishesIndex ring.Forward me me' = SendPublishes me me'
PublishesIndex ring.Return me me' = GivePublishes me me'

-- the end of a call that has this turn is settled
abbrev pub EndsAt : LaneTurn → SeatState → End → Type 0
EndsAt lane_turn.Sender me lane = SendEnds me lane
EndsAt lane_turn.Receiver me lane = ReceiveEnds me lane

abbrev pub LeavesTurn : LaneTurn → SeatState → SeatState → Type 0
LeavesTurn lane_turn.Sender me me' = LeavesSender me me'
LeavesTurn lane_turn.Receiver me me' = LeavesReceiver me me'

-- step 1 of what the seat says that it begins
abbrev pub TakesTurnAs : {D : Type 0} → Coded D → DeskMeaning D → ℕ → Option_of Slot → SeatState → ℕ → SeatState → Type 0
TakesTurnAs coded desk place none me n me' = Unit {0}
TakesTurnAs coded desk place (some Empty) me n me' = Unit {0}
TakesTurnAs coded desk place (some (Sender x)) me n me' = Unit {0}
TakesTurnAs coded desk place (some (Receiver x)) me n me' = Unit {0}
TakesTurnAs coded desk place (some (Buffer x)) me n me' = Unit {0}
TakesTurnAs coded desk place (some (Caller x)) me n me' = Unit {0}
TakesTurnAs coded desk place (some (Start x)) me n me' = TakesTurn x.end x.caller x.follows x.wish me n me' × (n ≤ 65) × Begins coded desk me (HasWord place n) x.caller x.follows x.wish me'
