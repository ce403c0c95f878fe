-- What each step tells its seat: the view after, as a function of the one before and of what was found.
use Rattle.lane_model.specs.declared.stages.Receiving.{Receiving}
use Rattle.std.proofs.Common.{cond}
use Rattle.std.specs.Prelude.{◌⊎◌, ◌≢◌, ◌%◌, ◌≤◌, ◌<◌, length}
use Rattle.rp_base.specs.declared.limits.TheConstants.{BOOK_MOST, CAPACITY_MOST}
use Rattle.ring_core.specs.declared.states.RingSizes.{RingSizes}
use Rattle.ring_core.specs.Rings.{return_count}
use Rattle.lane_model.specs.Receives.{after_take_era}
use Rattle.std.specs.Prelude.{◌≡◌, true, false, ℕ, ◌+◌, List, [], ◌∷◌, ◌++◌}
use Rattle.atomic_table.specs.Table.{rest}
use Rattle.link_words.specs.Calls.{SeatState}
use Rattle.link_words.specs.Steps.{accepted_side, look_turn, take_look_turn, hands_but}
use Rattle.rp_base.specs.declared.kinds.Era.{Era}
use Rattle.rp_base.specs.declared.kinds.End.{End}
use Rattle.lane_model.specs.declared.stages.Turn.TheVariants as turn
use Rattle.lane_model.specs.declared.stages.Sending.{Sending}
use Rattle.lane_model.specs.declared.stages.SendStage.TheVariants as stage
use Rattle.lane_model.specs.declared.calls.CallEnd.TheVariants as end
use Rattle.lane_model.specs.declared.stages.Work.{Work}
use Rattle.lane_model.specs.declared.stages.Work.TheVariants as work
use Rattle.lane_model.specs.declared.stages.TakeStage.TheVariants as take_stage
use Rattle.lane_model.specs.Lanes.{is_live_in}
use base.Stored.{Coded}
use Rattle.lane_model.specs.Desks.{DeskMeaning}
use Rattle.lane_model.specs.declared.calls.CallEnd.{CallEnd}
use Rattle.link_words.specs.declared.codes.DeskTables.{DeskTables}
use Rattle.link_words.specs.PlacedDesks.{PlacedDesk, right_to}
use Rattle.lane_model.specs.Sends.{after_send_era}
use Rattle.link_words.specs.declared.rule.Slot.{Slot}
use Rattle.link_words.specs.declared.rule.Slot.TheVariants.{Buffer, Receiver}
use Rattle.link_words.specs.declared.rule.SenderSide.{SenderSide}
use Rattle.link_words.specs.declared.rule.ReceiverSide.{ReceiverSide}
use Rattle.link_words.specs.declared.rule.Call.{Call}
use Rattle.link_words.specs.declared.rule.Call.TheVariants.{Sends, Rests, Receives, Reopens}
use Rattle.link_words.specs.declared.rule.Counted.TheVariants.{Room, Waiting, Gave}
use Rattle.link_words.specs.declared.rule.Event.TheVariants.{Count, Publish, Take}
use Rattle.link_words.specs.declared.rule.LaneSides.{LaneSides}
use Rattle.link_words.specs.Reopens.{AreBooksOf, books_by}
use Rattle.link_words.specs.Sides.{sides_at}
use Rattle.link_words.specs.Histories.{NeverBack, latest}
use Rattle.ring_core.specs.RingSteps.{hands_without}
use Rattle.link_words.specs.Passes.{Manages, Mover, with_call, with_call_and_hands, with_pass}
use Rattle.link_words.specs.Seats.{is_closed_behind}
use Rattle.link_words.specs.Words.{receiver_slot, other, era_word, buffer_slot}

-- step 2 of a send: the era that was found decides
abbrev pub SendLoadsEraBy : (me : SeatState) → Mover me.0 → End → ℕ → Sending → SenderSide → ℕ → ℕ → SeatState → Type 0
SendLoadsEraBy me o e c s x b n me' = (era : Era) × (n ≡ era_word era) × (era.inc < 4294967296) × (me' ≡ (with_pass me.0 o (with_call o.pass (Sends e (after_send_era era c s) x b)) me'.0.copy, me.1))

-- an attempt to close: the era that was found
abbrev pub ClosesEraBy : ℕ → SeatState → ℕ → SeatState → Type 0
ClosesEraBy inc me n me' = (era : Era) × (n ≡ era_word era) × (era.inc < 4294967296) × (me' ≡ (record me.0 { copy = me'.0.copy; is_closed = is_closed_behind inc era }, me.1)) × (Manages me.0 → era.inc ≡ me.0.inc)

-- step 4 of a send: the buffer is out
abbrev pub SendTakesBufferBy : (me : SeatState) → Mover me.0 → ℕ → End → ℕ → Sending → SenderSide → ℕ → SeatState → Type 0
SendTakesBufferBy me o first e c s x id me' = (y : Slot) × (me' ≡ (with_pass me.0 o (with_call o.pass (Sends e (turn.Taken c (record s { stage = stage.Buffer })) x id)) me'.0.copy, (buffer_slot first e id, y) ∷ me.1))

-- step 6 of a send: the message is in the book, and the buffer at home
abbrev pub SendPublishesBy : (me : SeatState) → Mover me.0 → End → ℕ → ℕ → List ℕ → SenderSide → ℕ → SeatState → Type 0
SendPublishesBy me o e c f message x b me' = (x.accepted < x.room)
    × (me' ≡ (with_pass me.0 o (record o.pass { call = Sends e (turn.Leaving c (end.Sent x.accepted)) (accepted_side x c message) b; own = Publish e f x.accepted message ∷ o.pass.own }) me'.0.copy, rest me.1))

-- the turn is free, what was out is at home, and these slots are still out
abbrev pub SendLeavesBy : (me : SeatState) → Mover me.0 → End → List (ℕ × Slot) → SeatState → Type 0
SendLeavesBy me o e left me' = me' ≡ (with_pass me.0 o (with_call o.pass (Rests (other e))) me'.0.copy, left)

-- a seat that has a turn loads the era in a reclaim: where it is closed, its pass is in this call
abbrev pub FindsClosedBy : (me : SeatState) → Mover me.0 → Call → ℕ → SeatState → Type 0
FindsClosedBy me o call n me' = (era : Era) × (n ≡ era_word era) × (era.inc < 4294967296) × (era.is_live ≡ false → me' ≡ (with_pass me.0 o (with_call o.pass call) me'.0.copy, me.1)) × (era.is_live ≡ true → me' ≡ me)

-- part 2 of a reclaim: one attempt to take the receiver's turn for the manager, with the seat of the caller
abbrev pub ClaimsBy : (me : SeatState) → Mover me.0 → End → (ReceiverSide → Call) → Call → ℕ → SeatState → Type 0
ClaimsBy me o e next busy n me' = (n ≡ 0 → (x : ReceiverSide) × (me' ≡ (with_pass me.0 o (with_call o.pass (next x)) me'.0.copy, (receiver_slot e, Receiver x) ∷ me.1))) × (n ≢ 0 → me' ≡ (with_pass me.0 o (with_call o.pass busy) me'.0.copy, me.1))

-- a turn is left: the pass is in this call, and these slots are still out
abbrev pub LeavesTo : (me : SeatState) → Mover me.0 → Call → List (ℕ × Slot) → SeatState → Type 0
LeavesTo me o call left me' = me' ≡ (with_pass me.0 o (with_call o.pass call) me'.0.copy, left)

-- the same of a caller that holds nothing more
abbrev pub LeavesEmpty : (me : SeatState) → Mover me.0 → Call → List (ℕ × Slot) → SeatState → Type 0
LeavesEmpty me o call left me' = me' ≡ (with_pass me.0 o (with_call_and_hands o.pass call []) me'.0.copy, left)

-- the manager, which has the four turns and holds nothing, loads the era: a reopening begins where it is closed
abbrev pub BeginsReopeningBy : (me : SeatState) → Mover me.0 → LaneSides → LaneSides → ℕ → SeatState → Type 0
BeginsReopeningBy me o a b n me' = (era : Era) × (n ≡ era_word era) × (era.inc ≡ me.0.inc) × (era.inc < 4294967296) × (me.0.is_closed ≡ true → era.is_live ≡ false)
    × (era.is_live ≡ false → (me' ≡ (with_pass me.0 o (with_call o.pass (Reopens 0 era.inc a b)) me'.0.copy, me.1)) × AreBooksOf me.0 (λ e. books_by (sides_at e a b)))
    × (era.is_live ≡ true → me' ≡ me)

-- step 4 of a take: the buffer is out, with its message
abbrev pub TakeTakesBufferBy : (me : SeatState) → Mover me.0 → ℕ → End → ℕ → ℕ → ReceiverSide → ℕ → SeatState → Type 0
TakeTakesBufferBy me o first e c f x id me' = (message : List ℕ)
    × (me' ≡ (with_pass me.0 o (with_call o.pass (Receives e (turn.Taken c (record { follows = f; work = work.Take take_stage.Buffer })) x id message)) me'.0.copy, (buffer_slot first e id, Buffer message) ∷ me.1))

-- step 5 of a take: the era that was found decides; the buffer's slot is at home either way
abbrev pub TakeHandsBy : {B : Type 0} {kc : Coded B} {kz : DeskTables} → DeskMeaning (PlacedDesk kc kz) → (me : SeatState) → Mover me.0 → End → ℕ → ℕ → ReceiverSide → ℕ → List ℕ → ℕ → SeatState → Type 0
TakeHandsBy {kc = kc} {kz = kz} desk me o e c f x b message n me' = (era : Era) × (n ≡ era_word era) × (era.inc < 4294967296) × (length x.hands < CAPACITY_MOST) × (x.handed < x.room) × (at : PlacedDesk kc kz) × (x.desk ≡ right_to at)
    × (is_live_in era f ≡ true → me' ≡ (
      with_pass me.0 o (record o.pass {
        call = Receives e (turn.Leaving c (end.Took x.handed (desk.verdict at x.handed message)))
            (record x { handed = x.handed + 1; takers = x.takers ++ c ∷ []; hands = x.hands ++ record { number = x.handed; caller = c; buffer = b } ∷ []; desk = right_to (desk.delivered at x.handed message) }) b message;
        own = Take e f x.handed message ∷ o.pass.own;
        hands = o.pass.hands ++ x.handed ∷ [];
      }) me'.0.copy,
      rest me.1,
    ))
    × (is_live_in era f ≡ false → me' ≡ (with_pass me.0 o (with_call o.pass (Receives e (turn.Leaving c (end.Dead era)) x b message)) me'.0.copy, rest me.1))

-- step 3 of a send: the return index that was found tells how many buffers are back
abbrev pub SendLooksBy : (me : SeatState) → Mover me.0 → RingSizes → ℕ → End → ℕ → Sending → SenderSide → ℕ → ℕ → SeatState → Type 0
SendLooksBy me o sizes book e c s x b n me' = (returned : ℕ) × (n ≡ return_count sizes returned % 65536) × (returned ≤ x.accepted) × (x.accepted ≤ returned + sizes.capacity)
    × NeverBack e s.follows (Room x.accepted returned) o.pass.own
    × (me' ≡ (with_pass me.0 o (record o.pass { call = Sends e (look_turn x.accepted returned sizes.capacity book c s) x b; own = Count e s.follows (Room x.accepted returned) ∷ o.pass.own }) me'.0.copy, me.1))

-- step 5 of a send: the forward entry names the buffer
abbrev pub SendStoresEntryBy : (me : SeatState) → Mover me.0 → End → ℕ → Sending → SenderSide → ℕ → SeatState → Type 0
SendStoresEntryBy me o e c s x b me' = me' ≡ (with_pass me.0 o (with_call o.pass (Sends e (turn.Taken c (record s { stage = stage.Entry })) x b)) me'.0.copy, me.1)

-- step 2 of a take: the era that was found decides
abbrev pub TakeLoadsEraBy : (me : SeatState) → Mover me.0 → End → ℕ → Receiving → ReceiverSide → ℕ → List ℕ → ℕ → SeatState → Type 0
TakeLoadsEraBy me o e c q x b message n me' = (era : Era) × (n ≡ era_word era) × (era.inc < 4294967296) × (me' ≡ (with_pass me.0 o (with_call o.pass (Receives e (after_take_era era c q) x b message)) me'.0.copy, me.1))

-- step 3 of a take: the forward index that was found tells how many messages there are
abbrev pub TakeLooksBy : (me : SeatState) → Mover me.0 → RingSizes → End → ℕ → Receiving → ReceiverSide → ℕ → List ℕ → ℕ → SeatState → Type 0
TakeLooksBy me o sizes e c q x b message n me' = (accepted : ℕ) × (n ≡ accepted % 65536) × (x.handed ≤ accepted) × (accepted ≤ x.handed + sizes.capacity)
    × NeverBack e q.follows (Waiting x.handed accepted) o.pass.own
    × (me' ≡ (with_pass me.0 o (record o.pass { call = Receives e (take_look_turn x.handed accepted c q) x b message; own = Count e q.follows (Waiting x.handed accepted) ∷ o.pass.own }) me'.0.copy, me.1))

-- step 3 of a give: the buffer of this number is back, in this incarnation
abbrev pub GivesBackBy : (me : SeatState) → Mover me.0 → End → ℕ → ℕ → ReceiverSide → ℕ → List ℕ → SeatState → Type 0
GivesBackBy me o e c number x b message me' = (inc : ℕ) × ((o.pass.hands ≡ []) ⊎ (latest o.pass.own ≡ inc)) × NeverBack e inc (Gave (x.returned + 1)) o.pass.own
    × (me' ≡ (
      with_pass me.0 o (record o.pass {
        call = Receives e (turn.Leaving c (end.Gave number)) (record x { returned = x.returned + 1; hands = hands_without x.hands number }) b message;
        own = Count e inc (Gave (x.returned + 1)) ∷ o.pass.own;
        hands = hands_but o.pass.hands number;
      }) me'.0.copy,
      me.1,
    ))

-- step 1 of a call that needs the receiver's turn
abbrev pub TakeBeginsBy : (me : SeatState) → Mover me.0 → End → ℕ → Work → ℕ → SeatState → Type 0
TakeBeginsBy me o e follows first n me' =
    (n ≡ 0 → (x : ReceiverSide) × (x.handed ≤ BOOK_MOST) × (x.returned ≤ BOOK_MOST) × (me' ≡ (with_pass me.0 o (with_call o.pass (Receives e (turn.Taken o.pass.number (record { follows = follows; work = first })) x 0 [])) me'.0.copy, (receiver_slot e, Receiver x) ∷ me.1)))
    × (n ≢ 0 → me' ≡ me)

-- step 2 of a binding or an unbinding: the era that was found decides, and the desk says how the call ends
abbrev pub BindLoadsEraBy : {B : Type 0} {kc : Coded B} {kz : DeskTables} → (PlacedDesk kc kz → ℕ → PlacedDesk kc kz) → (PlacedDesk kc kz → ℕ → CallEnd) → (me : SeatState) → Mover me.0 → End → ℕ → ℕ → ReceiverSide → ℕ → List ℕ → ℕ → SeatState → Type 0
BindLoadsEraBy {kc = kc} {kz = kz} leaves says me o e c f x b message n me' = (era : Era) × (n ≡ era_word era) × (era.inc < 4294967296) × (at : PlacedDesk kc kz) × (x.desk ≡ right_to at)
    × (me' ≡ (
      with_pass me.0 o (with_call o.pass (Receives e (cond (is_live_in era f) (turn.Leaving c (says at x.handed)) (turn.Leaving c (end.Dead era)))
          (cond (is_live_in era f) (record x { desk = right_to (leaves at x.handed) }) x) b message)) me'.0.copy,
      me.1,
    ))
