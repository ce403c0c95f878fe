-- The first and the last step of a call, as its caller's seat is told them.
use Rattle.std.proofs.Common.{◌≡◌, ◌≢◌, ℕ, ◌+◌, List, [], ◌∷◌, refl, sym, ap, ◌∙◌, subst}
use base.Stored.{Coded}
use Rattle.atomic_table.specs.Table.{rest}
use Rattle.rp_base.specs.declared.kinds.End.{End}
use Rattle.lane_model.specs.declared.calls.Wish.{Wish}
use Rattle.lane_model.specs.declared.calls.Wish.TheVariants as wish
use Rattle.lane_model.specs.declared.recoveries.LaneTurn.{LaneTurn}
use Rattle.lane_model.specs.declared.recoveries.LaneTurn.TheVariants as lane_turn
use Rattle.lane_model.specs.declared.stages.SendStage.TheVariants as stage
use Rattle.lane_model.specs.declared.stages.Turn.TheVariants as turn
use Rattle.lane_model.specs.declared.stages.Work.{Work}
use Rattle.lane_model.specs.Desks.{DeskMeaning}
use Rattle.link_words.specs.declared.rule.Call.{Call}
use Rattle.link_words.specs.declared.rule.Call.TheVariants.{Sends, Receives, Rests}
use Rattle.link_words.specs.declared.rule.Event.TheVariants.{Step}
use Rattle.link_words.specs.declared.rule.Made.TheVariants as made
use Rattle.link_words.specs.declared.rule.Slot.{Slot}
use Rattle.link_words.specs.declared.rule.Slot.TheVariants.{Sender, Receiver}
use Rattle.link_words.specs.Calls.{SeatState, RestsAt, Notes, noted, send_or, receive_or, place_of}
use Rattle.link_words.specs.Passes.{with_call, place_of_number}
use Rattle.link_words.specs.Steps.{EndsAt, LeavesTurn, TakesTurn, TakesReceiver, first_work}
use Rattle.link_words.specs.Words.{other, sender_slot, receiver_slot}
use Rattle.split_ring.specs.declared.callers.CallerId.{CallerId}
use Rattle.split_ring.specs.Seats.{pass_in, IsAt}
use Rattle.split_ring.specs.Turns.{HasBegun, HasReceiver, MayLeave, end_with, receive_call}
use Rattle.split_ring.specs.Walks.{same_hands, IsRingStep, HasDone}
use Rattle.split_ring.proofs.Seats.{after_step, stepped_once, first_place, mover_of, number_place, side_sends, side_receives}

-- one slot is out, and no other
pub last_one : (me : SeatState) (call : Call) (k : ℕ) (y : Slot) → IsAt me call ((k, y) ∷ []) → me.1 ≡ (k, y) ∷ rest me.1
last_one me call k y at = at.out ∙ sym (ap (λ (l : List (ℕ × Slot)). (k, y) ∷ rest l) at.out)

pub ends_at : (t : LaneTurn) (lane : End) (me : SeatState) → MayLeave t lane me → EndsAt t me lane
ends_at lane_turn.Sender lane me (ended, (caller, x, buffer, at)) = record {
  mover = mover_of me at.one;
  here = sym (first_place me (Sends lane (turn.Leaving caller ended) x buffer) ((sender_slot lane, Sender x) ∷ []) at (side_sends lane (turn.Leaving caller ended) x buffer (Sender x)));
  caller = caller;
  end = ended;
  side = x;
  buffer = buffer;
  call = at.in_call;
  slots = last_one me (Sends lane (turn.Leaving caller ended) x buffer) (sender_slot lane) (Sender x) at;
}
ends_at lane_turn.Receiver lane me (ended, (caller, x, buffer, message, at)) = record {
  mover = mover_of me at.one;
  here = sym (first_place me (Receives lane (turn.Leaving caller ended) x buffer message) ((receiver_slot lane, Receiver x) ∷ []) at (side_receives lane (turn.Leaving caller ended) x buffer message (Receiver x)));
  caller = caller;
  end = ended;
  side = x;
  buffer = buffer;
  message = message;
  call = at.in_call;
  slots = last_one me (Receives lane (turn.Leaving caller ended) x buffer message) (receiver_slot lane) (Receiver x) at;
}

-- the caller is in no call
abbrev pub rests_at : (me : SeatState) (who : CallerId) → IsAt me (Rests who.end) [] → (pass_in me).number ≡ who.number → RestsAt me who.end who.number
rests_at me who at number = record { mover = mover_of me at.one; here = sym (number_place me who.number at.one number); number = number; call = at.in_call }

module _ {D : Type 0} (coded : Coded D) (meaning : DeskMeaning D) where
  pub leaves : (t : LaneTurn) (lane : End) (me me' : SeatState) → MayLeave t lane me → LeavesTurn t me me' → IsRingStep coded meaning me me'
      → IsAt me' (Rests (end_with t lane)) [] × HasDone coded meaning (Step made.Left ∷ []) same_hands me me'
  leaves lane_turn.Sender lane me me' (ended, (caller, x, buffer, at)) told step =
      after_step coded meaning (λ p. noted made.Left (with_call p (send_or p.call (λ e t x b. Rests (other e)) p.call))) (rest me.1) [] me me' (place_of me) (Rests (other lane)) (Step made.Left ∷ []) same_hands at.one
      (first_place me (Sends lane (turn.Leaving caller ended) x buffer) ((sender_slot lane, Sender x) ∷ []) at (side_sends lane (turn.Leaving caller ended) x buffer (Sender x)))
      told (ap rest at.out) (record { in_call = ap (λ (c : Call). send_or c (λ e t x b. Rests (other e)) c) at.in_call; own = refl; number = refl; first = refl; in_hand = refl }) (stepped_once coded meaning made.Left me me' step)
  leaves lane_turn.Receiver lane me me' (ended, (caller, x, buffer, message, at)) told step =
      after_step coded meaning (λ p. noted made.Left (with_call p (receive_or p.call (λ e t x b m. Rests e) p.call))) (rest me.1) [] me me' (place_of me) (Rests lane) (Step made.Left ∷ []) same_hands at.one
      (first_place me (Receives lane (turn.Leaving caller ended) x buffer message) ((receiver_slot lane, Receiver x) ∷ []) at (side_receives lane (turn.Leaving caller ended) x buffer message (Receiver x)))
      told (ap rest at.out) (record { in_call = ap (λ (c : Call). receive_or c (λ e t x b m. Rests e) c) at.in_call; own = refl; number = refl; first = refl; in_hand = refl }) (stepped_once coded meaning made.Left me me' step)

  -- step 1 where the turn was free
  receiver_free : (who : CallerId) (first : Work) (me me' : SeatState) → IsAt me (Rests who.end) [] → (pass_in me).number ≡ who.number → TakesReceiver who.end who.number who.follows first me 0 me' → IsRingStep coded meaning me me'
      → HasReceiver who first me' × HasDone coded meaning (Step (made.Turn 0) ∷ []) same_hands me me'
  receiver_free who first me me' at number told step =
      let t = told.0 refl in let call : Call = receive_call who first t.0 0 [] in
      let all = after_step coded meaning (λ p. noted (made.Turn 0) (with_call p call)) ((receiver_slot who.end, Receiver t.0) ∷ me.1) ((receiver_slot who.end, Receiver t.0) ∷ []) me me' (place_of_number who.number me.0.passes) call (Step (made.Turn 0) ∷ []) same_hands at.one
      (number_place me who.number at.one number) t.3 (ap (λ (l : List (ℕ × Slot)). (receiver_slot who.end, Receiver t.0) ∷ l) at.out) (record { in_call = refl; own = refl; number = refl; first = refl; in_hand = refl }) (stepped_once coded meaning (made.Turn 0) me me' step) in
      ((t.0, t.1, t.2, all.0), all.1)

  turn_free : (who : CallerId) (w : Wish) (me me' : SeatState) → IsAt me (Rests who.end) [] → (pass_in me).number ≡ who.number → TakesTurn who.end who.number who.follows w me 0 me' → IsRingStep coded meaning me me'
      → HasBegun who w me' × HasDone coded meaning (Step (made.Turn 0) ∷ []) same_hands me me'
  turn_free who (wish.Send message) me me' at number told step =
      let t = told.0 refl in let call : Call = Sends (other who.end) (turn.Taken who.number (record { follows = who.follows; message = message; stage = stage.Turn })) t.0 0 in
      let all = after_step coded meaning (λ p. noted (made.Turn 0) (with_call p call)) ((sender_slot (other who.end), Sender t.0) ∷ me.1) ((sender_slot (other who.end), Sender t.0) ∷ []) me me' (place_of_number who.number me.0.passes) call (Step (made.Turn 0) ∷ []) same_hands at.one
      (number_place me who.number at.one number) t.2 (ap (λ (l : List (ℕ × Slot)). (sender_slot (other who.end), Sender t.0) ∷ l) at.out) (record { in_call = refl; own = refl; number = refl; first = refl; in_hand = refl }) (stepped_once coded meaning (made.Turn 0) me me' step) in
      ((t.0, t.1, all.0), all.1)
  turn_free who wish.Take me me' at number told step = receiver_free who (first_work wish.Take) me me' at number told step
  turn_free who (wish.Give held) me me' at number told step = receiver_free who (first_work (wish.Give held)) me me' at number told step
  turn_free who (wish.Bind address) me me' at number told step = receiver_free who (first_work (wish.Bind address)) me me' at number told step
  turn_free who (wish.Unbind address) me me' at number told step = receiver_free who (first_work (wish.Unbind address)) me me' at number told step

  -- and where it was another's
  stays : (who : CallerId) (n k : ℕ) (me me' : SeatState) → IsAt me (Rests who.end) [] → k ≡ 0 → Notes (made.Turn n) (λ p. p) k me.1 me me' → IsRingStep coded meaning me me'
      → IsAt me' (Rests who.end) [] × HasDone coded meaning (Step (made.Turn n) ∷ []) same_hands me me'
  stays who n k me me' at zero told step =
      after_step coded meaning (λ p. noted (made.Turn n) p) me.1 [] me me' k (Rests who.end) (Step (made.Turn n) ∷ []) same_hands at.one zero told at.out
      (record { in_call = at.in_call; own = refl; number = refl; first = refl; in_hand = refl }) (stepped_once coded meaning (made.Turn n) me me' step)

  turn_busy : (who : CallerId) (w : Wish) (n : ℕ) (me me' : SeatState) → IsAt me (Rests who.end) [] → place_of_number who.number me.0.passes ≡ 0 → TakesTurn who.end who.number who.follows w me n me' → n ≢ 0 → IsRingStep coded meaning me me'
      → IsAt me' (Rests who.end) [] × HasDone coded meaning (Step (made.Turn n) ∷ []) same_hands me me'
  turn_busy who (wish.Send message) n me me' at zero told busy step = stays who n (place_of_number who.number me.0.passes) me me' at zero (told.1 busy) step
  turn_busy who wish.Take n me me' at zero told busy step = stays who n (place_of_number who.number me.0.passes) me me' at zero (told.1 busy) step
  turn_busy who (wish.Give held) n me me' at zero told busy step = stays who n (place_of_number who.number me.0.passes) me me' at zero (told.1 busy) step
  turn_busy who (wish.Bind address) n me me' at zero told busy step = stays who n (place_of_number who.number me.0.passes) me me' at zero (told.1 busy) step
  turn_busy who (wish.Unbind address) n me me' at zero told busy step = stays who n (place_of_number who.number me.0.passes) me me' at zero (told.1 busy) step

  -- step 1, by what was found in the turn
  pub entered : (who : CallerId) (w : Wish) (n : ℕ) (me me' : SeatState) → IsAt me (Rests who.end) [] → (pass_in me).number ≡ who.number → TakesTurn who.end who.number who.follows w me n me' → n ≡ 0 → IsRingStep coded meaning me me'
      → HasBegun who w me' × HasDone coded meaning (Step (made.Turn 0) ∷ []) same_hands me me'
  entered who w n me me' at number told free step = turn_free who w me me' at number (subst (λ (k : ℕ). TakesTurn who.end who.number who.follows w me k me') free told) step

  pub refused : (who : CallerId) (w : Wish) (n holder : ℕ) (me me' : SeatState) → IsAt me (Rests who.end) [] → (pass_in me).number ≡ who.number → TakesTurn who.end who.number who.follows w me n me' → n ≢ 0 → n ≡ holder + 1 → IsRingStep coded meaning me me'
      → IsAt me' (Rests who.end) [] × HasDone coded meaning (Step (made.Turn (holder + 1)) ∷ []) same_hands me me'
  refused who w n holder me me' at number told busy is step = subst (λ (k : ℕ). IsAt me' (Rests who.end) [] × HasDone coded meaning (Step (made.Turn k) ∷ []) same_hands me me') is
      (turn_busy who w n me me' at (number_place me who.number at.one number) told busy step)
