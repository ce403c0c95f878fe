-- The steps of a send, put together.
use Rattle.std.proofs.Common.{◌≡◌, ◌≢◌, ℕ, ◌++◌, List, [], ◌∷◌, refl, sym, subst}
use Rattle.std.specs.Prelude.{Result, Ok, Err}
use base.Stored.{Coded}
use Rattle.rp_base.specs.declared.kinds.Era.{Era}
use Rattle.lane_model.specs.declared.calls.CallEnd.{CallEnd}
use Rattle.lane_model.specs.declared.recoveries.LaneTurn.TheVariants as lane_turn
use Rattle.lane_model.specs.Desks.{DeskMeaning}
use Rattle.link_words.specs.declared.rule.Event.{Event}
use Rattle.link_words.specs.declared.rule.Event.TheVariants.{Step, Publish}
use Rattle.link_words.specs.declared.rule.LinkSizes.{LinkSizes}
use Rattle.link_words.specs.declared.rule.Made.TheVariants as made
use Rattle.link_words.specs.Calls.{SeatState}
use Rattle.link_words.specs.Words.{other}
use Rattle.split_ring.specs.declared.callers.CallerId.{CallerId}
use Rattle.split_ring.specs.declared.sends.SendCall.{SendCall}
use Rattle.split_ring.specs.declared.sends.SendFault.{SendFault}
use Rattle.split_ring.specs.declared.sends.SendFault.TheVariants as fault
use Rattle.split_ring.specs.Sends.{live_era, room_look, HasNoRoom, HasSettled, IsSend, IsSendNotBelow}
use Rattle.split_ring.specs.Turns.{IsLeaving}
use Rattle.split_ring.specs.Walks.{same_hands, HasStepped, HasDone}
use Rattle.split_ring.specs.Seats.{pass_in}
use Rattle.link_words.specs.Histories.{seen}
use Rattle.split_ring.proofs.Seats.{done_then}
use Rattle.lane_model.specs.declared.calls.CallEnd.TheVariants as end

module _ {D : Type 0} (coded : Coded D) (meaning : DeskMeaning D) where
  -- the same, by the caller and the message
  pub settled_as : (z : LinkSizes) (c : SendCall) (who : CallerId) (message : List ℕ) (answer : Result ℕ SendFault) (me me' : SeatState) → c.who ≡ who → c.message.value ≡ message
      → HasSettled coded meaning z c.who c.message.value answer me me' → HasSettled coded meaning z who message answer me me'
  settled_as z c who message answer me me' same said settled =
      subst (λ (m : List ℕ). HasSettled coded meaning z who m answer me me') said (subst (λ (w : CallerId). HasSettled coded meaning z w c.message.value answer me me') same settled)

  pub settled_dead : (z : LinkSizes) (c : SendCall) (era : Era) (a b d : SeatState) → HasDone coded meaning [] same_hands a b
      → (era ≢ live_era c.who.follows) × IsLeaving lane_turn.Sender (other c.who.end) (end.Dead era) d × HasDone coded meaning (Step (made.Era era) ∷ []) same_hands b d
      → HasSettled coded meaning z c.who c.message.value (Err (fault.Dead era)) a d
  settled_dead z c era a b d begun dead = record {
    leaves = (end.Dead era, dead.1);
    steps = Step (made.Era era) ∷ [];
    is = (refl, dead.0);
    done = done_then coded meaning (Step (made.Era era) ∷ []) [] same_hands same_hands a b d begun dead.2;
  }

  -- up to the look
  looked : (c : SendCall) (returned : ℕ) (a b d e : SeatState) → HasDone coded meaning [] same_hands a b → HasDone coded meaning (Step (made.Era (live_era c.who.follows)) ∷ []) same_hands b d
      → HasDone coded meaning (room_look c.who c.accepted returned ∷ []) same_hands d e
      → HasDone coded meaning (room_look c.who c.accepted returned ∷ Step (made.Era (live_era c.who.follows)) ∷ []) same_hands a e
  looked c returned a b d e begun live room =
      done_then coded meaning (room_look c.who c.accepted returned ∷ []) (Step (made.Era (live_era c.who.follows)) ∷ []) same_hands same_hands a d e
      (done_then coded meaning (Step (made.Era (live_era c.who.follows)) ∷ []) [] same_hands same_hands a b d begun live) room

  pub settled_none : (z : LinkSizes) (c : SendCall) (found : SendFault) (returned : ℕ) (ended : CallEnd) (a e : SeatState) → HasNoRoom z c returned found ended → IsLeaving lane_turn.Sender (other c.who.end) ended e
      → HasDone coded meaning (room_look c.who c.accepted returned ∷ Step (made.Era (live_era c.who.follows)) ∷ []) same_hands a e
      → HasSettled coded meaning z c.who c.message.value (Err found) a e
  settled_none z c (fault.Busy holder) returned ended a e none leaves done = absurd none
  settled_none z c (fault.Dead era) returned ended a e none leaves done = absurd none
  settled_none z c (fault.NoBuffer accepted back) returned ended a e none leaves done = record {
    leaves = (ended, leaves);
    steps = room_look c.who c.accepted returned ∷ Step (made.Era (live_era c.who.follows)) ∷ [];
    is = ((λ i. Step made.Left ∷ room_look c.who (sym none.0 i) (sym none.1 i) ∷ Step (made.Era (live_era c.who.follows)) ∷ Step (made.Turn 0) ∷ []), none.3);
    done = done;
  }
  settled_none z c (fault.BookFull accepted) returned ended a e none leaves done = record {
    leaves = (ended, leaves);
    steps = room_look c.who c.accepted returned ∷ Step (made.Era (live_era c.who.follows)) ∷ [];
    is = (returned, (λ i. Step made.Left ∷ room_look c.who (sym none.0 i) returned ∷ Step (made.Era (live_era c.who.follows)) ∷ Step (made.Turn 0) ∷ []), none.2, none.3);
    done = done;
  }

  pub settled_unmet : (z : LinkSizes) (c : SendCall) (found : SendFault) (a b d e : SeatState) → HasDone coded meaning [] same_hands a b → HasDone coded meaning (Step (made.Era (live_era c.who.follows)) ∷ []) same_hands b d
      → (returned : ℕ) × (ended : CallEnd) × HasNoRoom z c returned found ended × IsLeaving lane_turn.Sender (other c.who.end) ended e × HasDone coded meaning (room_look c.who c.accepted returned ∷ []) same_hands d e
      → HasSettled coded meaning z c.who c.message.value (Err found) a e
  settled_unmet z c found a b d e begun live none = settled_none z c found none.0 none.1 a e none.2 none.3 (looked c none.0 a b d e begun live none.4)

  pub settled_sent : (z : LinkSizes) (c : SendCall) (buffer : ℕ) (a b d e f h k : SeatState) → HasDone coded meaning [] same_hands a b → HasDone coded meaning (Step (made.Era (live_era c.who.follows)) ∷ []) same_hands b d
      → (returned : ℕ) × HasDone coded meaning (room_look c.who c.accepted returned ∷ []) same_hands d e → HasDone coded meaning (Step (made.Buffer buffer) ∷ []) same_hands e f
      → HasDone coded meaning (Step made.Entry ∷ []) same_hands f h → IsLeaving lane_turn.Sender (other c.who.end) (end.Sent c.accepted) k
      → HasDone coded meaning (Publish (other c.who.end) c.who.follows c.accepted c.message.value ∷ []) same_hands h k
      → HasSettled coded meaning z c.who c.message.value (Ok c.accepted) a k
  settled_sent z c buffer a b d e f h k begun live room out entry leaves published =
      let look = looked c room.0 a b d e begun live room.1 in
      let upto : List Event = room_look c.who c.accepted room.0 ∷ Step (made.Era (live_era c.who.follows)) ∷ [] in
      record {
        leaves = (end.Sent c.accepted, leaves);
        steps = Publish (other c.who.end) c.who.follows c.accepted c.message.value ∷ Step made.Entry ∷ Step (made.Buffer buffer) ∷ upto;
        is = (room.0, buffer, refl);
        done = done_then coded meaning (Publish (other c.who.end) c.who.follows c.accepted c.message.value ∷ []) (Step made.Entry ∷ Step (made.Buffer buffer) ∷ upto) same_hands same_hands a h k
            (done_then coded meaning (Step made.Entry ∷ []) (Step (made.Buffer buffer) ∷ upto) same_hands same_hands a f h
            (done_then coded meaning (Step (made.Buffer buffer) ∷ []) upto same_hands same_hands a e f look out) entry) published;
      }

  -- with its first and its last step
  pub sends_whole : (z : LinkSizes) (who : CallerId) (message : List ℕ) (answer : Result ℕ SendFault) (a b d e : SeatState) → HasDone coded meaning (Step (made.Turn 0) ∷ []) same_hands a b
      → HasSettled coded meaning z who message answer b d → HasDone coded meaning (Step made.Left ∷ []) same_hands d e → IsSend coded meaning z who message answer a e
  sends_whole z who message answer a b d e entered settled left = record {
    walk = Step made.Left ∷ (settled.steps ++ Step (made.Turn 0) ∷ []);
    is = settled.is;
    done = done_then coded meaning (Step made.Left ∷ []) (settled.steps ++ Step (made.Turn 0) ∷ []) same_hands same_hands a d e
        (done_then coded meaning settled.steps (Step (made.Turn 0) ∷ []) same_hands same_hands a b d entered settled.done) left;
  }

  -- its answer tells no count that is below what the caller had seen
  pub send_seen : (z : LinkSizes) (who : CallerId) (message : List ℕ) (answer : Result ℕ SendFault) (me me' : SeatState) → IsSend coded meaning z who message answer me me' → IsSendNotBelow (seen (other who.end) who.follows (pass_in me).own) answer
  send_seen z who message (Err (fault.Busy holder)) me me' send = tt
  send_seen z who message (Err (fault.Dead era)) me me' send = tt
  send_seen z who message (Err (fault.NoBuffer accepted returned)) me me' send =
      (subst (λ (walk : List Event). HasStepped coded meaning walk me me') send.is.0 send.done.stepped).2.5.not_below
  send_seen z who message (Err (fault.BookFull accepted)) me me' send =
      (subst (λ (walk : List Event). HasStepped coded meaning walk me me') send.is.1 send.done.stepped).2.5.not_below.0
  send_seen z who message (Ok number) me me' send =
      (subst (λ (walk : List Event). HasStepped coded meaning walk me me') send.is.2 send.done.stepped).2.2.2.2.5.not_below.0
