-- Tries that were answered Busy, and the call behind them.
use Rattle.std.proofs.Common.{◌≡◌, ℕ, ◌++◌, List, [], ◌∷◌, true, false, refl, sym, ap, ◌∙◌, subst}
use Rattle.std.specs.Prelude.{Result, Ok, Err}
use base.Stored.{Coded}
use Rattle.rp_base.specs.declared.kinds.End.{End}
use Rattle.lane_model.specs.Desks.{DeskMeaning}
use Rattle.link_words.specs.declared.rule.Event.{Event}
use Rattle.link_words.specs.declared.rule.LinkSizes.{LinkSizes}
use Rattle.link_words.specs.Calls.{SeatState}
use Rattle.link_words.specs.Histories.{LaneCounts, seen}
use Rattle.link_words.specs.Words.{other}
use Rattle.split_ring.specs.Receives.{IsTake, IsTakeNotBelow, IsTakeWalk, hands_after}
use Rattle.split_ring.specs.Seats.{pass_in}
use Rattle.split_ring.specs.Sends.{IsSend, IsSendNotBelow, IsSendWalk}
use Rattle.split_ring.specs.Waits.{AreBusyTries, is_send_busy, is_take_busy, IsWaitingSend, IsWaitingTake}
use Rattle.split_ring.specs.Walks.{HasDone, same_hands}
use Rattle.split_ring.specs.declared.callers.CallerId.{CallerId}
use Rattle.split_ring.specs.declared.sends.SendFault.{SendFault}
use Rattle.split_ring.specs.declared.sends.SendFault.TheVariants as fault
use Rattle.split_ring.specs.declared.takes.Taken.{Taken}
use Rattle.split_ring.specs.declared.takes.TakeFault.{TakeFault}
use Rattle.split_ring.specs.declared.takes.TakeFault.TheVariants as take_fault
use Rattle.split_ring.proofs.Seats.{done_then, still}

-- a try that was answered Busy read no count
busy_seen : (e : End) (inc : ℕ) (busy own : List Event) → AreBusyTries busy → seen e inc (busy ++ own) ≡ seen e inc own
busy_seen e inc [] own tries = refl
busy_seen e inc (x ∷ busy) own tries = ap (λ (y : Event). seen e inc (y ∷ (busy ++ own))) tries.0.1 ∙ busy_seen e inc busy own tries.1

module _ {D : Type 0} (coded : Coded D) (meaning : DeskMeaning D) where
  -- the seat made tries alone that were answered Busy
  pub record HasTried (me me' : SeatState) : Type 0 where
    pub busy : List Event
    pub tries : AreBusyTries busy
    pub done : HasDone coded meaning busy same_hands me me'

  pub none_tried : (me : SeatState) → HasTried me me
  none_tried me = record { busy = []; tries = tt; done = still coded meaning me me refl }

  pub send_tried : (z : LinkSizes) (who : CallerId) (message : List ℕ) (answer : Result ℕ SendFault) (a b c : SeatState) → HasTried a b → IsSend coded meaning z who message answer b c → is_send_busy answer ≡ true → HasTried a c
  send_tried z who message (Err (fault.Busy holder)) a b c before send busy = record {
    busy = send.walk ++ before.busy;
    tries = subst (λ (walk : List Event). AreBusyTries (walk ++ before.busy)) (sym send.is) ((holder, refl), before.tries);
    done = done_then coded meaning send.walk before.busy same_hands same_hands a b c before.done send.done;
  }
  send_tried z who message (Ok number) a b c before send busy = let wrong : false ≡ true = busy in absurd (cc)
  send_tried z who message (Err (fault.Dead era)) a b c before send busy = let wrong : false ≡ true = busy in absurd (cc)
  send_tried z who message (Err (fault.NoBuffer accepted returned)) a b c before send busy = let wrong : false ≡ true = busy in absurd (cc)
  send_tried z who message (Err (fault.BookFull accepted)) a b c before send busy = let wrong : false ≡ true = busy in absurd (cc)

  pub take_tried : (who : CallerId) (answer : Result Taken TakeFault) (a b c : SeatState) → HasTried a b → IsTake coded meaning who answer b c → is_take_busy answer ≡ true → HasTried a c
  take_tried who (Err (take_fault.Busy holder)) a b c before take busy = record {
    busy = take.walk ++ before.busy;
    tries = subst (λ (walk : List Event). AreBusyTries (walk ++ before.busy)) (sym take.is) ((holder, refl), before.tries);
    done = done_then coded meaning take.walk before.busy same_hands same_hands a b c before.done take.done;
  }
  take_tried who (Ok taken) a b c before take busy = let wrong : false ≡ true = busy in absurd (cc)
  take_tried who (Err (take_fault.Dead era)) a b c before take busy = let wrong : false ≡ true = busy in absurd (cc)
  take_tried who (Err (take_fault.Empty accepted)) a b c before take busy = let wrong : false ≡ true = busy in absurd (cc)

  pub send_waited : (z : LinkSizes) (who now : CallerId) (message : List ℕ) (answer : Result ℕ SendFault) (a b c : SeatState) → now ≡ who → HasTried a b → IsSend coded meaning z now message answer b c
      → is_send_busy answer ≡ false → IsWaitingSend coded meaning z who message answer a c
  send_waited z who now message answer a b c same before send served = record {
    busy = before.busy;
    tries = before.tries;
    walk = send.walk;
    is = subst (λ (w : CallerId). IsSendWalk z w message answer send.walk) same send.is;
    served = served;
    done = done_then coded meaning send.walk before.busy same_hands same_hands a b c before.done send.done;
  }

  pub take_waited : (who now : CallerId) (answer : Result Taken TakeFault) (a b c : SeatState) → now ≡ who → HasTried a b → IsTake coded meaning now answer b c → is_take_busy answer ≡ false
      → IsWaitingTake coded meaning who answer a c
  take_waited who now answer a b c same before take served = record {
    busy = before.busy;
    tries = before.tries;
    walk = take.walk;
    is = subst (λ (w : CallerId). IsTakeWalk meaning w answer take.walk) same take.is;
    served = served;
    done = done_then coded meaning take.walk before.busy (hands_after answer) same_hands a b c before.done take.done;
  }

  -- what was seen before these tries was seen before the first of them
  tried_seen : (e : End) (inc : ℕ) (a b : SeatState) → HasTried a b → seen e inc (pass_in b).own ≡ seen e inc (pass_in a).own
  tried_seen e inc a b before = ap (λ (own : List Event). seen e inc own) before.done.own ∙ busy_seen e inc before.busy (pass_in a).own before.tries

  pub send_waited_seen : (who now : CallerId) (answer : Result ℕ SendFault) (a b : SeatState) → now ≡ who → HasTried a b → IsSendNotBelow (seen (other now.end) now.follows (pass_in b).own) answer
      → IsSendNotBelow (seen (other who.end) who.follows (pass_in a).own) answer
  send_waited_seen who now answer a b same before told =
      subst (λ (had : LaneCounts). IsSendNotBelow had answer) (ap (λ (w : CallerId). seen (other w.end) w.follows (pass_in b).own) same ∙ tried_seen (other who.end) who.follows a b before) told

  pub take_waited_seen : (who now : CallerId) (answer : Result Taken TakeFault) (a b : SeatState) → now ≡ who → HasTried a b → IsTakeNotBelow (seen now.end now.follows (pass_in b).own) answer
      → IsTakeNotBelow (seen who.end who.follows (pass_in a).own) answer
  take_waited_seen who now answer a b same before told =
      subst (λ (had : LaneCounts). IsTakeNotBelow had answer) (ap (λ (w : CallerId). seen w.end w.follows (pass_in b).own) same ∙ tried_seen who.end who.follows a b before) told
