-- The steps of a take, put together.
use Rattle.std.proofs.Common.{◌≡◌, ◌≢◌, ◌≤◌, inl, inr, ℕ, ◌++◌, List, [], ◌∷◌, length, refl, sym, ap, ◌∙◌, subst}
use Rattle.std.specs.Prelude.{Result, Ok, Err, IfOk}
use lib.ListN.{get_elem?}
use mathlib.Core.Option.{some}
use base.Stored.{Coded}
use Rattle.rp_base.specs.declared.kinds.Era.{Era}
use Rattle.lane_model.specs.declared.recoveries.LaneTurn.TheVariants as lane_turn
use Rattle.lane_model.specs.Desks.{DeskMeaning}
use Rattle.link_words.specs.declared.rule.Event.{Event}
use Rattle.link_words.specs.declared.rule.Event.TheVariants.{Step, Take}
use Rattle.link_words.specs.declared.rule.Made.TheVariants as made
use Rattle.link_words.specs.Calls.{SeatState}
use Rattle.split_ring.specs.declared.callers.CallerId.{CallerId}
use Rattle.split_ring.specs.declared.takes.TakeCall.{TakeCall}
use Rattle.split_ring.specs.declared.takes.Taken.{Taken}
use Rattle.split_ring.specs.declared.takes.TakeFault.{TakeFault}
use Rattle.split_ring.specs.declared.takes.TakeFault.TheVariants as fault
use Rattle.split_ring.specs.Receives.{message_look, IsTakeNotBelow, IsHandedTo, IsHeldBy, HasSettledTake, IsTake, hands_after}
use Rattle.split_ring.specs.Seats.{pass_in}
use Rattle.split_ring.specs.Sends.{live_era}
use Rattle.split_ring.specs.Turns.{IsLeaving}
use Rattle.split_ring.specs.Walks.{same_hands, one_more, HasStepped, HasDone}
use Rattle.link_words.specs.Histories.{seen}
use Rattle.split_ring.proofs.Seats.{done_then}
use Rattle.lane_model.specs.declared.calls.CallEnd.TheVariants as end

module _ {D : Type 0} (coded : Coded D) (meaning : DeskMeaning D) where
  -- the same, by the caller
  pub settled_as : (c : TakeCall) (who : CallerId) (answer : Result Taken TakeFault) (me me' : SeatState) → c.who ≡ who → HasSettledTake coded meaning c.who answer me me' → HasSettledTake coded meaning who answer me me'
  settled_as c who answer me me' same settled = subst (λ (w : CallerId). HasSettledTake coded meaning w answer me me') same settled

  pub dead_early : (c : TakeCall) (era : Era) (a b d : SeatState) → HasDone coded meaning [] same_hands a b
      → (era ≢ live_era c.who.follows) × IsLeaving lane_turn.Receiver c.who.end (end.Dead era) d × HasDone coded meaning (Step (made.Era era) ∷ []) same_hands b d
      → HasSettledTake coded meaning c.who (Err (fault.Dead era)) a d
  dead_early c era a b d begun dead = record {
    leaves = (end.Dead era, dead.1);
    steps = Step (made.Era era) ∷ [];
    is = (inl refl, dead.0);
    done = done_then coded meaning (Step (made.Era era) ∷ []) [] same_hands same_hands a b d begun dead.2;
  }

  -- up to the look
  looked : (c : TakeCall) (handed accepted : ℕ) (a b d e : SeatState) → HasDone coded meaning [] same_hands a b → HasDone coded meaning (Step (made.Era (live_era c.who.follows)) ∷ []) same_hands b d
      → HasDone coded meaning (message_look c.who handed accepted ∷ []) same_hands d e
      → HasDone coded meaning (message_look c.who handed accepted ∷ Step (made.Era (live_era c.who.follows)) ∷ []) same_hands a e
  looked c handed accepted a b d e begun live look =
      done_then coded meaning (message_look c.who handed accepted ∷ []) (Step (made.Era (live_era c.who.follows)) ∷ []) same_hands same_hands a d e
      (done_then coded meaning (Step (made.Era (live_era c.who.follows)) ∷ []) [] same_hands same_hands a b d begun live) look

  pub empty : (c : TakeCall) (accepted : ℕ) (a b d e : SeatState) → HasDone coded meaning [] same_hands a b → HasDone coded meaning (Step (made.Era (live_era c.who.follows)) ∷ []) same_hands b d
      → (accepted ≡ c.handed) × IsLeaving lane_turn.Receiver c.who.end (end.Empty accepted) e × HasDone coded meaning (message_look c.who accepted accepted ∷ []) same_hands d e
      → HasSettledTake coded meaning c.who (Err (fault.Empty accepted)) a e
  empty c accepted a b d e begun live none = record {
    leaves = (end.Empty accepted, none.1);
    steps = message_look c.who accepted accepted ∷ Step (made.Era (live_era c.who.follows)) ∷ [];
    is = refl;
    done = looked c accepted accepted a b d e begun live none.2;
  }

  -- up to the buffer
  filled : (c : TakeCall) (buffer accepted : ℕ) (a b d e f : SeatState) → HasDone coded meaning [] same_hands a b → HasDone coded meaning (Step (made.Era (live_era c.who.follows)) ∷ []) same_hands b d
      → HasDone coded meaning (message_look c.who c.handed accepted ∷ []) same_hands d e → HasDone coded meaning (Step (made.Buffer buffer) ∷ []) same_hands e f
      → HasDone coded meaning (Step (made.Buffer buffer) ∷ message_look c.who c.handed accepted ∷ Step (made.Era (live_era c.who.follows)) ∷ []) same_hands a f
  filled c buffer accepted a b d e f begun live look out =
      done_then coded meaning (Step (made.Buffer buffer) ∷ []) (message_look c.who c.handed accepted ∷ Step (made.Era (live_era c.who.follows)) ∷ []) same_hands same_hands a e f (looked c c.handed accepted a b d e begun live look) out

  pub dead_late : (c : TakeCall) (buffer : ℕ) (era : Era) (a b d e f h : SeatState) → HasDone coded meaning [] same_hands a b → HasDone coded meaning (Step (made.Era (live_era c.who.follows)) ∷ []) same_hands b d
      → (accepted : ℕ) × HasDone coded meaning (message_look c.who c.handed accepted ∷ []) same_hands d e → HasDone coded meaning (Step (made.Buffer buffer) ∷ []) same_hands e f
      → IsLeaving lane_turn.Receiver c.who.end (end.Dead era) h → (era ≢ live_era c.who.follows) × HasDone coded meaning (Step (made.Era era) ∷ []) same_hands f h
      → HasSettledTake coded meaning c.who (Err (fault.Dead era)) a h
  dead_late c buffer era a b d e f h begun live look out leaves dead =
      let upto : List Event = Step (made.Buffer buffer) ∷ message_look c.who c.handed look.0 ∷ Step (made.Era (live_era c.who.follows)) ∷ [] in record {
        leaves = (end.Dead era, leaves);
        steps = Step (made.Era era) ∷ upto;
        is = (inr (buffer, c.handed, look.0, refl), dead.0);
        done = done_then coded meaning (Step (made.Era era) ∷ []) upto same_hands same_hands a f h (filled c buffer look.0 a b d e f begun live look.1 out) dead.1;
      }

  pub handed : (c : TakeCall) (buffer : ℕ) (taken : Taken) (a b d e f h : SeatState) → HasDone coded meaning [] same_hands a b → HasDone coded meaning (Step (made.Era (live_era c.who.follows)) ∷ []) same_hands b d
      → (accepted : ℕ) × HasDone coded meaning (message_look c.who c.handed accepted ∷ []) same_hands d e → HasDone coded meaning (Step (made.Buffer buffer) ∷ []) same_hands e f
      → IsLeaving lane_turn.Receiver c.who.end (end.Took c.handed taken.verdict) h → (message : List ℕ) × IsHandedTo meaning c.who c.handed message taken
      × HasDone coded meaning (Step (made.Era (live_era c.who.follows)) ∷ Take c.who.end c.who.follows c.handed message ∷ []) (one_more c.handed) f h
      → HasSettledTake coded meaning c.who (Ok taken) a h
  handed c buffer taken a b d e f h begun live look out leaves took =
      let upto : List Event = Step (made.Buffer buffer) ∷ message_look c.who c.handed look.0 ∷ Step (made.Era (live_era c.who.follows)) ∷ [] in
      let last : List Event = Step (made.Era (live_era c.who.follows)) ∷ Take c.who.end c.who.follows c.handed took.0 ∷ [] in record {
        leaves = (end.Took c.handed taken.verdict, leaves);
        steps = last ++ upto;
        is = (c.handed, took.0, buffer, look.0, took.1, refl);
        done = subst (λ (k : ℕ). HasDone coded meaning (last ++ upto) (one_more k) a h) (sym took.1.numbered)
            (done_then coded meaning last upto (one_more c.handed) same_hands a f h (filled c buffer look.0 a b d e f begun live look.1 out) took.2);
      }

  -- with its first and its last step
  pub takes_whole : (who : CallerId) (answer : Result Taken TakeFault) (a b d e : SeatState) → HasDone coded meaning (Step (made.Turn 0) ∷ []) same_hands a b
      → HasSettledTake coded meaning who answer b d → HasDone coded meaning (Step made.Left ∷ []) same_hands d e → IsTake coded meaning who answer a e
  takes_whole who answer a b d e entered settled left = record {
    walk = Step made.Left ∷ (settled.steps ++ Step (made.Turn 0) ∷ []);
    is = settled.is;
    done = done_then coded meaning (Step made.Left ∷ []) (settled.steps ++ Step (made.Turn 0) ∷ []) same_hands (hands_after answer) a d e
        (done_then coded meaning settled.steps (Step (made.Turn 0) ∷ []) (hands_after answer) same_hands a b d entered settled.done) left;
  }

-- its answer tells no count that is below what the caller had seen
pub take_seen : {D : Type 0} (coded : Coded D) (meaning : DeskMeaning D) (who : CallerId) (answer : Result Taken TakeFault) (me me' : SeatState) → IsTake coded meaning who answer me me' → IsTakeNotBelow (seen who.end who.follows (pass_in me).own) answer
take_seen coded meaning who (Err (fault.Busy holder)) me me' take = tt
take_seen coded meaning who (Err (fault.Dead era)) me me' take = tt
take_seen coded meaning who (Err (fault.Empty accepted)) me me' take =
    (subst (λ (walk : List Event). HasStepped coded meaning walk me me') take.is take.done.stepped).2.5.not_below
take_seen coded meaning who (Ok taken) me me' take =
    let number = take.is.0 in let walked = subst (λ (walk : List Event). HasStepped coded meaning walk me me') take.is.5 take.done.stepped in
    subst (λ (k : ℕ). (seen who.end who.follows (pass_in me).own).handed ≤ k) (sym take.is.4.numbered) walked.2.2.2.5.not_below.0

last_of : (xs : List ℕ) (n : ℕ) → get_elem? (xs ++ n ∷ []) (length xs) ≡ some n
last_of [] n = refl
last_of (x ∷ xs) n = last_of xs n

-- what was handed over is in hand
pub in_hand : {D : Type 0} (coded : Coded D) (meaning : DeskMeaning D) (who : CallerId) (answer : Result Taken TakeFault) (me me' : SeatState) → IsTake coded meaning who answer me me' → IfOk answer (λ taken. IsHeldBy who taken.held me')
in_hand coded meaning who (Err fault) me me' take = tt
in_hand coded meaning who (Ok taken) me me' take = record {
  lane = take.is.4.lane;
  caller = take.is.4.caller;
  numbered = (length (pass_in me).hands, ap (λ (l : List ℕ). get_elem? l (length (pass_in me).hands)) take.done.in_hand ∙ last_of (pass_in me).hands taken.held.number);
}
