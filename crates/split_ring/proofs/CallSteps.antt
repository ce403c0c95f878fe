-- One step of a send or a take that is taken step by step.
use Rattle.std.proofs.Common.{◌≡◌, ◌≢◌, inl, inr, ℕ, ◌+◌, List, [], ◌∷◌, refl, sym, ap, ◌∙◌, subst}
use Rattle.std.specs.Prelude.{Ok, Err}
use base.Stored.{Coded}
use Rattle.rp_base.specs.declared.kinds.Era.{Era}
use Rattle.lane_model.specs.declared.calls.Answer.TheVariants as answer
use Rattle.lane_model.specs.declared.calls.Ask.{Ask}
use Rattle.lane_model.specs.declared.calls.Ask.TheVariants as ask
use Rattle.lane_model.specs.declared.calls.CallEnd.{CallEnd}
use Rattle.lane_model.specs.declared.calls.CallEnd.TheVariants as end
use Rattle.lane_model.specs.declared.calls.Progress.TheVariants as progress
use Rattle.lane_model.specs.declared.recoveries.LaneTurn.TheVariants as lane_turn
use Rattle.lane_model.specs.declared.stages.SendStage.{SendStage}
use Rattle.lane_model.specs.declared.stages.SendStage.TheVariants as stage
use Rattle.lane_model.specs.declared.stages.TakeStage.{TakeStage}
use Rattle.lane_model.specs.declared.stages.TakeStage.TheVariants as take_stage
use Rattle.lane_model.specs.declared.stages.Work.TheVariants as work
use Rattle.lane_model.specs.Desks.{DeskMeaning}
use Rattle.link_words.specs.declared.rule.Event.{Event}
use Rattle.link_words.specs.declared.rule.Event.TheVariants.{Step, Publish, Take}
use Rattle.link_words.specs.declared.rule.LinkSizes.{LinkSizes}
use Rattle.link_words.specs.declared.rule.Made.TheVariants as made
use Rattle.link_words.specs.declared.rule.Slot.{Slot}
use Rattle.link_words.specs.declared.rule.Slot.TheVariants.{Buffer}
use Rattle.link_words.specs.Calls.{SeatState}
use Rattle.link_words.specs.Words.{other}
use Rattle.split_ring.specs.declared.callers.CallerId.{CallerId}
use Rattle.split_ring.specs.CallPhases.{Phase}
use Rattle.split_ring.specs.CallPhases as phase
use Rattle.split_ring.specs.declared.sends.SendCall.{SendCall}
use Rattle.split_ring.specs.declared.sends.SendFault.{SendFault}
use Rattle.split_ring.specs.declared.sends.SendFault.TheVariants as fault
use Rattle.split_ring.specs.declared.takes.Taken.{Taken}
use Rattle.split_ring.specs.declared.takes.TakeCall.{TakeCall}
use Rattle.split_ring.specs.declared.takes.TakeFault.TheVariants as take_fault
use Rattle.split_ring.specs.Calls.{count_steps, call_end, send_answer, hands_with, IsInPhase, IsWalkFor, Advances}
use Rattle.split_ring.specs.Receives.{IsTakeAt, HasBufferOut, message_look, IsHandedTo}
use Rattle.split_ring.specs.Sends.{live_era, room_look, IsSendAt, IsFilledAt, HasNoRoom}
use Rattle.split_ring.specs.Turns.{IsLeaving}
use Rattle.split_ring.specs.Walks.{same_hands, one_more, HasDone}
use Rattle.split_ring.proofs.Seats.{done_then}
use Rattle.split_ring.specs.Focus.{seat_of}
use Rattle.split_ring.specs.Phases.{send_steps, take_steps}

module _ {D : Type 0} (coded : Coded D) (meaning : DeskMeaning D) (z : LinkSizes) where
  -- one step more
  pub and_then : (e : Event) (steps : List Event) (a b d : SeatState) → HasDone coded meaning steps same_hands a b → HasDone coded meaning (e ∷ []) same_hands b d → HasDone coded meaning (e ∷ steps) same_hands a d
  and_then e steps a b d first then = done_then coded meaning (e ∷ []) steps same_hands same_hands a b d first then

  -- how many steps there are, by the entries
  pub counted : (e : Event) (steps known : List Event) → steps ≡ known → count_steps (e ∷ known) ≡ count_steps (e ∷ steps)
  counted e steps known is = sym (ap (λ (l : List Event). count_steps (e ∷ l)) is)

  -- a send, at its second step
  pub send_live : (c : SendCall) (m : List ℕ) (me me' : SeatState) → c.message.value ≡ m → IsSendAt c stage.Era me' × HasDone coded meaning (Step (made.Era (live_era c.who.follows)) ∷ []) same_hands me me'
      → Advances coded meaning z c.who (phase.Sends stage.Turn c m) (progress.At 2) (phase.Sends stage.Era c m) me me'
  send_live c m me me' said live = let e : Event = Step (made.Era (live_era c.who.follows)) in record {
    events = e ∷ [];
    hands = same_hands;
    one = refl;
    done = live.1;
    stands = (live.0, refl, said);
    comes = λ asked start h. (
      record { steps = e ∷ h.steps; path = (h.path.0, ap (λ (l : List Event). e ∷ l) h.path.1); done = and_then e h.steps start me me' h.done live.1 },
      counted e h.steps _ h.path.1,
    );
  }

  pub send_dead : (c : SendCall) (m : List ℕ) (era : Era) (me me' : SeatState) → (era ≢ live_era c.who.follows) × IsLeaving lane_turn.Sender (other c.who.end) (end.Dead era) me' × HasDone coded meaning (Step (made.Era era) ∷ []) same_hands me me'
      → Advances coded meaning z c.who (phase.Sends stage.Turn c m) (progress.At 2) (phase.LeavesSender (answer.Dead era)) me me'
  send_dead c m era me me' dead = let e : Event = Step (made.Era era) in record {
    events = e ∷ [];
    hands = same_hands;
    one = refl;
    done = dead.2;
    stands = dead.1;
    comes = λ asked start h. (
      record {
        steps = e ∷ h.steps;
        path = subst (λ (a : Ask). IsWalkFor coded meaning z c.who a (answer.Dead era) (Step made.Left ∷ e ∷ h.steps) [] start me') (sym h.path.0) (Err (fault.Dead era), refl, (ap (λ (l : List Event). Step made.Left ∷ e ∷ l) h.path.1, dead.0));
        done = and_then e h.steps start me me' h.done dead.2;
      },
      counted e h.steps _ h.path.1,
    );
  }

  -- at its third
  pub send_room : (c : SendCall) (m : List ℕ) (me me' : SeatState) → c.message.value ≡ m → IsSendAt c stage.Look me' × ((returned : ℕ) × HasDone coded meaning (room_look c.who c.accepted returned ∷ []) same_hands me me')
      → Advances coded meaning z c.who (phase.Sends stage.Era c m) (progress.At 3) (phase.Sends stage.Look c m) me me'
  send_room c m me me' said room = let e : Event = room_look c.who c.accepted room.1.0 in record {
    events = e ∷ [];
    hands = same_hands;
    one = refl;
    done = room.1.1;
    stands = (room.0, refl, said);
    comes = λ asked start h. (
      record { steps = e ∷ h.steps; path = (h.path.0, (room.1.0, ap (λ (l : List Event). e ∷ l) h.path.1)); done = and_then e h.steps start me me' h.done room.1.1 },
      counted e h.steps _ h.path.1,
    );
  }

  none_walk : (c : SendCall) (found : SendFault) (returned : ℕ) (ended : CallEnd) (steps : List Event) (start me' : SeatState) → HasNoRoom z c returned found ended → steps ≡ Step (made.Era (live_era c.who.follows)) ∷ Step (made.Turn 0) ∷ []
      → IsWalkFor coded meaning z c.who (ask.Send c.message.value) (send_answer (Err found)) (Step made.Left ∷ room_look c.who c.accepted returned ∷ steps) [] start me'
  none_walk c (fault.Busy holder) returned ended steps start me' none is = absurd none
  none_walk c (fault.Dead era) returned ended steps start me' none is = absurd none
  none_walk c (fault.NoBuffer accepted back) returned ended steps start me' none is = (Err (fault.NoBuffer accepted back), refl, ((λ i. Step made.Left ∷ room_look c.who (sym none.0 i) (sym none.1 i) ∷ is i), none.3))
  none_walk c (fault.BookFull accepted) returned ended steps start me' none is = (Err (fault.BookFull accepted), refl, (returned, (λ i. Step made.Left ∷ room_look c.who (sym none.0 i) returned ∷ is i), none.2, none.3))

  none_end : (c : SendCall) (found : SendFault) (returned : ℕ) (ended : CallEnd) → HasNoRoom z c returned found ended → ended ≡ call_end (send_answer (Err found))
  none_end c (fault.Busy holder) returned ended none = absurd none
  none_end c (fault.Dead era) returned ended none = absurd none
  none_end c (fault.NoBuffer accepted back) returned ended none = none.2
  none_end c (fault.BookFull accepted) returned ended none = none.1

  none_hands : (found : SendFault) → hands_with (send_answer (Err found)) ≡ same_hands
  none_hands (fault.Busy holder) = refl
  none_hands (fault.Dead era) = refl
  none_hands (fault.NoBuffer accepted back) = refl
  none_hands (fault.BookFull accepted) = refl

  pub send_none : (c : SendCall) (m : List ℕ) (found : SendFault) (me me' : SeatState)
      → (returned : ℕ) × (ended : CallEnd) × HasNoRoom z c returned found ended × IsLeaving lane_turn.Sender (other c.who.end) ended me' × HasDone coded meaning (room_look c.who c.accepted returned ∷ []) same_hands me me'
      → Advances coded meaning z c.who (phase.Sends stage.Era c m) (progress.At 3) (phase.LeavesSender (send_answer (Err found))) me me'
  send_none c m found me me' none = let e : Event = room_look c.who c.accepted none.0 in record {
    events = e ∷ [];
    hands = same_hands;
    one = refl;
    done = none.4;
    stands = subst (λ (x : CallEnd). IsLeaving lane_turn.Sender (other c.who.end) x me') (none_end c found none.0 none.1 none.2) none.3;
    comes = λ asked start h. (
      record {
        steps = e ∷ h.steps;
        path = subst (λ (a : Ask). IsWalkFor coded meaning z c.who a (send_answer (Err found)) (Step made.Left ∷ e ∷ h.steps) [] start me') (sym h.path.0) (none_walk c found none.0 none.1 h.steps start me' none.2 h.path.1);
        done = subst (λ (f : List ℕ → List ℕ). HasDone coded meaning (e ∷ h.steps) f start me') (sym (none_hands found)) (and_then e h.steps start me me' h.done none.4);
      },
      counted e h.steps _ h.path.1,
    );
  }

  -- at its fourth
  pub send_buffer : (c : SendCall) (m : List ℕ) (b : ℕ) (me me' : SeatState) → c.message.value ≡ m → (y : Slot) × IsFilledAt z (record c { buffer = b }) stage.Buffer y me' → HasDone coded meaning (Step (made.Buffer b) ∷ []) same_hands me me'
      → Advances coded meaning z c.who (phase.Sends stage.Look c m) (progress.At 4) (phase.Sends stage.Buffer (record c { buffer = b }) m) me me'
  send_buffer c m b me me' said out done = let e : Event = Step (made.Buffer b) in record {
    events = e ∷ [];
    hands = same_hands;
    one = refl;
    done = done;
    stands = (out, refl, said);
    comes = λ asked start h. (
      record { steps = e ∷ h.steps; path = (h.path.0, (h.path.1.0, ap (λ (l : List Event). e ∷ l) h.path.1.1)); done = and_then e h.steps start me me' h.done done },
      counted e h.steps _ h.path.1.1,
    );
  }

  -- at its fifth
  pub send_stored : (c : SendCall) (m : List ℕ) (me me' : SeatState) → c.message.value ≡ m → IsFilledAt z c stage.Entry (Buffer m) me' → HasDone coded meaning (Step made.Entry ∷ []) same_hands me me'
      → Advances coded meaning z c.who (phase.Sends stage.Buffer c m) (progress.At 5) (phase.Sends stage.Entry c m) me me'
  send_stored c m me me' said stored done = let e : Event = Step made.Entry in record {
    events = e ∷ [];
    hands = same_hands;
    one = refl;
    done = done;
    stands = (subst (λ (l : List ℕ). IsFilledAt z c stage.Entry (Buffer l) me') (sym said) stored, refl, said);
    comes = λ asked start h. (
      record { steps = e ∷ h.steps; path = (h.path.0, (h.path.1.0, ap (λ (l : List Event). e ∷ l) h.path.1.1)); done = and_then e h.steps start me me' h.done done },
      counted e h.steps _ h.path.1.1,
    );
  }

  -- at its sixth
  pub send_sent : (c : SendCall) (m : List ℕ) (me me' : SeatState) → IsLeaving lane_turn.Sender (other c.who.end) (end.Sent c.accepted) me' → HasDone coded meaning (Publish (other c.who.end) c.who.follows c.accepted c.message.value ∷ []) same_hands me me'
      → Advances coded meaning z c.who (phase.Sends stage.Entry c m) (progress.At 6) (phase.LeavesSender (answer.Sent c.accepted)) me me'
  send_sent c m me me' leaves done = let e : Event = Publish (other c.who.end) c.who.follows c.accepted c.message.value in record {
    events = e ∷ [];
    hands = same_hands;
    one = refl;
    done = done;
    stands = leaves;
    comes = λ asked start h. (
      record {
        steps = e ∷ h.steps;
        path = subst (λ (a : Ask). IsWalkFor coded meaning z c.who a (answer.Sent c.accepted) (Step made.Left ∷ e ∷ h.steps) [] start me') (sym h.path.0)
            (Ok c.accepted, refl, (h.path.1.0, c.buffer, ap (λ (l : List Event). Step made.Left ∷ e ∷ l) h.path.1.1));
        done = done_then coded meaning (e ∷ []) h.steps same_hands same_hands start me me' h.done done;
      },
      counted e h.steps _ h.path.1.1,
    );
  }

  -- a take, at its second step
  pub take_live : (c : TakeCall) (b : ℕ) (me me' : SeatState) → IsTakeAt c (work.Take take_stage.Era) me' × HasDone coded meaning (Step (made.Era (live_era c.who.follows)) ∷ []) same_hands me me'
      → Advances coded meaning z c.who (phase.Takes take_stage.Turn c b) (progress.At 2) (phase.Takes take_stage.Era c b) me me'
  take_live c b me me' live = let e : Event = Step (made.Era (live_era c.who.follows)) in record {
    events = e ∷ [];
    hands = same_hands;
    one = refl;
    done = live.1;
    stands = (live.0, refl);
    comes = λ asked start h. (
      record { steps = e ∷ h.steps; path = (h.path.0, ap (λ (l : List Event). e ∷ l) h.path.1); done = and_then e h.steps start me me' h.done live.1 },
      counted e h.steps _ h.path.1,
    );
  }

  pub take_dead : (c : TakeCall) (b : ℕ) (era : Era) (me me' : SeatState) → (era ≢ live_era c.who.follows) × IsLeaving lane_turn.Receiver c.who.end (end.Dead era) me' × HasDone coded meaning (Step (made.Era era) ∷ []) same_hands me me'
      → Advances coded meaning z c.who (phase.Takes take_stage.Turn c b) (progress.At 2) (phase.LeavesReceiver (answer.Dead era)) me me'
  take_dead c b era me me' dead = let e : Event = Step (made.Era era) in record {
    events = e ∷ [];
    hands = same_hands;
    one = refl;
    done = dead.2;
    stands = dead.1;
    comes = λ asked start h. (
      record {
        steps = e ∷ h.steps;
        path = subst (λ (a : Ask). IsWalkFor coded meaning z c.who a (answer.Dead era) (Step made.Left ∷ e ∷ h.steps) [] start me') (sym h.path.0)
            (Err (take_fault.Dead era), refl, (inl (ap (λ (l : List Event). Step made.Left ∷ e ∷ l) h.path.1), dead.0));
        done = and_then e h.steps start me me' h.done dead.2;
      },
      counted e h.steps _ h.path.1,
    );
  }

  -- at its third
  pub take_found : (c : TakeCall) (b : ℕ) (me me' : SeatState) → IsTakeAt c (work.Take take_stage.Look) me' × ((accepted : ℕ) × HasDone coded meaning (message_look c.who c.handed accepted ∷ []) same_hands me me')
      → Advances coded meaning z c.who (phase.Takes take_stage.Era c b) (progress.At 3) (phase.Takes take_stage.Look c b) me me'
  take_found c b me me' found = let e : Event = message_look c.who c.handed found.1.0 in record {
    events = e ∷ [];
    hands = same_hands;
    one = refl;
    done = found.1.1;
    stands = (found.0, refl);
    comes = λ asked start h. (
      record { steps = e ∷ h.steps; path = (h.path.0, (found.1.0, ap (λ (l : List Event). e ∷ l) h.path.1)); done = and_then e h.steps start me me' h.done found.1.1 },
      counted e h.steps _ h.path.1,
    );
  }

  pub take_empty : (c : TakeCall) (b accepted : ℕ) (me me' : SeatState) → (accepted ≡ c.handed) × IsLeaving lane_turn.Receiver c.who.end (end.Empty accepted) me' × HasDone coded meaning (message_look c.who accepted accepted ∷ []) same_hands me me'
      → Advances coded meaning z c.who (phase.Takes take_stage.Era c b) (progress.At 3) (phase.LeavesReceiver (answer.Empty accepted)) me me'
  take_empty c b accepted me me' none = let e : Event = message_look c.who accepted accepted in record {
    events = e ∷ [];
    hands = same_hands;
    one = refl;
    done = none.2;
    stands = none.1;
    comes = λ asked start h. (
      record {
        steps = e ∷ h.steps;
        path = subst (λ (a : Ask). IsWalkFor coded meaning z c.who a (answer.Empty accepted) (Step made.Left ∷ e ∷ h.steps) [] start me') (sym h.path.0) (Err (take_fault.Empty accepted), refl, ap (λ (l : List Event). Step made.Left ∷ e ∷ l) h.path.1);
        done = and_then e h.steps start me me' h.done none.2;
      },
      counted e h.steps _ h.path.1,
    );
  }

  -- at its fourth
  pub take_buffer : (c : TakeCall) (b found : ℕ) (me me' : SeatState) → (message : List ℕ) × HasBufferOut z c (work.Take take_stage.Buffer) found message me' → HasDone coded meaning (Step (made.Buffer found) ∷ []) same_hands me me'
      → Advances coded meaning z c.who (phase.Takes take_stage.Look c b) (progress.At 4) (phase.Takes take_stage.Buffer c found) me me'
  take_buffer c b found me me' out done = let e : Event = Step (made.Buffer found) in record {
    events = e ∷ [];
    hands = same_hands;
    one = refl;
    done = done;
    stands = (out, refl);
    comes = λ asked start h. (
      record { steps = e ∷ h.steps; path = (h.path.0, (h.path.1.0, ap (λ (l : List Event). e ∷ l) h.path.1.1)); done = and_then e h.steps start me me' h.done done },
      counted e h.steps _ h.path.1.1,
    );
  }

  -- at its fifth
  pub take_late : (c : TakeCall) (b : ℕ) (era : Era) (me me' : SeatState) → IsLeaving lane_turn.Receiver c.who.end (end.Dead era) me' → (era ≢ live_era c.who.follows) × HasDone coded meaning (Step (made.Era era) ∷ []) same_hands me me'
      → Advances coded meaning z c.who (phase.Takes take_stage.Buffer c b) (progress.At 5) (phase.LeavesReceiver (answer.Dead era)) me me'
  take_late c b era me me' leaves dead = let e : Event = Step (made.Era era) in record {
    events = e ∷ [];
    hands = same_hands;
    one = refl;
    done = dead.1;
    stands = leaves;
    comes = λ asked start h. (
      record {
        steps = e ∷ h.steps;
        path = subst (λ (a : Ask). IsWalkFor coded meaning z c.who a (answer.Dead era) (Step made.Left ∷ e ∷ h.steps) [] start me') (sym h.path.0)
            (Err (take_fault.Dead era), refl, (inr (b, c.handed, h.path.1.0, ap (λ (l : List Event). Step made.Left ∷ e ∷ l) h.path.1.1), dead.0));
        done = and_then e h.steps start me me' h.done dead.1;
      },
      counted e h.steps _ h.path.1.1,
    );
  }

  pub take_handed : (c : TakeCall) (b : ℕ) (taken : Taken) (me me' : SeatState) → IsLeaving lane_turn.Receiver c.who.end (end.Took c.handed taken.verdict) me'
      → (message : List ℕ) × IsHandedTo meaning c.who c.handed message taken × HasDone coded meaning (Step (made.Era (live_era c.who.follows)) ∷ Take c.who.end c.who.follows c.handed message ∷ []) (one_more c.handed) me me'
      → Advances coded meaning z c.who (phase.Takes take_stage.Buffer c b) (progress.At 5) (phase.LeavesReceiver (answer.Took taken.held taken.verdict)) me me'
  take_handed c b taken me me' leaves took =
      let e : Event = Step (made.Era (live_era c.who.follows)) in let t : Event = Take c.who.end c.who.follows c.handed took.0 in
      let done = subst (λ (k : ℕ). HasDone coded meaning (e ∷ t ∷ []) (one_more k) me me') (sym took.1.numbered) took.2 in record {
        events = e ∷ t ∷ [];
        hands = one_more taken.held.number;
        one = refl;
        done = done;
        stands = subst (λ (k : ℕ). IsLeaving lane_turn.Receiver c.who.end (end.Took k taken.verdict) me') (sym took.1.numbered) leaves;
        comes = λ asked start h. (
          record {
            steps = e ∷ t ∷ h.steps;
            path = subst (λ (a : Ask). IsWalkFor coded meaning z c.who a (answer.Took taken.held taken.verdict) (Step made.Left ∷ e ∷ t ∷ h.steps) [] start me') (sym h.path.0)
                (Ok taken, refl, (c.handed, took.0, b, h.path.1.0, took.1, ap (λ (l : List Event). Step made.Left ∷ e ∷ t ∷ l) h.path.1.1));
            done = done_then coded meaning (e ∷ t ∷ []) h.steps (one_more taken.held.number) same_hands start me me' h.done done;
          },
          sym (ap (λ (l : List Event). count_steps (e ∷ t ∷ l)) h.path.1.1),
        );
      }

  -- the same, by the caller and by the stage
  pub send_by : (who : CallerId) (st known : SendStage) (c : SendCall) (m : List ℕ) (after : Phase) (me me' : SeatState) → st ≡ known → c.who ≡ who → Advances coded meaning z c.who (phase.Sends known c m) (progress.At (send_steps known + 1)) after (seat_of c.who.number me) (seat_of c.who.number me')
      → Advances coded meaning z who (phase.Sends st c m) (progress.At (send_steps st + 1)) after (seat_of who.number me) (seat_of who.number me')
  send_by who st known c m after me me' is same step =
      subst (λ (x : SendStage). Advances coded meaning z who (phase.Sends x c m) (progress.At (send_steps x + 1)) after (seat_of who.number me) (seat_of who.number me')) (sym is)
      (subst (λ (w : CallerId). Advances coded meaning z w (phase.Sends known c m) (progress.At (send_steps known + 1)) after (seat_of w.number me) (seat_of w.number me')) same step)

  pub take_by : (who : CallerId) (st known : TakeStage) (c : TakeCall) (b : ℕ) (after : Phase) (me me' : SeatState) → st ≡ known → c.who ≡ who → Advances coded meaning z c.who (phase.Takes known c b) (progress.At (take_steps known + 1)) after (seat_of c.who.number me) (seat_of c.who.number me')
      → Advances coded meaning z who (phase.Takes st c b) (progress.At (take_steps st + 1)) after (seat_of who.number me) (seat_of who.number me')
  take_by who st known c b after me me' is same step =
      subst (λ (x : TakeStage). Advances coded meaning z who (phase.Takes x c b) (progress.At (take_steps x + 1)) after (seat_of who.number me) (seat_of who.number me')) (sym is)
      (subst (λ (w : CallerId). Advances coded meaning z w (phase.Takes known c b) (progress.At (take_steps known + 1)) after (seat_of w.number me) (seat_of w.number me')) same step)

  -- the handing of a take, by the phase that it stands in
  abbrev stage_in : Phase → TakeStage
  stage_in (phase.Takes st c b) = st
  stage_in other = take_stage.Buffer

  pub hand_by : (who : CallerId) (p : Phase) (st : TakeStage) (c : TakeCall) (b : ℕ) (after : Phase) (me me' : SeatState) → p ≡ phase.Takes st c b → (call : TakeCall) × (buffer : ℕ) × (p ≡ phase.Takes take_stage.Buffer call buffer) → IsInPhase z who p (seat_of who.number me)
      → Advances coded meaning z c.who (phase.Takes take_stage.Buffer c b) (progress.At 5) after (seat_of c.who.number me) (seat_of c.who.number me')
      → Advances coded meaning z who p (progress.At 5) after (seat_of who.number me) (seat_of who.number me')
  hand_by who p st c b after me me' is last stands step =
      let known : st ≡ take_stage.Buffer = sym (ap stage_in is) ∙ ap stage_in last.2 in
      let same : c.who ≡ who = (subst (λ (x : Phase). IsInPhase z who x (seat_of who.number me)) is stands).1 in
      subst (λ (x : Phase). Advances coded meaning z who x (progress.At 5) after (seat_of who.number me) (seat_of who.number me')) (sym (is ∙ ap (λ (x : TakeStage). phase.Takes x c b) known))
      (subst (λ (w : CallerId). Advances coded meaning z w (phase.Takes take_stage.Buffer c b) (progress.At 5) after (seat_of w.number me) (seat_of w.number me')) same step)
