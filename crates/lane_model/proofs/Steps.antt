-- What each step of a call that has a turn leaves of the two turns and of the holdings.
use Rattle.std.proofs.Common.{◌≡◌, ◌≢◌, ℕ, ◌<◌, ◌==◌, ◌+◌, ◌||◌, ◌&&◌, eqb, length, Bool, true, false, IsTrue, Option, refl, sym, ap, subst, ◌∙◌, arith, List, [], ◌∷◌, eq-eqb}
use Rattle.std.proofs.lemmas.Bool.{false≢true, eqb-true, ne_eqb, cond_both}
use Rattle.std.proofs.lemmas.List.Folds.{list_any-append}
use Rattle.rp_base.specs.declared.kinds.Era.{Era}
use Rattle.rp_base.specs.declared.kinds.End.{End}
use Rattle.lane_model.specs.declared.states.Holding.{Holding}
use Rattle.lane_model.specs.declared.states.LaneState.{LaneState}
use Rattle.lane_model.specs.declared.stages.Sending.{Sending}
use Rattle.lane_model.specs.declared.stages.SendStage.{SendStage}
use Rattle.lane_model.specs.declared.stages.SendStage.TheVariants as stage
use Rattle.lane_model.specs.declared.stages.Receiving.{Receiving}
use Rattle.lane_model.specs.declared.stages.Work.{Work}
use Rattle.lane_model.specs.declared.stages.Work.TheVariants as work
use Rattle.lane_model.specs.declared.stages.TakeStage.{TakeStage}
use Rattle.lane_model.specs.declared.stages.TakeStage.TheVariants as take_stage
use Rattle.lane_model.specs.declared.stages.GiveStage.{GiveStage}
use Rattle.lane_model.specs.declared.stages.GiveStage.TheVariants as give_stage
use Rattle.lane_model.specs.declared.stages.Turn.{Turn}
use Rattle.lane_model.specs.declared.stages.Turn.TheVariants as turn
use Rattle.lane_model.specs.declared.calls.CallEnd.{CallEnd}
use Rattle.lane_model.specs.declared.calls.CallEnd.TheVariants as end
use Rattle.lane_model.specs.declared.calls.Outcome.{Outcome}
use Rattle.lane_model.specs.declared.calls.Outcome.TheVariants as outcome
use Rattle.lane_model.specs.Desks.{DeskMeaning}
use Rattle.lane_model.specs.Lanes.{Stepped, turn_step, holds, has_call, is_live_in}
use Rattle.lane_model.specs.Sends.{send_step, sender_step}
use Rattle.lane_model.specs.Receives.{receive_step, take_step, after_handing, give_step, desk_step, receiver_step}
use Rattle.lane_model.specs.WholeCalls.{steps_left_of_turn, steps_left_of_send, steps_left_of_work, WhereOn}
use Rattle.lane_model.specs.Soundness.{IsUser, AreUsers, IsSoundTurn}
use Rattle.lane_model.proofs.Holdings.{others_hold, handed_users, without_users}
use Rattle.lane_model.proofs.SoundLanes.{turn_step_has}

pub same : (n : ℕ) → (n == n) ≡ true
same n = eq-eqb n n refl

-- what holds may be said of a step that goes on
pub where_any : (told : Outcome) {P : Type 0} → P → WhereOn told P
where_any (outcome.At step) p = p
where_any (outcome.Ended end) p = tt

-- the turn is with a call of this caller
abbrev pub IsWith : {C : Type 0} → ℕ → Turn C → Type 0
IsWith caller now = (other : ℕ) → has_call now other ≡ (caller == other)

-- the turn is with a call of this caller, of which fewer steps are left
abbrev pub IsOn : {C : Type 0} → (C → ℕ) → ℕ → ℕ → Turn C → Type 0
IsOn of_call caller left next = IsWith caller next × (steps_left_of_turn of_call next < left)

pub turn_goes_on : {S C : Type 0} (of_call : C → ℕ) (turn_of : S → Turn C) (state freed : S) (goes : ℕ → C → Stepped S) (now : Turn C) (caller : ℕ) → has_call now caller ≡ true
    → ((other : ℕ) (call : C) → IsOn of_call other (of_call call) (turn_of (goes other call).state))
    → WhereOn (turn_step state freed goes now).outcome (IsOn of_call caller (steps_left_of_turn of_call now) (turn_of (turn_step state freed goes now).state))
turn_goes_on of_call turn_of state freed goes turn.Free caller is on = absurd (false≢true is)
turn_goes_on of_call turn_of state freed goes (turn.Taken other call) caller is on =
    subst (λ n. WhereOn (goes other call).outcome (IsOn of_call n (of_call call) (turn_of (goes other call).state))) (eqb-true _ _ is) (where_any (goes other call).outcome (on other call))
turn_goes_on of_call turn_of state freed goes (turn.Leaving other ended) caller is on = tt
turn_goes_on of_call turn_of state freed goes turn.Manager caller is on = absurd (false≢true is)

-- what holds of the state with the turn left and after each step of this caller's call holds after the next step
pub turn_step_of : {S C : Type 0} (P : S → Type 0) (state freed : S) (goes : ℕ → C → Stepped S) (now : Turn C) (caller : ℕ) → has_call now caller ≡ true
    → P freed → ((call : C) → now ≡ turn.Taken caller call → P (goes caller call).state) → P (turn_step state freed goes now).state
turn_step_of P state freed goes turn.Free caller is left on = absurd (false≢true is)
turn_step_of P state freed goes (turn.Taken other call) caller is left on =
    let same_one : other ≡ caller = eqb-true _ _ is in
    subst (λ n. P (goes n call).state) (sym same_one) (on call (ap (λ n. turn.Taken n call) same_one))
turn_step_of P state freed goes (turn.Leaving other ended) caller is left on = left
turn_step_of P state freed goes turn.Manager caller is left on = absurd (false≢true is)

-- a turn that is with a caller is with no other
pub no_other : {C : Type 0} (now : Turn C) (caller other : ℕ) → has_call now caller ≡ true → caller ≢ other → has_call now other ≡ false
no_other turn.Free caller other is differ = refl
no_other (turn.Taken n call) caller other is differ = ne_eqb _ _ (λ same_one. differ (sym (eqb-true _ _ is) ∙ same_one))
no_other (turn.Leaving n ended) caller other is differ = ne_eqb _ _ (λ same_one. differ (sym (eqb-true _ _ is) ∙ same_one))
no_other turn.Manager caller other is differ = refl

-- a turn that is with a user is sound
pub with_sound : {C : Type 0} (callers : List (Option End)) (end : End) (caller : ℕ) (now : Turn C) → IsUser callers end caller → IsWith caller now → IsSoundTurn callers end now
with_sound callers end caller turn.Free user with = tt
with_sound callers end caller (turn.Taken n call) user with = subst (IsUser callers end) (eqb-true _ _ (sym (with n) ∙ same n)) user
with_sound callers end caller (turn.Leaving n ended) user with = subst (IsUser callers end) (eqb-true _ _ (sym (with n) ∙ same n)) user
with_sound callers end caller turn.Manager user with = tt

abbrev pub sending_left : Sending → ℕ
sending_left s = steps_left_of_send s.stage

abbrev pub receiving_left : Receiving → ℕ
receiving_left r = steps_left_of_work r.work

pub send_on : {D : Type 0} (era : Era) (state : LaneState D) (caller : ℕ) (s : Sending) (now : SendStage)
    → IsOn sending_left caller (steps_left_of_send now) (send_step era state caller s now).state.sender
send_on era state caller s stage.Turn =
    cond_both (is_live_in era s.follows) _ _ (IsOn sending_left caller 5) (λ _. (λ other. refl, omega arith)) (λ _. (λ other. refl, omega arith))
send_on era state caller s stage.Era =
    cond_both (length state.lane.accepted == state.lane.returned + state.lane.capacity) _ _ (IsOn sending_left caller 4) (λ _. (λ other. refl, omega arith))
    (λ _. cond_both (length state.lane.accepted == state.lane.book) _ _ (IsOn sending_left caller 4) (λ _. (λ other. refl, omega arith)) (λ _. (λ other. refl, omega arith)))
send_on era state caller s stage.Look = (λ other. refl, omega arith)
send_on era state caller s stage.Buffer = (λ other. refl, omega arith)
send_on era state caller s stage.Entry = (λ other. refl, omega arith)

take_on : {D : Type 0} (desk : DeskMeaning D) (era : Era) (state : LaneState D) (caller : ℕ) (r : Receiving) (now : TakeStage)
    → IsOn receiving_left caller (steps_left_of_work (work.Take now)) (take_step desk era state caller r now).state.receiver
take_on desk era state caller r take_stage.Turn =
    cond_both (is_live_in era r.follows) _ _ (IsOn receiving_left caller 4) (λ _. (λ other. refl, omega arith)) (λ _. (λ other. refl, omega arith))
take_on desk era state caller r take_stage.Era =
    cond_both (length state.lane.takers == length state.lane.accepted) _ _ (IsOn receiving_left caller 3) (λ _. (λ other. refl, omega arith)) (λ _. (λ other. refl, omega arith))
take_on desk era state caller r take_stage.Look = (λ other. refl, omega arith)
take_on {D} desk era state caller r take_stage.Buffer =
    cond_both (is_live_in era r.follows) _ _ (λ (next : LaneState D). IsOn receiving_left caller 1 next.receiver) (λ _. (λ other. refl, omega arith)) (λ _. (λ other. refl, omega arith))

give_on : {D : Type 0} (state : LaneState D) (caller : ℕ) (r : Receiving) (number : ℕ) (now : GiveStage)
    → IsOn receiving_left caller (steps_left_of_work (work.Give number now)) (give_step state caller r number now).state.receiver
give_on state caller r number give_stage.Turn = (λ other. refl, omega arith)
give_on state caller r number give_stage.Entry = (λ other. refl, omega arith)

desk_on : {D : Type 0} (era : Era) (state : LaneState D) (caller : ℕ) (r : Receiving) (desk : D) (ended : CallEnd)
    → IsOn receiving_left caller 1 (desk_step era state caller r desk ended).state.receiver
desk_on {D} era state caller r desk ended =
    cond_both (is_live_in era r.follows) _ _ (λ (next : LaneState D). IsOn receiving_left caller 1 next.receiver) (λ _. (λ other. refl, omega arith)) (λ _. (λ other. refl, omega arith))

pub receive_on : {D : Type 0} (desk : DeskMeaning D) (era : Era) (state : LaneState D) (caller : ℕ) (r : Receiving) (now : Work)
    → IsOn receiving_left caller (steps_left_of_work now) (receive_step desk era state caller r now).state.receiver
receive_on desk era state caller r (work.Take now) = take_on desk era state caller r now
receive_on desk era state caller r (work.Give number now) = give_on state caller r number now
receive_on desk era state caller r (work.Bind address) = desk_on era state caller r _ _
receive_on desk era state caller r (work.Unbind address) = desk_on era state caller r _ _

-- what a send leaves as it was
pub record IsSendersOwn {D : Type 0} (before after : LaneState D) : Type 0 where
  pub receiver : after.receiver ≡ before.receiver
  pub held : after.lane.held ≡ before.lane.held
  pub takers : after.lane.takers ≡ before.lane.takers
  pub returned : after.lane.returned ≡ before.lane.returned
  pub desk : after.desk ≡ before.desk

pub send_own : {D : Type 0} (era : Era) (state : LaneState D) (caller : ℕ) (s : Sending) (now : SendStage) → IsSendersOwn state (send_step era state caller s now).state
send_own era state caller s stage.Turn = record { receiver = refl; held = refl; takers = refl; returned = refl; desk = refl }
send_own era state caller s stage.Era = record { receiver = refl; held = refl; takers = refl; returned = refl; desk = refl }
send_own era state caller s stage.Look = record { receiver = refl; held = refl; takers = refl; returned = refl; desk = refl }
send_own era state caller s stage.Buffer = record { receiver = refl; held = refl; takers = refl; returned = refl; desk = refl }
send_own era state caller s stage.Entry = record { receiver = refl; held = refl; takers = refl; returned = refl; desk = refl }

pub sender_own : {D : Type 0} (era : Era) (state : LaneState D) → IsSendersOwn state (sender_step era state).state
sender_own era state =
    turn_step_has (IsSendersOwn state) state (record state { sender = turn.Free }) (λ caller s. send_step era state caller s s.stage) state.sender
    (record { receiver = refl; held = refl; takers = refl; returned = refl; desk = refl }) (record { receiver = refl; held = refl; takers = refl; returned = refl; desk = refl })
    (λ caller s is. send_own era state caller s s.stage)

-- what a call of this caller on the receiver's turn leaves of what it has no part in
pub record IsReceiversOwn {D : Type 0} (caller : ℕ) (before after : LaneState D) : Type 0 where
  pub sender : after.sender ≡ before.sender
  pub accepted : after.lane.accepted ≡ before.lane.accepted
  pub users : (callers : List (Option End)) (end : End) → IsUser callers end caller → AreUsers callers end before.lane.held → AreUsers callers end after.lane.held
  pub others : (number other : ℕ) → caller ≢ other → IsTrue (holds before.lane.held number other) → IsTrue (holds after.lane.held number other)

lane_stays : {D : Type 0} (caller : ℕ) (state : LaneState D) (next : Turn Receiving) (desk : D) → IsReceiversOwn caller state (record state { receiver = next; desk = desk })
lane_stays caller state next desk = record { sender = refl; accepted = refl; users = λ callers end user users. users; others = λ number other differ has. has }

or_before : (a b : Bool) → IsTrue a → IsTrue (a || b)
or_before true b has = has
or_before false b has = absurd (false≢true has)

handed_own : {D : Type 0} (desk : DeskMeaning D) (state : LaneState D) (caller : ℕ) → IsReceiversOwn caller state (after_handing desk state caller)
handed_own desk state caller = record {
  sender = refl;
  accepted = refl;
  users = λ callers end user users. handed_users callers end (length state.lane.takers) caller state.lane.held user users;
  others = λ number other differ has.
      subst IsTrue (sym (list_any-append (λ (h : Holding). (eqb h.number number) && (eqb h.caller other)) state.lane.held (record { number = length state.lane.takers; caller = caller } ∷ [])))
      (or_before (holds state.lane.held number other) _ has);
}

take_own : {D : Type 0} (desk : DeskMeaning D) (era : Era) (state : LaneState D) (caller : ℕ) (r : Receiving) (now : TakeStage) → IsReceiversOwn caller state (take_step desk era state caller r now).state
take_own desk era state caller r take_stage.Turn = lane_stays caller state _ state.desk
take_own desk era state caller r take_stage.Era = lane_stays caller state _ state.desk
take_own desk era state caller r take_stage.Look = lane_stays caller state _ state.desk
take_own desk era state caller r take_stage.Buffer =
    cond_both (is_live_in era r.follows) (after_handing desk state caller) (record state { receiver = turn.Leaving caller (end.Dead era) }) (IsReceiversOwn caller state)
    (λ _. handed_own desk state caller) (λ _. lane_stays caller state (turn.Leaving caller (end.Dead era)) state.desk)

give_own : {D : Type 0} (state : LaneState D) (caller : ℕ) (r : Receiving) (number : ℕ) (now : GiveStage) → IsReceiversOwn caller state (give_step state caller r number now).state
give_own state caller r number give_stage.Turn = lane_stays caller state _ state.desk
give_own state caller r number give_stage.Entry = record {
  sender = refl;
  accepted = refl;
  users = λ callers end user users. without_users callers end state.lane.held number caller users;
  others = λ theirs other differ has. others_hold state.lane.held number caller theirs other differ has;
}

pub desk_own : {D : Type 0} (era : Era) (state : LaneState D) (caller : ℕ) (r : Receiving) (desk : D) (ended : CallEnd) → IsReceiversOwn caller state (desk_step era state caller r desk ended).state
desk_own era state caller r desk ended =
    cond_both (is_live_in era r.follows) (record state { receiver = turn.Leaving caller ended; desk = desk }) (record state { receiver = turn.Leaving caller (end.Dead era) }) (IsReceiversOwn caller state)
    (λ _. lane_stays caller state (turn.Leaving caller ended) desk) (λ _. lane_stays caller state (turn.Leaving caller (end.Dead era)) state.desk)

pub receive_own : {D : Type 0} (desk : DeskMeaning D) (era : Era) (state : LaneState D) (caller : ℕ) (r : Receiving) (now : Work) → IsReceiversOwn caller state (receive_step desk era state caller r now).state
receive_own desk era state caller r (work.Take now) = take_own desk era state caller r now
receive_own desk era state caller r (work.Give number now) = give_own state caller r number now
receive_own desk era state caller r (work.Bind address) = desk_own era state caller r _ _
receive_own desk era state caller r (work.Unbind address) = desk_own era state caller r _ _

pub receiver_own : {D : Type 0} (desk : DeskMeaning D) (era : Era) (state : LaneState D) (caller : ℕ) → has_call state.receiver caller ≡ true → IsReceiversOwn caller state (receiver_step desk era state).state
receiver_own desk era state caller is =
    turn_step_of (IsReceiversOwn caller state) state (record state { receiver = turn.Free }) (λ other r. receive_step desk era state other r r.work) state.receiver caller is
    (lane_stays caller state turn.Free state.desk) (λ r here. receive_own desk era state caller r r.work)
