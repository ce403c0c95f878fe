-- Steps of an actor's call, and steps of others, leave what the actor's calls give back in its hands.
use Rattle.std.proofs.Common.{◌≡◌, ◌≢◌, ◌<◌, ℕ, ◌+◌, eqb, cond, Bool, true, false, IsTrue, not, ◌&&◌, ◌||◌, List, [], ◌∷◌, ◌++◌, length, drop, Result, Ok, Err, refl, sym, ap, subst, ◌∙◌, arith}
use Rattle.std.proofs.lemmas.Bool.{and_parts, cond_both, eq-eqb, eqb-true, false≢true, ne_eqb, or_parts}
use Rattle.std.proofs.lemmas.List.Folds.{list_any-append}
use Rattle.rp_base.specs.declared.kinds.BindFault.{BindFault}
use Rattle.rp_base.specs.declared.kinds.Endpoint.{Endpoint}
use Rattle.rp_base.specs.declared.kinds.Era.{Era}
use Rattle.lane_model.specs.declared.calls.CallEnd.{CallEnd}
use Rattle.lane_model.specs.declared.calls.CallEnd.TheVariants as end
use Rattle.lane_model.specs.declared.calls.Outcome.{Outcome}
use Rattle.lane_model.specs.declared.calls.Outcome.TheVariants as outcome
use Rattle.lane_model.specs.declared.calls.Wish.{Wish}
use Rattle.lane_model.specs.declared.stages.GiveStage.TheVariants as give_stage
use Rattle.lane_model.specs.declared.stages.Receiving.{Receiving}
use Rattle.lane_model.specs.declared.stages.Sending.{Sending}
use Rattle.lane_model.specs.declared.stages.SendStage.{SendStage}
use Rattle.lane_model.specs.declared.stages.SendStage.TheVariants as stage
use Rattle.lane_model.specs.declared.stages.TakeStage.TheVariants as take_stage
use Rattle.lane_model.specs.declared.stages.Turn.{Turn}
use Rattle.lane_model.specs.declared.stages.Turn.TheVariants as turn
use Rattle.lane_model.specs.declared.stages.Work.{Work}
use Rattle.lane_model.specs.declared.stages.Work.TheVariants as work
use Rattle.lane_model.specs.declared.states.Holding.{Holding}
use Rattle.lane_model.specs.declared.states.LaneState.{LaneState}
use Rattle.lane_model.specs.Lanes.{has_call, holds, is_live_in, taken_by, turn_step, without}
use Rattle.lane_model.specs.Receives.{after_handing, desk_end, desk_step, receive_step, receiver_step}
use Rattle.lane_model.specs.Sends.{send_step, sender_step}
use Rattle.lane_model.specs.Soundness.{AreHandedOnce, IsSoundLane}
use Rattle.lane_model.proofs.SoundLanes.{turn_step_has}
use Rattle.lane_model.proofs.Steps.{no_other, receive_on, receiver_own, same, sender_own, turn_step_of}
use Rattle.channel_bus.specs.Sides.{EndState, side_meaning}
use Rattle.core_actors.specs.PendingCalls.{AreGivable, IsFitLane, IsNamed, IsNamedEnd, IsOwnTurn, IsSendsEnd, IsSendsTurn, give_numbers_after, give_numbers, is_among}

-- ---- what is held

givable_more : (before after : List Holding) (caller : ℕ) (numbers : List ℕ) → ((number : ℕ) → IsTrue (holds before number caller) → IsTrue (holds after number caller))
    → AreGivable before caller numbers → AreGivable after caller numbers
givable_more before after caller [] each are = tt
givable_more before after caller (number ∷ later) each are = (each number are.0, are.1, givable_more before after caller later each are.2)

-- what is held was handed over
held_below : (handed caller number : ℕ) (held : List Holding) → AreHandedOnce handed held → IsTrue (holds held number caller) → number < handed
held_below handed caller number [] once has = absurd (false≢true has)
held_below handed caller number (h ∷ hs) once has =
    below (eqb h.number number) (eqb h.caller caller) refl has (held_below handed caller number hs once.2)
  where
    below : (one other : Bool) → eqb h.number number ≡ one → IsTrue ((one && other) || holds hs number caller) → (IsTrue (holds hs number caller) → number < handed) → number < handed
    below true other is has later = subst (λ n. n < handed) (eqb-true h.number number is) once.1
    below false other is has later = later has

-- so the next number is none of those that are yet to be given back
fresh : (handed caller : ℕ) (held : List Holding) (numbers : List ℕ) → AreHandedOnce handed held → AreGivable held caller numbers → is_among numbers handed ≡ false
fresh handed caller held [] once are = refl
fresh handed caller held (number ∷ later) once are =
    let less = held_below handed caller number held once are.0 in
    ap (λ (here : Bool). here || is_among later handed) (ne_eqb number handed (λ is. (absurd (omega (arith, less, is))))) ∙ fresh handed caller held later once are.2

or_after : (a b : Bool) → IsTrue b → IsTrue (a || b)
or_after true b has = refl
or_after false b has = has

or_before : (a b : Bool) → IsTrue a → IsTrue (a || b)
or_before true b has = has
or_before false b has = absurd (false≢true has)

held_still : (held : List Holding) (h : Holding) (number caller : ℕ) → IsTrue (holds held number caller) → IsTrue (holds (held ++ h ∷ []) number caller)
held_still held h number caller has =
    subst IsTrue (sym (list_any-append (λ (h : Holding). (eqb h.number number) && (eqb h.caller caller)) held (h ∷ []))) (or_before (holds held number caller) _ has)

held_now : (held : List Holding) (number caller : ℕ) → IsTrue (holds (held ++ record { number = number; caller = caller } ∷ []) number caller)
held_now held number caller =
    subst IsTrue (sym (list_any-append (λ (h : Holding). (eqb h.number number) && (eqb h.caller caller)) held (record { number = number; caller = caller } ∷ [])))
    (or_after (holds held number caller) _ (ap (λ (b : Bool). (b && (eqb caller caller)) || false) (same number) ∙ ap (λ (b : Bool). (true && b) || false) (same caller)))

not_true : (b : Bool) → not b ≡ false → b ≡ true
not_true true is = refl
not_true false is = absurd (false≢true (sym is))

or_map : (a x y : Bool) → (IsTrue x → IsTrue y) → IsTrue (a || x) → IsTrue (a || y)
or_map true x y from has = has
or_map false x y from has = from has

or_other : (a x : Bool) → (a ≡ true → ⊥) → IsTrue (a || x) → IsTrue x
or_other true x never has = absurd (never refl)
or_other false x never has = has

-- the return of one buffer leaves the others
kept_without : (held : List Holding) (gone caller number : ℕ) → gone ≢ number → IsTrue (holds held number caller) → IsTrue (holds (without held gone caller) number caller)
kept_without [] gone caller number differ has = absurd (false≢true has)
kept_without (h ∷ hs) gone caller number differ has =
    let rest : IsTrue (holds hs number caller) → IsTrue (holds (without hs gone caller) number caller) = kept_without hs gone caller number differ in
    let here : Bool = eqb h.number number && eqb h.caller caller in
    cond_both (not (eqb h.number gone && eqb h.caller caller)) (h ∷ without hs gone caller) (without hs gone caller) (λ left. IsTrue (holds left number caller))
    (λ _. or_map here (holds hs number caller) (holds (without hs gone caller) number caller) rest has)
    (λ is_gone.
    let one : h.number ≡ gone = eqb-true _ _ (and_parts _ _ (not_true _ is_gone)).0 in
    rest (or_other here (holds hs number caller) (λ is. differ (sym one ∙ eqb-true _ _ (and_parts _ _ is).0)) has))

givable_without : (held : List Holding) (gone caller : ℕ) (numbers : List ℕ) → is_among numbers gone ≡ false → AreGivable held caller numbers → AreGivable (without held gone caller) caller numbers
givable_without held gone caller [] none are = tt
givable_without held gone caller (number ∷ later) none are =
    let parts = or_parts (eqb number gone) (is_among later gone) none in (
      kept_without held gone caller number (λ is. absurd (false≢true (sym parts.0 ∙ eq-eqb number gone (sym is)))) are.0,
      are.1,
      givable_without held gone caller later parts.1 are.2,
    )

-- ---- the actor's own call

-- what a step of an actor's call leaves of its lane: the call goes on, or it has ended so
pub record HasEnded (ended : CallEnd) (state : LaneState EndState) (caller : ℕ) (is_first : Bool) (calls : List Wish) : Type 0 where
  pub given : AreGivable state.lane.held caller (give_numbers_after ended calls)
  pub named : IsNamedEnd ended is_first
  pub left : has_call state.receiver caller ≡ false

abbrev pub Follows : Outcome → LaneState EndState → ℕ → Bool → List Wish → Type 0
Follows (outcome.At step) state caller is_first calls = IsFitLane state caller is_first calls
Follows (outcome.Ended ended) state caller is_first calls = HasEnded ended state caller is_first calls

module _ (state : LaneState EndState) (caller : ℕ) (is_first : Bool) (calls : List Wish) where
  -- the lane where the turn is the actor's
  mine : (next : Turn Receiving) → has_call next caller ≡ true → IsOwnTurn next state.lane.held caller is_first calls → IsFitLane (record state { receiver = next }) caller is_first calls
  mine next has is = record { own = λ _. is; other = λ no. absurd (false≢true (sym no ∙ has)) }

  either : (which : Bool) (one other : Turn Receiving) → has_call one caller ≡ true → has_call other caller ≡ true → IsOwnTurn one state.lane.held caller is_first calls
      → IsOwnTurn other state.lane.held caller is_first calls → IsFitLane (record state { receiver = cond which one other }) caller is_first calls
  either true one other has_one has_other first second = mine one has_one first
  either false one other has_one has_other first second = mine other has_other second

  -- an end that gives back nothing, and hands over nothing
  record IsPlain (ended : CallEnd) : Type 0 where
    pub given : give_numbers_after ended calls ≡ give_numbers calls
    pub named : IsNamedEnd ended is_first

  bind_plain : (answer : Result Endpoint BindFault) → IsPlain (desk_end end.Bound answer)
  bind_plain (Ok endpoint) = record { given = refl; named = tt }
  bind_plain (Err fault) = record { given = refl; named = tt }

  unbind_plain : (answer : Result Endpoint BindFault) → IsPlain (desk_end end.Unbound answer)
  unbind_plain (Ok endpoint) = record { given = refl; named = tt }
  unbind_plain (Err fault) = record { given = refl; named = tt }

  judged : (era : Era) (r : Receiving) (next : EndState) (ended : CallEnd) → IsPlain ended → AreGivable state.lane.held caller (give_numbers calls)
      → IsFitLane (desk_step era state caller r next ended).state caller is_first calls
  judged era r next ended plain are =
      cond_both (is_live_in era r.follows) (record state { receiver = turn.Leaving caller ended; desk = next }) (record state { receiver = turn.Leaving caller (end.Dead era) })
      (λ (after : LaneState EndState). IsFitLane after caller is_first calls)
      (λ _. record { own = λ _. (subst (AreGivable state.lane.held caller) (sym plain.given) are, plain.named); other = λ no. absurd (false≢true (sym no ∙ same caller)) })
      (λ _. record { own = λ _. (are, tt); other = λ no. absurd (false≢true (sym no ∙ same caller)) })

  handed : IsSoundLane state → AreGivable state.lane.held caller (give_numbers calls) → IsFitLane (after_handing side_meaning state caller) caller is_first calls
  handed sound are = record {
    own = λ _. (
      (
        held_now state.lane.held (length state.lane.takers) caller,
        fresh (length state.lane.takers) caller state.lane.held (give_numbers calls) sound.holdings are,
        givable_more state.lane.held _ caller (give_numbers calls) (λ number has. held_still state.lane.held _ number caller has) are,
      ),
      tt,
    );
    other = λ no. absurd (false≢true (sym no ∙ same caller));
  }

  work_follows : (era : Era) (r : Receiving) (now : Work) → IsSoundLane state → AreGivable state.lane.held caller (give_numbers calls) → IsNamed now is_first calls
      → Follows (receive_step side_meaning era state caller r now).outcome (receive_step side_meaning era state caller r now).state caller is_first calls
  work_follows era r (work.Take take_stage.Turn) sound are named =
      either (is_live_in era r.follows) (turn.Taken caller (record r { work = work.Take take_stage.Era })) (turn.Leaving caller (end.Dead era)) (same caller) (same caller) (are, tt) (are, tt)
  work_follows era r (work.Take take_stage.Era) sound are named =
      either (eqb (length state.lane.takers) (length state.lane.accepted)) (turn.Leaving caller (end.Empty (length state.lane.accepted)))
      (turn.Taken caller (record r { work = work.Take take_stage.Look })) (same caller) (same caller) (are, tt) (are, tt)
  work_follows era r (work.Take take_stage.Look) sound are named = mine (turn.Taken caller (record r { work = work.Take take_stage.Buffer })) (same caller) (are, tt)
  work_follows era r (work.Take take_stage.Buffer) sound are named =
      cond_both (is_live_in era r.follows) (after_handing side_meaning state caller) (record state { receiver = turn.Leaving caller (end.Dead era) })
      (λ (after : LaneState EndState). IsFitLane after caller is_first calls) (λ _. handed sound are) (λ _. mine (turn.Leaving caller (end.Dead era)) (same caller) (are, tt))
  work_follows era r (work.Give number give_stage.Turn) sound are named = mine (turn.Taken caller (record r { work = work.Give number give_stage.Entry })) (same caller) (are, named)
  work_follows era r (work.Give number give_stage.Entry) sound are named =
      let all = subst (AreGivable state.lane.held caller) (sym named.1) are in
      record {
        own = λ _. (givable_without state.lane.held number caller (give_numbers (drop 1 calls)) all.1 all.2, named.0);
        other = λ no. absurd (false≢true (sym no ∙ same caller));
      }
  work_follows era r (work.Bind address) sound are named = judged era r _ _ (bind_plain (side_meaning.bind_answer state.desk address (length state.lane.takers))) are
  work_follows era r (work.Unbind address) sound are named = judged era r _ _ (unbind_plain (side_meaning.unbind_answer state.desk address)) are

  -- the next step of a call that has the receiver's turn
  turn_follows : (era : Era) (now : Turn Receiving) → has_call now caller ≡ true → IsSoundLane state → IsOwnTurn now state.lane.held caller is_first calls
      → let step = turn_step state (record state { receiver = turn.Free }) (λ other r. receive_step side_meaning era state other r r.work) now in
      Follows step.outcome step.state caller is_first calls
  turn_follows era turn.Free has sound is = absurd (false≢true has)
  turn_follows era (turn.Taken other r) has sound is =
      subst (λ n. Follows (receive_step side_meaning era state n r r.work).outcome (receive_step side_meaning era state n r r.work).state caller is_first calls)
      (sym (eqb-true other caller has)) (work_follows era r r.work sound is.0 is.1)
  turn_follows era (turn.Leaving other ended) has sound is = record { given = is.0; named = is.1; left = refl }
  turn_follows era turn.Manager has sound is = absurd (false≢true has)

  pub receive_follows : (era : Era) → has_call state.receiver caller ≡ true → IsSoundLane state → IsFitLane state caller is_first calls
      → Follows (receiver_step side_meaning era state).outcome (receiver_step side_meaning era state).state caller is_first calls
  receive_follows era has sound fit = turn_follows era state.receiver has sound (fit.own has)

-- ---- sends

either_sends : (which : Bool) (one other : Turn Sending) → IsSendsTurn one → IsSendsTurn other → IsSendsTurn (cond which one other)
either_sends true one other first second = first
either_sends false one other first second = second

send_turn : (era : Era) (state : LaneState EndState) (caller : ℕ) (s : Sending) (now : SendStage) → IsSendsTurn (send_step era state caller s now).state.sender
send_turn era state caller s stage.Turn = either_sends (is_live_in era s.follows) (turn.Taken caller _) (turn.Leaving caller _) tt tt
send_turn era state caller s stage.Era =
    either_sends (eqb (length state.lane.accepted) (state.lane.returned + state.lane.capacity)) (turn.Leaving caller _) _ tt
    (either_sends (eqb (length state.lane.accepted) state.lane.book) (turn.Leaving caller _) (turn.Taken caller _) tt tt)
send_turn era state caller s stage.Look = tt
send_turn era state caller s stage.Buffer = tt
send_turn era state caller s stage.Entry = tt

pub sender_turn : (era : Era) (state : LaneState EndState) → IsSendsTurn state.sender → IsSendsTurn (sender_step era state).state.sender
sender_turn era state is =
    turn_step_has (λ (after : LaneState EndState). IsSendsTurn after.sender) state (record state { sender = turn.Free }) (λ caller s. send_step era state caller s s.stage) state.sender is tt
    (λ caller s _. send_turn era state caller s s.stage)

-- how a send ends
abbrev pub SendsFollow : Outcome → Type 0
SendsFollow (outcome.At step) = Unit {0}
SendsFollow (outcome.Ended ended) = IsSendsEnd ended

stage_follows : (era : Era) (state : LaneState EndState) (caller : ℕ) (s : Sending) (now : SendStage) → SendsFollow (send_step era state caller s now).outcome
stage_follows era state caller s stage.Turn = tt
stage_follows era state caller s stage.Era = tt
stage_follows era state caller s stage.Look = tt
stage_follows era state caller s stage.Buffer = tt
stage_follows era state caller s stage.Entry = tt

sends_at : (era : Era) (state : LaneState EndState) (now : Turn Sending) → IsSendsTurn now
    → SendsFollow (turn_step state (record state { sender = turn.Free }) (λ caller s. send_step era state caller s s.stage) now).outcome
sends_at era state turn.Free is = tt
sends_at era state (turn.Taken caller s) is = stage_follows era state caller s s.stage
sends_at era state (turn.Leaving caller ended) is = is
sends_at era state turn.Manager is = tt

pub sends_follow : (era : Era) (state : LaneState EndState) → IsSendsTurn state.sender → SendsFollow (sender_step era state).outcome
sends_follow era state is = sends_at era state state.sender is

pub taken_sends : (now : Turn Sending) (caller : ℕ) (call : Sending) → IsSendsTurn now → IsSendsTurn (taken_by now caller call)
taken_sends turn.Free caller call is = tt
taken_sends (turn.Taken other other_call) caller call is = is
taken_sends (turn.Leaving other ended) caller call is = is
taken_sends turn.Manager caller call is = is

-- ---- steps of others

-- what another's step leaves of a lane for an actor
pub record KeepsOwn (caller : ℕ) (before after : LaneState EndState) : Type 0 where
  pub has : has_call after.receiver caller ≡ has_call before.receiver caller
  pub turn_stays : has_call before.receiver caller ≡ true → after.receiver ≡ before.receiver
  pub held : (number : ℕ) → IsTrue (holds before.lane.held number caller) → IsTrue (holds after.lane.held number caller)
  pub sends : IsSendsTurn before.sender → IsSendsTurn after.sender

own_more : (now : Turn Receiving) (before after : List Holding) (caller : ℕ) (is_first : Bool) (calls : List Wish)
    → ((number : ℕ) → IsTrue (holds before number caller) → IsTrue (holds after number caller)) → IsOwnTurn now before caller is_first calls → IsOwnTurn now after caller is_first calls
own_more turn.Free before after caller is_first calls each is = tt
own_more (turn.Taken other call) before after caller is_first calls each is = (givable_more before after caller (give_numbers calls) each is.0, is.1)
own_more (turn.Leaving other ended) before after caller is_first calls each is = (givable_more before after caller (give_numbers_after ended calls) each is.0, is.1)
own_more turn.Manager before after caller is_first calls each is = tt

pub fit_kept : (before after : LaneState EndState) (caller : ℕ) (is_first : Bool) (calls : List Wish) → KeepsOwn caller before after → IsFitLane before caller is_first calls
    → IsFitLane after caller is_first calls
fit_kept before after caller is_first calls keeps fit = record {
  own = λ has.
      let had = sym keeps.has ∙ has in
      subst (λ (now : Turn Receiving). IsOwnTurn now after.lane.held caller is_first calls) (sym (keeps.turn_stays had))
      (own_more before.receiver before.lane.held after.lane.held caller is_first calls keeps.held (fit.own had));
  other = λ none. givable_more before.lane.held after.lane.held caller (give_numbers calls) keeps.held (fit.other (sym keeps.has ∙ none));
}

pub keeps_same : (caller : ℕ) (state : LaneState EndState) → KeepsOwn caller state state
keeps_same caller state = record { has = refl; turn_stays = λ _. refl; held = λ number has. has; sends = λ is. is }

pub sender_keeps : (era : Era) (state : LaneState EndState) (caller : ℕ) → KeepsOwn caller state (sender_step era state).state
sender_keeps era state caller =
    let own = sender_own era state in
    record {
      has = ap (λ (now : Turn Receiving). has_call now caller) own.receiver;
      turn_stays = λ _. own.receiver;
      held = λ number has. subst (λ held. IsTrue (holds held number caller)) (sym own.held) has;
      sends = sender_turn era state;
    }

pub receiver_keeps : (era : Era) (state : LaneState EndState) (other caller : ℕ) → other ≢ caller → has_call state.receiver other ≡ true
    → KeepsOwn caller state (receiver_step side_meaning era state).state
receiver_keeps era state other caller differ is =
    let own = receiver_own side_meaning era state other is in
    record {
      has = turn_step_of (λ (after : LaneState EndState). has_call after.receiver caller ≡ has_call state.receiver caller) state (record state { receiver = turn.Free })
          (λ n r. receive_step side_meaning era state n r r.work) state.receiver other is (sym (no_other state.receiver other caller is differ))
          (λ r here. (receive_on side_meaning era state other r r.work).0 caller ∙ sym (ap (λ now. has_call now caller) here));
      turn_stays = λ mine. absurd (false≢true (sym (no_other state.receiver other caller is differ) ∙ mine));
      held = λ number has. own.others number caller differ has;
      sends = subst IsSendsTurn (sym own.sender);
    }

taken_has : {C : Type 0} (now : Turn C) (other caller : ℕ) (call : C) → other ≢ caller → has_call (taken_by now other call) caller ≡ has_call now caller
taken_has turn.Free other caller call differ = ne_eqb _ _ differ
taken_has (turn.Taken n now_call) other caller call differ = refl
taken_has (turn.Leaving n ended) other caller call differ = refl
taken_has turn.Manager other caller call differ = refl

taken_stays : {C : Type 0} (now : Turn C) (other caller : ℕ) (call : C) → has_call now caller ≡ true → taken_by now other call ≡ now
taken_stays turn.Free other caller call has = absurd (false≢true has)
taken_stays (turn.Taken n now_call) other caller call has = refl
taken_stays (turn.Leaving n ended) other caller call has = refl
taken_stays turn.Manager other caller call has = absurd (false≢true has)

-- another takes the receiver's turn, or the sender's
pub take_keeps : (state : LaneState EndState) (other caller : ℕ) (call : Receiving) → other ≢ caller → KeepsOwn caller state (record state { receiver = taken_by state.receiver other call })
take_keeps state other caller call differ = record {
  has = taken_has state.receiver other caller call differ;
  turn_stays = taken_stays state.receiver other caller call;
  held = λ number has. has;
  sends = λ is. is;
}

pub begin_keeps : (state : LaneState EndState) (other caller : ℕ) (call : Sending) → KeepsOwn caller state (record state { sender = taken_by state.sender other call })
begin_keeps state other caller call = record { has = refl; turn_stays = λ _. refl; held = λ number has. has; sends = taken_sends state.sender other call }
