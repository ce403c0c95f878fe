-- One step of a give, of a binding and of an unbinding that are taken step by step; the first step of a call, and the leave.
use Rattle.std.proofs.Common.{◌≡◌, ◌≢◌, ◌⊎◌, ℕ, ◌+◌, ◌<◌, List, [], ◌∷◌, ◌++◌, refl, sym, ap, ◌∙◌, subst}
use Rattle.std.specs.Prelude.{Result, Ok, Err, Some, IfOk, IfErr}
use base.Stored.{Coded}
use Rattle.rp_base.specs.declared.kinds.BindFault.{BindFault}
use Rattle.rp_base.specs.declared.kinds.End.{End}
use Rattle.rp_base.specs.declared.kinds.End.TheVariants as side
use Rattle.rp_base.specs.declared.kinds.Endpoint.{Endpoint}
use Rattle.rp_base.specs.declared.kinds.Era.{Era}
use Rattle.lane_model.specs.Answers.{busy_answer}
use Rattle.lane_model.specs.declared.calls.Answer.{Answer}
use Rattle.lane_model.specs.declared.calls.Answer.TheVariants as answer
use Rattle.lane_model.specs.declared.calls.Ask.{Ask}
use Rattle.lane_model.specs.declared.calls.Ask.TheVariants as ask
use Rattle.lane_model.specs.declared.calls.Progress.{Progress}
use Rattle.lane_model.specs.declared.calls.Progress.TheVariants as progress
use Rattle.lane_model.specs.declared.recoveries.LaneTurn.TheVariants as lane_turn
use Rattle.lane_model.specs.declared.stages.GiveStage.TheVariants as give_stage
use Rattle.lane_model.specs.declared.stages.Work.TheVariants as work
use Rattle.lane_model.specs.Desks.{DeskMeaning}
use Rattle.lane_model.specs.HeldBuffers.{HeldBuffer}
use Rattle.link_words.specs.declared.rule.Call.TheVariants.{Rests}
use Rattle.link_words.specs.declared.rule.Event.{Event}
use Rattle.link_words.specs.declared.rule.Counted.TheVariants.{Gave}
use Rattle.link_words.specs.declared.rule.Event.TheVariants.{Step, Count}
use Rattle.link_words.specs.declared.rule.LinkSizes.{LinkSizes}
use Rattle.link_words.specs.declared.rule.Made.TheVariants as made
use Rattle.link_words.specs.Calls.{SeatState}
use Rattle.link_words.specs.Histories.{latest}
use Rattle.link_words.specs.Steps.{hands_but}
use Rattle.link_words.specs.Words.{other}
use Rattle.split_ring.specs.Binds.{desk_result, DeskAnswers, IsOfDesk, IsDeskWalk}
use Rattle.split_ring.specs.Calls.{ask_of, desk_said, hands_in, hands_with, IsInPhase, IsPath, IsWalkFor, StandsAt, Advances, call_end}
use Rattle.split_ring.specs.Callers.{IsAdvanced}
use Rattle.split_ring.specs.Receives.{IsHeldBy, IsGiveAt}
use Rattle.split_ring.specs.Seats.{IsAt, IsSeatOf, pass_in}
use Rattle.split_ring.specs.Sends.{live_era}
use Rattle.split_ring.specs.Turns.{IsLeaving}
use Rattle.split_ring.specs.Walks.{same_hands, HasDone}
use Rattle.split_ring.specs.declared.binds.DeskAsk.{DeskAsk}
use Rattle.split_ring.specs.declared.binds.DeskAsk.TheVariants as asks
use Rattle.split_ring.specs.declared.binds.DeskFault.{DeskFault}
use Rattle.split_ring.specs.declared.binds.DeskFault.TheVariants as desk_fault
use Rattle.split_ring.specs.declared.callers.Caller.{Caller}
use Rattle.split_ring.specs.declared.callers.CallerId.{CallerId}
use Rattle.split_ring.specs.declared.calls.RingCall.{RingCall}
use Rattle.split_ring.specs.declared.links.SharedLink.{SharedLink}
use Rattle.split_ring.specs.CallPhases.{Phase}
use Rattle.split_ring.specs.CallPhases as phase
use Rattle.split_ring.specs.declared.sends.SendFault.TheVariants as fault
use Rattle.split_ring.specs.declared.takes.TakeFault.TheVariants as take_fault
use Rattle.split_ring.proofs.CallSteps.{and_then, counted}
use Rattle.split_ring.proofs.GiveSteps.{given_now, held_still}
use Rattle.split_ring.proofs.Seats.{done_then, still}
use Rattle.lane_model.specs.declared.calls.CallEnd.TheVariants as end

-- the other end of the other one
pub own_end : (e : End) → other (other e) ≡ e
own_end side.Host = refl
own_end side.Remote = refl

module _ {D : Type 0} (coded : Coded D) (meaning : DeskMeaning D) (z : LinkSizes) (who : CallerId) where
  -- a give, at its second step and at its third
  pub give_stored : (held : HeldBuffer) (old returned : ℕ) (me me' : SeatState) → IsHeldBy who held me → IsGiveAt who returned (work.Give held.number give_stage.Entry) me' → HasDone coded meaning (Step made.Entry ∷ []) same_hands me me'
      → Advances coded meaning z who (phase.Gives give_stage.Turn held old) (progress.At 2) (phase.Gives give_stage.Entry held returned) me me'
  give_stored held old returned me me' holds stored done = let e : Event = Step made.Entry in record {
    events = e ∷ [];
    hands = same_hands;
    one = refl;
    done = done;
    stands = (stored, held_still who held me me' done.in_hand holds);
    comes = λ asked start h. (
      record { steps = e ∷ h.steps; path = (h.path.0, ap (λ (l : List Event). e ∷ l) h.path.1); done = and_then coded meaning z e h.steps start me me' h.done done },
      counted coded meaning z e h.steps _ h.path.1,
    );
  }

  pub give_done : (held : HeldBuffer) (returned : ℕ) (me me' : SeatState) → IsHeldBy who held me → IsLeaving lane_turn.Receiver who.end (end.Gave held.number) me'
      → (inc : ℕ) × (((pass_in me).hands ≡ []) ⊎ (latest (pass_in me).own ≡ inc)) × HasDone coded meaning (Count who.end inc (Gave (returned + 1)) ∷ []) (λ hands. hands_but hands held.number) me me'
      → Advances coded meaning z who (phase.Gives give_stage.Entry held returned) (progress.At 3) (phase.LeavesReceiver (answer.Gave held.number)) me me'
  give_done held returned me me' holds leaves given = let e : Event = Count who.end given.0 (Gave (returned + 1)) in record {
    events = e ∷ [];
    hands = λ hands. hands_but hands held.number;
    one = refl;
    done = given.2;
    stands = leaves;
    comes = λ asked start h.
        let upto : (pass_in me).own ≡ Step made.Entry ∷ Step (made.Turn 0) ∷ (pass_in start).own = h.done.own ∙ ap (λ (l : List Event). l ++ (pass_in start).own) h.path.1 in
        let now : given.0 ≡ latest (pass_in start).own = sym (given_now (pass_in me).hands held.number (pass_in me).own given.0 holds.numbered given.1) ∙ ap latest upto in (
          record {
            steps = e ∷ h.steps;
            path = subst (λ (a : Ask). IsWalkFor coded meaning z who a (answer.Gave held.number) (Step made.Left ∷ e ∷ h.steps) [] start me') (sym h.path.0)
                (Ok held.number, refl, (refl, (returned, (λ i. Step made.Left ∷ Count who.end (now i) (Gave (returned + 1)) ∷ h.path.1 i))));
            done = done_then coded meaning (e ∷ []) h.steps (λ hands. hands_but hands held.number) same_hands start me me' h.done given.2;
          },
          counted coded meaning z e h.steps _ h.path.1,
        );
  }

  -- a binding or an unbinding, at its second step
  desk_walk : (asked : DeskAsk) (r : Result Endpoint DeskFault) (walk later : List Event) (me me' : SeatState) → IsDeskWalk who r walk → IsOfDesk coded meaning z.desks who asked r later me me'
      → IsWalkFor coded meaning z who (ask_of asked) (desk_said asked r) walk later me me'
  desk_walk (asks.Bind address) r walk later me me' is of = (r, refl, is, of)
  desk_walk (asks.Unbind address) r walk later me me' is of = (r, refl, is, of)

  desk_hands : (asked : DeskAsk) (r : Result Endpoint DeskFault) → hands_with (desk_said asked r) ≡ same_hands
  desk_hands (asks.Bind address) (Ok endpoint) = refl
  desk_hands (asks.Unbind address) (Ok endpoint) = refl
  desk_hands asked (Err (desk_fault.Busy holder)) = refl
  desk_hands asked (Err (desk_fault.Dead era)) = refl
  desk_hands asked (Err (desk_fault.Bind found)) = refl

  -- by what it read of the era
  desk_by : (asked : DeskAsk) (r : Result Endpoint DeskFault) (era : Era) (me me' : SeatState) → IsLeaving lane_turn.Receiver who.end (call_end (desk_said asked r)) me' → HasDone coded meaning (Step (made.Era era) ∷ []) same_hands me me'
      → IsDeskWalk who r (Step made.Left ∷ Step (made.Era era) ∷ Step (made.Turn 0) ∷ [])
      → ((start : SeatState) → HasDone coded meaning (Step (made.Turn 0) ∷ []) same_hands start me → IsOfDesk coded meaning z.desks who asked r [] start me')
      → Advances coded meaning z who (phase.Asks asked) (progress.At 2) (phase.LeavesReceiver (desk_said asked r)) me me'
  desk_by asked r era me me' leaves done walk of = let e : Event = Step (made.Era era) in record {
    events = e ∷ [];
    hands = same_hands;
    one = refl;
    done = done;
    stands = leaves;
    comes = λ a start h. (
      record {
        steps = e ∷ h.steps;
        path = subst (λ (b : Ask). IsWalkFor coded meaning z who b (desk_said asked r) (Step made.Left ∷ e ∷ h.steps) [] start me') (sym h.path.0)
            (subst (λ (l : List Event). IsWalkFor coded meaning z who (ask_of asked) (desk_said asked r) (Step made.Left ∷ e ∷ l) [] start me') (sym h.path.1)
            (desk_walk asked r (Step made.Left ∷ e ∷ Step (made.Turn 0) ∷ []) [] start me' walk (of start (subst (λ (l : List Event). HasDone coded meaning l same_hands start me) h.path.1 h.done))));
        done = subst (λ (f : List ℕ → List ℕ). HasDone coded meaning (e ∷ h.steps) f start me') (sym (desk_hands asked r)) (and_then coded meaning z e h.steps start me me' h.done done);
      },
      counted coded meaning z e h.steps _ h.path.1,
    );
  }

  pub desk_done : (asked : DeskAsk) (r : Result (Result Endpoint BindFault) Era) (me me' : SeatState) → IsLeaving lane_turn.Receiver who.end (call_end (desk_said asked (desk_result r))) me'
      → IfOk r (λ said. DeskAnswers coded meaning z.desks who asked said me me' × HasDone coded meaning (Step (made.Era (live_era who.follows)) ∷ []) same_hands me me')
      → IfErr r (λ era. (era ≢ live_era who.follows) × HasDone coded meaning (Step (made.Era era) ∷ []) same_hands me me')
      → Advances coded meaning z who (phase.Asks asked) (progress.At 2) (phase.LeavesReceiver (desk_said asked (desk_result r))) me me'
  desk_done asked (Ok (Ok endpoint)) me me' leaves said dead =
      desk_by asked (Ok endpoint) (live_era who.follows) me me' leaves said.1 refl (λ start first. record { begun = me; changed = me'; first = first; asks = said.0; second = said.1; others = still coded meaning me' me' refl })
  desk_done asked (Ok (Err found)) me me' leaves said dead =
      desk_by asked (Err (desk_fault.Bind found)) (live_era who.follows) me me' leaves said.1 refl (λ start first. record { begun = me; changed = me'; first = first; asks = said.0; second = said.1; others = still coded meaning me' me' refl })
  desk_done asked (Err era) me me' leaves said dead = desk_by asked (Err (desk_fault.Dead era)) era me me' leaves dead.1 (refl, dead.0) (λ start first. tt)

  -- the leave
  later_than : (asked : DeskAsk) (r : Result Endpoint DeskFault) (start me me' : SeatState) → IsOfDesk coded meaning z.desks who asked r [] start me → HasDone coded meaning (Step made.Left ∷ []) same_hands me me'
      → IsOfDesk coded meaning z.desks who asked r (Step made.Left ∷ []) start me'
  later_than asked (Err (desk_fault.Busy holder)) start me me' of left = tt
  later_than asked (Err (desk_fault.Dead era)) start me me' of left = tt
  later_than asked (Err (desk_fault.Bind found)) start me me' of left = record { begun = of.begun; changed = of.changed; first = of.first; asks = of.asks; second = of.second; others = done_then coded meaning (Step made.Left ∷ []) [] same_hands same_hands of.changed me me' of.others left }
  later_than asked (Ok endpoint) start me me' of left = record { begun = of.begun; changed = of.changed; first = of.first; asks = of.asks; second = of.second; others = done_then coded meaning (Step made.Left ∷ []) [] same_hands same_hands of.changed me me' of.others left }

  left_walk : (asked : Ask) (said : Answer) (walk : List Event) (start me me' : SeatState) → IsWalkFor coded meaning z who asked said walk [] start me → HasDone coded meaning (Step made.Left ∷ []) same_hands me me'
      → IsWalkFor coded meaning z who asked said walk (Step made.Left ∷ []) start me'
  left_walk (ask.Send message) said walk start me me' is left = is
  left_walk ask.Take said walk start me me' is left = is
  left_walk (ask.Give held) said walk start me me' is left = is
  left_walk (ask.Bind address) said walk start me me' is left = (is.0, is.1, is.2, later_than (asks.Bind address) is.0 start me me' is.3 left)
  left_walk (ask.Unbind address) said walk start me me' is left = (is.0, is.1, is.2, later_than (asks.Unbind address) is.0 start me me' is.3 left)

  pub left_sender : (said : Answer) (me me' : SeatState) → IsAt me' (Rests (other (other who.end))) [] × HasDone coded meaning (Step made.Left ∷ []) same_hands me me'
      → Advances coded meaning z who (phase.LeavesSender said) (progress.Done said) phase.Ended me me'
  left_sender said me me' left = record {
    events = Step made.Left ∷ [];
    hands = same_hands;
    one = refl;
    done = left.1;
    stands = subst (λ (e : End). IsAt me' (Rests e) []) (own_end who.end) left.0;
    comes = λ asked start h. record {
      walk = Step made.Left ∷ h.steps;
      is = left_walk asked said (Step made.Left ∷ h.steps) start me me' h.path left.1;
      done = done_then coded meaning (Step made.Left ∷ []) h.steps same_hands (hands_with said) start me me' h.done left.1;
    };
  }

  pub left_receiver : (said : Answer) (me me' : SeatState) → IsAt me' (Rests who.end) [] × HasDone coded meaning (Step made.Left ∷ []) same_hands me me'
      → Advances coded meaning z who (phase.LeavesReceiver said) (progress.Done said) phase.Ended me me'
  left_receiver said me me' left = record {
    events = Step made.Left ∷ [];
    hands = same_hands;
    one = refl;
    done = left.1;
    stands = left.0;
    comes = λ asked start h. record {
      walk = Step made.Left ∷ h.steps;
      is = left_walk asked said (Step made.Left ∷ h.steps) start me me' h.path left.1;
      done = done_then coded meaning (Step made.Left ∷ []) h.steps same_hands (hands_with said) start me me' h.done left.1;
    };
  }

  -- the first step, where the turn was free
  pub call_begun : (a : Ask) (next : Phase) (me me1 me' : SeatState) → HasDone coded meaning (Step (made.Turn 0) ∷ []) same_hands me me1 → HasDone coded meaning [] same_hands me1 me' → hands_in next ≡ same_hands → IsInPhase z who next me'
      → ((start : SeatState) → IsPath coded meaning z who a next (Step (made.Turn 0) ∷ []) start me') → Advances coded meaning z who (phase.Asked a) (progress.At 1) next me me'
  call_begun a next me me1 me' entered begun same stands path =
      let done = done_then coded meaning [] (Step (made.Turn 0) ∷ []) same_hands same_hands me me1 me' entered begun in record {
        events = Step (made.Turn 0) ∷ [];
        hands = same_hands;
        one = refl;
        done = done;
        stands = stands;
        comes = λ asked start h. (
          record {
            steps = Step (made.Turn 0) ∷ [];
            path = subst (λ (b : Ask). IsPath coded meaning z who b next (Step (made.Turn 0) ∷ []) start me') h.path.0 (path start);
            done = subst (λ (f : List ℕ → List ℕ). HasDone coded meaning (Step (made.Turn 0) ∷ []) f start me') (sym same)
                (and_then coded meaning z (Step (made.Turn 0)) [] start me me' (subst (λ (l : List Event). HasDone coded meaning l same_hands start me) h.path.1 h.done) done);
          },
          refl,
        );
      }

  -- and where another had it
  busy_walk : (a : Ask) (holder : ℕ) (later : List Event) (start me' : SeatState) → IsWalkFor coded meaning z who a (busy_answer holder (Some a)) (Step (made.Turn (holder + 1)) ∷ []) later start me'
  busy_walk (ask.Send message) holder later start me' = (Err (fault.Busy holder), refl, refl)
  busy_walk ask.Take holder later start me' = (Err (take_fault.Busy holder), refl, refl)
  busy_walk (ask.Give held) holder later start me' = (Err (record { holder = holder; held = held }), refl, (refl, refl))
  busy_walk (ask.Bind address) holder later start me' = (Err (desk_fault.Busy holder), refl, refl, tt)
  busy_walk (ask.Unbind address) holder later start me' = (Err (desk_fault.Busy holder), refl, refl, tt)

  busy_hands : (a : Ask) (holder : ℕ) → hands_with (busy_answer holder (Some a)) ≡ same_hands
  busy_hands (ask.Send message) holder = refl
  busy_hands ask.Take holder = refl
  busy_hands (ask.Give held) holder = refl
  busy_hands (ask.Bind address) holder = refl
  busy_hands (ask.Unbind address) holder = refl

  pub call_refused : (a : Ask) (holder : ℕ) (me me' : SeatState) → IsAt me' (Rests who.end) [] × HasDone coded meaning (Step (made.Turn (holder + 1)) ∷ []) same_hands me me'
      → Advances coded meaning z who (phase.Asked a) (progress.Done (busy_answer holder (Some a))) phase.Ended me me'
  call_refused a holder me me' busy = let e : Event = Step (made.Turn (holder + 1)) in record {
    events = e ∷ [];
    hands = same_hands;
    one = refl;
    done = busy.1;
    stands = busy.0;
    comes = λ asked start h. record {
      walk = e ∷ [];
      is = subst (λ (b : Ask). IsWalkFor coded meaning z who b (busy_answer holder (Some a)) (e ∷ []) (Step made.Left ∷ []) start me') h.path.0 (busy_walk a holder (Step made.Left ∷ []) start me');
      done = subst (λ (f : List ℕ → List ℕ). HasDone coded meaning (e ∷ []) f start me') (sym (busy_hands a holder))
          (and_then coded meaning z e [] start me me' (subst (λ (l : List Event). HasDone coded meaning l same_hands start me) h.path.1 h.done) busy.1);
    };
  }

-- a caller behind a step
pub advanced : {D : Type 0} (link : SharedLink D) (caller : Caller) (call : RingCall D) (said : Progress) → IsSeatOf link.table.shared.table_id link.sizes caller.seat.table_id caller.seat.me → (pass_in caller.seat.me).number ≡ caller.id.number → caller.id.number < 64
    → StandsAt link.sizes caller.id said call.phase caller.seat.me → IsAdvanced link caller call said
advanced link caller call (progress.At number) seat same low stands = record { seat = seat; number = same; low = low; stands = stands }
advanced link caller call (progress.Done said) seat same low stands = record { seat = seat; rests = stands; number = same; low = low }
