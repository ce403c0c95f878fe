-- The parts of a reclaimed caller: what they show of what it holds, and that they are as they came.
use Rattle.lane_model.specs.declared.stages.GiveStage.TheVariants as give_stage
use Rattle.lane_model.specs.declared.stages.SendStage.TheVariants as stage
use Rattle.lane_model.specs.declared.stages.TakeStage.TheVariants as take_stage
use Rattle.link_words.proofs.Froms.{stands_left, stands_right}
use Rattle.split_ring.specs.Callers.{IsCallerOf, MayAdvance}
use Rattle.split_ring.specs.Calls.{IsInPhase}
use Rattle.split_ring.specs.declared.calls.RingCall.{RingCall}
use Rattle.lane_model.specs.declared.calls.Ask.{Ask}
use Rattle.std.specs.Prelude.{Result, Ok, Err}
use Rattle.lane_model.specs.declared.calls.Answer.{Answer}
use Rattle.split_ring.specs.declared.sends.SendFault.{SendFault}
use Rattle.split_ring.specs.declared.sends.SendFault.TheVariants as send_fault
use Rattle.split_ring.specs.declared.takes.Taken.{Taken}
use Rattle.split_ring.specs.declared.takes.TakeFault.{TakeFault}
use Rattle.split_ring.specs.declared.takes.TakeFault.TheVariants as take_fault
use Rattle.split_ring.specs.Calls.{HasCome, send_answer, take_answer, hands_with}
use Rattle.split_ring.specs.Reclaims.{taken_buffer, asked_buffer}
use Rattle.lane_model.specs.declared.calls.Answer.TheVariants as answer
use Rattle.std.proofs.Common.{inl, inr, zero, suc, ◌⊎◌, ⊎_elim, ◌≡◌, ◌<◌, ℕ, Bool, true, false, List, [], ◌∷◌, ◌++◌, map, refl, sym, ap, ◌∙◌, subst}
use Rattle.std.specs.List.{slice_get}
use Rattle.std.specs.Prelude.{Option, Some, None}
use mathlib.Core.Option.{some, some-ne-none}
use lib.ListN.{get_elem?}
use Rattle.rp_base.specs.declared.kinds.Era.{Era}
use Rattle.lane_model.specs.declared.calls.Ask.TheVariants as ask
use Rattle.lane_model.specs.declared.recoveries.ReclaimRefusal.{ReclaimRefusal}
use Rattle.lane_model.specs.declared.recoveries.ReclaimRefusal.TheVariants as refusal
use Rattle.lane_model.specs.HeldBuffers.{HeldBuffer}
use Rattle.link_words.specs.declared.rule.LinkSizes.{LinkSizes}
use Rattle.link_words.specs.declared.rule.Pass.{Pass}
use Rattle.link_words.specs.Calls.{SeatState}
use Rattle.link_words.specs.Passes.{HasNumber}
use Rattle.split_ring.specs.declared.callers.CallerId.{CallerId}
use Rattle.split_ring.specs.CallPhases.{Phase}
use Rattle.split_ring.specs.CallPhases as phase
use Rattle.split_ring.specs.declared.ends.TurnHeld.{TurnHeld}
use Rattle.split_ring.specs.declared.links.SharedLink.{SharedLink}
use base.Stored.{Coded}
use Rattle.lane_model.specs.Desks.{DeskMeaning}
use Rattle.split_ring.specs.declared.reclaims.Parts.{Parts}
use Rattle.split_ring.specs.PartsOf.{IsAllOf, AreHeldBy, AreSame, HoldsItsOwn, HoldsNoOther, LooksAgain, NeedsTurn, TellsHands}
use Rattle.split_ring.specs.Receives.{IsHeldBy}
use Rattle.split_ring.specs.Reclaims.{StandsIn, IsNow, IsEndFault, IsAnothers, buffer_in, has_buffer, is_turn, lacks_receiver, phase_of, turn_in}
use Rattle.split_ring.specs.Seats.{pass_in}
use Rattle.split_ring.proofs.CloseSteps.{IsLike, at_noted, held_noted, phase_noted}
use Rattle.split_ring.proofs.EndSteps.{none_behind, pass_is, one_is, seat_now}

pub true-false : true ≡ false → ⊥
true-false e = absurd (cc)

-- a call that gives no buffer back
no_buffer : (p : Phase) → has_buffer p ≡ false → buffer_in p ≡ []
no_buffer (phase.Asked (ask.Send message)) none = refl
no_buffer (phase.Asked ask.Take) none = refl
no_buffer (phase.Asked (ask.Give given)) none = absurd (true-false none)
no_buffer (phase.Asked (ask.Bind address)) none = refl
no_buffer (phase.Asked (ask.Unbind address)) none = refl
no_buffer (phase.Sends s c message) none = refl
no_buffer (phase.Takes s c buffer) none = refl
no_buffer (phase.Gives s given returned) none = absurd (true-false none)
no_buffer (phase.Asks asked) none = refl
no_buffer (phase.LeavesSender (answer.Sent number)) none = refl
no_buffer (phase.LeavesSender (answer.Took held verdict)) none = absurd (true-false none)
no_buffer (phase.LeavesSender (answer.Gave number)) none = refl
no_buffer (phase.LeavesSender (answer.Bound endpoint)) none = refl
no_buffer (phase.LeavesSender (answer.Unbound endpoint)) none = refl
no_buffer (phase.LeavesSender (answer.Busy holder)) none = refl
no_buffer (phase.LeavesSender (answer.GiveBusy holder held)) none = refl
no_buffer (phase.LeavesSender (answer.Dead era)) none = refl
no_buffer (phase.LeavesSender (answer.NoBuffer accepted returned)) none = refl
no_buffer (phase.LeavesSender (answer.BookFull accepted)) none = refl
no_buffer (phase.LeavesSender (answer.Empty accepted)) none = refl
no_buffer (phase.LeavesSender (answer.Refused fault)) none = refl
no_buffer (phase.LeavesReceiver (answer.Sent number)) none = refl
no_buffer (phase.LeavesReceiver (answer.Took held verdict)) none = absurd (true-false none)
no_buffer (phase.LeavesReceiver (answer.Gave number)) none = refl
no_buffer (phase.LeavesReceiver (answer.Bound endpoint)) none = refl
no_buffer (phase.LeavesReceiver (answer.Unbound endpoint)) none = refl
no_buffer (phase.LeavesReceiver (answer.Busy holder)) none = refl
no_buffer (phase.LeavesReceiver (answer.GiveBusy holder held)) none = refl
no_buffer (phase.LeavesReceiver (answer.Dead era)) none = refl
no_buffer (phase.LeavesReceiver (answer.NoBuffer accepted returned)) none = refl
no_buffer (phase.LeavesReceiver (answer.BookFull accepted)) none = refl
no_buffer (phase.LeavesReceiver (answer.Empty accepted)) none = refl
no_buffer (phase.LeavesReceiver (answer.Refused fault)) none = refl
no_buffer phase.Ended none = refl

no_numbers : (hands : List ℕ) → ((n : ℕ) → HasNumber hands n → ⊥) → hands ≡ []
no_numbers [] none = refl
no_numbers (n ∷ ns) none = absurd (none n (0, refl))

none_of : (n : ℕ) → HasNumber [] n → ⊥
none_of n (k, at) = some-ne-none n (sym at)

-- and one that gives one back, or was handed one
some_buffer : (p : Phase) → has_buffer p ≡ true → (n : ℕ) × HasNumber (buffer_in p) n
some_buffer (phase.Asked (ask.Give given)) is = (given.number, (0, refl))
some_buffer (phase.Gives s given returned) is = (given.number, (0, refl))
some_buffer (phase.LeavesSender (answer.Took held verdict)) is = (held.number, (0, refl))
some_buffer (phase.LeavesReceiver (answer.Took held verdict)) is = (held.number, (0, refl))
some_buffer (phase.Asked (ask.Send message)) is = absurd (true-false (sym is))
some_buffer (phase.Asked ask.Take) is = absurd (true-false (sym is))
some_buffer (phase.Asked (ask.Bind address)) is = absurd (true-false (sym is))
some_buffer (phase.Asked (ask.Unbind address)) is = absurd (true-false (sym is))
some_buffer (phase.Sends s c message) is = absurd (true-false (sym is))
some_buffer (phase.Takes s c buffer) is = absurd (true-false (sym is))
some_buffer (phase.Asks asked) is = absurd (true-false (sym is))
some_buffer (phase.LeavesSender (answer.Sent number)) is = absurd (true-false (sym is))
some_buffer (phase.LeavesSender (answer.Gave number)) is = absurd (true-false (sym is))
some_buffer (phase.LeavesSender (answer.Bound endpoint)) is = absurd (true-false (sym is))
some_buffer (phase.LeavesSender (answer.Unbound endpoint)) is = absurd (true-false (sym is))
some_buffer (phase.LeavesSender (answer.Busy holder)) is = absurd (true-false (sym is))
some_buffer (phase.LeavesSender (answer.GiveBusy holder held)) is = absurd (true-false (sym is))
some_buffer (phase.LeavesSender (answer.Dead era)) is = absurd (true-false (sym is))
some_buffer (phase.LeavesSender (answer.NoBuffer accepted returned)) is = absurd (true-false (sym is))
some_buffer (phase.LeavesSender (answer.BookFull accepted)) is = absurd (true-false (sym is))
some_buffer (phase.LeavesSender (answer.Empty accepted)) is = absurd (true-false (sym is))
some_buffer (phase.LeavesSender (answer.Refused fault)) is = absurd (true-false (sym is))
some_buffer (phase.LeavesReceiver (answer.Sent number)) is = absurd (true-false (sym is))
some_buffer (phase.LeavesReceiver (answer.Gave number)) is = absurd (true-false (sym is))
some_buffer (phase.LeavesReceiver (answer.Bound endpoint)) is = absurd (true-false (sym is))
some_buffer (phase.LeavesReceiver (answer.Unbound endpoint)) is = absurd (true-false (sym is))
some_buffer (phase.LeavesReceiver (answer.Busy holder)) is = absurd (true-false (sym is))
some_buffer (phase.LeavesReceiver (answer.GiveBusy holder held)) is = absurd (true-false (sym is))
some_buffer (phase.LeavesReceiver (answer.Dead era)) is = absurd (true-false (sym is))
some_buffer (phase.LeavesReceiver (answer.NoBuffer accepted returned)) is = absurd (true-false (sym is))
some_buffer (phase.LeavesReceiver (answer.BookFull accepted)) is = absurd (true-false (sym is))
some_buffer (phase.LeavesReceiver (answer.Empty accepted)) is = absurd (true-false (sym is))
some_buffer (phase.LeavesReceiver (answer.Refused fault)) is = absurd (true-false (sym is))
some_buffer phase.Ended is = absurd (true-false (sym is))

some_none : {A : Type 0} (x : A) → Some x ≡ None → ⊥
some_none x e = absurd (cc)

-- the first of some buffers, where there is one
first_at : (held : List HeldBuffer) (first : HeldBuffer) → Some first ≡ slice_get held 0 → get_elem? held 0 ≡ some first
first_at [] first is = absurd (some_none first is)
first_at (buffer ∷ held) first is = cc

no_first : (held : List HeldBuffer) → None ≡ slice_get held 0 → held ≡ []
no_first [] is = refl
no_first (buffer ∷ held) is = absurd (some_none buffer (sym is))

-- what a caller holds, by the phase of its call and its buffers: where there is a buffer, that is in its hands
module _ (who : CallerId) (p : Phase) (held : List HeldBuffer) (me : SeatState) where
  pub told_held : AreHeldBy who held me → (first : HeldBuffer) → Some first ≡ slice_get held 0 → TellsHands true me
  told_held theirs first is = record { some = λ _. (first.number, (theirs 0 first (first_at held first is)).numbered); none = λ bad. absurd (true-false bad) }

  -- and where there is none, what its call gives back or was handed is all
  pub told_call : HoldsNoOther p held me → HoldsItsOwn p me → None ≡ slice_get held 0 → (is_giving : Bool) → is_giving ≡ has_buffer p → TellsHands is_giving me
  told_call all own none is_giving is = record {
    some = λ gives. let n = some_buffer p (sym is ∙ gives) in (n.0, own n.0 n.1);
    none = λ empty. no_numbers (pass_in me).hands (λ n has. none_of n
        (subst (λ (l : List ℕ). HasNumber l n) (λ i. no_buffer p (sym is ∙ empty) i ++ map (λ (buffer : HeldBuffer). buffer.number) (no_first held none i)) (all n has)));
  }

-- by what is told of its hands: a caller that holds something needs the turn that its call lacks
module _ (p : Phase) (me : SeatState) (is_holding : Bool) (told : TellsHands is_holding me) (turn : TurnHeld) (same : turn ≡ turn_in p) where
  pub needs_turn : (is_holding ≡ true) × (lacks_receiver turn ≡ true) → NeedsTurn p me
  needs_turn why = let n = told.some why.0 in record { number = n.0; holds = n.1; lacks = subst (λ (t : TurnHeld). lacks_receiver t ≡ true) same why.1 }

  -- a second look at the era was for a turn or for what is held
  pub looks_again : (is_turn turn ≡ true) ⊎ (is_holding ≡ true) → LooksAgain p me
  looks_again why = ⊎_elim (λ (has : is_turn turn ≡ true). inl (sym (ap is_turn same) ∙ has)) (λ (holds : is_holding ≡ true). inr (told.some holds)) why

-- a seat that has the same pass is like it was
like_now : (me me' : SeatState) → IsNow (pass_in me) me.1 me me' → IsLike me me'
like_now me me' now = let is = pass_is me' (pass_in me) now.one in record {
  one = one_is me' (pass_in me) now.one;
  in_call = ap (λ (p : Pass). p.call) is;
  in_hand = ap (λ (p : Pass). p.hands) is;
  slots = now.out;
}

stands_like : (z : LinkSizes) (who : CallerId) (p : Phase) (me me' : SeatState) → IsLike me me' → StandsIn z who p me → StandsIn z who p me'
stands_like z who (phase.Asked asked) me me' n has = phase_noted me me' n z who (phase.Asked asked) has
stands_like z who (phase.Sends s c message) me me' n has = phase_noted me me' n z who (phase.Sends s c message) has
stands_like z who (phase.Takes s c buffer) me me' n has = phase_noted me me' n z who (phase.Takes s c buffer) has
stands_like z who (phase.Gives s given returned) me me' n has = phase_noted me me' n z who (phase.Gives s given returned) has
stands_like z who (phase.Asks asked) me me' n has = phase_noted me me' n z who (phase.Asks asked) has
stands_like z who (phase.LeavesSender answer) me me' n has = phase_noted me me' n z who (phase.LeavesSender answer) has
stands_like z who (phase.LeavesReceiver answer) me me' n has = phase_noted me me' n z who (phase.LeavesReceiver answer) has
stands_like z who phase.Ended me me' n has = at_noted me me' n _ _ has

pub all_same : {D : Type 0} (link : SharedLink D) (before after : Parts D) → AreSame before after → IsAllOf link before → IsAllOf link after
all_same link before after same all =
    let me = before.caller.seat.me in let me' = after.caller.seat.me in let n = like_now me me' same.seat in let is = pass_is me' (pass_in me) same.seat.one in record {
      user = record {
        seat = seat_now link.table.shared.table_id link.sizes before.caller.seat.table_id after.caller.seat.table_id (pass_in me) me.1 me me' same.table same.seat all.user.seat;
        one = n.one;
        number = ap (λ (p : Pass). p.number) is ∙ (all.user.number ∙ ap (λ (i : CallerId). i.number) (sym same.id));
        low = subst (λ (i : CallerId). i.number < 64) (sym same.id) all.user.low;
      };
      stands = subst (λ (i : CallerId). StandsIn link.sizes i (phase_of after.call) me') (sym same.id) (subst (λ (p : Phase). StandsIn link.sizes before.caller.id p me') (ap phase_of (sym same.call)) (stands_like link.sizes before.caller.id (phase_of before.call) me me' n all.stands));
      held = λ place buffer has. subst (λ (i : CallerId). IsHeldBy i buffer me') (sym same.id) (held_noted me me' n before.caller.id buffer (all.held place buffer ((λ i. get_elem? (sym same.held i).items place) ∙ has)));
      all = λ number has. subst (λ (l : List ℕ). HasNumber l number) (λ i. buffer_in (phase_of (sym same.call i)) ++ map (λ (buffer : HeldBuffer). buffer.number) (sym same.held i).items) (all.all number (subst (λ (l : List ℕ). HasNumber l number) n.in_hand has));
      own = λ number has. subst (λ (l : List ℕ). HasNumber l number) (sym n.in_hand) (all.own number (subst (λ (o : Option (RingCall _)). HasNumber (buffer_in (phase_of o)) number) same.call has));
    }

-- why a call was not ended
module _ {D : Type 0} (coded : Coded D) (meaning : DeskMeaning D) (who : CallerId) (turn : TurnHeld) (is_holding : Bool) (fault : ReclaimRefusal) where
  pub open_is : (era : Era) → fault ≡ refusal.StillOpen era → IsEndFault coded meaning who turn is_holding fault → (era.is_live ≡ true) × ((is_turn turn ≡ true) ⊎ (is_holding ≡ true))
  open_is era is why = subst (IsEndFault coded meaning who turn is_holding) is why

  pub busy_is : (holder : ℕ) → fault ≡ refusal.Busy holder → IsEndFault coded meaning who turn is_holding fault → IsAnothers coded meaning who holder × (is_holding ≡ true) × (lacks_receiver turn ≡ true)
  busy_is holder is why = subst (IsEndFault coded meaning who turn is_holding) is why

abbrev pub IsSendOrTake : Ask → Type 0
IsSendOrTake (ask.Send message) = Unit {0}
IsSendOrTake ask.Take = Unit {0}
IsSendOrTake (ask.Give given) = ⊥
IsSendOrTake (ask.Bind address) = ⊥
IsSendOrTake (ask.Unbind address) = ⊥

-- the call of a caller that asked for a send or a take leaves in its hands what was there, and what a take was handed
with_send : {D : Type 0} (coded : Coded D) (meaning : DeskMeaning D) (r : Result ℕ SendFault) (hands : List ℕ) → (taken_buffer (send_answer r) ≡ []) × (hands_with (send_answer r) hands ≡ hands)
with_send coded meaning (Ok number) hands = (refl, refl)
with_send coded meaning (Err (send_fault.Busy holder)) hands = (refl, refl)
with_send coded meaning (Err (send_fault.Dead era)) hands = (refl, refl)
with_send coded meaning (Err (send_fault.NoBuffer accepted returned)) hands = (refl, refl)
with_send coded meaning (Err (send_fault.BookFull accepted)) hands = (refl, refl)

with_take : {D : Type 0} (coded : Coded D) (meaning : DeskMeaning D) (r : Result Taken TakeFault) (hands : List ℕ) → hands_with (take_answer r) hands ≡ hands ++ taken_buffer (take_answer r)
with_take coded meaning (Ok taken) hands = refl
with_take coded meaning (Err (take_fault.Busy holder)) hands = none_behind hands
with_take coded meaning (Err (take_fault.Dead era)) hands = none_behind hands
with_take coded meaning (Err (take_fault.Empty accepted)) hands = none_behind hands

module _ {D : Type 0} (coded : Coded D) (meaning : DeskMeaning D) (z : LinkSizes) (who : CallerId) (start me : SeatState) where
  came_send : (message : List ℕ) (p : Phase) → HasCome coded meaning z who (ask.Send message) start p me → (pass_in me).hands ≡ (pass_in start).hands ++ buffer_in p
  came_send message (phase.Asked asked) c = c.done.in_hand ∙ (none_behind (pass_in start).hands ∙ ap (λ (a : Ask). (pass_in start).hands ++ asked_buffer a) (sym c.path.0))
  came_send message (phase.Sends s k m) c = c.done.in_hand ∙ none_behind (pass_in start).hands
  came_send message (phase.Takes s k buffer) c = c.done.in_hand ∙ none_behind (pass_in start).hands
  came_send message (phase.Gives s given returned) c = absurd (send_give message given c.path.0)
    where
      send_give : (message : List ℕ) (given : HeldBuffer) → ask.Send message ≡ ask.Give given → ⊥
      send_give message given e = absurd (cc)
  came_send message (phase.Asks asked) c = c.done.in_hand ∙ none_behind (pass_in start).hands
  came_send message (phase.LeavesSender said) c = let w = with_send coded meaning c.path.0 (pass_in start).hands in
      c.done.in_hand ∙ (ap (λ (a : Answer). hands_with a (pass_in start).hands) c.path.1 ∙ (w.1 ∙ (none_behind (pass_in start).hands ∙ ap (λ (l : List ℕ). (pass_in start).hands ++ l) (sym (ap taken_buffer c.path.1 ∙ w.0)))))
  came_send message (phase.LeavesReceiver said) c = let w = with_send coded meaning c.path.0 (pass_in start).hands in
      c.done.in_hand ∙ (ap (λ (a : Answer). hands_with a (pass_in start).hands) c.path.1 ∙ (w.1 ∙ (none_behind (pass_in start).hands ∙ ap (λ (l : List ℕ). (pass_in start).hands ++ l) (sym (ap taken_buffer c.path.1 ∙ w.0)))))
  came_send message phase.Ended c = absurd c.path

  came_take : (p : Phase) → HasCome coded meaning z who ask.Take start p me → (pass_in me).hands ≡ (pass_in start).hands ++ buffer_in p
  came_take (phase.Asked asked) c = c.done.in_hand ∙ (none_behind (pass_in start).hands ∙ ap (λ (a : Ask). (pass_in start).hands ++ asked_buffer a) (sym c.path.0))
  came_take (phase.Sends s k m) c = c.done.in_hand ∙ none_behind (pass_in start).hands
  came_take (phase.Takes s k buffer) c = c.done.in_hand ∙ none_behind (pass_in start).hands
  came_take (phase.Gives s given returned) c = absurd (take_give given c.path.0)
    where
      take_give : (given : HeldBuffer) → ask.Take ≡ ask.Give given → ⊥
      take_give given e = absurd (cc)
  came_take (phase.Asks asked) c = c.done.in_hand ∙ none_behind (pass_in start).hands
  came_take (phase.LeavesSender said) c = c.done.in_hand ∙ (ap (λ (a : Answer). hands_with a (pass_in start).hands) c.path.1 ∙ (with_take coded meaning c.path.0 (pass_in start).hands ∙ ap (λ (a : Answer). (pass_in start).hands ++ taken_buffer a) (sym c.path.1)))
  came_take (phase.LeavesReceiver said) c = c.done.in_hand ∙ (ap (λ (a : Answer). hands_with a (pass_in start).hands) c.path.1 ∙ (with_take coded meaning c.path.0 (pass_in start).hands ∙ ap (λ (a : Answer). (pass_in start).hands ++ taken_buffer a) (sym c.path.1)))
  came_take phase.Ended c = absurd c.path

  -- a call of either kind
  pub came_hands : (asked : Ask) → IsSendOrTake asked → (p : Phase) → HasCome coded meaning z who asked start p me → (pass_in me).hands ≡ (pass_in start).hands ++ buffer_in p
  came_hands (ask.Send message) is p c = came_send message p c
  came_hands ask.Take is p c = came_take p c
  came_hands (ask.Give given) is p c = absurd is
  came_hands (ask.Bind address) is p c = absurd is
  came_hands (ask.Unbind address) is p c = absurd is

-- a number of two lists is one of either, in either order
either_of : (xs ys : List ℕ) (n : ℕ) → HasNumber (xs ++ ys) n → HasNumber xs n ⊎ HasNumber ys n
either_of [] ys n has = inr has
either_of (x ∷ xs) ys n (zero, at) = inl (0, at)
either_of (x ∷ xs) ys n (suc k, at) = ⊎_elim (λ (h : HasNumber xs n). inl (suc h.0, h.1)) (λ (h : HasNumber ys n). inr h) (either_of xs ys n (k, at))

turned_round : (xs ys : List ℕ) (n : ℕ) → HasNumber (xs ++ ys) n → HasNumber (ys ++ xs) n
turned_round xs ys n has = ⊎_elim (λ (h : HasNumber xs n). stands_right ys xs n h) (λ (h : HasNumber ys n). stands_left ys xs n h) (either_of xs ys n has)

-- a call that is under way has the one pass of its seat
phase_one : (z : LinkSizes) (who : CallerId) (p : Phase) (me : SeatState) → IsInPhase z who p me → me.0.passes ≡ pass_in me ∷ []
phase_one z who (phase.Asked asked) me has = has.0.one
phase_one z who (phase.Sends stage.Turn c m) me has = has.0.0.one
phase_one z who (phase.Sends stage.Era c m) me has = has.0.0.one
phase_one z who (phase.Sends stage.Look c m) me has = has.0.0.one
phase_one z who (phase.Sends stage.Buffer c m) me has = has.0.1.0.one
phase_one z who (phase.Sends stage.Entry c m) me has = has.0.0.one
phase_one z who (phase.Takes take_stage.Turn c b) me has = has.0.at.one
phase_one z who (phase.Takes take_stage.Era c b) me has = has.0.at.one
phase_one z who (phase.Takes take_stage.Look c b) me has = has.0.at.one
phase_one z who (phase.Takes take_stage.Buffer c b) me has = has.0.1.at.one
phase_one z who (phase.Gives give_stage.Turn held returned) me has = has.0.3.one
phase_one z who (phase.Gives give_stage.Entry held returned) me has = has.0.at.one
phase_one z who (phase.Asks asked) me has = has.3.one
phase_one z who (phase.LeavesSender said) me has = has.3.one
phase_one z who (phase.LeavesReceiver said) me has = has.4.one
phase_one z who phase.Ended me has = absurd has

stands_of : (z : LinkSizes) (who : CallerId) (p : Phase) (me : SeatState) → IsInPhase z who p me → StandsIn z who p me
stands_of z who (phase.Asked asked) me has = has
stands_of z who (phase.Sends s c m) me has = has
stands_of z who (phase.Takes s c b) me has = has
stands_of z who (phase.Gives s held returned) me has = has
stands_of z who (phase.Asks asked) me has = has
stands_of z who (phase.LeavesSender said) me has = has
stands_of z who (phase.LeavesReceiver said) me has = has
stands_of z who phase.Ended me has = absurd has

-- the parts of a caller that has come so far in a call: its buffers are those that it had, and what the call was handed
module _ {D : Type 0} (coded : Coded D) (meaning : DeskMeaning D) (link : SharedLink D) (parts : Parts D) (call : RingCall D) (asked : Ask) (start : SeatState) where
  pub parts_in_call : parts.call ≡ Some call → MayAdvance link parts.caller call → IsSendOrTake asked → HasCome coded meaning link.sizes parts.caller.id asked start call.phase parts.caller.seat.me
      → (pass_in start).hands ≡ map (λ buffer. buffer.number) parts.held.items → ((place : ℕ) (buffer : HeldBuffer) → get_elem? parts.held.items place ≡ some buffer → IsHeldBy parts.caller.id buffer start) → IsAllOf link parts
  parts_in_call is may kind come hands held =
      let me = parts.caller.seat.me in let h : List ℕ = (pass_in start).hands in let b : List ℕ = buffer_in call.phase in let all = came_hands coded meaning link.sizes parts.caller.id start me asked kind call.phase come in
      let here : buffer_in (phase_of parts.call) ≡ b = ap (λ (o : Option (RingCall D)). buffer_in (phase_of o)) is in record {
        user = record { seat = may.seat; one = phase_one link.sizes parts.caller.id call.phase me may.stands; number = may.number; low = may.low };
        stands = subst (λ (o : Option (RingCall D)). StandsIn link.sizes parts.caller.id (phase_of o) me) (sym is) (stands_of link.sizes parts.caller.id call.phase me may.stands);
        held = λ place buffer at. let o = held place buffer at in record { lane = o.lane; caller = o.caller; numbered = subst (λ (l : List ℕ). HasNumber l buffer.number) (sym all) (stands_left h b buffer.number o.numbered) };
        all = λ n has. subst (λ (l : List ℕ). HasNumber (l ++ map (λ buffer. buffer.number) parts.held.items) n) (sym here) (subst (λ (l : List ℕ). HasNumber (b ++ l) n) hands (turned_round h b n (subst (λ (l : List ℕ). HasNumber l n) all has)));
        own = λ n has. subst (λ (l : List ℕ). HasNumber l n) (sym all) (stands_right h b n (subst (λ (l : List ℕ). HasNumber l n) here has));
      }

-- the parts of a caller in no call
pub parts_at_rest : {D : Type 0} (link : SharedLink D) (parts : Parts D) → parts.call ≡ None → IsCallerOf link parts.caller → (pass_in parts.caller.seat.me).hands ≡ map (λ buffer. buffer.number) parts.held.items
    → ((place : ℕ) (buffer : HeldBuffer) → get_elem? parts.held.items place ≡ some buffer → IsHeldBy parts.caller.id buffer parts.caller.seat.me) → IsAllOf link parts
parts_at_rest {D} link parts is rests hands held =
    let here : buffer_in (phase_of parts.call) ≡ [] = ap (λ (o : Option (RingCall D)). buffer_in (phase_of o)) is in record {
      user = record { seat = rests.seat; one = rests.rests.one; number = rests.number; low = rests.low };
      stands = subst (λ (o : Option (RingCall D)). StandsIn link.sizes parts.caller.id (phase_of o) parts.caller.seat.me) (sym is) rests.rests;
      held = held;
      all = λ n has. subst (λ (l : List ℕ). HasNumber (l ++ map (λ buffer. buffer.number) parts.held.items) n) (sym here) (subst (λ (l : List ℕ). HasNumber l n) hands has);
      own = λ n has. absurd (none_of n (subst (λ (l : List ℕ). HasNumber l n) here has));
    }
