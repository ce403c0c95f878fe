-- A step of one caller, and the making of a caller, leave every other caller's next step possible.
use Rattle.std.proofs.Common.{◌≡◌, ◌≢◌, ℕ, zero, suc, ◌||◌, length, Bool, true, false, cond, IsTrue, Option, Some, None, refl, sym, ap, subst, ◌∙◌, arith, List, [], ◌∷◌, nat_lt, slice_set, is_none}
use Rattle.std.proofs.lemmas.Bool.{false≢true, ne_eqb, cond_both}
use Rattle.std.specs.List.{position_or_len}
use Rattle.rp_base.specs.declared.kinds.Era.{Era}
use Rattle.rp_base.specs.declared.kinds.End.{End}
use Rattle.rp_base.specs.declared.kinds.End.TheVariants as side
use Rattle.lane_model.specs.declared.states.LaneState.{LaneState}
use Rattle.lane_model.specs.declared.stages.Turn.{Turn}
use Rattle.lane_model.specs.declared.stages.Turn.TheVariants as turn
use Rattle.lane_model.specs.declared.stages.Work.{Work}
use Rattle.lane_model.specs.declared.calls.Wish.{Wish}
use Rattle.lane_model.specs.declared.calls.Wish.TheVariants as wish
use Rattle.lane_model.specs.Desks.{DeskMeaning}
use Rattle.lane_model.specs.Lanes.{taken_by, holds, has_call}
use Rattle.lane_model.specs.Sends.{send_step, sender_step}
use Rattle.lane_model.specs.Receives.{receive_step, receiver_step}
use Rattle.lane_model.specs.Forms.{list_form}
use Rattle.lane_model.specs.Links.{LinkState, Lanes, lanes_of, end_of, lanes_step, first_step, receive_first, send_later, receive_later, on_lanes, caller_step, free_number, with_caller}
use Rattle.lane_model.specs.Conditions.{MayLanesStep, MayEndStep, MayStep, IsFitWish, is_in_call}
use Rattle.lane_model.proofs.Steps.{turn_step_of, no_other, sender_own, receiver_own, send_on, receive_on}
use Rattle.lane_model.proofs.GoesOn.{same_callers}

-- what a step of another leaves of a caller's calls and buffers on a lane
pub record KeepsOther {D : Type 0} (other : ℕ) (before after : LaneState D) : Type 0 where
  pub sender : has_call after.sender other ≡ has_call before.sender other
  pub receiver : has_call after.receiver other ≡ has_call before.receiver other
  pub held : (number : ℕ) → IsTrue (holds before.lane.held number other) → IsTrue (holds after.lane.held number other)

pub as_it_was : {D : Type 0} (other : ℕ) (state : LaneState D) → KeepsOther other state state
as_it_was other state = record { sender = refl; receiver = refl; held = λ number has. has }

taken_keeps : {C : Type 0} (now : Turn C) (caller other : ℕ) (call : C) → caller ≢ other → has_call (taken_by now caller call) other ≡ has_call now other
taken_keeps turn.Free caller other call differ = ne_eqb _ _ differ
taken_keeps (turn.Taken n now_call) caller other call differ = refl
taken_keeps (turn.Leaving n ended) caller other call differ = refl
taken_keeps turn.Manager caller other call differ = refl

sender_keeps : {D : Type 0} (era : Era) (state : LaneState D) (caller other : ℕ) → caller ≢ other → has_call state.sender caller ≡ true → KeepsOther other state (sender_step era state).state
sender_keeps {D} era state caller other differ is =
    let own = sender_own era state in
    record {
      sender = turn_step_of (λ (after : LaneState D). has_call after.sender other ≡ has_call state.sender other) state (record state { sender = turn.Free }) (λ n s. send_step era state n s s.stage) state.sender caller is
          (sym (no_other state.sender caller other is differ))
          (λ s here. (send_on era state caller s s.stage).0 other ∙ sym (ap (λ now. has_call now other) here));
      receiver = ap (λ now. has_call now other) own.receiver;
      held = λ number has. subst (λ held. IsTrue (holds held number other)) (sym own.held) has;
    }

receiver_keeps : {D : Type 0} (desk : DeskMeaning D) (era : Era) (state : LaneState D) (caller other : ℕ) → caller ≢ other → has_call state.receiver caller ≡ true → KeepsOther other state (receiver_step desk era state).state
receiver_keeps {D} desk era state caller other differ is =
    let own = receiver_own desk era state caller is in
    record {
      sender = ap (λ now. has_call now other) own.sender;
      receiver = turn_step_of (λ (after : LaneState D). has_call after.receiver other ≡ has_call state.receiver other) state (record state { receiver = turn.Free }) (λ n r. receive_step desk era state n r r.work) state.receiver caller is
          (sym (no_other state.receiver caller other is differ))
          (λ r here. (receive_on desk era state caller r r.work).0 other ∙ sym (ap (λ now. has_call now other) here));
      held = λ number has. own.others number other differ has;
    }

record LanesKeepOther {D : Type 0} (other : ℕ) (before after : Lanes (LaneState D)) : Type 0 where
  pub outgoing : KeepsOther other before.outgoing after.outgoing
  pub incoming : KeepsOther other before.incoming after.incoming

work_keeps : {D : Type 0} (desk : DeskMeaning D) (lanes : Lanes (LaneState D)) (caller follows other : ℕ) (first : Work) → caller ≢ other
    → LanesKeepOther other lanes (receive_first (list_form desk) lanes caller follows first).state
work_keeps desk lanes caller follows other first differ = record {
  outgoing = as_it_was other lanes.outgoing;
  incoming = record { sender = refl; receiver = taken_keeps lanes.incoming.receiver caller other _ differ; held = λ number has. has };
}

first_keeps : {D : Type 0} (desk : DeskMeaning D) (lanes : Lanes (LaneState D)) (caller follows other : ℕ) (wished : Wish) → caller ≢ other
    → LanesKeepOther other lanes (first_step (list_form desk) lanes caller follows wished).state
first_keeps desk lanes caller follows other (wish.Send message) differ = record {
  outgoing = record { sender = taken_keeps lanes.outgoing.sender caller other _ differ; receiver = refl; held = λ number has. has };
  incoming = as_it_was other lanes.incoming;
}
first_keeps desk lanes caller follows other wish.Take differ = work_keeps desk lanes caller follows other _ differ
first_keeps desk lanes caller follows other (wish.Give number) differ = work_keeps desk lanes caller follows other _ differ
first_keeps desk lanes caller follows other (wish.Bind address) differ = work_keeps desk lanes caller follows other _ differ
first_keeps desk lanes caller follows other (wish.Unbind address) differ = work_keeps desk lanes caller follows other _ differ

later_keeps : {D : Type 0} (desk : DeskMeaning D) (era : Era) (lanes : Lanes (LaneState D)) (caller other : ℕ) (sends : Bool) → caller ≢ other → has_call lanes.outgoing.sender caller ≡ sends → is_in_call lanes caller ≡ true
    → LanesKeepOther other lanes (cond sends (send_later (list_form desk) era lanes) (receive_later (list_form desk) desk era lanes)).state
later_keeps desk era lanes caller other true differ is calls =
    record { outgoing = sender_keeps era lanes.outgoing caller other differ is; incoming = as_it_was other lanes.incoming }
later_keeps desk era lanes caller other false differ is calls =
    let receives : has_call lanes.incoming.receiver caller ≡ true = sym (ap (λ b. b || has_call lanes.incoming.receiver caller) is) ∙ calls in
    record { outgoing = as_it_was other lanes.outgoing; incoming = receiver_keeps desk era lanes.incoming caller other differ receives }

lanes_keep : {D : Type 0} (desk : DeskMeaning D) (era : Era) (lanes : Lanes (LaneState D)) (caller follows other : ℕ) (wished : Option Wish) → caller ≢ other → MayLanesStep lanes caller wished
    → LanesKeepOther other lanes (lanes_step (list_form desk) desk era lanes caller follows wished).state
lanes_keep desk era lanes caller follows other (Some wished) differ may = first_keeps desk lanes caller follows other wished differ
lanes_keep desk era lanes caller follows other None differ may = later_keeps desk era lanes caller other (has_call lanes.outgoing.sender caller) differ refl may

wish_stays : (wished : Wish) (caller : ℕ) {D : Type 0} (before after : LaneState D) → KeepsOther caller before after → IsFitWish wished before.lane.held caller → IsFitWish wished after.lane.held caller
wish_stays (wish.Send message) caller before after keeps fit = fit
wish_stays wish.Take caller before after keeps fit = tt
wish_stays (wish.Give number) caller before after keeps fit = keeps.held number fit
wish_stays (wish.Bind address) caller before after keeps fit = tt
wish_stays (wish.Unbind address) caller before after keeps fit = tt

in_call_stays : {D : Type 0} (before after : Lanes (LaneState D)) (caller : ℕ) → KeepsOther caller before.outgoing after.outgoing → KeepsOther caller before.incoming after.incoming
    → is_in_call after caller ≡ is_in_call before caller
in_call_stays before after caller outgoing incoming =
    ap (λ b. b || has_call after.incoming.receiver caller) outgoing.sender ∙ ap (λ b. has_call before.outgoing.sender caller || b) incoming.receiver

pub may_stays : {D : Type 0} (before after : Lanes (LaneState D)) (caller : ℕ) (wished : Option Wish) → KeepsOther caller before.outgoing after.outgoing → KeepsOther caller before.incoming after.incoming
    → MayLanesStep before caller wished → MayLanesStep after caller wished
may_stays before after caller (Some wished) outgoing incoming may =
    (in_call_stays before after caller outgoing incoming ∙ may.0, wish_stays wished caller before.incoming after.incoming incoming may.1)
may_stays before after caller None outgoing incoming may = in_call_stays before after caller outgoing incoming ∙ may

ends_may : {D : Type 0} (desk : DeskMeaning D) (link : LinkState D) (mine theirs : Option End) (caller follows other : ℕ) (wished next : Option Wish) → caller ≢ other
    → MayEndStep link mine caller wished → MayEndStep link theirs other next
    → MayEndStep (on_lanes link mine (λ lanes. lanes_step (list_form desk) desk link.era lanes caller follows wished)).state theirs other next
ends_may desk link (Some side.Host) (Some side.Host) caller follows other wished next differ may may_other =
    let kept = lanes_keep desk link.era (lanes_of link side.Host) caller follows other wished differ may in
    may_stays (lanes_of link side.Host) _ other next kept.outgoing kept.incoming may_other
ends_may desk link (Some side.Host) (Some side.Remote) caller follows other wished next differ may may_other =
    let kept = lanes_keep desk link.era (lanes_of link side.Host) caller follows other wished differ may in
    may_stays (lanes_of link side.Remote) _ other next kept.incoming kept.outgoing may_other
ends_may desk link (Some side.Remote) (Some side.Host) caller follows other wished next differ may may_other =
    let kept = lanes_keep desk link.era (lanes_of link side.Remote) caller follows other wished differ may in
    may_stays (lanes_of link side.Host) _ other next kept.incoming kept.outgoing may_other
ends_may desk link (Some side.Remote) (Some side.Remote) caller follows other wished next differ may may_other =
    let kept = lanes_keep desk link.era (lanes_of link side.Remote) caller follows other wished differ may in
    may_stays (lanes_of link side.Remote) _ other next kept.outgoing kept.incoming may_other
ends_may desk link None theirs caller follows other wished next differ may may_other = absurd may
ends_may desk link (Some mine) None caller follows other wished next differ may may_other = absurd may_other

-- a step of one caller leaves every other caller's next step possible
pub others_may : {D : Type 0} (desk : DeskMeaning D) (link : LinkState D) (caller other follows : ℕ) (wished next : Option Wish) → caller ≢ other
    → MayStep link caller wished → MayStep link other next → MayStep (caller_step desk link caller follows wished).state other next
others_may desk link caller other follows wished next differ may may_other =
    let step = caller_step desk link caller follows wished in
    let stay : end_of step.state.callers other ≡ end_of link.callers other = ap (λ callers. end_of callers other) (same_callers link (end_of link.callers caller) _) in
    record {
      may = subst (λ found. MayEndStep step.state found other next) (sym stay)
          (ends_may desk link (end_of link.callers caller) (end_of link.callers other) caller follows other wished next differ may.may may_other.may);
    }

none_some : {A : Type 0} {x : A} {B : Type 0} → None ≡ Some x → B
none_some is = absurd (false≢true (sym (ap is_none is)))

-- a caller in use stays on its end where the first place that is free is taken
placed : (callers : List (Option End)) (new : End) (caller : ℕ) (end : End) → end_of callers caller ≡ Some end
    → end_of (slice_set callers (position_or_len (λ found. is_none found) callers) (Some new)) caller ≡ Some end
placed [] new caller end is = is
placed (None ∷ callers) new zero end is = none_some is
placed (None ∷ callers) new (suc caller) end is = is
placed (Some found ∷ callers) new caller end is =
    let next : position_or_len (λ (f : Option End). is_none f) (Some found ∷ callers) ≡ suc (position_or_len (λ (f : Option End). is_none f) callers) = omega arith in
    subst (λ place. end_of (slice_set (Some found ∷ callers) place (Some new)) caller ≡ Some end) (sym next) (behind caller is (λ n in_use. placed callers new n end in_use))
  where
    behind : (n : ℕ) → end_of (Some found ∷ callers) n ≡ Some end
        → ((m : ℕ) → end_of callers m ≡ Some end → end_of (slice_set callers (position_or_len (λ (f : Option End). is_none f) callers) (Some new)) m ≡ Some end)
        → end_of (slice_set (Some found ∷ callers) (suc (position_or_len (λ (f : Option End). is_none f) callers)) (Some new)) n ≡ Some end
    behind zero in_use rest = in_use
    behind (suc n) in_use rest = rest n in_use

-- a caller in use stays on its end where another is made
pub stays_in_use : (callers : List (Option End)) (new : End) (caller : ℕ) (end : End) → end_of callers caller ≡ Some end
    → end_of (with_caller callers new (free_number callers)) caller ≡ Some end
stays_in_use callers new caller end is =
    cond_both (nat_lt (position_or_len (λ found. is_none found) callers) (length callers)) (Some (position_or_len (λ found. is_none found) callers)) None
    (λ number. end_of (with_caller callers new number) caller ≡ Some end) (λ _. placed callers new caller end is) (λ _. is)

made_may : {D : Type 0} (link : LinkState D) (callers : List (Option End)) (found : Option End) (caller : ℕ) (wished : Option Wish) → end_of link.callers caller ≡ found
    → ((end : End) → end_of link.callers caller ≡ Some end → end_of callers caller ≡ Some end)
    → MayEndStep link found caller wished → MayStep (record link { callers = callers }) caller wished
made_may link callers (Some end) caller wished is stays may =
    record { may = subst (λ found. MayEndStep (record link { callers = callers }) found caller wished) (sym (stays end is)) may }
made_may link callers None caller wished is stays may = absurd may

-- the making of a caller leaves every caller's next step possible
pub caller_may : {D : Type 0} (link : LinkState D) (new : End) (caller : ℕ) (wished : Option Wish) → MayStep link caller wished
    → MayStep (record link { callers = with_caller link.callers new (free_number link.callers) }) caller wished
caller_may link new caller wished may =
    made_may link (with_caller link.callers new (free_number link.callers)) (end_of link.callers caller) caller wished refl (λ end is. stays_in_use link.callers new caller end is) may.may
