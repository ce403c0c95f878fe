-- A close leaves every caller's next step possible, a reclaim every other caller's, and a reopening every first step.
use Rattle.std.proofs.Common.{◌≡◌, ◌≢◌, ℕ, zero, suc, ◌-◌, ◌^◌, ◌==◌, if◌then◌else◌, eqb, true, false, fold, Option, Some, None, is_none, refl, sym, ap, subst, ◌∙◌, List, [], ◌∷◌, nat_lt, slice_set}
use Rattle.std.specs.Option.{option_map, option_or}
use Rattle.std.proofs.lemmas.Bool.{false≢true, ne_eqb, cond_both, eqb-true}
use Rattle.rp_base.specs.declared.kinds.Era.{Era}
use Rattle.rp_base.specs.declared.kinds.End.{End}
use Rattle.rp_base.specs.declared.kinds.End.TheVariants as side
use Rattle.lane_model.specs.declared.states.Holding.{Holding}
use Rattle.lane_model.specs.declared.states.LaneState.{LaneState}
use Rattle.lane_model.specs.declared.stages.Turn.{Turn}
use Rattle.lane_model.specs.declared.stages.Turn.TheVariants as turn
use Rattle.lane_model.specs.declared.calls.Wish.{Wish}
use Rattle.lane_model.specs.declared.recoveries.ReopenFault.{ReopenFault}
use Rattle.lane_model.specs.declared.recoveries.ReopenFault.TheVariants as reopen_fault
use Rattle.lane_model.specs.Desks.{DeskMeaning}
use Rattle.lane_model.specs.Lanes.{has_call, is_live_in}
use Rattle.lane_model.specs.Crashes.{ended_turn, least_held, lesser, after_receive_end, after_send_end, turn_out}
use Rattle.lane_model.specs.Forms.{list_form}
use Rattle.lane_model.specs.Links.{LinkState, lanes_of, end_of}
use Rattle.lane_model.specs.Recoveries.{link_after_close, link_after_reclaim, link_after_reopen, link_reopen_refusal, without_caller}
use Rattle.lane_model.specs.Conditions.{IsFitWish, MayEndStep, MayStep}
use Rattle.lane_model.proofs.Others.{KeepsOther, may_stays}
use Rattle.lane_model.proofs.CrashSteps.{others_still_hold}

end_may : {D : Type 0} (link : LinkState D) (era : Era) (found : Option End) (caller : ℕ) (next : Option Wish)
    → MayEndStep link found caller next → MayEndStep (record link { era = era }) found caller next
end_may link era (Some side.Host) caller (Some wanted) may = may
end_may link era (Some side.Host) caller None may = may
end_may link era (Some side.Remote) caller (Some wanted) may = may
end_may link era (Some side.Remote) caller None may = may
end_may link era None caller next may = may

-- a close leaves every caller's next step possible
pub close_may : {D : Type 0} (link : LinkState D) (caller inc : ℕ) (next : Option Wish) → MayStep link caller next → MayStep (link_after_close link inc) caller next
close_may {D} link caller inc next may =
    cond_both (is_live_in link.era inc) (record link { era = record { inc = inc; is_live = false } }) link (λ (left : LinkState D). MayStep left caller next)
    (λ _. record { may = end_may link (record { inc = inc; is_live = false }) (end_of link.callers caller) caller next may.may }) (λ _. may)

-- another's call stays where this caller's is gone
ended_keeps : {C : Type 0} (now : Turn C) (caller other : ℕ) → caller ≢ other → has_call (ended_turn now caller) other ≡ has_call now other
ended_keeps turn.Free caller other differ = refl
ended_keeps {C} (turn.Taken one call) caller other differ =
    cond_both (eqb one caller) turn.Free (turn.Taken one call) (λ (now : Turn C). has_call now other ≡ eqb one other)
    (λ is. sym (ne_eqb one other (λ same. differ (sym (eqb-true one caller is) ∙ same)))) (λ _. refl)
ended_keeps {C} (turn.Leaving one ended) caller other differ =
    cond_both (eqb one caller) turn.Free (turn.Leaving one ended) (λ (now : Turn C). has_call now other ≡ eqb one other)
    (λ is. sym (ne_eqb one other (λ same. differ (sym (eqb-true one caller is) ∙ same)))) (λ _. refl)
ended_keeps turn.Manager caller other differ = refl

send_keeps : {D : Type 0} (state : LaneState D) (caller other : ℕ) → caller ≢ other → KeepsOther other state (after_send_end state caller)
send_keeps state caller other differ = record { sender = ended_keeps state.sender caller other differ; receiver = refl; held = λ number has. has }

receive_keeps : {D : Type 0} (state : LaneState D) (caller other : ℕ) → caller ≢ other → KeepsOther other state (after_receive_end state caller)
receive_keeps state caller other differ = record {
  sender = refl;
  receiver = ended_keeps state.receiver caller other differ;
  held = λ number has. others_still_hold state.lane.held caller number other (ne_eqb other caller (λ same. differ (sym same))) has;
}

ends_may : {D : Type 0} (desk : DeskMeaning D) (link : LinkState D) (mine theirs : Option End) (caller other : ℕ) (next : Option Wish) → caller ≢ other
    → MayEndStep link theirs other next → MayEndStep (without_caller (list_form desk) link mine caller) theirs other next
ends_may desk link (Some side.Host) (Some side.Host) caller other next differ may =
    may_stays (lanes_of link side.Host) _ other next (send_keeps link.to_remote caller other differ) (receive_keeps link.to_host caller other differ) may
ends_may desk link (Some side.Host) (Some side.Remote) caller other next differ may =
    may_stays (lanes_of link side.Remote) _ other next (receive_keeps link.to_host caller other differ) (send_keeps link.to_remote caller other differ) may
ends_may desk link (Some side.Remote) (Some side.Host) caller other next differ may =
    may_stays (lanes_of link side.Host) _ other next (receive_keeps link.to_remote caller other differ) (send_keeps link.to_host caller other differ) may
ends_may desk link (Some side.Remote) (Some side.Remote) caller other next differ may =
    may_stays (lanes_of link side.Remote) _ other next (send_keeps link.to_host caller other differ) (receive_keeps link.to_remote caller other differ) may
ends_may desk link None theirs caller other next differ may = may
ends_may desk link (Some mine) None caller other next differ may = absurd may

-- a caller stays where another's number is freed
pub freed : (callers : List (Option End)) (gone caller : ℕ) → gone ≢ caller → end_of (slice_set callers gone None) caller ≡ end_of callers caller
freed [] gone caller differ = refl
freed (found ∷ callers) zero zero differ = absurd (differ refl)
freed (found ∷ callers) zero (suc caller) differ = refl
freed (found ∷ callers) (suc gone) zero differ = refl
freed (found ∷ callers) (suc gone) (suc caller) differ = freed callers gone caller (λ same. differ (ap suc same))

-- another is on the end on which it was
same_end : {D : Type 0} (desk : DeskMeaning D) (link : LinkState D) (mine : Option End) (caller other : ℕ) → caller ≢ other
    → end_of (without_caller (list_form desk) link mine caller).callers other ≡ end_of link.callers other
same_end desk link (Some side.Host) caller other differ = freed link.callers caller other differ
same_end desk link (Some side.Remote) caller other differ = freed link.callers caller other differ
same_end desk link None caller other differ = refl

-- a reclaim leaves every other caller's next step possible
pub reclaim_may : {D : Type 0} (desk : DeskMeaning D) (link : LinkState D) (caller other : ℕ) (next : Option Wish) → caller ≢ other
    → MayStep link other next → MayStep (link_after_reclaim (list_form desk) link caller) other next
reclaim_may desk link caller other next differ may = record {
  may = subst (λ found. MayEndStep (link_after_reclaim (list_form desk) link caller) found other next) (sym (same_end desk link (end_of link.callers caller) caller other differ))
      (ends_may desk link (end_of link.callers caller) (end_of link.callers other) caller other next differ may.may);
}

-- some buffer stays the least from the first on
some_least : (held : List Holding) (least : Holding) → is_none (fold lesser (Some least) held) ≡ false
some_least [] least = refl
some_least (h ∷ hs) least =
    cond_both (nat_lt h.number least.number) (Some h) (Some least) (λ next. is_none (fold lesser next hs) ≡ false) (λ _. some_least hs h) (λ _. some_least hs least)

-- where there is no least buffer, none is held
none_held : (held : List Holding) → is_none (least_held held) ≡ true → held ≡ []
none_held [] none = refl
none_held (h ∷ hs) none = absurd (false≢true (sym (some_least hs h) ∙ none))

-- neither of two is there
neither : {A : Type 0} (one other : Option A) → is_none (option_or one other) ≡ true → (is_none one ≡ true) × (is_none other ≡ true)
neither None other none = (refl, none)
neither (Some one) other none = absurd (false≢true none)

map_none : {A B : Type 0} (f : A → B) (one : Option A) → is_none (option_map f one) ≡ true → is_none one ≡ true
map_none f None none = refl
map_none f (Some one) none = absurd (false≢true none)

-- on a link that is reopened nothing is held
pub reopen_unheld : {D : Type 0} (link : LinkState D) → link_reopen_refusal link ≡ None → (link.to_host.lane.held ≡ []) × (link.to_remote.lane.held ≡ [])
reopen_unheld {D} link clear =
    let live : Option ReopenFault = if link.era.is_live then Some (reopen_fault.StillOpen link.era) else None in
    let turned : Option ReopenFault = option_map reopen_fault.StillTurn (option_or (turn_out link.to_host) (turn_out link.to_remote)) in
    let least : Option Holding = option_or (least_held link.to_host.lane.held) (least_held link.to_remote.lane.held) in
    let holds : Option ReopenFault = option_map (λ (h : Holding). reopen_fault.StillHeld h.caller h.number) least in
    let spent : Option ReopenFault = if link.era.inc == 2 ^ 32 - 1 then Some reopen_fault.IncarnationsSpent else None in
    let first = neither {A = ReopenFault} live (option_or turned (option_or holds spent)) (ap (λ (f : Option ReopenFault). is_none f) clear) in
    let second = neither {A = ReopenFault} turned (option_or holds spent) first.1 in
    let third = neither {A = ReopenFault} holds spent second.1 in
    let both = neither {A = Holding} (least_held link.to_host.lane.held) (least_held link.to_remote.lane.held) (map_none {A = Holding} {B = ReopenFault} (λ h. reopen_fault.StillHeld h.caller h.number) least third.0) in
    (none_held link.to_host.lane.held both.0, none_held link.to_remote.lane.held both.1)

wish_fits : (wanted : Wish) (held : List Holding) (caller : ℕ) → held ≡ [] → IsFitWish wanted held caller → IsFitWish wanted [] caller
wish_fits wanted held caller none fit = subst (λ (left : List Holding). IsFitWish wanted left caller) none fit

first_may : {D : Type 0} (desk : DeskMeaning D) (link : LinkState D) (found : Option End) (caller : ℕ) (wanted : Wish)
    → (link.to_host.lane.held ≡ []) × (link.to_remote.lane.held ≡ []) → MayEndStep link found caller (Some wanted) → MayEndStep (link_after_reopen (list_form desk) link) found caller (Some wanted)
first_may desk link (Some side.Host) caller wanted none may = (refl, wish_fits wanted link.to_host.lane.held caller none.0 may.1)
first_may desk link (Some side.Remote) caller wanted none may = (refl, wish_fits wanted link.to_remote.lane.held caller none.1 may.1)
first_may desk link None caller wanted none may = absurd may

-- a reopening leaves the first step of each call that is begun possible
pub reopen_may : {D : Type 0} (desk : DeskMeaning D) (link : LinkState D) (caller : ℕ) (wanted : Wish) → link_reopen_refusal link ≡ None
    → MayStep link caller (Some wanted) → MayStep (link_after_reopen (list_form desk) link) caller (Some wanted)
reopen_may desk link caller wanted clear may = record { may = first_may desk link (end_of link.callers caller) caller wanted (reopen_unheld link clear) may.may }
