-- The steps of a call up to its end, one after the other.
use Rattle.std.proofs.Common.{◌≡◌, ◌<◌, ℕ, zero, suc, Bool, true, false, cond, Option, Some, None, refl, sym, ap, subst, ◌∙◌}
use Rattle.rp_base.specs.declared.kinds.Era.{Era}
use Rattle.rp_base.specs.declared.kinds.End.{End}
use Rattle.rp_base.specs.declared.kinds.End.TheVariants as side
use Rattle.lane_model.specs.declared.states.LaneState.{LaneState}
use Rattle.lane_model.specs.declared.lane_links.LaneLink.{LaneLink}
use Rattle.lane_model.specs.declared.calls.Wish.{Wish}
use Rattle.lane_model.specs.declared.calls.Wish.TheVariants as wish
use Rattle.lane_model.specs.declared.calls.CallEnd.{CallEnd}
use Rattle.lane_model.specs.declared.calls.Outcome.TheVariants as outcome
use Rattle.lane_model.specs.Desks.{DeskMeaning}
use Rattle.lane_model.specs.Lanes.{has_call}
use Rattle.lane_model.specs.Forms.{FormMeaning, list_form}
use Rattle.lane_model.specs.Links.{LinkState, link_of, Lanes, lanes_of, end_of, send_later, receive_later, lanes_step, on_lanes, form_step, caller_step}
use Rattle.lane_model.specs.Conditions.{MayStep}
use Rattle.lane_model.specs.WholeCalls.{Ended, form_to_end, steps_to_end, left_of, WhereOn, HasEnd}
use Rattle.lane_model.proofs.GoesOn.{goes_on, six_suffice}

-- the lanes that these stand for
abbrev pub lists_of : {L D : Type 0} → FormMeaning L D → Lanes L → Lanes (LaneState D)
lists_of form lanes = record { outgoing = form.state lanes.outgoing; incoming = form.state lanes.incoming }

later_outcome : {L D : Type 0} (form : FormMeaning L D) (desk : DeskMeaning D) (era : Era) (lanes : Lanes L) (sends : Bool)
    → (cond sends (send_later form era lanes) (receive_later form desk era lanes)).outcome
    ≡ (cond sends (send_later (list_form desk) era (lists_of form lanes)) (receive_later (list_form desk) desk era (lists_of form lanes))).outcome
later_outcome form desk era lanes true = refl
later_outcome form desk era lanes false = refl

lanes_outcome : {L D : Type 0} (form : FormMeaning L D) (desk : DeskMeaning D) (era : Era) (lanes : Lanes L) (caller follows : ℕ) (wished : Option Wish)
    → (lanes_step form desk era lanes caller follows wished).outcome ≡ (lanes_step (list_form desk) desk era (lists_of form lanes) caller follows wished).outcome
lanes_outcome form desk era lanes caller follows (Some (wish.Send message)) = refl
lanes_outcome form desk era lanes caller follows (Some wish.Take) = refl
lanes_outcome form desk era lanes caller follows (Some (wish.Give number)) = refl
lanes_outcome form desk era lanes caller follows (Some (wish.Bind address)) = refl
lanes_outcome form desk era lanes caller follows (Some (wish.Unbind address)) = refl
lanes_outcome form desk era lanes caller follows None = later_outcome form desk era lanes (has_call (form.state lanes.outgoing).sender caller)

end_outcome : {L D : Type 0} (form : FormMeaning L D) (desk : DeskMeaning D) (link : LaneLink L) (found : Option End) (caller follows : ℕ) (wished : Option Wish)
    → (on_lanes link found (λ lanes. lanes_step form desk link.era lanes caller follows wished)).outcome
    ≡ (on_lanes (link_of form link) found (λ lanes. lanes_step (list_form desk) desk link.era lanes caller follows wished)).outcome
end_outcome form desk link (Some side.Host) caller follows wished = lanes_outcome form desk link.era (lanes_of link side.Host) caller follows wished
end_outcome form desk link (Some side.Remote) caller follows wished = lanes_outcome form desk link.era (lanes_of link side.Remote) caller follows wished
end_outcome form desk link None caller follows wished = refl

-- a step does the same to its call, whatever the form of the lanes
pub same_outcome : {L D : Type 0} (form : FormMeaning L D) (desk : DeskMeaning D) (link : LaneLink L) (caller follows : ℕ) (wished : Option Wish)
    → (form_step form desk link caller follows wished).outcome ≡ (caller_step desk (link_of form link) caller follows wished).outcome
same_outcome form desk link caller follows wished = end_outcome form desk link (end_of link.callers caller) caller follows wished

-- the last step of a call, and what it leaves
pub step_ends : {L D : Type 0} (n : ℕ) (form : FormMeaning L D) (desk : DeskMeaning D) (link : LaneLink L) (caller follows : ℕ) (wished : Option Wish) (end : CallEnd)
    → outcome.Ended end ≡ (form_step form desk link caller follows wished).outcome
    → form_to_end (suc n) form desk link caller follows wished ≡ Some (record { state = (form_step form desk link caller follows wished).state; end = end })
unfolding form_to_end
step_ends n form desk link caller follows wished end is = rw (← is) refl

-- a step that goes on, and the rest
pub step_goes_on : {L D : Type 0} (n : ℕ) (form : FormMeaning L D) (desk : DeskMeaning D) (link : LaneLink L) (caller follows : ℕ) (wished : Option Wish) (step : ℕ)
    → outcome.At step ≡ (form_step form desk link caller follows wished).outcome
    → form_to_end (suc n) form desk link caller follows wished ≡ form_to_end n form desk (form_step form desk link caller follows wished).state caller follows None
unfolding form_to_end
step_goes_on n form desk link caller follows wished step is = rw (← is) refl

-- a later step doesn't ask which incarnation the call follows
pub any_follows : {L D : Type 0} (n : ℕ) (form : FormMeaning L D) (desk : DeskMeaning D) (link : LaneLink L) (caller follows other : ℕ)
    → form_to_end n form desk link caller follows None ≡ form_to_end n form desk link caller other None
unfolding form_to_end
any_follows zero form desk link caller follows other = refl
any_follows (suc n) form desk link caller follows other =
    let step = form_step form desk link caller other None in
    rw (any_follows n form desk step.state caller follows other) refl

-- where a step goes on, another may follow
pub may_again : {D : Type 0} (desk : DeskMeaning D) (link : LinkState D) (caller follows : ℕ) (wished : Option Wish) (step : ℕ)
    → outcome.At step ≡ (caller_step desk link caller follows wished).outcome
    → MayStep link caller wished → MayStep (caller_step desk link caller follows wished).state caller None
may_again desk link caller follows wished step is may =
    let next = caller_step desk link caller follows wished in
    (subst (λ said. WhereOn said (MayStep next.state caller None × (left_of next.state caller None < left_of link caller wished))) (sym is) (goes_on desk link caller follows wished may)).0

no_end : {S : Type 0} (found : Option (Ended S)) → HasEnd found → None ≡ found → ⊥
no_end None has is = has
no_end (Some ended) has is = cc

none_left : {D : Type 0} (desk : DeskMeaning D) (link : LinkState D) (caller follows : ℕ) (wished : Option Wish) → None ≡ steps_to_end zero desk link caller follows wished
unfolding form_to_end
none_left desk link caller follows wished = refl

-- a call under way doesn't go on after six steps
pub six_are_enough : {D : Type 0} (desk : DeskMeaning D) (link left : LinkState D) (caller n : ℕ) → MayStep link caller None → n ≡ zero
    → steps_to_end n desk left caller 0 None ≡ steps_to_end 6 desk link caller 0 None → ⊥
six_are_enough desk link left caller n may none is =
    no_end _ (six_suffice desk link caller 0 may) (none_left desk left caller 0 None ∙ ap (λ m. steps_to_end m desk left caller 0 None) (sym none) ∙ is)
