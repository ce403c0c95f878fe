-- A step on lanes of some form is the step on the lanes that they stand for.
use Rattle.std.proofs.Common.{◌≡◌, ℕ, Bool, true, false, cond, Option, Some, None, refl, ap}
use Rattle.rp_base.specs.declared.kinds.Era.{Era}
use Rattle.rp_base.specs.declared.kinds.End.{End}
use Rattle.rp_base.specs.declared.kinds.End.TheVariants as side
use Rattle.lane_model.specs.declared.states.LaneState.{LaneState}
use Rattle.lane_model.specs.declared.lane_links.LaneLink.{LaneLink}
use Rattle.lane_model.specs.declared.stages.Work.{Work}
use Rattle.lane_model.specs.declared.calls.Wish.{Wish}
use Rattle.lane_model.specs.declared.calls.Wish.TheVariants as wish
use Rattle.lane_model.specs.Desks.{DeskMeaning}
use Rattle.lane_model.specs.Lanes.{has_call}
use Rattle.lane_model.specs.Forms.{FormMeaning, IsForm, list_form}
use Rattle.lane_model.specs.Links.{link_of, Lanes, lanes_of, end_of, receive_first, send_later, receive_later, lanes_step, on_lanes, form_step, caller_step}
use Rattle.lane_model.proofs.Ends.{lists_of}

work_agrees : {L D : Type 0} (form : FormMeaning L D) (desk : DeskMeaning D) (is : IsForm form desk) (lanes : Lanes L) (caller follows : ℕ) (first : Work)
    → lists_of form (receive_first form lanes caller follows first).state ≡ (receive_first (list_form desk) (lists_of form lanes) caller follows first).state
work_agrees {L} {D} form desk is lanes caller follows first =
    ap (λ (incoming : LaneState D). record { outgoing = form.state lanes.outgoing; incoming = incoming }) (is.after_receive_start lanes.incoming caller follows first)

later_agrees : {L D : Type 0} (form : FormMeaning L D) (desk : DeskMeaning D) (is : IsForm form desk) (era : Era) (lanes : Lanes L) (sends : Bool)
    → lists_of form (cond sends (send_later form era lanes) (receive_later form desk era lanes)).state
    ≡ (cond sends (send_later (list_form desk) era (lists_of form lanes)) (receive_later (list_form desk) desk era (lists_of form lanes))).state
later_agrees {L} {D} form desk is era lanes true = ap (λ (outgoing : LaneState D). record { outgoing = outgoing; incoming = form.state lanes.incoming }) (is.sent_on lanes.outgoing era)
later_agrees {L} {D} form desk is era lanes false = ap (λ (incoming : LaneState D). record { outgoing = form.state lanes.outgoing; incoming = incoming }) (is.received_on lanes.incoming era)

lanes_agree : {L D : Type 0} (form : FormMeaning L D) (desk : DeskMeaning D) (is : IsForm form desk) (era : Era) (lanes : Lanes L) (caller follows : ℕ) (wished : Option Wish)
    → lists_of form (lanes_step form desk era lanes caller follows wished).state ≡ (lanes_step (list_form desk) desk era (lists_of form lanes) caller follows wished).state
lanes_agree {L} {D} form desk is era lanes caller follows (Some (wish.Send message)) =
    ap (λ (outgoing : LaneState D). record { outgoing = outgoing; incoming = form.state lanes.incoming }) (is.after_send_start lanes.outgoing caller follows message)
lanes_agree form desk is era lanes caller follows (Some wish.Take) = work_agrees form desk is lanes caller follows _
lanes_agree form desk is era lanes caller follows (Some (wish.Give number)) = work_agrees form desk is lanes caller follows _
lanes_agree form desk is era lanes caller follows (Some (wish.Bind address)) = work_agrees form desk is lanes caller follows _
lanes_agree form desk is era lanes caller follows (Some (wish.Unbind address)) = work_agrees form desk is lanes caller follows _
lanes_agree form desk is era lanes caller follows None = later_agrees form desk is era lanes (has_call (form.state lanes.outgoing).sender caller)

end_agrees : {L D : Type 0} (form : FormMeaning L D) (desk : DeskMeaning D) (is : IsForm form desk) (link : LaneLink L) (found : Option End) (caller follows : ℕ) (wished : Option Wish)
    → link_of form (on_lanes link found (λ lanes. lanes_step form desk link.era lanes caller follows wished)).state
    ≡ (on_lanes (link_of form link) found (λ lanes. lanes_step (list_form desk) desk link.era lanes caller follows wished)).state
end_agrees {L} {D} form desk is link (Some side.Host) caller follows wished =
    ap (λ (lanes : Lanes (LaneState D)). record { era = link.era; to_host = lanes.incoming; to_remote = lanes.outgoing; callers = link.callers })
    (lanes_agree form desk is link.era (lanes_of link side.Host) caller follows wished)
end_agrees {L} {D} form desk is link (Some side.Remote) caller follows wished =
    ap (λ (lanes : Lanes (LaneState D)). record { era = link.era; to_host = lanes.outgoing; to_remote = lanes.incoming; callers = link.callers })
    (lanes_agree form desk is link.era (lanes_of link side.Remote) caller follows wished)
end_agrees form desk is link None caller follows wished = refl

-- what a step leaves of a link stands for what the step leaves of the link that it stands for
pub step_agrees : {L D : Type 0} (form : FormMeaning L D) (desk : DeskMeaning D) → IsForm form desk → (link : LaneLink L) (caller follows : ℕ) (wished : Option Wish)
    → link_of form (form_step form desk link caller follows wished).state ≡ (caller_step desk (link_of form link) caller follows wished).state
step_agrees form desk is link caller follows wished = end_agrees form desk is link (end_of link.callers caller) caller follows wished
