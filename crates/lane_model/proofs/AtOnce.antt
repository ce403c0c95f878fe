-- Calls that are refused nowhere: each step of theirs, one after the other.
use Rattle.std.proofs.Common.{◌≡◌, ◌&&◌, ◌||◌, ℕ, zero, suc, Bool, true, false, cond, List, length, Option, Some, None, refl, sym, ap, ap₂, subst, ◌∙◌}
use Rattle.rp_base.specs.declared.kinds.Era.{Era}
use Rattle.rp_base.specs.declared.kinds.End.{End}
use Rattle.rp_base.specs.declared.kinds.End.TheVariants as side
use Rattle.lane_model.specs.declared.states.LaneState.{LaneState}
use Rattle.lane_model.specs.declared.lane_links.LaneLink.{LaneLink}
use Rattle.lane_model.specs.declared.stages.Sending.{Sending}
use Rattle.lane_model.specs.declared.stages.SendStage.{SendStage}
use Rattle.lane_model.specs.declared.stages.SendStage.TheVariants as stage
use Rattle.lane_model.specs.declared.stages.Receiving.{Receiving}
use Rattle.lane_model.specs.declared.stages.Work.{Work}
use Rattle.lane_model.specs.declared.stages.Work.TheVariants as work
use Rattle.lane_model.specs.declared.stages.TakeStage.TheVariants as take_stage
use Rattle.lane_model.specs.declared.stages.GiveStage.TheVariants as give_stage
use Rattle.lane_model.specs.declared.stages.Turn.{Turn}
use Rattle.lane_model.specs.declared.stages.Turn.TheVariants as turn
use Rattle.lane_model.specs.declared.calls.Wish.{Wish}
use Rattle.lane_model.specs.declared.calls.Wish.TheVariants as wish
use Rattle.lane_model.specs.declared.calls.CallEnd.{CallEnd}
use Rattle.lane_model.specs.declared.calls.CallEnd.TheVariants as call_end
use Rattle.lane_model.specs.declared.calls.Outcome.{Outcome}
use Rattle.lane_model.specs.declared.calls.Outcome.TheVariants as outcome
use Rattle.lane_model.specs.Desks.{DeskMeaning}
use Rattle.lane_model.specs.Lanes.{Stepped, holder, has_call, is_live_in}
use Rattle.lane_model.specs.Sends.{after_send_start, sender_step, with_accepted}
use Rattle.lane_model.specs.Receives.{after_receive_start, receiver_step, after_handing, with_returned}
use Rattle.lane_model.specs.Forms.{FormMeaning, IsForm}
use Rattle.lane_model.specs.Links.{LinkState, link_of, Lanes, lanes_of, with_lanes, end_of, receive_first, on_lanes, form_step}
use Rattle.lane_model.specs.AtOnce.{after_send, after_take, after_give, SendsAtOnce, TakesAtOnce, took_next, FormEndsIn, EndsIn}
use Rattle.std.specs.Bool.{OnTrue}
use Rattle.lane_model.specs.Conditions.{MayEndStep}
use Rattle.lane_model.proofs.Steps.{same}
use Rattle.lane_model.proofs.FormSteps.{step_agrees}
use Rattle.lane_model.proofs.Ends.{same_outcome}

-- neither of two, where not one of them
or_none : (a b : Bool) → (a || b) ≡ false → a ≡ false
or_none true b none = absurd (cc)
or_none false b none = refl

abbrev stepped : {S : Type 0} → S → Outcome → Stepped S
stepped state outcome = record { state = state; outcome = outcome }

-- nobody has a free turn
pub free_is : {C : Type 0} (now : Turn C) → holder now ≡ None → now ≡ turn.Free
free_is turn.Free free = refl
free_is (turn.Taken caller call) free = absurd (cc)
free_is (turn.Leaving caller end) free = absurd (cc)
free_is turn.Manager free = absurd (cc)

-- a live era is live in its incarnation
pub live_in : (era : Era) → era.is_live ≡ true → is_live_in era era.inc ≡ true
live_in era live = ap₂ (λ a b. a && b) (same era.inc) live

-- the last step
ends_now : {L D : Type 0} (form : FormMeaning L D) (desk : DeskMeaning D) (link : LaneLink L) (caller follows : ℕ) (wished : Option Wish) (left : LaneLink L) (end : CallEnd)
    → form_step form desk link caller follows wished ≡ stepped left (outcome.Ended end) → FormEndsIn zero form desk link caller follows wished left end
unfolding FormEndsIn
ends_now {L} form desk link caller follows wished left end is = (ap (λ (s : Stepped (LaneLink L)). s.outcome) is, ap (λ (s : Stepped (LaneLink L)). s.state) is)

-- a step in front of others
ends_more : {L D : Type 0} (more : ℕ) (form : FormMeaning L D) (desk : DeskMeaning D) (link next : LaneLink L) (caller follows : ℕ) (wished : Option Wish) (number : ℕ) (left : LaneLink L) (end : CallEnd)
    → form_step form desk link caller follows wished ≡ stepped next (outcome.At number) → FormEndsIn more form desk next caller 0 None left end
    → FormEndsIn (suc more) form desk link caller follows wished left end
unfolding FormEndsIn
ends_more {L} more form desk link next caller follows wished number left end is rest = (
  number,
  ap (λ (s : Stepped (LaneLink L)). s.outcome) is,
  subst (λ (state : LaneLink L). FormEndsIn more form desk state caller 0 None left end) (sym (ap (λ (s : Stepped (LaneLink L)). s.state) is)) rest,
)

-- a call that ends so on lanes of some form ends so on the lanes that they stand for
pub lists_end : {L D : Type 0} (more : ℕ) (form : FormMeaning L D) (desk : DeskMeaning D) → IsForm form desk → (link : LaneLink L) (caller follows : ℕ) (wished : Option Wish) (left : LaneLink L) (end : CallEnd)
    → FormEndsIn more form desk link caller follows wished left end → EndsIn more desk (link_of form link) caller follows wished (link_of form left) end
unfolding FormEndsIn
lists_end zero form desk is link caller follows wished left end ends =
    (sym (same_outcome form desk link caller follows wished) ∙ ends.0, sym (step_agrees form desk is link caller follows wished) ∙ ap (link_of form) ends.1)
lists_end {L} {D} (suc more) form desk is link caller follows wished left end ends = (
  ends.0,
  sym (same_outcome form desk link caller follows wished) ∙ ends.1,
  subst (λ (state : LinkState D). EndsIn more desk state caller 0 None (link_of form left) end) (step_agrees form desk is link caller follows wished)
      (lists_end more form desk is (form_step form desk link caller follows wished).state caller 0 None left end ends.2),
)

-- step 1 of a send
send_begins : {L D : Type 0} (form : FormMeaning L D) (desk : DeskMeaning D) (link : LaneLink L) (end : End) (caller follows : ℕ) (message : List ℕ) → end_of link.callers caller ≡ Some end
    → holder (form.state (lanes_of link end).outgoing).sender ≡ None
    → form_step form desk link caller follows (Some (wish.Send message))
    ≡ stepped (with_lanes link end (record (lanes_of link end) { outgoing = form.after_send_start (lanes_of link end).outgoing caller follows message })) (outcome.At 1)
send_begins form desk link side.Host caller follows message used free = rw (used, free) refl
send_begins form desk link side.Remote caller follows message used free = rw (used, free) refl

-- a later step of a send
send_goes : {L D : Type 0} (form : FormMeaning L D) (desk : DeskMeaning D) (link : LaneLink L) (end : End) (lanes : Lanes L) (caller : ℕ) (out : Outcome) → end_of link.callers caller ≡ Some end
    → has_call (form.state lanes.outgoing).sender caller ≡ true → (sender_step link.era (form.state lanes.outgoing)).outcome ≡ out
    → form_step form desk (with_lanes link end lanes) caller 0 None ≡ stepped (with_lanes link end (record lanes { outgoing = form.sent_on lanes.outgoing link.era })) out
send_goes form desk link side.Host lanes caller out used has is = rw (used, has, is) refl
send_goes form desk link side.Remote lanes caller out used has is = rw (used, has, is) refl

-- step 1 of a call that needs the receiver's turn
receive_begins : {L D : Type 0} (form : FormMeaning L D) (link : LaneLink L) (end : End) (caller follows : ℕ) (first : Work) → holder (form.state (lanes_of link end).incoming).receiver ≡ None
    → on_lanes link (Some end) (λ lanes. receive_first form lanes caller follows first)
    ≡ stepped (with_lanes link end (record (lanes_of link end) { incoming = form.after_receive_start (lanes_of link end).incoming caller follows first })) (outcome.At 1)
receive_begins form link side.Host caller follows first free = rw free refl
receive_begins form link side.Remote caller follows first free = rw free refl

-- a later step of such a call
receive_goes : {L D : Type 0} (form : FormMeaning L D) (desk : DeskMeaning D) (link : LaneLink L) (end : End) (lanes : Lanes L) (caller : ℕ) (out : Outcome) → end_of link.callers caller ≡ Some end
    → has_call (form.state lanes.outgoing).sender caller ≡ false → (receiver_step desk link.era (form.state lanes.incoming)).outcome ≡ out
    → form_step form desk (with_lanes link end lanes) caller 0 None ≡ stepped (with_lanes link end (record lanes { incoming = form.received_on lanes.incoming link.era })) out
receive_goes form desk link side.Host lanes caller out used has is = rw (used, has, is) refl
receive_goes form desk link side.Remote lanes caller out used has is = rw (used, has, is) refl

-- a later step, by the state that the lane stands for
on_sent : {L D : Type 0} (form : FormMeaning L D) (desk : DeskMeaning D) → IsForm form desk → (lane : L) (era : Era) (state : LaneState D) → form.state lane ≡ state
    → form.state (form.sent_on lane era) ≡ (sender_step era state).state
on_sent {L} {D} form desk is lane era state at = is.sent_on lane era ∙ ap (λ (s : LaneState D). (sender_step era s).state) at

on_received : {L D : Type 0} (form : FormMeaning L D) (desk : DeskMeaning D) → IsForm form desk → (lane : L) (era : Era) (state : LaneState D) → form.state lane ≡ state
    → form.state (form.received_on lane era) ≡ (receiver_step desk era state).state
on_received {L} {D} form desk is lane era state at = is.received_on lane era ∙ ap (λ (s : LaneState D). (receiver_step desk era s).state) at

-- the lane whose sender's turn is this
abbrev sent : {D : Type 0} → LaneState D → Turn Sending → LaneState D
sent state next = record state { sender = next }

-- the lane whose receiver's turn is this
abbrev received : {D : Type 0} → LaneState D → Turn Receiving → LaneState D
received state next = record state { receiver = next }

-- a send that is refused nowhere ends with its seventh step
pub send_ends : {L D : Type 0} (form : FormMeaning L D) (desk : DeskMeaning D) → IsForm form desk → (link : LaneLink L) (end : End) (caller : ℕ) (message : List ℕ) → end_of link.callers caller ≡ Some end
    → link.era.is_live ≡ true → SendsAtOnce (form.state (lanes_of link end).outgoing)
    → FormEndsIn 6 form desk link caller link.era.inc (Some (wish.Send message))
    (with_lanes link end (record (lanes_of link end) { outgoing = after_send form (lanes_of link end).outgoing link.era caller message }))
    (call_end.Sent (length (form.state (lanes_of link end).outgoing).lane.accepted))
send_ends {L} {D} form desk is link end caller message used live at =
    let era = link.era in
    let lanes = lanes_of link end in
    let state : LaneState D = form.state lanes.outgoing in
    let ended = call_end.Sent (length state.lane.accepted) in
    let call : SendStage → Turn Sending = λ last. turn.Taken caller (record { follows = era.inc; message = message; stage = last }) in
    let mine = same caller in
    let link_at : L → LaneLink L = λ lane. with_lanes link end (record lanes { outgoing = lane }) in
    let l1 : L = form.after_send_start lanes.outgoing caller era.inc message in
    let l2 : L = form.sent_on l1 era in
    let l3 : L = form.sent_on l2 era in
    let l4 : L = form.sent_on l3 era in
    let l5 : L = form.sent_on l4 era in
    let l6 : L = form.sent_on l5 era in
    let l7 : L = form.sent_on l6 era in
    let free = free_is state.sender at.free in
    let s1 : form.state l1 ≡ sent state (call stage.Turn) =
    is.after_send_start lanes.outgoing caller era.inc message ∙ ap (λ (now : Turn Sending). after_send_start (sent state now) caller era.inc message) free in
    let s2 : form.state l2 ≡ sent state (call stage.Era) =
    on_sent form desk is l1 era (sent state (call stage.Turn)) s1 ∙ ap (λ v. sent state (cond v (call stage.Era) (turn.Leaving caller (call_end.Dead era)))) (live_in era live) in
    let s3 : form.state l3 ≡ sent state (call stage.Look) =
    on_sent form desk is l2 era (sent state (call stage.Era)) s2
    ∙ ap₂ (λ v w. sent state (cond v (turn.Leaving caller (call_end.NoBuffer (length state.lane.accepted) state.lane.returned)) (cond w (turn.Leaving caller (call_end.BookFull (length state.lane.accepted))) (call stage.Look)))) at.room at.book in
    let s4 : form.state l4 ≡ sent state (call stage.Buffer) = on_sent form desk is l3 era (sent state (call stage.Look)) s3 in
    let s5 : form.state l5 ≡ sent state (call stage.Entry) = on_sent form desk is l4 era (sent state (call stage.Buffer)) s4 in
    let s6 : form.state l6 ≡ record state { lane = with_accepted state.lane caller message; sender = turn.Leaving caller ended } = on_sent form desk is l5 era (sent state (call stage.Entry)) s5 in
    let has : (lane : L) (now : Turn Sending) → has_call now caller ≡ true → (form.state lane).sender ≡ now → has_call (form.state lane).sender caller ≡ true =
    λ lane now with_call at_now. ap (λ (t : Turn Sending). has_call t caller) at_now ∙ with_call in
    let sender_of : (lane : L) (s : LaneState D) → form.state lane ≡ s → (form.state lane).sender ≡ s.sender = λ lane s at_s. ap (λ (x : LaneState D). x.sender) at_s in
    let out : (lane : L) (s : LaneState D) → form.state lane ≡ s → (sender_step era (form.state lane)).outcome ≡ (sender_step era s).outcome = λ lane s at_s. ap (λ (x : LaneState D). (sender_step era x).outcome) at_s in
    ends_more 5 form desk link (link_at l1) caller era.inc (Some (wish.Send message)) 1 (link_at l7) ended (send_begins form desk link end caller era.inc message used at.free)
    (ends_more 4 form desk (link_at l1) (link_at l2) caller 0 None 2 (link_at l7) ended (send_goes form desk link end (record lanes { outgoing = l1 }) caller (outcome.At 2) used (has l1 (call stage.Turn) mine (sender_of l1 _ s1)) (out l1 _ s1))
    (ends_more 3 form desk (link_at l2) (link_at l3) caller 0 None 3 (link_at l7) ended (send_goes form desk link end (record lanes { outgoing = l2 }) caller (outcome.At 3) used (has l2 (call stage.Era) mine (sender_of l2 _ s2)) (out l2 _ s2))
    (ends_more 2 form desk (link_at l3) (link_at l4) caller 0 None 4 (link_at l7) ended (send_goes form desk link end (record lanes { outgoing = l3 }) caller (outcome.At 4) used (has l3 (call stage.Look) mine (sender_of l3 _ s3)) (out l3 _ s3))
    (ends_more 1 form desk (link_at l4) (link_at l5) caller 0 None 5 (link_at l7) ended (send_goes form desk link end (record lanes { outgoing = l4 }) caller (outcome.At 5) used (has l4 (call stage.Buffer) mine (sender_of l4 _ s4)) (out l4 _ s4))
    (ends_more 0 form desk (link_at l5) (link_at l6) caller 0 None 6 (link_at l7) ended (send_goes form desk link end (record lanes { outgoing = l5 }) caller (outcome.At 6) used (has l5 (call stage.Entry) mine (sender_of l5 _ s5)) (out l5 _ s5))
    (ends_now form desk (link_at l6) caller 0 None (link_at l7) ended (send_goes form desk link end (record lanes { outgoing = l6 }) caller (outcome.Ended ended) used (has l6 (turn.Leaving caller ended) mine (sender_of l6 _ s6)) (out l6 _ s6))))))))

-- step 1 of a call that needs the receiver's turn, of a caller in use
works_begin : {L D : Type 0} (form : FormMeaning L D) (link : LaneLink L) (end : End) (caller follows : ℕ) (first : Work) → end_of link.callers caller ≡ Some end
    → holder (form.state (lanes_of link end).incoming).receiver ≡ None
    → on_lanes link (end_of link.callers caller) (λ lanes. receive_first form lanes caller follows first)
    ≡ stepped (with_lanes link end (record (lanes_of link end) { incoming = form.after_receive_start (lanes_of link end).incoming caller follows first })) (outcome.At 1)
works_begin {L} form link end caller follows first used free =
    ap (λ found. on_lanes link found (λ (lanes : Lanes L). receive_first form lanes caller follows first)) used ∙ receive_begins form link end caller follows first free

-- a take that is refused nowhere ends with its sixth step
pub take_ends : {L D : Type 0} (form : FormMeaning L D) (desk : DeskMeaning D) → IsForm form desk → (link : LaneLink L) (end : End) (caller : ℕ) → end_of link.callers caller ≡ Some end
    → link.era.is_live ≡ true → has_call (form.state (lanes_of link end).outgoing).sender caller ≡ false → TakesAtOnce (form.state (lanes_of link end).incoming)
    → FormEndsIn 5 form desk link caller link.era.inc (Some wish.Take)
    (with_lanes link end (record (lanes_of link end) { incoming = after_take form (lanes_of link end).incoming link.era caller }))
    (took_next desk (form.state (lanes_of link end).incoming))
take_ends {L} {D} form desk is link end caller used live apart at =
    let era = link.era in
    let lanes = lanes_of link end in
    let state : LaneState D = form.state lanes.incoming in
    let ended = took_next desk state in
    let call : Work → Turn Receiving = λ last. turn.Taken caller (record { follows = era.inc; work = last }) in
    let link_at : L → LaneLink L = λ lane. with_lanes link end (record lanes { incoming = lane }) in
    let l1 : L = form.after_receive_start lanes.incoming caller era.inc (work.Take take_stage.Turn) in
    let l2 : L = form.received_on l1 era in
    let l3 : L = form.received_on l2 era in
    let l4 : L = form.received_on l3 era in
    let l5 : L = form.received_on l4 era in
    let l6 : L = form.received_on l5 era in
    let free = free_is state.receiver at.free in
    let s1 : form.state l1 ≡ received state (call (work.Take take_stage.Turn)) =
    is.after_receive_start lanes.incoming caller era.inc (work.Take take_stage.Turn) ∙ ap (λ (now : Turn Receiving). after_receive_start (received state now) caller era.inc (work.Take take_stage.Turn)) free in
    let s2 : form.state l2 ≡ received state (call (work.Take take_stage.Era)) =
    on_received form desk is l1 era (received state (call (work.Take take_stage.Turn))) s1
    ∙ ap (λ v. received state (cond v (call (work.Take take_stage.Era)) (turn.Leaving caller (call_end.Dead era)))) (live_in era live) in
    let s3 : form.state l3 ≡ received state (call (work.Take take_stage.Look)) =
    on_received form desk is l2 era (received state (call (work.Take take_stage.Era))) s2
    ∙ ap (λ v. received state (cond v (turn.Leaving caller (call_end.Empty (length state.lane.accepted))) (call (work.Take take_stage.Look)))) at.some in
    let s4 : form.state l4 ≡ received state (call (work.Take take_stage.Buffer)) = on_received form desk is l3 era (received state (call (work.Take take_stage.Look))) s3 in
    let s5 : form.state l5 ≡ after_handing desk state caller =
    on_received form desk is l4 era (received state (call (work.Take take_stage.Buffer))) s4
    ∙ ap (λ v. cond v (after_handing desk state caller) (received state (turn.Leaving caller (call_end.Dead era)))) (live_in era live) in
    let out : (lane : L) (s : LaneState D) → form.state lane ≡ s → (receiver_step desk era (form.state lane)).outcome ≡ (receiver_step desk era s).outcome =
    λ lane s at_s. ap (λ (x : LaneState D). (receiver_step desk era x).outcome) at_s in
    ends_more 4 form desk link (link_at l1) caller era.inc (Some wish.Take) 1 (link_at l6) ended (works_begin form link end caller era.inc (work.Take take_stage.Turn) used at.free)
    (ends_more 3 form desk (link_at l1) (link_at l2) caller 0 None 2 (link_at l6) ended (receive_goes form desk link end (record lanes { incoming = l1 }) caller (outcome.At 2) used apart (out l1 _ s1))
    (ends_more 2 form desk (link_at l2) (link_at l3) caller 0 None 3 (link_at l6) ended (receive_goes form desk link end (record lanes { incoming = l2 }) caller (outcome.At 3) used apart (out l2 _ s2))
    (ends_more 1 form desk (link_at l3) (link_at l4) caller 0 None 4 (link_at l6) ended (receive_goes form desk link end (record lanes { incoming = l3 }) caller (outcome.At 4) used apart (out l3 _ s3))
    (ends_more 0 form desk (link_at l4) (link_at l5) caller 0 None 5 (link_at l6) ended (receive_goes form desk link end (record lanes { incoming = l4 }) caller (outcome.At 5) used apart (out l4 _ s4))
    (ends_now form desk (link_at l5) caller 0 None (link_at l6) ended (receive_goes form desk link end (record lanes { incoming = l5 }) caller (outcome.Ended ended) used apart (out l5 _ s5)))))))

-- a give that finds its turn free ends with its fourth step
pub give_ends : {L D : Type 0} (form : FormMeaning L D) (desk : DeskMeaning D) → IsForm form desk → (link : LaneLink L) (end : End) (caller number : ℕ) → end_of link.callers caller ≡ Some end
    → has_call (form.state (lanes_of link end).outgoing).sender caller ≡ false → holder (form.state (lanes_of link end).incoming).receiver ≡ None
    → FormEndsIn 3 form desk link caller link.era.inc (Some (wish.Give number))
    (with_lanes link end (record (lanes_of link end) { incoming = after_give form (lanes_of link end).incoming link.era caller number })) (call_end.Gave number)
give_ends {L} {D} form desk is link end caller number used apart free_now =
    let era = link.era in
    let lanes = lanes_of link end in
    let state : LaneState D = form.state lanes.incoming in
    let ended = call_end.Gave number in
    let call : Work → Turn Receiving = λ last. turn.Taken caller (record { follows = era.inc; work = last }) in
    let link_at : L → LaneLink L = λ lane. with_lanes link end (record lanes { incoming = lane }) in
    let l1 : L = form.after_receive_start lanes.incoming caller era.inc (work.Give number give_stage.Turn) in
    let l2 : L = form.received_on l1 era in
    let l3 : L = form.received_on l2 era in
    let l4 : L = form.received_on l3 era in
    let free = free_is state.receiver free_now in
    let s1 : form.state l1 ≡ received state (call (work.Give number give_stage.Turn)) =
    is.after_receive_start lanes.incoming caller era.inc (work.Give number give_stage.Turn) ∙ ap (λ (now : Turn Receiving). after_receive_start (received state now) caller era.inc (work.Give number give_stage.Turn)) free in
    let s2 : form.state l2 ≡ received state (call (work.Give number give_stage.Entry)) = on_received form desk is l1 era (received state (call (work.Give number give_stage.Turn))) s1 in
    let s3 : form.state l3 ≡ record state { lane = with_returned state.lane number caller; receiver = turn.Leaving caller ended } = on_received form desk is l2 era (received state (call (work.Give number give_stage.Entry))) s2 in
    let out : (lane : L) (s : LaneState D) → form.state lane ≡ s → (receiver_step desk era (form.state lane)).outcome ≡ (receiver_step desk era s).outcome =
    λ lane s at_s. ap (λ (x : LaneState D). (receiver_step desk era x).outcome) at_s in
    ends_more 2 form desk link (link_at l1) caller era.inc (Some (wish.Give number)) 1 (link_at l4) ended (works_begin form link end caller era.inc (work.Give number give_stage.Turn) used free_now)
    (ends_more 1 form desk (link_at l1) (link_at l2) caller 0 None 2 (link_at l4) ended (receive_goes form desk link end (record lanes { incoming = l1 }) caller (outcome.At 2) used apart (out l1 _ s1))
    (ends_more 0 form desk (link_at l2) (link_at l3) caller 0 None 3 (link_at l4) ended (receive_goes form desk link end (record lanes { incoming = l2 }) caller (outcome.At 3) used apart (out l2 _ s2))
    (ends_now form desk (link_at l3) caller 0 None (link_at l4) ended (receive_goes form desk link end (record lanes { incoming = l3 }) caller (outcome.Ended ended) used apart (out l3 _ s3)))))

-- a whole call that a lane has made at once, or not
pub send_done : {L D : Type 0} (b : Bool) (form : FormMeaning L D) (desk : DeskMeaning D) → IsForm form desk → (link : LaneLink L) (end : End) (caller follows : ℕ) (message : List ℕ) (lane : L) (ended : CallEnd)
    → end_of link.callers caller ≡ Some end → follows ≡ link.era.inc → link.era.is_live ≡ true
    → OnTrue b (SendsAtOnce (form.state (lanes_of link end).outgoing)) → OnTrue b (lane ≡ after_send form (lanes_of link end).outgoing link.era caller message)
    → OnTrue b (ended ≡ call_end.Sent (length (form.state (lanes_of link end).outgoing).lane.accepted))
    → OnTrue b (FormEndsIn 6 form desk link caller follows (Some (wish.Send message)) (with_lanes link end (record (lanes_of link end) { outgoing = lane })) ended)
send_done {L} true form desk is link end caller follows message lane ended used same_inc live at left ends =
    subst (λ f. FormEndsIn 6 form desk link caller f (Some (wish.Send message)) (with_lanes link end (record (lanes_of link end) { outgoing = lane })) ended) (sym same_inc)
    (subst (λ (l : L). FormEndsIn 6 form desk link caller link.era.inc (Some (wish.Send message)) (with_lanes link end (record (lanes_of link end) { outgoing = l })) ended) (sym left)
    (subst (λ (e : CallEnd). FormEndsIn 6 form desk link caller link.era.inc (Some (wish.Send message)) (with_lanes link end (record (lanes_of link end) { outgoing = after_send form (lanes_of link end).outgoing link.era caller message })) e) (sym ends)
    (send_ends form desk is link end caller message used live at)))
send_done false form desk is link end caller follows message lane ended used same_inc live at left ends = tt

pub take_done : {L D : Type 0} (b : Bool) (form : FormMeaning L D) (desk : DeskMeaning D) → IsForm form desk → (link : LaneLink L) (end : End) (caller follows : ℕ) (lane : L) (ended : CallEnd)
    → end_of link.callers caller ≡ Some end → follows ≡ link.era.inc → link.era.is_live ≡ true → has_call (form.state (lanes_of link end).outgoing).sender caller ≡ false
    → OnTrue b (TakesAtOnce (form.state (lanes_of link end).incoming)) → OnTrue b (lane ≡ after_take form (lanes_of link end).incoming link.era caller)
    → OnTrue b (ended ≡ took_next desk (form.state (lanes_of link end).incoming))
    → OnTrue b (FormEndsIn 5 form desk link caller follows (Some wish.Take) (with_lanes link end (record (lanes_of link end) { incoming = lane })) ended)
take_done {L} true form desk is link end caller follows lane ended used same_inc live apart at left ends =
    subst (λ f. FormEndsIn 5 form desk link caller f (Some wish.Take) (with_lanes link end (record (lanes_of link end) { incoming = lane })) ended) (sym same_inc)
    (subst (λ (l : L). FormEndsIn 5 form desk link caller link.era.inc (Some wish.Take) (with_lanes link end (record (lanes_of link end) { incoming = l })) ended) (sym left)
    (subst (λ (e : CallEnd). FormEndsIn 5 form desk link caller link.era.inc (Some wish.Take) (with_lanes link end (record (lanes_of link end) { incoming = after_take form (lanes_of link end).incoming link.era caller })) e) (sym ends)
    (take_ends form desk is link end caller used live apart at)))
take_done false form desk is link end caller follows lane ended used same_inc live apart at left ends = tt

pub give_done : {L D : Type 0} (b : Bool) (form : FormMeaning L D) (desk : DeskMeaning D) → IsForm form desk → (link : LaneLink L) (end : End) (caller follows number : ℕ) (lane : L) (ended : CallEnd)
    → end_of link.callers caller ≡ Some end → follows ≡ link.era.inc → has_call (form.state (lanes_of link end).outgoing).sender caller ≡ false
    → OnTrue b (holder (form.state (lanes_of link end).incoming).receiver ≡ None) → OnTrue b (lane ≡ after_give form (lanes_of link end).incoming link.era caller number)
    → OnTrue b (ended ≡ call_end.Gave number)
    → OnTrue b (FormEndsIn 3 form desk link caller follows (Some (wish.Give number)) (with_lanes link end (record (lanes_of link end) { incoming = lane })) ended)
give_done {L} true form desk is link end caller follows number lane ended used same_inc apart at left ends =
    subst (λ f. FormEndsIn 3 form desk link caller f (Some (wish.Give number)) (with_lanes link end (record (lanes_of link end) { incoming = lane })) ended) (sym same_inc)
    (subst (λ (l : L). FormEndsIn 3 form desk link caller link.era.inc (Some (wish.Give number)) (with_lanes link end (record (lanes_of link end) { incoming = l })) ended) (sym left)
    (subst (λ (e : CallEnd). FormEndsIn 3 form desk link caller link.era.inc (Some (wish.Give number)) (with_lanes link end (record (lanes_of link end) { incoming = after_give form (lanes_of link end).incoming link.era caller number })) e) (sym ends)
    (give_ends form desk is link end caller number used apart at)))
give_done false form desk is link end caller follows number lane ended used same_inc apart at left ends = tt

-- what holds of lanes of some form holds of the lanes that they stand for
pub lists_done : {L D : Type 0} (b : Bool) (more : ℕ) (form : FormMeaning L D) (desk : DeskMeaning D) → IsForm form desk → (link : LaneLink L) (caller follows : ℕ) (wished : Option Wish) (left : LaneLink L) (end : CallEnd)
    → OnTrue b (FormEndsIn more form desk link caller follows wished left end) → OnTrue b (EndsIn more desk (link_of form link) caller follows wished (link_of form left) end)
lists_done true more form desk is link caller follows wished left end ends = lists_end more form desk is link caller follows wished left end ends
lists_done false more form desk is link caller follows wished left end ends = tt

-- a caller that may begin a call has no send under way
pub may_apart : {D : Type 0} (link : LinkState D) (found : Option End) (end : End) (caller : ℕ) (wished : Wish) → found ≡ Some end → MayEndStep link found caller (Some wished)
    → has_call (lanes_of link end).outgoing.sender caller ≡ false
may_apart {D} link found end caller wished is may =
    let there : MayEndStep link (Some end) caller (Some wished) = subst (λ f. MayEndStep link f caller (Some wished)) is may in
    or_none _ _ there.0
