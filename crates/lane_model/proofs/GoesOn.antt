-- A step that leaves its call under way is followed by another, and a call ends within seven steps.
use Rattle.std.proofs.Common.{◌≡◌, ℕ, zero, suc, ◌<◌, ◌≤◌, ◌||◌, Bool, true, false, cond, Option, Some, None, refl, sym, ap, subst, ◌∙◌, arith}
use Rattle.std.proofs.lemmas.Bool.{cond_both, or_parts}
use Rattle.std.specs.Option.{option_map_or}
use Rattle.rp_base.specs.declared.kinds.Era.{Era}
use Rattle.rp_base.specs.declared.kinds.End.{End}
use Rattle.rp_base.specs.declared.kinds.End.TheVariants as side
use Rattle.lane_model.specs.declared.states.LaneState.{LaneState}
use Rattle.lane_model.specs.declared.lane_links.LaneLink.{LaneLink}
use Rattle.lane_model.specs.declared.stages.SendStage.{SendStage}
use Rattle.lane_model.specs.declared.stages.SendStage.TheVariants as stage
use Rattle.lane_model.specs.declared.stages.Work.{Work}
use Rattle.lane_model.specs.declared.stages.Work.TheVariants as work
use Rattle.lane_model.specs.declared.stages.TakeStage.TheVariants as take_stage
use Rattle.lane_model.specs.declared.stages.GiveStage.TheVariants as give_stage
use Rattle.lane_model.specs.declared.stages.Turn.{Turn}
use Rattle.lane_model.specs.declared.stages.Turn.TheVariants as turn
use Rattle.lane_model.specs.declared.calls.Wish.{Wish}
use Rattle.lane_model.specs.declared.calls.Wish.TheVariants as wish
use Rattle.lane_model.specs.declared.calls.Outcome.{Outcome}
use Rattle.lane_model.specs.declared.calls.Outcome.TheVariants as outcome
use Rattle.lane_model.specs.Desks.{DeskMeaning}
use Rattle.lane_model.proofs.Steps.{same, IsOn, turn_goes_on, sending_left, receiving_left, send_on, receive_on}
use Rattle.lane_model.specs.Lanes.{Stepped, taken_by, holder, has_call}
use Rattle.lane_model.specs.Sends.{send_step, sender_step}
use Rattle.lane_model.specs.Receives.{receive_step, receiver_step}
use Rattle.lane_model.specs.Forms.{list_form}
use Rattle.lane_model.specs.Links.{LinkState, Lanes, lanes_of, end_of, begun_outcome, first_step, send_first, receive_first, send_later, receive_later, lanes_step, on_lanes, caller_step}
use Rattle.lane_model.specs.Conditions.{MayLanesStep, MayEndStep, MayStep, is_in_call}
use Rattle.lane_model.specs.WholeCalls.{Ended, ended_or, form_to_end, steps_to_end, steps_left_of_turn, steps_left_of_send, steps_left_of_work, steps_left_on, left_of, WhereOn, HasEnd}

-- what holds where a step goes on may be weakened
pub where_on : (told : Outcome) {P Q : Type 0} → (P → Q) → WhereOn told P → WhereOn told Q
where_on (outcome.At step) f p = f p
where_on (outcome.Ended end) f p = tt

-- step 1 takes a free turn
begins_on : {C : Type 0} (of_call : C → ℕ) (now : Turn C) (caller : ℕ) (call : C) (left : ℕ) → of_call call < left
    → WhereOn (begun_outcome (holder now)) (IsOn of_call caller left (taken_by now caller call))
begins_on of_call turn.Free caller call left few = (λ other. refl, few)
begins_on of_call (turn.Taken other other_call) caller call left few = tt
begins_on of_call (turn.Leaving other ended) caller call left few = tt
begins_on of_call turn.Manager caller call left few = tt

-- the caller has a call under way, with fewer steps left
abbrev IsUnderWay : {D : Type 0} → ℕ → ℕ → Lanes (LaneState D) → Type 0
IsUnderWay caller left lanes = (is_in_call lanes caller ≡ true) × (steps_left_on lanes caller None < left)

-- a caller who sends is under way, whatever the other lane is
sends_under_way : {D : Type 0} (lanes : Lanes (LaneState D)) (caller left : ℕ) → IsOn sending_left caller left lanes.outgoing.sender → IsUnderWay caller left lanes
sends_under_way lanes caller left on =
    let mine : has_call lanes.outgoing.sender caller ≡ true = on.0 caller ∙ same caller in
    (ap (λ b. b || has_call lanes.incoming.receiver caller) mine, rw mine on.1)

-- a caller who receives and doesn't send is under way
receives_under_way : {D : Type 0} (lanes : Lanes (LaneState D)) (caller left : ℕ) → has_call lanes.outgoing.sender caller ≡ false → IsOn receiving_left caller left lanes.incoming.receiver
    → IsUnderWay caller left lanes
receives_under_way lanes caller left silent on = (ap (λ b. b || has_call lanes.incoming.receiver caller) silent ∙ on.0 caller ∙ same caller, rw silent on.1)

abbrev LanesGoOn : {D : Type 0} → ℕ → ℕ → Stepped (Lanes (LaneState D)) → Type 0
LanesGoOn caller left step = WhereOn step.outcome (IsUnderWay caller left step.state)

work_begins : {D : Type 0} (desk : DeskMeaning D) (lanes : Lanes (LaneState D)) (caller follows : ℕ) (first : Work) → has_call lanes.outgoing.sender caller ≡ false → steps_left_of_work first < 6
    → LanesGoOn caller 6 (receive_first (list_form desk) lanes caller follows first)
work_begins desk lanes caller follows first silent few =
    where_on (begun_outcome (holder lanes.incoming.receiver)) (receives_under_way (receive_first (list_form desk) lanes caller follows first).state caller 6 silent)
    (begins_on receiving_left lanes.incoming.receiver caller _ 6 few)

first_goes_on : {D : Type 0} (desk : DeskMeaning D) (lanes : Lanes (LaneState D)) (caller follows : ℕ) (wished : Wish) → has_call lanes.outgoing.sender caller ≡ false
    → LanesGoOn caller 6 (first_step (list_form desk) lanes caller follows wished)
first_goes_on desk lanes caller follows (wish.Send message) silent =
    where_on (begun_outcome (holder lanes.outgoing.sender)) (sends_under_way (send_first (list_form desk) lanes caller follows message).state caller 6)
    (begins_on sending_left lanes.outgoing.sender caller _ 6 (omega arith))
first_goes_on desk lanes caller follows wish.Take silent = work_begins desk lanes caller follows _ silent (omega arith)
first_goes_on desk lanes caller follows (wish.Give number) silent = work_begins desk lanes caller follows _ silent (omega arith)
first_goes_on desk lanes caller follows (wish.Bind address) silent = work_begins desk lanes caller follows _ silent (omega arith)
first_goes_on desk lanes caller follows (wish.Unbind address) silent = work_begins desk lanes caller follows _ silent (omega arith)

later_goes_on : {D : Type 0} (desk : DeskMeaning D) (era : Era) (lanes : Lanes (LaneState D)) (caller : ℕ) (sends : Bool) → has_call lanes.outgoing.sender caller ≡ sends → is_in_call lanes caller ≡ true
    → LanesGoOn caller (cond sends (steps_left_of_turn sending_left lanes.outgoing.sender) (steps_left_of_turn receiving_left lanes.incoming.receiver))
    (cond sends (send_later (list_form desk) era lanes) (receive_later (list_form desk) desk era lanes))
later_goes_on desk era lanes caller true is calls =
    where_on (sender_step era lanes.outgoing).outcome (sends_under_way (send_later (list_form desk) era lanes).state caller (steps_left_of_turn sending_left lanes.outgoing.sender))
    (turn_goes_on sending_left (λ state. state.sender) lanes.outgoing (record lanes.outgoing { sender = turn.Free }) (λ other s. send_step era lanes.outgoing other s s.stage) lanes.outgoing.sender caller is
    (λ other s. send_on era lanes.outgoing other s s.stage))
later_goes_on desk era lanes caller false is calls =
    let receives : has_call lanes.incoming.receiver caller ≡ true = sym (ap (λ b. b || has_call lanes.incoming.receiver caller) is) ∙ calls in
    where_on (receiver_step desk era lanes.incoming).outcome (receives_under_way (receive_later (list_form desk) desk era lanes).state caller (steps_left_of_turn receiving_left lanes.incoming.receiver) is)
    (turn_goes_on receiving_left (λ state. state.receiver) lanes.incoming (record lanes.incoming { receiver = turn.Free }) (λ other r. receive_step desk era lanes.incoming other r r.work) lanes.incoming.receiver caller receives
    (λ other r. receive_on desk era lanes.incoming other r r.work))

lanes_go_on : {D : Type 0} (desk : DeskMeaning D) (era : Era) (lanes : Lanes (LaneState D)) (caller follows : ℕ) (wished : Option Wish) → MayLanesStep lanes caller wished
    → LanesGoOn caller (steps_left_on lanes caller wished) (lanes_step (list_form desk) desk era lanes caller follows wished)
lanes_go_on desk era lanes caller follows (Some wished) may = first_goes_on desk lanes caller follows wished (or_parts _ _ may.0).0
lanes_go_on desk era lanes caller follows None may = later_goes_on desk era lanes caller (has_call lanes.outgoing.sender caller) refl may

-- how many steps may follow, by the end of the caller
abbrev end_left : {D : Type 0} → LinkState D → Option End → ℕ → Option Wish → ℕ
end_left link found caller wished = option_map_or (λ end. steps_left_on (lanes_of link end) caller wished) found 0

abbrev step_at : {D : Type 0} → DeskMeaning D → LinkState D → Option End → ℕ → ℕ → Option Wish → Stepped (LinkState D)
step_at desk link found caller follows wished = on_lanes link found (λ lanes. lanes_step (list_form desk) desk link.era lanes caller follows wished)

end_goes_on : {D : Type 0} (desk : DeskMeaning D) (link : LinkState D) (found : Option End) (caller follows : ℕ) (wished : Option Wish) → MayEndStep link found caller wished
    → WhereOn (step_at desk link found caller follows wished).outcome
    (MayEndStep (step_at desk link found caller follows wished).state found caller None × (end_left (step_at desk link found caller follows wished).state found caller None < end_left link found caller wished))
end_goes_on desk link (Some side.Host) caller follows wished may = lanes_go_on desk link.era (lanes_of link side.Host) caller follows wished may
end_goes_on desk link (Some side.Remote) caller follows wished may = lanes_go_on desk link.era (lanes_of link side.Remote) caller follows wished may
end_goes_on desk link None caller follows wished may = absurd may

-- no step makes or ends a caller
pub same_callers : {L : Type 0} (link : LaneLink L) (found : Option End) (step : Lanes L → Stepped (Lanes L)) → (on_lanes link found step).state.callers ≡ link.callers
same_callers link (Some side.Host) step = refl
same_callers link (Some side.Remote) step = refl
same_callers link None step = refl

-- after a step that leaves its call under way, another may follow, and fewer are left
pub goes_on : {D : Type 0} (desk : DeskMeaning D) (link : LinkState D) (caller follows : ℕ) (wished : Option Wish) → MayStep link caller wished
    → WhereOn (caller_step desk link caller follows wished).outcome
    (MayStep (caller_step desk link caller follows wished).state caller None × (left_of (caller_step desk link caller follows wished).state caller None < left_of link caller wished))
goes_on desk link caller follows wished may =
    let found = end_of link.callers caller in
    let step = caller_step desk link caller follows wished in
    let same : end_of step.state.callers caller ≡ found = ap (λ callers. end_of callers caller) (same_callers link found _) in
    where_on step.outcome
    (λ on. (record { may = subst (λ e. MayEndStep step.state e caller None) (sym same) on.0 }, subst (λ e. end_left step.state e caller None < left_of link caller wished) (sym same) on.1))
    (end_goes_on desk link found caller follows wished may.may)

-- one step and then the rest, by what the step does
ends_after : {S : Type 0} (told : Outcome) (state : S) (rest : Option (Ended S)) → (WhereOn told (HasEnd rest)) → HasEnd (ended_or state told rest)
ends_after (outcome.At step) state rest on = on
ends_after (outcome.Ended end) state rest on = tt

-- a call ends within as many steps as may follow the next one, and that one
pub ends_within : {D : Type 0} (n : ℕ) (desk : DeskMeaning D) (link : LinkState D) (caller follows : ℕ) (wished : Option Wish)
    → MayStep link caller wished → left_of link caller wished ≤ n → HasEnd (steps_to_end (suc n) desk link caller follows wished)
unfolding form_to_end
ends_within zero desk link caller follows wished may few =
    let step = caller_step desk link caller follows wished in
    ends_after step.outcome step.state None (where_on step.outcome (λ on. absurd (omega (arith, on.1, few))) (goes_on desk link caller follows wished may))
ends_within (suc n) desk link caller follows wished may few =
    let step = caller_step desk link caller follows wished in
    ends_after step.outcome step.state (steps_to_end (suc n) desk step.state caller follows None)
    (where_on step.outcome (λ on. ends_within n desk step.state caller follows None on.0 (omega (arith, on.1, few))) (goes_on desk link caller follows wished may))

most_send : (now : SendStage) → steps_left_of_send now ≤ 5
most_send stage.Turn = omega arith
most_send stage.Era = omega arith
most_send stage.Look = omega arith
most_send stage.Buffer = omega arith
most_send stage.Entry = omega arith

most_work : (now : Work) → steps_left_of_work now ≤ 5
most_work (work.Take take_stage.Turn) = omega arith
most_work (work.Take take_stage.Era) = omega arith
most_work (work.Take take_stage.Look) = omega arith
most_work (work.Take take_stage.Buffer) = omega arith
most_work (work.Give number give_stage.Turn) = omega arith
most_work (work.Give number give_stage.Entry) = omega arith
most_work (work.Bind address) = omega arith
most_work (work.Unbind address) = omega arith

most_turn : {C : Type 0} (of_call : C → ℕ) → ((call : C) → of_call call ≤ 5) → (now : Turn C) → steps_left_of_turn of_call now ≤ 5
most_turn of_call most turn.Free = omega arith
most_turn of_call most (turn.Taken caller call) = most call
most_turn of_call most (turn.Leaving caller ended) = omega arith
most_turn of_call most turn.Manager = omega arith

-- at most five steps may follow the next one of a call under way
most_later : {D : Type 0} (lanes : Lanes (LaneState D)) (caller : ℕ) → steps_left_on lanes caller None ≤ 5
most_later lanes caller =
    cond_both (has_call lanes.outgoing.sender caller) _ _ (λ n. n ≤ 5) (λ _. most_turn sending_left (λ s. most_send s.stage) lanes.outgoing.sender)
    (λ _. most_turn receiving_left (λ r. most_work r.work) lanes.incoming.receiver)

most_at : {D : Type 0} (link : LinkState D) (found : Option End) (caller : ℕ) → end_left link found caller None ≤ 5
most_at link (Some end) caller = most_later (lanes_of link end) caller
most_at link None caller = omega arith

first_at : {D : Type 0} (link : LinkState D) (found : Option End) (caller : ℕ) (wished : Wish) → end_left link found caller (Some wished) ≤ 6
first_at link (Some end) caller wished = omega arith
first_at link None caller wished = omega arith

-- a call under way ends within six steps
pub six_suffice : {D : Type 0} (desk : DeskMeaning D) (link : LinkState D) (caller follows : ℕ) → MayStep link caller None → HasEnd (steps_to_end 6 desk link caller follows None)
six_suffice desk link caller follows may = ends_within 5 desk link caller follows None may (most_at link (end_of link.callers caller) caller)

-- a call ends within seven steps
pub seven_suffice : {D : Type 0} (desk : DeskMeaning D) (link : LinkState D) (caller follows : ℕ) (wished : Option Wish)
    → MayStep link caller wished → HasEnd (steps_to_end 7 desk link caller follows wished)
seven_suffice desk link caller follows (Some wished) may = ends_within 6 desk link caller follows (Some wished) may (first_at link (end_of link.callers caller) caller wished)
seven_suffice desk link caller follows None may = let most = most_at link (end_of link.callers caller) caller in ends_within 6 desk link caller follows None may (omega arith)

-- at most six steps may follow the next one
pub most_left : {D : Type 0} (link : LinkState D) (caller : ℕ) (wished : Option Wish) → left_of link caller wished ≤ 6
most_left link caller (Some wished) = first_at link (end_of link.callers caller) caller wished
most_left link caller None = let most = most_at link (end_of link.callers caller) caller in omega (arith, most)
