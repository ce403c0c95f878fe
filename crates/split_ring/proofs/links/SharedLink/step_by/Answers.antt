use Rattle.std.proofs.Common.{◌≡◌, ◌≢◌, ◌+◌, ◌-◌, ◌≤◌, ℕ, zero, suc, List, refl, sym, ap, ◌∙◌, subst, arith}
use Rattle.std.specs.Prelude.{slice_index, slice_set}
use Rattle.lane_model.specs.declared.calls.Step.{Step}
use Rattle.lane_model.specs.Links.{form_step}
use Rattle.ring_core.specs.RingSteps.{ring_form}
use Rattle.link_words.specs.Calls.{SeatState}
use Rattle.link_words.specs.Deeds.{after_deed}
use Rattle.link_words.specs.PlacedLinks.{KnowsState}
use Rattle.split_ring.specs.declared.callers.Manager.{Manager}
use Rattle.split_ring.specs.Callers.{IsStateOf}
use Rattle.split_ring.specs.Calls.{Advances, IsInPhase, deed_of}
use Rattle.split_ring.specs.Carried.{Carries, CarriesOn, carried_seat, out_before}
use Rattle.split_ring.specs.Focus.{seat_of}
use Rattle.split_ring.specs.Handed.{StepsLanes}
use Rattle.split_ring.specs.Phases.{IsNext, phase_behind, progress_of, side_of, slots_in, wished_in}
use Rattle.split_ring.proofs.Carrying.{stands_in}
use Rattle.split_ring.proofs.CarriedLinks.{HasAdvanced, before_least, carried_call, carried_is, carrier_after, carries_on, has_advanced, has_gone, others_after, out_after, out_few, seat_after, seat_turned, state_after_step, step_after, turned_again, turned_front}
use Rattle.split_ring.proofs.links.SharedLink.step_by.Goals as goal
use Rattle.split_ring.proofs.links.SharedLink.step_by.Goals.{in-At, in-Ended}

pub carried_id-who-requires : goal.carried_id-who-requires
carried_id-who-requires g c = let q = c.requires.call in (q.0, q.1.user)

pub step_on-step-requires-clause-stands : goal.step_on-step-requires-clause-stands
step_on-step-requires-clause-stands g c =
    let link = c.args.self.now in let before = c.args.manager.now in let p = c.args.call.now.phase in let q = c.requires.call in let carrier = c.requires.manager in
    let id = c.carried_id-who in let who = id.result in
    let carries : Carries link before who p = carried_call before c.args.caller c.args.inc who id.ensures link p q.0 q.1 in
    let turned : c.turn_by.new.seat.me ≡ seat_turned who p before = turned_front link before who p c.out_before-before.result c.turn_by.new.seat.me carrier (c.out_before-before.ensures ∙ ap (λ (k : ℕ). out_before k before.out) c.side_of-side.ensures.side) c.turn_by.ensures.turned in
    let z = link.sizes in subst (λ (x : SeatState). IsInPhase z who p (seat_of who.number x)) (sym turned) (stands_in z who p (seat_of who.number (seat_turned who p before)) q.2 carries.stands)

-- what is counted of a call is no more than what is out
counted_least : (had out : ℕ) → (had ≢ 0 → out ≡ had) → had ≤ out
counted_least zero out counted = omega arith
counted_least (suc n) out counted = let is = counted (λ none. absurd (omega (arith, none))) in omega (arith, is)

pub overflow_sub-manager : goal.overflow_sub-manager
overflow_sub-manager g c =
    let link = c.args.self.now in let before = c.args.manager.now in let p = c.args.call.now.phase in let q = c.requires.call in
    let id = c.carried_id-who in let who = id.result in
    let carries : Carries link before who p = carried_call before c.args.caller c.args.inc who id.ensures link p q.0 q.1 in
    let same : slice_index before.out c.side_of-side.result ≡ slice_index before.out (side_of who.end p) = ap (slice_index before.out) c.side_of-side.ensures.side in
    let least = counted_least (slots_in p) (slice_index before.out (side_of who.end p)) carries.counted in let had = c.slots-had.ensures in omega (arith, least, same, had)

pub out_before-requires-clause-few : goal.out_before-requires-clause-few
out_before-requires-clause-few g c = λ slot.
    let coded = g.row.D.coded in let meaning = g.D.Desk.meaning in let link = c.args.self.now in let before = c.args.manager.now in let p = c.args.call.now.phase in let q = c.requires.call in let carrier = c.requires.manager in
    let id = c.carried_id-who in let who = id.result in
    let carries : Carries link before who p = carried_call before c.args.caller c.args.inc who id.ensures link p q.0 q.1 in
    let turned : c.turn_by.new.seat.me ≡ seat_turned who p before = turned_front link before who p c.out_before-before.result c.turn_by.new.seat.me carrier (c.out_before-before.ensures ∙ ap (λ (k : ℕ). out_before k before.out) c.side_of-side.ensures.side) c.turn_by.ensures.turned in
    let s = c.step_on-step in let b = s.new.seat.me in let said = progress_of s.result s.new.phase in let next = phase_behind s.result s.new.phase in
    let h : HasAdvanced coded meaning link who p said next before b = has_advanced coded meaning link who p said next before b p c.turn_by.new.seat.me refl turned carrier carries s.ensures.alone s.ensures.seat.order s.ensures.next s.ensures.step in let t = has_gone coded meaning link who p said next before b h in
    let has : c.match-step.has ≡ slots_in next = elim c.match-step.branch [
      | in-At w ↦ w.has-is ∙ (w.slots-has.ensures ∙ ap (λ (x : Step). slots_in (phase_behind x s.new.phase)) (sym w.in-At.is))
      | in-Ended w ↦ w.has-is ∙ ap (λ (x : Step). slots_in (phase_behind x s.new.phase)) (sym w.in-Ended.is)
    ] in
    let out : slice_set before.out c.side_of-side.result (slice_index before.out c.side_of-side.result + c.match-step.has - c.slots-had.result) ≡ out_after link who p next before b t
    = λ i. slice_set before.out (c.side_of-side.ensures.side i) (slice_index before.out (c.side_of-side.ensures.side i) + has i - c.slots-had.ensures i) in
    let few = out_few link who p next before b t slot in let same = ap (λ (l : List ℕ). slice_index l slot) out in omega (arith, few, same)

pub overflow_sub-rest : goal.overflow_sub-rest
overflow_sub-rest g c = let before = c.args.manager.now in let p = c.args.call.now.phase in
    let least = before_least before c.carried_id-who.result.end p (slice_index before.out c.side_of-side.result + c.match-step.has - c.slots-had.result) in
    let one : c.out_before.result ≡ out_before 4 (slice_set before.out (side_of c.carried_id-who.result.end p) (slice_index before.out c.side_of-side.result + c.match-step.has - c.slots-had.result))
    = c.out_before.ensures ∙ ap (λ (k : ℕ). out_before 4 (slice_set before.out k (slice_index before.out c.side_of-side.result + c.match-step.has - c.slots-had.result))) c.side_of-side.ensures.side in
    let two = c.out_before-before.ensures ∙ ap (λ (k : ℕ). out_before k before.out) c.side_of-side.ensures.side in omega (arith, least, one, two)

pub returns : goal.returns
returns g c =
    let coded = g.row.D.coded in let meaning = g.D.Desk.meaning in let link = c.args.self.now in let before = c.args.manager.now in let p = c.args.call.now.phase in let q = c.requires.call in let carrier = c.requires.manager in
    let id = c.carried_id-who in let who = id.result in
    let carries : Carries link before who p = carried_call before c.args.caller c.args.inc who id.ensures link p q.0 q.1 in
    let turned : c.turn_by.new.seat.me ≡ seat_turned who p before = turned_front link before who p c.out_before-before.result c.turn_by.new.seat.me carrier (c.out_before-before.ensures ∙ ap (λ (k : ℕ). out_before k before.out) c.side_of-side.ensures.side) c.turn_by.ensures.turned in
    let s = c.step_on-step in let b = s.new.seat.me in let said = progress_of s.result s.new.phase in let next = phase_behind s.result s.new.phase in
    let h : HasAdvanced coded meaning link who p said next before b = has_advanced coded meaning link who p said next before b p c.turn_by.new.seat.me refl turned carrier carries s.ensures.alone s.ensures.seat.order s.ensures.next s.ensures.step in let t = has_gone coded meaning link who p said next before b h in
    let has : c.match-step.has ≡ slots_in next = elim c.match-step.branch [
      | in-At w ↦ w.has-is ∙ (w.slots-has.ensures ∙ ap (λ (x : Step). slots_in (phase_behind x s.new.phase)) (sym w.in-At.is))
      | in-Ended w ↦ w.has-is ∙ ap (λ (x : Step). slots_in (phase_behind x s.new.phase)) (sym w.in-Ended.is)
    ] in
    let out : slice_set before.out c.side_of-side.result (slice_index before.out c.side_of-side.result + c.match-step.has - c.slots-had.result) ≡ out_after link who p next before b t
    = λ i. slice_set before.out (c.side_of-side.ensures.side i) (slice_index before.out (c.side_of-side.ensures.side i) + has i - c.slots-had.ensures i) in
    let after : Manager = record { seat = c.turn_by-2.new.seat; users = before.users; out = slice_set before.out c.side_of-side.result (slice_index before.out c.side_of-side.result + c.match-step.has - c.slots-had.result) } in
    let rest : c.out_before.result - c.out_before-before.result ≡ out_before 4 (out_after link who p next before b t) - out_before (side_of who.end p) before.out
    = λ i. (c.out_before.ensures ∙ ap (out_before 4) out) i - (c.out_before-before.ensures ∙ ap (λ (k : ℕ). out_before k before.out) c.side_of-side.ensures.side) i in
    let seat : after.seat.me ≡ seat_after link who p next before b t = turned_again link who p next before b t (c.out_before.result - c.out_before-before.result) c.turn_by-2.new.seat.me rest c.turn_by-2.ensures.turned in
    let named = carried_is before c.args.caller c.args.inc who id.ensures in
    record {
      manager = (carrier_after link who p next before b t after seat out refl (c.turn_by-2.ensures.same.0 ∙ s.ensures.seat.at_table), refl);
      call = λ end user. subst (λ w. CarriesOn link after w next said) (named end user) (carries_on coded meaning link who p said next before b h after seat out refl);
      others = λ other r apart carried. others_after link who p next before b t after seat out refl other r (λ same. apart (same ∙ id.ensures.0)) carried;
      step = λ end user. subst (λ w. Advances coded meaning link.sizes w p said next (carried_seat w p before) (carried_seat w p after)) (named end user) (step_after coded meaning link who p said next before b h after seat out refl);
      next = λ end user. subst (λ w. IsNext w.end p said next) (named end user) h.next;
      lanes = λ end user m known. subst (λ w. StepsLanes w next m (after_deed meaning m (deed_of w p))) (named end user) (s.ensures.lanes m (subst (λ (x : SeatState). KnowsState coded x.0 m) (sym c.turn_by.ensures.turned) known.known));
      said = λ m known. s.ensures.said m (subst (λ (x : SeatState). KnowsState coded x.0 m) (sym c.turn_by.ensures.turned) known.known) ∙ (λ i. (form_step (ring_form meaning) meaning m (id.ensures.0 i) (id.ensures.2 i) (wished_in p)).outcome);
      state = λ end user m known. subst (λ w. IsStateOf coded after (after_deed meaning m (deed_of w p))) (named end user) (state_after_step coded meaning link who p said next before b h after seat out refl m known);
    }
