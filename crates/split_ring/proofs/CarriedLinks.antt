-- The manager behind a step of a call that it carries: it is a carrier still, and each call that it carries is where it was or where the step left it.
use Rattle.std.proofs.Common.{◌≡◌, ◌≢◌, ◌+◌, ◌-◌, ◌<◌, ◌≤◌, ℕ, List, refl, sym, ap, ◌∙◌, subst, arith}
use Rattle.std.specs.Prelude.{Option, Some, None, slice_index, slice_set}
use lib.ListN.{get_elem?}
use base.Stored.{Coded}
use Rattle.atomic_table.specs.Seated.{TableId}
use Rattle.rp_base.specs.declared.kinds.End.{End}
use Rattle.rp_base.specs.declared.kinds.End.TheVariants as side
use Rattle.lane_model.specs.declared.calls.Progress.{Progress}
use Rattle.lane_model.specs.declared.calls.Progress.TheVariants as progress
use Rattle.lane_model.specs.declared.calls.Wish.{Wish}
use Rattle.lane_model.specs.declared.lane_links.LaneLink.{LaneLink}
use Rattle.lane_model.specs.Answers.{wish_of}
use Rattle.lane_model.specs.Desks.{DeskMeaning}
use Rattle.lane_model.specs.Lanes.{Stepped}
use Rattle.lane_model.specs.Links.{Lanes, end_of, on_lanes}
use Rattle.ring_core.specs.declared.states.RingState.{RingState}
use Rattle.link_words.specs.declared.rule.Call.TheVariants.{Gathers}
use Rattle.link_words.specs.declared.rule.Pass.{Pass}
use Rattle.link_words.specs.declared.rule.View.{View}
use Rattle.link_words.specs.Calls.{SeatState}
use Rattle.link_words.specs.Deeds.{Steps, after_deed}
use Rattle.link_words.specs.Orderly.{IsOrderly}
use Rattle.link_words.specs.Passes.{Manages, place_of_number}
use Rattle.link_words.specs.PlacedLinks.{KnowsState}
use Rattle.link_words.specs.Reopens.{ManagerAt}
use Rattle.link_words.specs.Sides.{no_sides}
use Rattle.split_ring.specs.declared.callers.CallerId.{CallerId}
use Rattle.split_ring.specs.declared.callers.Manager.{Manager}
use Rattle.split_ring.specs.CallPhases.{Phase}
use Rattle.split_ring.specs.CallPhases as phase
use Rattle.split_ring.specs.declared.links.SharedLink.{SharedLink}
use Rattle.split_ring.specs.Callers.{IsManagerOf, IsStateOf}
use Rattle.split_ring.specs.Calls.{Advances, deed_of}
use Rattle.split_ring.specs.Carried.{Carries, CarriesOn, HasBlocks, Keeps, carried_at, carried_seat, out_before, turned_by, turned_to}
use Rattle.split_ring.specs.Focus.{IsOrderlySeat, LeavesOthers, StepsAlone, seat_of}
use Rattle.split_ring.specs.Phases.{IsNext, side_of, slots_in}
use Rattle.split_ring.specs.Reclaims.{StandsIn}
use Rattle.split_ring.specs.Seats.{pass_in}
use Rattle.split_ring.proofs.Carrying.{phase_at, place_same, side_low, stands_next}
use Rattle.split_ring.proofs.CarriedSteps.{IsCarriedStep, blocks_next, counted_beside, counted_next, keeps, next_block, pass_beside, pass_there, passes, seat_next, seat_now, stands_beside, stays_there, turned_now}
use Rattle.split_ring.proofs.Focusing.{found_number, same_carrier}
use Rattle.split_ring.proofs.Turning.{before_grows, before_same, turned_is}

-- a step of a caller leaves who is in use
callers_kept : {L : Type 0} (m : LaneLink L) (found : Option End) (step : Lanes L → Stepped (Lanes L)) → (on_lanes m found step).state.callers ≡ m.callers
callers_kept m None step = refl
callers_kept m (Some side.Host) step = refl
callers_kept m (Some side.Remote) step = refl

pub steps_kept : {D : Type 0} (meaning : DeskMeaning D) (m : LaneLink (RingState D)) (caller follows : ℕ) (wished : Option Wish) → (after_deed meaning m (Steps caller follows wished)).callers ≡ m.callers
steps_kept meaning m caller follows wished = callers_kept m (end_of m.callers caller) _

deed_kept : {D : Type 0} (meaning : DeskMeaning D) (m : LaneLink (RingState D)) (who : CallerId) (p : Phase) → (after_deed meaning m (deed_of who p)).callers ≡ m.callers
deed_kept meaning m who (phase.Asked asked) = steps_kept meaning m who.number who.follows (Some (wish_of asked))
deed_kept meaning m who (phase.Sends stage c message) = steps_kept meaning m who.number 0 None
deed_kept meaning m who (phase.Takes stage c buffer) = steps_kept meaning m who.number 0 None
deed_kept meaning m who (phase.Gives stage held returned) = steps_kept meaning m who.number 0 None
deed_kept meaning m who (phase.Asks asked) = steps_kept meaning m who.number 0 None
deed_kept meaning m who (phase.LeavesSender answer) = steps_kept meaning m who.number 0 None
deed_kept meaning m who (phase.LeavesReceiver answer) = steps_kept meaning m who.number 0 None
deed_kept meaning m who phase.Ended = steps_kept meaning m who.number 0 None

-- the seat with the slots of a call in front
abbrev pub seat_turned : CallerId → Phase → Manager → SeatState
seat_turned who p manager = (manager.seat.me.0, turned_to (side_of who.end p) manager.out manager.seat.me.1)

-- the call of a carried caller has gone from one phase to another
pub record HasGone {D : Type 0} (link : SharedLink D) (who : CallerId) (p p' : Phase) (before : Manager) (b : SeatState) : Type 0 where
  pub carrier : IsManagerOf link before
  pub carries : Carries link before who p
  pub leaves : LeavesOthers who.number (seat_turned who p before) b
  pub order : IsOrderly b.0
  pub next : StandsIn link.sizes who p' (seat_of who.number b)
  pub same : slots_in p' ≢ 0 → side_of who.end p' ≡ side_of who.end p

module _ {D : Type 0} (link : SharedLink D) (who : CallerId) (p p' : Phase) (before : Manager) (b : SeatState) (h : HasGone link who p p' before b) where
  pub carried_step : IsCarriedStep link.sizes who p p' before.out before.seat.me b
  carried_step = record {
    order = h.carrier.order;
    blocks = h.carrier.blocks;
    counted = h.carries.counted;
    stands = h.carries.stands;
    leaves = h.leaves;
    next_order = h.order;
    next = h.next;
    same = h.same;
  }

  abbrev pub out_after : List ℕ
  out_after = slice_set before.out (side_of who.end p) (slice_index before.out (side_of who.end p) + slots_in p' - slots_in p)

  abbrev pub seat_after : SeatState
  seat_after = (b.0, next_block link.sizes who p p' before.out before.seat.me b carried_step)

  pub out_few : (slot : ℕ) → slice_index out_after slot ≤ 2
  out_few slot = (blocks_next link.sizes who p p' before.out before.seat.me b carried_step).few slot

  -- the slots turned back
  pub turned_again : (rest : ℕ) (me : SeatState) → rest ≡ out_before 4 out_after - out_before (side_of who.end p) before.out → me ≡ (b.0, turned_by rest b.1) → me ≡ seat_after
  turned_again rest me is turned = turned ∙ (λ i. (b.0, (ap (λ (k : ℕ). turned_by k b.1) is ∙ turned_now link.sizes who p p' before.out before.seat.me b carried_step) i))

  -- the manager's own pass is where it was
  rests_still : ManagerAt seat_after (Gathers no_sides no_sides)
  rests_still = let r = h.carrier.rests in let s = carried_step in let ps = before.seat.me.0.passes in let k = place_of_number who.number ps in
      let place : place_of_number 64 b.0.passes ≡ place_of_number 64 ps = ap (place_of_number 64) (passes link.sizes who p p' before.out before.seat.me b s) ∙ place_same s.leaves.change k 64 ps (keeps link.sizes who p p' before.out before.seat.me b s) in
      record {
        mover = record { place = r.mover.place; pass = r.mover.pass; here = stays_there link.sizes who p p' before.out before.seat.me b s r.mover.place r.mover.pass apart r.mover.here };
        here = r.here ∙ sym place;
        number = r.number;
        in_call = r.in_call;
      }
    where
      apart : h.carrier.rests.mover.place ≡ place_of_number who.number before.seat.me.0.passes → ⊥
      apart same = let r = h.carrier.rests in let found = found_number who.number before.seat.me.0.passes r.mover.pass (ap (get_elem? before.seat.me.0.passes) (sym same) ∙ r.mover.here) in let low = h.carries.low in let number = r.number in absurd (omega (arith, found, low, number))

  -- the manager behind the step
  module _ (after : Manager) (seat : after.seat.me ≡ seat_after) (out : after.out ≡ out_after) (users : after.users ≡ before.users) where
    carries_after : (other : CallerId) (q : Phase) → end_of before.users other.number ≡ Some other.end → other.number < 64 → (pass_in (carried_at other q out_after seat_after)).number ≡ other.number → (slots_in q ≢ 0 → slice_index out_after (side_of other.end q) ≡ slots_in q)
        → StandsIn link.sizes other q (carried_at other q out_after seat_after) → Carries link after other q
    carries_after other q user low number counted stands = record {
      user = ap (λ (us : List (Option End)). end_of us other.number) users ∙ user;
      low = low;
      number = (λ i. (pass_in (carried_at other q (out i) (seat i))).number) ∙ number;
      counted = λ some. ap (λ (cs : List ℕ). slice_index cs (side_of other.end q)) out ∙ counted some;
      stands = subst (StandsIn link.sizes other q) (λ i. carried_at other q (sym out i) (sym seat i)) stands;
    }

    pub carrier_after : after.seat.table_id ≡ link.table.shared.table_id → IsManagerOf link after
    carrier_after table = let c = h.carrier in record {
      at_table = table;
      manages = subst (λ (s : SeatState). Manages s.0) (sym seat) (same_carrier who.number (seat_turned who p before) b h.leaves c.manages).manages;
      rests = subst (λ (s : SeatState). ManagerAt s (Gathers no_sides no_sides)) (sym seat) rests_still;
      knows = ap (λ (s : SeatState). s.0.users) seat ∙ (ap (λ (v : View). v.users) h.leaves.view ∙ (c.knows ∙ sym users));
      told = ap (λ (s : SeatState). s.0.sizes) seat ∙ (ap (λ (v : View). v.sizes) h.leaves.view ∙ c.told);
      order = subst (λ (s : SeatState). IsOrderly s.0) (sym seat) h.order;
      blocks = subst (λ (t : List ℕ × SeatState). HasBlocks t.0 t.1) (λ i. (sym out i, sym seat i)) (blocks_next link.sizes who p p' before.out before.seat.me b carried_step);
    }

    -- the caller whose call stepped
    pub seat_stepped : carried_seat who p' after ≡ seat_of who.number b
    seat_stepped = (λ i. carried_at who p' (out i) (seat i)) ∙ seat_next link.sizes who p p' before.out before.seat.me b carried_step

    pub moved : Carries link after who p'
    moved = let s = carried_step in let z = link.sizes in let cs = before.out in let me = before.seat.me in let there = seat_next z who p p' cs me b s in
        let found = found_number who.number b.0.passes (pass_in (seat_of who.number b)) (pass_there who.number b who p' (phase_at z who p' (seat_of who.number b) h.next)) in
        carries_after who p' h.carries.user h.carries.low (ap (λ (x : SeatState). (pass_in x).number) there ∙ found) (counted_next z who p p' cs me b s) (subst (StandsIn z who p') (sym there) s.next)

    pub others_after : (other : CallerId) (q : Phase) → other.number ≢ who.number → Keeps link before after other q
    others_after other q apart c = let s = carried_step in let z = link.sizes in let cs = before.out in let me = before.seat.me in let pass = pass_beside z who p p' cs me b s other q apart c.number c.counted c.stands in (
      carries_after other q c.user c.low (ap (λ (x : Pass). x.number) pass ∙ c.number) (counted_beside z who p p' cs me b s other q apart c.number c.counted c.stands) (stands_beside z who p p' cs me b s other q apart c.number c.counted c.stands),
      ap pass_in (λ i. carried_at other q (out i) (seat i)) ∙ pass,
    )

-- what a step of a carried call tells
pub record HasAdvanced {D : Type 0} (coded : Coded D) (meaning : DeskMeaning D) (link : SharedLink D) (who : CallerId) (p : Phase) (said : Progress) (p' : Phase) (before : Manager) (b : SeatState) : Type 0 where
  pub carrier : IsManagerOf link before
  pub carries : Carries link before who p
  pub alone : StepsAlone coded meaning who.number (deed_of who p) (seat_turned who p before) b
  pub order : IsOrderly b.0
  pub next : IsNext who.end p said p'
  pub step : Advances coded meaning link.sizes who p said p' (carried_seat who p before) (seat_of who.number b)

module _ {D : Type 0} (coded : Coded D) (meaning : DeskMeaning D) (link : SharedLink D) (who : CallerId) (p : Phase) (said : Progress) (p' : Phase) (before : Manager) (b : SeatState) (h : HasAdvanced coded meaning link who p said p' before b) where
  pub has_gone : HasGone link who p p' before b
  has_gone = let stands = stands_next link.sizes who p p' said (seat_of who.number b) h.next h.step.stands in record {
    carrier = h.carrier;
    carries = h.carries;
    leaves = h.alone.leaves;
    order = h.order;
    next = stands.0;
    same = stands.1;
  }

  -- the manager behind the step
  module _ (after : Manager) (seat : after.seat.me ≡ seat_after link who p p' before b has_gone) (out : after.out ≡ out_after link who p p' before b has_gone) (users : after.users ≡ before.users) where
    goes_on_by : (said : Progress) → IsNext who.end p said p' → CarriesOn link after who p' said
    goes_on_by (progress.At number) next = (moved link who p p' before b has_gone after seat out users, next.2)
    goes_on_by (progress.Done answer) next = subst (Carries link after who) next.0 (moved link who p p' before b has_gone after seat out users)

    pub carries_on : CarriesOn link after who p' said
    carries_on = goes_on_by said h.next

    pub step_after : Advances coded meaning link.sizes who p said p' (carried_seat who p before) (carried_seat who p after)
    step_after = subst (Advances coded meaning link.sizes who p said p' (carried_seat who p before))
        (sym (seat_now link.sizes who p p' before.out before.seat.me b (carried_step link who p p' before b has_gone)) ∙ (λ i. carried_at who p (sym out i) (sym seat i))) h.step

    pub state_after_step : (m : LaneLink (RingState D)) → IsStateOf coded before m → IsStateOf coded after (after_deed meaning m (deed_of who p))
    state_after_step m is = record {
      known = subst (λ (s : SeatState). KnowsState coded s.0 (after_deed meaning m (deed_of who p))) (sym seat) (h.alone.knows m is.known);
      users = users ∙ (is.users ∙ sym (deed_kept meaning m who p));
    }

-- the end of a caller that is in use
abbrev end_or : Option End → End
end_or None = side.Host
end_or (Some e) = e

pub same_user : (users : List (Option End)) (n : ℕ) (e e' : End) → end_of users n ≡ Some e → end_of users n ≡ Some e' → e ≡ e'
same_user users n e e' one two = ap end_or (sym one ∙ two)

abbrev pub caller_id : ℕ → End → ℕ → CallerId
caller_id number end follows = record { number = number; end = end; follows = follows }

-- the caller of a number that the manager carries
module _ (before : Manager) (n inc : ℕ) (who : CallerId) (is : (who.number ≡ n) × (end_of before.users n ≡ Some who.end) × (who.follows ≡ inc)) where
  pub carried_is : (end : End) → end_of before.users n ≡ Some end → who ≡ caller_id n end inc
  carried_is end user = λ i. record { number = is.0 i; end = same_user before.users n who.end end is.1 user i; follows = is.2 i }

  -- it carries that caller with its call in this phase
  pub carried_call : {D : Type 0} (link : SharedLink D) (p : Phase) (e : End) → Carries link before (caller_id n e inc) p → Carries link before who p
  carried_call link p e c = subst (λ w. Carries link before w p) (sym (carried_is e c.user)) c

-- the slots of the call come to the front
pub turned_front : {D : Type 0} (link : SharedLink D) (before : Manager) (who : CallerId) (p : Phase) (count : ℕ) (me : SeatState) → IsManagerOf link before → count ≡ out_before (side_of who.end p) before.out → me ≡ (before.seat.me.0, turned_by count before.seat.me.1) → me ≡ seat_turned who p before
turned_front link before who p count me carrier is turned =
    let at = side_of who.end p in let low = side_low who.end p in let blocks = carrier.blocks in let all = blocks.all in let grows = before_grows at 4 before.out (omega (arith, low)) in
    turned ∙ (λ i. (before.seat.me.0, (ap (λ (k : ℕ). turned_by k before.seat.me.1) is ∙ turned_is (out_before at before.out) before.seat.me.1 (omega (arith, grows, all))) i))

pub turned_order : {D : Type 0} (link : SharedLink D) (before : Manager) (count : ℕ) (me : SeatState) (table : TableId) → IsManagerOf link before → me ≡ (before.seat.me.0, turned_by count before.seat.me.1) → table ≡ before.seat.table_id → IsOrderlySeat link.table.shared.table_id link.sizes table me
turned_order link before count me table carrier turned same = record {
  at_table = same ∙ carrier.at_table;
  told = ap (λ (s : SeatState). s.0.sizes) turned ∙ carrier.told;
  order = subst (λ (s : SeatState). IsOrderly s.0) (sym turned) carrier.order;
}

pub before_least : (before : Manager) (e : End) (p : Phase) (n : ℕ) → out_before (side_of e p) before.out ≤ out_before 4 (slice_set before.out (side_of e p) n)
before_least before e p n = let at = side_of e p in let low = side_low e p in let same = before_same at at n before.out (omega arith) in let grows = before_grows at 4 (slice_set before.out at n) (omega (arith, low)) in omega (arith, same, grows)

module _ {D : Type 0} (coded : Coded D) (meaning : DeskMeaning D) (link : SharedLink D) (who : CallerId) (p : Phase) (said : Progress) (p' : Phase) (before : Manager) (b : SeatState) where
  -- what the step tells, at the seat with the slots in front
  pub has_advanced : (q : Phase) (me : SeatState) → q ≡ p → me ≡ seat_turned who p before → IsManagerOf link before → Carries link before who p → StepsAlone coded meaning who.number (deed_of who q) me b → IsOrderly b.0 → IsNext who.end q said p'
      → Advances coded meaning link.sizes who q said p' (seat_of who.number me) (seat_of who.number b) → HasAdvanced coded meaning link who p said p' before b
  has_advanced q me phase turned carrier carries alone order next step = record {
    carrier = carrier;
    carries = carries;
    alone = subst (λ (t : Phase × SeatState). StepsAlone coded meaning who.number (deed_of who t.0) t.1 b) (λ i. (phase i, turned i)) alone;
    order = order;
    next = subst (λ (x : Phase). IsNext who.end x said p') phase next;
    step = subst (λ (t : Phase × SeatState). Advances coded meaning link.sizes who t.0 said p' (seat_of who.number t.1) (seat_of who.number b)) (λ i. (phase i, turned i)) step;
  }
