-- A close by a manager that carries calls: each is where it was.
use Rattle.std.proofs.Common.{◌≡◌, Bool, ℕ, List, refl, sym, ap, ◌∙◌, subst, arith}
use Rattle.std.specs.Prelude.{Option}
use lib.ListN.{get_elem?}
use Rattle.rp_base.specs.declared.kinds.End.{End}
use Rattle.lane_model.specs.Links.{end_of}
use Rattle.link_words.specs.declared.rule.Made.{Made}
use Rattle.link_words.specs.Calls.{Notes, SeatState, has_side, noted, with_pass_at}
use Rattle.link_words.specs.Orderly.{IsOrderly}
use Rattle.link_words.specs.Passes.{only_pass, place_of_number}
use Rattle.split_ring.specs.declared.callers.CallerId.{CallerId}
use Rattle.split_ring.specs.declared.callers.Manager.{Manager}
use Rattle.split_ring.specs.CallPhases.{Phase}
use Rattle.split_ring.specs.declared.links.SharedLink.{SharedLink}
use Rattle.split_ring.specs.Carried.{HasBlocks, Keeps, turned_to}
use Rattle.split_ring.specs.Callers.{IsManagerOf}
use Rattle.split_ring.specs.Focus.{seat_of}
use Rattle.split_ring.specs.Phases.{side_of}
use Rattle.split_ring.specs.Seats.{pass_in}
use Rattle.split_ring.proofs.Carrying.{only_others, phase_at}
use Rattle.split_ring.proofs.CarriedMakes.{keeps_alone}
use Rattle.split_ring.proofs.CarriedSteps.{pass_there}
use Rattle.split_ring.proofs.CloseSteps.{manages_noted, pass_stays, place_stays, rests_noted}
use Rattle.split_ring.proofs.Focusing.{found_number}
use Rattle.split_ring.proofs.Makes.{rests_at}

module _ {D : Type 0} (link : SharedLink D) (before after : Manager) (made : Made) (closed : Bool)
    (told : Notes made (λ p. p) (place_of_number 64 before.seat.me.0.passes) before.seat.me.1 (record before.seat.me.0 { is_closed = closed }, before.seat.me.1) after.seat.me) (out : after.out ≡ before.out) (users : after.users ≡ before.users) where
  abbrev place : ℕ
  place = place_of_number 64 before.seat.me.0.passes

  abbrev Next : SeatState
  Next = (record before.seat.me.0 { is_closed = closed; copy = after.seat.me.0.copy; passes = with_pass_at (λ p. noted made p) (place_of_number 64 before.seat.me.0.passes) before.seat.me.0.passes }, before.seat.me.1)

  same : after.seat.me ≡ Next
  same = told

  pub carrier_closed : after.seat.table_id ≡ link.table.shared.table_id → IsOrderly after.seat.me.0 → IsManagerOf link before → IsManagerOf link after
  carrier_closed table order c = let me = before.seat.me in let knows : SeatState = (record me.0 { is_closed = closed }, me.1) in record {
    at_table = table;
    manages = manages_noted made place knows after.seat.me told c.manages;
    rests = rests_noted made place knows after.seat.me _ told (rests_at {me' = knows} refl c.rests);
    knows = ap (λ (s : SeatState). s.0.users) same ∙ (c.knows ∙ sym users);
    told = ap (λ (s : SeatState). s.0.sizes) same ∙ c.told;
    order = order;
    blocks = subst (λ (t : List ℕ × SeatState). HasBlocks t.0 t.1) (λ i. (sym out i, sym same i)) (record {
      four = c.blocks.four;
      few = c.blocks.few;
      all = c.blocks.all;
      owned = λ slot more. let o = c.blocks.owned slot more in let p = pass_stays made place me.0.passes o.0 o.1 o.2 in (o.0, p.0, p.1, ap (has_side slot) p.3 ∙ o.3);
    });
  }

  pub keeps_closed : (who : CallerId) (p : Phase) → Keeps link before after who p
  keeps_closed who p c =
      let me = before.seat.me in let at = side_of who.end p in let turned : SeatState = (me.0, turned_to at before.out me.1) in let n = who.number in let k = place_of_number n me.0.passes in let q = pass_in (seat_of n turned) in
      let there = pass_there n turned who p (phase_at link.sizes who p (seat_of n turned) c.stands) in
      let apart : k ≡ place → ⊥ = λ is. let found = found_number 64 me.0.passes q (ap (get_elem? me.0.passes) (sym is) ∙ there) in let low = c.low in let number = c.number in absurd (omega (arith, found, low, number)) in
      let one : only_pass (place_of_number n Next.0.passes) Next.0.passes ≡ only_pass k me.0.passes = ap (λ (j : ℕ). only_pass j Next.0.passes) (place_stays made place n me.0.passes) ∙ only_others (λ x. noted made x) place k me.0.passes apart in
      keeps_alone link before after Next.0 who p same out one (ap (λ (us : List (Option End)). end_of us n) users ∙ c.user) c
