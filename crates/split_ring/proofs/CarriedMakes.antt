-- A caller that the manager makes and carries, beside the calls that it carries already.
use Rattle.std.proofs.Common.{◌≡◌, ◌<◌, ℕ, zero, suc, Bool, true, false, eqb, eq-eqb, cond, length, List, [], ◌∷◌, ◌++◌, refl, sym, ap, ◌∙◌, subst, arith}
use Rattle.std.specs.Prelude.{Option, Some, None, slice_index, slice_set}
use Rattle.std.proofs.lemmas.Bool.{eqb-true}
use mathlib.Core.Option.{some, some-injective, some-ne-none}
use lib.ListN.{get_elem?}
use Rattle.atomic_table.proofs.Lists.{at_longer}
use Rattle.rp_base.specs.declared.kinds.End.{End}
use Rattle.lane_model.specs.Links.{end_of, free_number}
use Rattle.link_words.specs.declared.copies.LinkCopy.{LinkCopy}
use Rattle.link_words.specs.declared.rule.Call.{Call}
use Rattle.link_words.specs.declared.rule.Call.TheVariants.{Gathers}
use Rattle.link_words.specs.declared.rule.Pass.{Pass}
use Rattle.link_words.specs.declared.rule.Slot.{Slot}
use Rattle.link_words.specs.declared.rule.View.{View}
use Rattle.link_words.specs.Calls.{SeatState, call_at}
use Rattle.link_words.specs.Orderly.{IsOrderly}
use Rattle.link_words.specs.Passes.{Manages, first_incarnation, new_pass, only_pass, place_of_number, with_caller_as}
use Rattle.link_words.specs.Reopens.{ManagerAt}
use Rattle.link_words.specs.Sides.{no_sides}
use Rattle.link_words.proofs.Users.{end_else, end_here, free_is}
use Rattle.split_ring.specs.declared.callers.CallerId.{CallerId}
use Rattle.split_ring.specs.declared.callers.Manager.{Manager}
use Rattle.split_ring.specs.CallPhases.{Phase}
use Rattle.split_ring.specs.CallPhases as phase
use Rattle.split_ring.specs.declared.links.SharedLink.{SharedLink}
use Rattle.lane_model.specs.declared.calls.Ask.{Ask}
use Rattle.split_ring.specs.Callers.{IsManagerOf}
use Rattle.split_ring.specs.Calls.{IsOwnAsk}
use Rattle.split_ring.specs.Carried.{Carries, HasBlocks, IsNew, Keeps, carried_at, carried_seat, turned_to}
use Rattle.split_ring.specs.Focus.{count_of, front, seat_of, slot_count}
use Rattle.split_ring.specs.Phases.{side_of}
use Rattle.split_ring.specs.Reclaims.{StandsIn}
use Rattle.split_ring.specs.Seats.{first_pass, pass_in}
use Rattle.split_ring.proofs.Carrying.{own_same, phase_at, stands_same}
use Rattle.split_ring.proofs.CarriedSteps.{count_there, pass_there}
use Rattle.split_ring.proofs.Enlisting.{place_longer}
use Rattle.split_ring.proofs.Focusing.{call_alone, call_there, false-true}
use Rattle.split_ring.proofs.Makes.{rests_at}

-- a pass alone, where others come behind it
only_longer : (k : ℕ) (ps qs : List Pass) (p : Pass) → get_elem? ps k ≡ some p → only_pass k (ps ++ qs) ≡ only_pass k ps
only_longer k [] qs p at = absurd (some-ne-none p (sym at))
only_longer zero (q ∷ ps) qs p at = refl
only_longer (suc k) (q ∷ ps) qs p at = only_longer k ps qs p at

pub only_is : (k : ℕ) (ps : List Pass) (p : Pass) → get_elem? ps k ≡ some p → only_pass k ps ≡ p ∷ []
only_is k [] p at = absurd (some-ne-none p (sym at))
only_is zero (q ∷ ps) p at = ap (λ (x : Pass). x ∷ []) (some-injective q p at)
only_is (suc k) (q ∷ ps) p at = only_is k ps p at

last_there : (ps : List Pass) (p : Pass) → get_elem? (ps ++ p ∷ []) (length ps) ≡ some p
last_there [] p = refl
last_there (q ∷ ps) p = last_there ps p

-- the place of a number is that of the pass that has it
number_there : (n k : ℕ) (ps : List Pass) (p : Pass) → get_elem? ps k ≡ some p → p.number ≡ n → (q : Pass) × (get_elem? ps (place_of_number n ps) ≡ some q) × (q.number ≡ n)
number_there n k [] p at is = absurd (some-ne-none p (sym at))
number_there n k (x ∷ xs) p at is = go (λ j there. number_there n j xs p there is) (eqb x.number n) refl k at
  where
    go : ((j : ℕ) → get_elem? xs j ≡ some p → (q : Pass) × (get_elem? xs (place_of_number n xs) ≡ some q) × (q.number ≡ n)) → (b : Bool) → eqb x.number n ≡ b → (k : ℕ) → get_elem? (x ∷ xs) k ≡ some p
        → (q : Pass) × (get_elem? (x ∷ xs) (cond b 0 (suc (place_of_number n xs))) ≡ some q) × (q.number ≡ n)
    go more true same k at = (x, refl, eqb-true x.number n same)
    go more false same zero at = absurd (false-true (sym same ∙ eq-eqb x.number n (ap (λ (y : Pass). y.number) (some-injective x p at) ∙ is)))
    go more false same (suc k) at = more k at

pub place_is : (v : View) (n k : ℕ) (p : Pass) → IsOrderly v → get_elem? v.passes k ≡ some p → p.number ≡ n → place_of_number n v.passes ≡ k
place_is v n k p order at is = let found = number_there n k v.passes p at is in order.numbers (place_of_number n v.passes) k found.0 p found.1 at (found.2 ∙ sym is)

-- where nothing is out
none_out : (slot : ℕ) → slice_index (0 ∷ 0 ∷ 0 ∷ 0 ∷ []) slot ≡ 0
none_out zero = refl
none_out (suc zero) = refl
none_out (suc (suc zero)) = refl
none_out (suc (suc (suc zero))) = refl
none_out (suc (suc (suc (suc n)))) = refl

pub no_blocks : (me : SeatState) → me.1 ≡ [] → HasBlocks (0 ∷ 0 ∷ 0 ∷ 0 ∷ []) me
no_blocks me none = record {
  four = refl;
  few = λ slot. let is = none_out slot in omega (arith, is);
  all = sym (ap (λ (l : List (ℕ × Slot)). length l) none);
  owned = λ slot more. absurd (more (none_out slot));
}

-- more passes behind those that are there
module _ (counts : List ℕ) (me : SeatState) (v : View) (qs : List Pass) (longer : v.passes ≡ me.0.passes ++ qs) where
  pub blocks_longer : HasBlocks counts me → HasBlocks counts (v, me.1)
  blocks_longer h = record {
    four = h.four;
    few = h.few;
    all = h.all;
    owned = λ slot more. let o = h.owned slot more in (o.0, o.1, ap (λ (ps : List Pass). get_elem? ps o.0) longer ∙ at_longer me.0.passes qs o.0 o.1 o.2, o.3);
  }

  module _ (n : ℕ) (p : Pass) (at : get_elem? me.0.passes (place_of_number n me.0.passes) ≡ some p) where
    place_kept : place_of_number n v.passes ≡ place_of_number n me.0.passes
    place_kept = ap (place_of_number n) longer ∙ place_longer n me.0.passes qs p at

    there_kept : get_elem? v.passes (place_of_number n me.0.passes) ≡ some p
    there_kept = ap (λ (ps : List Pass). get_elem? ps (place_of_number n me.0.passes)) longer ∙ at_longer me.0.passes qs (place_of_number n me.0.passes) p at

    pub pass_kept : only_pass (place_of_number n v.passes) v.passes ≡ only_pass (place_of_number n me.0.passes) me.0.passes
    pass_kept = (λ i. only_pass (place_kept i) (longer i)) ∙ only_longer (place_of_number n me.0.passes) me.0.passes qs p at

-- where the pass of a caller, alone, and the slots are as they were, and it is in use still, the manager carries it as it did
pub keeps_alone : {D : Type 0} (link : SharedLink D) (before after : Manager) (v : View) (who : CallerId) (p : Phase) → after.seat.me ≡ (v, before.seat.me.1) → after.out ≡ before.out
    → only_pass (place_of_number who.number v.passes) v.passes ≡ only_pass (place_of_number who.number before.seat.me.0.passes) before.seat.me.0.passes → end_of after.users who.number ≡ Some who.end → Keeps link before after who p
keeps_alone link before after v who p seat out one user c =
    let me = before.seat.me in let n = who.number in let at = side_of who.end p in
    let same : carried_at who p after.out after.seat.me ≡ carried_at who p before.out (v, me.1) = λ i. carried_at who p (out i) (seat i) in
    let call : call_at (place_of_number n v.passes) v.passes ≡ call_at (place_of_number n me.0.passes) me.0.passes =
    call_alone (place_of_number n v.passes) v.passes ∙ (ap (call_at 0) one ∙ sym (call_alone (place_of_number n me.0.passes) me.0.passes)) in
    let pass : pass_in (carried_seat who p after) ≡ pass_in (carried_seat who p before) = ap pass_in same ∙ ap first_pass one in (
      record {
        user = user;
        low = c.low;
        number = ap (λ (q : Pass). q.number) pass ∙ c.number;
        counted = λ more. ap (λ (cs : List ℕ). slice_index cs at) out ∙ c.counted more;
        stands = subst (StandsIn link.sizes who p) (sym same)
            (stands_same link.sizes who p (carried_seat who p before) (carried_at who p before.out (v, me.1)) one (ap (λ (k : Call). front (slot_count k) (turned_to at before.out me.1)) call) c.stands);
      },
      pass,
    )

-- one call of the manager after another
pub keeps_then : {D : Type 0} (link : SharedLink D) (a b c : Manager) (who : CallerId) (p : Phase) → Keeps link a b who p → Keeps link b c who p → Keeps link a c who p
keeps_then link a b c who p first second carried = let x = first carried in let y = second x.0 in (y.0, y.1 ∙ x.1)

-- who is in use is so still where a free number is given out
pub user_still : (users : List (Option End)) (n number : ℕ) (new : Option End) (e : End) → free_number users ≡ Some n → end_of users number ≡ Some e → end_of (slice_set users n new) number ≡ Some e
user_still users n number new e free used = end_else users n number new (λ is. none_some e (sym (free_is users n free).0 ∙ (ap (end_of users) is ∙ used))) ∙ used
  where
    none_some : (e : End) → None ≡ Some e → ⊥
    none_some e is = absurd (cc)

module _ {D : Type 0} (link : SharedLink D) (before after : Manager) (end : End) (n : ℕ) (free : free_number before.users ≡ Some n) (copy : Option LinkCopy) (seat : after.seat.me ≡ (with_caller_as end before.seat.me.0 copy (Some n), before.seat.me.1)) (out : after.out ≡ before.out)
    (users : after.users ≡ slice_set before.users n (Some end)) where
  abbrev Next : SeatState
  Next = (with_caller_as end before.seat.me.0 copy (Some n), before.seat.me.1)

  -- each other caller that the manager carries is where it was
  pub others_enlisted : (who : CallerId) (p : Phase) → Keeps link before after who p
  others_enlisted who p c =
      let me = before.seat.me in let at = side_of who.end p in let turned : SeatState = (me.0, turned_to at before.out me.1) in let qs = new_pass end n (first_incarnation n me.0) ∷ [] in
      let there = pass_there who.number turned who p (phase_at link.sizes who p (seat_of who.number turned) c.stands) in
      let one = pass_kept before.out me Next.0 qs refl who.number (pass_in (seat_of who.number turned)) there in
      keeps_alone link before after Next.0 who p seat out one (ap (λ (us : List (Option End)). end_of us who.number) users ∙ user_still before.users n who.number (Some end) who.end free c.user) c

  -- and so does it carry the new one, in no call
  pub new_carried : (follows : ℕ) → n < 64 → IsOrderly after.seat.me.0 → Carries link after (record { number = n; end = end; follows = follows }) phase.Ended × IsNew (carried_seat (record { number = n; end = end; follows = follows }) phase.Ended after)
  new_carried follows low order =
      let who : CallerId = record { number = n; end = end; follows = follows } in let me = before.seat.me in let new = new_pass end n (first_incarnation n me.0) in let k = length me.0.passes in
      let view = ap (λ (s : SeatState). s.0) seat in let passes = ap (λ (v : View). v.passes) view in
      let there : get_elem? after.seat.me.0.passes k ≡ some new = ap (λ (ps : List Pass). get_elem? ps k) passes ∙ last_there me.0.passes new in
      let place = place_is after.seat.me.0 n k new order there refl in
      let one : only_pass (place_of_number n after.seat.me.0.passes) after.seat.me.0.passes ≡ new ∷ [] = ap (λ (j : ℕ). only_pass j after.seat.me.0.passes) place ∙ only_is k after.seat.me.0.passes new there in
      let count : count_of n after.seat.me ≡ 0 = ap slot_count (ap (λ (j : ℕ). call_at j after.seat.me.0.passes) place ∙ call_there k after.seat.me.0.passes new there) in
      let pass = ap first_pass one in (
        record {
          user = ap (λ (us : List (Option End)). end_of us n) users ∙ end_here before.users n (Some end) (free_is before.users n free).1;
          low = low;
          number = ap (λ (p : Pass). p.number) pass;
          counted = λ more. absurd (more refl);
          stands = record {
            one = one ∙ ap (λ (p : Pass). p ∷ []) (sym pass);
            in_call = ap (λ (p : Pass). p.call) pass;
            out = ap (λ (j : ℕ). front j (turned_to (side_of end phase.Ended) after.out after.seat.me.1)) count;
          };
        },
        (ap (λ (p : Pass). p.own) pass, ap (λ (p : Pass). p.hands) pass),
      )

-- a seat that is as it was
pub met_same : (me me' : SeatState) → me' ≡ me → me' ≡ (record me.0 { copy = me'.0.copy }, me.1)
met_same me me' same = same ∙ (λ i. (record me.0 { copy = (sym same i).0.copy }, me.1))

-- where the passes and the slots are as they were, each caller that the manager carries is where it was
module _ {D : Type 0} (link : SharedLink D) (before after : Manager) (v : View) (seat : after.seat.me ≡ (v, before.seat.me.1)) (passes : v.passes ≡ before.seat.me.0.passes) (out : after.out ≡ before.out) (users : after.users ≡ before.users) where
  abbrev Kept : SeatState
  Kept = (v, before.seat.me.1)

  pub carrier_kept : v.users ≡ before.seat.me.0.users → v.sizes ≡ before.seat.me.0.sizes → after.seat.table_id ≡ link.table.shared.table_id → IsOrderly after.seat.me.0 → IsManagerOf link before → IsManagerOf link after
  carrier_kept knows told table order c = record {
    at_table = table;
    manages = subst (λ (s : SeatState). Manages s.0) (sym seat) (subst (λ (ps : List Pass). (k : ℕ) × (b : Pass) × (get_elem? ps k ≡ some b) × (b.number ≡ 64)) (sym passes) c.manages);
    rests = subst (λ (s : SeatState). ManagerAt s (Gathers no_sides no_sides)) (sym seat) (rests_at {me' = Kept} (sym passes) c.rests);
    knows = ap (λ (s : SeatState). s.0.users) seat ∙ (knows ∙ (c.knows ∙ sym users));
    told = ap (λ (s : SeatState). s.0.sizes) seat ∙ (told ∙ c.told);
    order = order;
    blocks = subst (λ (t : List ℕ × SeatState). HasBlocks t.0 t.1) (λ i. (sym out i, sym seat i)) (record {
      four = c.blocks.four;
      few = c.blocks.few;
      all = c.blocks.all;
      owned = λ slot more. let o = c.blocks.owned slot more in (o.0, o.1, ap (λ (ps : List Pass). get_elem? ps o.0) passes ∙ o.2, o.3);
    });
  }

  pub keeps_same : (who : CallerId) (p : Phase) → Keeps link before after who p
  keeps_same who p c = keeps_alone link before after v who p seat out (λ i. only_pass (place_of_number who.number (passes i)) (passes i)) (ap (λ (us : List (Option End)). end_of us who.number) users ∙ c.user) c

-- and so it is where the copy alone changes
module _ {D : Type 0} (link : SharedLink D) (before after : Manager) (seat : after.seat.me ≡ (record before.seat.me.0 { copy = after.seat.me.0.copy }, before.seat.me.1)) (out : after.out ≡ before.out) (users : after.users ≡ before.users) where
  pub carrier_copied : after.seat.table_id ≡ link.table.shared.table_id → IsOrderly after.seat.me.0 → IsManagerOf link before → IsManagerOf link after
  carrier_copied table order c = carrier_kept link before after (record before.seat.me.0 { copy = after.seat.me.0.copy }) seat refl out users refl refl table order c

  pub keeps_copied : (who : CallerId) (p : Phase) → Keeps link before after who p
  keeps_copied who p c = keeps_same link before after (record before.seat.me.0 { copy = after.seat.me.0.copy }) seat refl out users who p c

-- a carried caller in no call begins one
pub begins_carried : {D : Type 0} (link : SharedLink D) (manager : Manager) (who : CallerId) (asked : Ask) → Carries link manager who phase.Ended → IsOwnAsk who asked (carried_seat who phase.Ended manager) → Carries link manager who (phase.Asked asked)
begins_carried link manager who asked c own =
    let ended = carried_seat who phase.Ended manager in let next = carried_seat who (phase.Asked asked) manager in let out = manager.out in let slots = manager.seat.me.1 in
    let none = count_there who.number (manager.seat.me.0, turned_to (side_of who.end phase.Ended) out slots) who phase.Ended (phase_at link.sizes who phase.Ended ended c.stands) in
    let same : next.1 ≡ ended.1 = ap (λ (k : ℕ). front k (turned_to (side_of who.end (phase.Asked asked)) out slots)) none ∙ sym (ap (λ (k : ℕ). front k (turned_to (side_of who.end phase.Ended) out slots)) none) in
    record {
      user = c.user;
      low = c.low;
      number = c.number;
      counted = λ more. absurd (more refl);
      stands = (stands_same link.sizes who phase.Ended ended next refl same c.stands, own_same who asked ended next refl own);
    }
