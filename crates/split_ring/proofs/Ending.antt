-- A caller that the manager carried has ended: its pass is taken out, and its number is free. The others are where they were.
use Rattle.std.proofs.Common.{◌≡◌, ◌≢◌, ◌<◌, ℕ, zero, suc, Bool, true, false, eqb, cond, List, [], ◌∷◌, refl, sym, ap, ◌∙◌, subst, arith}
use Rattle.std.specs.Prelude.{Option, None, Some, slice_set}
use Rattle.std.proofs.lemmas.Bool.{eqb-true}
use mathlib.Core.Option.{some, some-injective, some-ne-none}
use lib.ListN.{get_elem?}
use base.Stored.{Coded}
use Rattle.rp_base.specs.declared.kinds.End.{End}
use Rattle.lane_model.specs.Desks.{DeskMeaning}
use Rattle.lane_model.specs.Links.{end_of}
use Rattle.link_words.specs.declared.copies.LinkCopy.{LinkCopy}
use Rattle.link_words.specs.declared.rule.Call.TheVariants.{Gathers, Rests}
use Rattle.link_words.specs.declared.rule.Pass.{Pass}
use Rattle.link_words.specs.Calls.{SeatState, has_side}
use Rattle.link_words.specs.Orderly.{IsOrderly}
use Rattle.link_words.specs.Passes.{Manages, after_end_of, only_pass, place_of_number, without_pass}
use Rattle.link_words.specs.Reopens.{ManagerAt}
use Rattle.link_words.specs.Sides.{no_sides}
use Rattle.link_words.proofs.Users.{end_else}
use Rattle.split_ring.specs.declared.callers.CallerId.{CallerId}
use Rattle.split_ring.specs.declared.callers.Manager.{Manager}
use Rattle.split_ring.specs.CallPhases.{Phase}
use Rattle.split_ring.specs.declared.links.SharedLink.{SharedLink}
use Rattle.split_ring.specs.Carried.{Keeps, HasBlocks}
use Rattle.split_ring.specs.Callers.{IsManagerOf}
use Rattle.split_ring.specs.Reclaims.{IsAnothers}
use Rattle.split_ring.proofs.CarriedLinks.{same_user}
use Rattle.split_ring.proofs.CarriedMakes.{keeps_alone, only_is}
use Rattle.split_ring.proofs.Focusing.{false-true, only_there}

-- where the pass of one number is taken out, that of another is alone as it was
only_without : (n w : ℕ) (ps : List Pass) → w ≢ n → only_pass (place_of_number w (without_pass (place_of_number n ps) ps)) (without_pass (place_of_number n ps) ps) ≡ only_pass (place_of_number w ps) ps
only_without n w [] apart = refl
only_without n w (p ∷ ps) apart = by (only_without n w ps apart) (eqb p.number n) refl
  where
    here : p.number ≡ n → (b : Bool) → eqb p.number w ≡ b → only_pass (place_of_number w ps) ps ≡ only_pass (cond b 0 (suc (place_of_number w ps))) (p ∷ ps)
    here is true same = absurd (apart (sym (eqb-true p.number w same) ∙ is))
    here is false same = refl

    later : only_pass (place_of_number w (without_pass (place_of_number n ps) ps)) (without_pass (place_of_number n ps) ps) ≡ only_pass (place_of_number w ps) ps → (b : Bool) → only_pass (cond b 0 (suc (place_of_number w (without_pass (place_of_number n ps) ps)))) (p ∷ without_pass (place_of_number n ps) ps) ≡ only_pass (cond b 0 (suc (place_of_number w ps))) (p ∷ ps)
    later more true = refl
    later more false = more

    by : only_pass (place_of_number w (without_pass (place_of_number n ps) ps)) (without_pass (place_of_number n ps) ps) ≡ only_pass (place_of_number w ps) ps → (b : Bool) → eqb p.number n ≡ b → only_pass (place_of_number w (without_pass (cond b 0 (suc (place_of_number n ps))) (p ∷ ps))) (without_pass (cond b 0 (suc (place_of_number n ps))) (p ∷ ps)) ≡ only_pass (place_of_number w (p ∷ ps)) (p ∷ ps)
    by more true same = here (eqb-true p.number n same) (eqb p.number w) refl
    by more false same = later more (eqb p.number w)

-- and each pass but the one that was taken out is there
there_without : (m k : ℕ) (ps : List Pass) (q : Pass) → (k ≡ m → ⊥) → get_elem? ps k ≡ some q → (j : ℕ) × (get_elem? (without_pass m ps) j ≡ some q)
there_without m k [] q differs at = absurd (some-ne-none q (sym at))
there_without zero zero (p ∷ ps) q differs at = absurd (differs refl)
there_without zero (suc k) (p ∷ ps) q differs at = (k, at)
there_without (suc m) zero (p ∷ ps) q differs at = (0, at)
there_without (suc m) (suc k) (p ∷ ps) q differs at = let j = there_without m k ps q (λ same. differs (ap suc same)) at in (suc j.0, j.1)

-- the pass of a number, by what is alone at its place
pub pass_at : (n m : ℕ) (ps : List Pass) (p : Pass) → m ≡ n → only_pass (place_of_number m ps) ps ≡ p ∷ [] → get_elem? ps (place_of_number n ps) ≡ some p
pass_at n m ps p same one = ap (λ (k : ℕ). get_elem? ps (place_of_number k ps)) (sym same) ∙ (only_there (place_of_number m ps) ps 0 p (ap (λ (l : List Pass). get_elem? l 0) one)).1

-- two callers of a number that is in use have one end: what their calls follow is all that differs
pub same_id : (users : List (Option End)) (n : ℕ) (a b : CallerId) → a.number ≡ n → end_of users n ≡ Some a.end → b.number ≡ n → end_of users b.number ≡ Some b.end → record a { follows = b.follows } ≡ b
same_id users n a b one is_one two is_two =
    let end = same_user users n a.end b.end is_one (subst (λ (k : ℕ). end_of users k ≡ Some b.end) two is_two) in λ i. record { number = (one ∙ sym two) i; end = end i; follows = b.follows }

pub anothers_same : {D : Type 0} (coded : Coded D) (meaning : DeskMeaning D) (a b : CallerId) (holder : ℕ) → record a { follows = b.follows } ≡ b → IsAnothers coded meaning a holder → IsAnothers coded meaning b holder
anothers_same coded meaning a b holder same is = subst (λ (w : CallerId). IsAnothers coded meaning w holder) same (record { before = is.before; after = is.after; step = is.step })

module _ {D : Type 0} (link : SharedLink D) (before after : Manager) (n : ℕ) (copy : Option LinkCopy) (seat : after.seat.me ≡ (after_end_of n before.seat.me.0 copy, before.seat.me.1)) (out : after.out ≡ before.out) (users : after.users ≡ slice_set before.users n None) where
  abbrev Next : SeatState
  Next = (after_end_of n before.seat.me.0 copy, before.seat.me.1)

  abbrev left : List Pass
  left = without_pass (place_of_number n before.seat.me.0.passes) before.seat.me.0.passes

  -- each other caller that the manager carries is where it was
  pub others_kept : (who : CallerId) (p : Phase) → who.number ≢ n → Keeps link before after who p
  others_kept who p apart c = keeps_alone link before after Next.0 who p seat out (only_without n who.number before.seat.me.0.passes apart) (ap (λ (us : List (Option End)). end_of us who.number) users ∙ (end_else before.users n who.number None (λ is. apart (sym is)) ∙ c.user)) c

  -- and it is a carrier still, where that caller was in no call
  module _ (e : End) (p : Pass) (there : get_elem? before.seat.me.0.passes (place_of_number n before.seat.me.0.passes) ≡ some p) (rests : p.call ≡ Rests e) (low : n < 64) where
    manager_there : (r : ManagerAt before.seat.me (Gathers no_sides no_sides)) → get_elem? left (place_of_number 64 left) ≡ some r.mover.pass
    manager_there r = let ps = before.seat.me.0.passes in let k = place_of_number 64 ps in let m = r.mover.pass in
        (only_there (place_of_number 64 left) left 0 m (ap (λ (l : List Pass). get_elem? l 0) (only_without n 64 ps (λ is. absurd (omega (arith, is, low))) ∙ only_is k ps m (ap (get_elem? ps) (sym r.here) ∙ r.mover.here)))).1

    blocks_kept : HasBlocks before.out before.seat.me → HasBlocks before.out Next
    blocks_kept h = record {
      four = h.four;
      few = h.few;
      all = h.all;
      owned = λ slot more. let o = h.owned slot more in let ps = before.seat.me.0.passes in
          let differs : o.0 ≡ place_of_number n ps → ⊥ = λ same. false-true (sym (ap (has_side slot) rests) ∙ (ap (λ (q : Pass). has_side slot q.call) (some-injective p o.1 (sym there ∙ (ap (get_elem? ps) (sym same) ∙ o.2))) ∙ o.3)) in
          let j = there_without (place_of_number n ps) o.0 ps o.1 differs o.2 in (j.0, o.1, j.1, o.3);
    }

    pub carrier_ended : after.seat.table_id ≡ link.table.shared.table_id → IsOrderly after.seat.me.0 → IsManagerOf link before → IsManagerOf link after
    carrier_ended table order c = let r = c.rests in let m = manager_there r in record {
      at_table = table;
      manages = subst (λ (s : SeatState). Manages s.0) (sym seat) (place_of_number 64 left, r.mover.pass, m, r.number);
      rests = subst (λ (s : SeatState). ManagerAt s (Gathers no_sides no_sides)) (sym seat) (record { mover = record { place = place_of_number 64 left; pass = r.mover.pass; here = m }; here = refl; number = r.number; in_call = r.in_call });
      knows = ap (λ (s : SeatState). s.0.users) seat ∙ (ap (λ (us : List (Option End)). slice_set us n None) c.knows ∙ sym users);
      told = ap (λ (s : SeatState). s.0.sizes) seat ∙ c.told;
      order = order;
      blocks = subst (λ (t : List ℕ × SeatState). HasBlocks t.0 t.1) (λ i. (sym out i, sym seat i)) (blocks_kept c.blocks);
    }
