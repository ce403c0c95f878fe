-- A caller that the manager makes and carries.
use Rattle.std.proofs.Common.{◌≡◌, ℕ, suc, Bool, true, false, eqb, cond, List, [], ◌∷◌, ◌++◌, refl, sym, ap, ◌∙◌, subst}
use Rattle.std.specs.Prelude.{Option, Some}
use mathlib.Core.Option.{some, some-ne-none}
use lib.ListN.{get_elem?}
use Rattle.atomic_table.proofs.Lists.{at_longer}
use Rattle.rp_base.specs.declared.kinds.End.{End}
use Rattle.lane_model.specs.Links.{free_number}
use Rattle.link_words.specs.declared.copies.LinkCopy.{LinkCopy}
use Rattle.link_words.specs.declared.rule.Call.{Call}
use Rattle.link_words.specs.declared.rule.Pass.{Pass}
use Rattle.link_words.specs.declared.rule.View.{View}
use Rattle.link_words.specs.Calls.{SeatState}
use Rattle.link_words.specs.Passes.{Manages, place_of_number, new_pass, first_incarnation, with_new_caller, with_caller_as}
use Rattle.link_words.specs.PlacedLinks.{IsSameCarrier}
use Rattle.link_words.specs.Reopens.{ManagerAt}

-- a pass that is there stands where it stood when others come behind
found_first : (n : ℕ) (ps qs : List Pass) (p : Pass) (b : Bool) (q : Pass) → (get_elem? ps (place_of_number n ps) ≡ some p → place_of_number n (ps ++ qs) ≡ place_of_number n ps)
    → get_elem? (q ∷ ps) (cond b 0 (suc (place_of_number n ps))) ≡ some p → cond b 0 (suc (place_of_number n (ps ++ qs))) ≡ cond b 0 (suc (place_of_number n ps))
found_first n ps qs p true q rest at = refl
found_first n ps qs p false q rest at = ap suc (rest at)

pub place_longer : (n : ℕ) (ps qs : List Pass) (p : Pass) → get_elem? ps (place_of_number n ps) ≡ some p → place_of_number n (ps ++ qs) ≡ place_of_number n ps
place_longer n [] qs p at = absurd (some-ne-none p (sym at))
place_longer n (q ∷ ps) qs p at = found_first n ps qs p (eqb q.number n) q (place_longer n ps qs p) at

-- the manager's own pass is in its call, with a caller more behind it
longer_at : (me : SeatState) (call : Call) (qs : List Pass) (v : View) (slots : List _) → v.passes ≡ me.0.passes ++ qs → ManagerAt me call → ManagerAt (v, slots) call
longer_at me call qs v slots is at = record {
  mover = record { place = at.mover.place; pass = at.mover.pass; here = ap (λ (ps : List Pass). get_elem? ps at.mover.place) is ∙ at_longer me.0.passes qs at.mover.place at.mover.pass at.mover.here };
  here = at.here ∙ (sym (place_longer 64 me.0.passes qs at.mover.pass (ap (get_elem? me.0.passes) (sym at.here) ∙ at.mover.here)) ∙ ap (place_of_number 64) (sym is));
  number = at.number;
  in_call = at.in_call;
}

-- the view behind the making of a caller of this number
pub new_view : (e : End) (v : View) (k : Option LinkCopy) (n : ℕ) → free_number v.users ≡ Some n → with_new_caller e v k ≡ with_caller_as e v k (Some n)
new_view e v k n free = ap (with_caller_as e v k) free

pub enlisted_at : (e : End) (me me' : SeatState) (n : ℕ) (call : Call) → free_number me.0.users ≡ Some n → me' ≡ (with_new_caller e me.0 me'.0.copy, me.1) → ManagerAt me call → ManagerAt me' call
enlisted_at e me me' n call free is at =
    subst (λ (s : SeatState). ManagerAt s call) (sym is) (longer_at me call (new_pass e n (first_incarnation n me.0) ∷ []) (with_new_caller e me.0 me'.0.copy) me.1 (ap (λ (w : View). w.passes) (new_view e me.0 me'.0.copy n free)) at)

-- the callers are where they were
pub enlisted_carrier : (e : End) (me me' : SeatState) (n : ℕ) → free_number me.0.users ≡ Some n → me' ≡ (with_new_caller e me.0 me'.0.copy, me.1) → Manages me'.0 → IsSameCarrier me.0 me'.0
enlisted_carrier e me me' n free is manages = let view = ap (λ (s : SeatState). s.0) is ∙ new_view e me.0 me'.0.copy n free in
    record { manages = manages; out = ap (λ (w : View). w.out) view; sizes = ap (λ (w : View). w.sizes) view }
