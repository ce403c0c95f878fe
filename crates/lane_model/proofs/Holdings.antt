-- Holdings: one more, one fewer, those of the others.
use Rattle.std.proofs.Common.{◌≡◌, ◌≢◌, ℕ, suc, ◌<◌, ◌==◌, ◌+◌, ◌&&◌, ◌||◌, not, eqb, length, Bool, true, false, cond, IsTrue, Option, refl, sym, ap, subst, ◌∙◌, arith, List, [], ◌∷◌, ◌++◌}
use Rattle.std.proofs.lemmas.Bool.{false≢true, eqb-true, ne_eqb, or_parts, or_from, and_parts, cond_both}
use Rattle.std.proofs.lemmas.List.{length-append}
use Rattle.std.proofs.lemmas.List.Folds.{list_any-append}
use Rattle.rp_base.specs.declared.kinds.End.{End}
use Rattle.lane_model.specs.declared.states.Holding.{Holding}
use Rattle.lane_model.specs.Lanes.{holds, without}
use Rattle.lane_model.specs.Soundness.{IsUser, is_held, AreHandedOnce, AreUsers}

pub length-more : {A : Type 0} (xs : List A) (x : A) → length (xs ++ x ∷ []) ≡ length xs + 1
length-more xs x = length-append xs (x ∷ [])

-- a number below the next one is not the next one
not_held_after : (held : List Holding) (new : Holding) (number : ℕ) → is_held held number ≡ false → number < new.number → is_held (held ++ new ∷ []) number ≡ false
not_held_after held new number free below =
    list_any-append (λ holding. holding.number == number) held (new ∷ [])
    ∙ or_from _ _ free (or_from _ _ (ne_eqb _ _ (λ same. omega arith)) refl)

-- the holdings, and the message that is handed over next
pub handed_once : (handed caller : ℕ) (held : List Holding) → AreHandedOnce handed held
    → AreHandedOnce (handed + 1) (held ++ record { number = handed; caller = caller } ∷ [])
handed_once handed caller [] once = (refl, omega arith, tt)
handed_once handed caller (h ∷ hs) once =
    (not_held_after hs (record { number = handed; caller = caller }) h.number once.0 once.1, omega (arith, once.1), handed_once handed caller hs once.2)

-- the holders, and one more
pub handed_users : (callers : List (Option End)) (end : End) (number caller : ℕ) (held : List Holding) → IsUser callers end caller → AreUsers callers end held
    → AreUsers callers end (held ++ record { number = number; caller = caller } ∷ [])
handed_users callers end number caller [] user users = (user, tt)
handed_users callers end number caller (h ∷ hs) user users = (users.0, handed_users callers end number caller hs user users.1)

-- what holds of both choices holds of the one that is made
without_has : (P : List Holding → Type 0) (h : Holding) (hs : List Holding) (number caller : ℕ) → P (h ∷ without hs number caller) → P (without hs number caller) → P (without (h ∷ hs) number caller)
without_has P h hs number caller kept gone =
    cond_both (not (eqb h.number number && eqb h.caller caller)) (h ∷ without hs number caller) (without hs number caller) P (λ _. kept) (λ _. gone)

-- a number that is not held is not held by fewer
not_held_without : (held : List Holding) (number caller other : ℕ) → is_held held other ≡ false → is_held (without held number caller) other ≡ false
not_held_without [] number caller other free = refl
not_held_without (h ∷ hs) number caller other free =
    let parts = or_parts (eqb h.number other) (is_held hs other) free in
    let rest = not_held_without hs number caller other parts.1 in
    without_has (λ left. is_held left other ≡ false) h hs number caller (or_from _ _ parts.0 rest) rest

pub without_once : (handed : ℕ) (held : List Holding) (number caller : ℕ) → AreHandedOnce handed held → AreHandedOnce handed (without held number caller)
without_once handed [] number caller once = tt
without_once handed (h ∷ hs) number caller once =
    let rest = without_once handed hs number caller once.2 in
    without_has (AreHandedOnce handed) h hs number caller (not_held_without hs number caller h.number once.0, once.1, rest) rest

pub without_users : (callers : List (Option End)) (end : End) (held : List Holding) (number caller : ℕ) → AreUsers callers end held → AreUsers callers end (without held number caller)
without_users callers end [] number caller users = tt
without_users callers end (h ∷ hs) number caller users =
    let rest = without_users callers end hs number caller users.1 in
    without_has (AreUsers callers end) h hs number caller (users.0, rest) rest

not_true : (b : Bool) → not b ≡ false → b ≡ true
not_true true is = refl
not_true false is = absurd (false≢true (sym is))

or_map : (a x y : Bool) → (IsTrue x → IsTrue y) → IsTrue (a || x) → IsTrue (a || y)
or_map true x y from has = has
or_map false x y from has = from has

or_other : (a x : Bool) → (a ≡ true → ⊥) → IsTrue (a || x) → IsTrue x
or_other true x never has = absurd (never refl)
or_other false x never has = has

-- a buffer in the hands of another stays there
pub others_hold : (held : List Holding) (number caller theirs other : ℕ) → caller ≢ other → IsTrue (holds held theirs other) → IsTrue (holds (without held number caller) theirs other)
others_hold [] number caller theirs other differ has = absurd (false≢true has)
others_hold (h ∷ hs) number caller theirs other differ has =
    let rest : IsTrue (holds hs theirs other) → IsTrue (holds (without hs number caller) theirs other) = others_hold hs number caller theirs other differ in
    let here : Bool = eqb h.number theirs && eqb h.caller other in
    cond_both (not (eqb h.number number && eqb h.caller caller)) (h ∷ without hs number caller) (without hs number caller) (λ left. IsTrue (holds left theirs other))
    (λ _. or_map here (holds hs theirs other) (holds (without hs number caller) theirs other) rest has)
    (λ gone.
    let mine : h.caller ≡ caller = eqb-true _ _ (and_parts _ _ (not_true _ gone)).1 in
    rest (or_other here (holds hs theirs other) (λ is. differ (sym mine ∙ eqb-true _ _ (and_parts _ _ is).1)) has))

-- nothing is removed where the number is not held
length-without-none : (held : List Holding) (number caller : ℕ) → is_held held number ≡ false → length (without held number caller) ≡ length held
length-without-none [] number caller free = refl
length-without-none (h ∷ hs) number caller free =
    let parts = or_parts (eqb h.number number) (is_held hs number) free in
    rw parts.0 (ap suc (length-without-none hs number caller parts.1))

-- one is removed where it is held, since each number is held once
pub length-without-one : (handed : ℕ) (held : List Holding) (number caller : ℕ) → AreHandedOnce handed held → IsTrue (holds held number caller) → length (without held number caller) + 1 ≡ length held
length-without-one handed [] number caller once found = absurd (false≢true found)
length-without-one handed (h ∷ hs) number caller once found =
    removed (eqb h.number number) (eqb h.caller caller) refl found (length-without-one handed hs number caller once.2)
  where
    removed : (b c : Bool) → eqb h.number number ≡ b → IsTrue ((b && c) || holds hs number caller)
        → (IsTrue (holds hs number caller) → length (without hs number caller) + 1 ≡ length hs)
        → length (cond (not (b && c)) (h ∷ without hs number caller) (without hs number caller)) + 1 ≡ suc (length hs)
    removed true true is has one =
        let free : is_held hs number ≡ false = subst (λ n. is_held hs n ≡ false) (eqb-true _ _ is) once.0 in
        omega (arith, length-without-none hs number caller free)
    removed true false is has one = omega (arith, one has)
    removed false c is has one = omega (arith, one has)
