-- Passes that go from one place to another: what holds of each before holds after.
use Rattle.std.proofs.Common.{◌≡◌, ◌≢◌, ◌⊎◌, ℕ, zero, suc, ◌+◌, ◌-◌, ◌<◌, List, [], ◌∷◌, ◌++◌, length, set, refl, sym, ap, ◌∙◌, subst, ⊎_elim, arith, inl, inr}
use mathlib.Core.Option.{some, some-injective, some-ne-none}
use mathlib.Core.Path.{Path}
use native.Mathlib.Decide.{ℕ_discrete}
use lib.ListN.{get_elem?}
use Rattle.atomic_table.proofs.Lists.{at_set, at_longer}
use Rattle.link_words.specs.declared.rule.Pass.{Pass}
use Rattle.link_words.specs.declared.rule.View.{View}
use Rattle.link_words.specs.Passes.{PassAt, EachPass, HasNumber, Manages, all_but_last, last_pass_only, numbers_of, without_last, only_last, with_passes_from, spent_view}
use Rattle.link_words.specs.Parts.{AreKeepersApart, AreNumbersApart}

abbrev pub Spot : Type 0
Spot = ℕ × ℕ

-- each pass of the new views stood in the old ones, at a place that went to its new one
abbrev pub From : List View → List View → (Spot → Spot) → Type 0
From views views' went = (j l : ℕ) (p : Pass) → PassAt views' j l p → (o : Spot) × PassAt views o.0 o.1 p × Path Spot (went o) (j, l)

module _ (views views' : List View) (went : Spot → Spot) (from : From views views' went) where
  pub each_from : (F G : Pass → Type 0) → EachPass F views → ((j l : ℕ) (p : Pass) → PassAt views' j l p → F p → G p) → EachPass G views'
  each_from F G old keeps j l p at = let o = from j l p at in keeps j l p at (old o.0.0 o.0.1 p o.1)

  pub numbers_from : AreNumbersApart views → AreNumbersApart views'
  numbers_from old i k j l p q ep eq same =
      let a = from i k p ep in let b = from j l q eq in let n = old a.0.0 a.0.1 b.0.0 b.0.1 p q a.1 b.1 same in
      let e : Path Spot (i, k) (j, l) = sym a.2 ∙ ((λ t. went (n.0 t, n.1 t)) ∙ b.2) in (ap (λ (s : Spot). s.0) e, ap (λ (s : Spot). s.1) e)

  pub keepers_from : AreKeepersApart views → AreKeepersApart views'
  keepers_from old e i k j l p q ep eq kp kq = let a = from i k p ep in let b = from j l q eq in old e a.0.0 a.0.1 b.0.0 b.0.1 p q a.1 b.1 kp kq

-- two views with the manager's pass are one
pub one_manager : (views : List View) → AreNumbersApart views → (i j : ℕ) (v w : View) → get_elem? views i ≡ some v → Manages v → get_elem? views j ≡ some w → Manages w → i ≡ j
one_manager views numbers i j v w ev mv ew mw = (numbers i mv.0 j mw.0 mv.1 mw.1 (v, ev, mv.2) (w, ew, mw.2) (mv.3 ∙ sym mw.3)).0

-- a place goes to another, and each other stays
abbrev pick : {A B : Type 0} → Dec A → Dec B → Spot → Spot → Spot
pick (yes _) (yes _) a b = a
pick (yes _) (no _) a b = b
pick (no _) d a b = b

abbrev pub one_goes : Spot → Spot → Spot → Spot
one_goes from to o = pick (ℕ_discrete o.0 from.0) (ℕ_discrete o.1 from.1) to o

goes : (from to : Spot) → Path Spot (one_goes from to from) to
unfolding one_goes
goes from to = here (ℕ_discrete from.0 from.0) (ℕ_discrete from.1 from.1)
  where
    here : (d : Dec (from.0 ≡ from.0)) (e : Dec (from.1 ≡ from.1)) → Path Spot (pick d e to from) to
    here (yes _) (yes _) = refl
    here (yes _) (no n) = absurd (n refl)
    here (no n) e = absurd (n refl)

keeps_place : (from to o : Spot) → (o.0 ≡ from.0 → o.1 ≢ from.1) → Path Spot (one_goes from to o) o
unfolding one_goes
keeps_place from to o ne = here (ℕ_discrete o.0 from.0) (ℕ_discrete o.1 from.1)
  where
    here : (d : Dec (o.0 ≡ from.0)) (e : Dec (o.1 ≡ from.1)) → Path Spot (pick d e to o) o
    here (yes a) (yes b) = absurd (ne a b)
    here (yes _) (no n) = refl
    here (no n) e = refl

-- a pass of the all_but_last stood in the list
front_at : (l : List Pass) (k : ℕ) (p : Pass) → get_elem? (all_but_last l) k ≡ some p → get_elem? l k ≡ some p
front_at [] k p e = absurd (some-ne-none p (sym e))
front_at (x ∷ []) k p e = absurd (some-ne-none p (sym e))
front_at (x ∷ y ∷ ys) zero p e = e
front_at (x ∷ y ∷ ys) (suc k) p e = front_at (y ∷ ys) k p e

front_near : (l : List Pass) (k : ℕ) (p : Pass) → get_elem? (all_but_last l) k ≡ some p → k < length l - 1
front_near [] k p e = absurd (some-ne-none p (sym e))
front_near (x ∷ []) k p e = absurd (some-ne-none p (sym e))
front_near (x ∷ y ∷ ys) zero p e = omega arith
front_near (x ∷ y ∷ ys) (suc k) p e = let h = front_near (y ∷ ys) k p e in omega arith

pub last_at : (l : List Pass) (k : ℕ) (p : Pass) → get_elem? (last_pass_only l) k ≡ some p → (k ≡ 0) × (get_elem? l (length l - 1) ≡ some p)
last_at [] k p e = absurd (some-ne-none p (sym e))
last_at (x ∷ []) zero p e = (refl, e)
last_at (x ∷ []) (suc k) p e = absurd (some-ne-none p (sym e))
last_at (x ∷ y ∷ ys) k p e = let r = last_at (y ∷ ys) k p e in (r.0, subst (λ (i : ℕ). get_elem? (x ∷ y ∷ ys) i ≡ some p) (let i : suc (length (y ∷ ys) - 1) ≡ length (x ∷ y ∷ ys) - 1 = omega arith in i) r.1)

pub at_new : {A : Type 0} (l : List A) (a b : A) (j : ℕ) → get_elem? (l ++ a ∷ []) j ≡ some b → (get_elem? l j ≡ some b) ⊎ ((j ≡ length l) × (a ≡ b))
at_new [] a b zero e = inr (refl, some-injective a b e)
at_new [] a b (suc j) e = absurd (some-ne-none b (sym e))
at_new (x ∷ xs) a b zero e = inl e
at_new (x ∷ xs) a b (suc j) e = ⊎_elim (λ h. inl h) (λ h. inr (ap suc h.0, h.1)) (at_new xs a b j e)

-- a split moves the last pass of the seat id to the new seat, and no other
pub split_from : (views : List View) (id : ℕ) (v : View) → get_elem? views id ≡ some v
    → From views (set views id (without_last v) ++ only_last v ∷ []) (one_goes (id, length v.passes - 1) (length (set views id (without_last v)), 0))
split_from views id v at j l p (u, eu, el) = let left = set views id (without_last v) in let from : Spot = (id, length v.passes - 1) in let to : Spot = (length left, 0) in ⊎_elim
    (λ (was : get_elem? left j ≡ some u). ⊎_elim
    (λ (x : (j ≡ id) × (without_last v ≡ u)). let mine = subst (λ (z : View). get_elem? z.passes l ≡ some p) (sym x.1) el in let near = front_near v.passes l p mine in
    ((id, l), (v, at, front_at v.passes l p mine), keeps_place from to (id, l) (λ _ same. let s : l ≡ length v.passes - 1 = same in omega (arith, near)) ∙ (λ i. (sym x.0 i, l))))
    (λ (x : (j ≢ id) × (get_elem? views j ≡ some u)). ((j, l), (u, x.1, el), keeps_place from to (j, l) (λ same. absurd (x.0 same))))
    (at_set views id j (without_last v) u was))
    (λ (new : (j ≡ length left) × (only_last v ≡ u)). let r = last_at v.passes l p (subst (λ (z : View). get_elem? z.passes l ≡ some p) (sym new.1) el) in
    (from, (v, at, r.1), goes from to ∙ (λ i. (sym new.0 i, sym r.0 i))))
    (at_new left (only_last v) u j eu)

at_parts : {A : Type 0} (xs ys : List A) (i : ℕ) (a : A) → get_elem? (xs ++ ys) i ≡ some a → (get_elem? xs i ≡ some a) ⊎ ((k : ℕ) × (i ≡ length xs + k) × (get_elem? ys k ≡ some a))
at_parts [] ys i a e = inr (i, omega arith, e)
at_parts (x ∷ xs) ys zero a e = inl e
at_parts (x ∷ xs) ys (suc i) a e = ⊎_elim (λ h. inl h) (λ h. let same = h.1 in inr (h.0, omega (arith, same), h.2)) (at_parts xs ys i a e)

abbrev pub come : {A : Type 0} → Dec A → Spot → Spot → Spot
come (yes _) a b = a
come (no _) a b = b

-- a join moves each pass of the seat other behind those of the seat id
abbrev pub joined : ℕ → ℕ → ℕ → Spot → Spot
joined id many other o = come (ℕ_discrete o.0 other) (id, many + o.1) o

comes : (id many other l : ℕ) → Path Spot (joined id many other (other, l)) (id, many + l)
unfolding joined
comes id many other l = here (ℕ_discrete other other)
  where
    here : (d : Dec (other ≡ other)) → Path Spot (come d (id, many + l) (other, l)) (id, many + l)
    here (yes _) = refl
    here (no n) = absurd (n refl)

comes_not : (id many other j l : ℕ) → j ≢ other → Path Spot (joined id many other (j, l)) (j, l)
unfolding joined
comes_not id many other j l ne = here (ℕ_discrete j other)
  where
    here : (d : Dec (j ≡ other)) → Path Spot (come d (id, many + l) (j, l)) (j, l)
    here (yes e) = absurd (ne e)
    here (no _) = refl

pub join_from : (views : List View) (id other : ℕ) (v w : View) → get_elem? views id ≡ some v → other ≢ id → get_elem? views other ≡ some w
    → From views (set (set views id (with_passes_from v w)) other spent_view) (joined id (length v.passes) other)
join_from views id other v w at apart there j l p (u, eu, el) = ⊎_elim
    (λ (x : (j ≡ other) × (spent_view ≡ u)). absurd (some-ne-none p (sym (subst (λ (z : View). get_elem? z.passes l ≡ some p) (sym x.1) el))))
    (λ (x : (j ≢ other) × (get_elem? (set views id (with_passes_from v w)) j ≡ some u)). ⊎_elim
    (λ (y : (j ≡ id) × (with_passes_from v w ≡ u)). ⊎_elim
    (λ (mine : get_elem? v.passes l ≡ some p). ((id, l), (v, at, mine), comes_not id (length v.passes) other id l (λ same. apart (sym same)) ∙ (λ i. (sym y.0 i, l))))
    (λ (theirs : (k : ℕ) × (l ≡ length v.passes + k) × (get_elem? w.passes k ≡ some p)). ((other, theirs.0), (w, there, theirs.2), comes id (length v.passes) other theirs.0 ∙ (λ i. (sym y.0 i, sym theirs.1 i))))
    (at_parts v.passes w.passes l p (subst (λ (z : View). get_elem? z.passes l ≡ some p) (sym y.1) el)))
    (λ (y : (j ≢ id) × (get_elem? views j ≡ some u)). ((j, l), (u, y.1, el), comes_not id (length v.passes) other j l x.0))
    (at_set views id j (with_passes_from v w) u x.1))
    (at_set (set views id (with_passes_from v w)) other j spent_view u eu)

pub stands_right : (l m : List ℕ) (n : ℕ) → HasNumber m n → HasNumber (l ++ m) n
stands_right [] m n h = h
stands_right (x ∷ xs) m n h = let r = stands_right xs m n h in (suc r.0, r.1)

pub stands_left : (l m : List ℕ) (n : ℕ) → HasNumber l n → HasNumber (l ++ m) n
stands_left l m n h = (h.0, at_longer l m h.0 n h.1)

pub numbers_at : (l : List Pass) (k : ℕ) (p : Pass) → get_elem? l k ≡ some p → HasNumber (numbers_of l) p.number
numbers_at [] k p e = absurd (some-ne-none p (sym e))
numbers_at (x ∷ xs) zero p e = (0, ap (λ (q : Pass). some q.number) (some-injective x p e))
numbers_at (x ∷ xs) (suc k) p e = let r = numbers_at xs k p e in (suc r.0, r.1)
