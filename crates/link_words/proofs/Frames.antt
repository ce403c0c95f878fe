-- What every step has in common.
use Rattle.link_words.specs.declared.codes.DeskTables.{DeskTables}
use Rattle.link_words.specs.PlacedDesks.{PlacedDesk}
use Rattle.lane_model.specs.Links.{end_of}
use Rattle.std.specs.Prelude.{None}
use Rattle.link_words.specs.Histories.{NoneOf, HasEnded}
use Rattle.std.proofs.Common.{◌≡◌, ◌≢◌, ◌⊎◌, ℕ, zero, suc, ◌+◌, ◌<◌, true, false, List, [], ◌∷◌, ◌++◌, length, get_or, set, refl, sym, ap, ◌∙◌, subst, ⊎_elim, inl, inr, arith}
use mathlib.Core.Option.{some-ne-none, Option, some}
use lib.ListN.{get_elem?}
use Rattle.rp_base.specs.declared.kinds.End.{End}
use Rattle.rp_base.specs.declared.kinds.End.TheVariants as side
use Rattle.lane_model.specs.declared.lane_links.LaneLink.{LaneLink}
use Rattle.ring_core.specs.declared.states.RingState.{RingState}
use Rattle.atomic_table.proofs.Lists.{at_set, at_longer}
use Rattle.link_words.specs.declared.rule.Slot.{Slot}
use Rattle.link_words.specs.declared.rule.Pass.{Pass}
use Rattle.link_words.specs.declared.rule.View.{View}
use base.Stored.{Coded}
use Rattle.std.specs.Prelude.{Some}
use Rattle.std.specs.Prelude.{Option as Option_std}
use Rattle.std.specs.Option.{unwrap_or}
use mathlib.Core.Path.{Path}
use Rattle.link_words.specs.Codes.{copied}
use Rattle.link_words.specs.declared.copies.LinkCopy.{LinkCopy}
use Rattle.link_words.specs.Passes.{PassAt, EachPass, HasNumber, Manages, Mover}
use Rattle.link_words.specs.Words.{other, lane_to, with_lane, era_word, LaneWords, lane_words, words_of, words_at, LaneHomes, homes_at, lane_homes, homes_of, Shelves, shelf_to, with_shelf, sender_word, sender_slot, buffer_slot, turn_word, receiver_word, forward_word, return_word}
use Rattle.link_words.specs.Parts.{has_for_manager, AreKeepersApart, AreNumbersApart, Knows, ManagerKnows}

-- one copy
pub some_copy : (a b : LinkCopy) → Path (Option_std LinkCopy) (Some a) (Some b) → a ≡ b
some_copy a b same = ap (λ o. unwrap_or o a) same

-- after the pass at the place k of the seat id is another, each pass is that one or stood where it stands
pub after_set : (views : List View) (id : ℕ) (v u : View) (k : ℕ) (w : Pass) → get_elem? views id ≡ some v → u.passes ≡ set v.passes k w → (j l : ℕ) (q : Pass) → PassAt (set views id u) j l q
    → ((j ≡ id) × (l ≡ k) × (w ≡ q)) ⊎ (PassAt views j l q × (j ≡ id → l ≡ k → ⊥))
after_set views id v u k w at is j l q (x, ex, eq) =
    ⊎_elim
    (λ (a : (j ≡ id) × (u ≡ x)). ⊎_elim
    (λ (b : (l ≡ k) × (w ≡ q)). inl (a.0, b.0, b.1))
    (λ (b : (l ≢ k) × (get_elem? v.passes l ≡ some q)). inr ((v, ap (get_elem? views) a.0 ∙ at, b.1), λ _ same. b.0 same))
    (at_set v.passes k l w q (ap (λ (ps : List Pass). get_elem? ps l) (sym is) ∙ subst (λ (y : View). get_elem? y.passes l ≡ some q) (sym a.1) eq)))
    (λ (a : (j ≢ id) × (get_elem? views j ≡ some x)). inr ((x, a.1, eq), λ same _. a.0 same))
    (at_set views id j u x ex)

module _ (views : List View) (id : ℕ) (v u : View) (o : Mover v) (w : Pass) (at : get_elem? views id ≡ some v) (is : u.passes ≡ set v.passes o.place w) where
  -- a fact about each pass holds after, where the mover's new pass has it and the others, which have other numbers, keep it
  pub each_set : (F G : Pass → Type 0) → AreNumbersApart views → EachPass F views → ((j l : ℕ) (q : Pass) → PassAt views j l q → o.pass.number ≢ q.number → F q → G q) → G w → EachPass G (set views id u)
  each_set F G numbers old others mine j l q there =
      ⊎_elim
      (λ (x : (j ≡ id) × (l ≡ o.place) × (w ≡ q)). subst G x.2 mine)
      (λ (x : PassAt views j l q × (j ≡ id → l ≡ o.place → ⊥)). others j l q x.0 (λ same. let n = numbers id o.place j l o.pass q (v, at, o.here) x.0 same in x.1 (sym n.0) (sym n.1)) (old j l q x.0))
      (after_set views id v u o.place w at is j l q there)

  -- each pass after stands where one stood
  pub before_set : (R : Pass → Pass → Type 0) → ((q : Pass) → R q q) → R o.pass w → (j l : ℕ) (q : Pass) → PassAt (set views id u) j l q → (p : Pass) × PassAt views j l p × R p q
  before_set R same mine j l q there =
      ⊎_elim
      (λ (x : (j ≡ id) × (l ≡ o.place) × (w ≡ q)). (o.pass, (v, ap (get_elem? views) x.0 ∙ at, ap (get_elem? v.passes) x.1 ∙ o.here), subst (R o.pass) x.2 mine))
      (λ (x : PassAt views j l q × (j ≡ id → l ≡ o.place → ⊥)). (q, x.0, same q))
      (after_set views id v u o.place w at is j l q there)

  pub numbers_set : w.number ≡ o.pass.number → AreNumbersApart views → AreNumbersApart (set views id u)
  numbers_set same old i k j l p q ep eq num =
      let a = before_set (λ x y. x.number ≡ y.number) (λ x. refl) (sym same) i k p ep in let b = before_set (λ x y. x.number ≡ y.number) (λ x. refl) (sym same) j l q eq in
      old i k j l a.0 b.0 a.1 b.1 (a.2 ∙ num ∙ sym b.2)

  pub keepers_set : w.number ≡ o.pass.number → ((e : End) → has_for_manager e w.call ≡ true → has_for_manager e o.pass.call ≡ true) → AreKeepersApart views → AreKeepersApart (set views id u)
  keepers_set same quiet old e i k j l p q ep eq kp kq =
      let R : Pass → Pass → Type 0 = λ x y. (x.number ≡ y.number) × ((e : End) → has_for_manager e y.call ≡ true → has_for_manager e x.call ≡ true) in
      let a = before_set R (λ x. (refl, λ e m. m)) (sym same, quiet) i k p ep in let b = before_set R (λ x. (refl, λ e m. m)) (sym same, quiet) j l q eq in
      sym a.2.0 ∙ old e i k j l a.0 b.0 a.1 b.1 (a.2.1 e kp) (b.2.1 e kq) ∙ b.2.0

  -- a call beside which the others that have a turn for the manager are of the same number
  pub keepers_more : ((e : End) → has_for_manager e w.call ≡ true → (j l : ℕ) (q : Pass) → PassAt views j l q → has_for_manager e q.call ≡ true → w.number ≡ q.number) → AreKeepersApart views → AreKeepersApart (set views id u)
  keepers_more same old e i k j l p q ep eq kp kq = go (after_set views id v u o.place w at is i k p ep) (after_set views id v u o.place w at is j l q eq)
    where
      go : ((i ≡ id) × (k ≡ o.place) × (w ≡ p)) ⊎ (PassAt views i k p × (i ≡ id → k ≡ o.place → ⊥)) → ((j ≡ id) × (l ≡ o.place) × (w ≡ q)) ⊎ (PassAt views j l q × (j ≡ id → l ≡ o.place → ⊥)) → p.number ≡ q.number
      go a b = ⊎_elim
          (λ (x : (i ≡ id) × (k ≡ o.place) × (w ≡ p)). ⊎_elim
          (λ (y : (j ≡ id) × (l ≡ o.place) × (w ≡ q)). ap (λ (z : Pass). z.number) (sym x.2 ∙ y.2))
          (λ (y : PassAt views j l q × (j ≡ id → l ≡ o.place → ⊥)). ap (λ (z : Pass). z.number) (sym x.2) ∙ same e (ap (λ (z : Pass). has_for_manager e z.call) x.2 ∙ kp) j l q y.0 kq) b)
          (λ (x : PassAt views i k p × (i ≡ id → k ≡ o.place → ⊥)). ⊎_elim
          (λ (y : (j ≡ id) × (l ≡ o.place) × (w ≡ q)). sym (same e (ap (λ (z : Pass). has_for_manager e z.call) y.2 ∙ kq) i k p x.0 kp) ∙ ap (λ (z : Pass). z.number) y.2)
          (λ (y : PassAt views j l q × (j ≡ id → l ≡ o.place → ⊥)). old e i k j l p q x.0 y.0 kp kq) b)
          a

  -- a call that nobody else's stands beside
  pub keepers_new : ((e : End) → has_for_manager e w.call ≡ true → (j l : ℕ) (q : Pass) → PassAt views j l q → has_for_manager e q.call ≡ true → ⊥) → AreKeepersApart views → AreKeepersApart (set views id u)
  keepers_new never = keepers_more (λ e mine j l q there theirs. absurd (never e mine j l q there theirs))

  manages_set : w.number ≡ o.pass.number → Manages u → Manages v
  manages_set same (k, b, eb, is_64) =
      ⊎_elim
      (λ (x : (k ≡ o.place) × (w ≡ b)). (o.place, o.pass, o.here, sym same ∙ ap (λ (z : Pass). z.number) x.1 ∙ is_64))
      (λ (x : (k ≢ o.place) × (get_elem? v.passes k ≡ some b)). (k, b, x.1, is_64))
      (at_set v.passes o.place k w b (ap (λ (ps : List Pass). get_elem? ps k) (sym is) ∙ eb))

  -- what the manager knows of the callers and of who is out stands
  pub manager_set : {B : Type 0} {kc : Coded B} {kz : DeskTables} (cd : Coded (PlacedDesk kc kz)) (m m' : LaneLink (RingState (PlacedDesk kc kz))) → w.number ≡ o.pass.number → m'.callers ≡ m.callers → u.users ≡ v.users → u.out ≡ v.out → (v.inc ≡ m.era.inc → u.inc ≡ m'.era.inc) → ((i : ℕ) (y : View) → i ≢ id → get_elem? views i ≡ some y → Manages y → m'.era.inc ≡ m.era.inc)
      → ((n : ℕ) → end_of m.callers n ≡ None → ((HasNumber v.reclaims n → ⊥) → NoneOf m n) → (HasNumber u.reclaims n → ⊥) → NoneOf m' n) → ((n : ℕ) → end_of m.callers n ≡ None → ((Q : Type 0) → (Q → NoneOf m n) → Q → NoneOf m' n))
      → ((v.is_closed ≡ true → m.era.is_live ≡ false) → u.is_closed ≡ true → m'.era.is_live ≡ false) → ((i : ℕ) (y : View) → i ≢ id → get_elem? views i ≡ some y → Manages y → m.era.is_live ≡ false → m'.era.is_live ≡ false) → ((k : LinkCopy) → u.copy ≡ Some k → u.out ≡ [] → k ≡ copied cd m')
      → (((k : ℕ) (p : Pass) → get_elem? v.ended_passes k ≡ some p → HasEnded m p) → (k : ℕ) (p : Pass) → get_elem? u.ended_passes k ≡ some p → HasEnded m' p) → ((i : ℕ) (y : View) → i ≢ id → get_elem? views i ≡ some y → Manages y → (p : Pass) → HasEnded m p → HasEnded m' p)
      → ManagerKnows cd m views → ManagerKnows cd m' (set views id u)
  manager_set cd m m' same callers users out inc others_inc fresh others_fresh shut others copies ends others_end old i y ey manages =
      ⊎_elim
      (λ (x : (i ≡ id) × (u ≡ y)).
      let k = old id v at (manages_set same (subst Manages (sym x.1) manages)) in
      subst (λ (z : View). Knows cd m' (set views id u) i z) x.1 (record {
        users = users ∙ (k.users ∙ sym callers);
        inc = inc k.inc;
        unused = λ n none not. fresh n (ap (λ cs. end_of cs n) (sym callers) ∙ none) (k.unused n (ap (λ cs. end_of cs n) (sym callers) ∙ none)) not;
        ended = ends k.ended;
        closed = shut k.closed;
        out = λ j l q there apart. let b = before_set (λ a c. a.number ≡ c.number) (λ a. refl) (sym same) j l q there in
            subst (λ (z : List ℕ × ℕ). HasNumber z.0 z.1) (λ t. (sym out t, b.2 t)) (k.out j l b.0 b.1 (λ here. apart (here ∙ sym x.0)));
        copy = copies;
      }))
      (λ (x : (i ≢ id) × (get_elem? views i ≡ some y)).
      let k = old i y x.1 manages in
      record {
        users = k.users ∙ sym callers;
        inc = k.inc ∙ sym (others_inc i y x.0 x.1 manages);
        unused = λ n none not. let before = ap (λ cs. end_of cs n) (sym callers) ∙ none in others_fresh n before (HasNumber y.reclaims n → ⊥) (k.unused n before) not;
        ended = λ j p at. others_end i y x.0 x.1 manages p (k.ended j p at);
        closed = λ s. others i y x.0 x.1 manages (k.closed s);
        out = λ j l q there apart. let b = before_set (λ a c. a.number ≡ c.number) (λ a. refl) (sym same) j l q there in subst (HasNumber y.out) b.2 (k.out j l b.0 b.1 apart);
        copy = λ c same none_out. let stands = k.out id o.place o.pass (v, at, o.here) (λ here. x.0 (sym here)) in absurd (some-ne-none o.pass.number (sym (ap (λ (l : List ℕ). get_elem? l stands.0) (sym none_out) ∙ stands.1)));
      })
      (at_set views id i u y ey)

  -- the same, where the view changes in a pass alone
  pub manager_stays : {B : Type 0} {kc : Coded B} {kz : DeskTables} (cd : Coded (PlacedDesk kc kz)) (m : LaneLink (RingState (PlacedDesk kc kz))) → w.number ≡ o.pass.number → u.users ≡ v.users → u.out ≡ v.out → u.inc ≡ v.inc → u.reclaims ≡ v.reclaims → u.is_closed ≡ v.is_closed → u.copy ≡ v.copy → u.ended_passes ≡ v.ended_passes
      → ManagerKnows cd m views → ManagerKnows cd m (set views id u)
  manager_stays cd m same users out inc reclaims closed copy ended old i y ey manages =
      ⊎_elim
      (λ (x : (i ≡ id) × (u ≡ y)).
      let k = old id v at (manages_set same (subst Manages (sym x.1) manages)) in
      subst (λ (z : View). Knows cd m (set views id u) i z) x.1 (record {
        users = users ∙ k.users;
        inc = inc ∙ k.inc;
        unused = λ n none not. k.unused n none (λ has. not (subst (λ (l : List ℕ). HasNumber l n) (sym reclaims) has));
        ended = λ j p at. k.ended j p (ap (λ (l : List Pass). get_elem? l j) (sym ended) ∙ at);
        closed = λ shut. k.closed (sym closed ∙ shut);
        out = λ j l q there apart. let b = before_set (λ a c. a.number ≡ c.number) (λ a. refl) (sym same) j l q there in
            subst (λ (z : List ℕ × ℕ). HasNumber z.0 z.1) (λ t. (sym out t, b.2 t)) (k.out j l b.0 b.1 (λ here. apart (here ∙ sym x.0)));
        copy = λ c is none_out. k.copy c (sym copy ∙ is) (sym out ∙ none_out);
      }))
      (λ (x : (i ≢ id) × (get_elem? views i ≡ some y)).
      let k = old i y x.1 manages in
      record {
        users = k.users;
        inc = k.inc;
        unused = k.unused;
        ended = k.ended;
        closed = k.closed;
        out = λ j l q there apart. let b = before_set (λ a c. a.number ≡ c.number) (λ a. refl) (sym same) j l q there in subst (HasNumber y.out) b.2 (k.out j l b.0 b.1 apart);
        copy = k.copy;
      })
      (at_set views id i u y ey)

-- a fact of each lane with its buffers, where one lane changes
pub each_lane : {B : Type 0} {kc : Coded B} {kz : DeskTables} (F : End → RingState (PlacedDesk kc kz) → List (Option Slot) → Type 0) (m : LaneLink (RingState (PlacedDesk kc kz))) (sh : Shelves) (e : End) (s : RingState (PlacedDesk kc kz)) (l : List (Option Slot))
    → F e s l → F (other e) (lane_to m (other e)) (shelf_to sh (other e)) → (i : End) → F i (lane_to (with_lane m e s) i) (shelf_to (with_shelf sh e l) i)
each_lane F m sh side.Host s l here there side.Host = here
each_lane F m sh side.Host s l here there side.Remote = there
each_lane F m sh side.Remote s l here there side.Host = there
each_lane F m sh side.Remote s l here there side.Remote = here

-- a link seen from a lane
pub words_seen : {B : Type 0} {kc : Coded B} {kz : DeskTables} (fresh : List ℕ) (m : LaneLink (RingState (PlacedDesk kc kz))) (e : End) (s : RingState (PlacedDesk kc kz))
    → words_of 0 fresh (with_lane m e s) ≡ words_at e (era_word m.era) (lane_words s) (lane_words (lane_to m (other e)))
words_seen fresh m side.Host s = refl
words_seen fresh m side.Remote s = refl

pub homes_seen : {B : Type 0} {kc : Coded B} {kz : DeskTables} (m : LaneLink (RingState (PlacedDesk kc kz))) (sh : Shelves) (e : End) (s : RingState (PlacedDesk kc kz)) (l : List (Option Slot))
    → homes_of (with_lane m e s) (with_shelf sh e l) ≡ homes_at e (lane_homes s l) (lane_homes (lane_to m (other e)) (shelf_to sh (other e)))
homes_seen m sh side.Host s l = refl
homes_seen m sh side.Remote s l = refl

pub same_lane : {B : Type 0} {kc : Coded B} {kz : DeskTables} (m : LaneLink (RingState (PlacedDesk kc kz))) (e : End) → with_lane m e (lane_to m e) ≡ m
same_lane m side.Host = refl
same_lane m side.Remote = refl

pub same_shelf : (sh : Shelves) (e : End) → with_shelf sh e (shelf_to sh e) ≡ sh
same_shelf sh side.Host = refl
same_shelf sh side.Remote = refl

-- the sender's turn in the words
pub turn_found : (e : End) (era : ℕ) (a b : LaneWords) → get_or (words_at e era a b) (sender_word e) 0 ≡ a.sender
turn_found side.Host era a b = refl
turn_found side.Remote era a b = refl

pub turn_set : (e : End) (era n : ℕ) (a b : LaneWords) → set (words_at e era a b) (sender_word e) n ≡ words_at e era (record a { sender = n }) b
turn_set side.Host era n a b = refl
turn_set side.Remote era n a b = refl

pub era_found : (e : End) (era : ℕ) (a b : LaneWords) → get_or (words_at e era a b) 1 0 ≡ era
era_found side.Host era a b = refl
era_found side.Remote era a b = refl

-- the slots of a lane
pub side_found : (e : End) (a b : LaneHomes) → get_elem? (homes_at e a b) (sender_slot e) ≡ some a.sender
side_found side.Host a b = refl
side_found side.Remote a b = refl

pub side_set : (e : End) (x : Option Slot) (a b : LaneHomes) → set (homes_at e a b) (sender_slot e) x ≡ homes_at e (record a { sender = x }) b
side_set side.Host x a b = refl
side_set side.Remote x a b = refl

pub at_add : {A : Type 0} (xs ys : List A) (i : ℕ) → get_elem? (xs ++ ys) (length xs + i) ≡ get_elem? ys i
at_add [] ys i = ap (get_elem? ys) (let e : 0 + i ≡ i = omega arith in e)
at_add (x ∷ xs) ys i = ap (get_elem? (x ∷ (xs ++ ys))) (let e : suc (length xs) + i ≡ suc (length xs + i) = omega arith in e) ∙ at_add xs ys i

set_add : {A : Type 0} (xs ys : List A) (i : ℕ) (a : A) → set (xs ++ ys) (length xs + i) a ≡ xs ++ set ys i a
set_add [] ys i a = ap (λ (k : ℕ). set ys k a) (let e : 0 + i ≡ i = omega arith in e)
set_add {A = A} (x ∷ xs) ys i a = ap (λ (k : ℕ). set (x ∷ (xs ++ ys)) k a) (let e : suc (length xs) + i ≡ suc (length xs + i) = omega arith in e) ∙ ap (λ (l : List A). x ∷ l) (set_add xs ys i a)

set_left : {A : Type 0} (xs ys : List A) (i : ℕ) (a : A) → i < length xs → set (xs ++ ys) i a ≡ set xs i a ++ ys
set_left [] ys i a h = absurd (omega arith)
set_left (x ∷ xs) ys zero a h = refl
set_left {A = A} (x ∷ xs) ys (suc i) a h = ap (λ (l : List A). x ∷ l) (set_left xs ys i a (omega arith))

pub buffer_found : (e : End) (first id : ℕ) (a b : LaneHomes) (y : Option Slot) → get_elem? a.shelf id ≡ some y → (e ≡ side.Remote → first ≡ length b.shelf)
    → get_elem? (homes_at e a b) (buffer_slot first e id) ≡ some y
buffer_found side.Host first id a b y at long = at_longer a.shelf b.shelf id y at
buffer_found side.Remote first id a b y at long = ap (λ (k : ℕ). get_elem? (b.shelf ++ a.shelf) (k + id)) (long refl) ∙ (at_add b.shelf a.shelf id ∙ at)

pub buffer_set : (e : End) (first id : ℕ) (x : Option Slot) (a b : LaneHomes) → id < length a.shelf → (e ≡ side.Remote → first ≡ length b.shelf)
    → set (homes_at e a b) (buffer_slot first e id) x ≡ homes_at e (record a { shelf = set a.shelf id x }) b
buffer_set side.Host first id x a b near long = ap (λ (l : List (Option Slot)). a.sender ∷ a.receiver ∷ b.sender ∷ b.receiver ∷ l) (set_left a.shelf b.shelf id x near)
buffer_set side.Remote first id x a b near long = ap (λ (l : List (Option Slot)). b.sender ∷ b.receiver ∷ a.sender ∷ a.receiver ∷ l)
    (ap (λ (k : ℕ). set (b.shelf ++ a.shelf) (k + id) x) (long refl) ∙ set_add b.shelf a.shelf id x)

-- a word of a lane, in the link
pub sender_in : {B : Type 0} {kc : Coded B} {kz : DeskTables} (m : LaneLink (RingState (PlacedDesk kc kz))) (e : End) (s : RingState (PlacedDesk kc kz)) → turn_word s.lane.sender ≡ get_or (words_of 0 [] (with_lane m e s)) (sender_word e) 0
sender_in m side.Host s = refl
sender_in m side.Remote s = refl

pub receiver_in : {B : Type 0} {kc : Coded B} {kz : DeskTables} (m : LaneLink (RingState (PlacedDesk kc kz))) (e : End) (s : RingState (PlacedDesk kc kz)) → turn_word s.lane.receiver ≡ get_or (words_of 0 [] (with_lane m e s)) (receiver_word e) 0
receiver_in m side.Host s = refl
receiver_in m side.Remote s = refl

pub forward_in : {B : Type 0} {kc : Coded B} {kz : DeskTables} (m : LaneLink (RingState (PlacedDesk kc kz))) (e : End) (s : RingState (PlacedDesk kc kz)) → s.rings.forward_index ≡ get_or (words_of 0 [] (with_lane m e s)) (forward_word e) 0
forward_in m side.Host s = refl
forward_in m side.Remote s = refl

pub return_in : {B : Type 0} {kc : Coded B} {kz : DeskTables} (m : LaneLink (RingState (PlacedDesk kc kz))) (e : End) (s : RingState (PlacedDesk kc kz)) → s.rings.return_index ≡ get_or (words_of 0 [] (with_lane m e s)) (return_word e) 0
return_in m side.Host s = refl
return_in m side.Remote s = refl
