-- A step is noted in the own list of the pass that made it: the rule says nothing of such a note.
use Rattle.link_words.specs.declared.codes.DeskTables.{DeskTables}
use Rattle.link_words.specs.PlacedDesks.{PlacedDesk}
use Rattle.std.proofs.Common.{◌≡◌, ◌⊎◌, ℕ, ◌<◌, zero, suc, List, [], ◌∷◌, length, set, refl, sym, ap, ◌∙◌, subst, inl, inr, ⊎_elim, arith, get_or}
use mathlib.Core.Option.{some, some-ne-none}
use lib.ListN.{get_elem?}
use base.Stored.{Coded}
use Rattle.atomic_table.specs.Table.{State, Allows, stepped}
use Rattle.atomic_table.proofs.Lists.{set_here, set_again}
use Rattle.lane_model.specs.declared.lane_links.LaneLink.{LaneLink}
use Rattle.lane_model.specs.Desks.{DeskMeaning}
use Rattle.ring_core.specs.declared.states.RingState.{RingState}
use Rattle.link_words.specs.declared.rule.LinkSizes.{LinkSizes}
use Rattle.link_words.specs.declared.rule.Made.{Made}
use Rattle.link_words.specs.declared.rule.Pass.{Pass}
use Rattle.link_words.specs.declared.rule.Call.{Call}
use Rattle.link_words.specs.declared.rule.Slot.{Slot}
use Rattle.link_words.specs.declared.rule.View.{View}
use Rattle.link_words.specs.Calls.{SeatState, Becomes, Notes, with_pass_at, call_at, noted}
use Rattle.link_words.specs.Deeds.{Deed, after_deed}
use Rattle.link_words.specs.Passes.{Mover, with_pass}
use Rattle.link_words.specs.Rule.{HasCall, HistoryOf, HandsOf, LatestOf, WordsRule, IsCallOf}
use Rattle.link_words.specs.Steps.{IsStepOf, IsCloseOf}
use Rattle.link_words.proofs.Frames.{each_set, keepers_set, numbers_set, manager_stays}
use Rattle.link_words.proofs.Parts.{state_in, told_in, buffers_in, put_together}
use Rattle.link_words.proofs.Keepers.{keepers_same, no_turns}
use Rattle.link_words.specs.Turns.{turns_in}

-- the view after the note
abbrev pub noted_view : Made → ℕ → View → View
noted_view made k v = record v { passes = with_pass_at (noted made) k v.passes }

abbrev pub noted_seat : Made → ℕ → SeatState → SeatState
noted_seat made k me = (noted_view made k me.0, me.1)

call_noted : (made : Made) (k : ℕ) (ps : List Pass) → call_at k (with_pass_at (noted made) k ps) ≡ call_at k ps
call_noted made k [] = refl
call_noted made zero (p ∷ ps) = refl
call_noted made (suc k) (p ∷ ps) = call_noted made k ps

passes_noted : (made : Made) (f : Pass → Pass) (k : ℕ) (ps : List Pass) → with_pass_at (noted made) k (with_pass_at f k ps) ≡ with_pass_at (λ p. noted made (f p)) k ps
passes_noted made f k [] = refl
passes_noted made f zero (p ∷ ps) = refl
passes_noted made f (suc k) (p ∷ ps) = ap (λ (l : List Pass). p ∷ l) (passes_noted made f k ps)

passes_same : (k : ℕ) (ps : List Pass) → with_pass_at (λ p. p) k ps ≡ ps
passes_same k [] = refl
passes_same zero (p ∷ ps) = refl
passes_same (suc k) (p ∷ ps) = ap (λ (l : List Pass). p ∷ l) (passes_same k ps)

-- what a view becomes, with the step noted
pub becomes_noted : (made : Made) (f : Pass → Pass) (k : ℕ) (slots : List (ℕ × Slot)) (me me' : SeatState) → Becomes f k slots me me' → Notes made f k slots me (noted_seat made k me')
becomes_noted made f k slots me me' told = ap (noted_seat made k) told ∙ λ i. (record me.0 { copy = me'.0.copy; passes = passes_noted made f k me.0.passes i }, slots)

-- a view that stays becomes itself
pub becomes_same : (k : ℕ) (me me' : SeatState) → me' ≡ me → Becomes (λ p. p) k me.1 me me'
becomes_same k me me' same = subst (λ (u : SeatState). Becomes (λ p. p) k me.1 me u) (sym same) (λ i. (record me.0 { passes = sym (passes_same k me.0.passes) i }, me.1))

-- a view of which the copy alone changes
pub becomes_copied : (k : ℕ) (me me' : SeatState) → me' ≡ (record me.0 { copy = me'.0.copy }, me.1) → Becomes (λ p. p) k me.1 me me'
becomes_copied k me me' told = told ∙ λ i. (record me.0 { copy = me'.0.copy; passes = sym (passes_same k me.0.passes) i }, me.1)

-- a pass stands at this place, or the note changes nothing
there_or_none : (made : Made) (k : ℕ) (ps : List Pass) → ((p : Pass) × (get_elem? ps k ≡ some p) × (with_pass_at (noted made) k ps ≡ set ps k (noted made p))) ⊎ (with_pass_at (noted made) k ps ≡ ps)
there_or_none made k [] = inr refl
there_or_none made zero (p ∷ ps) = inl (p, refl, refl)
there_or_none made (suc k) (p ∷ ps) = ⊎_elim
    (λ (t : (q : Pass) × (get_elem? ps k ≡ some q) × (with_pass_at (noted made) k ps ≡ set ps k (noted made q))). inl (t.0, t.1, ap (λ (l : List Pass). p ∷ l) t.2))
    (λ (none : with_pass_at (noted made) k ps ≡ ps). inr (ap (λ (l : List Pass). p ∷ l) none))
    (there_or_none made k ps)

-- a history with the note says the same
history_noted : {D : Type 0} (m : LaneLink (RingState D)) (made : Made) (q : Pass) → HistoryOf m q → HistoryOf m (noted made q)
history_noted m made q has = record { sent = has.sent; taken = has.taken; read = has.read; none_later = has.none_later; counts = has.counts }

set_twice : {A : Type 0} (l : List A) (i : ℕ) (a b : A) → set (set l i a) i b ≡ set l i b
set_twice [] i a b = refl
set_twice (x ∷ xs) zero a b = refl
set_twice {A = A} (x ∷ xs) (suc i) a b = ap (λ (l : List A). x ∷ l) (set_twice xs i a b)

near : {A : Type 0} (l : List A) (i : ℕ) (a : A) → get_elem? l i ≡ some a → i < length l
near [] i a at = absurd (some-ne-none a (sym at))
near (x ∷ xs) zero a at = omega arith
near (x ∷ xs) (suc i) a at = let rec = near xs i a at in omega (arith, rec)

module _ {B : Type 0} {kc : Coded B} {kz : DeskTables} (cd : Coded (PlacedDesk kc kz)) (desk : DeskMeaning (PlacedDesk kc kz)) (z : LinkSizes) where
  -- the rule stands where a pass notes a step
  rule_noted_in : (st : State Slot View) (id : ℕ) (v : View) (o : Mover v) (made : Made) → get_elem? st.views id ≡ some v → WordsRule cd desk z st → WordsRule cd desk z (record st { views = set st.views id (with_pass v o (noted made o.pass) v.copy) })
  rule_noted_in st id v o made at (m, p, r) =
      let w = noted made o.pass in let u = with_pass v o w v.copy in let each = each_set st.views id v u o w at refl in (
        m,
        p,
        put_together r.words_are r.shelves r.homes_are (state_in r) (told_in r) (buffers_in r) r.reached
            (record {
              calls = each (HasCall m p) (HasCall m p) r.numbers.places r.turns.calls (λ j l q there apart had. had) (r.turns.calls id o.place o.pass (v, at, o.here));
              keepers = keepers_set st.views id v u o w at refl refl (λ i k. k) r.turns.keepers;
              some_keeper = keepers_same st.views id v u o w at refl (turns_in m) (turns_in m) (no_turns m) ((λ i. refl), λ i. refl) r.turns.some_keeper;
              still = r.turns.still;
            })
            (record {
              own = each (HistoryOf m) (HistoryOf m) r.numbers.places r.histories.own (λ j l q there apart had. had) (history_noted m made o.pass (r.histories.own id o.place o.pass (v, at, o.here)));
              hands = each (HandsOf m) (HandsOf m) r.numbers.places r.histories.hands (λ j l q there apart had. had) (r.histories.hands id o.place o.pass (v, at, o.here));
              latest = each (LatestOf m) (LatestOf m) r.numbers.places r.histories.latest (λ j l q there apart had. had) (r.histories.latest id o.place o.pass (v, at, o.here));
            })
            (record {
              places = numbers_set st.views id v u o w at refl refl r.numbers.places;
              manager = manager_stays st.views id v u o w at refl cd m refl refl refl refl refl refl refl refl r.numbers.manager;
              many = r.numbers.many;
              short = r.numbers.short;
            }),
      )

  rule_noted : (st : State Slot View) (id k : ℕ) (v : View) (made : Made) → get_elem? st.views id ≡ some v → WordsRule cd desk z st → WordsRule cd desk z (record st { views = set st.views id (noted_view made k v) })
  rule_noted st id k v made at rule = ⊎_elim
      (λ (t : (p : Pass) × (get_elem? v.passes k ≡ some p) × (with_pass_at (noted made) k v.passes ≡ set v.passes k (noted made p))).
      subst (λ (ps : List Pass). WordsRule cd desk z (record st { views = set st.views id (record v { passes = ps }) })) (sym t.2) (rule_noted_in st id v (record { place = k; pass = t.0; here = t.1 }) made at rule))
      (λ (none : with_pass_at (noted made) k v.passes ≡ v.passes).
      subst (λ (views : List View). WordsRule cd desk z (record st { views = views })) (sym (ap (λ (ps : List Pass). set st.views id (record v { passes = ps })) none ∙ set_again st.views id v at)) rule)
      (there_or_none made k v.passes)

  -- whatever a step tells, it is noted beside that
  pub notes : (n id : ℕ) (me : SeatState) (i : ℕ) (f : ℕ → ℕ) (k : ℕ) (T T' : ℕ → SeatState → Type 0) (made : (y : ℕ) (me' : SeatState) → T y me' → Made) → Allows (WordsRule cd desk z) n id me i f T
      → ((y : ℕ) (me' : SeatState) (t : T y me') → T' y (noted_seat (made y me' t) k me')) → Allows (WordsRule cd desk z) n id me i f T'
  notes n id me i f k T T' made allows follows st kept long at wide =
      let a = allows st kept long at wide in let w : View = a.0 in let v' : View = noted_view (made _ _ a.4) k w in let st' = stepped st i (f (get_or st.words i 0)) id me.1 w a.1 in (
        v',
        a.1,
        a.2,
        subst (λ (views : List View). WordsRule cd desk z (record st' { views = views })) (set_twice st.views id w v')
            (rule_noted st' id k w (made _ _ a.4) (set_here st.views id w (near st.views id me.0 at)) a.3),
        follows _ _ a.4,
      )

  -- a close stays what it is
  pub close_noted : (inc n k : ℕ) (me me' : SeatState) (made : Made) → IsCloseOf cd desk inc n me me' → IsCloseOf cd desk inc n me (noted_seat made k me')
  close_noted inc n k me me' made s = record { state = s.state; sound = s.sound; found = s.found; copy = s.copy }

  -- the step stays what it is
  pub step_noted : (Reads : LaneLink (RingState (PlacedDesk kc kz)) → LaneLink (RingState (PlacedDesk kc kz)) → Type 0) (d : Deed) (number k : ℕ) (call : Call) (me me' : SeatState) (made : Made)
      → IsStepOf cd desk Reads d number call (call_at k me'.0.passes) me me' → IsStepOf cd desk Reads d number call (call_at k (noted_seat made k me').0.passes) me (noted_seat made k me')
  step_noted Reads d number k call me me' made s = record {
    state = s.state;
    sound = s.sound;
    read = s.read;
    may = s.may;
    before = s.before;
    after = subst (IsCallOf (after_deed desk s.state d) 0 number) (sym (call_noted made k me'.0.passes)) s.after;
    copy = s.copy;
  }
