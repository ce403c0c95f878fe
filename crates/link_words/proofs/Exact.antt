-- The manager's form: a step by the manager's seat takes its copy exactly by the ring form's function, though no desk is in the copy.
use Rattle.link_words.specs.declared.codes.DeskTables.{DeskTables}
use Rattle.link_words.specs.PlacedDesks.{PlacedDesk}
use Rattle.std.proofs.Common.{◌≡◌, ℕ, zero, suc, List, [], ◌∷◌, set, refl, sym, ap, ◌∙◌, subst, get_or}
use base.Stored.{Coded}
use Rattle.lane_model.specs.declared.lane_links.LaneLink.{LaneLink}
use Rattle.lane_model.specs.Desks.{DeskMeaning}
use Rattle.ring_core.specs.declared.states.RingState.{RingState}
use Rattle.link_words.specs.declared.copies.LinkCopy.{LinkCopy}
use Rattle.link_words.specs.Codes.{copied}
use Rattle.std.specs.Prelude.{Some}
use mathlib.Core.Option.{some, some-injective, some-ne-none}
use lib.ListN.{get_elem?}
use Rattle.atomic_table.specs.Table.{State}
use Rattle.link_words.specs.declared.rule.Slot.{Slot}
use Rattle.link_words.specs.declared.rule.View.{View}
use Rattle.link_words.specs.declared.rule.LinkSizes.{LinkSizes}
use Rattle.link_words.specs.declared.rule.Call.{Call}
use Rattle.link_words.specs.declared.rule.Call.TheVariants.{Rests}
use Rattle.rp_base.specs.declared.kinds.End.{End}
use Rattle.link_words.specs.declared.rule.Pass.{Pass}
use Rattle.link_words.specs.Passes.{Manages, Mover, with_pass}
use Rattle.link_words.specs.Rule.{IsCallOf, Shows}
use Rattle.link_words.specs.Calls.{SeatState, call_at, number_at, own_at, in_hand_at, with_pass_at, Becomes}
use Rattle.link_words.specs.Steps.{IsStepOf, StoresWord, HasWord, IsCloseOf}
use Rattle.link_words.specs.Deeds.{Deed, after_deed, MayDo, Closes}
use Rattle.link_words.proofs.Parts.{state_in}
use Rattle.link_words.specs.Words.{words_of}
use Rattle.link_words.specs.Layouts.{layout, place_in}
use Rattle.link_words.proofs.Apart.{found_apart}

module _ {B : Type 0} {kc : Coded B} {kz : DeskTables} (c : Coded (PlacedDesk kc kz)) where
  -- a copy is that of one state
  pub copied_one : (m n : LaneLink (RingState (PlacedDesk kc kz))) → copied c m ≡ copied c n → m ≡ n
  copied_one m n e i = record {
    era = (e i).state.era;
    to_host = record {
      lane = record {
        lane = (e i).state.to_host.lane.lane;
        sender = (e i).state.to_host.lane.sender;
        receiver = (e i).state.to_host.lane.receiver;
        desk = c.inj m.to_host.lane.desk n.to_host.lane.desk (ap (λ (k : LinkCopy). k.state.to_host.lane.desk.code) e) i;
      };
      rings = (e i).state.to_host.rings;
    };
    to_remote = record {
      lane = record {
        lane = (e i).state.to_remote.lane.lane;
        sender = (e i).state.to_remote.lane.sender;
        receiver = (e i).state.to_remote.lane.receiver;
        desk = c.inj m.to_remote.lane.desk n.to_remote.lane.desk (ap (λ (k : LinkCopy). k.state.to_remote.lane.desk.code) e) i;
      };
      rings = (e i).state.to_remote.rings;
    };
    callers = (e i).state.callers;
  }

-- who knows the state by the manager's copy knows it after a step, which takes the copy by the deed though no desk is in it
pub copy_after : {B : Type 0} {kc : Coded B} {kz : DeskTables} (cd : Coded (PlacedDesk kc kz)) (desk : DeskMeaning (PlacedDesk kc kz)) (Reads : LaneLink (RingState (PlacedDesk kc kz)) → LaneLink (RingState (PlacedDesk kc kz)) → Type 0) (d : Deed) (number : ℕ) (before after : Call) (me me' : SeatState) → IsStepOf cd desk Reads d number before after me me' → (known : LaneLink (RingState (PlacedDesk kc kz))) → Manages me.0 → me.0.out ≡ [] → me.0.copy ≡ Some (copied cd known)
    → me'.0.copy ≡ Some (copied cd (after_deed desk known d))
copy_after cd desk Reads d number before after me me' step known manages none_out was =
    let c = step.copy (copied cd known) manages none_out was in c.1 ∙ ap (λ (s : LaneLink (RingState _)). Some (copied cd (after_deed desk s d))) (sym (copied_one cd known step.state c.0))

pub copy_closed : {B : Type 0} {kc : Coded B} {kz : DeskTables} (cd : Coded (PlacedDesk kc kz)) (desk : DeskMeaning (PlacedDesk kc kz)) (inc n : ℕ) (me me' : SeatState) → IsCloseOf cd desk inc n me me' → (known : LaneLink (RingState (PlacedDesk kc kz))) → Manages me.0 → me.0.out ≡ [] → me.0.copy ≡ Some (copied cd known)
    → me'.0.copy ≡ Some (copied cd (after_deed desk known (Closes inc)))
copy_closed cd desk inc n me me' step known manages none_out was =
    let c = step.copy (copied cd known) manages none_out was in c.1 ∙ ap (λ (s : LaneLink (RingState _)). Some (copied cd (after_deed desk s (Closes inc)))) (sym (copied_one cd known step.state c.0))

-- the word of this number was found to be this, before the step, or is this after it
abbrev pub ReadsAt : {B : Type 0} {kc : Coded B} {kz : DeskTables} → ℕ → ℕ → LaneLink (RingState (PlacedDesk kc kz)) → LaneLink (RingState (PlacedDesk kc kz)) → Type 0
ReadsAt i n before after = n ≡ get_or (words_of 0 [] before) i 0

abbrev pub WritesAt : {B : Type 0} {kc : Coded B} {kz : DeskTables} → ℕ → ℕ → LaneLink (RingState (PlacedDesk kc kz)) → LaneLink (RingState (PlacedDesk kc kz)) → Type 0
WritesAt i n before after = n ≡ get_or (words_of 0 [] after) i 0

-- the step that a pass of the view makes
abbrev pub StepBy : {B : Type 0} {kc : Coded B} {kz : DeskTables} → Coded (PlacedDesk kc kz) → DeskMeaning (PlacedDesk kc kz) → (LaneLink (RingState (PlacedDesk kc kz)) → LaneLink (RingState (PlacedDesk kc kz)) → Type 0) → (me : SeatState) → Mover me.0 → Deed → SeatState → Type 0
StepBy cd desk Reads me o d me' = IsStepOf cd desk Reads d o.pass.number o.pass.call (call_at o.place me'.0.passes) me me'

call_set : (ps : List Pass) (k : ℕ) (p w : Pass) → get_elem? ps k ≡ some p → call_at k (set ps k w) ≡ w.call
call_set [] k p w at = absurd (some-ne-none p (sym at))
call_set (x ∷ xs) zero p w at = refl
call_set (x ∷ xs) (suc k) p w at = call_set xs k p w at

pub step_with : {B : Type 0} {kc : Coded B} {kz : DeskTables} (Reads : LaneLink (RingState (PlacedDesk kc kz)) → LaneLink (RingState (PlacedDesk kc kz)) → Type 0) (cd : Coded (PlacedDesk kc kz)) (desk : DeskMeaning (PlacedDesk kc kz)) (z : LinkSizes) (st : State Slot View) (m : LaneLink (RingState (PlacedDesk kc kz))) (r : Shows cd desk z st m 0) (id : ℕ) (me : SeatState) (o : Mover me.0) (w : Pass) (d : Deed) (m' : LaneLink (RingState (PlacedDesk kc kz))) (slots : List (ℕ × Slot))
    → get_elem? st.views id ≡ some me.0 → Reads m m' → MayDo desk m d → m' ≡ after_deed desk m d → IsCallOf m' 0 o.pass.number w.call → StepBy cd desk Reads me o d (with_pass me.0 o w (Some (copied cd m')), slots)
step_with Reads cd desk z st m r id me o w d m' slots at read may is mine = record {
  state = m;
  sound = state_in r;
  read = subst (Reads m) is read;
  may = may;
  before = r.turns.calls id o.place o.pass (me.0, at, o.here);
  after = subst (λ (x : LaneLink (RingState _)). IsCallOf x 0 o.pass.number (call_at o.place (set me.0.passes o.place w))) is (subst (IsCallOf m' 0 o.pass.number) (sym (call_set me.0.passes o.place o.pass w o.here)) mine);
  copy = λ k manages none_out was. ((r.numbers.manager id me.0 at manages).copy k was none_out, ap (λ (x : LaneLink (RingState _)). Some (copied cd x)) is);
}

-- at a store
pub write_by : {B : Type 0} {kc : Coded B} {kz : DeskTables} (i n : ℕ) (cd : Coded (PlacedDesk kc kz)) (desk : DeskMeaning (PlacedDesk kc kz)) (z : LinkSizes) (st : State Slot View) (m : LaneLink (RingState (PlacedDesk kc kz))) (r : Shows cd desk z st m 0) (id : ℕ) (me : SeatState) (o : Mover me.0) (w : Pass) (d : Deed) (m' : LaneLink (RingState (PlacedDesk kc kz))) (slots : List (ℕ × Slot))
    → n ≡ get_or (words_of 0 [] m') i 0 → get_elem? st.views id ≡ some me.0 → MayDo desk m d → m' ≡ after_deed desk m d → IsCallOf m' 0 o.pass.number w.call → StepBy cd desk (WritesAt i n) me o d (with_pass me.0 o w (Some (copied cd m')), slots)
write_by i n cd desk z st m r id me o w d m' slots written at may is mine = step_with (WritesAt i n) cd desk z st m r id me o w d m' slots at written may is mine

-- at a load, or an exchange
pub read_by : {B : Type 0} {kc : Coded B} {kz : DeskTables} (i : ℕ) (cd : Coded (PlacedDesk kc kz)) (desk : DeskMeaning (PlacedDesk kc kz)) (z : LinkSizes) (st : State Slot View) (m : LaneLink (RingState (PlacedDesk kc kz))) (r : Shows cd desk z st m 0) (id : ℕ) (me : SeatState) (o : Mover me.0) (w : Pass) (d : Deed) (m' : LaneLink (RingState (PlacedDesk kc kz))) (slots : List (ℕ × Slot))
    → get_elem? st.views id ≡ some me.0 → MayDo desk m d → m' ≡ after_deed desk m d → IsCallOf m' 0 o.pass.number w.call → StepBy cd desk (ReadsAt i (get_or st.words i 0)) me o d (with_pass me.0 o w (Some (copied cd m')), slots)
read_by i cd desk z st m r id me o w d m' slots at may is mine =
    step_with (ReadsAt i (get_or st.words i 0)) cd desk z st m r id me o w d m' slots at (ap (λ (ws : List ℕ). get_or ws i 0) r.words_are) may is mine

pub call_at_is : (ps : List Pass) (k : ℕ) (p : Pass) → get_elem? ps k ≡ some p → p.call ≡ call_at k ps
call_at_is [] k p at = absurd (some-ne-none p (sym at))
call_at_is (x ∷ xs) zero p at = ap (λ (q : Pass). q.call) (sym (some-injective x p at))
call_at_is (x ∷ xs) (suc k) p at = call_at_is xs k p at

-- a caller who meets another's turn stays as it is, and so does the state
pub busy_by : {B : Type 0} {kc : Coded B} {kz : DeskTables} (cd : Coded (PlacedDesk kc kz)) (desk : DeskMeaning (PlacedDesk kc kz)) (z : LinkSizes) (st : State Slot View) (m : LaneLink (RingState (PlacedDesk kc kz))) (p : ℕ) (r : Shows cd desk z st m p) (id i : ℕ) (me : SeatState) (o : Mover me.0) (e : End) (d : Deed)
    → get_or st.words i 0 ≡ get_or (words_of 0 [] m) i 0 → o.pass.call ≡ Rests e → get_elem? st.views id ≡ some me.0 → MayDo desk m d → m ≡ after_deed desk m d → StepBy cd desk (ReadsAt i (get_or st.words i 0)) me o d me
busy_by cd desk z st m p r id i me o e d low call at may same =
    let rests : IsCallOf m 0 o.pass.number (Rests e) = subst (IsCallOf m p o.pass.number) call (r.turns.calls id o.place o.pass (me.0, at, o.here)) in
    let before : IsCallOf m 0 o.pass.number o.pass.call = subst (IsCallOf m 0 o.pass.number) (sym call) rests in record {
      state = m;
      sound = state_in r;
      read = low;
      may = may;
      before = before;
      after = subst (λ (x : LaneLink (RingState _)). IsCallOf x 0 o.pass.number (call_at o.place me.0.passes)) same (subst (IsCallOf m 0 o.pass.number) (call_at_is me.0.passes o.place o.pass o.here) before);
      copy = λ k manages none_out was. let is = (r.numbers.manager id me.0 at manages).copy k was none_out in (is, was ∙ ap Some (is ∙ ap (copied cd) same));
    }

-- the state stays, and the pass goes to another call, whatever of a reopening stands in other words
pub step_found : {B : Type 0} {kc : Coded B} {kz : DeskTables} (cd : Coded (PlacedDesk kc kz)) (desk : DeskMeaning (PlacedDesk kc kz)) (z : LinkSizes) (st : State Slot View) (m : LaneLink (RingState (PlacedDesk kc kz))) (p : ℕ) (r : Shows cd desk z st m p) (id i : ℕ) (me : SeatState) (o : Mover me.0) (w : Pass) (d : Deed) (slots : List (ℕ × Slot))
    → get_or st.words i 0 ≡ get_or (words_of 0 [] m) i 0 → get_elem? st.views id ≡ some me.0 → MayDo desk m d → m ≡ after_deed desk m d → IsCallOf m 0 o.pass.number o.pass.call → IsCallOf m 0 o.pass.number w.call
    → StepBy cd desk (ReadsAt i (get_or st.words i 0)) me o d (with_pass me.0 o w (Some (copied cd m)), slots)
step_found cd desk z st m p r id i me o w d slots low at may same before next = record {
  state = m;
  sound = state_in r;
  read = low;
  may = may;
  before = before;
  after = subst (λ (x : LaneLink (RingState _)). IsCallOf x 0 o.pass.number (call_at o.place (set me.0.passes o.place w))) same (subst (IsCallOf m 0 o.pass.number) (sym (call_set me.0.passes o.place o.pass w o.here)) next);
  copy = λ k manages none_out was. ((r.numbers.manager id me.0 at manages).copy k was none_out, ap (λ (x : LaneLink (RingState _)). Some (copied cd x)) same);
}

-- the seat and the state stay as they are, in which this was read
pub stays_with : {B : Type 0} {kc : Coded B} {kz : DeskTables} (Reads : LaneLink (RingState (PlacedDesk kc kz)) → LaneLink (RingState (PlacedDesk kc kz)) → Type 0) (cd : Coded (PlacedDesk kc kz)) (desk : DeskMeaning (PlacedDesk kc kz)) (z : LinkSizes) (st : State Slot View) (m : LaneLink (RingState (PlacedDesk kc kz))) (r : Shows cd desk z st m 0) (id : ℕ) (me : SeatState) (o : Mover me.0) (d : Deed)
    → get_elem? st.views id ≡ some me.0 → Reads m m → MayDo desk m d → m ≡ after_deed desk m d → StepBy cd desk Reads me o d me
stays_with Reads cd desk z st m r id me o d at read may same =
    let before : IsCallOf m 0 o.pass.number o.pass.call = r.turns.calls id o.place o.pass (me.0, at, o.here) in record {
      state = m;
      sound = state_in r;
      read = subst (Reads m) same read;
      may = may;
      before = before;
      after = subst (λ (x : LaneLink (RingState _)). IsCallOf x 0 o.pass.number (call_at o.place me.0.passes)) same (subst (IsCallOf m 0 o.pass.number) (call_at_is me.0.passes o.place o.pass o.here) before);
      copy = λ k manages none_out was. let is = (r.numbers.manager id me.0 at manages).copy k was none_out in (is, was ∙ ap Some (is ∙ ap (copied cd) same));
    }

-- the same at a load
pub stays_by : {B : Type 0} {kc : Coded B} {kz : DeskTables} (i : ℕ) (cd : Coded (PlacedDesk kc kz)) (desk : DeskMeaning (PlacedDesk kc kz)) (z : LinkSizes) (st : State Slot View) (m : LaneLink (RingState (PlacedDesk kc kz))) (r : Shows cd desk z st m 0) (id : ℕ) (me : SeatState) (o : Mover me.0) (d : Deed)
    → get_elem? st.views id ≡ some me.0 → MayDo desk m d → m ≡ after_deed desk m d → StepBy cd desk (ReadsAt i (get_or st.words i 0)) me o d me
stays_by i cd desk z st m r id me o d at may same = stays_with (ReadsAt i (get_or st.words i 0)) cd desk z st m r id me o d at (ap (λ (ws : List ℕ). get_or ws i 0) r.words_are) may same

number_at_is : (ps : List Pass) (k : ℕ) (p : Pass) → get_elem? ps k ≡ some p → p.number ≡ number_at k ps
number_at_is [] k p at = absurd (some-ne-none p (sym at))
number_at_is (x ∷ xs) zero p at = ap (λ (q : Pass). q.number) (sym (some-injective x p at))
number_at_is (x ∷ xs) (suc k) p at = number_at_is xs k p at

own_at_is : (ps : List Pass) (k : ℕ) (p : Pass) → get_elem? ps k ≡ some p → p.own ≡ own_at k ps
own_at_is [] k p at = absurd (some-ne-none p (sym at))
own_at_is (x ∷ xs) zero p at = ap (λ (q : Pass). q.own) (sym (some-injective x p at))
own_at_is (x ∷ xs) (suc k) p at = own_at_is xs k p at

in_hand_at_is : (ps : List Pass) (k : ℕ) (p : Pass) → get_elem? ps k ≡ some p → p.hands ≡ in_hand_at k ps
in_hand_at_is [] k p at = absurd (some-ne-none p (sym at))
in_hand_at_is (x ∷ xs) zero p at = ap (λ (q : Pass). q.hands) (sym (some-injective x p at))
in_hand_at_is (x ∷ xs) (suc k) p at = in_hand_at_is xs k p at

pub passes_at : (f : Pass → Pass) (ps : List Pass) (k : ℕ) (p : Pass) → get_elem? ps k ≡ some p → set ps k (f p) ≡ with_pass_at f k ps
passes_at f [] k p at = refl
passes_at f (x ∷ xs) zero p at = ap (λ (q : Pass). f q ∷ xs) (sym (some-injective x p at))
passes_at f (x ∷ xs) (suc k) p at = ap (λ (l : List Pass). x ∷ l) (passes_at f xs k p at)

module _ (me : SeatState) (o : Mover me.0) (k : ℕ) (place : o.place ≡ k) where
  pub number_is : o.pass.number ≡ number_at k me.0.passes
  number_is = number_at_is me.0.passes o.place o.pass o.here ∙ ap (λ (i : ℕ). number_at i me.0.passes) place

  pub call_is : o.pass.call ≡ call_at k me.0.passes
  call_is = call_at_is me.0.passes o.place o.pass o.here ∙ ap (λ (i : ℕ). call_at i me.0.passes) place

  pub own_is : o.pass.own ≡ own_at k me.0.passes
  own_is = own_at_is me.0.passes o.place o.pass o.here ∙ ap (λ (i : ℕ). own_at i me.0.passes) place

  pub in_hand_is : o.pass.hands ≡ in_hand_at k me.0.passes
  in_hand_is = in_hand_at_is me.0.passes o.place o.pass o.here ∙ ap (λ (i : ℕ). in_hand_at i me.0.passes) place

  -- the view in which the mover is another pass, told by its place
  pub becomes : (f : Pass → Pass) (w : Pass) (slots : List (ℕ × Slot)) (me' : SeatState) → w ≡ f o.pass → me' ≡ (with_pass me.0 o w me'.0.copy, slots) → Becomes f k slots me me'
  becomes f w slots me' is told = told ∙ λ i. (record me.0 { copy = me'.0.copy; passes = (ap (set me.0.passes o.place) is ∙ (passes_at f me.0.passes o.place o.pass o.here ∙ ap (λ (j : ℕ). with_pass_at f j me.0.passes) place)) i }, slots)

  -- and the step that it makes
  pub step_told : {B : Type 0} {kc : Coded B} {kz : DeskTables} (cd : Coded (PlacedDesk kc kz)) (desk : DeskMeaning (PlacedDesk kc kz)) (Reads : LaneLink (RingState (PlacedDesk kc kz)) → LaneLink (RingState (PlacedDesk kc kz)) → Type 0) (d : ℕ → Deed) (me' : SeatState) → StepBy cd desk Reads me o (d o.pass.number) me' → IsStepOf cd desk Reads (d (number_at k me.0.passes)) (number_at k me.0.passes) (call_at k me.0.passes) (call_at k me'.0.passes) me me'
  step_told cd desk Reads d me' step = subst (λ (t : ℕ × ℕ × Call). IsStepOf cd desk Reads (d t.0) t.0 t.2 (call_at t.1 me'.0.passes) me me') (λ i. (number_is i, place i, call_is i)) step

-- a step that reads this reads whatever follows
pub read_as : {B : Type 0} {kc : Coded B} {kz : DeskTables} (cd : Coded (PlacedDesk kc kz)) (desk : DeskMeaning (PlacedDesk kc kz)) (Reads Reads' : LaneLink (RingState (PlacedDesk kc kz)) → LaneLink (RingState (PlacedDesk kc kz)) → Type 0) → ((m m' : LaneLink (RingState (PlacedDesk kc kz))) → Reads m m' → Reads' m m')
    → (d : Deed) (number : ℕ) (call next : Call) (me me' : SeatState) → IsStepOf cd desk Reads d number call next me me' → IsStepOf cd desk Reads' d number call next me me'
read_as cd desk Reads Reads' follows d number call next me me' s = record { state = s.state; sound = s.sound; read = follows s.state (after_deed desk s.state d) s.read; may = s.may; before = s.before; after = s.after; copy = s.copy }

-- a word that was found is the one at its place of the table
pub read_there : {B : Type 0} {kc : Coded B} {kz : DeskTables} (cd : Coded (PlacedDesk kc kz)) (desk : DeskMeaning (PlacedDesk kc kz)) (i place n : ℕ) → place ≡ place_in i → (d : Deed) (number : ℕ) (call next : Call) (me me' : SeatState) → IsStepOf cd desk (ReadsAt i n) d number call next me me' → IsStepOf cd desk (HasWord place n) d number call next me me'
read_there cd desk i place n is d number call next me me' s = record {
  state = s.state;
  sound = s.sound;
  may = s.may;
  before = s.before;
  after = s.after;
  copy = s.copy;
  read = s.read ∙ (sym (found_apart 10 (words_of 0 [] s.state) i) ∙ ap (λ (k : ℕ). get_or (layout (words_of 0 [] s.state)) k 0) (sym is));
}

pub written_there : {B : Type 0} {kc : Coded B} {kz : DeskTables} (cd : Coded (PlacedDesk kc kz)) (desk : DeskMeaning (PlacedDesk kc kz)) (i place n : ℕ) → place ≡ place_in i → (d : Deed) (number : ℕ) (call next : Call) (me me' : SeatState) → IsStepOf cd desk (WritesAt i n) d number call next me me' → IsStepOf cd desk (StoresWord place n) d number call next me me'
written_there cd desk i place n is d number call next me me' s = record {
  state = s.state;
  sound = s.sound;
  may = s.may;
  before = s.before;
  after = s.after;
  copy = s.copy;
  read = s.read ∙ (sym (found_apart 10 (words_of 0 [] (after_deed desk s.state d)) i) ∙ ap (λ (k : ℕ). get_or (layout (words_of 0 [] (after_deed desk s.state d))) k 0) (sym is));
}
