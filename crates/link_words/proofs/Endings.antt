-- The end of a caller, carried or not: the era is closed, it is in no call and holds nothing, and its number is free.
use Rattle.link_words.specs.declared.codes.DeskTables.{DeskTables}
use Rattle.link_words.specs.PlacedDesks.{PlacedDesk}
use Rattle.link_words.specs.Seats.{Settles}
use Rattle.link_words.proofs.Books.{none_with}
use Rattle.link_words.proofs.Froms.{stands_left, stands_right}
use Rattle.std.proofs.Common.{suc}
use Rattle.std.proofs.Common.{◌≡◌, ◌≢◌, ℕ, zero, suc, ◌-◌, Bool, true, false, List, [], ◌∷◌, ◌++◌, get_or, set, refl, sym, ap, ◌∙◌, subst, ⊎_elim, arith, length-set, ◌||◌, not}
use Rattle.std.specs.Prelude.{Option, Some, None, slice_set}
use mathlib.Core.Option.{some, some-injective, some-ne-none}
use mathlib.Core.Path.{Path}
use native.Mathlib.Decide.{ℕ_discrete}
use lib.ListN.{get_elem?}
use lib.Seq.{set-get_or}
use Rattle.atomic_table.specs.Table.{State, keeps, Joins, Allows}
use Rattle.atomic_table.proofs.Lists.{at_set, set_else}
use Rattle.rp_base.specs.declared.kinds.End.{End}
use Rattle.rp_base.specs.declared.kinds.End.TheVariants as side
use Rattle.lane_model.specs.declared.lane_links.LaneLink.{LaneLink}
use base.Stored.{Coded}
use Rattle.lane_model.specs.Desks.{DeskMeaning}
use Rattle.lane_model.specs.Lanes.{has_call}
use Rattle.ring_core.specs.declared.states.RingState.{RingState}
use Rattle.link_words.specs.declared.rule.Slot.{Slot}
use Rattle.link_words.specs.declared.rule.LinkSizes.{LinkSizes}
use Rattle.link_words.specs.declared.rule.Call.TheVariants.{Rests}
use Rattle.link_words.specs.declared.rule.Pass.{Pass}
use Rattle.link_words.specs.declared.rule.View.{View}
use Rattle.link_words.specs.Words.{other, lane_to}
use Rattle.link_words.specs.Passes.{PassAt, HasNumber, Manages, Mover, numbers_of, spent_view, without_pass, after_end_at, callers_without, after_end_with, only_pass}
use Rattle.link_words.specs.Deeds.{Frees, MayDo}
use Rattle.link_words.specs.Steps.{IsEndingOf, IsLookAt}
use Rattle.link_words.proofs.Parts.{state_in}
use Rattle.link_words.specs.Rule.{HasCall, IsCallOf, HistoryOf, HandsOf, Shows, WordsRule, LatestOf}
use Rattle.link_words.specs.Parts.{Knows, ManagerKnows}
use Rattle.link_words.specs.Histories.{hands_of, HasEnded, IsQuiet}
use Rattle.link_words.proofs.Keepers.{Onto, onto_ended, onto_same, onto_without}
use Rattle.link_words.proofs.Quiet.{ended_more, ended_with, quiet_apart, quiet_uncalled}
use Rattle.lane_model.specs.Links.{link_of}
use Rattle.lane_model.specs.Soundness.{SoundLink}
use Rattle.ring_core.specs.RingSteps.{ring_form}
use Rattle.link_words.specs.Calls.{SeatState}
use Rattle.link_words.specs.Passes.{after_settle}
use Rattle.link_words.specs.Codes.{copied}
use Rattle.link_words.specs.declared.copies.LinkCopy.{LinkCopy}
use Rattle.link_words.proofs.Frames.{some_copy}
use Rattle.link_words.proofs.Hands.{none_held}
use Rattle.link_words.proofs.Froms.{Spot, From, each_from, numbers_from, keepers_from, one_manager, come}
use prog.Atomic.{either}
use Rattle.atomic_table.proofs.Lists.{exchanged}
use Rattle.std.proofs.Common.{eqb}
use Rattle.link_words.specs.Passes.{place_of_number}
use Rattle.link_words.specs.Seats.{with_era, EndsCaller, LearnsEra}
use Rattle.link_words.proofs.Moving.{with_views, rebuilt, recast}
use Rattle.link_words.proofs.Users.{end_else, call_with, history_with, hands_with}

none_some : (c : LinkCopy) → Path (Option LinkCopy) None (Some c) → ⊥
none_some c e = absurd (cc)

false-true : false ≡ true → ⊥
false-true e = absurd (cc)

or_false : (a b : Bool) → a ≡ false → b ≡ false → (a || b) ≡ false
or_false true b x y = x
or_false false b x y = y

number_from : (l : List Pass) (n k : ℕ) → get_elem? (numbers_of l) k ≡ some n → (q : Pass) × (get_elem? l k ≡ some q) × (q.number ≡ n)
number_from [] n k e = absurd (some-ne-none n (sym e))
number_from (x ∷ xs) n zero e = (x, refl, some-injective x.number n e)
number_from (x ∷ xs) n (suc k) e = number_from xs n k e

-- a list without its k-th
abbrev pub down : ℕ → ℕ → ℕ
down zero l = l - 1
down (suc k) zero = zero
down (suc k) (suc l) = suc (down k l)

removed_at : (k : ℕ) (ps : List Pass) (l : ℕ) (q : Pass) → get_elem? (without_pass k ps) l ≡ some q → (i : ℕ) × (get_elem? ps i ≡ some q) × (down k i ≡ l) × (i ≢ k)
removed_at zero [] l q e = absurd (some-ne-none q (sym e))
removed_at (suc k) [] l q e = absurd (some-ne-none q (sym e))
removed_at zero (p ∷ ps) l q e = (suc l, e, omega arith, λ same. omega (arith, same))
removed_at (suc k) (p ∷ ps) zero q e = (zero, e, refl, λ same. omega (arith, same))
removed_at (suc k) (p ∷ ps) (suc l) q e = let r = removed_at k ps l q e in (suc r.0, r.1, ap suc r.2, λ same. r.3 (let s : suc r.0 ≡ suc k = same in omega (arith, s)))

abbrev pub one_gone : ℕ → ℕ → Spot → Spot
one_gone id k o = come (ℕ_discrete o.0 id) (id, down k o.1) o

gone_here : (id k l : ℕ) → Path Spot (one_gone id k (id, l)) (id, down k l)
unfolding one_gone
gone_here id k l = here (ℕ_discrete id id)
  where
    here : (d : Dec (id ≡ id)) → Path Spot (come d (id, down k l) (id, l)) (id, down k l)
    here (yes _) = refl
    here (no n) = absurd (n refl)

gone_not : (id k j l : ℕ) → j ≢ id → Path Spot (one_gone id k (j, l)) (j, l)
unfolding one_gone
gone_not id k j l ne = here (ℕ_discrete j id)
  where
    here : (d : Dec (j ≡ id)) → Path Spot (come d (id, down k l) (j, l)) (j, l)
    here (yes e) = absurd (ne e)
    here (no _) = refl

-- who stays, where the pass of a view is gone
end_from : (views : List View) (id : ℕ) (v : View) (o : Mover v) (c : Option LinkCopy) (at : get_elem? views id ≡ some v) (j l : ℕ) (q : Pass) → PassAt (set views id (after_end_at v o c)) j l q
    → (s : Spot) × PassAt views s.0 s.1 q × Path Spot (one_gone id o.place s) (j, l) × (s.0 ≡ id → s.1 ≢ o.place)
end_from views id v o c at j l q (u, eu, eq) = ⊎_elim
    (λ (x : (j ≡ id) × (after_end_at v o c ≡ u)). let r = removed_at o.place v.passes l q (subst (λ (b : View). get_elem? b.passes l ≡ some q) (sym x.1) eq) in
    ((id, r.0), (v, at, r.1), gone_here id o.place r.0 ∙ (λ i. (sym x.0 i, r.2 i)), λ _. r.3))
    (λ (x : (j ≢ id) × (get_elem? views j ≡ some u)). ((j, l), (u, x.1, eq), gone_not id o.place j l x.0, λ same. absurd (x.0 same)))
    (at_set views id j (after_end_at v o c) u eu)

only_here : (k : ℕ) (ps : List Pass) (p : Pass) → get_elem? ps k ≡ some p → only_pass k ps ≡ p ∷ []
only_here k [] p at = absurd (some-ne-none p (sym at))
only_here zero (q ∷ ps) p at = ap (λ (x : Pass). x ∷ []) (some-injective q p at)
only_here (suc k) (q ∷ ps) p at = only_here k ps p at

removed_manages : (v : View) (o : Mover v) (c : Option LinkCopy) → Manages (after_end_at v o c) → Manages v
removed_manages v o c (k, b, e, is) = let r = removed_at o.place v.passes k b e in (r.0, b, r.1, is)

module _ {B : Type 0} {kc : Coded B} {kz : DeskTables} (cd : Coded (PlacedDesk kc kz)) (desk : DeskMeaning (PlacedDesk kc kz)) (z : LinkSizes) where
  frees_may : (m : LaneLink (RingState (PlacedDesk kc kz))) (p : ℕ) (e : End) (n : ℕ) → m.era.is_live ≡ false → IsCallOf m p n (Rests e) → hands_of n (lane_to m e).lane.lane.held ≡ [] → MayDo desk m (Frees e n)
  frees_may m p side.Host n shut rests bare = (shut, rests.0, (or_false (has_call m.to_remote.lane.sender n) (has_call m.to_host.lane.receiver n) rests.1 rests.2, none_held n m.to_host.lane.lane.held bare))
  frees_may m p side.Remote n shut rests bare = (shut, rests.0, (or_false (has_call m.to_host.lane.sender n) (has_call m.to_remote.lane.receiver n) rests.1 rests.2, none_held n m.to_remote.lane.lane.held bare))

  remote_host : Some side.Remote ≡ Some side.Host → ⊥
  remote_host e = absurd (cc)

  host_remote : Some side.Host ≡ Some side.Remote → ⊥
  host_remote e = absurd (cc)

  -- a caller that rests in a closed era: the books say of it what it did, and nothing comes in under its number
  ended_rested : (m : LaneLink (RingState (PlacedDesk kc kz))) (p : ℕ) (q : Pass) (e : End) → m.era.is_live ≡ false → SoundLink (link_of (ring_form desk) m) → IsCallOf m p q.number (Rests e) → HistoryOf m q → HasEnded m q
  ended_rested m p q e shut sound rests has = record { closed = shut; history = has; quiet = λ i. quiet e i rests }
    where
      quiet : (e i : End) → IsCallOf m p q.number (Rests e) → IsQuiet (lane_to m i).lane.sender q.number
      quiet side.Host side.Host rests = quiet_apart m.callers side.Remote side.Host m.to_host.lane.sender q.number sound.to_host.sender rests.0 remote_host
      quiet side.Host side.Remote rests = quiet_uncalled m.to_remote.lane.sender q.number rests.1
      quiet side.Remote side.Host rests = quiet_uncalled m.to_host.lane.sender q.number rests.1
      quiet side.Remote side.Remote rests = quiet_apart m.callers side.Host side.Remote m.to_remote.lane.sender q.number sound.to_remote.sender rests.0 host_remote

  -- the number n is free, and its pass is in no view
  freed : (st : State Slot View) (m : LaneLink (RingState (PlacedDesk kc kz))) (p : ℕ) (r : Shows cd desk z st m p) (views : List View) (went : Spot → Spot) → From st.views views went → Onto st.views views → (e : End) (n : ℕ)
      → ((j l : ℕ) (q : Pass) → PassAt views j l q → n ≢ q.number) → ManagerKnows cd (record m { callers = slice_set m.callers n None }) views → m.era.is_live ≡ false → IsCallOf m p n (Rests e) → hands_of n (lane_to m e).lane.lane.held ≡ []
      → WordsRule cd desk z (with_views st views)
  freed st m p r views went from onto e n gone manager shut rests bare =
      let cs = slice_set m.callers n None in let m' : LaneLink (RingState (PlacedDesk kc kz)) = record m { callers = cs } in let many = r.numbers.many in
      recast cd desk z st m p r cs (Frees e n) views (frees_may m p e n shut rests bare) refl (length-set m.callers n None ∙ many)
      (each_from st.views views went from (HasCall m p) (HasCall m' p) r.turns.calls (λ j l q at has. call_with m cs p q.number q.call (end_else m.callers n q.number None (gone j l q at)) has))
      (each_from st.views views went from (HistoryOf m) (HistoryOf m') r.histories.own (λ j l q at has. history_with m cs q has))
      (each_from st.views views went from (HandsOf m) (HandsOf m') r.histories.hands (λ j l q at has. hands_with m cs q (end_else m.callers n q.number None (gone j l q at)) has))
      (each_from st.views views went from (LatestOf m) (LatestOf m) r.histories.latest (λ j l q at has. has))
      (numbers_from st.views views went from r.numbers.places) (keepers_from st.views views went from r.turns.keepers) onto manager

  -- a carried caller ends
  pub ends : (st : State Slot View) (m : LaneLink (RingState (PlacedDesk kc kz))) (p : ℕ) (r : Shows cd desk z st m p) (id : ℕ) (v : View) (o : Mover v) (e : End) → get_elem? st.views id ≡ some v → Manages v → v.is_closed ≡ true → o.pass.call ≡ Rests e → o.pass.hands ≡ []
      → WordsRule cd desk z (with_views st (set st.views id (after_end_at v o (Some (copied cd (record m { callers = slice_set m.callers o.pass.number None }))))))
  ends st m p r id v o e at manages shut call bare =
      let n = o.pass.number in let known = r.numbers.manager id v at manages in let m' : LaneLink (RingState (PlacedDesk kc kz)) = record m { callers = slice_set m.callers n None } in let u = after_end_at v o (Some (copied cd m')) in let views = set st.views id u in
      let rests : IsCallOf m p n (Rests e) = subst (IsCallOf m p n) call (r.turns.calls id o.place o.pass (v, at, o.here)) in let from = end_from st.views id v o (Some (copied cd m')) at in
      freed st m p r views (one_gone id o.place) (λ j l q there. let s = from j l q there in (s.0, s.1, s.2)) (onto_without st.views id v at u o e call refl) e n
      (λ j l q there same. let s = from j l q there in let a = r.numbers.places id o.place s.0.0 s.0.1 o.pass q (v, at, o.here) s.1 same in s.3 (sym a.0) (sym a.1))
      (λ i y ey manages_y. ⊎_elim
      (λ (x : (i ≡ id) × (u ≡ y)). subst (λ (b : View). Knows cd m' views i b) x.1 (record {
        users = ap (λ (us : List (Option End)). slice_set us n None) known.users;
        inc = known.inc;
        unused = λ i none not. none_with m (slice_set m.callers n None) i (known.unused i (sym (end_else m.callers n i None (λ same. not (0, ap some same))) ∙ none) (λ (was : HasNumber v.reclaims i). not (suc was.0, was.1)));
        ended = λ j a has. ended_with m (slice_set m.callers n None) a (ended_more m o.pass v.ended_passes (ended_rested m p o.pass e (known.closed shut) r.sound rests (r.histories.own id o.place o.pass (v, at, o.here))) known.ended j a has);
        closed = known.closed;
        out = λ j l q there away. ⊎_elim (λ (b : (j ≡ id) × (u ≡ there.0)). absurd (away (b.0 ∙ sym x.0)))
            (λ (b : (j ≢ id) × (get_elem? st.views j ≡ some there.0)). known.out j l q (there.0, b.1, there.2) b.0) (at_set st.views id j u there.0 there.1);
        copy = λ c same _. sym (some_copy (copied cd m') c same);
      }))
      (λ (x : (i ≢ id) × (get_elem? st.views i ≡ some y)). absurd (x.0 (one_manager st.views r.numbers.places i id y v x.1 manages_y at manages)))
      (at_set st.views id i u y ey))
      (known.closed shut) rests (r.histories.hands id o.place o.pass (v, at, o.here) e rests.0 ∙ bare)

  -- the idle word is loaded, and a carried caller ends
  pub ends_caller : (slots id : ℕ) (me : SeatState) (o : Mover me.0) (e : End) → Manages me.0 → me.0.is_closed ≡ true → o.pass.call ≡ Rests e → o.pass.hands ≡ [] → Allows (WordsRule cd desk z) slots id me 0 (λ y. y) (λ y me'. me' ≡ (after_end_at me.0 o me'.0.copy, me.1))
  ends_caller slots id me o e manages shut call bare st (m, p, r) wide at _ =
      let c = Some (copied cd (record m { callers = slice_set m.callers o.pass.number None })) in (
        after_end_at me.0 o c,
        keeps,
        tt,
        subst (λ (ws : List ℕ). WordsRule cd desk z (record { words = ws; homes = st.homes; views = set st.views id (after_end_at me.0 o c) })) (sym (set-get_or st.words 0 0)) (ends st m p r id me.0 o e at manages shut call bare),
        refl,
      )

  -- a caller whose seat comes back ends
  pub joins_ended : (id other : ℕ) (v w : View) (q : Pass) (e : End) → Manages v → v.is_closed ≡ true → w.passes ≡ q ∷ [] → q.call ≡ Rests e → q.hands ≡ [] → Joins (WordsRule cd desk z) id v other w (after_end_with v w) spent_view
  joins_ended id other v w q e manages shut only call bare st (m, p, r) at apart seen =
      let n = q.number in let known = r.numbers.manager id v at manages in let u = after_end_with v w in let views = set (set st.views id u) other spent_view in let m' : LaneLink (RingState (PlacedDesk kc kz)) = record m { callers = slice_set m.callers n None } in
      let there : get_elem? st.views other ≡ some w = sym (set_else st.views id other u apart) ∙ seen in
      let mine : PassAt st.views other 0 q = (w, there, ap (λ (ps : List Pass). get_elem? ps 0) only) in
      let rests : IsCallOf m p n (Rests e) = subst (IsCallOf m p n) call (r.turns.calls other 0 q mine) in
      let before : (j l : ℕ) (a : Pass) → PassAt views j l a → PassAt st.views j l a × (j ≢ other) = λ j l a here. ⊎_elim
      (λ (x : (j ≡ other) × (spent_view ≡ here.0)). absurd (some-ne-none a (sym (subst (λ (b : View). get_elem? b.passes l ≡ some a) (sym x.1) here.2))))
      (λ (x : (j ≢ other) × (get_elem? (set st.views id u) j ≡ some here.0)). ⊎_elim
      (λ (y : (j ≡ id) × (u ≡ here.0)). ((v, ap (get_elem? st.views) y.0 ∙ at, subst (λ (b : View). get_elem? b.passes l ≡ some a) (sym y.1) here.2), x.0))
      (λ (y : (j ≢ id) × (get_elem? st.views j ≡ some here.0)). ((here.0, y.1, here.2), x.0))
      (at_set st.views id j u here.0 x.1))
      (at_set (set st.views id u) other j spent_view here.0 here.1) in
      freed st m p r views (λ s. s) (λ j l a here. ((j, l), (before j l a here).0, refl)) (onto_ended st.views id v at other w u q e apart there refl only call) e n
      (λ j l a here same. let b = before j l a here in b.1 (sym (r.numbers.places other 0 j l q a mine b.0 same).0))
      (λ i y ey manages_y. ⊎_elim
      (λ (x : (i ≡ other) × (spent_view ≡ y)). let none_there = subst Manages (sym x.1) manages_y in absurd (some-ne-none none_there.1 (sym none_there.2)))
      (λ (x : (i ≢ other) × (get_elem? (set st.views id u) i ≡ some y)). ⊎_elim
      (λ (b : (i ≡ id) × (u ≡ y)). subst (λ (c : View). Knows cd m' views i c) b.1 (record {
        users = ap (λ (ps : List Pass). callers_without ps v.users) only ∙ ap (λ (us : List (Option End)). slice_set us n None) known.users;
        inc = known.inc;
        unused = λ i none not. none_with m (slice_set m.callers n None) i (known.unused i (sym (end_else m.callers n i None (λ same. not (stands_left (numbers_of w.passes) v.reclaims i (subst (λ (ps : List Pass). HasNumber (numbers_of ps) i) (sym only) (0, ap some same))))) ∙ none) (λ (was : HasNumber v.reclaims i). not (stands_right (numbers_of w.passes) v.reclaims i was)));
        ended = λ j a has. ended_with m (slice_set m.callers n None) a (ended_more m q v.ended_passes (ended_rested m p q e (known.closed shut) r.sound rests (r.histories.own other 0 q mine)) known.ended j a (ap (λ (ps : List Pass). get_elem? (ps ++ v.ended_passes) j) (sym only) ∙ has));
        closed = known.closed;
        out = λ j l a here away. known.out j l a (before j l a here).0 (λ same. away (same ∙ sym b.0));
        copy = λ c same _. absurd (none_some c same);
      }))
      (λ (b : (i ≢ id) × (get_elem? st.views i ≡ some y)). absurd (b.0 (one_manager st.views r.numbers.places i id y v b.1 manages_y at manages)))
      (at_set st.views id i u y x.1))
      (at_set (set st.views id u) other i spent_view y ey))
      (known.closed shut) rests (r.histories.hands other 0 q mine e rests.0 ∙ bare)

  -- the manager loads the era, and knows whether it is closed
  shut_is : (b : Bool) → not b ≡ true → b ≡ false
  shut_is true is = absurd (false-true is)
  shut_is false is = refl

  pub learns_shut : (slots id : ℕ) (me : SeatState) → Manages me.0 → Allows (WordsRule cd desk z) slots id me 1 (λ y. y) (λ y me'. LearnsEra me y me' × IsLookAt cd desk y me)
  learns_shut slots id me manages st (m, p, r) wide at _ =
      let u = with_era me.0 m.era in let views = set st.views id u in let known = r.numbers.manager id me.0 at manages in
      let before : (j l : ℕ) (a : Pass) → PassAt views j l a → PassAt st.views j l a = λ j l a here. ⊎_elim
      (λ (y : (j ≡ id) × (u ≡ here.0)). (me.0, ap (get_elem? st.views) y.0 ∙ at, subst (λ (b : View). get_elem? b.passes l ≡ some a) (sym y.1) here.2))
      (λ (y : (j ≢ id) × (get_elem? st.views j ≡ some here.0)). (here.0, y.1, here.2))
      (at_set st.views id j u here.0 here.1) in (
        u,
        keeps,
        tt,
        subst (λ (ws : List ℕ). WordsRule cd desk z (record { words = ws; homes = st.homes; views = views })) (sym (set-get_or st.words 1 0))
            (rebuilt cd desk z st m p r views (λ s. s) (λ j l a here. ((j, l), before j l a here, refl)) (onto_same st.views id me.0 at u refl) (λ i y ey manages_y. ⊎_elim
            (λ (x : (i ≡ id) × (u ≡ y)). subst (λ (c : View). Knows cd m views i c) x.1 (record {
              users = known.users;
              inc = known.inc;
              unused = known.unused;
              ended = known.ended;
              closed = shut_is m.era.is_live;
              out = λ j l a here away. known.out j l a (before j l a here) (λ same. away (same ∙ sym x.0));
              copy = known.copy;
            }))
            (λ (x : (i ≢ id) × (get_elem? st.views i ≡ some y)). absurd (x.0 (one_manager st.views r.numbers.places i id y me.0 x.1 manages_y at manages)))
            (at_set st.views id i u y ey))),
        (
          (m.era, ap (λ (ws : List ℕ). get_or ws 1 0) r.words_are, r.numbers.short, refl, sym known.inc, known.closed),
          record {
            state = m;
            sound = state_in r;
            found = ap (λ (ws : List ℕ). get_or ws 1 0) r.words_are;
            copy = λ k none_out was. known.copy k was none_out;
          },
        ),
      )

  -- the idle word is read by an exchange of 0 for 0, which names the caller
  pub ends_named : (slots id : ℕ) (me : SeatState) (o : Mover me.0) (e : End) (caller : ℕ) → Manages me.0 → me.0.is_closed ≡ true → o.pass.number ≡ caller → o.place ≡ place_of_number caller me.0.passes → o.pass.call ≡ Rests e → o.pass.hands ≡ []
      → Allows (WordsRule cd desk z) slots id me 0 (λ y. either (eqb y 0) 0 y) (λ y me'. EndsCaller caller me me' × IsEndingOf cd desk e caller me me')
  ends_named slots id me o e caller manages shut number place call bare st (m, p, r) wide at _ =
      let y : ℕ = get_or st.words 0 0 in let known = r.numbers.manager id me.0 at manages in let rests : IsCallOf m p o.pass.number (Rests e) = subst (IsCallOf m p o.pass.number) call (r.turns.calls id o.place o.pass (me.0, at, o.here)) in
      let same : either (eqb y 0) 0 y ≡ y = exchanged y 0 0 (λ f. f ≡ y) (λ hit. sym hit) (λ miss. refl) in
      let kept : o.pass ∷ [] ≡ only_pass (place_of_number caller me.0.passes) me.0.passes = sym (only_here o.place me.0.passes o.pass o.here) ∙ ap (λ (k : ℕ). only_pass k me.0.passes) place in
      let c = Some (copied cd (record m { callers = slice_set m.callers o.pass.number None })) in (
        after_end_at me.0 o c,
        keeps,
        tt,
        subst (λ (ws : List ℕ). WordsRule cd desk z (record { words = ws; homes = st.homes; views = set st.views id (after_end_at me.0 o c) })) (sym (ap (set st.words 0) same ∙ set-get_or st.words 0 0)) (ends st m p r id me.0 o e at manages shut call bare),
        (
          (λ k. (record me.0 { copy = c; reclaims = number k ∷ me.0.reclaims; ended_passes = kept k ++ me.0.ended_passes; passes = without_pass (place k) me.0.passes; users = slice_set me.0.users (number k) None }, me.1)),
          record {
            state = m;
            sound = state_in r;
            may = subst (λ (n : ℕ). MayDo desk m (Frees e n)) number (frees_may m p e o.pass.number (known.closed shut) rests (r.histories.hands id o.place o.pass (me.0, at, o.here) e rests.0 ∙ bare));
            copy = λ k none_out was. (known.copy k was none_out, ap (λ (n : ℕ). Some (copied cd (record m { callers = slice_set m.callers n None }))) number);
          },
        ),
      )

  -- all that were out have come back: the manager knows the state
  pub settles : (slots id : ℕ) (me : SeatState) → Manages me.0 → ((n : ℕ) → HasNumber me.0.out n → HasNumber (numbers_of me.0.passes) n) → Allows (WordsRule cd desk z) slots id me 0 (λ y. y) (λ y me'. Settles me me')
  settles slots id me manages back st (m, p, r) wide at _ =
      let k = Some (copied cd m) in let u = after_settle me.0 k in let views = set st.views id u in let known = r.numbers.manager id me.0 at manages in
      let before : (j l : ℕ) (a : Pass) → PassAt views j l a → PassAt st.views j l a = λ j l a here. ⊎_elim
      (λ (y : (j ≡ id) × (u ≡ here.0)). (me.0, ap (get_elem? st.views) y.0 ∙ at, subst (λ (b : View). get_elem? b.passes l ≡ some a) (sym y.1) here.2))
      (λ (y : (j ≢ id) × (get_elem? st.views j ≡ some here.0)). (here.0, y.1, here.2))
      (at_set st.views id j u here.0 here.1) in (
        u,
        keeps,
        tt,
        subst (λ (ws : List ℕ). WordsRule cd desk z (record { words = ws; homes = st.homes; views = views })) (sym (set-get_or st.words 0 0))
            (rebuilt cd desk z st m p r views (λ s. s) (λ j l a here. ((j, l), before j l a here, refl)) (onto_same st.views id me.0 at u refl) (λ i y ey manages_y. ⊎_elim
            (λ (x : (i ≡ id) × (u ≡ y)). subst (λ (c : View). Knows cd m views i c) x.1 (record {
              users = known.users;
              inc = known.inc;
              unused = known.unused;
              ended = known.ended;
              closed = known.closed;
              out = λ j l a here away. let old = before j l a here in let apart : j ≢ id = λ same. away (same ∙ sym x.0) in let b = back a.number (known.out j l a old apart) in let q = number_from me.0.passes a.number b.0 b.1 in
                  absurd (apart (r.numbers.places j l id b.0 a q.0 old (me.0, at, q.1) (sym q.2)).0);
              copy = λ c same _. sym (some_copy (copied cd m) c same);
            }))
            (λ (x : (i ≢ id) × (get_elem? st.views i ≡ some y)). absurd (x.0 (one_manager st.views r.numbers.places i id y me.0 x.1 manages_y at manages)))
            (at_set st.views id i u y ey))),
        (copied cd m, refl),
      )
