-- The close is that of the ring form, made by any seat.
use Rattle.std.proofs.lemmas.Bool.{eqb-true}
use Rattle.link_words.specs.Steps.{IsCloseOf}
use Rattle.link_words.specs.declared.codes.DeskTables.{DeskTables}
use Rattle.link_words.specs.PlacedDesks.{PlacedDesk}
use Rattle.std.proofs.Common.{◌≡◌, ℕ, ◌+◌, ◌*◌, ◌<◌, Bool, true, false, cond, eqb, ◌&&◌, List, get_or, set, refl, sym, ap, ◌∙◌, subst, inl, ⊎_elim, arith, eq-eqb, ne_eqb}
use Rattle.std.specs.Prelude.{Some}
use mathlib.Core.Option.{some}
use lib.ListN.{get_elem?}
use lib.Seq.{set-get_or}
use prog.Atomic.{either}
use Rattle.atomic_table.specs.Table.{State, Act, keeps, stepped, Allows, Valid, carried_after}
use Rattle.atomic_table.proofs.Lists.{exchanged, set_again}
use Rattle.rp_base.specs.declared.kinds.Era.{Era}
use Rattle.rp_base.specs.declared.kinds.End.{End}
use Rattle.rp_base.specs.declared.kinds.End.TheVariants as side
use Rattle.lane_model.specs.declared.lane_links.LaneLink.{LaneLink}
use base.Stored.{Coded}
use Rattle.lane_model.specs.Desks.{DeskMeaning}
use Rattle.lane_model.specs.Lanes.{is_live_in}
use Rattle.lane_model.specs.Recoveries.{link_after_close}
use Rattle.ring_core.specs.declared.states.RingState.{RingState}
use Rattle.link_words.specs.declared.rule.Slot.{Slot}
use Rattle.link_words.specs.declared.rule.LinkSizes.{LinkSizes}
use Rattle.link_words.specs.declared.rule.Call.{Call}
use Rattle.link_words.specs.declared.rule.Call.TheVariants.{Idle, Sends, Rests, Reclaims, EndsHeld, Receives, EndsReceive, EndsSend, EndsBoth, Reopens, Gathers}
use Rattle.link_words.specs.declared.rule.Pass.{Pass}
use Rattle.link_words.specs.declared.rule.View.{View}
use Rattle.link_words.specs.Words.{lane_to, era_word, shelf_to}
use Rattle.link_words.specs.Histories.{IsCurrent, IsCurrentTake, IsOfNow}
use Rattle.link_words.proofs.Books.{history_shut, none_shut}
use Rattle.link_words.specs.Deeds.{Closes, Deed, after_deed, MayDo, IsStill, IsSoundState}
use Rattle.link_words.specs.Rule.{IsCallOf, HasCall, HistoryOf, HandsOf, Shows, WordsRule, LatestOf}
use Rattle.link_words.specs.Parts.{HoldsBuffers}
use Rattle.link_words.specs.Codes.{copied}
use Rattle.link_words.specs.Passes.{Mover, with_pass, with_call}
use Rattle.link_words.specs.Calls.{SeatState}
use Rattle.link_words.proofs.Tells.{ClosesEraBy}
use Rattle.link_words.specs.Seats.{is_closed_behind}
use Rattle.link_words.proofs.Frames.{some_copy, each_set, numbers_set, keepers_set, manager_set}
use Rattle.link_words.proofs.Kept.{deed_kept}
use Rattle.link_words.proofs.Quiet.{ended_by}
use Rattle.link_words.proofs.Keepers.{SameMinds, keepers_same, no_turns, same_turns}
use Rattle.link_words.specs.Turns.{turns_in}
use Rattle.link_words.proofs.Parts.{state_in, told_in, buffers_in, put_together, one_more}

-- an era can be read off its word
pub era_is : (i j : ℕ) (a b : Bool) → i * 2 + cond a 1 0 ≡ j * 2 + cond b 1 0 → (i ≡ j) × (a ≡ b)
era_is i j true true e = ((let x : i * 2 + 1 ≡ j * 2 + 1 = e in omega arith), refl)
era_is i j false false e = ((let x : i * 2 + 0 ≡ j * 2 + 0 = e in omega arith), refl)
era_is i j true false e = absurd (let x : i * 2 + 1 ≡ j * 2 + 0 = e in omega arith)
era_is i j false true e = absurd (let x : i * 2 + 0 ≡ j * 2 + 1 = e in omega arith)

pub era_of_word : (a b : Era) → era_word a ≡ era_word b → a ≡ b
era_of_word a b e = let is = era_is a.inc b.inc a.is_live b.is_live e in λ k. record { inc = is.0 k; is_live = is.1 k }

true-false : true ≡ false → ⊥
true-false e = absurd (cc)

live_in : (era : Era) (inc : ℕ) → era ≡ record { inc = inc; is_live = true } → is_live_in era inc ≡ true
live_in era inc is = ap (λ (x : Era). is_live_in x inc) is ∙ ap (λ (b : Bool). b && true) (eq-eqb inc inc refl)

and_false : (b : Bool) → (b && false) ≡ false
and_false true = refl
and_false false = refl

not_live_in : (inc found : ℕ) (live : Bool) → ((found ≡ inc) → live ≡ true → ⊥) → is_live_in (record { inc = found; is_live = live }) inc ≡ false
not_live_in inc found false never = and_false (eqb found inc)
not_live_in inc found true never = ap (λ (b : Bool). b && true) (ne_eqb found inc (λ same. never same refl))

-- an era that the attempt did not close is known to be closed where it was
shut_behind : (inc found : ℕ) (live : Bool) → ((found ≡ inc) → live ≡ true → ⊥) → is_closed_behind inc (record { inc = found; is_live = live }) ≡ true → live ≡ false
shut_behind inc found false never is = refl
shut_behind inc found true never is = absurd (never (eqb-true found inc is) refl)

-- a change of the era alone, which shuts it
shut_call : {B : Type 0} {kc : Coded B} {kz : DeskTables} (m : LaneLink (RingState (PlacedDesk kc kz))) (inc : ℕ) (k : ℕ) (call : Call) → m.era ≡ record { inc = inc; is_live = true } → IsCallOf m 0 k call → IsCallOf (record m { era = record { inc = inc; is_live = false } }) 0 k call
shut_call m inc k Idle live has = has
shut_call m inc k (Rests side.Host) live has = has
shut_call m inc k (Rests side.Remote) live has = has
shut_call m inc k (Reclaims side.Host x) live has = has
shut_call m inc k (EndsHeld side.Host x) live has = (has.0, has.1, has.2, has.3, refl, has.5)
shut_call m inc k (Reclaims side.Remote x) live has = has
shut_call m inc k (EndsHeld side.Remote x) live has = (has.0, has.1, has.2, has.3, refl, has.5)
shut_call m inc k (Sends side.Host t x buffer) live has = (has.0, has.1, subst (IsCurrent t) (ap (λ (x : Era). x.inc) live) has.2)
shut_call m inc k (Sends side.Remote t x buffer) live has = (has.0, has.1, subst (IsCurrent t) (ap (λ (x : Era). x.inc) live) has.2)
shut_call m inc k (Receives side.Host t x buffer msg) live has = (has.0, has.1, subst (IsCurrentTake t) (ap (λ (x : Era). x.inc) live) has.2)
shut_call m inc k (EndsReceive side.Host t x buffer msg) live has = (has.0, has.1, refl)
shut_call m inc k (Receives side.Remote t x buffer msg) live has = (has.0, has.1, subst (IsCurrentTake t) (ap (λ (x : Era). x.inc) live) has.2)
shut_call m inc k (EndsReceive side.Remote t x buffer msg) live has = (has.0, has.1, refl)
shut_call m inc k (EndsSend side.Host t x buffer) live has = (has.0, has.1, refl, subst (IsCurrent t) (ap (λ (x : Era). x.inc) live) has.3)
shut_call m inc k (EndsBoth side.Host t x buffer y) live has = (has.0, has.1, refl, has.3, has.4, has.5)
shut_call m inc k (EndsSend side.Remote t x buffer) live has = (has.0, has.1, refl, subst (IsCurrent t) (ap (λ (x : Era). x.inc) live) has.3)
shut_call m inc k (EndsBoth side.Remote t x buffer y) live has = (has.0, has.1, refl, has.3, has.4, has.5)
shut_call m inc k (Reopens p i a b) live has = absurd (true-false (sym (ap (λ (x : Era). x.is_live) live) ∙ has.2.0))
shut_call m inc k (Gathers a b) live has = has

shut_hands : {B : Type 0} {kc : Coded B} {kz : DeskTables} (m : LaneLink (RingState (PlacedDesk kc kz))) (inc : ℕ) (q : Pass) → HandsOf m q → HandsOf (record m { era = record { inc = inc; is_live = false } }) q
shut_hands m inc q has side.Host user = has side.Host user
shut_hands m inc q has side.Remote user = has side.Remote user

shut_shelved : {B : Type 0} {kc : Coded B} {kz : DeskTables} (m : LaneLink (RingState (PlacedDesk kc kz))) (inc : ℕ) (F : RingState (PlacedDesk kc kz) → End → Type 0) → ((e : End) → F (lane_to m e) e) → (e : End) → F (lane_to (record m { era = record { inc = inc; is_live = false } }) e) e
shut_shelved m inc F each side.Host = each side.Host
shut_shelved m inc F each side.Remote = each side.Remote

module _ {B : Type 0} {kc : Coded B} {kz : DeskTables} (cd : Coded (PlacedDesk kc kz)) (desk : DeskMeaning (PlacedDesk kc kz)) (z : LinkSizes) where
  -- a deed that changes nothing, whatever a reopening has reset
  pub stays_at : (st : State Slot View) (m : LaneLink (RingState (PlacedDesk kc kz))) (p : ℕ) → Shows cd desk z st m p → (i n id : ℕ) (cs : List (ℕ × Slot)) (v : View) (o : Mover v) (call : Call) (d : Deed) → get_elem? st.views id ≡ some v → n ≡ get_or st.words i 0
      → MayDo desk m d → m ≡ after_deed desk m d → IsCallOf m p o.pass.number call → SameMinds o.pass.call call → WordsRule cd desk z (stepped st i n id cs (with_pass v o (with_call o.pass call) (Some (copied cd m))) keeps)
  stays_at st m p r i n id cs v o call d at found may deed has minds =
      let w = with_call o.pass call in let u = with_pass v o w (Some (copied cd m)) in let each = each_set st.views id v u o w at refl in (
        m,
        p,
        put_together (ap (set st.words i) found ∙ (set-get_or st.words i 0 ∙ r.words_are))
            r.shelves r.homes_are
            (state_in r) (told_in r) (buffers_in r) (one_more desk m _ d r.reached may deed)
            (record {
              calls = each (HasCall m p) (HasCall m p) r.numbers.places r.turns.calls (λ j l q there apart had. had) has;
              keepers = keepers_set st.views id v u o w at refl refl (λ i k. minds.1 i ∙ k) r.turns.keepers;
              some_keeper = keepers_same st.views id v u o w at refl (turns_in m) (turns_in m) (no_turns m) minds r.turns.some_keeper;
              still = r.turns.still;
            })
            (record {
              own = each (HistoryOf m) (HistoryOf m) r.numbers.places r.histories.own (λ j l q there apart had. had) (r.histories.own id o.place o.pass (v, at, o.here));
              hands = each (HandsOf m) (HandsOf m) r.numbers.places r.histories.hands (λ j l q there apart had. had) (r.histories.hands id o.place o.pass (v, at, o.here));
              latest = each (LatestOf m) (LatestOf m) r.numbers.places r.histories.latest (λ j l q there apart had. had) (r.histories.latest id o.place o.pass (v, at, o.here));
            })
            (record {
              places = numbers_set st.views id v u o w at refl refl r.numbers.places;
              manager = manager_set st.views id v u o w at refl cd m m refl refl refl refl (λ old. old) (λ j y apart there manages. refl) (λ n none was not. was not) (λ n none Q was not. was not) (λ old. old) (λ j y apart there manages old. old) (λ k same _. sym (some_copy (copied cd m) k same)) (λ old. old) (λ j y apart there manages p has. has) r.numbers.manager;
              many = r.numbers.many;
              short = r.numbers.short;
            }),
      )

  -- the same, where the view stays too
  pub stays : (st : State Slot View) (m : LaneLink (RingState (PlacedDesk kc kz))) (p : ℕ) → Shows cd desk z st m p → (i n id : ℕ) (cs : List (ℕ × Slot)) (v : View) (d : Deed) → get_elem? st.views id ≡ some v → n ≡ get_or st.words i 0
      → MayDo desk m d → m ≡ after_deed desk m d → WordsRule cd desk z (stepped st i n id cs v keeps)
  stays st m p r i n id cs v d at found may deed = subst (λ (views : List View). WordsRule cd desk z (record { words = set st.words i n; homes = st.homes; views = views })) (sym (set_again st.views id v at)) (
    m,
    p,
    put_together (ap (set st.words i) found ∙ (set-get_or st.words i 0 ∙ r.words_are))
        r.shelves r.homes_are
        (state_in r) (told_in r) (buffers_in r) (one_more desk m _ d r.reached may deed)
        (record {
          calls = r.turns.calls;
          keepers = r.turns.keepers;
          some_keeper = r.turns.some_keeper;
          still = r.turns.still;
        })
        (record {
          own = r.histories.own;
          hands = r.histories.hands;
          latest = r.histories.latest;
        })
        (record {
          places = r.numbers.places;
          manager = r.numbers.manager;
          many = r.numbers.many;
          short = r.numbers.short;
        }),
  )

  -- the same, where the view knows whether the era is closed
  stays_knowing : (st : State Slot View) (m : LaneLink (RingState (PlacedDesk kc kz))) (p : ℕ) → Shows cd desk z st m p → (i n id : ℕ) (cs : List (ℕ × Slot)) (v : View) (o : Mover v) (b : Bool) (d : Deed) → get_elem? st.views id ≡ some v → n ≡ get_or st.words i 0
      → MayDo desk m d → m ≡ after_deed desk m d → (b ≡ true → m.era.is_live ≡ false) → WordsRule cd desk z (stepped st i n id cs (record v { copy = Some (copied cd m); is_closed = b }) keeps)
  stays_knowing st m p r i n id cs v o b d at found may deed shut =
      let u = record v { copy = Some (copied cd m); is_closed = b } in let again = sym (set_again v.passes o.place o.pass o.here) in let each = each_set st.views id v u o o.pass at again in (
        m,
        p,
        put_together (ap (set st.words i) found ∙ (set-get_or st.words i 0 ∙ r.words_are))
            r.shelves r.homes_are
            (state_in r) (told_in r) (buffers_in r) (one_more desk m _ d r.reached may deed)
            (record {
              calls = each (HasCall m p) (HasCall m p) r.numbers.places r.turns.calls (λ j l q there apart had. had) (r.turns.calls id o.place o.pass (v, at, o.here));
              keepers = keepers_set st.views id v u o o.pass at again refl (λ i k. k) r.turns.keepers;
              some_keeper = keepers_same st.views id v u o o.pass at again (turns_in m) (turns_in m) (no_turns m) ((λ i. refl), λ i. refl) r.turns.some_keeper;
              still = r.turns.still;
            })
            (record {
              own = each (HistoryOf m) (HistoryOf m) r.numbers.places r.histories.own (λ j l q there apart had. had) (r.histories.own id o.place o.pass (v, at, o.here));
              hands = each (HandsOf m) (HandsOf m) r.numbers.places r.histories.hands (λ j l q there apart had. had) (r.histories.hands id o.place o.pass (v, at, o.here));
              latest = each (LatestOf m) (LatestOf m) r.numbers.places r.histories.latest (λ j l q there apart had. had) (r.histories.latest id o.place o.pass (v, at, o.here));
            })
            (record {
              places = numbers_set st.views id v u o o.pass at again refl r.numbers.places;
              manager = manager_set st.views id v u o o.pass at again cd m m refl refl refl refl (λ old. old) (λ j y apart there manages. refl) (λ n none was not. was not) (λ n none Q was not. was not) (λ old. shut) (λ j y apart there manages old. old) (λ k same _. sym (some_copy (copied cd m) k same)) (λ old. old) (λ j y apart there manages p has. has) r.numbers.manager;
              many = r.numbers.many;
              short = r.numbers.short;
            }),
      )

  pub closes : (n id : ℕ) (me : SeatState) (o : Mover me.0) (inc old new : ℕ) → old ≡ era_word (record { inc = inc; is_live = true }) → new ≡ era_word (record { inc = inc; is_live = false })
      → Allows (WordsRule cd desk z) n id me 1 (λ y. either (eqb y old) new y) (λ y me'. ClosesEraBy inc me y me' × IsCloseOf cd desk inc y me me')
  closes n id me o inc old new is_old is_new st (m, p, r₀) wide at _ =
      let y : ℕ = get_or st.words 1 0 in let word : y ≡ era_word m.era = ap (λ (ws : List ℕ). get_or ws 1 0) r₀.words_are in
      exchanged y old new (λ f. (w : View) × (a : Act Slot) × Valid st.homes me.1 a × WordsRule cd desk z (stepped st 1 f id me.1 w a) × (ClosesEraBy inc me y (w, carried_after me.1 a) × IsCloseOf cd desk inc y me (w, carried_after me.1 a)))
      (λ hit.
      let era : m.era ≡ record { inc = inc; is_live = true } = era_of_word m.era (record { inc = inc; is_live = true }) (sym word ∙ (hit ∙ is_old)) in
      let r : Shows cd desk z st m 0 = ⊎_elim (λ (none_reset : p ≡ 0). subst (Shows cd desk z st m) none_reset r₀) (λ (still : IsStill m). absurd (true-false (ap (λ (x : Era). x.is_live) (sym era) ∙ still.0))) r₀.turns.still in
      let m' : LaneLink (RingState (PlacedDesk kc kz)) = record m { era = record { inc = inc; is_live = false } } in
      let deed : m' ≡ link_after_close m inc = sym (ap (λ (b : Bool). cond b m' m) (live_in m.era inc era)) in
      let u = record me.0 { copy = Some (copied cd m'); is_closed = is_closed_behind inc m.era } in let again = sym (set_again me.0.passes o.place o.pass o.here) in let each = each_set st.views id me.0 u o o.pass at again in (
        u,
        keeps,
        tt,
        (
          m',
          0,
          put_together (λ k. set (r.words_are k) 1 (is_new k))
              r.shelves r.homes_are
              (subst (IsSoundState desk) (sym deed) (deed_kept desk m (Closes inc) tt (state_in r))) (told_in r) (shut_shelved m inc (λ s e. HoldsBuffers s (shelf_to r.shelves e)) (buffers_in r)) (one_more desk m _ (Closes inc) r.reached tt deed)
              (record {
                calls = each (HasCall m 0) (HasCall m' 0) r.numbers.places r.turns.calls (λ j l q there apart. shut_call m inc q.number q.call era) (shut_call m inc o.pass.number o.pass.call era (r.turns.calls id o.place o.pass (me.0, at, o.here)));
                keepers = keepers_set st.views id me.0 u o o.pass at again refl (λ i k. k) r.turns.keepers;
                some_keeper = keepers_same st.views id me.0 u o o.pass at again (turns_in m) (turns_in m') (same_turns m (record { inc = inc; is_live = false }) m.callers) ((λ i. refl), λ i. refl) r.turns.some_keeper;
                still = inl refl;
              })
              (record {
                own = each (HistoryOf m) (HistoryOf m') r.numbers.places r.histories.own (λ j l q there apart. history_shut m inc q.number q.first q.own (ap (λ (x : Era). x.inc) era)) (history_shut m inc o.pass.number o.pass.first o.pass.own (ap (λ (x : Era). x.inc) era) (r.histories.own id o.place o.pass (me.0, at, o.here)));
                hands = each (HandsOf m) (HandsOf m') r.numbers.places r.histories.hands (λ j l q there apart. shut_hands m inc q) (shut_hands m inc o.pass (r.histories.hands id o.place o.pass (me.0, at, o.here)));
                latest = each (LatestOf m) (LatestOf m') r.numbers.places r.histories.latest (λ j l q there apart had. subst (λ (x : Era). IsOfNow x.inc q.number q.hands q.own) era had) (subst (λ (x : Era). IsOfNow x.inc o.pass.number o.pass.hands o.pass.own) era (r.histories.latest id o.place o.pass (me.0, at, o.here)));
              })
              (record {
                places = numbers_set st.views id me.0 u o o.pass at again refl r.numbers.places;
                manager = manager_set st.views id me.0 u o o.pass at again cd m m' refl refl refl refl (λ old. old ∙ ap (λ (x : Era). x.inc) era) (λ j y apart there manages. ap (λ (x : Era). x.inc) (sym era)) (λ n none was not. none_shut m inc n (was not)) (λ n none Q was not. none_shut m inc n (was not)) (λ old _. refl) (λ j y apart there manages old. refl) (λ k same _. sym (some_copy (copied cd m') k same)) (λ old i p has. ended_by desk m m' (Closes inc) deed (λ _. refl) p (old i p has)) (λ j y apart there manages. ended_by desk m m' (Closes inc) deed (λ _. refl)) r.numbers.manager;
                many = r.numbers.many;
                short = subst (λ (x : Era). x.inc < 4294967296) era r.numbers.short;
              }),
        ),
        ((m.era, word, r.numbers.short, refl, λ manages. sym (r.numbers.manager id me.0 at manages).inc), record { state = m; sound = state_in r; found = word; copy = λ k manages none was. ((r.numbers.manager id me.0 at manages).copy k was none, ap (λ (x : LaneLink (RingState (PlacedDesk kc kz))). Some (copied cd x)) deed) }),
      ))
      (λ miss.
      let never : m.era.inc ≡ inc → m.era.is_live ≡ true → ⊥ = λ same live. miss (word ∙ ((λ k. era_word (record { inc = same k; is_live = live k })) ∙ sym is_old)) in
      let other : is_live_in m.era inc ≡ false = not_live_in inc m.era.inc m.era.is_live never in
      let same : m ≡ link_after_close m inc = sym (ap (λ (b : Bool). cond b (record m { era = record { inc = inc; is_live = false } }) m) other) in (
        record me.0 { copy = Some (copied cd m); is_closed = is_closed_behind inc m.era },
        keeps,
        tt,
        stays_knowing st m p r₀ 1 y id me.1 me.0 o (is_closed_behind inc m.era) (Closes inc) at refl tt same (shut_behind inc m.era.inc m.era.is_live never),
        ((m.era, word, r₀.numbers.short, refl, λ manages. sym (r₀.numbers.manager id me.0 at manages).inc), record { state = m; sound = state_in r₀; found = word; copy = λ k manages none was. ((r₀.numbers.manager id me.0 at manages).copy k was none, ap (λ (x : LaneLink (RingState (PlacedDesk kc kz))). Some (copied cd x)) same) }),
      ))
