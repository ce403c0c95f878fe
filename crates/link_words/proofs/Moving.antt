-- Passes that go out and come back, are made and end.
use Rattle.link_words.specs.declared.codes.DeskTables.{DeskTables}
use Rattle.link_words.specs.PlacedDesks.{PlacedDesk}
use Rattle.std.proofs.Common.{Bool, true, false, cond, eqb, eq-eqb, inl, inr}
use Rattle.link_words.specs.Passes.{is_listed, first_incarnation, HasNumber}
use Rattle.link_words.specs.Histories.{NoneOf, entries_by, takes_by}
use Rattle.link_words.proofs.Seen.{nothing_within}
use Rattle.link_words.proofs.Books.{none_with}
use Rattle.std.proofs.Common.{◌≡◌, ◌≢◌, ◌⊎◌, ℕ, ◌+◌, ◌-◌, ◌<◌, ◌≤◌, true, false, List, [], ◌∷◌, ◌++◌, length, set, sym, ap, ◌∙◌, subst, ⊎_elim, inl, inr, arith, suc-ne-zero, length-set}
use Rattle.std.specs.Prelude.{Option, Some, None, slice_set}
use mathlib.Core.Option.{some, some-ne-none}
use mathlib.Core.Path.{Path}
use lib.ListN.{get_elem?}
use lib.Seq.{set-get_or}
use Rattle.atomic_table.specs.Table.{State, keeps, Splits, Joins, Allows}
use Rattle.atomic_table.proofs.Lists.{at_set, set_else}
use Rattle.atomic_table.proofs.Lists.{at_longer}
use Rattle.link_words.specs.declared.copies.LinkCopy.{LinkCopy}
use Rattle.link_words.specs.Passes.{only_new}
use Rattle.link_words.specs.Steps.{IsMakingOf}
use mathlib.Core.Option.{some-injective}
use Rattle.std.proofs.Common.{zero, suc, ◌-◌, refl}
use Rattle.std.specs.Prelude.{None}
use Rattle.rp_base.specs.declared.kinds.End.{End}
use Rattle.rp_base.specs.declared.kinds.End.TheVariants as side
use Rattle.lane_model.specs.declared.lane_links.LaneLink.{LaneLink}
use base.Stored.{Coded}
use Rattle.lane_model.specs.Desks.{DeskMeaning}
use Rattle.lane_model.specs.Links.{end_of, free_number, with_caller}
use Rattle.ring_core.specs.declared.states.RingState.{RingState}
use Rattle.link_words.specs.declared.rule.Slot.{Slot}
use Rattle.link_words.specs.declared.rule.LinkSizes.{LinkSizes}
use Rattle.link_words.specs.declared.rule.Call.TheVariants.{Rests}
use Rattle.link_words.specs.declared.rule.Pass.{Pass}
use Rattle.link_words.specs.declared.rule.View.{View}
use Rattle.link_words.specs.Words.{other, lane_to, shelf_to}
use Rattle.link_words.specs.Passes.{PassAt, EachPass, Manages, last_pass_only, numbers_of, without_last, only_last, with_passes_from, spent_view, new_pass, with_caller_as, with_new_caller}
use Rattle.link_words.specs.Deeds.{Deed, Enlists, after_deed, MayDo, IsStill, IsSoundState}
use Rattle.link_words.specs.Rule.{HasCall, IsCallOf, HistoryOf, HandsOf, Shows, WordsRule, LatestOf}
use Rattle.link_words.specs.Parts.{has_for_manager, AreNumbersApart, AreKeepersApart, Knows, ManagerKnows, HoldsBuffers}
use Rattle.link_words.specs.Calls.{SeatState}
use Rattle.link_words.specs.Codes.{copied}
use Rattle.link_words.proofs.Frames.{some_copy}
use Rattle.link_words.proofs.Kept.{deed_kept}
use Rattle.link_words.proofs.Quiet.{ended_with}
use Rattle.link_words.proofs.Keepers.{Onto, keepers_onto, keepers_turns, onto_joined, onto_longer, onto_split, same_turns}
use Rattle.link_words.specs.Turns.{turns_in}
use Rattle.link_words.proofs.Froms.{Spot, From, each_from, numbers_from, keepers_from, one_manager, one_goes, split_from, joined, join_from, last_at, at_new, stands_left, stands_right, numbers_at}
use Rattle.link_words.proofs.Users.{free_is, end_here, end_else, call_with, history_with, hands_with, unused_turn, unused_hands, in_use}
use Rattle.link_words.proofs.Parts.{state_in, told_in, buffers_in, put_together, one_more}

-- the same table with other views
abbrev pub with_views : State Slot View → List View → State Slot View
with_views s views = record { words = s.words; homes = s.homes; views = views }

bool_apart : false ≡ true → ⊥
bool_apart e = absurd (cc)

not_listed : (n : ℕ) (xs : List ℕ) → is_listed n xs ≡ false → HasNumber xs n → ⊥
not_listed n [] is (k, e) = some-ne-none n (sym e)
not_listed n (x ∷ xs) is (k, e) = go (eqb x n) refl is k e (not_listed n xs)
  where
    go : (b : Bool) → eqb x n ≡ b → cond b true (is_listed n xs) ≡ false → (k : ℕ) → get_elem? (x ∷ xs) k ≡ some n → (is_listed n xs ≡ false → HasNumber xs n → ⊥) → ⊥
    go true same never k e rec = absurd (cc)
    go false apart is zero e rec = absurd (bool_apart (sym apart ∙ eq-eqb x n (some-injective x n e)))
    go false apart is (suc k) e rec = rec is (k, e)

no_tail : (l m : List ℕ) → l ++ m ≡ [] → m ≡ []
no_tail [] m e = e
no_tail (x ∷ xs) m e = absurd (suc-ne-zero (length (xs ++ m)) (ap length e))

-- the link with a caller more
abbrev pub made_link : {B : Type 0} {kc : Coded B} {kz : DeskTables} → LaneLink (RingState (PlacedDesk kc kz)) → End → ℕ → LaneLink (RingState (PlacedDesk kc kz))
made_link m e n = record m { callers = slice_set m.callers n (Some e) }

module _ {B : Type 0} {kc : Coded B} {kz : DeskTables} (cd : Coded (PlacedDesk kc kz)) (desk : DeskMeaning (PlacedDesk kc kz)) (z : LinkSizes) where
  -- passes go to other places, and nothing else changes
  pub rebuilt : (st : State Slot View) (m : LaneLink (RingState (PlacedDesk kc kz))) (p : ℕ) (r : Shows cd desk z st m p) (views : List View) (went : Spot → Spot) → From st.views views went → Onto st.views views → ManagerKnows cd m views → WordsRule cd desk z (with_views st views)
  rebuilt st m p r views went from onto manager = (
    m,
    p,
    put_together r.words_are
        r.shelves r.homes_are
        (state_in r) (told_in r) (buffers_in r) r.reached
        (record {
          calls = each_from st.views views went from (HasCall m p) (HasCall m p) r.turns.calls (λ j l q at has. has);
          keepers = keepers_from st.views views went from r.turns.keepers;
          some_keeper = keepers_onto (turns_in m) st.views views onto r.turns.some_keeper;
          still = r.turns.still;
        })
        (record {
          own = each_from st.views views went from (HistoryOf m) (HistoryOf m) r.histories.own (λ j l q at has. has);
          hands = each_from st.views views went from (HandsOf m) (HandsOf m) r.histories.hands (λ j l q at has. has);
          latest = each_from st.views views went from (LatestOf m) (LatestOf m) r.histories.latest (λ j l q at has. has);
        })
        (record {
          places = numbers_from st.views views went from r.numbers.places;
          manager = manager;
          many = r.numbers.many;
          short = r.numbers.short;
        }),
  )

  -- the manager's last pass goes out
  pub splits : (id : ℕ) (v : View) → Manages v → ((p : Pass) → get_elem? v.passes (length v.passes - 1) ≡ some p → p.number ≢ 64) → Splits (WordsRule cd desk z) id v (without_last v) (only_last v)
  splits id v manages not_own st (m, p, r) at =
      let left = set st.views id (without_last v) in let known = r.numbers.manager id v at manages in
      rebuilt st m p r (left ++ only_last v ∷ []) (one_goes (id, length v.passes - 1) (length left, 0)) (split_from st.views id v at) (onto_split st.views id v at) (λ i y ey manages_y. ⊎_elim
      (λ (was : get_elem? left i ≡ some y). ⊎_elim
      (λ (x : (i ≡ id) × (without_last v ≡ y)). subst (λ (u : View). Knows cd m (left ++ only_last v ∷ []) i u) x.1 (record {
        users = known.users;
        inc = known.inc;
        unused = known.unused;
        ended = known.ended;
        closed = known.closed;
        out = λ j l q there apart. ⊎_elim
            (λ (w : get_elem? left j ≡ some there.0). ⊎_elim
            (λ (b : (j ≡ id) × (without_last v ≡ there.0)). absurd (apart (b.0 ∙ sym x.0)))
            (λ (b : (j ≢ id) × (get_elem? st.views j ≡ some there.0)). stands_right (numbers_of (last_pass_only v.passes)) v.out q.number (known.out j l q (there.0, b.1, there.2) b.0))
            (at_set st.views id j (without_last v) there.0 w))
            (λ (new : (j ≡ length left) × (only_last v ≡ there.0)). stands_left (numbers_of (last_pass_only v.passes)) v.out q.number (numbers_at (last_pass_only v.passes) l q (subst (λ (u : View). get_elem? u.passes l ≡ some q) (sym new.1) there.2)))
            (at_new left (only_last v) there.0 j there.1);
        copy = λ k same none_out. known.copy k same (no_tail (numbers_of (last_pass_only v.passes)) v.out none_out);
      }))
      (λ (x : (i ≢ id) × (get_elem? st.views i ≡ some y)). absurd (x.0 (one_manager st.views r.numbers.places i id y v x.1 manages_y at manages)))
      (at_set st.views id i (without_last v) y was))
      (λ (new : (i ≡ length left) × (only_last v ≡ y)).
      let own = subst Manages (sym new.1) manages_y in absurd (not_own own.1 (last_at v.passes own.0 own.1 own.2).1 own.3))
      (at_new left (only_last v) y i ey))

  -- the passes of another seat come to the manager's
  pub joins : (id other : ℕ) (v w : View) → Manages v → Joins (WordsRule cd desk z) id v other w (with_passes_from v w) spent_view
  joins id other v w manages st (m, p, r) at apart seen =
      let known = r.numbers.manager id v at manages in let there : get_elem? st.views other ≡ some w = sym (set_else st.views id other (with_passes_from v w) apart) ∙ seen in
      let after = set (set st.views id (with_passes_from v w)) other spent_view in
      rebuilt st m p r after (joined id (length v.passes) other) (join_from st.views id other v w at apart there) (onto_joined st.views id v at other w apart there) (λ i y ey manages_y. ⊎_elim
      (λ (x : (i ≡ other) × (spent_view ≡ y)). let none_there = subst Manages (sym x.1) manages_y in absurd (some-ne-none none_there.1 (sym none_there.2)))
      (λ (x : (i ≢ other) × (get_elem? (set st.views id (with_passes_from v w)) i ≡ some y)). ⊎_elim
      (λ (b : (i ≡ id) × (with_passes_from v w ≡ y)). subst (λ (u : View). Knows cd m after i u) b.1 (record {
        users = known.users;
        inc = known.inc;
        unused = known.unused;
        ended = known.ended;
        closed = known.closed;
        out = λ j l q here away. ⊎_elim
            (λ (e : (j ≡ other) × (spent_view ≡ here.0)). absurd (some-ne-none q (sym (subst (λ (u : View). get_elem? u.passes l ≡ some q) (sym e.1) here.2))))
            (λ (e : (j ≢ other) × (get_elem? (set st.views id (with_passes_from v w)) j ≡ some here.0)). ⊎_elim
            (λ (f : (j ≡ id) × (with_passes_from v w ≡ here.0)). absurd (away (f.0 ∙ sym b.0)))
            (λ (f : (j ≢ id) × (get_elem? st.views j ≡ some here.0)). known.out j l q (here.0, f.1, here.2) f.0)
            (at_set st.views id j (with_passes_from v w) here.0 e.1))
            (at_set (set st.views id (with_passes_from v w)) other j spent_view here.0 here.1);
        copy = known.copy;
      }))
      (λ (b : (i ≢ id) × (get_elem? st.views i ≡ some y)). absurd (b.0 (one_manager st.views r.numbers.places i id y v b.1 manages_y at manages)))
      (at_set st.views id i (with_passes_from v w) y x.1))
      (at_set (set st.views id (with_passes_from v w)) other i spent_view y ey))

  -- the callers are others, and the parts over views hold of the new views
  pub recast : (st : State Slot View) (m : LaneLink (RingState (PlacedDesk kc kz))) (p : ℕ) (r : Shows cd desk z st m p) (cs : List (Option End)) (d : Deed) (views : List View) → MayDo desk m d → record m { callers = cs } ≡ after_deed desk m d → length cs ≡ 64
      → EachPass (HasCall (record m { callers = cs }) p) views → EachPass (HistoryOf (record m { callers = cs })) views → EachPass (HandsOf (record m { callers = cs })) views → EachPass (LatestOf m) views → AreNumbersApart views → AreKeepersApart views → Onto st.views views → ManagerKnows cd (record m { callers = cs }) views
      → WordsRule cd desk z (with_views st views)
  recast st m p r cs d views may deed many calls histories hands latest numbers keepers onto manager = (
    record m { callers = cs },
    p,
    put_together r.words_are
        r.shelves r.homes_are
        (subst (IsSoundState desk) (sym deed) (deed_kept desk m d may (state_in r))) (told_in r) shelf (one_more desk m _ d r.reached may deed)
        (record {
          calls = calls;
          keepers = keepers;
          some_keeper = keepers_turns (turns_in m) (turns_in (record m { callers = cs })) views (same_turns m m.era cs) (keepers_onto (turns_in m) st.views views onto r.turns.some_keeper);
          still = ⊎_elim (λ (x : p ≡ 0). inl x) (λ (x : IsStill m). inr (x.0, record { host_sender = x.1.host_sender; host_receiver = x.1.host_receiver; remote_sender = x.1.remote_sender; remote_receiver = x.1.remote_receiver })) r.turns.still;
        })
        (record {
          own = histories;
          hands = hands;
          latest = latest;
        })
        (record {
          places = numbers;
          manager = manager;
          many = many;
          short = r.numbers.short;
        }),
  )
    where
      shelf : (e : End) → HoldsBuffers (lane_to (record m { callers = cs }) e) (shelf_to r.shelves e)
      shelf side.Host = (buffers_in r) side.Host
      shelf side.Remote = (buffers_in r) side.Remote

  rests_new : (m : LaneLink (RingState (PlacedDesk kc kz))) (p : ℕ) (k : IsSoundState desk m) (e : End) (n : ℕ) → end_of m.callers n ≡ None → n < length m.callers → IsCallOf (record m { callers = slice_set m.callers n (Some e) }) p n (Rests e)
  rests_new m p k side.Host n unused low = (end_here m.callers n (Some side.Host) low, unused_turn m.callers side.Host m.to_remote.lane.sender n unused k.sound.to_remote.sender, unused_turn m.callers side.Host m.to_host.lane.receiver n unused k.sound.to_host.receiver)
  rests_new m p k side.Remote n unused low = (end_here m.callers n (Some side.Remote) low, unused_turn m.callers side.Remote m.to_host.lane.sender n unused k.sound.to_host.sender, unused_turn m.callers side.Remote m.to_remote.lane.receiver n unused k.sound.to_remote.receiver)

  history_next : (m : LaneLink (RingState (PlacedDesk kc kz))) (cs : List (Option End)) (e : End) (n first : ℕ) → first ≡ m.era.inc + 1 → HistoryOf (record m { callers = cs }) (new_pass e n first)
  history_next m cs e n first is = record { sent = λ i since. let s : first ≤ m.era.inc = since in absurd (omega (arith, s, is)); taken = λ i since. let s : first ≤ m.era.inc = since in absurd (omega (arith, s, is)); read = λ i. tt; none_later = tt; counts = λ i. nothing_within _ }

  history_now : (m : LaneLink (RingState (PlacedDesk kc kz))) (cs : List (Option End)) (e : End) (n first : ℕ) → NoneOf m n → HistoryOf (record m { callers = cs }) (new_pass e n first)
  history_now m cs e n first none = record { sent = λ i since. sent i; taken = λ i since. taken i; read = λ i. tt; none_later = tt; counts = λ i. nothing_within _ }
    where
      sent : (i : End) → entries_by n 0 (lane_to (record m { callers = cs }) i).lane.lane.accepted ≡ []
      sent side.Host = (none side.Host).0
      sent side.Remote = (none side.Remote).0

      taken : (i : End) → takes_by n 0 (lane_to (record m { callers = cs }) i).lane.lane.takers ≡ []
      taken side.Host = (none side.Host).1
      taken side.Remote = (none side.Remote).1

  -- a history of nothing, from this incarnation on or from the next
  history_new : (m : LaneLink (RingState (PlacedDesk kc kz))) (cs : List (Option End)) (e : End) (n : ℕ) (v : View) → v.inc ≡ m.era.inc → ((HasNumber v.reclaims n → ⊥) → NoneOf m n) → HistoryOf (record m { callers = cs }) (new_pass e n (first_incarnation n v))
  history_new m cs e n v inc none = go (is_listed n v.reclaims) refl
    where
      go : (b : Bool) → is_listed n v.reclaims ≡ b → HistoryOf (record m { callers = cs }) (new_pass e n (cond b (v.inc + 1) v.inc))
      go true is = history_next m cs e n (v.inc + 1) (ap (λ (i : ℕ). i + 1) inc)
      go false is = history_now m cs e n v.inc (none (not_listed n v.reclaims is))

  hands_new : (m : LaneLink (RingState (PlacedDesk kc kz))) (cs : List (Option End)) (k : IsSoundState desk m) (e : End) (n first : ℕ) → end_of m.callers n ≡ None → HandsOf (record m { callers = cs }) (new_pass e n first)
  hands_new m cs k e n first unused side.Host user = unused_hands m.callers side.Host n m.to_host.lane.lane.held unused k.sound.to_host.users
  hands_new m cs k e n first unused side.Remote user = unused_hands m.callers side.Remote n m.to_remote.lane.lane.held unused k.sound.to_remote.users

  no_end : (e : End) → Path (Option End) None (Some e) → ⊥
  no_end e same = absurd (cc)

  -- one pass more in the manager's view, of a caller that is made
  pub enlists : (st : State Slot View) (m : LaneLink (RingState (PlacedDesk kc kz))) (p : ℕ) (r : Shows cd desk z st m p) (id : ℕ) (v : View) (e : End) (n : ℕ) → get_elem? st.views id ≡ some v → Manages v → free_number v.users ≡ Some n → (k : Option LinkCopy) → ((c : LinkCopy) → k ≡ Some c → c ≡ copied cd (made_link m e n))
      → WordsRule cd desk z (with_views st (set st.views id (with_new_caller e v k)))
  enlists st m p r id v e n at manages number k' right =
      let first = first_incarnation n v in let known = r.numbers.manager id v at manages in let free : free_number m.callers ≡ Some n = ap free_number (sym known.users) ∙ number in let f = free_is m.callers n free in
      let new = new_pass e n first in let u = with_caller_as e v k' (Some n) in let cs = slice_set m.callers n (Some e) in let many = r.numbers.many in let views = set st.views id u in
      let apart : (j l : ℕ) (q : Pass) → PassAt st.views j l q → n ≢ q.number = λ j l q there same. ⊎_elim
      (λ (is : q.number ≡ 64). let low = f.1 in omega (arith, low, many, same, is))
      (λ (user : (i : End) × (end_of m.callers q.number ≡ Some i)). no_end user.0 (sym f.0 ∙ (ap (end_of m.callers) same ∙ user.1)))
      (in_use m p q.number q.call (r.turns.calls j l q there)) in
      let after : (j l : ℕ) (q : Pass) → PassAt views j l q → PassAt st.views j l q ⊎ ((j ≡ id) × (l ≡ length v.passes) × (new ≡ q)) = λ j l q there. ⊎_elim
      (λ (x : (j ≡ id) × (u ≡ there.0)). ⊎_elim
      (λ (old : get_elem? v.passes l ≡ some q). inl (v, ap (get_elem? st.views) x.0 ∙ at, old))
      (λ (y : (l ≡ length v.passes) × (new ≡ q)). inr (x.0, y.0, y.1))
      (at_new v.passes new q l (subst (λ (b : View). get_elem? b.passes l ≡ some q) (sym x.1) there.2)))
      (λ (x : (j ≢ id) × (get_elem? st.views j ≡ some there.0)). inl (there.0, x.1, there.2))
      (at_set st.views id j u there.0 there.1) in
      let each : (F G : Pass → Type 0) → EachPass F st.views → ((q : Pass) → n ≢ q.number → F q → G q) → G new → EachPass G views = λ F G old others mine j l q there. ⊎_elim
      (λ (x : PassAt st.views j l q). others q (apart j l q x) (old j l q x))
      (λ (x : (j ≡ id) × (l ≡ length v.passes) × (new ≡ q)). subst G x.2 mine)
      (after j l q there) in
      let m' : LaneLink (RingState (PlacedDesk kc kz)) = record m { callers = cs } in
      subst (λ (o : Option ℕ). WordsRule cd desk z (with_views st (set st.views id (with_caller_as e v k' o)))) (sym number)
      (recast st m p r cs (Enlists e) views tt (ap (λ (o : Option ℕ). record m { callers = with_caller m.callers e o }) (sym free)) (length-set m.callers n (Some e) ∙ many)
      (each (HasCall m p) (HasCall m' p) r.turns.calls (λ q ne has. call_with m cs p q.number q.call (end_else m.callers n q.number (Some e) ne) has) (rests_new m p (state_in r) e n f.0 f.1))
      (each (HistoryOf m) (HistoryOf m') r.histories.own (λ q ne has. history_with m cs q has) (history_new m cs e n v known.inc (known.unused n f.0)))
      (each (HandsOf m) (HandsOf m') r.histories.hands (λ q ne has. hands_with m cs q (end_else m.callers n q.number (Some e) ne) has) (hands_new m cs (state_in r) e n first f.0))
      (each (LatestOf m) (LatestOf m) r.histories.latest (λ q ne has. has) (inr (inl refl)))
      (λ i k j l a b ea eb same. ⊎_elim
      (λ (x : PassAt st.views i k a). ⊎_elim (λ (y : PassAt st.views j l b). r.numbers.places i k j l a b x y same)
      (λ (y : (j ≡ id) × (l ≡ length v.passes) × (new ≡ b)). absurd (apart i k a x (ap (λ (c : Pass). c.number) y.2 ∙ sym same))) (after j l b eb))
      (λ (x : (i ≡ id) × (k ≡ length v.passes) × (new ≡ a)). ⊎_elim (λ (y : PassAt st.views j l b). absurd (apart j l b y (ap (λ (c : Pass). c.number) x.2 ∙ same)))
      (λ (y : (j ≡ id) × (l ≡ length v.passes) × (new ≡ b)). (x.0 ∙ sym y.0, x.1 ∙ sym y.1)) (after j l b eb))
      (after i k a ea))
      (λ i j k l h a b ea eb ka kb. ⊎_elim
      (λ (x : PassAt st.views j k a). ⊎_elim (λ (y : PassAt st.views l h b). r.turns.keepers i j k l h a b x y ka kb)
      (λ (y : (l ≡ id) × (h ≡ length v.passes) × (new ≡ b)). absurd (not_minding i (ap (λ (c : Pass). has_for_manager i c.call) y.2 ∙ kb))) (after l h b eb))
      (λ (x : (j ≡ id) × (k ≡ length v.passes) × (new ≡ a)). absurd (not_minding i (ap (λ (c : Pass). has_for_manager i c.call) x.2 ∙ ka)))
      (after j k a ea))
      (onto_longer st.views id v at u new refl)
      (λ i y ey manages_y. ⊎_elim
      (λ (x : (i ≡ id) × (u ≡ y)). subst (λ (b : View). Knows cd m' views i b) x.1 (record {
        users = ap (λ (us : List (Option End)). slice_set us n (Some e)) known.users;
        inc = known.inc;
        unused = λ i none not. none_with m cs i (known.unused i (sym (end_else m.callers n i (Some e) (λ same. no_end e (sym none ∙ (ap (end_of cs) (sym same) ∙ end_here m.callers n (Some e) f.1)))) ∙ none) not);
        ended = λ j q has. ended_with m cs q (known.ended j q has);
        closed = known.closed;
        out = λ j l q there away. ⊎_elim (λ (old : PassAt st.views j l q). known.out j l q old (λ same. away (same ∙ sym x.0)))
            (λ (b : (j ≡ id) × (l ≡ length v.passes) × (new ≡ q)). absurd (away (b.0 ∙ sym x.0))) (after j l q there);
        copy = λ c same _. right c same;
      }))
      (λ (x : (i ≢ id) × (get_elem? st.views i ≡ some y)). absurd (x.0 (one_manager st.views r.numbers.places i id y v x.1 manages_y at manages)))
      (at_set st.views id i u y ey)))
    where
      not_minding : (i : End) → false ≡ true → ⊥
      not_minding i never = absurd (cc)

  -- the step that it is
  making : (st : State Slot View) (m : LaneLink (RingState (PlacedDesk kc kz))) (p : ℕ) (r : Shows cd desk z st m p) (id : ℕ) (me : SeatState) (e : End) (n : ℕ) → get_elem? st.views id ≡ some me.0 → Manages me.0 → free_number me.0.users ≡ Some n → IsMakingOf cd desk e me (with_new_caller e me.0 (Some (copied cd (made_link m e n))), me.1)
  making st m p r id me e n at manages number =
      let known = r.numbers.manager id me.0 at manages in let free : (k : ℕ) → free_number me.0.users ≡ Some k → free_number m.callers ≡ Some k = λ k is. ap free_number (sym known.users) ∙ is in
      let picked = Some (copied cd (made_link m e n)) in record {
        state = m;
        sound = state_in r;
        may = tt;
        users = known.users;
        after = λ k is. let f = free_is m.callers k (free k is) in subst (λ (o : Option ℕ). IsCallOf (record m { callers = with_caller m.callers e o }) 0 k (Rests e)) (sym (free k is)) (rests_new m 0 (state_in r) e k f.0 f.1);
        copy = λ c none_out was. (
          known.copy c was none_out,
          ap (λ (o : Option ℕ). (with_caller_as e me.0 picked o).copy) number ∙ ap (λ (o : Option ℕ). Some (copied cd (record m { callers = with_caller m.callers e o }))) (sym (free n number)),
        );
      }

  -- the idle word is loaded, and a caller is made on this end
  pub enlists_caller : (slots id : ℕ) (me : SeatState) (e : End) (n : ℕ) → Manages me.0 → free_number me.0.users ≡ Some n → Allows (WordsRule cd desk z) slots id me 0 (λ y. y) (λ y me'. (me' ≡ (with_new_caller e me.0 me'.0.copy, me.1)) × IsMakingOf cd desk e me me')
  enlists_caller slots id me e n manages number st (m, p, r) wide at _ =
      let k = Some (copied cd (made_link m e n)) in (
        with_new_caller e me.0 k,
        keeps,
        tt,
        subst (λ (ws : List ℕ). WordsRule cd desk z (record { words = ws; homes = st.homes; views = set st.views id (with_new_caller e me.0 k) })) (sym (set-get_or st.words 0 0))
            (enlists st m p r id me.0 e n at manages number k (λ c same. sym (some_copy (copied cd (made_link m e n)) c same))),
        (
          (λ i. (with_new_caller e me.0 (sym (ap (λ (o : Option ℕ). (with_caller_as e me.0 k o).copy) number) i), me.1)),
          making st m p r id me e n at manages number,
        ),
      )

  -- the manager's last pass is not its own, where one was made
  not_own : (ps : List Pass) (q p : Pass) → get_elem? (ps ++ q ∷ []) (length (ps ++ q ∷ []) - 1) ≡ some p → q ≡ p
  not_own [] q p e = some-injective q p e
  not_own (x ∷ []) q p e = some-injective q p e
  not_own (x ∷ y ∷ ps) q p e = not_own (y ∷ ps) q p (ap (get_elem? (x ∷ y ∷ (ps ++ q ∷ []))) (let k : suc (length (y ∷ (ps ++ q ∷ [])) - 1) ≡ length (x ∷ y ∷ (ps ++ q ∷ [])) - 1 = omega arith in k) ∙ e)

  -- the last pass of the view is the new caller's
  pub new_last : (v : View) (e : End) (n : ℕ) (k : Option LinkCopy) → free_number v.users ≡ Some n → n < 64 → (q : Pass) → get_elem? (with_new_caller e v k).passes (length (with_new_caller e v k).passes - 1) ≡ some q → q.number ≢ 64
  new_last v e n k number low q last same =
      let is = ap (λ (o : Option ℕ). (with_caller_as e v k o).passes) number in
      let which = not_own v.passes (new_pass e n (first_incarnation n v)) q (ap (λ (ps : List Pass). get_elem? ps (length ps - 1)) (sym is) ∙ last) in let num : n ≡ q.number = ap (λ (x : Pass). x.number) which in omega (arith, low, num, same)

pub still_manages : (v : View) (e : End) (k : Option LinkCopy) → Manages v → Manages (with_new_caller e v k)
still_manages v e k manages = go (free_number v.users)
  where
    go : (o : Option ℕ) → Manages (with_caller_as e v k o)
    go None = manages
    go (Some n) = (manages.0, manages.1, at_longer v.passes (new_pass e n (first_incarnation n v) ∷ []) manages.0 manages.1 manages.2, manages.3)

-- the new caller's seat knows nothing of a copy
pub only_any : (v : View) (e : End) (k : Option LinkCopy) → only_last (with_new_caller e v k) ≡ only_new e v
only_any v e k = go (free_number v.users)
  where
    go : (o : Option ℕ) → only_last (with_caller_as e v k o) ≡ only_last (with_caller_as e v None o)
    go None = refl
    go (Some n) = refl

-- a making speaks of the copy alone
pub making_same : {B : Type 0} {kc : Coded B} {kz : DeskTables} (cd : Coded (PlacedDesk kc kz)) (desk : DeskMeaning (PlacedDesk kc kz)) (e : End) (me me' me'' : SeatState) → me''.0.copy ≡ me'.0.copy → IsMakingOf cd desk e me me' → IsMakingOf cd desk e me me''
making_same cd desk e me me' me'' same s = record {
  state = s.state;
  sound = s.sound;
  may = s.may;
  users = s.users;
  after = s.after;
  copy = λ k none_out was. let c = s.copy k none_out was in (c.0, same ∙ c.1);
}
