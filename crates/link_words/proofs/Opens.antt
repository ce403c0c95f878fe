-- A reopening: words reset one by one, which are no steps of the ring form, and then its one step.
use Rattle.link_words.proofs.Users.{nothing_latest}
use Rattle.link_words.specs.declared.codes.DeskTables.{DeskTables}
use Rattle.link_words.specs.PlacedDesks.{PlacedDesk, right_to}
use Rattle.std.proofs.Common.{◌≡◌, ◌≢◌, ℕ, zero, suc, ◌+◌, ◌<◌, ◌≤◌, Bool, true, false, List, [], ◌∷◌, ◌++◌, map, length, get_or, set, refl, sym, ap, ◌∙◌, subst, inl, inr, arith, length-append}
use Rattle.std.proofs.lemmas.List.{length-map}
use Rattle.std.specs.Prelude.{Option, Some}
use mathlib.Core.Option.{some, some-injective, some-ne-none}
use mathlib.Core.Option.{Option as Option_of}
use lib.ListN.{get_elem?}
use Rattle.atomic_table.specs.Table.{Act, keeps, stepped, Valid, carried_after, Allows}
use Rattle.rp_base.specs.declared.kinds.End.{End}
use Rattle.rp_base.specs.declared.kinds.End.TheVariants as side
use Rattle.lane_model.specs.declared.lane_links.LaneLink.{LaneLink}
use Rattle.lane_model.specs.declared.stages.Turn.{Turn}
use Rattle.lane_model.specs.declared.stages.Turn.TheVariants as turn
use base.Stored.{Coded}
use Rattle.lane_model.specs.Desks.{DeskMeaning}
use Rattle.lane_model.specs.Lanes.{holder, has_call}
use Rattle.lane_model.specs.Links.{end_of}
use Rattle.lane_model.specs.Recoveries.{link_after_reopen}
use Rattle.ring_core.specs.declared.states.RingState.{RingState}
use Rattle.ring_core.specs.RingSteps.{ring_form, holding_of}
use Rattle.ring_core.specs.Owners.{sender_is_out, receiver_is_out}
use Rattle.lane_laws.proofs.RingLinks.{reopen_kept}
use Rattle.link_words.specs.declared.rule.Slot.{Slot}
use Rattle.link_words.specs.declared.rule.Slot.TheVariants.{Sender, Receiver}
use Rattle.link_words.specs.declared.rule.ReceiverSide.{ReceiverSide}
use Rattle.link_words.specs.declared.rule.SenderSide.{SenderSide}
use Rattle.link_words.specs.declared.rule.LaneSides.{LaneSides}
use Rattle.link_words.specs.Turns.{turns_in, turns_of}
use Rattle.link_words.specs.declared.rule.LinkSizes.{LinkSizes}
use Rattle.link_words.specs.declared.rule.Call.{Call}
use Rattle.link_words.specs.declared.rule.Call.TheVariants.{Idle, Sends, Rests, Reclaims, EndsHeld, Receives, EndsReceive, EndsSend, EndsBoth, Reopens, Gathers}
use Rattle.link_words.specs.declared.rule.Pass.{Pass}
use Rattle.link_words.specs.declared.rule.View.{View}
use Rattle.link_words.specs.declared.codes.DeskRight.{DeskRight}
use Rattle.link_words.specs.Words.{lane_to, era_word, turn_word, entry_word, LaneWords, lane_words, entry_words_before, reset_block, reset_first, home_if, homes_of, Shelves, shelf_to, sender_side, receiver_side}
use Rattle.link_words.specs.Fresh.{fresh_lane, fresh_of, opened_sender, opened_receiver}
use Rattle.link_words.proofs.Books.{history_opened, none_opened}
use Rattle.link_words.specs.Deeds.{Nothing, Opens, MayDo, AreManagers, HoldsNothing, IsSoundState, link_after_opening}
use Rattle.link_words.specs.Rule.{IsCallOf, HasCall, HistoryOf, HandsOf, fresh_block, WordsRule, LatestOf}
use Rattle.link_words.specs.Parts.{has_for_manager, has_sender_for_manager, HasGathered, HoldsBuffers, Knows}
use Rattle.ring_core.specs.SoundRings.{IsSoundRings}
use Rattle.link_words.specs.Histories.{LaneBooks, HasHistory, hands_of, entries_by, takes_by, books_of}
use Rattle.link_words.specs.declared.copies.LinkCopy.{LinkCopy}
use Rattle.link_words.specs.Codes.{copied}
use Rattle.link_words.specs.Passes.{Mover, with_pass, with_call}
use Rattle.link_words.specs.Calls.{SeatState}
use Rattle.link_words.proofs.Tells.{BeginsReopeningBy}
use Rattle.link_words.proofs.Gathered.{gathered_both}
use Rattle.link_words.specs.Reopens.{both_sides, opened_sides, books_by, AreBooksOf, IsOpeningOf, KeepsCopy}
use Rattle.link_words.specs.Sides.{sides_at}
use Rattle.link_words.proofs.Closes.{stays, stays_at}
use Rattle.link_words.proofs.Frames.{some_copy, each_set, numbers_set, keepers_set, manager_set}
use Rattle.link_words.proofs.Kept.{deed_kept}
use Rattle.link_words.proofs.Keepers.{all_before, both_minds, keepers_same, no_turns}
use Rattle.link_words.proofs.Sends.{true-false, some_number}
use Rattle.link_words.proofs.Parts.{state_in, sizes_in, told_in, buffers_in, put_together, one_more, rings_at}

reset_one : (p : ℕ) (fresh old : List ℕ) (x : ℕ) → length fresh ≡ length old → get_elem? fresh p ≡ some x → set (reset_first p fresh old) p x ≡ reset_first (suc p) fresh old
reset_one zero [] old x same e = absurd (some-ne-none x (sym e))
reset_one zero (f ∷ fs) [] x same e = refl
reset_one zero (f ∷ fs) (o ∷ os) x same e = ap (λ (y : ℕ). y ∷ os) (sym (some-injective f x e))
reset_one (suc p) [] old x same e = absurd (some-ne-none x (sym e))
reset_one (suc p) (f ∷ fs) [] x same e = refl
reset_one (suc p) (f ∷ fs) (o ∷ os) x same e = ap (λ (l : List ℕ). f ∷ l) (reset_one p fs os x (let l : suc (length fs) ≡ suc (length os) = same in omega arith) e)

reset_all : (p : ℕ) (fresh old : List ℕ) → length fresh ≡ length old → p ≡ length fresh → reset_first p fresh old ≡ fresh
reset_all zero [] [] same all = refl
reset_all zero [] (o ∷ os) same all = absurd (omega arith)
reset_all zero (f ∷ fs) old same all = absurd (omega arith)
reset_all (suc p) [] old same all = absurd (omega arith)
reset_all (suc p) (f ∷ fs) [] same all = absurd (omega arith)
reset_all (suc p) (f ∷ fs) (o ∷ os) same all = ap (λ (l : List ℕ). f ∷ l) (reset_all p fs os (let l : suc (length fs) ≡ suc (length os) = same in omega arith) (let l : suc p ≡ suc (length fs) = all in omega arith))

-- the words of a block are as many as the entries say
block_long : (a b c d : LaneWords) → length a.forward ≡ length c.forward → length a.returns ≡ length c.returns → length b.forward ≡ length d.forward → length b.returns ≡ length d.returns → length (reset_block a b) ≡ length (reset_block c d)
block_long a b c d p q u v =
    let lengths = λ (x y : LaneWords). length-append (map entry_word x.forward) (map entry_word x.returns ++ entry_words_before y []) ∙ ap (λ (k : ℕ). length (map entry_word x.forward) + k)
    (length-append (map entry_word x.returns) (entry_words_before y []) ∙ ap (λ (k : ℕ). length (map entry_word x.returns) + k)
    (length-append (map entry_word y.forward) (map entry_word y.returns ++ []) ∙ ap (λ (k : ℕ). length (map entry_word y.forward) + k) (length-append (map entry_word y.returns) []))) in
    let one = lengths a b in let two = lengths c d in
    omega (
      arith,
      one,
      two,
      p,
      q,
      u,
      v,
      length-map a.forward entry_word,
      length-map a.returns entry_word,
      length-map b.forward entry_word,
      length-map b.returns entry_word,
      length-map c.forward entry_word,
      length-map c.returns entry_word,
      length-map d.forward entry_word,
      length-map d.returns entry_word,
    )

-- a holder of a turn that is the manager's is the manager
is_64 : {C : Type 0} (t u : Turn C) (number : ℕ) → t ≡ turn.Manager → t ≡ u → holder u ≡ Some number → 64 ≡ number
is_64 t u number managers is held = some_number 64 number (ap holder (sym managers ∙ is) ∙ held)

abbrev callers_of : {L : Type 0} → LaneLink L → List (Option End)
callers_of m = m.callers

-- while the manager has the four turns, the others are in no call
still_call : {B : Type 0} {kc : Coded B} {kz : DeskTables} (m m' : LaneLink (RingState (PlacedDesk kc kz))) (p p' : ℕ) → AreManagers m → (k : ℕ) → 64 ≢ k → (call : Call) → (has_for_manager side.Host call ≡ true → ⊥) → (has_for_manager side.Remote call ≡ true → ⊥) → callers_of m ≡ callers_of m' → AreManagers m' → IsCallOf m p k call → IsCallOf m' p' k call
still_call m m' p p' a k apart Idle nh nr same a' has = has
still_call m m' p p' a k apart (Rests side.Host) nh nr same a' has = (ap (λ cs. end_of cs k) (sym same) ∙ has.0, ap (λ t. has_call t k) a'.remote_sender, ap (λ t. has_call t k) a'.host_receiver)
still_call m m' p p' a k apart (Rests side.Remote) nh nr same a' has = (ap (λ cs. end_of cs k) (sym same) ∙ has.0, ap (λ t. has_call t k) a'.host_sender, ap (λ t. has_call t k) a'.remote_receiver)
still_call m m' p p' a k apart (Reclaims side.Host x) nh nr same a' has = absurd (nh refl)
still_call m m' p p' a k apart (Reclaims side.Remote x) nh nr same a' has = absurd (nr refl)
still_call m m' p p' a k apart (EndsHeld side.Host x) nh nr same a' has = absurd (nh refl)
still_call m m' p p' a k apart (EndsHeld side.Remote x) nh nr same a' has = absurd (nr refl)
still_call m m' p p' a k apart (Sends side.Host t x b) nh nr same a' has = absurd (apart (is_64 m.to_host.lane.sender t k a.host_sender has.1.0 has.1.1))
still_call m m' p p' a k apart (Sends side.Remote t x b) nh nr same a' has = absurd (apart (is_64 m.to_remote.lane.sender t k a.remote_sender has.1.0 has.1.1))
still_call m m' p p' a k apart (Receives side.Host t x b msg) nh nr same a' has = absurd (apart (is_64 m.to_host.lane.receiver t k a.host_receiver has.1.0 has.1.1))
still_call m m' p p' a k apart (EndsReceive side.Host t x b msg) nh nr same a' has = absurd (apart (is_64 m.to_host.lane.receiver t k a.host_receiver has.1.0 has.1.1))
still_call m m' p p' a k apart (Receives side.Remote t x b msg) nh nr same a' has = absurd (apart (is_64 m.to_remote.lane.receiver t k a.remote_receiver has.1.0 has.1.1))
still_call m m' p p' a k apart (EndsReceive side.Remote t x b msg) nh nr same a' has = absurd (apart (is_64 m.to_remote.lane.receiver t k a.remote_receiver has.1.0 has.1.1))
still_call m m' p p' a k apart (EndsSend side.Host t x b) nh nr same a' has = absurd (apart (is_64 m.to_host.lane.sender t k a.host_sender has.1.0 has.1.1))
still_call m m' p p' a k apart (EndsSend side.Remote t x b) nh nr same a' has = absurd (apart (is_64 m.to_remote.lane.sender t k a.remote_sender has.1.0 has.1.1))
still_call m m' p p' a k apart (EndsBoth side.Host t x b y) nh nr same a' has = absurd (nr refl)
still_call m m' p p' a k apart (EndsBoth side.Remote t x b y) nh nr same a' has = absurd (nh refl)
still_call m m' p p' a k apart (Reopens q inc x y) nh nr same a' has = absurd (apart (sym has.0))
still_call m m' p p' a k apart (Gathers x y) nh nr same a' has = absurd (apart (sym has.0))

-- the slots of the next incarnation: no buffer is out
opened_shelf : {B : Type 0} {kc : Coded B} {kz : DeskTables} (s s' : RingState (PlacedDesk kc kz)) (l : List (Option_of Slot)) → HoldsBuffers s l → s.lane.sender ≡ turn.Manager → s.lane.receiver ≡ turn.Manager
    → s'.rings.sizes ≡ s.rings.sizes → length s'.lane.lane.accepted ≡ 0 → HoldsBuffers s' l
opened_shelf s s' l q sender receiver sizes none_accepted = record {
  long = q.long ∙ ap (λ x. x.capacity) (sym sizes);
  full = λ k from to other. absurd (omega (arith, to, none_accepted));
  home = λ j under mine theirs. q.home j (subst (λ (n : ℕ). j < n) (ap (λ x. x.capacity) sizes) under)
      (λ out. absurd (true-false (sym out ∙ ap sender_is_out sender))) (λ out. absurd (true-false (sym out ∙ ap receiver_is_out receiver)));
}

-- nothing was held, and nothing is
opened_hands : {B : Type 0} {kc : Coded B} {kz : DeskTables} (desk : DeskMeaning (PlacedDesk kc kz)) (m : LaneLink (RingState (PlacedDesk kc kz))) (q : Pass) → HoldsNothing m → HandsOf m q → HandsOf (link_after_opening desk m) q
opened_hands desk m q bare has side.Host user = ap (hands_of q.number) (sym bare.0) ∙ has side.Host user
opened_hands desk m q bare has side.Remote user = ap (hands_of q.number) (sym bare.1) ∙ has side.Remote user

-- the manager's view after the opening
abbrev pub opened_by : (v : View) → Mover v → ℕ → DeskRight → DeskRight → Option LinkCopy → View
opened_by v o book host remote k = record (with_pass v o (with_call o.pass (Gathers (opened_sides book host) (opened_sides book remote))) k) { is_closed = false; inc = v.inc + 1; reclaims = []; ended_passes = [] }

-- the manager has the four turns, where it has all side states
all_turns : {B : Type 0} {kc : Coded B} {kz : DeskTables} (m : LaneLink (RingState (PlacedDesk kc kz))) (x u : SenderSide) (y v : ReceiverSide) → HasGathered (turns_of m.to_host) (both_sides x y) → HasGathered (turns_of m.to_remote) (both_sides u v) → AreManagers m
all_turns m x u y v host remote = record { host_sender = (host.sender x refl).0; host_receiver = (host.receiver y refl).0; remote_sender = (remote.sender u refl).0; remote_receiver = (remote.receiver v refl).0 }

-- the books of a lane are those of its side states
books_are : {B : Type 0} {kc : Coded B} {kz : DeskTables} (s : RingState (PlacedDesk kc kz)) (x : SenderSide) (y : ReceiverSide) → IsSoundRings s → HasGathered (turns_of s) (both_sides x y) → books_of s ≡ books_by (both_sides x y)
books_are s x y sound has =
    let sent = (has.sender x refl).1 in let took = (has.receiver y refl).1 in
    let held : s.lane.lane.held ≡ map holding_of y.hands = sym sound.holdings ∙ ap (λ (w : ReceiverSide). map holding_of w.hands) (sym took) in
    λ i. record { accepted = (sym sent i).entries; takers = (sym took i).takers; held = held i; returned = (sym took i).returned }

module _ {B : Type 0} {kc : Coded B} {kz : DeskTables} (cd : Coded (PlacedDesk kc kz)) (desk : DeskMeaning (PlacedDesk kc kz)) (z : LinkSizes) where
  fresh_is : (m : LaneLink (RingState (PlacedDesk kc kz))) → (m.to_host.rings.sizes ≡ z.to_host) × (m.to_remote.rings.sizes ≡ z.to_remote) → fresh_block desk m ≡ fresh_of z
  fresh_is m sizes = λ i. reset_block (fresh_lane (sizes.0 i)) (fresh_lane (sizes.1 i))

  as_long : (m : LaneLink (RingState (PlacedDesk kc kz))) → IsSoundState desk m → length (fresh_block desk m) ≡ length (reset_block (lane_words m.to_host) (lane_words m.to_remote))
  as_long m k =
      let opened = reopen_kept desk m k.rings in let now = k.rings in
      block_long (lane_words (link_after_reopen (ring_form desk) m).to_host) (lane_words (link_after_reopen (ring_form desk) m).to_remote) (lane_words m.to_host) (lane_words m.to_remote)
      (opened.to_host.sized.forward_long ∙ sym now.to_host.sized.forward_long) (opened.to_host.sized.returns_long ∙ sym now.to_host.sized.returns_long)
      (opened.to_remote.sized.forward_long ∙ sym now.to_remote.sized.forward_long) (opened.to_remote.sized.returns_long ∙ sym now.to_remote.sized.returns_long)

  homes_still : (m : LaneLink (RingState (PlacedDesk kc kz))) (sh : Shelves) → AreManagers m → homes_of m sh ≡ homes_of (link_after_opening desk m) sh
  homes_still m sh a = λ k. home_if (a.host_sender k) (Sender (sender_side m.to_host)) ∷ home_if (a.host_receiver k) (Receiver (receiver_side m.to_host))
      ∷ home_if (a.remote_sender k) (Sender (sender_side m.to_remote)) ∷ home_if (a.remote_receiver k) (Receiver (receiver_side m.to_remote)) ∷ (sh.host ++ sh.remote)

  opened_shelves : (m : LaneLink (RingState (PlacedDesk kc kz))) (sh : Shelves) → ((e : End) → HoldsBuffers (lane_to m e) (shelf_to sh e)) → AreManagers m → (e : End) → HoldsBuffers (lane_to (link_after_opening desk m) e) (shelf_to sh e)
  opened_shelves m sh old a side.Host = opened_shelf m.to_host (link_after_opening desk m).to_host sh.host (old side.Host) a.host_sender a.host_receiver refl refl
  opened_shelves m sh old a side.Remote = opened_shelf m.to_remote (link_after_opening desk m).to_remote sh.remote (old side.Remote) a.remote_sender a.remote_receiver refl refl

  -- the manager has the four turns, and its sides hold nothing: it loads the era, and the books are told where it is closed
  pub begins : (n id : ℕ) (me : SeatState) (o : Mover me.0) (x u : SenderSide) (y v : ReceiverSide) → o.pass.call ≡ Gathers (both_sides x y) (both_sides u v) → y.hands ≡ [] → v.hands ≡ []
      → Allows (WordsRule cd desk z) n id me 1 (λ w. w) (λ w me'. BeginsReopeningBy me o (both_sides x y) (both_sides u v) w me' × KeepsCopy me me')
  begins n id me o x u y v call bare_host bare_remote st (m, p, r) wide at _ =
      let a = both_sides x y in let b = both_sides u v in
      let h : IsCallOf m p o.pass.number (Gathers a b) = subst (IsCallOf m p o.pass.number) call (r.turns.calls id o.place o.pass (me.0, at, o.here)) in
      let knows : Knows cd m st.views id me.0 = r.numbers.manager id me.0 at (o.place, o.pass, o.here, h.0) in
      let word : get_or st.words 1 0 ≡ era_word m.era = ap (λ (ws : List ℕ). get_or ws 1 0) r.words_are in
      go h knows word m.era.is_live refl
    where
      told : IsCallOf m p o.pass.number (Gathers (both_sides x y) (both_sides u v)) → Knows cd m st.views id me.0 → AreBooksOf me.0 (λ e. books_by (sides_at e (both_sides x y) (both_sides u v)))
      told h knows = record {
        own = λ k q there. subst (λ (t : ℕ × (End → LaneBooks)). HasHistory t.0 t.1 q.number q.first q.own) (λ i. (sym knows.inc i, λ e. books e i)) (r.histories.own id k q (me.0, at, there));
        unused = λ n none not e. subst (λ (t : LaneBooks). (entries_by n 0 t.accepted ≡ []) × (takes_by n 0 t.takers ≡ [])) (books e) (knows.unused n (ap (λ (us : List (Option End)). end_of us n) (sym knows.users) ∙ none) not e);
        ended = λ k q there. subst (λ (t : ℕ × (End → LaneBooks)). HasHistory t.0 t.1 q.number q.first q.own) (λ i. (sym knows.inc i, λ e. books e i)) (knows.ended k q there).history;
        back = λ e. subst (λ (t : LaneBooks). t.returned ≤ length t.takers) (books e) (let is = (rings_at r e).counted.back in omega (arith, is));
      }
        where
          books : (e : End) → books_of (lane_to m e) ≡ books_by (sides_at e (both_sides x y) (both_sides u v))
          books side.Host = books_are m.to_host x y r.to_host.rings h.2
          books side.Remote = books_are m.to_remote u v r.to_remote.rings h.3

      go : IsCallOf m p o.pass.number (Gathers (both_sides x y) (both_sides u v)) → Knows cd m st.views id me.0 → get_or st.words 1 0 ≡ era_word m.era → (live : Bool) → m.era.is_live ≡ live
          → (w : View) × (a : Act Slot) × Valid st.homes me.1 a × WordsRule cd desk z (stepped st 1 (get_or st.words 1 0) id me.1 w a) × (BeginsReopeningBy me o (both_sides x y) (both_sides u v) (get_or st.words 1 0) (w, carried_after me.1 a) × KeepsCopy me (w, carried_after me.1 a))
      go h knows word false shut = (
        _,
        keeps,
        tt,
        stays_at cd desk z st m p r 1 (get_or st.words 1 0) id me.1 me.0 o (Reopens 0 m.era.inc (both_sides x y) (both_sides u v)) Nothing at refl tt refl (
          h.0,
          sym h.1,
          (shut, all_turns m x u y v h.2 h.3),
          refl,
          (sym r.to_host.rings.holdings ∙ ap (map holding_of) (sym (ap (λ (w : ReceiverSide). w.hands) (h.2.receiver y refl).1) ∙ bare_host), sym r.to_remote.rings.holdings ∙ ap (map holding_of) (sym (ap (λ (w : ReceiverSide). w.hands) (h.3.receiver v refl).1) ∙ bare_remote)),
          h.2,
          h.3,
        )
            (let same = both_minds 0 m.era.inc (both_sides x y) (both_sides u v) x u y v in ((λ i. ap (has_sender_for_manager i) call ∙ sym (same.0 i)), λ i. ap (has_for_manager i) call ∙ sym (same.1 i))),
        ((m.era, word, sym knows.inc, r.numbers.short, knows.closed, (λ _. (refl, told h knows)), λ live. absurd (true-false (sym live ∙ shut))), λ k none_out was. ap Some (sym (knows.copy k was none_out))),
      )
      go h knows word true live = (
        me.0,
        keeps,
        tt,
        stays cd desk z st m p r 1 (get_or st.words 1 0) id me.1 me.0 Nothing at refl tt refl,
        ((m.era, word, sym knows.inc, r.numbers.short, knows.closed, (λ shut. absurd (true-false (sym live ∙ shut))), λ _. refl), λ k none_out was. was),
      )

  -- one word more is reset, whatever word comes next
  pub resets : (n id : ℕ) (me : SeatState) (o : Mover me.0) (q inc i new : ℕ) (a b : LaneSides) → o.pass.call ≡ Reopens q inc a b → i ≡ 6 + q → get_elem? (fresh_of z) q ≡ some new
      → Allows (WordsRule cd desk z) n id me i (λ _. new) (λ _ me'. (me' ≡ (with_pass me.0 o (with_call o.pass (Reopens (suc q) inc a b)) me'.0.copy, me.1)) × KeepsCopy me me')
  resets n id me o q inc i new a b call at_word is_fresh st (m, p, r) wide at _ =
      let h : IsCallOf m p o.pass.number (Reopens q inc a b) = subst (IsCallOf m p o.pass.number) call (r.turns.calls id o.place o.pass (me.0, at, o.here)) in
      let fresh = fresh_block desk m in let old = reset_block (lane_words m.to_host) (lane_words m.to_remote) in
      let here : get_elem? fresh p ≡ some new = (λ k. get_elem? (fresh_is m (sizes_in r) k) (sym h.1 k)) ∙ is_fresh in
      let six : i ≡ suc (suc (suc (suc (suc (suc p))))) = let same = h.1 in omega (arith, at_word, same) in
      let front : List ℕ → List ℕ = λ l. 0 ∷ era_word m.era ∷ turn_word m.to_host.lane.sender ∷ turn_word m.to_host.lane.receiver ∷ turn_word m.to_remote.lane.sender ∷ turn_word m.to_remote.lane.receiver ∷ l in
      let w : Call = Reopens (suc q) inc a b in let each = each_set st.views id me.0 (with_pass me.0 o (with_call o.pass w) (Some (copied cd m))) o (with_call o.pass w) at refl in (
        _,
        keeps,
        tt,
        (
          m,
          suc p,
          put_together ((λ k. set (r.words_are k) (six k) new) ∙ ap front (reset_one p fresh old new (as_long m (state_in r)) here))
              r.shelves r.homes_are
              (state_in r) (told_in r) (buffers_in r) (one_more desk m _ Nothing r.reached tt refl)
              (record {
                calls = each (HasCall m p) (HasCall m (suc p)) r.numbers.places r.turns.calls
                    (λ j l u there apart. still_call m m p (suc p) h.2.1 u.number (λ same. apart (h.0 ∙ same)) u.call (λ kept. apart (r.turns.keepers side.Host id o.place j l o.pass u (me.0, at, o.here) there (ap (has_for_manager side.Host) call) kept)) (λ kept. apart (r.turns.keepers side.Remote id o.place j l o.pass u (me.0, at, o.here) there (ap (has_for_manager side.Remote) call) kept)) refl h.2.1) (h.0, ap suc h.1, h.2, h.3, h.4, h.5, h.6);
                keepers = keepers_set st.views id me.0 (with_pass me.0 o (with_call o.pass w) (Some (copied cd m))) o (with_call o.pass w) at refl refl (λ i k. ap (has_for_manager i) call) r.turns.keepers;
                some_keeper = keepers_same st.views id me.0 (with_pass me.0 o (with_call o.pass w) (Some (copied cd m))) o (with_call o.pass w) at refl (turns_in m) (turns_in m) (no_turns m) ((λ i. ap (has_sender_for_manager i) call), λ i. ap (has_for_manager i) call) r.turns.some_keeper;
                still = inr h.2;
              })
              (record {
                own = each (HistoryOf m) (HistoryOf m) r.numbers.places r.histories.own (λ j l u there apart had. had) (r.histories.own id o.place o.pass (me.0, at, o.here));
                hands = each (HandsOf m) (HandsOf m) r.numbers.places r.histories.hands (λ j l u there apart had. had) (r.histories.hands id o.place o.pass (me.0, at, o.here));
                latest = each (LatestOf m) (LatestOf m) r.numbers.places r.histories.latest (λ j l u there apart had. had) (r.histories.latest id o.place o.pass (me.0, at, o.here));
              })
              (record {
                places = numbers_set st.views id me.0 (with_pass me.0 o (with_call o.pass w) (Some (copied cd m))) o (with_call o.pass w) at refl refl r.numbers.places;
                manager = manager_set st.views id me.0 (with_pass me.0 o (with_call o.pass w) (Some (copied cd m))) o (with_call o.pass w) at refl cd m m refl refl refl refl (λ old. old) (λ j y apart there manages. refl) (λ n none was not. was not) (λ n none Q was not. was not) (λ old. old) (λ j y apart there manages old. old) (λ k same _. sym (some_copy (copied cd m) k same)) (λ old. old) (λ j y apart there manages p has. has) r.numbers.manager;
                many = r.numbers.many;
                short = r.numbers.short;
              }),
        ),
        (refl, λ k none_out was. ap Some (sym ((r.numbers.manager id me.0 at (o.place, o.pass, o.here, h.0)).copy k was none_out))),
      )

  -- the era is opened, where all is reset and nothing is held: the one step of the ring form
  pub opens : (n id : ℕ) (me : SeatState) (o : Mover me.0) (q inc new : ℕ) (x u : SenderSide) (y v : ReceiverSide) → o.pass.call ≡ Reopens q inc (both_sides x y) (both_sides u v) → q ≡ length (fresh_of z)
      → new ≡ era_word (record { inc = inc + 1; is_live = true }) → inc + 1 < 4294967296
      → Allows (WordsRule cd desk z) n id me 1 (λ _. new) (λ _ me'. ((host : PlacedDesk kc kz) × (remote : PlacedDesk kc kz) × (y.desk ≡ right_to host) × (v.desk ≡ right_to remote) × (me' ≡ (opened_by me.0 o z.book (right_to (desk.fresh host)) (right_to (desk.fresh remote)) me'.0.copy, me.1))) × IsOpeningOf cd desk me me')
  opens n id me o q inc new x u y v call all new_is more st (m, p, r) wide at _ =
      let h : IsCallOf m p o.pass.number (Reopens q inc (both_sides x y) (both_sides u v)) = subst (IsCallOf m p o.pass.number) call (r.turns.calls id o.place o.pass (me.0, at, o.here)) in let a = h.2.1 in
      let fresh = fresh_block desk m in let old = reset_block (lane_words m.to_host) (lane_words m.to_remote) in
      let full : p ≡ length fresh = sym h.1 ∙ (all ∙ ap length (sym (fresh_is m (sizes_in r)))) in
      let m' = link_after_opening desk m in let may : MayDo desk m Opens = (h.2, h.4) in
      let word : new ≡ era_word m'.era = new_is ∙ ap (λ (k : ℕ). era_word (record { inc = k + 1; is_live = true })) (sym h.3) in
      let host = right_to m'.to_host.lane.desk in let remote = right_to m'.to_remote.lane.desk in let w : Call = Gathers (opened_sides z.book host) (opened_sides z.book remote) in let seen = opened_by me.0 o z.book host remote (Some (copied cd m')) in let knows : Knows cd m st.views id me.0 = r.numbers.manager id me.0 at (o.place, o.pass, o.here, h.0) in let each = each_set st.views id me.0 seen o (with_call o.pass w) at refl in (
        seen,
        keeps,
        tt,
        (
          m',
          0,
          put_together ((λ k. set (r.words_are k) 1 (word k))
              ∙ (λ k. 0 ∷ era_word m'.era ∷ turn_word (a.host_sender k) ∷ turn_word (a.host_receiver k) ∷ turn_word (a.remote_sender k) ∷ turn_word (a.remote_receiver k) ∷ reset_all p fresh old (as_long m (state_in r)) full k))
              r.shelves (r.homes_are ∙ (λ k. homes_still m r.shelves a k))
              (deed_kept desk m Opens may (state_in r)) (told_in r) (opened_shelves m r.shelves (buffers_in r) a) (one_more desk m _ Opens r.reached may refl)
              (record {
                calls = each (HasCall m p) (HasCall m' 0) r.numbers.places r.turns.calls
                    (λ j l u there apart. still_call m m' p 0 a u.number (λ same. apart (h.0 ∙ same)) u.call (λ kept. apart (r.turns.keepers side.Host id o.place j l o.pass u (me.0, at, o.here) there (ap (has_for_manager side.Host) call) kept)) (λ kept. apart (r.turns.keepers side.Remote id o.place j l o.pass u (me.0, at, o.here) there (ap (has_for_manager side.Remote) call) kept)) refl (record { host_sender = refl; host_receiver = refl; remote_sender = refl; remote_receiver = refl })) (
                      h.0,
                      refl,
                      gathered_both (turns_of m'.to_host) (opened_sender z.book) (opened_receiver z.book host) refl (ap opened_sender (sym r.to_host.book)) refl (ap (λ (k : ℕ). opened_receiver k host) (sym r.to_host.book)),
                      gathered_both (turns_of m'.to_remote) (opened_sender z.book) (opened_receiver z.book remote) refl (ap opened_sender (sym r.to_remote.book)) refl (ap (λ (k : ℕ). opened_receiver k remote) (sym r.to_remote.book)),
                    );
                keepers = keepers_set st.views id me.0 seen o (with_call o.pass w) at refl refl (λ i k. ap (has_for_manager i) call) r.turns.keepers;
                some_keeper = keepers_same st.views id me.0 seen o (with_call o.pass w) at refl (turns_in m) (turns_in m') (all_before m m' a)
                    (let same = both_minds q inc (both_sides x y) (both_sides u v) (opened_sender z.book) (opened_sender z.book) (opened_receiver z.book host) (opened_receiver z.book remote) in ((λ i. ap (has_sender_for_manager i) call ∙ same.0 i), λ i. ap (has_for_manager i) call ∙ same.1 i)) r.turns.some_keeper;
                still = inl refl;
              })
              (record {
                own = each (HistoryOf m) (HistoryOf m') r.numbers.places r.histories.own (λ j l u there apart had. history_opened desk m u.number u.first u.own had) (history_opened desk m o.pass.number o.pass.first o.pass.own (r.histories.own id o.place o.pass (me.0, at, o.here)));
                hands = each (HandsOf m) (HandsOf m') r.numbers.places r.histories.hands (λ j l u there apart. opened_hands desk m u h.4) (opened_hands desk m o.pass h.4 (r.histories.hands id o.place o.pass (me.0, at, o.here)));
                latest = each (LatestOf m) (LatestOf m') r.numbers.places r.histories.latest (λ j l u there apart had. nothing_latest m m' p u h.4 (r.turns.calls j l u there) (r.histories.hands j l u there)) (inl h.0);
              })
              (record {
                places = numbers_set st.views id me.0 seen o (with_call o.pass w) at refl refl r.numbers.places;
                manager = manager_set st.views id me.0 seen o (with_call o.pass w) at refl cd m m' refl refl refl refl (λ old. ap (λ (k : ℕ). k + 1) old)
                    (λ j y apart there manages. absurd (apart (r.numbers.places j manages.0 id o.place manages.1 o.pass (y, there, manages.2) (me.0, at, o.here) (manages.3 ∙ sym h.0)).0)) (λ n none was not. none_opened desk m n) (λ n none Q was not. none_opened desk m n) (λ old never. absurd (true-false (sym never)))
                    (λ j y apart there manages old. absurd (apart (r.numbers.places j manages.0 id o.place manages.1 o.pass (y, there, manages.2) (me.0, at, o.here) (manages.3 ∙ sym h.0)).0)) (λ k same _. sym (some_copy (copied cd m') k same))
                    (λ old i p never. absurd (some-ne-none p (sym never))) (λ j y apart there manages. absurd (apart (r.numbers.places j manages.0 id o.place manages.1 o.pass (y, there, manages.2) (me.0, at, o.here) (manages.3 ∙ sym h.0)).0)) r.numbers.manager;
                many = r.numbers.many;
                short = subst (λ (k : ℕ). k + 1 < 4294967296) (sym h.3) more;
              }),
        ),
        ((m.to_host.lane.desk, m.to_remote.lane.desk, ap (λ (w : ReceiverSide). w.desk) (h.5.receiver y refl).1, ap (λ (w : ReceiverSide). w.desk) (h.6.receiver v refl).1, refl), record { state = m; sound = state_in r; may = may; inc = sym knows.inc; copy = λ k none was. (knows.copy k was none, refl) }),
      )
