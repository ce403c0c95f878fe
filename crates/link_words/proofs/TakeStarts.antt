-- The first three steps of a take: its turn, the era, and the look for a message.
use Rattle.link_words.proofs.Keepers.{KeepsMinds}
use Rattle.link_words.specs.Parts.{has_for_manager, has_sender_for_manager}
use Rattle.link_words.specs.declared.codes.DeskTables.{DeskTables}
use Rattle.link_words.specs.PlacedDesks.{PlacedDesk}
use Rattle.std.proofs.Common.{◌≡◌, ℕ, suc, ◌≤◌, Bool, true, false, cond, eqb, List, [], ◌∷◌, length, get_or, refl, sym, ap, ◌∙◌, subst, inr, ⊎_elim, arith, le_refl}
use Rattle.std.specs.Prelude.{Option, Some, None}
use mathlib.Core.Option.{some, none}
use mathlib.Core.Option.{Option as Option_of}
use mathlib.Core.Path.{Path}
use lib.ListN.{get_elem?}
use prog.Atomic.{either}
use Rattle.atomic_table.specs.Table.{State, Me, Act, keeps, takes, Valid, carried_after, stepped, Allows}
use Rattle.atomic_table.proofs.Lists.{exchanged}
use Rattle.rp_base.specs.declared.kinds.End.{End}
use Rattle.rp_base.specs.declared.kinds.Era.{Era}
use Rattle.rp_base.specs.declared.kinds.End.TheVariants as side
use Rattle.lane_model.specs.declared.lane_links.LaneLink.{LaneLink}
use Rattle.lane_model.specs.declared.stages.Turn.{Turn}
use Rattle.lane_model.specs.declared.stages.Turn.TheVariants as turn
use Rattle.lane_model.specs.declared.stages.Receiving.{Receiving}
use Rattle.lane_model.specs.declared.stages.Work.TheVariants as work
use Rattle.lane_model.specs.declared.stages.TakeStage.TheVariants as take_stage
use Rattle.lane_model.specs.declared.calls.Wish.{Wish}
use Rattle.lane_model.specs.declared.stages.Work.{Work}
use Rattle.lane_model.specs.declared.calls.CallEnd.{CallEnd}
use Rattle.lane_model.specs.declared.calls.CallEnd.TheVariants as end
use base.Stored.{Coded}
use Rattle.rp_base.specs.declared.limits.TheConstants.{BOOK_MOST}
use Rattle.lane_model.specs.Desks.{DeskMeaning}
use Rattle.lane_model.specs.Lanes.{holder, has_call, taken_by, is_live_in}
use Rattle.lane_model.specs.Receives.{after_take_era, after_take_look}
use Rattle.lane_model.specs.Links.{Lanes, end_of, link_of, lanes_of, first_step, receive_first, lanes_step, on_lanes}
use Rattle.lane_model.specs.Conditions.{IsFitWish, MayLanesStep, MayEndStep, is_in_call}
use Rattle.ring_core.specs.declared.states.RingState.{RingState}
use Rattle.ring_core.specs.declared.states.RingSizes.{RingSizes}
use Rattle.ring_core.specs.Owners.{receiver_is_out, work_is_out}
use Rattle.ring_core.specs.RingSteps.{ring_form}
use Rattle.ring_core.specs.SoundRings.{IsSoundRings}
use Rattle.link_words.specs.declared.rule.Slot.{Slot}
use Rattle.link_words.specs.declared.rule.Slot.TheVariants.{Receiver}
use Rattle.link_words.specs.declared.rule.ReceiverSide.{ReceiverSide}
use Rattle.link_words.specs.declared.rule.LinkSizes.{LinkSizes}
use Rattle.link_words.specs.declared.rule.Call.{Call}
use Rattle.link_words.specs.declared.rule.Call.TheVariants.{Rests, Receives}
use Rattle.link_words.specs.declared.rule.View.{View}
use Rattle.link_words.specs.Turns.{is_manager}
use Rattle.link_words.specs.Words.{other, lane_to, with_lane, era_word, turn_word, LaneWords, lane_words, words_at, home_if, lane_homes, homes_at, shelf_to, receiver_side, receiver_slot, forward_word}
use Rattle.link_words.specs.Deeds.{Steps, after_deed, MayDo, IsStill}
use Rattle.link_words.specs.Rule.{IsCallOf, IsHistory, Shows, WordsRule}
use Rattle.link_words.specs.Histories.{is_past_take_era, IsCurrentTake, IsOfNow}
use Rattle.link_words.specs.declared.rule.Counted.TheVariants.{Waiting}
use Rattle.link_words.specs.declared.rule.Event.{Event}
use Rattle.link_words.specs.declared.rule.Event.TheVariants.{Count}
use Rattle.link_words.specs.Parts.{has_for_manager}
use Rattle.link_words.specs.Codes.{copied}
use Rattle.link_words.specs.Passes.{Mover, with_pass, with_call}
use Rattle.link_words.specs.Calls.{SeatState}
use Rattle.link_words.specs.Steps.{take_look_turn}
use Rattle.link_words.proofs.Tells.{TakeBeginsBy, TakeLoadsEraBy, TakeLooksBy}
use Rattle.link_words.proofs.Exact.{StepBy, busy_by, ReadsAt, read_by}
use Rattle.link_words.proofs.Kept.{no_send, receive_deed, receive_may}
use Rattle.link_words.proofs.LaneSteps.{no_call, lane_moves, lane_looks, with_step}
use Rattle.link_words.proofs.Books.{history_kept, history_counted}
use Rattle.link_words.proofs.Seen.{seen_now}
use Rattle.link_words.proofs.Sends.{has_of, live_now, true-false}
use Rattle.link_words.proofs.Closes.{stays}
use Rattle.link_words.proofs.Buffers.{homes_here, words_here, loaded, rings_to}
use Rattle.link_words.proofs.Takes.{with_receiver, receiver_turn_set, receiver_side_set, still_receiver, others_beside, others_receive, here_receives, at_zero'}
use Rattle.link_words.specs.Words.{receiver_word}
use Rattle.link_words.proofs.Held.{receiver_home, free_if, is_free, free_for_all, seen_receiver, shelved_receiver}
use Rattle.link_words.proofs.Frames.{same_lane}
use Rattle.link_words.proofs.Starts.{or_false, not_free}
use Rattle.link_words.proofs.TurnWords.{receiver_of, receiver_word_most}
use Rattle.link_words.proofs.Looks.{sizes_is}
use Rattle.link_words.proofs.Parts.{handed_most, returned_most, rings_at, rings_in, buffers_in}
use Rattle.link_words.specs.Words.{sizes_at}

-- a turn that goes on or is settled, by one test
abbrev either_turn : Bool → ℕ → Receiving → CallEnd → Turn Receiving
either_turn b c q ended = cond b (turn.Taken c q) (turn.Leaving c ended)

et_word : (b : Bool) (c : ℕ) (q : Receiving) (ended : CallEnd) → turn_word (either_turn b c q ended) ≡ suc c
et_word true c q ended = refl
et_word false c q ended = refl

et_home : (b : Bool) (c : ℕ) (q : Receiving) (ended : CallEnd) (y : Slot) → home_if (either_turn b c q ended) y ≡ none
et_home true c q ended y = refl
et_home false c q ended y = refl

et_holder : (b : Bool) (c : ℕ) (q : Receiving) (ended : CallEnd) → holder (either_turn b c q ended) ≡ Some c
et_holder true c q ended = refl
et_holder false c q ended = refl

et_bare : (b : Bool) (c : ℕ) (q : Receiving) (ended : CallEnd) → is_manager (either_turn b c q ended) ≡ false
et_bare true c q ended = refl
et_bare false c q ended = refl

et_out : (b : Bool) (c : ℕ) (q : Receiving) (ended : CallEnd) → receiver_is_out (turn.Taken c q) ≡ false → receiver_is_out (either_turn b c q ended) ≡ false
et_out true c q ended inside = inside
et_out false c q ended inside = refl

et_current : (b : Bool) (c f : ℕ) (era : Era) → is_live_in era f ≡ b → IsCurrentTake (either_turn b c (record { follows = f; work = work.Take take_stage.Era }) (end.Dead era)) era.inc
et_current true c f era live = λ _. live_now era f live
et_current false c f era live = tt

abbrev settled_turn : Bool → ℕ → Receiving → CallEnd → Turn Receiving
settled_turn b c q ended = cond b (turn.Leaving c ended) (turn.Taken c q)

es_word : (b : Bool) (c : ℕ) (q : Receiving) (ended : CallEnd) → turn_word (settled_turn b c q ended) ≡ suc c
es_word true c q ended = refl
es_word false c q ended = refl

es_home : (b : Bool) (c : ℕ) (q : Receiving) (ended : CallEnd) (y : Slot) → home_if (settled_turn b c q ended) y ≡ none
es_home true c q ended y = refl
es_home false c q ended y = refl

es_holder : (b : Bool) (c : ℕ) (q : Receiving) (ended : CallEnd) → holder (settled_turn b c q ended) ≡ Some c
es_holder true c q ended = refl
es_holder false c q ended = refl

es_bare : (b : Bool) (c : ℕ) (q : Receiving) (ended : CallEnd) → is_manager (settled_turn b c q ended) ≡ false
es_bare true c q ended = refl
es_bare false c q ended = refl

es_out : (b : Bool) (c : ℕ) (q : Receiving) (ended : CallEnd) → receiver_is_out (turn.Taken c q) ≡ false → receiver_is_out (settled_turn b c q ended) ≡ false
es_out true c q ended inside = refl
es_out false c q ended inside = inside

es_current : (b : Bool) (c f inc : ℕ) (ended : CallEnd) → f ≡ inc → IsCurrentTake (settled_turn b c (record { follows = f; work = work.Take take_stage.Look }) ended) inc
es_current true c f inc ended now = tt
es_current false c f inc ended now = λ _. now

module _ {B : Type 0} {kc : Coded B} {kz : DeskTables} (desk : DeskMeaning (PlacedDesk kc kz)) (wished : Wish) (first : Work) (follows : ℕ) (begins : (lanes : Lanes (RingState (PlacedDesk kc kz))) (caller : ℕ) → first_step (ring_form desk) lanes caller follows wished ≡ receive_first (ring_form desk) lanes caller follows first) where
  work_done : (m : LaneLink (RingState (PlacedDesk kc kz))) (e : End) (caller : ℕ)
      → with_lane m e ((ring_form desk).after_receive_start (lane_to m e) caller follows first) ≡ (on_lanes m (Some e) (λ lanes. receive_first (ring_form desk) lanes caller follows first)).state
  work_done m side.Host caller = refl
  work_done m side.Remote caller = refl

  work_deed : (m : LaneLink (RingState (PlacedDesk kc kz))) (e : End) (caller : ℕ) → end_of m.callers caller ≡ Some e
      → with_lane m e ((ring_form desk).after_receive_start (lane_to m e) caller follows first) ≡ after_deed desk m (Steps caller follows (Some wished))
  work_deed m e caller user = work_done m e caller
      ∙ ((λ i. (on_lanes m (Some e) (λ lanes. sym (begins lanes caller) i)).state)
      ∙ ap (λ (o : Option End). (on_lanes m o (λ lanes. lanes_step (ring_form desk) desk m.era lanes caller follows (Some wished))).state) (sym user))

  in_no_call : (m : LaneLink (RingState (PlacedDesk kc kz))) (p : ℕ) (e : End) (caller : ℕ) → IsCallOf m p caller (Rests e) → is_in_call (lanes_of (link_of (ring_form desk) m) e) caller ≡ false
  in_no_call m p side.Host caller rests = or_false desk (has_call m.to_remote.lane.sender caller) (has_call m.to_host.lane.receiver caller) rests.1 rests.2
  in_no_call m p side.Remote caller rests = or_false desk (has_call m.to_host.lane.sender caller) (has_call m.to_remote.lane.receiver caller) rests.1 rests.2

  work_may : (m : LaneLink (RingState (PlacedDesk kc kz))) (p : ℕ) (e : End) (caller : ℕ) → IsFitWish wished (lane_to m e).lane.lane.held caller → IsCallOf m p caller (Rests e) → MayDo desk m (Steps caller follows (Some wished))
  work_may m p e caller fits rests = record {
    may = subst (λ (o : Option End). MayEndStep (link_of (ring_form desk) m) o caller (Some wished)) (sym rests.0) (go e (in_no_call m p e caller rests) fits);
  }
    where
      go : (e : End) → is_in_call (lanes_of (link_of (ring_form desk) m) e) caller ≡ false → IsFitWish wished (lane_to m e).lane.lane.held caller → MayLanesStep (lanes_of (link_of (ring_form desk) m) e) caller (Some wished)
      go side.Host free fit = (free, fit)
      go side.Remote free fit = (free, fit)

  module _ (cd : Coded (PlacedDesk kc kz)) (z : LinkSizes) (id : ℕ) (me : SeatState) (o : Mover me.0) (e : End) (call : o.pass.call ≡ Rests e) (inside : work_is_out first ≡ false) (early : is_past_take_era first ≡ false)
      (fits : (st : State Slot View) (m : LaneLink (RingState (PlacedDesk kc kz))) (p : ℕ) → Shows cd desk z st m p → get_elem? st.views id ≡ some me.0 → IsFitWish wished (lane_to m e).lane.lane.held o.pass.number) where
    work_free : (st : State Slot View) (m : LaneLink (RingState (PlacedDesk kc kz))) (r : Shows cd desk z st m 0) → get_elem? st.views id ≡ some me.0 → (lane_to m e).lane.receiver ≡ turn.Free
        → (w : View) × (a : Act Slot) × Valid st.homes me.1 a × WordsRule cd desk z (stepped st (receiver_word e) (suc o.pass.number) id me.1 w a)
        × ((x : ReceiverSide) × (x.handed ≤ BOOK_MOST) × (x.returned ≤ BOOK_MOST) × Path (Me Slot View) (w, carried_after me.1 a) (with_pass me.0 o (with_call o.pass (Receives e (turn.Taken o.pass.number (record { follows = follows; work = first })) x 0 [])) w.copy, (receiver_slot e, Receiver x) ∷ me.1))
        × StepBy cd desk (ReadsAt (receiver_word e) (get_or st.words (receiver_word e) 0)) me o (Steps o.pass.number follows (Some wished)) (w, carried_after me.1 a)
    work_free st m r at free =
        let c = o.pass.number in let rests : IsCallOf m 0 c (Rests e) = subst (IsCallOf m 0 c) call (r.turns.calls id o.place o.pass (me.0, at, o.here)) in
        let s₀ = lane_to m e in let s = with_receiver s₀ turn.Free in let is : s₀ ≡ s = λ k. with_receiver s₀ (free k) in
        let t' : Turn Receiving = turn.Taken c (record { follows = follows; work = first }) in let s' = with_receiver s₀ t' in
        let x = receiver_side s₀ in let w : Call = Receives e t' x 0 [] in let hb = lane_homes (lane_to m (other e)) (shelf_to r.shelves (other e)) in
        let may = work_may m 0 e c (fits st m 0 r at) rests in
        let deed : with_lane m e s' ≡ after_deed desk m (Steps c follows (Some wished)) = ap (λ (t : Turn Receiving). with_lane m e (with_receiver s₀ (taken_by t c (record { follows = follows; work = first })))) (sym free) ∙ work_deed m e c rests.0 in
        let mine : IsCallOf (with_lane m e s') 0 c w = here_receives desk m e s' c t' x 0 [] rests.0 (refl, refl, refl, (λ out. absurd (true-false (sym out ∙ inside))), refl) (λ past. absurd (true-false (sym past ∙ early))) in (
          _,
          takes (receiver_slot e) (Receiver x),
          ap (λ hs. get_elem? hs (receiver_slot e)) (homes_here cd desk z st m r e) ∙ (receiver_home e _ _ ∙ ap (λ (t : Turn Receiving). some (home_if t (Receiver x))) free),
          lane_moves cd desk z st m r e s s' is (receiver_word e) (suc c) id me.1 me.0 o w (takes (receiver_slot e) (Receiver x)) (Steps c follows (Some wished)) (shelf_to r.shelves e) at
              may
              deed
              (receiver_turn_set e (era_word m.era) (suc c) (lane_words s) (lane_words (lane_to m (other e))))
              (receiver_side_set e none (lane_homes s (shelf_to r.shelves e)) hb)
              (shelved_receiver s₀ s' (shelf_to r.shelves e) (ap receiver_is_out free) inside refl refl refl refl refl refl ((buffers_in r) e))
              mine
              (λ k apart call had. others_beside desk m e s' refl refl refl k (no_call desk t' c k refl apart) call (λ having has. free_for_all cd desk z m e 0 free k call having has) had)
              refl refl refl refl (refl, ((λ i. ap (has_sender_for_manager i) call), λ i. ap (has_for_manager i) call)),
          (x, handed_most s₀ (rings_at r e), returned_most s₀ (rings_at r e), refl),
          read_by (receiver_word e) cd desk z st m r id me o (with_call o.pass w) (Steps c follows (Some wished)) (with_lane m e s') ((receiver_slot e, Receiver x) ∷ me.1) at may deed mine,
        )

    -- step 1: one attempt
    pub takes_turn : (n new : ℕ) → new ≡ suc o.pass.number
        → Allows (WordsRule cd desk z) n id me (receiver_word e) (λ y. either (eqb y 0) new y) (λ y me'. TakeBeginsBy me o e follows first y me' × (y ≤ 65) × StepBy cd desk (ReadsAt (receiver_word e) y) me o (Steps o.pass.number follows (Some wished)) me')
    takes_turn n new num st (m, p, r₀) wide at _ =
        let y : ℕ = get_or st.words (receiver_word e) 0 in let c = o.pass.number in
        let found : y ≡ turn_word (lane_to m e).lane.receiver = ap (λ (ws : List ℕ). get_or ws (receiver_word e) 0) r₀.words_are ∙ seen_receiver cd desk z m p e in
        let rests : IsCallOf m p c (Rests e) = subst (IsCallOf m p c) call (r₀.turns.calls id o.place o.pass (me.0, at, o.here)) in
        let held : y ≤ 65 = subst (λ (k : ℕ). k ≤ 65) (sym found) (receiver_word_most desk m e r₀.numbers.many r₀.sound) in
        exchanged y 0 new (λ f. (w : View) × (a : Act Slot) × Valid st.homes me.1 a × WordsRule cd desk z (stepped st (receiver_word e) f id me.1 w a) × (TakeBeginsBy me o e follows first y (w, carried_after me.1 a) × (y ≤ 65) × StepBy cd desk (ReadsAt (receiver_word e) y) me o (Steps c follows (Some wished)) (w, carried_after me.1 a)))
        (λ hit.
        let free : (lane_to m e).lane.receiver ≡ turn.Free = free_if (lane_to m e).lane.receiver (sym found ∙ hit) in
        let r : Shows cd desk z st m 0 = ⊎_elim (λ (none_reset : p ≡ 0). subst (Shows cd desk z st m) none_reset r₀)
        (λ (still : IsStill m). absurd (true-false (ap is_free (sym free ∙ still_receiver desk m e still.1)))) r₀.turns.still in
        let all = work_free st m r at free in
        (all.0, all.1, all.2, subst (λ (k : ℕ). WordsRule cd desk z (stepped st (receiver_word e) k id me.1 all.0 all.1)) (sym num) all.3, (((λ _. all.4), λ never. absurd (never hit)), held, all.5)))
        (λ miss.
        let same : m ≡ after_deed desk m (Steps c follows (Some wished)) = sym (same_lane m e)
        ∙ (ap (λ (t : Turn Receiving). with_lane m e (with_receiver (lane_to m e) t)) (sym (not_free desk (lane_to m e).lane.receiver c (record { follows = follows; work = first }) (λ none. miss (found ∙ none))))
        ∙ work_deed m e c rests.0) in let may = work_may m p e c (fits st m p r₀ at) rests in (
          me.0,
          keeps,
          tt,
          stays cd desk z st m p r₀ (receiver_word e) y id me.1 me.0 (Steps c follows (Some wished)) at refl may same,
          (
            ((λ hit. absurd (miss hit)), λ _. refl),
            held,
            busy_by cd desk z st m p r₀ id (receiver_word e) me o e (Steps c follows (Some wished)) (found ∙ receiver_of m e) call at may same,
          ),
        ))

module _ {B : Type 0} {kc : Coded B} {kz : DeskTables} (cd : Coded (PlacedDesk kc kz)) (desk : DeskMeaning (PlacedDesk kc kz)) (z : LinkSizes) where
  -- a load after which the receiver's turn alone is another, with the same holder, whose list becomes this one
  receiver_noting : (st : State Slot View) (m : LaneLink (RingState (PlacedDesk kc kz))) (r : Shows cd desk z st m 0) (e : End) (t t' : Turn Receiving) → (lane_to m e).lane.receiver ≡ t
      → (i id : ℕ) (me : SeatState) (o : Mover me.0) (call : Call) (own : List Event) → get_elem? st.views id ≡ some me.0 → holder t ≡ Some o.pass.number → is_manager t ≡ false → receiver_is_out t ≡ false → end_of m.callers o.pass.number ≡ Some e
      → (ring_form desk).received_on (with_receiver (lane_to m e) t) m.era ≡ with_receiver (lane_to m e) t'
      → turn_word t' ≡ turn_word t → ((y : Slot) → home_if t' y ≡ home_if t y) → receiver_is_out t' ≡ false
      → IsCallOf (with_lane m e (with_receiver (lane_to m e) t')) 0 o.pass.number call → IsHistory (with_lane m e (with_receiver (lane_to m e) t')) o.pass.number o.pass.first own → IsOfNow m.era.inc o.pass.number o.pass.hands own → KeepsMinds (Steps o.pass.number 0 None) o.pass.call call → holder t' ≡ Some o.pass.number
      → WordsRule cd desk z (stepped st i (get_or st.words i 0) id me.1 (with_pass me.0 o (with_step o.pass call own o.pass.hands) (Some (copied cd (with_lane m e (with_receiver (lane_to m e) t'))))) keeps)
      × StepBy cd desk (ReadsAt i (get_or st.words i 0)) me o (Steps o.pass.number 0 None) (with_pass me.0 o (with_step o.pass call own o.pass.hands) (Some (copied cd (with_lane m e (with_receiver (lane_to m e) t')))), me.1)
  receiver_noting st m r e t t' is i id me o call own at mine bare inside user does turns home out has history latest minds held =
      let s = lane_to m e in let c = o.pass.number in
      let here : has_call s.lane.receiver c ≡ true = has_of s.lane.receiver c (ap holder is ∙ mine) (ap is_manager is ∙ bare) in
      let may = receive_may desk m e c 0 user here in
      let deed : with_lane m e (with_receiver s t') ≡ after_deed desk m (Steps c 0 None) = ap (with_lane m e) (sym (ap (λ (u : RingState (PlacedDesk kc kz)). (ring_form desk).received_on u m.era) (λ k. with_receiver s (is k)) ∙ does)) ∙ receive_deed desk m e c 0 user (no_send desk m e c r.sound here) in (
        lane_looks cd desk z st m r e s (with_receiver s t') refl i (get_or st.words i 0) id me.1 me.0 o call own keeps (Steps c 0 None) (shelf_to r.shelves e) at
            may
            deed
            (loaded cd desk z st m r e i s refl ∙ ap (λ (k : ℕ). words_at e (era_word m.era) (record (lane_words s) { receiver = k }) (lane_words (lane_to m (other e)))) (ap turn_word is ∙ sym turns))
            (ap (λ (h : Option_of Slot). homes_at e (record (lane_homes s (shelf_to r.shelves e)) { receiver = h }) (lane_homes (lane_to m (other e)) (shelf_to r.shelves (other e))))
            (ap (λ (u : Turn Receiving). home_if u (Receiver (receiver_side s))) is ∙ sym (home (Receiver (receiver_side s)))))
            (shelved_receiver s (with_receiver s t') (shelf_to r.shelves e) (ap receiver_is_out is ∙ inside) out refl refl refl refl refl refl ((buffers_in r) e))
            has (others_receive desk m e (with_receiver s t') t c is mine bare refl refl refl (λ k apart. no_call desk t' c k held apart)) refl refl refl refl history latest minds,
        read_by i cd desk z st m r id me o (with_step o.pass call own o.pass.hands) (Steps c 0 None) (with_lane m e (with_receiver s t')) me.1 at may deed has,
      )

  -- a load after which the receiver's turn alone is another, with the same holder
  receiver_only : (st : State Slot View) (m : LaneLink (RingState (PlacedDesk kc kz))) (r : Shows cd desk z st m 0) (e : End) (t t' : Turn Receiving) → (lane_to m e).lane.receiver ≡ t
      → (i id : ℕ) (me : SeatState) (o : Mover me.0) (call : Call) → get_elem? st.views id ≡ some me.0 → holder t ≡ Some o.pass.number → is_manager t ≡ false → receiver_is_out t ≡ false → end_of m.callers o.pass.number ≡ Some e
      → (ring_form desk).received_on (with_receiver (lane_to m e) t) m.era ≡ with_receiver (lane_to m e) t'
      → turn_word t' ≡ turn_word t → ((y : Slot) → home_if t' y ≡ home_if t y) → receiver_is_out t' ≡ false
      → IsCallOf (with_lane m e (with_receiver (lane_to m e) t')) 0 o.pass.number call → KeepsMinds (Steps o.pass.number 0 None) o.pass.call call → holder t' ≡ Some o.pass.number
      → WordsRule cd desk z (stepped st i (get_or st.words i 0) id me.1 (with_pass me.0 o (with_call o.pass call) (Some (copied cd (with_lane m e (with_receiver (lane_to m e) t'))))) keeps)
      × StepBy cd desk (ReadsAt i (get_or st.words i 0)) me o (Steps o.pass.number 0 None) (with_pass me.0 o (with_call o.pass call) (Some (copied cd (with_lane m e (with_receiver (lane_to m e) t')))), me.1)
  receiver_only st m r e t t' is i id me o call at mine bare inside user does turns home out has minds held =
      receiver_noting st m r e t t' is i id me o call o.pass.own at mine bare inside user does turns home out has
      (history_kept m e (with_receiver (lane_to m e) t') refl refl (le_refl _) o.pass.number o.pass.first o.pass.own (r.histories.own id o.place o.pass (me.0, at, o.here))) (r.histories.latest id o.place o.pass (me.0, at, o.here)) minds held

  -- step 2 of a take
  pub takes_era : (n id : ℕ) (me : SeatState) (o : Mover me.0) (e : End) (c f : ℕ) (x : ReceiverSide) (b : ℕ) (msg : List ℕ) → o.pass.call ≡ Receives e (turn.Taken c (record { follows = f; work = work.Take take_stage.Turn })) x b msg
      → Allows (WordsRule cd desk z) n id me 1 (λ y. y) (λ y me'. TakeLoadsEraBy me o e c (record { follows = f; work = work.Take take_stage.Turn }) x b msg y me' × StepBy cd desk (ReadsAt 1 y) me o (Steps o.pass.number 0 None) me')
  takes_era n id me o e c f x b msg call st (m, p, r₀) wide at _ =
      let q : Receiving = record { follows = f; work = work.Take take_stage.Turn } in let t : Turn Receiving = turn.Taken c q in
      let h : IsCallOf m p o.pass.number (Receives e t x b msg) = subst (IsCallOf m p o.pass.number) call (r₀.turns.calls id o.place o.pass (me.0, at, o.here)) in
      let is = h.1.0 in let r = at_zero' cd desk z st m p e t is refl r₀ in let live = is_live_in m.era f in let q' : Receiving = record q { work = work.Take take_stage.Era } in let ended = end.Dead m.era in
      let t' : Turn Receiving = after_take_era m.era c q in let w : Call = Receives e t' x b msg in
      let word : get_or st.words 1 0 ≡ era_word m.era = ap (λ (ws : List ℕ). get_or ws 1 0) r.words_are in
      let all = receiver_only st m r e t t' is 1 id me o w at h.1.1 refl refl h.0 refl (et_word live c q' ended) (et_home live c q' ended) (et_out live c q' ended refl)
      (here_receives desk m e (with_receiver (lane_to m e) t') o.pass.number t' x b msg h.0
      (refl, et_holder live c q' ended ∙ h.1.1, h.1.2, (λ out. absurd (true-false (sym out ∙ et_out live c q' ended refl))), et_bare live c q' ended) (et_current live c f m.era refl))
      (refl, ((λ i. ap (has_sender_for_manager i) call), λ i. ap (has_for_manager i) call)) (et_holder live c q' ended ∙ h.1.1) in (
        _,
        keeps,
        tt,
        all.0,
        ((m.era, word, r.numbers.short, refl), all.1),
      )

  index_seen : (e : End) (era : ℕ) (a b : LaneWords) → get_or (words_at e era a b) (forward_word e) 0 ≡ a.forward_index
  index_seen side.Host era a b = refl
  index_seen side.Remote era a b = refl

  -- step 3 of a take
  pub takes_look : (n id : ℕ) (me : SeatState) (o : Mover me.0) (e : End) (c f : ℕ) (x : ReceiverSide) (b : ℕ) (msg : List ℕ) → o.pass.call ≡ Receives e (turn.Taken c (record { follows = f; work = work.Take take_stage.Era })) x b msg
      → Allows (WordsRule cd desk z) n id me (forward_word e) (λ y. y) (λ y me'. TakeLooksBy me o (sizes_at z e) e c (record { follows = f; work = work.Take take_stage.Era }) x b msg y me' × StepBy cd desk (ReadsAt (forward_word e) y) me o (Steps o.pass.number 0 None) me')
  takes_look n id me o e c f x b msg call st (m, p, r₀) wide at _ =
      let q : Receiving = record { follows = f; work = work.Take take_stage.Era } in let t : Turn Receiving = turn.Taken c q in
      let h : IsCallOf m p o.pass.number (Receives e t x b msg) = subst (IsCallOf m p o.pass.number) call (r₀.turns.calls id o.place o.pass (me.0, at, o.here)) in
      let is = h.1.0 in let r = at_zero' cd desk z st m p e t is refl r₀ in let s = lane_to m e in let lane = s.lane.lane in let a = length lane.accepted in let hd = length lane.takers in
      let sound : IsSoundRings s = rings_to m e (rings_in r) in let side : x.handed ≡ hd = ap (λ (u : ReceiverSide). u.handed) h.1.2 in let sizes = sizes_is cd desk z st m r e in let cap : s.rings.sizes.capacity ≡ (sizes_at z e).capacity = ap (λ (u : RingSizes). u.capacity) sizes in
      let back = sound.counted.back in let behind = sound.counted.behind in let out = sound.counted.out in let q' : Receiving = record q { work = work.Take take_stage.Look } in let ended = end.Empty a in
      let t' : Turn Receiving = after_take_look lane c q in let w : Call = Receives e t' x b msg in
      let own = Count e f (Waiting x.handed a) ∷ o.pass.own in let past = r.histories.own id o.place o.pass (me.0, at, o.here) in
      let saw = seen_now m e o.pass.number o.pass.first f o.pass.own (h.2 refl) past in let saw_handed = saw.0.handed in
      let word : get_or st.words (forward_word e) 0 ≡ s.rings.forward_index = ap (λ (ws : List ℕ). get_or ws (forward_word e) 0) (words_here cd desk z st m r e) ∙ index_seen e (era_word m.era) (lane_words s) (lane_words (lane_to m (other e))) in
      let all = receiver_noting st m r e t t' is (forward_word e) id me o w own at h.1.1 refl refl h.0 refl (es_word (eqb hd a) c q' ended) (es_home (eqb hd a) c q' ended) (es_out (eqb hd a) c q' ended refl)
      (here_receives desk m e (with_receiver s t') o.pass.number t' x b msg h.0
      (refl, es_holder (eqb hd a) c q' ended ∙ h.1.1, h.1.2, (λ out. absurd (true-false (sym out ∙ es_out (eqb hd a) c q' ended refl))), es_bare (eqb hd a) c q' ended) (es_current (eqb hd a) c f m.era.inc ended (h.2 refl)))
      (history_counted m e (with_receiver s t') refl refl (le_refl _) o.pass.number o.pass.first f (Waiting x.handed a) o.pass.own (h.2 refl) (record { accepted = le_refl a; handed = omega (arith, side); returned = omega arith }) past) (inr (inr (h.2 refl)))
      (refl, ((λ i. ap (has_sender_for_manager i) call), λ i. ap (has_for_manager i) call)) (es_holder (eqb hd a) c q' ended ∙ h.1.1) in (
        _,
        keeps,
        tt,
        all.0,
        (
          (
            a,
            word ∙ sound.forward_index,
            omega (arith, side, behind),
            omega (arith, side, out, cap, back),
            record { not_below = (omega (arith, saw_handed, side), saw.0.accepted); none_later = saw.1 },
            λ i. (with_pass me.0 o (with_step o.pass (Receives e (take_look_turn (sym side i) a c q) x b msg) own o.pass.hands) (Some (copied cd (with_lane m e (with_receiver s t')))), me.1),
          ),
          all.1,
        ),
      )
