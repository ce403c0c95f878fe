-- Step 1 of a send: one attempt to take the sender's turn, on either lane. It needs that the caller is in no call, which its view says.
use Rattle.link_words.specs.Parts.{has_for_manager, has_sender_for_manager}
use Rattle.link_words.specs.declared.codes.DeskTables.{DeskTables}
use Rattle.link_words.specs.PlacedDesks.{PlacedDesk}
use Rattle.std.proofs.Common.{◌≡◌, ◌≢◌, ℕ, suc, ◌≤◌, Bool, true, false, eqb, ◌||◌, List, [], ◌∷◌, length, get_or, refl, sym, ap, ◌∙◌, subst, ⊎_elim}
use Rattle.std.specs.Prelude.{Option, Some}
use mathlib.Core.Option.{some, none}
use mathlib.Core.Path.{Path}
use lib.ListN.{get_elem?}
use prog.Atomic.{either}
use Rattle.atomic_table.specs.Table.{State, Me, Act, keeps, takes, Valid, carried_after, stepped, Allows}
use Rattle.atomic_table.proofs.Lists.{exchanged}
use Rattle.rp_base.specs.declared.kinds.End.{End}
use Rattle.rp_base.specs.declared.kinds.End.TheVariants as side
use Rattle.rp_base.specs.declared.limits.TheConstants.{MESSAGE_MOST, BOOK_MOST}
use Rattle.lane_model.specs.declared.lane_links.LaneLink.{LaneLink}
use Rattle.lane_model.specs.declared.stages.Turn.{Turn}
use Rattle.lane_model.specs.declared.stages.Turn.TheVariants as turn
use Rattle.lane_model.specs.declared.stages.Sending.{Sending}
use Rattle.lane_model.specs.declared.stages.SendStage.TheVariants as stage
use Rattle.lane_model.specs.declared.calls.Wish.TheVariants as wish
use base.Stored.{Coded}
use Rattle.lane_model.specs.Desks.{DeskMeaning}
use Rattle.lane_model.specs.Lanes.{has_call, taken_by}
use Rattle.lane_model.specs.Links.{end_of, link_of, lanes_of, lanes_step, on_lanes}
use Rattle.lane_model.specs.Conditions.{MayEndStep, is_in_call}
use Rattle.ring_core.specs.declared.states.RingState.{RingState}
use Rattle.ring_core.specs.RingSteps.{ring_form}
use Rattle.link_words.specs.declared.rule.Slot.{Slot}
use Rattle.link_words.specs.declared.rule.Slot.TheVariants.{Sender}
use Rattle.link_words.specs.declared.rule.SenderSide.{SenderSide}
use Rattle.link_words.specs.declared.rule.LinkSizes.{LinkSizes}
use Rattle.link_words.specs.declared.rule.Call.{Call}
use Rattle.link_words.specs.declared.rule.Call.TheVariants.{Rests, Sends}
use Rattle.link_words.specs.declared.rule.View.{View}
use Rattle.link_words.specs.Words.{other, lane_to, with_lane, era_word, turn_word, lane_words, words_of, lane_homes, home_if, shelf_to, sender_side, sender_word, sender_slot, with_turn}
use Rattle.link_words.specs.Deeds.{Steps, after_deed, MayDo, IsStill}
use Rattle.link_words.specs.Rule.{IsCallOf, fresh_block, Shows, WordsRule}
use Rattle.link_words.specs.Parts.{HoldsBuffers}
use Rattle.link_words.specs.Passes.{Mover, with_pass, with_call}
use Rattle.link_words.specs.Calls.{SeatState}
use Rattle.link_words.proofs.Frames.{turn_set, side_found, side_set, same_lane}
use Rattle.link_words.proofs.LaneSteps.{still_sender, no_call, here_sends, others_free_send, lane_moves}
use Rattle.link_words.proofs.Sends.{true-false, shelved_turn}
use Rattle.link_words.proofs.Closes.{stays}
use Rattle.link_words.proofs.Buffers.{homes_here}
use Rattle.link_words.proofs.TurnWords.{sender_word_most}
use Rattle.link_words.proofs.Held.{free_if, is_free}
use Rattle.link_words.proofs.Exact.{StepBy, busy_by, ReadsAt, read_by}
use Rattle.link_words.proofs.Parts.{accepted_most, rings_at, buffers_in}

start_of : (follows : ℕ) (message : List ℕ) → Sending
start_of follows message = record { follows = follows; message = message; stage = stage.Turn }

module _ {B : Type 0} {kc : Coded B} {kz : DeskTables} (desk : DeskMeaning (PlacedDesk kc kz)) where
  start_done : (m : LaneLink (RingState (PlacedDesk kc kz))) (e : End) (caller follows : ℕ) (message : List ℕ)
      → with_lane m e ((ring_form desk).after_send_start (lane_to m e) caller follows message) ≡ (on_lanes m (Some (other e)) (λ lanes. lanes_step (ring_form desk) desk m.era lanes caller follows (Some (wish.Send message)))).state
  start_done m side.Host caller follows message = refl
  start_done m side.Remote caller follows message = refl

  start_deed : (m : LaneLink (RingState (PlacedDesk kc kz))) (e : End) (caller follows : ℕ) (message : List ℕ) → end_of m.callers caller ≡ Some (other e)
      → with_lane m e ((ring_form desk).after_send_start (lane_to m e) caller follows message) ≡ after_deed desk m (Steps caller follows (Some (wish.Send message)))
  start_deed m e caller follows message user = start_done m e caller follows message
      ∙ ap (λ (o : Option End). (on_lanes m o (λ lanes. lanes_step (ring_form desk) desk m.era lanes caller follows (Some (wish.Send message)))).state) (sym user)

  pub or_false : (a b : Bool) → a ≡ false → b ≡ false → (a || b) ≡ false
  or_false true b x y = x
  or_false false b x y = y

  in_none : (m : LaneLink (RingState (PlacedDesk kc kz))) (p : ℕ) (e : End) (caller : ℕ) → IsCallOf m p caller (Rests (other e)) → is_in_call (lanes_of (link_of (ring_form desk) m) (other e)) caller ≡ false
  in_none m p side.Host caller rests = or_false (has_call m.to_host.lane.sender caller) (has_call m.to_remote.lane.receiver caller) rests.1 rests.2
  in_none m p side.Remote caller rests = or_false (has_call m.to_remote.lane.sender caller) (has_call m.to_host.lane.receiver caller) rests.1 rests.2

  start_may : (m : LaneLink (RingState (PlacedDesk kc kz))) (p : ℕ) (e : End) (caller follows : ℕ) (message : List ℕ) → length message ≤ MESSAGE_MOST → IsCallOf m p caller (Rests (other e)) → MayDo desk m (Steps caller follows (Some (wish.Send message)))
  start_may m p e caller follows message fits rests = record {
    may = subst (λ (o : Option End). MayEndStep (link_of (ring_form desk) m) o caller (Some (wish.Send message))) (sym rests.0) (in_none m p e caller rests, fits);
  }

  pub not_free : {C : Type 0} (t : Turn C) (caller : ℕ) (x : C) → turn_word t ≢ 0 → taken_by t caller x ≡ t
  not_free turn.Free caller x held = absurd (held refl)
  not_free (turn.Taken c y) caller x held = refl
  not_free (turn.Leaving c y) caller x held = refl
  not_free turn.Manager caller x held = refl

  pub seen_sender : (m : LaneLink (RingState (PlacedDesk kc kz))) (p : ℕ) (i : End) → get_or (words_of p (fresh_block desk m) m) (sender_word i) 0 ≡ turn_word (lane_to m i).lane.sender
  seen_sender m p side.Host = refl
  seen_sender m p side.Remote = refl

-- the word of a sender's turn
sender_of : {B : Type 0} {kc : Coded B} {kz : DeskTables} (m : LaneLink (RingState (PlacedDesk kc kz))) (e : End) → turn_word (lane_to m e).lane.sender ≡ get_or (words_of 0 [] m) (sender_word e) 0
sender_of m side.Host = refl
sender_of m side.Remote = refl

module _ {B : Type 0} {kc : Coded B} {kz : DeskTables} (cd : Coded (PlacedDesk kc kz)) (desk : DeskMeaning (PlacedDesk kc kz)) (z : LinkSizes) where
  abbrev pub SendBeginsBy : (me : SeatState) → Mover me.0 → End → ℕ → List ℕ → ℕ → SeatState → Type 0
  SendBeginsBy me o e follows message n me' =
      (n ≡ 0 → (x : SenderSide) × (x.accepted ≤ BOOK_MOST) × (me' ≡ (with_pass me.0 o (with_call o.pass (Sends e (turn.Taken o.pass.number (record { follows = follows; message = message; stage = stage.Turn })) x 0)) me'.0.copy, (sender_slot e, Sender x) ∷ me.1)))
      × (n ≢ 0 → me' ≡ me)

  starts_free : (id : ℕ) (me : SeatState) (o : Mover me.0) (e : End) (follows : ℕ) (message : List ℕ) → length message ≤ MESSAGE_MOST → o.pass.call ≡ Rests (other e) → (st : State Slot View) (m : LaneLink (RingState (PlacedDesk kc kz))) (r : Shows cd desk z st m 0) → get_elem? st.views id ≡ some me.0 → (lane_to m e).lane.sender ≡ turn.Free
      → (w : View) × (a : Act Slot) × Valid st.homes me.1 a × WordsRule cd desk z (stepped st (sender_word e) (suc o.pass.number) id me.1 w a)
      × ((x : SenderSide) × (x.accepted ≤ BOOK_MOST) × Path (Me Slot View) (w, carried_after me.1 a) (with_pass me.0 o (with_call o.pass (Sends e (turn.Taken o.pass.number (record { follows = follows; message = message; stage = stage.Turn })) x 0)) w.copy, (sender_slot e, Sender x) ∷ me.1))
      × StepBy cd desk (ReadsAt (sender_word e) (get_or st.words (sender_word e) 0)) me o (Steps o.pass.number follows (Some (wish.Send message))) (w, carried_after me.1 a)
  starts_free id me o e follows message fits call st m r at free =
      let c = o.pass.number in let rests : IsCallOf m 0 c (Rests (other e)) = subst (IsCallOf m 0 c) call (r.turns.calls id o.place o.pass (me.0, at, o.here)) in
      let s₀ = lane_to m e in let s = with_turn s₀ turn.Free in let is : s₀ ≡ s = λ k. with_turn s₀ (free k) in
      let t' : Turn Sending = turn.Taken c (record { follows = follows; message = message; stage = stage.Turn }) in let s' = with_turn s₀ t' in
      let x = sender_side s₀ in let w : Call = Sends e t' x 0 in let hb = lane_homes (lane_to m (other e)) (shelf_to r.shelves (other e)) in
      let may = start_may desk m 0 e c follows message fits rests in
      let deed : with_lane m e s' ≡ after_deed desk m (Steps c follows (Some (wish.Send message))) = ap (λ (t : Turn Sending). with_lane m e (with_turn s₀ (taken_by t c (record { follows = follows; message = message; stage = stage.Turn })))) (sym free) ∙ start_deed desk m e c follows message rests.0 in
      let mine : IsCallOf (with_lane m e s') 0 c w = here_sends desk m e s' c t' x 0 rests.0 (refl, refl, refl, λ out. absurd (true-false (sym out))) (λ past. absurd (true-false (sym past))) in (
        _,
        takes (sender_slot e) (Sender x),
        ap (λ hs. get_elem? hs (sender_slot e)) (homes_here cd desk z st m r e) ∙ (side_found e _ _ ∙ ap (λ (t : Turn Sending). some (home_if t (Sender x))) free),
        lane_moves cd desk z st m r e s s' is (sender_word e) (suc c) id me.1 me.0 o w (takes (sender_slot e) (Sender x)) (Steps c follows (Some (wish.Send message))) (shelf_to r.shelves e) at
            may
            deed
            (turn_set e (era_word m.era) (suc c) (lane_words s) (lane_words (lane_to m (other e))))
            (side_set e none (lane_homes s (shelf_to r.shelves e)) hb)
            (shelved_turn cd desk z s t' (shelf_to r.shelves e) refl (subst (λ (u : RingState (PlacedDesk kc kz)). HoldsBuffers u (shelf_to r.shelves e)) is ((buffers_in r) e)))
            mine
            (λ k apart. others_free_send desk m e s' free refl refl refl (λ _. refl) k (no_call desk t' c k refl apart))
            refl refl refl refl (refl, ((λ i. ap (has_sender_for_manager i) call), λ i. ap (has_for_manager i) call)),
        (x, accepted_most s₀ (rings_at r e), refl),
        read_by (sender_word e) cd desk z st m r id me o (with_call o.pass w) (Steps c follows (Some (wish.Send message))) (with_lane m e s') ((sender_slot e, Sender x) ∷ me.1) at may deed mine,
      )

  pub starts : (n id : ℕ) (me : SeatState) (o : Mover me.0) (e : End) (follows new : ℕ) (message : List ℕ) → length message ≤ MESSAGE_MOST → o.pass.call ≡ Rests (other e) → new ≡ suc o.pass.number
      → Allows (WordsRule cd desk z) n id me (sender_word e) (λ y. either (eqb y 0) new y) (λ y me'. SendBeginsBy me o e follows message y me' × (y ≤ 65) × StepBy cd desk (ReadsAt (sender_word e) y) me o (Steps o.pass.number follows (Some (wish.Send message))) me')
  starts n id me o e follows new message fits call num st (m, p, r₀) wide at _ =
      let y : ℕ = get_or st.words (sender_word e) 0 in let c = o.pass.number in
      let found : y ≡ turn_word (lane_to m e).lane.sender = ap (λ (ws : List ℕ). get_or ws (sender_word e) 0) r₀.words_are ∙ seen_sender desk m p e in
      let rests : IsCallOf m p c (Rests (other e)) = subst (IsCallOf m p c) call (r₀.turns.calls id o.place o.pass (me.0, at, o.here)) in
      let held : y ≤ 65 = subst (λ (k : ℕ). k ≤ 65) (sym found) (sender_word_most desk m e r₀.numbers.many r₀.sound) in
      exchanged y 0 new (λ f. (w : View) × (a : Act Slot) × Valid st.homes me.1 a × WordsRule cd desk z (stepped st (sender_word e) f id me.1 w a) × (SendBeginsBy me o e follows message y (w, carried_after me.1 a) × (y ≤ 65) × StepBy cd desk (ReadsAt (sender_word e) y) me o (Steps c follows (Some (wish.Send message))) (w, carried_after me.1 a)))
      (λ hit.
      let free : (lane_to m e).lane.sender ≡ turn.Free = free_if (lane_to m e).lane.sender (sym found ∙ hit) in
      let r : Shows cd desk z st m 0 = ⊎_elim (λ (none_reset : p ≡ 0). subst (Shows cd desk z st m) none_reset r₀)
      (λ (still : IsStill m). absurd (true-false (ap is_free (sym free ∙ still_sender desk m e still.1)))) r₀.turns.still in
      let all = starts_free id me o e follows message fits call st m r at free in
      (all.0, all.1, all.2, subst (λ (k : ℕ). WordsRule cd desk z (stepped st (sender_word e) k id me.1 all.0 all.1)) (sym num) all.3, (((λ _. all.4), λ never. absurd (never hit)), held, all.5)))
      (λ miss.
      let same : m ≡ after_deed desk m (Steps c follows (Some (wish.Send message))) = sym (same_lane m e)
      ∙ (ap (λ (t : Turn Sending). with_lane m e (with_turn (lane_to m e) t)) (sym (not_free desk (lane_to m e).lane.sender c (record { follows = follows; message = message; stage = stage.Turn }) (λ none. miss (found ∙ none))))
      ∙ start_deed desk m e c follows message rests.0) in (
        me.0,
        keeps,
        tt,
        stays cd desk z st m p r₀ (sender_word e) y id me.1 me.0 (Steps c follows (Some (wish.Send message))) at refl (start_may desk m p e c follows message fits rests) same,
        (
          ((λ hit. absurd (miss hit)), λ _. refl),
          held,
          busy_by cd desk z st m p r₀ id (sender_word e) me o (other e) (Steps c follows (Some (wish.Send message))) (found ∙ sender_of m e) call at (start_may desk m p e c follows message fits rests) same,
        ),
      ))
