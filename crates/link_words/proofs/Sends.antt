-- Each step of a send is one of the ring form, on either lane.
use Rattle.link_words.proofs.Keepers.{KeepsMinds}
use Rattle.link_words.specs.Parts.{has_for_manager, has_sender_for_manager}
use Rattle.link_words.specs.declared.codes.DeskTables.{DeskTables}
use Rattle.link_words.specs.PlacedDesks.{PlacedDesk}
use Rattle.std.proofs.Common.{◌≡◌, ℕ, suc, Bool, true, false, cond, eqb, ◌&&◌, List, get_or, set, refl, sym, ap, ◌∙◌, subst, ⊎_elim, eq-eqb, le_refl}
use Rattle.std.specs.Prelude.{Option, Some, None}
use mathlib.Core.Option.{some, none}
use mathlib.Core.Path.{Path}
use Rattle.std.specs.Option.{unwrap_or}
use Rattle.std.proofs.lemmas.Bool.{eqb-true}
use Rattle.link_words.specs.Histories.{IsCurrent, IsOfNow}
use mathlib.Core.Option.{Option as Option_of}
use lib.ListN.{get_elem?}
use Rattle.atomic_table.specs.Table.{State, keeps, stepped, Allows}
use Rattle.rp_base.specs.declared.kinds.Era.{Era}
use Rattle.rp_base.specs.declared.kinds.End.{End}
use Rattle.rp_base.specs.declared.kinds.End.TheVariants as side
use Rattle.lane_model.specs.declared.lane_links.LaneLink.{LaneLink}
use Rattle.lane_model.specs.declared.stages.Turn.{Turn}
use Rattle.lane_model.specs.declared.stages.Turn.TheVariants as turn
use Rattle.lane_model.specs.declared.stages.Sending.{Sending}
use Rattle.lane_model.specs.declared.stages.SendStage.TheVariants as stage
use Rattle.lane_model.specs.declared.calls.CallEnd.TheVariants as end
use base.Stored.{Coded}
use Rattle.lane_model.specs.Desks.{DeskMeaning}
use Rattle.lane_model.specs.Lanes.{holder, has_call, is_live_in}
use Rattle.lane_model.specs.Sends.{after_send_era}
use Rattle.lane_model.proofs.Steps.{same}
use Rattle.ring_core.specs.declared.states.RingState.{RingState}
use Rattle.ring_core.specs.Owners.{sender_is_out}
use Rattle.ring_core.specs.RingSteps.{ring_form}
use Rattle.link_words.specs.declared.rule.Slot.{Slot}
use Rattle.link_words.specs.declared.rule.Slot.TheVariants.{Sender}
use Rattle.link_words.specs.declared.rule.SenderSide.{SenderSide}
use Rattle.link_words.specs.declared.rule.LinkSizes.{LinkSizes}
use Rattle.link_words.specs.declared.rule.Call.{Call}
use Rattle.link_words.specs.declared.rule.Call.TheVariants.{Sends}
use Rattle.link_words.specs.declared.rule.Event.{Event}
use Rattle.link_words.specs.declared.rule.View.{View}
use Rattle.link_words.specs.Turns.{is_manager}
use Rattle.link_words.specs.Words.{other, lane_to, with_lane, era_word, turn_word, LaneWords, lane_words, words_at, home_if, lane_homes, homes_at, shelf_to, sender_side, with_turn}
use Rattle.link_words.specs.Deeds.{Deed, Steps, after_deed, MayDo, IsStill}
use Rattle.link_words.specs.Rule.{IsCallOf, IsHistory, Shows, WordsRule}
use Rattle.link_words.specs.Parts.{has_for_manager, HoldsBuffers}
use Rattle.link_words.specs.Codes.{copied}
use Rattle.link_words.specs.Passes.{Mover, with_pass, with_call}
use Rattle.link_words.specs.Calls.{SeatState}
use Rattle.link_words.proofs.Tells.{SendLoadsEraBy}
use Rattle.link_words.proofs.Exact.{ReadsAt, StepBy, read_by}
use Rattle.link_words.proofs.Kept.{send_deed, send_may}
use Rattle.link_words.proofs.LaneSteps.{still_sender, no_call, others_send, here_sends, lane_looks, with_step}
use Rattle.link_words.proofs.Books.{history_kept}
use Rattle.link_words.proofs.Parts.{buffers_in}

pub some_number : (a b : ℕ) → Path (Option ℕ) (Some a) (Some b) → a ≡ b
some_number a b same = ap (λ o. unwrap_or o a) same

and_left : (a b : Bool) → (a && b) ≡ true → a ≡ true
and_left true b both = refl
and_left false b both = both

-- a call that found its incarnation live follows the current one
pub live_now : (era : Era) (f : ℕ) → is_live_in era f ≡ true → f ≡ era.inc
live_now era f live = sym (eqb-true era.inc f (and_left (eqb era.inc f) era.is_live live))

pub has_of : {C : Type 0} (t : Turn C) (number : ℕ) → holder t ≡ Some number → is_manager t ≡ false → has_call t number ≡ true
has_of turn.Free number held bare = absurd (cc)
has_of (turn.Taken caller call) number held bare = eq-eqb caller number (some_number caller number held)
has_of (turn.Leaving caller end) number held bare = eq-eqb caller number (some_number caller number held)
has_of turn.Manager number held bare = absurd (cc)

pub era_again : (e : End) (era : ℕ) (a b : LaneWords) → set (words_at e era a b) 1 era ≡ words_at e era a b
era_again side.Host era a b = refl
era_again side.Remote era a b = refl

pub true-false : true ≡ false → ⊥
true-false e = absurd (cc)

module _ {B : Type 0} {kc : Coded B} {kz : DeskTables} (cd : Coded (PlacedDesk kc kz)) (desk : DeskMeaning (PlacedDesk kc kz)) (z : LinkSizes) where
  -- while a call has a turn, nothing is reset
  pub at_zero : (st : State Slot View) (m : LaneLink (RingState (PlacedDesk kc kz))) (p : ℕ) (e : End) (t : Turn Sending) → (lane_to m e).lane.sender ≡ t → is_manager t ≡ false → Shows cd desk z st m p → Shows cd desk z st m 0
  at_zero st m p e t is bare r = ⊎_elim
      (λ (none_reset : p ≡ 0). subst (Shows cd desk z st m) none_reset r)
      (λ (still : IsStill m). absurd (true-false (ap is_manager (sym (still_sender desk m e still.1) ∙ is) ∙ bare)))
      r.turns.still

  pub shelved_turn : (s : RingState (PlacedDesk kc kz)) (t' : Turn Sending) (l : List (Option_of Slot)) → sender_is_out t' ≡ sender_is_out s.lane.sender → HoldsBuffers s l → HoldsBuffers (with_turn s t') l
  shelved_turn s t' l out q = record { long = q.long; full = q.full; home = λ id low a b. q.home id low (λ o. a (out ∙ o)) b }

  -- a load after which the sender's turn alone is another, with the same holder, whose list becomes this one
  pub turn_noting : (st : State Slot View) (m : LaneLink (RingState (PlacedDesk kc kz))) (r : Shows cd desk z st m 0) (e : End) (t t' : Turn Sending) → (lane_to m e).lane.sender ≡ t
      → (i n id : ℕ) (cs : List (ℕ × Slot)) (v : View) (o : Mover v) (call : Call) (own : List Event) (d : Deed) → get_elem? st.views id ≡ some v → holder t ≡ Some o.pass.number
      → MayDo desk m d → with_lane m e (with_turn (lane_to m e) t') ≡ after_deed desk m d
      → set (words_at e (era_word m.era) (lane_words (lane_to m e)) (lane_words (lane_to m (other e)))) i n ≡ words_at e (era_word m.era) (lane_words (lane_to m e)) (lane_words (lane_to m (other e)))
      → turn_word t' ≡ turn_word t → ((y : Slot) → home_if t' y ≡ home_if t y) → sender_is_out t' ≡ sender_is_out t
      → IsCallOf (with_lane m e (with_turn (lane_to m e) t')) 0 o.pass.number call → IsHistory (with_lane m e (with_turn (lane_to m e) t')) o.pass.number o.pass.first own → IsOfNow m.era.inc o.pass.number o.pass.hands own → KeepsMinds d o.pass.call call → holder t' ≡ Some o.pass.number
      → WordsRule cd desk z (stepped st i n id cs (with_pass v o (with_step o.pass call own o.pass.hands) (Some (copied cd (with_lane m e (with_turn (lane_to m e) t'))))) keeps)
  turn_noting st m r e t t' is i n id cs v o call own d at mine may deed word turns home out has history latest minds held =
      let s = lane_to m e in
      lane_looks cd desk z st m r e s (with_turn s t') refl i n id cs v o call own keeps d (shelf_to r.shelves e) at may deed
      (word ∙ ap (λ (k : ℕ). words_at e (era_word m.era) (record (lane_words s) { sender = k }) (lane_words (lane_to m (other e)))) (ap turn_word is ∙ sym turns))
      (ap (λ (h : Option_of Slot). homes_at e (record (lane_homes s (shelf_to r.shelves e)) { sender = h }) (lane_homes (lane_to m (other e)) (shelf_to r.shelves (other e))))
      (ap (λ (u : Turn Sending). home_if u (Sender (sender_side s))) is ∙ sym (home (Sender (sender_side s)))))
      (shelved_turn s t' (shelf_to r.shelves e) (out ∙ ap sender_is_out (sym is)) ((buffers_in r) e))
      has (others_send desk m e (with_turn s t') t o.pass.number is mine refl refl refl (λ _. refl) (λ k apart. no_call desk t' o.pass.number k held apart)) refl refl refl refl history latest minds

  -- a load after which the sender's turn alone is another, with the same holder
  pub turn_only : (st : State Slot View) (m : LaneLink (RingState (PlacedDesk kc kz))) (r : Shows cd desk z st m 0) (e : End) (t t' : Turn Sending) → (lane_to m e).lane.sender ≡ t
      → (i n id : ℕ) (cs : List (ℕ × Slot)) (v : View) (o : Mover v) (call : Call) (d : Deed) → get_elem? st.views id ≡ some v → holder t ≡ Some o.pass.number
      → MayDo desk m d → with_lane m e (with_turn (lane_to m e) t') ≡ after_deed desk m d
      → set (words_at e (era_word m.era) (lane_words (lane_to m e)) (lane_words (lane_to m (other e)))) i n ≡ words_at e (era_word m.era) (lane_words (lane_to m e)) (lane_words (lane_to m (other e)))
      → turn_word t' ≡ turn_word t → ((y : Slot) → home_if t' y ≡ home_if t y) → sender_is_out t' ≡ sender_is_out t
      → IsCallOf (with_lane m e (with_turn (lane_to m e) t')) 0 o.pass.number call → KeepsMinds d o.pass.call call → holder t' ≡ Some o.pass.number
      → WordsRule cd desk z (stepped st i n id cs (with_pass v o (with_call o.pass call) (Some (copied cd (with_lane m e (with_turn (lane_to m e) t'))))) keeps)
  turn_only st m r e t t' is i n id cs v o call d at mine may deed word turns home out has minds held =
      turn_noting st m r e t t' is i n id cs v o call o.pass.own d at mine may deed word turns home out has
      (history_kept m e (with_turn (lane_to m e) t') refl refl (le_refl _) o.pass.number o.pass.first o.pass.own (r.histories.own id o.place o.pass (v, at, o.here))) (r.histories.latest id o.place o.pass (v, at, o.here)) minds held

  -- what an era decides leaves the holder
  era_word_of : (b : Bool) (c : ℕ) (s : Sending) (era : Era) → turn_word (cond b (turn.Taken c (record s { stage = stage.Era })) (turn.Leaving c (end.Dead era))) ≡ suc c
  era_word_of true c s era = refl
  era_word_of false c s era = refl

  era_home_of : (b : Bool) (c : ℕ) (s : Sending) (era : Era) (y : Slot) → home_if (cond b (turn.Taken c (record s { stage = stage.Era })) (turn.Leaving c (end.Dead era))) y ≡ none
  era_home_of true c s era y = refl
  era_home_of false c s era y = refl

  era_out_of : (b : Bool) (c : ℕ) (s : Sending) (era : Era) → sender_is_out (cond b (turn.Taken c (record s { stage = stage.Era })) (turn.Leaving c (end.Dead era))) ≡ false
  era_out_of true c s era = refl
  era_out_of false c s era = refl

  era_holder_of : (b : Bool) (c : ℕ) (s : Sending) (era : Era) → holder (cond b (turn.Taken c (record s { stage = stage.Era })) (turn.Leaving c (end.Dead era))) ≡ Some c
  era_holder_of true c s era = refl
  era_holder_of false c s era = refl

  current_of : (b : Bool) (c : ℕ) (s : Sending) (era : Era) → is_live_in era s.follows ≡ b → IsCurrent (cond b (turn.Taken c (record s { stage = stage.Era })) (turn.Leaving c (end.Dead era))) era.inc
  current_of true c s era live = λ _. sym (eqb-true era.inc s.follows (and_left (eqb era.inc s.follows) era.is_live live))
  current_of false c s era live = tt

  -- step 2 of a send, in any era
  pub sends_era : (n id : ℕ) (me : SeatState) (o : Mover me.0) (e : End) (c f : ℕ) (message : List ℕ) (x : SenderSide) (b : ℕ) → o.pass.call ≡ Sends e (turn.Taken c (record { follows = f; message = message; stage = stage.Turn })) x b
      → Allows (WordsRule cd desk z) n id me 1 (λ y. y) (λ y me'. SendLoadsEraBy me o e c (record { follows = f; message = message; stage = stage.Turn }) x b y me' × StepBy cd desk (ReadsAt 1 y) me o (Steps o.pass.number 0 None) me')
  sends_era n id me o e c f message x b call st (m, p, r₀) wide at _ =
      let sending : Sending = record { follows = f; message = message; stage = stage.Turn } in let t : Turn Sending = turn.Taken c sending in
      let h : IsCallOf m p o.pass.number (Sends e t x b) = subst (IsCallOf m p o.pass.number) call (r₀.turns.calls id o.place o.pass (me.0, at, o.here)) in
      let is = h.1.0 in let r = at_zero st m p e t is refl r₀ in let live = is_live_in m.era f in
      let t' : Turn Sending = after_send_era m.era c sending in let w : Call = Sends e t' x b in
      let has : has_call (lane_to m e).lane.sender o.pass.number ≡ true = has_of (lane_to m e).lane.sender o.pass.number (ap holder is ∙ h.1.1) (ap is_manager is) in
      let word : get_or st.words 1 0 ≡ era_word m.era = ap (λ (ws : List ℕ). get_or ws 1 0) r.words_are in
      let m' = with_lane m e (with_turn (lane_to m e) t') in let leaves : (ring_form desk).sent_on (lane_to m e) m.era ≡ with_turn (lane_to m e) t' = λ i. (ring_form desk).sent_on (with_turn (lane_to m e) (is i)) m.era in
      let same_deed : m' ≡ after_deed desk m (Steps o.pass.number 0 None) = ap (with_lane m e) (sym leaves) ∙ send_deed desk m e o.pass.number 0 h.0 has in
      let may = send_may desk m e o.pass.number 0 h.0 has in
      let mine : IsCallOf m' 0 o.pass.number w = here_sends desk m e (with_turn (lane_to m e) t') o.pass.number t' x b h.0
      (refl, era_holder_of live c sending m.era ∙ h.1.1, h.1.2, λ out. absurd (true-false (sym out ∙ era_out_of live c sending m.era))) (current_of live c sending m.era refl) in (
        _,
        keeps,
        tt,
        turn_only st m r e t t' is 1 (get_or st.words 1 0) id me.1 me.0 o w (Steps o.pass.number 0 None) at h.1.1
            may
            same_deed
            (ap (set (words_at e (era_word m.era) (lane_words (lane_to m e)) (lane_words (lane_to m (other e)))) 1) word ∙ era_again e (era_word m.era) (lane_words (lane_to m e)) (lane_words (lane_to m (other e))))
            (era_word_of live c sending m.era) (era_home_of live c sending m.era) (era_out_of live c sending m.era)
            mine (refl, ((λ i. ap (has_sender_for_manager i) call), λ i. ap (has_for_manager i) call)) (era_holder_of live c sending m.era ∙ h.1.1),
        ((m.era, word, r.numbers.short, refl), read_by 1 cd desk z st m r id me o (with_call o.pass w) (Steps o.pass.number 0 None) m' me.1 at may same_deed mine),
      )
