-- A take's leave, and what a reclaim does to a caller that has the receiver's turn with no buffer out.
use Rattle.link_words.proofs.Keepers.{keepers_by}
use Rattle.link_words.specs.Parts.{has_for_manager, has_sender_for_manager}
use Rattle.link_words.specs.declared.codes.DeskTables.{DeskTables}
use Rattle.link_words.specs.PlacedDesks.{PlacedDesk}
use Rattle.std.proofs.Common.{◌≡◌, ℕ, Bool, true, false, cond, List, [], ◌∷◌, refl, sym, ap, ◌∙◌, subst, inl, inr}
use Rattle.std.specs.Prelude.{None}
use Rattle.std.specs.Prelude.{Some}
use mathlib.Core.Option.{some}
use Rattle.atomic_table.specs.Table.{gives, homes_after, Allows, rest}
use Rattle.rp_base.specs.declared.kinds.End.{End}
use Rattle.lane_model.specs.declared.stages.Turn.{Turn}
use Rattle.lane_model.specs.declared.stages.Turn.TheVariants as turn
use Rattle.lane_model.specs.declared.stages.Receiving.{Receiving}
use Rattle.lane_model.specs.declared.calls.CallEnd.{CallEnd}
use base.Stored.{Coded}
use Rattle.lane_model.specs.Desks.{DeskMeaning}
use Rattle.lane_model.specs.Lanes.{holder, has_call}
use Rattle.ring_core.specs.declared.states.RingState.{RingState}
use Rattle.ring_core.specs.Owners.{receiver_is_out}
use Rattle.ring_core.specs.RingSteps.{ring_form, hands_of_others}
use Rattle.link_words.specs.declared.rule.Slot.{Slot}
use Rattle.link_words.specs.declared.rule.Slot.TheVariants.{Receiver}
use Rattle.link_words.specs.declared.rule.ReceiverSide.{ReceiverSide}
use Rattle.link_words.specs.declared.rule.LinkSizes.{LinkSizes}
use Rattle.link_words.specs.declared.rule.Call.TheVariants.{Rests, Receives, EndsReceive}
use Rattle.link_words.specs.Words.{receiver_slot, other, lane_to, with_lane, era_word, lane_words, lane_homes, homes_at, shelf_to, receiver_side}
use Rattle.link_words.specs.Turns.{is_manager}
use Rattle.link_words.specs.Deeds.{Steps, EndsCall, Nothing, after_deed}
use Rattle.link_words.specs.Rule.{IsCallOf, WordsRule}
use Rattle.link_words.specs.Codes.{copied}
use Rattle.link_words.specs.Passes.{Mover, with_pass, with_call, with_call_and_hands}
use Rattle.link_words.specs.Calls.{SeatState}
use Rattle.link_words.proofs.Kept.{no_send, receive_deed, receive_may, end_receive_deed}
use Rattle.link_words.proofs.LaneSteps.{lane_moves, lane_moves_by, hands_kept}
use Rattle.link_words.proofs.Sends.{has_of, true-false}
use Rattle.link_words.proofs.Frames.{keepers_set, receiver_in}
use Rattle.link_words.proofs.Hands.{hands_none, hands_others, hands_here}
use Rattle.link_words.proofs.Takes.{with_receiver, receiver_turn_set, receiver_side_set, others_receive, receive_rests, at_zero'}
use Rattle.link_words.specs.Words.{receiver_word}
use Rattle.link_words.proofs.Held.{shelved_receiver}
use Rattle.link_words.proofs.Exact.{StepBy, write_by, ReadsAt, WritesAt}
use Rattle.link_words.proofs.SendEnds.{finds_closed}
use Rattle.link_words.proofs.Tells.{FindsClosedBy, LeavesEmpty}
use Rattle.link_words.proofs.Parts.{buffers_in}

module _ {B : Type 0} {kc : Coded B} {kz : DeskTables} (cd : Coded (PlacedDesk kc kz)) (desk : DeskMeaning (PlacedDesk kc kz)) (z : LinkSizes) where
  -- the last step of a call that has the receiver's turn
  pub leaves_take : (n id : ℕ) (me : SeatState) (o : Mover me.0) (e : End) (c : ℕ) (end : CallEnd) (x : ReceiverSide) (b : ℕ) (msg : List ℕ) → o.pass.call ≡ Receives e (turn.Leaving c end) x b msg → me.1 ≡ (receiver_slot e, Receiver x) ∷ rest me.1
      → Allows (WordsRule cd desk z) n id me (receiver_word e) (λ _. 0) (λ _ me'. (me' ≡ (with_pass me.0 o (with_call o.pass (Rests e)) me'.0.copy, rest me.1)) × StepBy cd desk (WritesAt (receiver_word e) 0) me o (Steps o.pass.number 0 None) me')
  leaves_take n id me o e c end x b msg call has_slot st (m, p, r₀) wide at _ =
      let t : Turn Receiving = turn.Leaving c end in
      let h : IsCallOf m p o.pass.number (Receives e t x b msg) = subst (IsCallOf m p o.pass.number) call (r₀.turns.calls id o.place o.pass (me.0, at, o.here)) in
      let r = at_zero' cd desk z st m p e t h.1.0 refl r₀ in let s₀ = lane_to m e in let s = with_receiver s₀ t in let is : s₀ ≡ s = λ k. with_receiver s₀ (h.1.0 k) in
      let has : has_call s₀.lane.receiver o.pass.number ≡ true = has_of s₀.lane.receiver o.pass.number (ap holder h.1.0 ∙ h.1.1) (ap is_manager h.1.0) in
      let sends = no_send desk m e o.pass.number r.sound has in
      let s' : RingState (PlacedDesk kc kz) = (ring_form desk).received_on s m.era in let ha = lane_homes s (shelf_to r.shelves e) in let hb = lane_homes (lane_to m (other e)) (shelf_to r.shelves (other e)) in
      let may = receive_may desk m e o.pass.number 0 h.0 has in
      let deed : with_lane m e s' ≡ after_deed desk m (Steps o.pass.number 0 None) = ap (λ (u : RingState (PlacedDesk kc kz)). with_lane m e ((ring_form desk).received_on u m.era)) (sym is) ∙ receive_deed desk m e o.pass.number 0 h.0 sends in
      let mine : IsCallOf (with_lane m e s') 0 o.pass.number (Rests e) = receive_rests cd desk z m e s' o.pass.number h.0 refl sends in (
        _,
        gives,
        tt,
        lane_moves cd desk z st m r e s s' is (receiver_word e) 0 id me.1 me.0 o (Rests e) gives (Steps o.pass.number 0 None) (shelf_to r.shelves e) at
            may
            deed
            (receiver_turn_set e (era_word m.era) 0 (lane_words s) (lane_words (lane_to m (other e))))
            (ap (λ (cs : List (ℕ × Slot)). homes_after (homes_at e ha hb) cs gives) has_slot
            ∙ (receiver_side_set e (some (Receiver x)) ha hb ∙ ap (λ (u : ReceiverSide). homes_at e (record ha { receiver = some (Receiver u) }) hb) h.1.2))
            (shelved_receiver s₀ s' (shelf_to r.shelves e) (ap receiver_is_out h.1.0) refl refl refl refl refl refl refl ((buffers_in r) e))
            mine (others_receive desk m e s' t o.pass.number h.1.0 h.1.1 refl refl refl refl (λ k apart. refl)) refl refl refl refl (refl, ((λ i. ap (has_sender_for_manager i) call), λ i. ap (has_for_manager i) call)),
        (refl, write_by (receiver_word e) 0 cd desk z st m r id me o (with_call o.pass (Rests e)) (Steps o.pass.number 0 None) (with_lane m e s') (rest me.1) (receiver_in m e s') at may deed mine),
      )

  -- part 1 of a reclaim of a caller that has the receiver's turn
  pub dooms_receive : (n id : ℕ) (me : SeatState) (o : Mover me.0) (e : End) (t : Turn Receiving) (x : ReceiverSide) (b : ℕ) (msg : List ℕ) → o.pass.call ≡ Receives e t x b msg
      → Allows (WordsRule cd desk z) n id me 1 (λ y. y) (λ y me'. FindsClosedBy me o (EndsReceive e t x b msg) y me' × StepBy cd desk (ReadsAt 1 y) me o Nothing me')
  dooms_receive n id me o e t x b msg call st (m, p, r₀) wide at _ =
      let h : IsCallOf m p o.pass.number (Receives e t x b msg) = subst (IsCallOf m p o.pass.number) call (r₀.turns.calls id o.place o.pass (me.0, at, o.here)) in
      finds_closed cd desk z n id me o (EndsReceive e t x b msg) st m (at_zero' cd desk z st m p e t h.1.0 h.1.4 r₀) at (λ shut. (h.0, h.1, shut)) ((λ i. ap (has_sender_for_manager i) call), λ i. ap (has_for_manager i) call)

  -- part 3 of a reclaim of a caller that has the receiver's turn, with no buffer out: what it holds leaves `held`
  pub ends_receive_bare : (n id : ℕ) (me : SeatState) (o : Mover me.0) (e : End) (t : Turn Receiving) (x x' : ReceiverSide) (b : ℕ) (msg : List ℕ) → o.pass.call ≡ EndsReceive e t x b msg → receiver_is_out t ≡ false
      → x' ≡ record x { hands = hands_of_others x.hands o.pass.number } → me.1 ≡ (receiver_slot e, Receiver x') ∷ rest me.1
      → Allows (WordsRule cd desk z) n id me (receiver_word e) (λ _. 0) (λ _ me'. LeavesEmpty me o (Rests e) (rest me.1) me' × StepBy cd desk (WritesAt (receiver_word e) 0) me o (EndsCall e o.pass.number) me')
  ends_receive_bare n id me o e t x x' b msg call inside side_is has_slot st (m, p, r₀) wide at _ =
      let h : IsCallOf m p o.pass.number (EndsReceive e t x b msg) = subst (IsCallOf m p o.pass.number) call (r₀.turns.calls id o.place o.pass (me.0, at, o.here)) in let bare = h.1.4 in
      let r = at_zero' cd desk z st m p e t h.1.0 bare r₀ in let s₀ = lane_to m e in let c = o.pass.number in
      let has : has_call s₀.lane.receiver c ≡ true = has_of s₀.lane.receiver c (ap holder h.1.0 ∙ h.1.1) (ap is_manager h.1.0 ∙ bare) in
      let freed : Bool → RingState (PlacedDesk kc kz) = λ y. record ((ring_form desk).after_receive_end s₀ c) { lane = record ((ring_form desk).after_receive_end s₀ c).lane { receiver = cond y turn.Free s₀.lane.receiver } } in
      let s' = freed true in let s = with_receiver s₀ t in let is : s₀ ≡ s = λ k. with_receiver s₀ (h.1.0 k) in
      let ha = lane_homes s (shelf_to r.shelves e) in let hb = lane_homes (lane_to m (other e)) (shelf_to r.shelves (other e)) in
      let side : x' ≡ receiver_side s' = side_is ∙ ap (λ (u : ReceiverSide). record u { hands = hands_of_others u.hands c }) h.1.2 in let sends = no_send desk m e c r.sound has in
      let deed = ap (λ (y : Bool). with_lane m e (freed y)) (sym has) ∙ end_receive_deed desk m e c has sends in let mine = receive_rests cd desk z m e s' c h.0 refl sends in (
        _,
        gives,
        tt,
        lane_moves_by cd desk z st m r e s s' is (receiver_word e) 0 id me.1 me.0 o (Rests e) [] gives (EndsCall e c) (shelf_to r.shelves e) at
            (h.2, h.0)
            deed
            (receiver_turn_set e (era_word m.era) 0 (lane_words s) (lane_words (lane_to m (other e))))
            (ap (λ (cs : List (ℕ × Slot)). homes_after (homes_at e ha hb) cs gives) has_slot
            ∙ (receiver_side_set e (some (Receiver x')) ha hb ∙ ap (λ (u : ReceiverSide). homes_at e (record ha { receiver = some (Receiver u) }) hb) side))
            (shelved_receiver s₀ s' (shelf_to r.shelves e) (ap receiver_is_out h.1.0 ∙ inside) refl refl refl refl refl refl refl ((buffers_in r) e))
            mine (λ j l u there apart. others_receive desk m e s' t c h.1.0 h.1.1 bare refl refl refl (λ k _. refl) u.number apart u.call)
            refl refl refl refl (inr (inl refl)) (hands_here m e s' (with_call_and_hands o.pass (Rests e) []) h.0 (hands_none c s₀.lane.lane.held)) (λ u apart. hands_kept desk m e s' u (λ was. hands_others c u.number s₀.lane.lane.held apart ∙ was))
            (keepers_set st.views id me.0 (with_pass me.0 o (with_call_and_hands o.pass (Rests e) []) (Some (copied cd (with_lane m e s')))) o (with_call_and_hands o.pass (Rests e) []) at refl refl (λ i k. absurd (true-false (sym k))) r.turns.keepers)
            (keepers_by desk m (with_lane m e s') (EndsCall e c) deed st.views id me.0 (with_pass me.0 o (with_call_and_hands o.pass (Rests e) []) (Some (copied cd (with_lane m e s')))) o (with_call_and_hands o.pass (Rests e) []) at refl (refl, ((λ i. ap (has_sender_for_manager i) call), λ i. ap (has_for_manager i) call)) r.turns.some_keeper),
        (refl, write_by (receiver_word e) 0 cd desk z st m r id me o (with_call_and_hands o.pass (Rests e) []) (EndsCall e c) (with_lane m e s') (rest me.1) (receiver_in m e s') at (h.2, h.0) deed mine),
      )
