-- A send's leave, and the leave by which a reclaim ends a send from each of its steps: what was out comes home.
use Rattle.link_words.proofs.Keepers.{SameMinds}
use Rattle.link_words.specs.Parts.{has_for_manager, has_sender_for_manager}
use Rattle.link_words.specs.declared.codes.DeskTables.{DeskTables}
use Rattle.link_words.specs.PlacedDesks.{PlacedDesk}
use Rattle.std.proofs.Common.{◌≡◌, ℕ, ◌+◌, ◌<◌, Bool, true, false, cond, List, ◌∷◌, length, get_or, set, refl, sym, ap, ◌∙◌, subst, arith}
use Rattle.std.specs.Prelude.{Some, None}
use mathlib.Core.Option.{some}
use mathlib.Core.Option.{Option as Option_of}
use lib.ListN.{get_elem?}
use Rattle.atomic_table.specs.Table.{State, Act, keeps, gives, chain, homes_after, Valid, carried_after, stepped, Allows, rest}
use Rattle.rp_base.specs.declared.kinds.End.{End}
use Rattle.rp_base.specs.declared.kinds.End.TheVariants as side
use Rattle.lane_model.specs.declared.lane_links.LaneLink.{LaneLink}
use Rattle.lane_model.specs.declared.stages.Turn.{Turn}
use Rattle.lane_model.specs.declared.stages.Turn.TheVariants as turn
use Rattle.lane_model.specs.declared.stages.Sending.{Sending}
use Rattle.lane_model.specs.declared.calls.CallEnd.{CallEnd}
use base.Stored.{Coded}
use Rattle.lane_model.specs.Desks.{DeskMeaning}
use Rattle.lane_model.specs.Lanes.{holder, has_call}
use Rattle.lane_model.specs.Links.{end_of, link_of}
use Rattle.lane_model.specs.Soundness.{SoundLink}
use Rattle.ring_core.specs.declared.states.RingState.{RingState}
use Rattle.ring_core.specs.Owners.{sender_is_out}
use Rattle.ring_core.specs.RingSteps.{ring_form}
use Rattle.ring_core.specs.SoundRings.{IsSoundRings}
use Rattle.ring_core.proofs.OneOwner.{sending_is}
use Rattle.ring_core.proofs.Owned.{source-below}
use Rattle.link_words.specs.declared.rule.Slot.{Slot}
use Rattle.link_words.specs.declared.rule.Slot.TheVariants.{Sender}
use Rattle.link_words.specs.declared.rule.SenderSide.{SenderSide}
use Rattle.link_words.specs.declared.rule.LinkSizes.{LinkSizes}
use Rattle.link_words.specs.declared.rule.Call.{Call}
use Rattle.link_words.specs.declared.rule.Call.TheVariants.{Rests, Sends, EndsSend, EndsBoth, EndsHeld}
use Rattle.link_words.specs.declared.rule.ReceiverSide.{ReceiverSide}
use Rattle.link_words.specs.declared.rule.View.{View}
use Rattle.link_words.specs.Words.{other, lane_to, with_lane, era_word, lane_words, lane_homes, homes_at, shelf_to, sender_side, sender_word, sender_slot, buffer_slot, with_turn}
use Rattle.link_words.specs.Turns.{is_manager, turns_of}
use Rattle.link_words.specs.Deeds.{Steps, EndsCall, Nothing, after_deed}
use Rattle.link_words.specs.Rule.{IsCallOf, Shows, WordsRule}
use Rattle.link_words.specs.Parts.{SendsAt, HoldsBuffers, has_for_manager}
use Rattle.link_words.specs.Codes.{copied}
use Rattle.link_words.specs.Passes.{Mover, with_pass, with_call}
use Rattle.link_words.specs.Calls.{SeatState}
use Rattle.link_words.proofs.Tells.{SendLeavesBy, LeavesTo, FindsClosedBy}
use Rattle.link_words.proofs.Frames.{turn_set, side_set, buffer_set, sender_in}
use Rattle.link_words.proofs.Kept.{send_deed, send_may, end_deed}
use Rattle.link_words.proofs.LaneSteps.{others_send, lane_moves}
use Rattle.link_words.proofs.Sends.{has_of, true-false, at_zero, shelved_turn}
use Rattle.link_words.proofs.Closes.{stays, stays_at}
use Rattle.link_words.proofs.Buffers.{rings_to, first_is}
use Rattle.link_words.proofs.Publishes.{shelved_home}
use Rattle.link_words.proofs.Exact.{StepBy, read_by, write_by, stays_by, ReadsAt, WritesAt}
use Rattle.link_words.proofs.Parts.{rings_in, buffers_in}

rests_after : {B : Type 0} {kc : Coded B} {kz : DeskTables} (m : LaneLink (RingState (PlacedDesk kc kz))) (e : End) (s : RingState (PlacedDesk kc kz)) (number : ℕ) → end_of m.callers number ≡ Some (other e) → has_call s.lane.sender number ≡ false → has_call (lane_to m (other e)).lane.receiver number ≡ false
    → IsCallOf (with_lane m e s) 0 number (Rests (other e))
rests_after m side.Host s number user sends receives = (user, sends, receives)
rests_after m side.Remote s number user sends receives = (user, sends, receives)

module _ {B : Type 0} {kc : Coded B} {kz : DeskTables} (cd : Coded (PlacedDesk kc kz)) (desk : DeskMeaning (PlacedDesk kc kz)) (z : LinkSizes) where
  -- a caller that has the sender's turn is in no other call
  no_receive : (m : LaneLink (RingState (PlacedDesk kc kz))) (e : End) (number : ℕ) → SoundLink (link_of (ring_form desk) m) → has_call (lane_to m e).lane.sender number ≡ true → has_call (lane_to m (other e)).lane.receiver number ≡ false
  no_receive m side.Host number sound has = sound.remotes number has
  no_receive m side.Remote number sound has = sound.hosts number has

  -- the last step of a send
  pub leaves : (n id : ℕ) (me : SeatState) (o : Mover me.0) (e : End) (c : ℕ) (end : CallEnd) (x : SenderSide) (b : ℕ) → o.pass.call ≡ Sends e (turn.Leaving c end) x b → me.1 ≡ (sender_slot e, Sender x) ∷ rest me.1
      → Allows (WordsRule cd desk z) n id me (sender_word e) (λ _. 0) (λ _ me'. SendLeavesBy me o e (rest me.1) me' × StepBy cd desk (WritesAt (sender_word e) 0) me o (Steps o.pass.number 0 None) me')
  leaves n id me o e c end x b call has_slot st (m, p, r₀) wide at _ =
      let t : Turn Sending = turn.Leaving c end in
      let h : IsCallOf m p o.pass.number (Sends e t x b) = subst (IsCallOf m p o.pass.number) call (r₀.turns.calls id o.place o.pass (me.0, at, o.here)) in
      let r = at_zero cd desk z st m p e t h.1.0 refl r₀ in let s₀ = lane_to m e in let s = with_turn s₀ t in let is : s₀ ≡ s = λ k. with_turn s₀ (h.1.0 k) in
      let has : has_call s₀.lane.sender o.pass.number ≡ true = has_of s₀.lane.sender o.pass.number (ap holder h.1.0 ∙ h.1.1) (ap is_manager h.1.0) in
      let s' : RingState (PlacedDesk kc kz) = (ring_form desk).sent_on s m.era in let w : Call = Rests (other e) in
      let may = send_may desk m e o.pass.number 0 h.0 has in
      let deed : with_lane m e s' ≡ after_deed desk m (Steps o.pass.number 0 None) = ap (λ (u : RingState (PlacedDesk kc kz)). with_lane m e ((ring_form desk).sent_on u m.era)) (sym is) ∙ send_deed desk m e o.pass.number 0 h.0 has in
      let mine : IsCallOf (with_lane m e s') 0 o.pass.number w = rests_after m e s' o.pass.number h.0 refl (no_receive m e o.pass.number r.sound has) in (
        _,
        gives,
        tt,
        lane_moves cd desk z st m r e s s' is (sender_word e) 0 id me.1 me.0 o w gives (Steps o.pass.number 0 None) (shelf_to r.shelves e) at
            may
            deed
            (turn_set e (era_word m.era) 0 (lane_words s) (lane_words (lane_to m (other e))))
            (ap (λ (cs : List (ℕ × Slot)). homes_after (homes_at e (lane_homes s (shelf_to r.shelves e)) (lane_homes (lane_to m (other e)) (shelf_to r.shelves (other e)))) cs gives) has_slot
            ∙ (side_set e (some (Sender x)) (lane_homes s (shelf_to r.shelves e)) (lane_homes (lane_to m (other e)) (shelf_to r.shelves (other e)))
            ∙ ap (λ (u : SenderSide). homes_at e (record (lane_homes s (shelf_to r.shelves e)) { sender = some (Sender u) }) (lane_homes (lane_to m (other e)) (shelf_to r.shelves (other e)))) h.1.2))
            (shelved_turn cd desk z s turn.Free (shelf_to r.shelves e) refl (subst (λ (u : RingState (PlacedDesk kc kz)). HoldsBuffers u (shelf_to r.shelves e)) is ((buffers_in r) e)))
            mine (others_send desk m e s' t o.pass.number h.1.0 h.1.1 refl refl refl (λ _. refl) (λ k apart. refl)) refl refl refl refl (refl, ((λ i. ap (has_sender_for_manager i) call), λ i. ap (has_for_manager i) call)),
        (refl, write_by (sender_word e) 0 cd desk z st m r id me o (with_call o.pass w) (Steps o.pass.number 0 None) (with_lane m e s') (rest me.1) (sender_in m e s') at may deed mine),
      )

  -- a seat that has a turn loads the era: where it is closed, its pass is in this call from then on
  pub finds_closed : (n id : ℕ) (me : SeatState) (o : Mover me.0) (next : Call) (st : State Slot View) (m : LaneLink (RingState (PlacedDesk kc kz))) (r : Shows cd desk z st m 0) → get_elem? st.views id ≡ some me.0
      → (m.era.is_live ≡ false → IsCallOf m 0 o.pass.number next) → SameMinds o.pass.call next
      → (w : View) × (a : Act Slot) × Valid st.homes me.1 a × WordsRule cd desk z (stepped st 1 (get_or st.words 1 0) id me.1 w a)
      × (FindsClosedBy me o next (get_or st.words 1 0) (w, carried_after me.1 a) × StepBy cd desk (ReadsAt 1 (get_or st.words 1 0)) me o Nothing (w, carried_after me.1 a))
  finds_closed n id me o next st m r at mine minds = go m.era.is_live refl (ap (λ (ws : List ℕ). get_or ws 1 0) r.words_are)
    where
      go : (live : Bool) → m.era.is_live ≡ live → get_or st.words 1 0 ≡ era_word m.era
          → (w : View) × (a : Act Slot) × Valid st.homes me.1 a × WordsRule cd desk z (stepped st 1 (get_or st.words 1 0) id me.1 w a)
          × (FindsClosedBy me o next (get_or st.words 1 0) (w, carried_after me.1 a) × StepBy cd desk (ReadsAt 1 (get_or st.words 1 0)) me o Nothing (w, carried_after me.1 a))
      go false shut word = (
        _,
        keeps,
        tt,
        stays_at cd desk z st m 0 r 1 (get_or st.words 1 0) id me.1 me.0 o next Nothing at refl tt refl (mine shut) minds,
        (
          (m.era, word, r.numbers.short, (λ _. refl), λ live. absurd (true-false (sym live ∙ shut))),
          read_by 1 cd desk z st m r id me o (with_call o.pass next) Nothing m me.1 at tt refl (mine shut),
        ),
      )
      go true live word = (
        me.0,
        keeps,
        tt,
        stays cd desk z st m 0 r 1 (get_or st.words 1 0) id me.1 me.0 Nothing at refl tt refl,
        (
          (m.era, word, r.numbers.short, (λ shut. absurd (true-false (sym live ∙ shut))), λ _. refl),
          stays_by 1 cd desk z st m r id me o Nothing at tt refl,
        ),
      )

  -- part 1 of a reclaim of a caller that has the sender's turn: its seat loads the era, and no reopening is under way or comes
  pub dooms : (n id : ℕ) (me : SeatState) (o : Mover me.0) (e : End) (t : Turn Sending) (x : SenderSide) (b : ℕ) → o.pass.call ≡ Sends e t x b → is_manager t ≡ false
      → Allows (WordsRule cd desk z) n id me 1 (λ y. y) (λ y me'. FindsClosedBy me o (EndsSend e t x b) y me' × StepBy cd desk (ReadsAt 1 y) me o Nothing me')
  dooms n id me o e t x b call bare st (m, p, r₀) wide at _ =
      let h : IsCallOf m p o.pass.number (Sends e t x b) = subst (IsCallOf m p o.pass.number) call (r₀.turns.calls id o.place o.pass (me.0, at, o.here)) in
      finds_closed n id me o (EndsSend e t x b) st m (at_zero cd desk z st m p e t h.1.0 bare r₀) at (λ shut. (h.0, h.1, shut, h.2)) ((λ i. ap (has_sender_for_manager i) call), λ i. ap (has_for_manager i) call)

  -- the end of a send in a reclaim: its turn is left, and its pass goes from this call to that one
  module _ (n id : ℕ) (me : SeatState) (o : Mover me.0) (e : End) (t : Turn Sending) (x : SenderSide) (b : ℕ) (call w : Call) (is_call : o.pass.call ≡ call) (bare : is_manager t ≡ false)
      (known : (m : LaneLink (RingState (PlacedDesk kc kz))) (p : ℕ) → IsCallOf m p o.pass.number call → (end_of m.callers o.pass.number ≡ Some (other e)) × SendsAt (turns_of (lane_to m e)) o.pass.number t x b × (m.era.is_live ≡ false))
      (mine : (m : LaneLink (RingState (PlacedDesk kc kz))) → SoundLink (link_of (ring_form desk) m) → IsCallOf m 0 o.pass.number call → has_call (lane_to m e).lane.sender o.pass.number ≡ true → IsCallOf (with_lane m e (with_turn (lane_to m e) turn.Free)) 0 o.pass.number w)
      (minds : SameMinds call w) where
    -- what both kinds share
    ended : (st : State Slot View) (m : LaneLink (RingState (PlacedDesk kc kz))) (r : Shows cd desk z st m 0) → get_elem? st.views id ≡ some me.0 → IsCallOf m 0 o.pass.number call → (a : Act Slot) (l' : List (Option_of Slot)) (left : List (ℕ × Slot))
        → homes_after (homes_at e (lane_homes (with_turn (lane_to m e) t) (shelf_to r.shelves e)) (lane_homes (lane_to m (other e)) (shelf_to r.shelves (other e)))) me.1 a
        ≡ homes_at e (record (lane_homes (lane_to m e) l') { sender = some (Sender (sender_side (lane_to m e))) }) (lane_homes (lane_to m (other e)) (shelf_to r.shelves (other e)))
        → HoldsBuffers (with_turn (lane_to m e) turn.Free) l'
        → WordsRule cd desk z (stepped st (sender_word e) 0 id me.1 (with_pass me.0 o (with_call o.pass w) (Some (copied cd (with_lane m e (with_turn (lane_to m e) turn.Free))))) a)
        × StepBy cd desk (WritesAt (sender_word e) 0) me o (EndsCall (other e) o.pass.number) (with_pass me.0 o (with_call o.pass w) (Some (copied cd (with_lane m e (with_turn (lane_to m e) turn.Free)))), left)
    ended st m r at h₀ a l' left homes shelved =
        let h = known m 0 h₀ in let s₀ = lane_to m e in let s = with_turn s₀ t in let is : s₀ ≡ s = λ k. with_turn s₀ (h.1.0 k) in
        let has : has_call s₀.lane.sender o.pass.number ≡ true = has_of s₀.lane.sender o.pass.number (ap holder h.1.0 ∙ h.1.1) (ap is_manager h.1.0 ∙ bare) in
        let freed : (ring_form desk).after_send_end s₀ o.pass.number ≡ with_turn s₀ turn.Free = ap (λ (y : Bool). with_turn s₀ (cond y turn.Free s₀.lane.sender)) has in
        let deed = ap (with_lane m e) (sym freed) ∙ end_deed desk m e o.pass.number r.sound has in let next = mine m r.sound h₀ has in (
          lane_moves cd desk z st m r e s (with_turn s₀ turn.Free) is (sender_word e) 0 id me.1 me.0 o w a (EndsCall (other e) o.pass.number) l' at
              (h.2, h.0)
              deed
              (turn_set e (era_word m.era) 0 (lane_words s) (lane_words (lane_to m (other e))))
              homes shelved next (others_send desk m e (with_turn s₀ turn.Free) t o.pass.number h.1.0 h.1.1 refl refl refl (λ _. refl) (λ k apart. refl)) refl refl refl refl (refl, ((λ i. ap (has_sender_for_manager i) is_call ∙ minds.0 i), λ i. ap (has_for_manager i) is_call ∙ minds.1 i)),
          write_by (sender_word e) 0 cd desk z st m r id me o (with_call o.pass w) (EndsCall (other e) o.pass.number) (with_lane m e (with_turn s₀ turn.Free)) left (sender_in m e (with_turn s₀ turn.Free)) at (h.2, h.0) deed next,
        )

    -- a send that has no buffer out
    pub ends_bare : sender_is_out t ≡ false → me.1 ≡ (sender_slot e, Sender x) ∷ rest me.1
        → Allows (WordsRule cd desk z) n id me (sender_word e) (λ _. 0) (λ _ me'. LeavesTo me o w (rest me.1) me' × StepBy cd desk (WritesAt (sender_word e) 0) me o (EndsCall (other e) o.pass.number) me')
    ends_bare inside has_slot st (m, p, r₀) wide at _ =
        let h₀ : IsCallOf m p o.pass.number call = subst (IsCallOf m p o.pass.number) is_call (r₀.turns.calls id o.place o.pass (me.0, at, o.here)) in let h = known m p h₀ in
        let r = at_zero cd desk z st m p e t h.1.0 bare r₀ in let s₀ = lane_to m e in let hb = lane_homes (lane_to m (other e)) (shelf_to r.shelves (other e)) in
        let all = ended st m r at (subst (IsCallOf m 0 o.pass.number) is_call (r.turns.calls id o.place o.pass (me.0, at, o.here))) gives (shelf_to r.shelves e) (rest me.1)
        (ap (λ (cs : List (ℕ × Slot)). homes_after (homes_at e (lane_homes (with_turn s₀ t) (shelf_to r.shelves e)) hb) cs gives) has_slot
        ∙ (side_set e (some (Sender x)) (lane_homes (with_turn s₀ t) (shelf_to r.shelves e)) hb
        ∙ ap (λ (u : SenderSide). homes_at e (record (lane_homes s₀ (shelf_to r.shelves e)) { sender = some (Sender u) }) hb) h.1.2))
        (shelved_turn cd desk z s₀ turn.Free (shelf_to r.shelves e) (sym (ap sender_is_out h.1.0 ∙ inside)) ((buffers_in r) e)) in
        (_, gives, tt, all.0, (refl, all.1))

    -- a send between its steps 4 and 6: the buffer comes home too, whatever is in it
    pub ends_out : (first : ℕ) (y : Slot) → sender_is_out t ≡ true → first ≡ z.to_host.capacity
        → me.1 ≡ (buffer_slot first e b, y) ∷ (sender_slot e, Sender x) ∷ rest (rest me.1)
        → Allows (WordsRule cd desk z) n id me (sender_word e) (λ _. 0) (λ _ me'. LeavesTo me o w (rest (rest me.1)) me' × StepBy cd desk (WritesAt (sender_word e) 0) me o (EndsCall (other e) o.pass.number) me')
    ends_out first y outside first_at has_slots st (m, p, r₀) wide at _ =
        let h₀ : IsCallOf m p o.pass.number call = subst (IsCallOf m p o.pass.number) is_call (r₀.turns.calls id o.place o.pass (me.0, at, o.here)) in let h = known m p h₀ in
        let r = at_zero cd desk z st m p e t h.1.0 bare r₀ in let s₀ = lane_to m e in let hb = lane_homes (lane_to m (other e)) (shelf_to r.shelves (other e)) in
        let sound : IsSoundRings s₀ = rings_to m e (rings_in r) in let out : sender_is_out s₀.lane.sender ≡ true = ap sender_is_out h.1.0 ∙ outside in let is_b : s₀.rings.sending ≡ b = h.1.3 outside in
        let sends = sending_is s₀ sound out in let cap : s₀.lane.lane.capacity ≡ s₀.rings.sizes.capacity = sound.sized.lane in
        let room : length s₀.lane.lane.accepted < s₀.lane.lane.returned + s₀.rings.sizes.capacity = omega (arith, sends.1, cap) in
        let low : s₀.rings.sending < s₀.rings.sizes.capacity = subst (λ (k : ℕ). k < s₀.rings.sizes.capacity) (sym sends.0)
        (source-below s₀.rings.sizes (length s₀.lane.lane.accepted) (length s₀.lane.lane.takers) s₀.lane.lane.returned s₀.rings.forward s₀.rings.returns s₀.rings.hands s₀.rings.aside sound.owned room) in
        let near : b < length (shelf_to r.shelves e) = omega (arith, low, ((buffers_in r) e).long, is_b) in
        let ha = lane_homes (with_turn s₀ t) (shelf_to r.shelves e) in let l' = set (shelf_to r.shelves e) b (some y) in
        let all = ended st m r at (subst (IsCallOf m 0 o.pass.number) is_call (r.turns.calls id o.place o.pass (me.0, at, o.here))) (chain gives gives) l' (rest (rest me.1))
        (ap (λ (cs : List (ℕ × Slot)). homes_after (homes_at e ha hb) cs (chain gives gives)) has_slots
        ∙ (ap (λ (hs : List (Option_of Slot)). set hs (sender_slot e) (some (Sender x))) (buffer_set e first b (some y) ha hb near (first_is cd desk z st m r e first first_at))
        ∙ (side_set e (some (Sender x)) (record ha { shelf = l' }) hb
        ∙ ap (λ (u : SenderSide). homes_at e (record (lane_homes s₀ l') { sender = some (Sender u) }) hb) h.1.2)))
        (subst (λ (k : ℕ). HoldsBuffers (with_turn s₀ turn.Free) (set (shelf_to r.shelves e) k (some y))) is_b
        (shelved_home s₀ (with_turn s₀ turn.Free) (shelf_to r.shelves e) y sound out ((buffers_in r) e) refl refl refl refl refl (λ k to fresh. absurd (fresh to)) (λ k old. refl))) in
        (_, chain gives gives, (tt, tt), all.0, (refl, all.1))

  -- the caller is in no call then
  pub ends_send : (m : LaneLink (RingState (PlacedDesk kc kz))) (e : End) (number : ℕ) (t : Turn Sending) (x : SenderSide) (b : ℕ) → SoundLink (link_of (ring_form desk) m) → IsCallOf m 0 number (EndsSend e t x b) → has_call (lane_to m e).lane.sender number ≡ true
      → IsCallOf (with_lane m e (with_turn (lane_to m e) turn.Free)) 0 number (Rests (other e))
  ends_send m e number t x b sound h has = rests_after m e (with_turn (lane_to m e) turn.Free) number h.0 refl (no_receive m e number sound has)

  -- or its seat still has the receiver's turn for the manager
  pub ends_beside : (m : LaneLink (RingState (PlacedDesk kc kz))) (e : End) (number : ℕ) (t : Turn Sending) (x : SenderSide) (b : ℕ) (y : ReceiverSide) → IsCallOf m 0 number (EndsBoth e t x b y) → IsCallOf (with_lane m e (with_turn (lane_to m e) turn.Free)) 0 number (EndsHeld (other e) y)
  ends_beside m side.Host number t x b y h = (h.0, h.3, h.4, refl, h.2, refl)
  ends_beside m side.Remote number t x b y h = (h.0, h.3, h.4, refl, h.2, refl)
