-- A reclaim of a caller that is in no call and holds buffers: the manager takes its receiver's turn with the caller's own seat, finds the era
-- closed while it has it, and leaves it without what the caller held.
use Rattle.link_words.proofs.Keepers.{SameMinds, keepers_lane}
use Rattle.link_words.specs.Parts.{has_for_manager, has_sender_for_manager}
use Rattle.link_words.proofs.Gathered.{there}
use Rattle.lane_model.specs.declared.recoveries.LaneTurn.TheVariants as lane_turn
use Rattle.link_words.specs.declared.codes.DeskTables.{DeskTables}
use Rattle.link_words.specs.PlacedDesks.{PlacedDesk}
use Rattle.std.proofs.Common.{◌≡◌, ◌≢◌, ℕ, ◌<◌, ◌≤◌, Bool, true, false, eqb, List, [], ◌∷◌, length, get_or, refl, sym, ap, ◌∙◌, subst, ⊎_elim, arith, suc-ne-zero, inl, inr}
use Rattle.std.specs.Prelude.{Some, None}
use mathlib.Core.Option.{some, none}
use mathlib.Core.Option.{Option as Option_of}
use lib.ListN.{get_elem?}
use prog.Atomic.{either}
use Rattle.atomic_table.specs.Table.{State, Me, Act, keeps, takes, gives, homes_after, Valid, carried_after, stepped, Allows, rest}
use Rattle.atomic_table.proofs.Lists.{exchanged}
use Rattle.rp_base.specs.declared.kinds.End.{End}
use Rattle.rp_base.specs.declared.kinds.End.TheVariants as side
use Rattle.lane_model.specs.declared.lane_links.LaneLink.{LaneLink}
use Rattle.lane_model.specs.declared.stages.Turn.{Turn}
use Rattle.lane_model.specs.declared.stages.Turn.TheVariants as turn
use Rattle.lane_model.specs.declared.stages.Receiving.{Receiving}
use Rattle.lane_model.specs.declared.stages.Sending.{Sending}
use Rattle.link_words.specs.declared.rule.SenderSide.{SenderSide}
use base.Stored.{Coded}
use Rattle.lane_model.specs.Desks.{DeskMeaning}
use Rattle.lane_model.specs.Lanes.{holder, has_call, message_at}
use Rattle.lane_laws.specs.Parts.{manager_takes, manager_leaves}
use Rattle.lane_model.specs.Links.{end_of}
use Rattle.lane_model.specs.declared.states.BookEntry.{BookEntry}
use Rattle.ring_core.specs.declared.states.RingState.{RingState}
use Rattle.ring_core.specs.Owners.{sender_is_out, receiver_is_out}
use Rattle.ring_core.specs.Rings.{buffer_at}
use Rattle.link_words.specs.declared.rule.Slot.{Slot}
use Rattle.link_words.specs.declared.rule.Slot.TheVariants.{Buffer, Receiver}
use Rattle.link_words.specs.declared.rule.ReceiverSide.{ReceiverSide}
use Rattle.link_words.specs.declared.rule.LinkSizes.{LinkSizes}
use Rattle.link_words.specs.declared.rule.Call.{Call}
use Rattle.link_words.specs.declared.rule.Call.TheVariants.{Idle, Sends, Rests, Reclaims, EndsHeld, Receives, EndsReceive, EndsSend, EndsBoth, Reopens, Gathers}
use Rattle.link_words.specs.declared.rule.Pass.{Pass}
use Rattle.link_words.specs.declared.rule.View.{View}
use Rattle.link_words.specs.Words.{receiver_slot, other, lane_to, with_lane, era_word, turn_word, lane_words, words_at, LaneWords, LaneHomes, lane_homes, homes_at, home_if, words_of, shelf_to, receiver_side}
use Rattle.link_words.specs.Turns.{is_manager}
use Rattle.link_words.specs.Histories.{same_end}
use Rattle.link_words.specs.Deeds.{ManagerTakes, ManagerLeaves, LeavesTurn, Nothing, IsStill, after_deed}
use Rattle.link_words.specs.Rule.{IsCallOf, fresh_block, Shows, WordsRule}
use Rattle.link_words.specs.Parts.{has_for_manager, HoldsBuffers}
use Rattle.link_words.specs.Codes.{copied}
use Rattle.link_words.specs.Passes.{PassAt, Mover, with_pass, with_call, with_call_and_hands}
use Rattle.link_words.specs.Calls.{SeatState}
use mathlib.Core.Path.{Path}
use Rattle.ring_core.specs.RingSteps.{ring_form, hands_of_others}
use Rattle.link_words.proofs.Frames.{keepers_set, keepers_new, same_lane, receiver_in}
use Rattle.link_words.proofs.LaneSteps.{lane_moves_by, hands_kept}
use Rattle.link_words.proofs.Sends.{true-false}
use Rattle.link_words.proofs.Hands.{hands_none, hands_others, hands_here}
use Rattle.link_words.proofs.Closes.{stays_at}
use Rattle.link_words.proofs.Buffers.{homes_here}
use Rattle.link_words.proofs.Takes.{with_receiver, receiver_turn_set, receiver_side_set, still_receiver, others_beside, receive_rests, has_receiver}
use Rattle.link_words.specs.Words.{receiver_word}
use Rattle.link_words.proofs.Parts.{buffers_in}
use Rattle.link_words.proofs.Exact.{StepBy, read_by, write_by, step_found, ReadsAt, WritesAt}
use Rattle.link_words.proofs.SendEnds.{finds_closed}
use Rattle.link_words.proofs.Tells.{FindsClosedBy, ClaimsBy, LeavesTo, LeavesEmpty}
use Rattle.link_words.proofs.TurnWords.{receiver_of, receiver_word_most, takes_none}

receiver_found : (e : End) (era : ℕ) (a b : LaneWords) → get_or (words_at e era a b) (receiver_word e) 0 ≡ a.receiver
receiver_found side.Host era a b = refl
receiver_found side.Remote era a b = refl

pub receiver_home : (e : End) (a b : LaneHomes) → get_elem? (homes_at e a b) (receiver_slot e) ≡ some a.receiver
receiver_home side.Host a b = refl
receiver_home side.Remote a b = refl

pub free_if : {C : Type 0} (t : Turn C) → turn_word t ≡ 0 → t ≡ turn.Free
free_if turn.Free e = refl
free_if (turn.Taken c x) e = absurd (suc-ne-zero c e)
free_if (turn.Leaving c x) e = absurd (suc-ne-zero c e)
free_if turn.Manager e = absurd (omega arith)

abbrev pub is_free : {C : Type 0} → Turn C → Bool
is_free turn.Free = true
is_free (turn.Taken caller call) = false
is_free (turn.Leaving caller end) = false
is_free turn.Manager = false

not_held : {C : Type 0} (t : Turn C) (k : ℕ) → t ≡ turn.Free → holder t ≡ Some k → ⊥
not_held t k free held = no_some k (sym (ap holder free) ∙ held)
  where
    no_some : (n : ℕ) → None ≡ Some n → ⊥
    no_some n e = absurd (cc)

-- the shelves stand where the receiver's turn changes between turns that have nothing out
pub shelved_receiver : {B : Type 0} {kc : Coded B} {kz : DeskTables} (s s' : RingState (PlacedDesk kc kz)) (l : List (Option_of Slot)) → receiver_is_out s.lane.receiver ≡ false → receiver_is_out s'.lane.receiver ≡ false → s'.lane.sender ≡ s.lane.sender → s'.lane.lane.accepted ≡ s.lane.lane.accepted → s'.lane.lane.takers ≡ s.lane.lane.takers
    → s'.rings.sizes ≡ s.rings.sizes → s'.rings.forward ≡ s.rings.forward → s'.rings.sending ≡ s.rings.sending → HoldsBuffers s l → HoldsBuffers s' l
shelved_receiver s s' l before after sender accepted takers sizes forward sending q = record {
  long = q.long ∙ ap (λ x. x.capacity) (sym sizes);
  full = λ k from to other. (λ i. get_elem? l (buffer_at (sizes i).entries (forward i) k))
      ∙ (q.full k (subst (λ (x : List ℕ). length x ≤ k) takers from) (subst (λ (x : List BookEntry). k < length x) accepted to) (λ out. absurd (true-false (sym out ∙ before)))
      ∙ (λ i. some (some (Buffer (message_at (sym accepted i) k)))));
  home = λ j under mine theirs. q.home j (subst (λ (n : ℕ). j < n) (ap (λ x. x.capacity) sizes) under) (λ o same. mine (ap sender_is_out sender ∙ o) (same ∙ sym sending)) (λ o. absurd (true-false (sym o ∙ before)));
}

module _ {B : Type 0} {kc : Coded B} {kz : DeskTables} (cd : Coded (PlacedDesk kc kz)) (desk : DeskMeaning (PlacedDesk kc kz)) (z : LinkSizes) where
  -- where the receiver's turn is free, nobody has it
  pub free_for_all : (m : LaneLink (RingState (PlacedDesk kc kz))) (e : End) (p : ℕ) → (lane_to m e).lane.receiver ≡ turn.Free → (k : ℕ) (call : Call) → has_receiver e call ≡ true → IsCallOf m p k call → ⊥
  free_for_all m e p free k Idle having has = true-false (sym having)
  free_for_all m e p free k (Rests i) having has = true-false (sym having)
  free_for_all m e p free k (Sends i t x b) having has = true-false (sym having)
  free_for_all m e p free k (EndsSend i t x b) having has = true-false (sym having)
  free_for_all m side.Host p free k (EndsBoth side.Host t x b y) having has = true-false (sym having)
  free_for_all m side.Host p free k (EndsBoth side.Remote t x b y) having has = true-false (ap is_free (sym free ∙ has.3))
  free_for_all m side.Remote p free k (EndsBoth side.Remote t x b y) having has = true-false (sym having)
  free_for_all m side.Remote p free k (EndsBoth side.Host t x b y) having has = true-false (ap is_free (sym free ∙ has.3))
  free_for_all m side.Host p free k (Receives side.Host t x b msg) having has = not_held t k (sym has.1.0 ∙ free) has.1.1
  free_for_all m side.Host p free k (Receives side.Remote t x b msg) having has = true-false (sym having)
  free_for_all m side.Host p free k (EndsReceive side.Host t x b msg) having has = not_held t k (sym has.1.0 ∙ free) has.1.1
  free_for_all m side.Host p free k (EndsReceive side.Remote t x b msg) having has = true-false (sym having)
  free_for_all m side.Host p free k (Reclaims side.Host x) having has = true-false (ap is_free (sym free ∙ has.1))
  free_for_all m side.Host p free k (Reclaims side.Remote x) having has = true-false (sym having)
  free_for_all m side.Host p free k (EndsHeld side.Host x) having has = true-false (ap is_free (sym free ∙ has.1))
  free_for_all m side.Host p free k (EndsHeld side.Remote x) having has = true-false (sym having)
  free_for_all m side.Host p free k (Reopens q inc a b) having has = true-false (ap is_free (sym free ∙ has.2.1.host_receiver))
  free_for_all m side.Host p free k (Gathers a b) having has = let x = there a.receiver having in true-false (ap is_free (sym free ∙ (has.2.receiver x.0 x.1).0))
  free_for_all m side.Remote p free k (Receives side.Remote t x b msg) having has = not_held t k (sym has.1.0 ∙ free) has.1.1
  free_for_all m side.Remote p free k (Receives side.Host t x b msg) having has = true-false (sym having)
  free_for_all m side.Remote p free k (EndsReceive side.Remote t x b msg) having has = not_held t k (sym has.1.0 ∙ free) has.1.1
  free_for_all m side.Remote p free k (EndsReceive side.Host t x b msg) having has = true-false (sym having)
  free_for_all m side.Remote p free k (Reclaims side.Remote x) having has = true-false (ap is_free (sym free ∙ has.1))
  free_for_all m side.Remote p free k (Reclaims side.Host x) having has = true-false (sym having)
  free_for_all m side.Remote p free k (EndsHeld side.Remote x) having has = true-false (ap is_free (sym free ∙ has.1))
  free_for_all m side.Remote p free k (EndsHeld side.Host x) having has = true-false (sym having)
  free_for_all m side.Remote p free k (Reopens q inc a b) having has = true-false (ap is_free (sym free ∙ has.2.1.remote_receiver))
  free_for_all m side.Remote p free k (Gathers a b) having has = let x = there b.receiver having in true-false (ap is_free (sym free ∙ (has.3.receiver x.0 x.1).0))

  -- a call that minds the turn for the manager has it
  pub minds_has : (e : End) (call : Call) → has_for_manager e call ≡ true → has_receiver e call ≡ true
  minds_has e Idle kept = kept
  minds_has e (Rests i) kept = kept
  minds_has e (Sends i t x b) kept = kept
  minds_has e (EndsSend i t x b) kept = kept
  minds_has e (EndsBoth i t x b y) kept = kept
  minds_has e (Receives i t x b msg) kept = absurd (true-false (sym kept))
  minds_has e (EndsReceive i t x b msg) kept = absurd (true-false (sym kept))
  minds_has e (Reclaims i x) kept = kept
  minds_has e (EndsHeld i x) kept = kept
  minds_has e (Reopens q inc a b) kept = kept
  minds_has e (Gathers a b) kept = kept

  -- where the manager has the turn, who has it minds it for the manager
  has_minds : (m : LaneLink (RingState (PlacedDesk kc kz))) (e : End) (p : ℕ) → (lane_to m e).lane.receiver ≡ turn.Manager → (k : ℕ) (call : Call) → has_receiver e call ≡ true → IsCallOf m p k call → has_for_manager e call ≡ true
  has_minds m e p is k Idle having has = having
  has_minds m e p is k (Rests i) having has = having
  has_minds m e p is k (Sends i t x b) having has = having
  has_minds m e p is k (EndsSend i t x b) having has = having
  has_minds m e p is k (EndsBoth i t x b y) having has = having
  has_minds m side.Host p is k (Receives side.Host t x b msg) having has = absurd (true-false (ap is_manager (sym is ∙ has.1.0) ∙ has.1.4))
  has_minds m side.Host p is k (Receives side.Remote t x b msg) having has = absurd (true-false (sym having))
  has_minds m side.Host p is k (EndsReceive side.Host t x b msg) having has = absurd (true-false (ap is_manager (sym is ∙ has.1.0) ∙ has.1.4))
  has_minds m side.Host p is k (EndsReceive side.Remote t x b msg) having has = absurd (true-false (sym having))
  has_minds m side.Remote p is k (Receives side.Remote t x b msg) having has = absurd (true-false (ap is_manager (sym is ∙ has.1.0) ∙ has.1.4))
  has_minds m side.Remote p is k (Receives side.Host t x b msg) having has = absurd (true-false (sym having))
  has_minds m side.Remote p is k (EndsReceive side.Remote t x b msg) having has = absurd (true-false (ap is_manager (sym is ∙ has.1.0) ∙ has.1.4))
  has_minds m side.Remote p is k (EndsReceive side.Host t x b msg) having has = absurd (true-false (sym having))
  has_minds m e p is k (Reclaims i x) having has = having
  has_minds m e p is k (EndsHeld i x) having has = having
  has_minds m e p is k (Reopens q inc a b) having has = refl
  has_minds m e p is k (Gathers a b) having has = having

  -- nobody else has the turn that this seat minds for the manager
  pub alone : (st : State Slot View) (m : LaneLink (RingState (PlacedDesk kc kz))) (r : Shows cd desk z st m 0) (e : End) (id : ℕ) (v : View) (o : Mover v) → get_elem? st.views id ≡ some v → has_for_manager e o.pass.call ≡ true → (lane_to m e).lane.receiver ≡ turn.Manager
      → (j l : ℕ) (q : Pass) → PassAt st.views j l q → o.pass.number ≢ q.number → has_receiver e q.call ≡ true → IsCallOf m 0 q.number q.call → ⊥
  alone st m r e id v o at mind is j l q there apart having has = apart (r.turns.keepers e id o.place j l o.pass q (v, at, o.here) there mind (has_minds m e 0 is q.number q.call having has))

  same_self : (e : End) → same_end e e ≡ true
  same_self side.Host = refl
  same_self side.Remote = refl

  minded : (m : LaneLink (RingState (PlacedDesk kc kz))) (e : End) (s : RingState (PlacedDesk kc kz)) (number : ℕ) → end_of m.callers number ≡ Some e → s.lane.receiver ≡ turn.Manager → has_call (lane_to m (other e)).lane.sender number ≡ false → IsCallOf (with_lane m e s) 0 number (Reclaims e (receiver_side s))
  minded m side.Host s number user is sends = (user, is, refl, refl, sends)
  minded m side.Remote s number user is sends = (user, is, refl, refl, sends)

  pub same_end_is : (i e : End) → same_end i e ≡ true → i ≡ e
  same_end_is side.Host side.Host same = refl
  same_end_is side.Host side.Remote same = absurd (true-false (sym same))
  same_end_is side.Remote side.Host same = absurd (true-false (sym same))
  same_end_is side.Remote side.Remote same = refl

  pub seen_receiver : (m : LaneLink (RingState (PlacedDesk kc kz))) (p : ℕ) (i : End) → get_or (words_of p (fresh_block desk m) m) (receiver_word i) 0 ≡ turn_word (lane_to m i).lane.receiver
  seen_receiver m p side.Host = refl
  seen_receiver m p side.Remote = refl

  module _ (n id : ℕ) (me : SeatState) (o : Mover me.0) (e : End) (next : ReceiverSide → Call)
      (minds : (x : ReceiverSide) (i : End) → has_for_manager i (next x) ≡ true → i ≡ e)
      (mine : (m : LaneLink (RingState (PlacedDesk kc kz))) → IsCallOf m 0 o.pass.number o.pass.call → IsCallOf (with_lane m e (with_receiver (lane_to m e) turn.Manager)) 0 o.pass.number (next (receiver_side (lane_to m e))))
      (loud : (x : ReceiverSide) → has_for_manager e (next x) ≡ true) (plain : SameMinds o.pass.call (Rests e)) where
    claims_free : (st : State Slot View) (m : LaneLink (RingState (PlacedDesk kc kz))) (r : Shows cd desk z st m 0) → get_elem? st.views id ≡ some me.0 → (lane_to m e).lane.receiver ≡ turn.Free
        → (w : View) × (a : Act Slot) × Valid st.homes me.1 a × WordsRule cd desk z (stepped st (receiver_word e) 65 id me.1 w a)
        × ((x : ReceiverSide) × Path (Me Slot View) (w, carried_after me.1 a) (with_pass me.0 o (with_call o.pass (next x)) w.copy, (receiver_slot e, Receiver x) ∷ me.1))
        × StepBy cd desk (ReadsAt (receiver_word e) (get_or st.words (receiver_word e) 0)) me o (ManagerTakes lane_turn.Receiver e) (w, carried_after me.1 a)
    claims_free st m r at free =
        let s₀ = lane_to m e in let s = with_receiver s₀ turn.Free in let is : s₀ ≡ s = λ k. with_receiver s₀ (free k) in let s' = with_receiver s₀ turn.Manager in
        let x = receiver_side s₀ in let w : Call = next x in let hb = lane_homes (lane_to m (other e)) (shelf_to r.shelves (other e)) in
        let deed = ap (λ (t : Turn Receiving). with_lane m e (with_receiver s₀ (manager_takes t))) (sym free) in let has = mine m (r.turns.calls id o.place o.pass (me.0, at, o.here)) in (
          _,
          takes (receiver_slot e) (Receiver x),
          ap (λ hs. get_elem? hs (receiver_slot e)) (homes_here cd desk z st m r e) ∙ (receiver_home e _ _ ∙ ap (λ (t : Turn Receiving). some (home_if t (Receiver x))) free),
          lane_moves_by cd desk z st m r e s s' is (receiver_word e) 65 id me.1 me.0 o w o.pass.hands (takes (receiver_slot e) (Receiver x)) (ManagerTakes lane_turn.Receiver e) (shelf_to r.shelves e) at tt
              deed
              (receiver_turn_set e (era_word m.era) 65 (lane_words s) (lane_words (lane_to m (other e))))
              (receiver_side_set e none (lane_homes s (shelf_to r.shelves e)) hb)
              (shelved_receiver s₀ s' (shelf_to r.shelves e) (ap receiver_is_out free) refl refl refl refl refl refl refl ((buffers_in r) e))
              has
              (λ j l u there apart. others_beside desk m e s' refl refl refl u.number refl u.call (λ having had. free_for_all m e 0 free u.number u.call having had))
              refl refl refl refl (r.histories.latest id o.place o.pass (me.0, at, o.here)) (hands_kept desk m e s' o.pass (λ was. was) (r.histories.hands id o.place o.pass (me.0, at, o.here))) (λ u apart. hands_kept desk m e s' u (λ was. was))
              (keepers_new st.views id me.0 (with_pass me.0 o (with_call o.pass w) (Some (copied cd (with_lane m e s')))) o (with_call o.pass w) at refl
              (λ i held j l u there theirs. let same = minds x i held in free_for_all m e 0 free u.number u.call (minds_has e u.call (subst (λ (q : End). has_for_manager q u.call ≡ true) same theirs)) (r.turns.calls j l u there))
              r.turns.keepers)
              (keepers_lane m e s' st.views id me.0 (with_pass me.0 o (with_call o.pass w) (Some (copied cd (with_lane m e s')))) o (with_call o.pass w) at refl
              (λ was. inl was) (λ _. inr (loud x)) (λ i _ has. absurd (true-false (sym has ∙ plain.0 i))) (λ i _ has. absurd (true-false (sym has ∙ plain.1 i))) r.turns.some_keeper),
          (x, refl),
          read_by (receiver_word e) cd desk z st m r id me o (with_call o.pass w) (ManagerTakes lane_turn.Receiver e) (with_lane m e s') ((receiver_slot e, Receiver x) ∷ me.1) at tt deed has,
        )

    -- where the turn is another's, the pass is in this call, and nothing has changed
    claims_from : (busy : Call) → ((m : LaneLink (RingState (PlacedDesk kc kz))) → IsCallOf m 0 o.pass.number o.pass.call → IsCallOf m 0 o.pass.number busy) → SameMinds o.pass.call busy
        → ((st : State Slot View) (m : LaneLink (RingState (PlacedDesk kc kz))) (p : ℕ) (r : Shows cd desk z st m p) → get_elem? st.views id ≡ some me.0 → IsCallOf m p o.pass.number busy × IsCallOf m 0 o.pass.number o.pass.call)
        → Allows (WordsRule cd desk z) n id me (receiver_word e) (λ y. either (eqb y 0) 65 y) (λ y me'. ClaimsBy me o e next busy y me' × (y ≤ 65) × StepBy cd desk (ReadsAt (receiver_word e) y) me o (ManagerTakes lane_turn.Receiver e) me')
    claims_from busy goes_back minds_same stands st (m, p, r₀) wide at _ =
        let y : ℕ = get_or st.words (receiver_word e) 0 in
        let found : y ≡ turn_word (lane_to m e).lane.receiver = ap (λ (ws : List ℕ). get_or ws (receiver_word e) 0) r₀.words_are ∙ seen_receiver m p e in
        let held : y ≤ 65 = subst (λ (k : ℕ). k ≤ 65) (sym found) (receiver_word_most desk m e r₀.numbers.many r₀.sound) in
        exchanged y 0 65 (λ f. (w : View) × (a : Act Slot) × Valid st.homes me.1 a × WordsRule cd desk z (stepped st (receiver_word e) f id me.1 w a) × (ClaimsBy me o e next busy y (w, carried_after me.1 a) × (y ≤ 65) × StepBy cd desk (ReadsAt (receiver_word e) y) me o (ManagerTakes lane_turn.Receiver e) (w, carried_after me.1 a)))
        (λ hit.
        let free : (lane_to m e).lane.receiver ≡ turn.Free = free_if (lane_to m e).lane.receiver (sym found ∙ hit) in
        let r : Shows cd desk z st m 0 = ⊎_elim (λ (none_reset : p ≡ 0). subst (Shows cd desk z st m) none_reset r₀)
        (λ (still : IsStill m). absurd (true-false (ap is_free (sym free ∙ still_receiver desk m e still.1)))) r₀.turns.still in
        let all = claims_free st m r at free in
        (all.0, all.1, all.2, all.3, (((λ _. all.4), λ never. absurd (never hit)), held, all.5)))
        (λ miss.
        let same : m ≡ after_deed desk m (ManagerTakes lane_turn.Receiver e) = sym (same_lane m e) ∙ ap (λ (t : Turn Receiving). with_lane m e (with_receiver (lane_to m e) t)) (sym (takes_none (lane_to m e).lane.receiver (λ none. miss (found ∙ none)))) in
        let is = stands st m p r₀ at in (
          _,
          keeps,
          tt,
          stays_at cd desk z st m p r₀ (receiver_word e) y id me.1 me.0 o busy (ManagerTakes lane_turn.Receiver e) at refl tt same is.0 minds_same,
          (
            ((λ hit. absurd (miss hit)), λ _. refl),
            held,
            step_found cd desk z st m p r₀ id (receiver_word e) me o (with_call o.pass busy) (ManagerTakes lane_turn.Receiver e) me.1 (found ∙ receiver_of m e) at tt same is.1 (goes_back m is.1),
          ),
        ))

  -- of a caller between its calls
  pub claims : (n id : ℕ) (me : SeatState) (o : Mover me.0) (e : End) → o.pass.call ≡ Rests e
      → Allows (WordsRule cd desk z) n id me (receiver_word e) (λ y. either (eqb y 0) 65 y) (λ y me'. ClaimsBy me o e (Reclaims e) (Rests e) y me' × (y ≤ 65) × StepBy cd desk (ReadsAt (receiver_word e) y) me o (ManagerTakes lane_turn.Receiver e) me')
  claims n id me o e call =
      claims_from n id me o e (Reclaims e) (λ x i. same_end_is i e)
      (λ m has. let rests : IsCallOf m 0 o.pass.number (Rests e) = subst (IsCallOf m 0 o.pass.number) call has in minded m e (with_receiver (lane_to m e) turn.Manager) o.pass.number rests.0 refl rests.1)
      (λ x. same_self e) ((λ i. ap (has_sender_for_manager i) call), λ i. ap (has_for_manager i) call) (Rests e) (λ m. subst (IsCallOf m 0 o.pass.number) call) ((λ i. ap (has_sender_for_manager i) call), λ i. ap (has_for_manager i) call)
      (λ st m p r at. let rests : IsCallOf m p o.pass.number (Rests e) = subst (IsCallOf m p o.pass.number) call (r.turns.calls id o.place o.pass (me.0, at, o.here)) in (rests, subst (IsCallOf m 0 o.pass.number) (sym call) rests))

  both_minded : (m : LaneLink (RingState (PlacedDesk kc kz))) (i : End) (number : ℕ) (t : Turn Sending) (x : SenderSide) (b : ℕ) → IsCallOf m 0 number (EndsSend i t x b)
      → IsCallOf (with_lane m (other i) (with_receiver (lane_to m (other i)) turn.Manager)) 0 number (EndsBoth i t x b (receiver_side (lane_to m (other i))))
  both_minded m side.Host number t x b h = (h.0, h.1, h.2, refl, refl, refl)
  both_minded m side.Remote number t x b h = (h.0, h.1, h.2, refl, refl, refl)

  -- and of one whose send has found the era closed, which goes on where the turn is another's
  pub claims_beside : (n id : ℕ) (me : SeatState) (o : Mover me.0) (i : End) (t : Turn Sending) (x : SenderSide) (b : ℕ) → o.pass.call ≡ EndsSend i t x b → is_manager t ≡ false
      → Allows (WordsRule cd desk z) n id me (receiver_word (other i)) (λ y. either (eqb y 0) 65 y) (λ y me'. ClaimsBy me o (other i) (EndsBoth i t x b) (Sends i t x b) y me' × (y ≤ 65) × StepBy cd desk (ReadsAt (receiver_word (other i)) y) me o (ManagerTakes lane_turn.Receiver (other i)) me')
  claims_beside n id me o i t x b call bare =
      claims_from n id me o (other i) (EndsBoth i t x b) (λ y j. same_end_is j (other i))
      (λ m has. both_minded m i o.pass.number t x b (subst (IsCallOf m 0 o.pass.number) call has))
      (λ y. same_self (other i)) ((λ j. ap (has_sender_for_manager j) call), λ j. ap (has_for_manager j) call) (Sends i t x b) (λ m has. let h : IsCallOf m 0 o.pass.number (EndsSend i t x b) = subst (IsCallOf m 0 o.pass.number) call has in (h.0, h.1, h.3)) ((λ j. ap (has_sender_for_manager j) call), λ j. ap (has_for_manager j) call)
      (λ st m p r at. let h : IsCallOf m p o.pass.number (EndsSend i t x b) = subst (IsCallOf m p o.pass.number) call (r.turns.calls id o.place o.pass (me.0, at, o.here)) in ((h.0, h.1, h.3), subst (IsCallOf m 0 o.pass.number) (sym call) h))

  -- the era again, while the seat has the turn
  pub shuts : (n id : ℕ) (me : SeatState) (o : Mover me.0) (e : End) (x : ReceiverSide) → o.pass.call ≡ Reclaims e x
      → Allows (WordsRule cd desk z) n id me 1 (λ y. y) (λ y me'. FindsClosedBy me o (EndsHeld e x) y me' × StepBy cd desk (ReadsAt 1 y) me o Nothing me')
  shuts n id me o e x call st (m, p, r₀) wide at _ =
      let h : IsCallOf m p o.pass.number (Reclaims e x) = subst (IsCallOf m p o.pass.number) call (r₀.turns.calls id o.place o.pass (me.0, at, o.here)) in
      finds_closed cd desk z n id me o (EndsHeld e x) st m (subst (Shows cd desk z st m) h.3 r₀) at (λ shut. (h.0, h.1, h.2, refl, shut, h.4)) ((λ i. ap (has_sender_for_manager i) call), λ i. ap (has_for_manager i) call)

  -- where it was found live, the turn is left again
  pub releases : (n id : ℕ) (me : SeatState) (o : Mover me.0) (e : End) (x : ReceiverSide) → o.pass.call ≡ Reclaims e x → me.1 ≡ (receiver_slot e, Receiver x) ∷ rest me.1
      → Allows (WordsRule cd desk z) n id me (receiver_word e) (λ _. 0) (λ _ me'. LeavesTo me o (Rests e) (rest me.1) me' × StepBy cd desk (WritesAt (receiver_word e) 0) me o (ManagerLeaves lane_turn.Receiver e) me')
  releases n id me o e x call has_slot st (m, p, r₀) wide at _ =
      let h : IsCallOf m p o.pass.number (Reclaims e x) = subst (IsCallOf m p o.pass.number) call (r₀.turns.calls id o.place o.pass (me.0, at, o.here)) in
      let c = o.pass.number in let s₀ = lane_to m e in let r : Shows cd desk z st m 0 = subst (Shows cd desk z st m) h.3 r₀ in
      let s = with_receiver s₀ turn.Manager in let is : s₀ ≡ s = λ k. with_receiver s₀ (h.1 k) in let s' = with_receiver s₀ turn.Free in
      let ha = lane_homes s (shelf_to r.shelves e) in let hb = lane_homes (lane_to m (other e)) (shelf_to r.shelves (other e)) in
      let minds : has_for_manager e o.pass.call ≡ true = ap (has_for_manager e) call ∙ same_self e in
      let deed = ap (λ (t : Turn Receiving). with_lane m e (with_receiver s₀ (manager_leaves t))) (sym h.1) in let mine = receive_rests cd desk z m e s' c h.0 refl h.4 in (
        _,
        gives,
        tt,
        lane_moves_by cd desk z st m r e s s' is (receiver_word e) 0 id me.1 me.0 o (Rests e) o.pass.hands gives (ManagerLeaves lane_turn.Receiver e) (shelf_to r.shelves e) at
            tt
            deed
            (receiver_turn_set e (era_word m.era) 0 (lane_words s) (lane_words (lane_to m (other e))))
            (ap (λ (cs : List (ℕ × Slot)). homes_after (homes_at e ha hb) cs gives) has_slot
            ∙ (receiver_side_set e (some (Receiver x)) ha hb ∙ ap (λ (u : ReceiverSide). homes_at e (record ha { receiver = some (Receiver u) }) hb) h.2))
            (shelved_receiver s₀ s' (shelf_to r.shelves e) (ap receiver_is_out h.1) refl refl refl refl refl refl refl ((buffers_in r) e))
            mine
            (λ j l u there apart. others_beside desk m e s' refl refl refl u.number refl u.call (λ having had. alone st m r e id me.0 o at minds h.1 j l u there apart having had))
            refl refl refl refl (r.histories.latest id o.place o.pass (me.0, at, o.here)) (hands_kept desk m e s' o.pass (λ was. was) (r.histories.hands id o.place o.pass (me.0, at, o.here))) (λ u apart. hands_kept desk m e s' u (λ was. was))
            (keepers_set st.views id me.0 (with_pass me.0 o (with_call o.pass (Rests e)) (Some (copied cd (with_lane m e s')))) o (with_call o.pass (Rests e)) at refl refl (λ i k. absurd (true-false (sym k))) r.turns.keepers)
            (keepers_lane m e s' st.views id me.0 (with_pass me.0 o (with_call o.pass (Rests e)) (Some (copied cd (with_lane m e s')))) o (with_call o.pass (Rests e)) at refl
            (λ was. inl was) (λ never. absurd (true-false (sym (ap is_manager never)))) (λ i _ has. absurd (true-false (sym has ∙ ap (has_sender_for_manager i) call))) (λ i still has. absurd (true-false (sym (ap is_manager (still (same_end_is i e (sym (ap (has_for_manager i) call) ∙ has))))))) r.turns.some_keeper),
        (refl, write_by (receiver_word e) 0 cd desk z st m r id me o (with_call o.pass (Rests e)) (ManagerLeaves lane_turn.Receiver e) (with_lane m e s') (rest me.1) (receiver_in m e s') at tt deed mine),
      )

  -- part 4: the turn is left, and the caller holds nothing
  pub leaves_held : (n id : ℕ) (me : SeatState) (o : Mover me.0) (e : End) (x x' : ReceiverSide) → o.pass.call ≡ EndsHeld e x → x' ≡ record x { hands = hands_of_others x.hands o.pass.number } → me.1 ≡ (receiver_slot e, Receiver x') ∷ rest me.1
      → Allows (WordsRule cd desk z) n id me (receiver_word e) (λ _. 0) (λ _ me'. LeavesEmpty me o (Rests e) (rest me.1) me' × StepBy cd desk (WritesAt (receiver_word e) 0) me o (LeavesTurn e o.pass.number) me')
  leaves_held n id me o e x x' call side_is has_slot st (m, p, r₀) wide at _ =
      let h : IsCallOf m p o.pass.number (EndsHeld e x) = subst (IsCallOf m p o.pass.number) call (r₀.turns.calls id o.place o.pass (me.0, at, o.here)) in
      let c = o.pass.number in let s₀ = lane_to m e in let r : Shows cd desk z st m 0 = subst (Shows cd desk z st m) h.3 r₀ in
      let out : RingState (PlacedDesk kc kz) = (ring_form desk).after_receive_end s₀ c in
      let left : Turn Receiving → RingState (PlacedDesk kc kz) = λ t. record out { lane = record out.lane { receiver = manager_leaves t } } in
      let s = with_receiver s₀ turn.Manager in let is : s₀ ≡ s = λ k. with_receiver s₀ (h.1 k) in let s' = left turn.Manager in
      let ha = lane_homes s (shelf_to r.shelves e) in let hb = lane_homes (lane_to m (other e)) (shelf_to r.shelves (other e)) in
      let side : x' ≡ receiver_side s' = side_is ∙ ap (λ (u : ReceiverSide). record u { hands = hands_of_others u.hands c }) h.2 in
      let minds : has_for_manager e o.pass.call ≡ true = ap (has_for_manager e) call ∙ same_self e in
      let deed = ap (λ (t : Turn Receiving). with_lane m e (left t)) (sym h.1) in let mine = receive_rests cd desk z m e s' c h.0 refl h.5 in (
        _,
        gives,
        tt,
        lane_moves_by cd desk z st m r e s s' is (receiver_word e) 0 id me.1 me.0 o (Rests e) [] gives (LeavesTurn e c) (shelf_to r.shelves e) at
            (h.4, h.0, h.1)
            deed
            (receiver_turn_set e (era_word m.era) 0 (lane_words s) (lane_words (lane_to m (other e))))
            (ap (λ (cs : List (ℕ × Slot)). homes_after (homes_at e ha hb) cs gives) has_slot
            ∙ (receiver_side_set e (some (Receiver x')) ha hb ∙ ap (λ (u : ReceiverSide). homes_at e (record ha { receiver = some (Receiver u) }) hb) side))
            (shelved_receiver s₀ s' (shelf_to r.shelves e) (ap receiver_is_out h.1) refl refl refl refl refl refl refl ((buffers_in r) e))
            mine
            (λ j l u there apart. others_beside desk m e s' refl refl refl u.number refl u.call (λ having had. alone st m r e id me.0 o at minds h.1 j l u there apart having had))
            refl refl refl refl (inr (inl refl)) (hands_here m e s' (with_call_and_hands o.pass (Rests e) []) h.0 (hands_none c s₀.lane.lane.held)) (λ u apart. hands_kept desk m e s' u (λ was. hands_others c u.number s₀.lane.lane.held apart ∙ was))
            (keepers_set st.views id me.0 (with_pass me.0 o (with_call_and_hands o.pass (Rests e) []) (Some (copied cd (with_lane m e s')))) o (with_call_and_hands o.pass (Rests e) []) at refl refl (λ i k. absurd (true-false (sym k))) r.turns.keepers)
            (keepers_lane m e s' st.views id me.0 (with_pass me.0 o (with_call_and_hands o.pass (Rests e) []) (Some (copied cd (with_lane m e s')))) o (with_call_and_hands o.pass (Rests e) []) at refl
            (λ was. inl was) (λ never. absurd (true-false (sym (ap is_manager never)))) (λ i _ has. absurd (true-false (sym has ∙ ap (has_sender_for_manager i) call))) (λ i still has. absurd (true-false (sym (ap is_manager (still (same_end_is i e (sym (ap (has_for_manager i) call) ∙ has))))))) r.turns.some_keeper),
        (refl, write_by (receiver_word e) 0 cd desk z st m r id me o (with_call_and_hands o.pass (Rests e) []) (LeavesTurn e c) (with_lane m e s') (rest me.1) (receiver_in m e s') at (h.4, h.0, h.1) deed mine),
      )
