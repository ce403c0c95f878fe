-- step 6 of a send: the message is accepted and its buffer comes home, on either lane.
use Rattle.link_words.proofs.Keepers.{keepers_by}
use Rattle.link_words.specs.Parts.{has_for_manager, has_sender_for_manager}
use Rattle.link_words.specs.declared.codes.DeskTables.{DeskTables}
use Rattle.link_words.specs.PlacedDesks.{PlacedDesk}
use Rattle.std.proofs.Common.{◌≡◌, ℕ, zero, suc, ◌+◌, ◌%◌, ◌<◌, ◌≤◌, true, List, [], ◌∷◌, ◌++◌, length, set, refl, sym, ap, ◌∙◌, subst, arith, length-set, length-append, inr}
use Rattle.std.specs.Prelude.{None}
use Rattle.std.specs.Prelude.{Some}
use mathlib.Core.Option.{some}
use mathlib.Core.Option.{Option as Option_of}
use native.Mathlib.Decide.{ℕ_discrete, dec_lt}
use Rattle.std.proofs.Math.Nat.{mod-add-mod}
use lib.ListN.{get_elem?}
use Rattle.atomic_table.specs.Table.{gives, homes_after, Allows, rest}
use Rattle.atomic_table.proofs.Lists.{set_here, set_else}
use Rattle.rp_base.specs.declared.kinds.End.{End}
use Rattle.lane_model.specs.declared.states.BookEntry.{BookEntry}
use Rattle.lane_model.specs.declared.stages.Turn.{Turn}
use Rattle.lane_model.specs.declared.stages.Turn.TheVariants as turn
use Rattle.lane_model.specs.declared.stages.Sending.{Sending}
use Rattle.lane_model.specs.declared.stages.SendStage.TheVariants as stage
use Rattle.lane_model.specs.declared.calls.CallEnd.TheVariants as end
use base.Stored.{Coded}
use Rattle.lane_model.specs.Desks.{DeskMeaning}
use Rattle.lane_model.specs.Lanes.{holder, has_call, message_at}
use Rattle.ring_core.specs.declared.states.RingState.{RingState}
use Rattle.ring_core.specs.Rings.{buffer_at}
use Rattle.ring_core.specs.Owners.{sender_is_out, receiver_is_out}
use Rattle.ring_core.specs.RingSteps.{ring_form, next_index}
use Rattle.ring_core.specs.SoundRings.{IsSoundRings}
use Rattle.ring_core.proofs.OneOwner.{sending_is, taking_is}
use Rattle.ring_core.proofs.Owned.{source-below, source-apart}
use Rattle.link_words.specs.declared.rule.Slot.{Slot}
use Rattle.link_words.specs.declared.rule.Slot.TheVariants.{Buffer}
use Rattle.link_words.specs.declared.rule.SenderSide.{SenderSide}
use Rattle.link_words.specs.declared.rule.LinkSizes.{LinkSizes}
use Rattle.link_words.specs.declared.rule.Call.TheVariants.{Sends}
use Rattle.link_words.specs.declared.rule.Event.TheVariants.{Publish}
use Rattle.link_words.specs.declared.rule.Pass.{Pass}
use Rattle.link_words.specs.Words.{other, lane_to, with_lane, era_word, lane_words, words_at, lane_homes, homes_at, shelf_to, forward_word, buffer_slot, with_turn}
use Rattle.link_words.specs.Turns.{is_manager}
use Rattle.link_words.specs.Deeds.{Steps, after_deed}
use Rattle.link_words.specs.Rule.{IsCallOf, WordsRule}
use Rattle.link_words.specs.Parts.{HoldsBuffers}
use Rattle.link_words.specs.Histories.{hands_of}
use Rattle.link_words.specs.Codes.{copied}
use Rattle.link_words.specs.Passes.{Mover, with_pass}
use Rattle.link_words.specs.Calls.{SeatState}
use Rattle.link_words.specs.Steps.{accepted_side}
use Rattle.link_words.proofs.Tells.{SendPublishesBy}
use Rattle.link_words.proofs.Frames.{buffer_set, keepers_set, forward_in}
use Rattle.link_words.proofs.Kept.{send_deed, send_may}
use Rattle.link_words.proofs.LaneSteps.{no_call, others_send, here_sends, hands_kept, lane_moves_with}
use Rattle.link_words.proofs.Sends.{has_of, some_number, true-false, at_zero}
use Rattle.link_words.proofs.Books.{history_published, history_other, none_published, not_used}
use Rattle.link_words.proofs.Buffers.{rings_to, index_set, first_is}
use Rattle.link_words.proofs.Exact.{StepBy, write_by, WritesAt}
use Rattle.link_words.proofs.Parts.{rings_in, buffers_in}

-- one message more leaves those before it
message_before : (book : List BookEntry) (entry : BookEntry) (k : ℕ) → k < length book → message_at (book ++ entry ∷ []) k ≡ message_at book k
message_before [] entry k low = absurd (omega arith)
message_before (b ∷ book) entry zero low = refl
message_before (b ∷ book) entry (suc k) low = message_before book entry k (omega arith)

message_last : (book : List BookEntry) (entry : BookEntry) (k : ℕ) → k ≡ length book → message_at (book ++ entry ∷ []) k ≡ entry.message
message_last [] entry zero at = refl
message_last [] entry (suc k) at = absurd (omega arith)
message_last (b ∷ book) entry zero at = absurd (omega arith)
message_last (b ∷ book) entry (suc k) at = message_last book entry k (omega arith)

-- the slots when a buffer that a send had out is at home with something in it, and no send has one out
pub shelved_home : {B : Type 0} {kc : Coded B} {kz : DeskTables} (s s' : RingState (PlacedDesk kc kz)) (l : List (Option_of Slot)) (y : Slot) → IsSoundRings s → sender_is_out s.lane.sender ≡ true → HoldsBuffers s l
    → s'.rings.sizes ≡ s.rings.sizes → s'.rings.forward ≡ s.rings.forward → s'.rings.taking ≡ s.rings.taking → s'.lane.receiver ≡ s.lane.receiver → s'.lane.lane.takers ≡ s.lane.lane.takers
    → ((k : ℕ) → k < length s'.lane.lane.accepted → (k < length s.lane.lane.accepted → ⊥) → (buffer_at s.rings.sizes.entries s.rings.forward k ≡ s.rings.sending) × (y ≡ Buffer (message_at s'.lane.lane.accepted k)))
    → ((k : ℕ) → k < length s.lane.lane.accepted → message_at s'.lane.lane.accepted k ≡ message_at s.lane.lane.accepted k)
    → HoldsBuffers s' (set l s.rings.sending (some y))
shelved_home s s' l y sound out q sizes forward taking receiver takers newer older =
    let a = length s.lane.lane.accepted in let hd = length s.lane.lane.takers in let size = s.rings.sizes in
    let sends = sending_is s sound out in let cap : s.lane.lane.capacity ≡ size.capacity = sound.sized.lane in let room : a < s.lane.lane.returned + size.capacity = omega (arith, sends.1, cap) in
    let id : ℕ = s.rings.sending in
    let low : id < size.capacity = subst (λ (k : ℕ). k < size.capacity) (sym sends.0) (source-below size a hd s.lane.lane.returned s.rings.forward s.rings.returns s.rings.hands s.rings.aside sound.owned room) in
    let apart = source-apart size a hd s.lane.lane.returned s.rings.forward s.rings.returns s.rings.hands s.rings.aside sound.owned room in
    let near : id < length l = omega (arith, low, q.long) in
    let buffer : (k : ℕ) → buffer_at s'.rings.sizes.entries s'.rings.forward k ≡ buffer_at size.entries s.rings.forward k = λ k i. buffer_at (sizes i).entries (forward i) k in
    let hd' : length s'.lane.lane.takers ≡ hd = ap length takers in
    record {
      long = length-set l id (some y) ∙ (q.long ∙ ap (λ x. x.capacity) (sym sizes));
      full = λ k from to other. ap (get_elem? (set l id (some y))) (buffer k) ∙ elim (dec_lt k a) as (λ _. get_elem? (set l id (some y)) (buffer_at size.entries s.rings.forward k) ≡ some (some (Buffer (message_at s'.lane.lane.accepted k)))) [
        | yes old ↦
            let from' : hd ≤ k = omega (arith, from, hd') in
            set_else l id (buffer_at size.entries s.rings.forward k) (some y) (λ same. apart k from' old (same ∙ sends.0))
            ∙ (q.full k from' old (λ o same. other (ap receiver_is_out receiver ∙ o) (same ∙ sym hd')) ∙ ap (λ (msg : List ℕ). some (some (Buffer msg))) (sym (older k old)))
        | no fresh ↦
            let new = newer k to fresh in
            ap (get_elem? (set l id (some y))) new.0 ∙ (set_here l id (some y) near ∙ ap (λ (u : Slot). some (some u)) new.1)
      ];
      home = λ j under mine theirs. elim (ℕ_discrete j id) as (λ _. (u : Slot) × (get_elem? (set l id (some y)) j ≡ some (some u))) [
        | yes same ↦ (y, ap (get_elem? (set l id (some y))) same ∙ set_here l id (some y) near)
        | no other ↦
            let ho = q.home j (subst (λ (n : ℕ). j < n) (ap (λ x. x.capacity) sizes) under) (λ _. other) (λ o same. theirs (ap receiver_is_out receiver ∙ o) (same ∙ sym taking)) in
            (ho.0, set_else l id j (some y) other ∙ ho.1)
      ];
    }

module _ {B : Type 0} {kc : Coded B} {kz : DeskTables} (cd : Coded (PlacedDesk kc kz)) (desk : DeskMeaning (PlacedDesk kc kz)) (z : LinkSizes) where
  pub publishes : (n id : ℕ) (me : SeatState) (o : Mover me.0) (e : End) (c f : ℕ) (message : List ℕ) (x : SenderSide) (b first new : ℕ) → o.pass.call ≡ Sends e (turn.Taken c (record { follows = f; message = message; stage = stage.Entry })) x b → first ≡ z.to_host.capacity
      → me.1 ≡ (buffer_slot first e b, Buffer message) ∷ rest me.1 → new ≡ (x.accepted + 1) % 65536
      → Allows (WordsRule cd desk z) n id me (forward_word e) (λ _. new) (λ _ me'. SendPublishesBy me o e c f message x b me' × StepBy cd desk (WritesAt (forward_word e) new) me o (Steps o.pass.number 0 None) me')
  publishes n id me o e c f message x b first new call first_at has_slot new_is st (m, p, r₀) wide at _ =
      let sending : Sending = record { follows = f; message = message; stage = stage.Entry } in let t : Turn Sending = turn.Taken c sending in
      let h : IsCallOf m p o.pass.number (Sends e t x b) = subst (IsCallOf m p o.pass.number) call (r₀.turns.calls id o.place o.pass (me.0, at, o.here)) in
      let r = at_zero cd desk z st m p e t h.1.0 refl r₀ in let s₀ = lane_to m e in let s = with_turn s₀ t in let is : s₀ ≡ s = λ k. with_turn s₀ (h.1.0 k) in
      let sound : IsSoundRings s = subst IsSoundRings is (rings_to m e (rings_in r)) in let q : HoldsBuffers s (shelf_to r.shelves e) = subst (λ (u : RingState (PlacedDesk kc kz)). HoldsBuffers u (shelf_to r.shelves e)) is ((buffers_in r) e) in
      let a = length s.lane.lane.accepted in let out : s₀.rings.sending ≡ b = h.1.3 refl in let side : x.accepted ≡ a = ap (λ (u : SenderSide). u.accepted) h.1.2 in
      let stands = sound.source in let sends = sending_is s sound refl in let cap : s.lane.lane.capacity ≡ s.rings.sizes.capacity = sound.sized.lane in
      let room : a < s.lane.lane.returned + s.rings.sizes.capacity = omega (arith, sends.1, cap) in
      let low : s.rings.sending < s.rings.sizes.capacity = subst (λ (k : ℕ). k < s.rings.sizes.capacity) (sym sends.0) (source-below s.rings.sizes a (length s.lane.lane.takers) s.lane.lane.returned s.rings.forward s.rings.returns s.rings.hands s.rings.aside sound.owned room) in
      let near : b < length (shelf_to r.shelves e) = omega (arith, low, q.long, out) in
      let s' : RingState (PlacedDesk kc kz) = (ring_form desk).sent_on s m.era in let entry : BookEntry = record { caller = c; message = message } in
      let t' : Turn Sending = turn.Leaving c (end.Sent x.accepted) in let x' : SenderSide = accepted_side x c message in let w : Pass = record o.pass { call = Sends e t' x' b; own = Publish e f x.accepted message ∷ o.pass.own } in let who : c ≡ o.pass.number = some_number c o.pass.number h.1.1 in let hist = r.histories.own id o.place o.pass (me.0, at, o.here) in
      let has : has_call s₀.lane.sender o.pass.number ≡ true = has_of s₀.lane.sender o.pass.number (ap holder h.1.0 ∙ h.1.1) (ap is_manager h.1.0) in
      let l' = set (shelf_to r.shelves e) b (some (Buffer message)) in
      let index : new ≡ next_index s.rings.forward_index = new_is ∙ (ap (λ (k : ℕ). (k + 1) % 65536) side ∙ (sym (mod-add-mod a 65536 1) ∙ ap (λ (k : ℕ). (k + 1) % 65536) (sym sound.forward_index))) in
      let more : length (s.lane.lane.accepted ++ entry ∷ []) ≡ a + 1 = length-append s.lane.lane.accepted (entry ∷ []) in
      let may = send_may desk m e o.pass.number 0 h.0 has in
      let deed : with_lane m e s' ≡ after_deed desk m (Steps o.pass.number 0 None) = ap (λ (u : RingState (PlacedDesk kc kz)). with_lane m e ((ring_form desk).sent_on u m.era)) (sym is) ∙ send_deed desk m e o.pass.number 0 h.0 has in
      let mine : IsCallOf (with_lane m e s') 0 o.pass.number (Sends e t' x' b) = here_sends desk m e s' o.pass.number t' x' b h.0
      (ap (λ (k : ℕ). turn.Leaving c (end.Sent k)) (sym side), h.1.1, (ap (λ (u : SenderSide). accepted_side u c message) h.1.2 ∙ (λ i. record { accepted = sym more i; entries = s.lane.lane.accepted ++ entry ∷ []; room = s.lane.lane.book })), λ o. absurd (true-false (sym o))) tt in (
        _,
        gives,
        tt,
        lane_moves_with cd desk z st m r e s s' is (forward_word e) new id me.1 me.0 o w gives (Steps o.pass.number 0 None) l' at
            may
            deed
            (ap (set (words_at e (era_word m.era) (lane_words s) (lane_words (lane_to m (other e)))) (forward_word e)) index ∙ index_set e (era_word m.era) (next_index s.rings.forward_index) (lane_words s) (lane_words (lane_to m (other e))))
            (ap (λ (cs : List (ℕ × Slot)). homes_after (homes_at e (lane_homes s (shelf_to r.shelves e)) (lane_homes (lane_to m (other e)) (shelf_to r.shelves (other e)))) cs gives) has_slot
            ∙ buffer_set e first b (some (Buffer message)) (lane_homes s (shelf_to r.shelves e)) (lane_homes (lane_to m (other e)) (shelf_to r.shelves (other e))) near (first_is cd desk z st m r e first first_at))
            (subst (λ (k : ℕ). HoldsBuffers s' (set (shelf_to r.shelves e) k (some (Buffer message)))) out
            (shelved_home s s' (shelf_to r.shelves e) (Buffer message) sound refl q refl refl refl refl refl
            (λ k to fresh. let to' : k < length (s.lane.lane.accepted ++ entry ∷ []) = to in let last : k ≡ a = omega (arith, to', more, fresh) in
            (ap (buffer_at s.rings.sizes.entries s.rings.forward) last ∙ stands.1, ap Buffer (sym (message_last s.lane.lane.accepted entry k last))))
            (λ k old. message_before s.lane.lane.accepted entry k old)))
            mine
            (λ j l q there apart. others_send desk m e s' t o.pass.number h.1.0 h.1.1 refl refl refl (λ o. let tk = taking_is s sound o in message_before s.lane.lane.accepted entry (length s.lane.lane.takers) tk.1) (λ k apart. no_call desk t' o.pass.number k h.1.1 apart) q.number apart q.call) refl refl
            (history_published m e s' entry refl o.pass.number o.pass.first f x.accepted o.pass.own (sym (ap (λ (u : RingState (PlacedDesk kc kz)). u.lane.lane.takers) is)) refl who (h.2 refl) side hist)
            (λ u apart has. history_other m e s' entry (sym (ap (λ (y : RingState (PlacedDesk kc kz)). y.lane.lane.accepted ++ entry ∷ []) is)) u.number u.first u.own (sym (ap (λ (y : RingState (PlacedDesk kc kz)). y.lane.lane.takers) is)) refl (λ same. apart (sym who ∙ same)) has)
            (inr (inr (h.2 refl)))
            (hands_kept desk m e s' o.pass (λ was. ap (λ (u : RingState (PlacedDesk kc kz)). hands_of o.pass.number u.lane.lane.held) (sym is) ∙ was) (r.histories.hands id o.place o.pass (me.0, at, o.here)))
            (λ u apart. hands_kept desk m e s' u (λ was. ap (λ (y : RingState (PlacedDesk kc kz)). hands_of u.number y.lane.lane.held) (sym is) ∙ was))
            (λ n none. none_published m e s' entry (sym (ap (λ (y : RingState (PlacedDesk kc kz)). y.lane.lane.accepted ++ entry ∷ []) is)) (sym (ap (λ (y : RingState (PlacedDesk kc kz)). y.lane.lane.takers) is)) n (λ same. not_used m.callers o.pass.number n (other e) h.0 none (sym who ∙ same)))
            (keepers_set st.views id me.0 (with_pass me.0 o w (Some (copied cd (with_lane m e s')))) o w at refl refl (λ i k. absurd (true-false (sym k))) r.turns.keepers)
            (keepers_by desk m (with_lane m e s') (Steps o.pass.number 0 None) deed st.views id me.0 (with_pass me.0 o w (Some (copied cd (with_lane m e s')))) o w at refl (refl, ((λ i. ap (has_sender_for_manager i) call), λ i. ap (has_for_manager i) call)) r.turns.some_keeper),
        ((subst (λ (u : SenderSide). u.accepted < u.room) (sym h.1.2) (sound.room refl).1, refl), write_by (forward_word e) new cd desk z st m r id me o w (Steps o.pass.number 0 None) (with_lane m e s') (rest me.1) (index ∙ forward_in m e s') at may deed mine),
      )
