-- The steps of a send at which a buffer goes out and comes home, on either lane: from the sender's own list or from the return ring.
use Rattle.link_words.specs.Parts.{has_for_manager, has_sender_for_manager}
use Rattle.link_words.specs.declared.codes.DeskTables.{DeskTables}
use Rattle.link_words.specs.PlacedDesks.{PlacedDesk}
use Rattle.std.proofs.Common.{◌≡◌, ℕ, ◌+◌, ◌<◌, true, List, ◌∷◌, length, get_or, set, refl, sym, ap, ◌∙◌, subst, arith, length-set, le_refl}
use Rattle.std.specs.Prelude.{None}
use Rattle.std.specs.Prelude.{Some}
use mathlib.Core.Option.{some, none}
use lib.ListN.{get_elem?}
use lib.Seq.{set-get_or}
use Rattle.atomic_table.specs.Table.{State, takes, Allows}
use Rattle.atomic_table.proofs.Lists.{set_else}
use Rattle.rp_base.specs.declared.kinds.End.{End}
use Rattle.rp_base.specs.declared.kinds.End.TheVariants as side
use Rattle.lane_model.specs.declared.lane_links.LaneLink.{LaneLink}
use Rattle.lane_model.specs.declared.stages.Turn.{Turn}
use Rattle.lane_model.specs.declared.stages.Turn.TheVariants as turn
use Rattle.lane_model.specs.declared.stages.Sending.{Sending}
use Rattle.lane_model.specs.declared.stages.SendStage.TheVariants as stage
use base.Stored.{Coded}
use Rattle.lane_model.specs.Desks.{DeskMeaning}
use Rattle.lane_model.specs.Lanes.{holder, has_call}
use Rattle.lane_laws.proofs.CrashLaws.{host_is_not}
use Rattle.ring_core.specs.declared.states.RingState.{RingState}
use Rattle.ring_core.specs.Rings.{buffer_at, source_buffer}
use Rattle.ring_core.specs.RingSteps.{ring_form}
use Rattle.lane_laws.specs.SoundRingLinks.{HasSoundRings}
use Rattle.ring_core.specs.SoundRings.{IsSoundRings}
use Rattle.ring_core.proofs.OneOwner.{taking_is}
use Rattle.ring_core.proofs.Owned.{source-below, source-apart, source-early}
use Rattle.link_words.specs.declared.rule.Slot.{Slot}
use Rattle.link_words.specs.declared.rule.SenderSide.{SenderSide}
use Rattle.link_words.specs.declared.rule.LinkSizes.{LinkSizes}
use Rattle.link_words.specs.declared.rule.Call.{Call}
use Rattle.link_words.specs.declared.rule.Call.TheVariants.{Sends}
use Rattle.link_words.specs.declared.rule.View.{View}
use Rattle.link_words.specs.Words.{other, lane_to, with_lane, era_word, LaneWords, lane_words, words_of, words_at, lane_homes, homes_at, homes_of, shelf_to, sender_side, forward_word, buffer_slot, with_turn}
use Rattle.link_words.specs.Turns.{is_manager}
use Rattle.link_words.specs.Deeds.{Steps, after_deed}
use Rattle.link_words.specs.Rule.{IsCallOf, fresh_block, Shows, WordsRule}
use Rattle.link_words.specs.Parts.{HoldsBuffers}
use Rattle.link_words.specs.Codes.{copied}
use Rattle.link_words.specs.Passes.{Mover, with_pass, with_call}
use Rattle.link_words.specs.Calls.{SeatState}
use Rattle.link_words.proofs.Tells.{SendTakesBufferBy}
use Rattle.link_words.proofs.Frames.{words_seen, homes_seen, same_lane, same_shelf, buffer_found, buffer_set}
use Rattle.link_words.proofs.Kept.{send_deed, send_may}
use Rattle.link_words.proofs.LaneSteps.{no_call, others_send, here_sends, lane_moves}
use Rattle.link_words.proofs.Sends.{has_of, true-false, at_zero}
use Rattle.link_words.proofs.Exact.{StepBy, ReadsAt, read_by}
use Rattle.link_words.proofs.Parts.{rings_in, sizes_in, buffers_in}

pub rings_to : {B : Type 0} {kc : Coded B} {kz : DeskTables} (m : LaneLink (RingState (PlacedDesk kc kz))) (e : End) → HasSoundRings m → IsSoundRings (lane_to m e)
rings_to m side.Host sound = sound.to_host
rings_to m side.Remote sound = sound.to_remote

pub index_set : (e : End) (era n : ℕ) (a b : LaneWords) → set (words_at e era a b) (forward_word e) n ≡ words_at e era (record a { forward_index = n }) b
index_set side.Host era n a b = refl
index_set side.Remote era n a b = refl

module _ {B : Type 0} {kc : Coded B} {kz : DeskTables} (cd : Coded (PlacedDesk kc kz)) (desk : DeskMeaning (PlacedDesk kc kz)) (z : LinkSizes) (st : State Slot View) (m : LaneLink (RingState (PlacedDesk kc kz))) (r : Shows cd desk z st m 0) (e : End) where
  -- the table seen from a lane
  pub words_here : st.words ≡ words_at e (era_word m.era) (lane_words (lane_to m e)) (lane_words (lane_to m (other e)))
  words_here = r.words_are ∙ (ap (λ (x : LaneLink (RingState (PlacedDesk kc kz))). words_of 0 (fresh_block desk m) x) (sym (same_lane m e)) ∙ words_seen (fresh_block desk m) m e (lane_to m e))

  pub homes_here : st.homes ≡ homes_at e (lane_homes (lane_to m e) (shelf_to r.shelves e)) (lane_homes (lane_to m (other e)) (shelf_to r.shelves (other e)))
  homes_here = r.homes_are ∙ ((λ k. homes_of (sym (same_lane m e) k) (sym (same_shelf r.shelves e) k)) ∙ homes_seen m r.shelves e (lane_to m e) (shelf_to r.shelves e))

  pub loaded : (i : ℕ) (s : RingState (PlacedDesk kc kz)) → lane_to m e ≡ s → set (words_at e (era_word m.era) (lane_words s) (lane_words (lane_to m (other e)))) i (get_or st.words i 0) ≡ words_at e (era_word m.era) (lane_words s) (lane_words (lane_to m (other e)))
  loaded i s is =
      let all : st.words ≡ words_at e (era_word m.era) (lane_words s) (lane_words (lane_to m (other e))) = words_here ∙ ap (λ (x : RingState (PlacedDesk kc kz)). words_at e (era_word m.era) (lane_words x) (lane_words (lane_to m (other e)))) is in
      ap (λ (ws : List ℕ). set (words_at e (era_word m.era) (lane_words s) (lane_words (lane_to m (other e)))) i (get_or ws i 0)) all ∙ set-get_or (words_at e (era_word m.era) (lane_words s) (lane_words (lane_to m (other e)))) i 0

-- where the buffers of the lane to the remote begin
pub first_is : {B : Type 0} {kc : Coded B} {kz : DeskTables} (cd : Coded (PlacedDesk kc kz)) (desk : DeskMeaning (PlacedDesk kc kz)) (z : LinkSizes) (st : State Slot View) (m : LaneLink (RingState (PlacedDesk kc kz))) (r : Shows cd desk z st m 0) (e : End) (first : ℕ) → first ≡ z.to_host.capacity
    → e ≡ side.Remote → first ≡ length (shelf_to r.shelves (other e))
first_is cd desk z st m r side.Host first is at = absurd (host_is_not at)
first_is cd desk z st m r side.Remote first is at = is ∙ sym (((buffers_in r) side.Host).long ∙ ap (λ x. x.capacity) (sizes_in r).0)

module _ {B : Type 0} {kc : Coded B} {kz : DeskTables} (cd : Coded (PlacedDesk kc kz)) (desk : DeskMeaning (PlacedDesk kc kz)) (z : LinkSizes) where
  -- step 4 of a send, whatever word it loads: the buffer of the coming send is at home, and goes out
  pub pulls : (n id : ℕ) (me : SeatState) (o : Mover me.0) (e : End) (c f : ℕ) (message : List ℕ) (x : SenderSide) (b i first : ℕ) → o.pass.call ≡ Sends e (turn.Taken c (record { follows = f; message = message; stage = stage.Look })) x b → first ≡ z.to_host.capacity
      → (told : ℕ → ℕ)
      → ((st : State Slot View) (m : LaneLink (RingState (PlacedDesk kc kz))) (r : Shows cd desk z st m 0) → x ≡ sender_side (lane_to m e) → IsSoundRings (lane_to m e) → length (lane_to m e).lane.lane.accepted < (lane_to m e).lane.lane.returned + (lane_to m e).rings.sizes.capacity
      → told (get_or st.words i 0) ≡ source_buffer (lane_to m e).rings.sizes.entries (lane_to m e).rings.sizes.own (lane_to m e).rings.returns (length (lane_to m e).lane.lane.accepted))
      → Allows (WordsRule cd desk z) n id me i (λ y. y) (λ y me'. SendTakesBufferBy me o first e c (record { follows = f; message = message; stage = stage.Look }) x (told y) me' × StepBy cd desk (ReadsAt i y) me o (Steps o.pass.number 0 None) me')
  pulls n id me o e c f message x b i first call first_at told knows st (m, p, r₀) wide at _ =
      let sending : Sending = record { follows = f; message = message; stage = stage.Look } in let t : Turn Sending = turn.Taken c sending in
      let h : IsCallOf m p o.pass.number (Sends e t x b) = subst (IsCallOf m p o.pass.number) call (r₀.turns.calls id o.place o.pass (me.0, at, o.here)) in
      let r = at_zero cd desk z st m p e t h.1.0 refl r₀ in let s₀ = lane_to m e in let s = with_turn s₀ t in let is : s₀ ≡ s = λ k. with_turn s₀ (h.1.0 k) in
      let sound₀ = rings_to m e (rings_in r) in let sound : IsSoundRings s = subst IsSoundRings is sound₀ in let q : HoldsBuffers s (shelf_to r.shelves e) = subst (λ (u : RingState (PlacedDesk kc kz)). HoldsBuffers u (shelf_to r.shelves e)) is ((buffers_in r) e) in
      let sizes = s.rings.sizes in let a = length s.lane.lane.accepted in let hd = length s.lane.lane.takers in let cap : s.lane.lane.capacity ≡ sizes.capacity = sound.sized.lane in
      let found = sound.room refl in let room : a < s.lane.lane.returned + sizes.capacity = omega (arith, found.0, cap) in
      let own : ℕ = source_buffer sizes.entries sizes.own s.rings.returns a in
      let low : own < sizes.capacity = source-below sizes a hd s.lane.lane.returned s.rings.forward s.rings.returns s.rings.hands s.rings.aside sound.owned room in
      let apart = source-apart sizes a hd s.lane.lane.returned s.rings.forward s.rings.returns s.rings.hands s.rings.aside sound.owned room in
      let home = q.home own low (λ out. absurd (true-false (sym out))) (λ out same. let tk = taking_is s sound out in apart hd (le_refl hd) tk.1 (sym tk.0 ∙ sym same)) in
      let y : Slot = home.0 in let near : own < length (shelf_to r.shelves e) = omega (arith, low, q.long) in let first_here = first_is cd desk z st m r e first first_at in
      let id_is : told (get_or st.words i 0) ≡ own = knows st m r h.1.2 sound₀ room in
      let t' : Turn Sending = turn.Taken c (record sending { stage = stage.Buffer }) in let w : Call = Sends e t' x own in
      let s' : RingState (PlacedDesk kc kz) = (ring_form desk).sent_on s m.era in
      let has : has_call s₀.lane.sender o.pass.number ≡ true = has_of s₀.lane.sender o.pass.number (ap holder h.1.0 ∙ h.1.1) (ap is_manager h.1.0) in
      let l' = set (shelf_to r.shelves e) own none in
      let may = send_may desk m e o.pass.number 0 h.0 has in
      let deed : with_lane m e s' ≡ after_deed desk m (Steps o.pass.number 0 None) = ap (λ (u : RingState (PlacedDesk kc kz)). with_lane m e ((ring_form desk).sent_on u m.era)) (sym is) ∙ send_deed desk m e o.pass.number 0 h.0 has in
      let mine : IsCallOf (with_lane m e s') 0 o.pass.number w = here_sends desk m e s' o.pass.number t' x own h.0 (refl, h.1.1, h.1.2, λ _. refl) h.2 in (
        _,
        takes (buffer_slot first e own) y,
        ap (λ hs. get_elem? hs (buffer_slot first e own)) (homes_here cd desk z st m r e) ∙ buffer_found e first own _ _ (some y) home.1 first_here,
        lane_moves cd desk z st m r e s s' is i (get_or st.words i 0) id me.1 me.0 o w (takes (buffer_slot first e own) y) (Steps o.pass.number 0 None) l' at
            may
            deed
            (loaded cd desk z st m r e i s is)
            (buffer_set e first own none _ _ near first_here)
            (record {
              long = length-set (shelf_to r.shelves e) own none ∙ q.long;
              full = λ k from to other. set_else (shelf_to r.shelves e) own (buffer_at sizes.entries s.rings.forward k) none (apart k from to) ∙ q.full k from to other;
              home = λ j under mine theirs. let ho = q.home j under (λ out. absurd (true-false (sym out))) theirs in (ho.0, set_else (shelf_to r.shelves e) own j none (mine refl) ∙ ho.1);
            })
            mine
            (others_send desk m e s' t o.pass.number h.1.0 h.1.1 refl refl refl (λ _. refl) (λ k apart. no_call desk t' o.pass.number k h.1.1 apart)) refl refl refl refl (refl, ((λ i. ap (has_sender_for_manager i) call), λ i. ap (has_for_manager i) call)),
        (
          (y, λ k. (with_pass me.0 o (with_call o.pass (Sends e t' x (sym id_is k))) (Some (copied cd (with_lane m e s'))), (buffer_slot first e (sym id_is k), y) ∷ me.1)),
          read_by i cd desk z st m r id me o (with_call o.pass w) (Steps o.pass.number 0 None) (with_lane m e s') ((buffer_slot first e own, y) ∷ me.1) at may deed mine,
        ),
      )

  -- step 4 of a send of the first sends of an incarnation: the sender's own list
  pub pulls_own : (n id : ℕ) (me : SeatState) (o : Mover me.0) (e : End) (c f : ℕ) (message : List ℕ) (x : SenderSide) (b i first own : ℕ) → o.pass.call ≡ Sends e (turn.Taken c (record { follows = f; message = message; stage = stage.Look })) x b → first ≡ z.to_host.capacity
      → ((st : State Slot View) (m : LaneLink (RingState (PlacedDesk kc kz))) → Shows cd desk z st m 0 → (lane_to m e).rings.sizes.own ≡ own) → x.accepted < own
      → Allows (WordsRule cd desk z) n id me i (λ y. y) (λ y me'. SendTakesBufferBy me o first e c (record { follows = f; message = message; stage = stage.Look }) x x.accepted me' × StepBy cd desk (ReadsAt i y) me o (Steps o.pass.number 0 None) me')
  pulls_own n id me o e c f message x b i first own call first_at own_is early = pulls n id me o e c f message x b i first call first_at (λ _. x.accepted)
      (λ st m r side sound room. let a : x.accepted ≡ length (lane_to m e).lane.lane.accepted = ap (λ (u : SenderSide). u.accepted) side in let o = own_is st m r in
      a ∙ sym (source-early (lane_to m e).rings.sizes.entries (lane_to m e).rings.sizes.own (lane_to m e).rings.returns (length (lane_to m e).lane.lane.accepted) (omega (arith, early, a, o))))
