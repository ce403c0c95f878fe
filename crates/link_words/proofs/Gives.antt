-- The later steps of a give: the return entry, and the return index; and step 2 of a binding or an unbinding.
use Rattle.link_words.proofs.Keepers.{keepers_by}
use Rattle.link_words.specs.Parts.{has_for_manager, has_sender_for_manager}
use Rattle.link_words.proofs.Users.{user_latest}
use Rattle.link_words.specs.declared.codes.DeskTables.{DeskTables}
use Rattle.link_words.specs.PlacedDesks.{PlacedDesk, right_to}
use Rattle.std.proofs.Common.{◌≡◌, ◌≢◌, ℕ, ◌+◌, ◌*◌, ◌%◌, ◌<◌, ◌≤◌, Bool, true, false, cond, eqb, not, ◌&&◌, List, [], ◌∷◌, length, get_or, set, refl, sym, ap, ◌∙◌, subst, arith, ne_eqb, length-set, inr}
use Rattle.std.specs.Prelude.{Some, None}
use Rattle.std.proofs.lemmas.Bool.{eqb-true}
use Rattle.std.proofs.Math.Nat.{mod-lt, mod-add-mod}
use mathlib.Core.Option.{some}
use lib.ListN.{get_elem?}
use Rattle.atomic_table.specs.Table.{State, Act, keeps, Valid, carried_after, stepped, Allows}
use base.Stored.{Coded}
use Rattle.rp_base.specs.declared.kinds.End.{End}
use Rattle.rp_base.specs.declared.kinds.End.TheVariants as side
use Rattle.rp_base.specs.declared.kinds.Era.{Era}
use Rattle.vring_layout.specs.declared.words.UsedWord.{UsedWord}
use Rattle.lane_model.specs.declared.calls.CallEnd.{CallEnd}
use Rattle.lane_model.specs.declared.calls.CallEnd.TheVariants as end
use Rattle.lane_model.specs.declared.lane_links.LaneLink.{LaneLink}
use Rattle.lane_model.specs.declared.stages.GiveStage.TheVariants as give_stage
use Rattle.lane_model.specs.declared.stages.Receiving.{Receiving}
use Rattle.lane_model.specs.declared.stages.Turn.{Turn}
use Rattle.lane_model.specs.declared.stages.Turn.TheVariants as turn
use Rattle.lane_model.specs.declared.stages.Work.{Work}
use Rattle.lane_model.specs.declared.stages.Work.TheVariants as work
use Rattle.lane_model.specs.declared.states.Holding.{Holding}
use Rattle.lane_model.specs.Desks.{DeskMeaning}
use Rattle.lane_model.specs.Lanes.{holder, has_call, is_live_in, without}
use Rattle.ring_core.specs.declared.states.RingState.{RingState}
use Rattle.ring_core.specs.Owners.{receiver_is_out, work_is_out}
use Rattle.ring_core.specs.RingSteps.{ring_form, next_index, held_buffer, hands_without}
use Rattle.ring_core.specs.Rings.{return_count, entry_of}
use Rattle.ring_core.specs.SoundRings.{IsSoundRings}
use Rattle.link_words.specs.declared.rule.Call.{Call}
use Rattle.link_words.specs.declared.rule.Call.TheVariants.{Receives}
use Rattle.link_words.specs.declared.rule.LinkSizes.{LinkSizes}
use Rattle.link_words.specs.declared.rule.Pass.{Pass}
use Rattle.link_words.specs.declared.rule.ReceiverSide.{ReceiverSide}
use Rattle.link_words.specs.declared.rule.Ring.TheVariants as ring
use Rattle.link_words.specs.declared.rule.Slot.{Slot}
use Rattle.link_words.specs.declared.rule.View.{View}
use Rattle.link_words.specs.Calls.{SeatState}
use Rattle.link_words.specs.Codes.{copied}
use Rattle.link_words.specs.Deeds.{Steps, after_deed}
use Rattle.link_words.specs.Histories.{hands_of}
use Rattle.link_words.specs.Parts.{HoldsBuffers}
use Rattle.link_words.specs.Passes.{Mover, with_pass, with_call}
use Rattle.link_words.specs.Rule.{IsCallOf, Shows, WordsRule}
use Rattle.link_words.specs.Steps.{hands_but}
use Rattle.link_words.specs.Turns.{is_manager}
use Rattle.link_words.specs.Words.{other, lane_to, with_lane, era_word, entry_word, LaneWords, lane_words, words_at, shelf_to, receiver_side, return_word, sizes_at, entries_before, entry_number}
use Rattle.link_words.proofs.Buffers.{loaded, rings_to}
use Rattle.link_words.proofs.Entries.{ahead, sizes_known, return_found}
use Rattle.link_words.proofs.Exact.{StepBy, write_by, ReadsAt, read_by, WritesAt}
use Rattle.link_words.proofs.Tells.{BindLoadsEraBy, GivesBackBy}
use Rattle.link_words.proofs.Frames.{keepers_set, words_seen, return_in}
use Rattle.link_words.proofs.Hands.{hands_here, hands_at}
use Rattle.link_words.proofs.Kept.{no_send, receive_deed, receive_may}
use Rattle.link_words.proofs.LaneSteps.{no_call, lane_moves, lane_moves_noting, hands_kept, with_step}
use Rattle.link_words.proofs.Books.{history_counted}
use Rattle.link_words.specs.declared.rule.Counted.TheVariants.{Gave}
use Rattle.link_words.specs.declared.rule.Event.TheVariants.{Count}
use Rattle.link_words.proofs.Looks.{returns_set, sizes_is}
use Rattle.link_words.proofs.Parts.{rings_in, buffers_in}
use Rattle.link_words.proofs.Sends.{has_of, some_number, true-false}
use Rattle.link_words.proofs.Held.{shelved_receiver}
use Rattle.link_words.proofs.Takes.{with_receiver, others_receive, here_receives, at_zero'}
use Rattle.std.proofs.lemmas.List.{get_or-set_same}

-- without one holding of a caller, its hands lose that number
hands_given : (c k : ℕ) (held : List Holding) → hands_of c (without held k c) ≡ hands_but (hands_of c held) k
hands_given c k [] = refl
hands_given c k (h ∷ hs) = go (eqb h.number k) (eqb h.caller c) refl refl (hands_given c k hs)
  where
    go : (p q : Bool) → eqb h.number k ≡ p → eqb h.caller c ≡ q → hands_of c (without hs k c) ≡ hands_but (hands_of c hs) k
        → hands_of c (cond (not (p && q)) (h ∷ without hs k c) (without hs k c)) ≡ hands_but (cond q (h.number ∷ hands_of c hs) (hands_of c hs)) k
    go true true np nq rec = rec ∙ λ i. cond (not (sym np i)) (h.number ∷ hands_but (hands_of c hs) k) (hands_but (hands_of c hs) k)
    go false true np nq rec = (λ i. cond (nq i) (h.number ∷ hands_of c (without hs k c)) (hands_of c (without hs k c)))
        ∙ (ap (λ (l : List ℕ). h.number ∷ l) rec ∙ λ i. cond (not (sym np i)) (h.number ∷ hands_but (hands_of c hs) k) (hands_but (hands_of c hs) k))
    go true false np nq rec = (λ i. cond (nq i) (h.number ∷ hands_of c (without hs k c)) (hands_of c (without hs k c))) ∙ rec
    go false false np nq rec = (λ i. cond (nq i) (h.number ∷ hands_of c (without hs k c)) (hands_of c (without hs k c))) ∙ rec

-- and the others' stay
hands_stay : (c k j : ℕ) (held : List Holding) → c ≢ j → hands_of j (without held k c) ≡ hands_of j held
hands_stay c k j [] apart = refl
hands_stay c k j (h ∷ hs) apart = go (eqb h.number k) (eqb h.caller c) refl (hands_stay c k j hs apart)
  where
    keeps_it : hands_of j (without hs k c) ≡ hands_of j hs → hands_of j (h ∷ without hs k c) ≡ hands_of j (h ∷ hs)
    keeps_it rec = ap (λ (l : List ℕ). cond (eqb h.caller j) (h.number ∷ l) l) rec

    go : (p q : Bool) → eqb h.caller c ≡ q → hands_of j (without hs k c) ≡ hands_of j hs → hands_of j (cond (not (p && q)) (h ∷ without hs k c) (without hs k c)) ≡ hands_of j (h ∷ hs)
    go true true nq rec = rec ∙ λ i. cond (sym (ne_eqb h.caller j (λ same. apart (sym (eqb-true h.caller c nq) ∙ same))) i) (h.number ∷ hands_of j hs) (hands_of j hs)
    go false true nq rec = keeps_it rec
    go true false nq rec = keeps_it rec
    go false false nq rec = keeps_it rec

return_set : (e : End) (era n : ℕ) (a b : LaneWords) → set (words_at e era a b) (return_word e) n ≡ words_at e era (record a { return_index = n }) b
return_set side.Host era n a b = refl
return_set side.Remote era n a b = refl

module _ {B : Type 0} {kc : Coded B} {kz : DeskTables} (cd : Coded (PlacedDesk kc kz)) (desk : DeskMeaning (PlacedDesk kc kz)) (z : LinkSizes) where
  -- step 2 of a give: the return entry names the buffer in hand
  pub gives_entry : (n id : ℕ) (me : SeatState) (o : Mover me.0) (e : End) (c f k : ℕ) (x : ReceiverSide) (b count new : ℕ) (msg : List ℕ) → o.pass.call ≡ Receives e (turn.Taken c (record { follows = f; work = work.Give k give_stage.Turn })) x b msg
      → count ≡ return_count (sizes_at z e) x.returned → new ≡ held_buffer x.hands k + 0 * 4294967296
      → Allows (WordsRule cd desk z) n id me (entry_number z e ring.Return count) (λ _. new) (λ _ me'. (me' ≡ (with_pass me.0 o (with_call o.pass (Receives e (turn.Taken c (record { follows = f; work = work.Give k give_stage.Entry })) x b msg)) me'.0.copy, me.1)) × StepBy cd desk (WritesAt (entry_number z e ring.Return count) new) me o (Steps o.pass.number 0 None) me')
  gives_entry n id me o e c f k x b count new msg call count_is new_is st (m, p, r₀) wide at _ =
      let t : Turn Receiving = turn.Taken c (record { follows = f; work = work.Give k give_stage.Turn }) in
      let h : IsCallOf m p o.pass.number (Receives e t x b msg) = subst (IsCallOf m p o.pass.number) call (r₀.turns.calls id o.place o.pass (me.0, at, o.here)) in
      let r = at_zero' cd desk z st m p e t h.1.0 refl r₀ in let s₀ = lane_to m e in let s = with_receiver s₀ t in let is : s₀ ≡ s = λ i. with_receiver s₀ (h.1.0 i) in
      let sound : IsSoundRings s = subst IsSoundRings is (rings_to m e (rings_in r)) in let q : HoldsBuffers s (shelf_to r.shelves e) = subst (λ (u : RingState (PlacedDesk kc kz)). HoldsBuffers u (shelf_to r.shelves e)) is ((buffers_in r) e) in
      let known = sizes_known cd desk z e st m r in let size = s.rings.sizes.entries in let fl = sound.sized.forward_long in let rl = sound.sized.returns_long in
      let some : 0 < size = let one = sound.sized.some in let fits = sound.sized.fits in omega (arith, one, fits) in
      let nth : ℕ = return_count s.rings.sizes s.lane.lane.returned in let j : ℕ = nth % size in let low : j < size = mod-lt nth some in
      let back : x.returned ≡ s.lane.lane.returned = ap (λ (u : ReceiverSide). u.returned) h.1.2 in let same = sizes_is cd desk z st m r e in
      let at_count : count ≡ nth = count_is ∙ (λ i. return_count (sym same i) (back i)) in
      let entry : UsedWord = entry_of (held_buffer s.rings.hands k) in
      let stored : new ≡ entry_word entry = new_is ∙ ap (λ (u : ReceiverSide). held_buffer u.hands k + 0 * 4294967296) h.1.2 in
      let position : count % (sizes_at z e).entries ≡ j = λ i. at_count i % (sym known.0 i) in let en = known.0 in let be = known.2 in
      let word : entry_number z e ring.Return count ≡ 10 + (ahead e (lane_words (lane_to m (other e))) + (length s.rings.forward + j)) =
      let w : 10 + (entries_before z e + ((sizes_at z e).entries + count % (sizes_at z e).entries)) ≡ 10 + (ahead e (lane_words (lane_to m (other e))) + (length s.rings.forward + j)) = omega (arith, position, en, be, fl) in w in
      let t' : Turn Receiving = turn.Taken c (record { follows = f; work = work.Give k give_stage.Entry }) in let w : Call = Receives e t' x b msg in let s' : RingState (PlacedDesk kc kz) = (ring_form desk).received_on s m.era in
      let has : has_call s₀.lane.receiver o.pass.number ≡ true = has_of s₀.lane.receiver o.pass.number (ap holder h.1.0 ∙ h.1.1) (ap is_manager h.1.0) in
      let may = receive_may desk m e o.pass.number 0 h.0 has in
      let deed : with_lane m e s' ≡ after_deed desk m (Steps o.pass.number 0 None) = ap (λ (u : RingState (PlacedDesk kc kz)). with_lane m e ((ring_form desk).received_on u m.era)) (sym is) ∙ receive_deed desk m e o.pass.number 0 h.0 (no_send desk m e o.pass.number r.sound has) in
      let mine : IsCallOf (with_lane m e s') 0 o.pass.number w = here_receives desk m e s' o.pass.number t' x b msg h.0 (refl, h.1.1, h.1.2, (λ out. absurd (true-false (sym out))), refl) (λ past. absurd (true-false (sym past))) in (
        _,
        keeps,
        tt,
        lane_moves cd desk z st m r e s s' is (entry_number z e ring.Return count) new id me.1 me.0 o w keeps (Steps o.pass.number 0 None) (shelf_to r.shelves e) at
            may
            deed
            (ap (set (words_at e (era_word m.era) (lane_words s) (lane_words (lane_to m (other e)))) (entry_number z e ring.Return count)) stored
            ∙ returns_set e (era_word m.era) j (entry_number z e ring.Return count) entry (lane_words s) (lane_words (lane_to m (other e))) (omega (arith, low, rl)) word)
            refl
            (record { long = q.long; full = q.full; home = q.home })
            mine
            (others_receive desk m e s' t o.pass.number h.1.0 h.1.1 refl refl refl refl (λ i apart. no_call desk t' o.pass.number i h.1.1 apart)) refl refl refl refl (refl, ((λ i. ap (has_sender_for_manager i) call), λ i. ap (has_for_manager i) call)),
        (
          refl,
          write_by (entry_number z e ring.Return count) new cd desk z st m r id me o (with_call o.pass w) (Steps o.pass.number 0 None) (with_lane m e s') me.1
              (stored ∙ (ap entry_word (sym (get_or-set_same s.rings.returns j entry (entry_of 0) (omega (arith, low, rl))))
              ∙ (sym (return_found e (era_word m.era) j (entry_number z e ring.Return count) (lane_words s') (lane_words (lane_to m (other e))) (let l = length-set s.rings.returns j entry in omega (arith, low, rl, l)) word)
              ∙ ap (λ (ws : List ℕ). get_or ws (entry_number z e ring.Return count) 0) (sym (words_seen [] m e s'))))) at may deed mine,
        ),
      )

  -- step 3 of a give: the return index tells that the buffer is back
  pub gives_back : (n id : ℕ) (me : SeatState) (o : Mover me.0) (e : End) (c f k : ℕ) (x : ReceiverSide) (b new : ℕ) (msg : List ℕ) → o.pass.call ≡ Receives e (turn.Taken c (record { follows = f; work = work.Give k give_stage.Entry })) x b msg
      → new ≡ (return_count (sizes_at z e) x.returned + 1) % 65536
      → Allows (WordsRule cd desk z) n id me (return_word e) (λ _. new) (λ _ me'. GivesBackBy me o e c k x b msg me'
      × StepBy cd desk (WritesAt (return_word e) new) me o (Steps o.pass.number 0 None) me')
  gives_back n id me o e c f k x b new msg call new_is st (m, p, r₀) wide at _ =
      let t : Turn Receiving = turn.Taken c (record { follows = f; work = work.Give k give_stage.Entry }) in
      let h : IsCallOf m p o.pass.number (Receives e t x b msg) = subst (IsCallOf m p o.pass.number) call (r₀.turns.calls id o.place o.pass (me.0, at, o.here)) in
      let r = at_zero' cd desk z st m p e t h.1.0 refl r₀ in let s₀ = lane_to m e in let s = with_receiver s₀ t in let is : s₀ ≡ s = λ i. with_receiver s₀ (h.1.0 i) in
      let sound : IsSoundRings s = subst IsSoundRings is (rings_to m e (rings_in r)) in let q : HoldsBuffers s (shelf_to r.shelves e) = subst (λ (u : RingState (PlacedDesk kc kz)). HoldsBuffers u (shelf_to r.shelves e)) is ((buffers_in r) e) in
      let nth : ℕ = return_count s.rings.sizes s.lane.lane.returned in let back : x.returned ≡ s.lane.lane.returned = ap (λ (u : ReceiverSide). u.returned) h.1.2 in let same = sizes_is cd desk z st m r e in
      let index : new ≡ next_index s.rings.return_index = new_is ∙ ((λ i. (return_count (sym same i) (back i) + 1) % 65536) ∙ (sym (mod-add-mod nth 65536 1) ∙ ap (λ (i : ℕ). (i + 1) % 65536) (sym sound.return_index))) in
      let s' : RingState (PlacedDesk kc kz) = (ring_form desk).received_on s m.era in let t' : Turn Receiving = turn.Leaving c (end.Gave k) in
      let x' : ReceiverSide = record x { returned = x.returned + 1; hands = hands_without x.hands k } in let w : Call = Receives e t' x' b msg in
      let who : c ≡ o.pass.number = some_number c o.pass.number h.1.1 in
      let side : x' ≡ receiver_side s' = ap (λ (u : ReceiverSide). record u { returned = u.returned + 1; hands = hands_without u.hands k }) h.1.2 in
      let has : has_call s₀.lane.receiver o.pass.number ≡ true = has_of s₀.lane.receiver o.pass.number (ap holder h.1.0 ∙ h.1.1) (ap is_manager h.1.0) in
      let held_now : hands_of o.pass.number s.lane.lane.held ≡ o.pass.hands = hands_at m e o.pass h.0 (r.histories.hands id o.place o.pass (me.0, at, o.here)) in
      let own = Count e m.era.inc (Gave (x.returned + 1)) ∷ o.pass.own in let pass : Pass = with_step o.pass w own (hands_but o.pass.hands k) in let past = r.histories.own id o.place o.pass (me.0, at, o.here) in
      let saw = past.counts e in let saw_returned = saw.returned in let least : s.lane.lane.returned ≤ s'.lane.lane.returned = omega arith in
      let may = receive_may desk m e o.pass.number 0 h.0 has in
      let deed : with_lane m e s' ≡ after_deed desk m (Steps o.pass.number 0 None) = ap (λ (u : RingState (PlacedDesk kc kz)). with_lane m e ((ring_form desk).received_on u m.era)) (sym is) ∙ receive_deed desk m e o.pass.number 0 h.0 (no_send desk m e o.pass.number r.sound has) in
      let mine : IsCallOf (with_lane m e s') 0 o.pass.number w = here_receives desk m e s' o.pass.number t' x' b msg h.0 (refl, h.1.1, side, (λ out. absurd (true-false (sym out))), refl) tt in (
        _,
        keeps,
        tt,
        lane_moves_noting cd desk z st m r e s s' is (return_word e) new id me.1 me.0 o w own (hands_but o.pass.hands k) keeps (Steps o.pass.number 0 None) (shelf_to r.shelves e) at
            may
            deed
            (ap (set (words_at e (era_word m.era) (lane_words s) (lane_words (lane_to m (other e)))) (return_word e)) index ∙ return_set e (era_word m.era) (next_index s.rings.return_index) (lane_words s) (lane_words (lane_to m (other e))))
            refl
            (record { long = q.long; full = q.full; home = q.home })
            mine
            (λ j l u there apart. others_receive desk m e s' t o.pass.number h.1.0 h.1.1 refl refl refl refl (λ i ne. no_call desk t' o.pass.number i h.1.1 ne) u.number apart u.call)
            refl refl refl least
            (history_counted m e s' refl refl least o.pass.number o.pass.first m.era.inc (Gave (x.returned + 1)) o.pass.own refl (record { accepted = omega arith; handed = omega arith; returned = omega (arith, back) }) past)
            (inr (inr refl))
            (hands_here m e s' pass h.0 ((λ i. hands_of (sym who i) (without s.lane.lane.held k c)) ∙ (hands_given c k s.lane.lane.held ∙ (λ i. hands_but (hands_of (who i) s.lane.lane.held) k) ∙ ap (λ (l : List ℕ). hands_but l k) held_now)))
            (λ u apart. hands_kept desk m e s' u (λ was. hands_stay c k u.number s.lane.lane.held (λ same_one. apart (sym who ∙ same_one)) ∙ (ap (λ (y : RingState (PlacedDesk kc kz)). hands_of u.number y.lane.lane.held) (sym is) ∙ was)))
            (keepers_set st.views id me.0 (with_pass me.0 o pass (Some (copied cd (with_lane m e s')))) o pass at refl refl (λ i l. absurd (true-false (sym l))) r.turns.keepers)
            (keepers_by desk m (with_lane m e s') (Steps o.pass.number 0 None) deed st.views id me.0 (with_pass me.0 o pass (Some (copied cd (with_lane m e s')))) o pass at refl (refl, ((λ i. ap (has_sender_for_manager i) call), λ i. ap (has_for_manager i) call)) r.turns.some_keeper),
        ((m.era.inc, user_latest m o.pass e h.0 r.numbers.many (r.histories.latest id o.place o.pass (me.0, at, o.here)), record { not_below = omega (arith, back, saw_returned); none_later = past.none_later }, refl), write_by (return_word e) new cd desk z st m r id me o pass (Steps o.pass.number 0 None) (with_lane m e s') me.1 (index ∙ return_in m e s') at may deed mine),
      )

  -- step 2 of a binding or an unbinding, where the call ends so and leaves this desk
  binds_with : (st : State Slot View) (m : LaneLink (RingState (PlacedDesk kc kz))) (r : Shows cd desk z st m 0) (id : ℕ) (me : SeatState) (o : Mover me.0) (e : End) (w : Work) (f c : ℕ) (x : ReceiverSide) (b : ℕ) (msg : List ℕ) (ended : CallEnd) (left : PlacedDesk kc kz) (x' : ReceiverSide) → o.pass.call ≡ Receives e (turn.Taken c (record { follows = f; work = w })) x b msg → x' ≡ record (receiver_side (lane_to m e)) { desk = right_to left } → get_elem? st.views id ≡ some me.0
      → IsCallOf m 0 o.pass.number (Receives e (turn.Taken c (record { follows = f; work = w })) x b msg) → work_is_out w ≡ false
      → (ring_form desk).received_on (with_receiver (lane_to m e) (turn.Taken c (record { follows = f; work = w }))) m.era ≡ record { lane = record (lane_to m e).lane { receiver = turn.Leaving c ended; desk = left }; rings = (lane_to m e).rings }
      → (v : View) × WordsRule cd desk z (stepped st 1 (get_or st.words 1 0) id me.1 v keeps) × (v ≡ with_pass me.0 o (with_call o.pass (Receives e (turn.Leaving c ended) x' b msg)) v.copy) × StepBy cd desk (ReadsAt 1 (get_or st.words 1 0)) me o (Steps o.pass.number 0 None) (v, me.1)
  binds_with st m r id me o e w f c x b msg ended left x' is_call side at h inside does =
      let t : Turn Receiving = turn.Taken c (record { follows = f; work = w }) in let s₀ = lane_to m e in let s = with_receiver s₀ t in let is : s₀ ≡ s = λ i. with_receiver s₀ (h.1.0 i) in
      let t' : Turn Receiving = turn.Leaving c ended in let s' : RingState (PlacedDesk kc kz) = record { lane = record s₀.lane { receiver = t'; desk = left }; rings = s₀.rings } in let call : Call = Receives e t' x' b msg in
      let has : has_call s₀.lane.receiver o.pass.number ≡ true = has_of s₀.lane.receiver o.pass.number (ap holder h.1.0 ∙ h.1.1) (ap is_manager h.1.0) in
      let may = receive_may desk m e o.pass.number 0 h.0 has in
      let deed : with_lane m e s' ≡ after_deed desk m (Steps o.pass.number 0 None) =
      ap (with_lane m e) (sym does) ∙ (ap (λ (u : RingState (PlacedDesk kc kz)). with_lane m e ((ring_form desk).received_on u m.era)) (sym is) ∙ receive_deed desk m e o.pass.number 0 h.0 (no_send desk m e o.pass.number r.sound has)) in
      let mine : IsCallOf (with_lane m e s') 0 o.pass.number call = here_receives desk m e s' o.pass.number t' x' b msg h.0 (refl, h.1.1, side, (λ out. absurd (true-false (sym out))), refl) tt in (
        _,
        lane_moves cd desk z st m r e s s' is 1 (get_or st.words 1 0) id me.1 me.0 o call keeps (Steps o.pass.number 0 None) (shelf_to r.shelves e) at
            may
            deed
            (loaded cd desk z st m r e 1 s is)
            refl
            (shelved_receiver s₀ s' (shelf_to r.shelves e) (ap receiver_is_out h.1.0 ∙ inside) refl refl refl refl refl refl refl ((buffers_in r) e))
            mine
            (others_receive desk m e s' t o.pass.number h.1.0 h.1.1 refl refl refl refl (λ i apart. no_call desk t' o.pass.number i h.1.1 apart)) refl refl refl refl (refl, ((λ i. ap (has_sender_for_manager i) is_call), λ i. ap (has_for_manager i) is_call)),
        refl,
        read_by 1 cd desk z st m r id me o (with_call o.pass call) (Steps o.pass.number 0 None) (with_lane m e s') me.1 at may deed mine,
      )

  -- in its incarnation, live, the desk changes and says how the call ends
  pub binds : (w : Work) (leaves : PlacedDesk kc kz → ℕ → PlacedDesk kc kz) (says : PlacedDesk kc kz → ℕ → CallEnd) (f c : ℕ) → work_is_out w ≡ false
      → ((s : RingState (PlacedDesk kc kz)) (era : Era) → (ring_form desk).received_on (with_receiver s (turn.Taken c (record { follows = f; work = w }))) era ≡ record {
        lane = cond (is_live_in era f) (record s.lane { receiver = turn.Leaving c (says s.lane.desk (length s.lane.lane.takers)); desk = leaves s.lane.desk (length s.lane.lane.takers) }) (record s.lane { receiver = turn.Leaving c (end.Dead era) });
        rings = s.rings;
      })
      → (n id : ℕ) (me : SeatState) (o : Mover me.0) (e : End) (x : ReceiverSide) (b : ℕ) (msg : List ℕ) → o.pass.call ≡ Receives e (turn.Taken c (record { follows = f; work = w })) x b msg
      → Allows (WordsRule cd desk z) n id me 1 (λ y. y) (λ y me'. BindLoadsEraBy leaves says me o e c f x b msg y me' × StepBy cd desk (ReadsAt 1 y) me o (Steps o.pass.number 0 None) me')
  binds w leaves says f c inside does n id me o e x b msg call st (m, p, r₀) wide at _ =
      let t : Turn Receiving = turn.Taken c (record { follows = f; work = w }) in
      let h : IsCallOf m p o.pass.number (Receives e t x b msg) = subst (IsCallOf m p o.pass.number) call (r₀.turns.calls id o.place o.pass (me.0, at, o.here)) in
      let r = at_zero' cd desk z st m p e t h.1.0 refl r₀ in go (is_live_in m.era f) refl h r (ap (λ (ws : List ℕ). get_or ws 1 0) r.words_are)
    where
      go : (live : Bool) → is_live_in m.era f ≡ live → IsCallOf m 0 o.pass.number (Receives e (turn.Taken c (record { follows = f; work = w })) x b msg) → Shows cd desk z st m 0 → get_or st.words 1 0 ≡ era_word m.era
          → (v : View) × (a : Act Slot) × Valid st.homes me.1 a × WordsRule cd desk z (stepped st 1 (get_or st.words 1 0) id me.1 v a)
          × (BindLoadsEraBy leaves says me o e c f x b msg (get_or st.words 1 0) (v, carried_after me.1 a)
          × StepBy cd desk (ReadsAt 1 (get_or st.words 1 0)) me o (Steps o.pass.number 0 None) (v, carried_after me.1 a))
      go true is_live h r word =
          let s = lane_to m e in let d : PlacedDesk kc kz = s.lane.desk in let hd = length s.lane.lane.takers in let nth : x.handed ≡ hd = ap (λ (y : ReceiverSide). y.handed) h.1.2 in
          let all = binds_with st m r id me o e w f c x b msg (says d x.handed) (leaves d hd) (record x { desk = right_to (leaves d x.handed) }) call (λ i. record (h.1.2 i) { desk = right_to (leaves d (nth i)) }) at h inside
          (does s m.era ∙ λ i. record { lane = cond (is_live i) (record s.lane { receiver = turn.Leaving c (says d (sym nth i)); desk = leaves d hd }) (record s.lane { receiver = turn.Leaving c (end.Dead m.era) }); rings = s.rings }) in (
            all.0,
            keeps,
            tt,
            all.1,
            (
              (
                m.era,
                word,
                r.numbers.short,
                d,
                ap (λ (y : ReceiverSide). y.desk) h.1.2,
                (λ i. (all.2 i, me.1)) ∙ λ i. (with_pass me.0 o (with_call o.pass (Receives e (cond (sym is_live i) (turn.Leaving c (says d x.handed)) (turn.Leaving c (end.Dead m.era))) (cond (sym is_live i) (record x { desk = right_to (leaves d x.handed) }) x) b msg)) all.0.copy, me.1),
              ),
              all.3,
            ),
          )
      go false is_dead h r word =
          let s = lane_to m e in let d : PlacedDesk kc kz = s.lane.desk in let hd = length s.lane.lane.takers in
          let all = binds_with st m r id me o e w f c x b msg (end.Dead m.era) d x call h.1.2 at h inside
          (does s m.era ∙ λ i. record { lane = cond (is_dead i) (record s.lane { receiver = turn.Leaving c (says d hd); desk = leaves d hd }) (record s.lane { receiver = turn.Leaving c (end.Dead m.era) }); rings = s.rings }) in (
            all.0,
            keeps,
            tt,
            all.1,
            (
              (
                m.era,
                word,
                r.numbers.short,
                d,
                ap (λ (y : ReceiverSide). y.desk) h.1.2,
                (λ i. (all.2 i, me.1)) ∙ λ i. (with_pass me.0 o (with_call o.pass (Receives e (cond (sym is_dead i) (turn.Leaving c (says d x.handed)) (turn.Leaving c (end.Dead m.era))) (cond (sym is_dead i) (record x { desk = right_to (leaves d x.handed) }) x) b msg)) all.0.copy, me.1),
              ),
              all.3,
            ),
          )
