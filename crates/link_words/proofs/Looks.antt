-- steps 3 and 5 of a send: the look for room, and the forward entry, on either lane.
use Rattle.link_words.specs.Parts.{has_for_manager, has_sender_for_manager}
use Rattle.link_words.specs.declared.codes.DeskTables.{DeskTables}
use Rattle.link_words.specs.PlacedDesks.{PlacedDesk}
use Rattle.std.proofs.Common.{◌≡◌, ℕ, zero, suc, ◌+◌, ◌*◌, ◌%◌, ◌<◌, ◌≤◌, Bool, true, false, cond, eqb, List, [], ◌∷◌, ◌++◌, map, length, get_or, set, refl, sym, ap, ◌∙◌, subst, inr, arith, le_refl, length-set}
use Rattle.std.specs.Prelude.{Some, None}
use mathlib.Core.Option.{none}
use Rattle.std.proofs.lemmas.List.{map-set, length-map, get_or-set_same}
use lib.ListN.{get_elem?}
use Rattle.std.proofs.Math.Nat.{mod-lt}
use Rattle.atomic_table.specs.Table.{State, keeps, Allows}
use Rattle.rp_base.specs.declared.kinds.End.{End}
use Rattle.rp_base.specs.declared.kinds.End.TheVariants as side
use Rattle.vring_layout.specs.declared.words.UsedWord.{UsedWord}
use Rattle.lane_model.specs.declared.lane_links.LaneLink.{LaneLink}
use Rattle.lane_model.specs.declared.stages.Turn.{Turn}
use Rattle.lane_model.specs.declared.stages.Turn.TheVariants as turn
use Rattle.lane_model.specs.declared.stages.Sending.{Sending}
use Rattle.lane_model.specs.declared.stages.SendStage.TheVariants as stage
use Rattle.lane_model.specs.declared.calls.CallEnd.TheVariants as end
use base.Stored.{Coded}
use Rattle.lane_model.specs.Desks.{DeskMeaning}
use Rattle.lane_model.specs.Lanes.{holder, has_call}
use Rattle.lane_model.specs.Sends.{after_send_look}
use Rattle.ring_core.specs.declared.states.RingState.{RingState}
use Rattle.ring_core.specs.declared.states.RingSizes.{RingSizes}
use Rattle.ring_core.specs.Rings.{buffer_at, entry_length, return_count, entry_of}
use Rattle.ring_core.specs.Owners.{sender_is_out}
use Rattle.ring_core.specs.RingSteps.{ring_form}
use Rattle.ring_core.specs.SoundRings.{IsSoundRings}
use Rattle.ring_core.proofs.OneOwner.{sending_is}
use Rattle.ring_core.proofs.Windows.{entries_apart, buffer_at_other}
use Rattle.link_words.specs.declared.rule.Slot.{Slot}
use Rattle.link_words.specs.declared.rule.SenderSide.{SenderSide}
use Rattle.link_words.specs.declared.rule.LinkSizes.{LinkSizes}
use Rattle.link_words.specs.declared.rule.Call.{Call}
use Rattle.link_words.specs.declared.rule.Call.TheVariants.{Sends}
use Rattle.link_words.specs.declared.rule.Counted.TheVariants.{Room}
use Rattle.link_words.specs.declared.rule.Event.TheVariants.{Count}
use Rattle.link_words.specs.declared.rule.View.{View}
use Rattle.link_words.specs.Turns.{is_manager}
use Rattle.link_words.specs.Words.{other, lane_to, with_lane, era_word, turn_word, entry_word, entry_words_before, LaneWords, lane_words, words_at, home_if, shelf_to, return_word, with_turn}
use Rattle.link_words.specs.Histories.{IsCurrent}
use Rattle.link_words.specs.Deeds.{Steps, after_deed}
use Rattle.link_words.specs.Rule.{IsCallOf, Shows, WordsRule}
use Rattle.link_words.specs.Parts.{HoldsBuffers}
use Rattle.link_words.specs.Codes.{copied}
use Rattle.link_words.specs.Passes.{Mover, with_pass, with_call}
use Rattle.link_words.specs.Calls.{SeatState}
use Rattle.link_words.proofs.Tells.{SendLooksBy, SendStoresEntryBy}
use Rattle.link_words.specs.Steps.{look_turn}
use Rattle.link_words.proofs.Kept.{send_deed, send_may}
use Rattle.link_words.proofs.LaneSteps.{no_call, others_send, here_sends, lane_moves, with_step}
use Rattle.link_words.proofs.Books.{history_counted}
use Rattle.link_words.proofs.Seen.{seen_now}
use Rattle.link_words.proofs.Sends.{has_of, true-false, at_zero, turn_noting}
use Rattle.link_words.proofs.Buffers.{words_here, loaded, rings_to}
use Rattle.link_words.proofs.Entries.{ahead, forward_found}
use Rattle.link_words.proofs.Exact.{StepBy, write_by, ReadsAt, read_by, WritesAt}
use Rattle.link_words.proofs.Parts.{book_in, rings_in, sizes_in, buffers_in}
use Rattle.link_words.specs.Words.{sizes_at}
use Rattle.link_words.proofs.Frames.{words_seen}

return_seen : (e : End) (era : ℕ) (a b : LaneWords) → get_or (words_at e era a b) (return_word e) 0 ≡ a.return_index
return_seen side.Host era a b = refl
return_seen side.Remote era a b = refl

pub sizes_is : {B : Type 0} {kc : Coded B} {kz : DeskTables} (cd : Coded (PlacedDesk kc kz)) (desk : DeskMeaning (PlacedDesk kc kz)) (z : LinkSizes) (st : State Slot View) (m : LaneLink (RingState (PlacedDesk kc kz))) → Shows cd desk z st m 0 → (e : End) → (lane_to m e).rings.sizes ≡ sizes_at z e
sizes_is cd desk z st m r side.Host = (sizes_in r).0
sizes_is cd desk z st m r side.Remote = (sizes_in r).1

-- the turn after a look, by its two tests
abbrev looked : Bool → Bool → ℕ → ℕ → ℕ → Sending → Turn Sending
looked p q c a k s = cond p (turn.Leaving c (end.NoBuffer a k)) (cond q (turn.Leaving c (end.BookFull a)) (turn.Taken c (record s { stage = stage.Look })))

looked_word : (p q : Bool) (c a k : ℕ) (s : Sending) → turn_word (looked p q c a k s) ≡ suc c
looked_word true q c a k s = refl
looked_word false true c a k s = refl
looked_word false false c a k s = refl

looked_home : (p q : Bool) (c a k : ℕ) (s : Sending) (y : Slot) → home_if (looked p q c a k s) y ≡ none
looked_home true q c a k s y = refl
looked_home false true c a k s y = refl
looked_home false false c a k s y = refl

looked_out : (p q : Bool) (c a k : ℕ) (s : Sending) → sender_is_out (looked p q c a k s) ≡ false
looked_out true q c a k s = refl
looked_out false true c a k s = refl
looked_out false false c a k s = refl

looked_holder : (p q : Bool) (c a k : ℕ) (s : Sending) → holder (looked p q c a k s) ≡ Some c
looked_holder true q c a k s = refl
looked_holder false true c a k s = refl
looked_holder false false c a k s = refl

looked_current : (p q : Bool) (c a k inc : ℕ) (s : Sending) → s.follows ≡ inc → IsCurrent (looked p q c a k s) inc
looked_current true q c a k inc s now = tt
looked_current false true c a k inc s now = tt
looked_current false false c a k inc s now = λ _. now

-- a forward entry that is stored
set_front : {A : Type 0} (xs ys : List A) (i : ℕ) (a : A) → i < length xs → set (xs ++ ys) i a ≡ set xs i a ++ ys
set_front [] ys i a h = absurd (omega arith)
set_front (x ∷ xs) ys zero a h = refl
set_front {A = A} (x ∷ xs) ys (suc i) a h = ap (λ (l : List A). x ∷ l) (set_front xs ys i a (omega arith))

set_behind : {A : Type 0} (xs ys : List A) (i : ℕ) (a : A) → set (xs ++ ys) (length xs + i) a ≡ xs ++ set ys i a
set_behind [] ys i a = ap (λ (k : ℕ). set ys k a) (let e : 0 + i ≡ i = omega arith in e)
set_behind {A = A} (x ∷ xs) ys i a = ap (λ (k : ℕ). set (x ∷ (xs ++ ys)) k a) (let e : suc (length xs) + i ≡ suc (length xs + i) = omega arith in e) ∙ ap (λ (l : List A). x ∷ l) (set_behind xs ys i a)

-- a return entry that is stored
pub returns_set : (e : End) (era i word : ℕ) (entry : UsedWord) (a b : LaneWords) → i < length a.returns → word ≡ 10 + (ahead e b + (length a.forward + i)) → set (words_at e era a b) word (entry_word entry) ≡ words_at e era (record a { returns = set a.returns i entry }) b
returns_set side.Host era i word entry a b low at =
    let f = length-map a.forward entry_word in
    let front : List ℕ → List ℕ = λ l. 0 ∷ era ∷ a.sender ∷ a.receiver ∷ b.sender ∷ b.receiver ∷ a.forward_index ∷ a.return_index ∷ b.forward_index ∷ b.return_index ∷ l in
    ap (λ (k : ℕ). set (words_at side.Host era a b) k (entry_word entry)) (let e : word ≡ suc (suc (suc (suc (suc (suc (suc (suc (suc (suc (length (map entry_word a.forward) + i)))))))))) = omega (arith, at, f) in e)
    ∙ ap front (set_behind (map entry_word a.forward) (map entry_word a.returns ++ entry_words_before b []) i (entry_word entry)
    ∙ ap (λ (l : List ℕ). map entry_word a.forward ++ l) (set_front (map entry_word a.returns) (entry_words_before b []) i (entry_word entry) (let l = length-map a.returns entry_word in omega (arith, low, l))
    ∙ ap (λ (l : List ℕ). l ++ entry_words_before b []) (sym (map-set entry_word a.returns i entry))))
returns_set side.Remote era i word entry a b low at =
    let f = length-map a.forward entry_word in let g = length-map b.forward entry_word in let h = length-map b.returns entry_word in
    let front : List ℕ → List ℕ = λ l. 0 ∷ era ∷ b.sender ∷ b.receiver ∷ a.sender ∷ a.receiver ∷ b.forward_index ∷ b.return_index ∷ a.forward_index ∷ a.return_index ∷ l in
    ap (λ (k : ℕ). set (words_at side.Remote era a b) k (entry_word entry))
    (let e : word ≡ suc (suc (suc (suc (suc (suc (suc (suc (suc (suc (length (map entry_word b.forward) + (length (map entry_word b.returns) + (length (map entry_word a.forward) + i)))))))))))) = omega (arith, at, f, g, h) in e)
    ∙ ap front (set_behind (map entry_word b.forward) (map entry_word b.returns ++ entry_words_before a []) (length (map entry_word b.returns) + (length (map entry_word a.forward) + i)) (entry_word entry)
    ∙ ap (λ (l : List ℕ). map entry_word b.forward ++ l) (set_behind (map entry_word b.returns) (entry_words_before a []) (length (map entry_word a.forward) + i) (entry_word entry)
    ∙ ap (λ (l : List ℕ). map entry_word b.returns ++ l) (set_behind (map entry_word a.forward) (map entry_word a.returns ++ []) i (entry_word entry)
    ∙ ap (λ (l : List ℕ). map entry_word a.forward ++ l) (set_front (map entry_word a.returns) [] i (entry_word entry) (let l = length-map a.returns entry_word in omega (arith, low, l))
    ∙ ap (λ (l : List ℕ). l ++ []) (sym (map-set entry_word a.returns i entry))))))

forward_set : (e : End) (era i word : ℕ) (entry : UsedWord) (a b : LaneWords) → i < length a.forward → word ≡ 10 + (ahead e b + i) → set (words_at e era a b) word (entry_word entry) ≡ words_at e era (record a { forward = set a.forward i entry }) b
forward_set side.Host era i word entry a b low at =
    let front : List ℕ → List ℕ = λ l. 0 ∷ era ∷ a.sender ∷ a.receiver ∷ b.sender ∷ b.receiver ∷ a.forward_index ∷ a.return_index ∷ b.forward_index ∷ b.return_index ∷ l in
    ap (λ (k : ℕ). set (words_at side.Host era a b) k (entry_word entry)) (let e : word ≡ suc (suc (suc (suc (suc (suc (suc (suc (suc (suc i))))))))) = omega (arith, at) in e)
    ∙ ap front (set_front (map entry_word a.forward) (map entry_word a.returns ++ entry_words_before b []) i (entry_word entry) (let l = length-map a.forward entry_word in omega (arith, low, l))
    ∙ ap (λ (l : List ℕ). l ++ (map entry_word a.returns ++ entry_words_before b [])) (sym (map-set entry_word a.forward i entry)))
forward_set side.Remote era i word entry a b low at =
    let g = length-map b.forward entry_word in let h = length-map b.returns entry_word in
    let front : List ℕ → List ℕ = λ l. 0 ∷ era ∷ b.sender ∷ b.receiver ∷ a.sender ∷ a.receiver ∷ b.forward_index ∷ b.return_index ∷ a.forward_index ∷ a.return_index ∷ l in
    ap (λ (k : ℕ). set (words_at side.Remote era a b) k (entry_word entry))
    (let e : word ≡ suc (suc (suc (suc (suc (suc (suc (suc (suc (suc (length (map entry_word b.forward) + (length (map entry_word b.returns) + i))))))))))) = omega (arith, at, g, h) in e)
    ∙ ap front (set_behind (map entry_word b.forward) (map entry_word b.returns ++ entry_words_before a []) (length (map entry_word b.returns) + i) (entry_word entry)
    ∙ ap (λ (l : List ℕ). map entry_word b.forward ++ l) (set_behind (map entry_word b.returns) (entry_words_before a []) i (entry_word entry)
    ∙ ap (λ (l : List ℕ). map entry_word b.returns ++ l) (set_front (map entry_word a.forward) (map entry_word a.returns ++ []) i (entry_word entry) (let l = length-map a.forward entry_word in omega (arith, low, l))
    ∙ ap (λ (l : List ℕ). l ++ (map entry_word a.returns ++ [])) (sym (map-set entry_word a.forward i entry)))))

module _ {B : Type 0} {kc : Coded B} {kz : DeskTables} (cd : Coded (PlacedDesk kc kz)) (desk : DeskMeaning (PlacedDesk kc kz)) (z : LinkSizes) where
  -- step 3 of a send
  pub sends_look : (n id : ℕ) (me : SeatState) (o : Mover me.0) (e : End) (c f : ℕ) (message : List ℕ) (x : SenderSide) (b : ℕ) → o.pass.call ≡ Sends e (turn.Taken c (record { follows = f; message = message; stage = stage.Era })) x b
      → Allows (WordsRule cd desk z) n id me (return_word e) (λ y. y) (λ y me'. SendLooksBy me o (sizes_at z e) z.book e c (record { follows = f; message = message; stage = stage.Era }) x b y me' × StepBy cd desk (ReadsAt (return_word e) y) me o (Steps o.pass.number 0 None) me')
  sends_look n id me o e c f message x b call st (m, p, r₀) wide at _ =
      let sending : Sending = record { follows = f; message = message; stage = stage.Era } in let t : Turn Sending = turn.Taken c sending in
      let h : IsCallOf m p o.pass.number (Sends e t x b) = subst (IsCallOf m p o.pass.number) call (r₀.turns.calls id o.place o.pass (me.0, at, o.here)) in
      let is = h.1.0 in let r = at_zero cd desk z st m p e t is refl r₀ in let s = lane_to m e in let lane = s.lane.lane in let a = length lane.accepted in let k = lane.returned in
      let sound : IsSoundRings s = rings_to m e (rings_in r) in let sizes = sizes_is cd desk z st m r e in
      let full = eqb a (k + lane.capacity) in let over = eqb a lane.book in
      let t' : Turn Sending = after_send_look lane c sending in let w : Call = Sends e t' x b in
      let has : has_call s.lane.sender o.pass.number ≡ true = has_of s.lane.sender o.pass.number (ap holder is ∙ h.1.1) (ap is_manager is) in let own = Count e f (Room x.accepted k) ∷ o.pass.own in let past = r.histories.own id o.place o.pass (me.0, at, o.here) in
      let saw = seen_now m e o.pass.number o.pass.first f o.pass.own (h.2 refl) past in let saw_accepted = saw.0.accepted in
      let word : get_or st.words (return_word e) 0 ≡ s.rings.return_index = ap (λ (ws : List ℕ). get_or ws (return_word e) 0) (words_here cd desk z st m r e) ∙ return_seen e (era_word m.era) (lane_words s) (lane_words (lane_to m (other e))) in
      let leaves : (ring_form desk).sent_on s m.era ≡ with_turn s t' = λ i. (ring_form desk).sent_on (with_turn s (is i)) m.era in
      let side : x.accepted ≡ a = ap (λ (u : SenderSide). u.accepted) h.1.2 in let back = sound.counted.back in let behind = sound.counted.behind in let out = sound.counted.out in let cap : s.rings.sizes.capacity ≡ (sizes_at z e).capacity = ap (λ (u : RingSizes). u.capacity) sizes in
      let room : lane.capacity ≡ (sizes_at z e).capacity = sound.sized.lane ∙ cap in
      let may = send_may desk m e o.pass.number 0 h.0 has in let m' = with_lane m e (with_turn s t') in
      let deed : m' ≡ after_deed desk m (Steps o.pass.number 0 None) = ap (with_lane m e) (sym leaves) ∙ send_deed desk m e o.pass.number 0 h.0 has in
      let mine : IsCallOf m' 0 o.pass.number w = here_sends desk m e (with_turn s t') o.pass.number t' x b h.0
      (refl, looked_holder full over c a k sending ∙ h.1.1, h.1.2, λ out. absurd (true-false (sym out ∙ looked_out full over c a k sending))) (looked_current full over c a k m.era.inc sending (h.2 refl)) in (
        _,
        keeps,
        tt,
        turn_noting cd desk z st m r e t t' is (return_word e) (get_or st.words (return_word e) 0) id me.1 me.0 o w own (Steps o.pass.number 0 None) at h.1.1
            may
            deed
            (loaded cd desk z st m r e (return_word e) s refl)
            (looked_word full over c a k sending) (looked_home full over c a k sending) (looked_out full over c a k sending)
            mine
            (history_counted m e (with_turn s t') refl refl (le_refl k) o.pass.number o.pass.first f (Room x.accepted k) o.pass.own (h.2 refl) (record { accepted = omega (arith, side); handed = omega arith; returned = le_refl k }) past) (inr (inr (h.2 refl)))
            (refl, ((λ i. ap (has_sender_for_manager i) call), λ i. ap (has_for_manager i) call)) (looked_holder full over c a k sending ∙ h.1.1),
        (
          (
            k,
            word ∙ (sound.return_index ∙ ap (λ (u : RingSizes). return_count u k % 65536) sizes),
            omega (arith, side, back, behind),
            omega (arith, side, out, cap),
            record { not_below = (omega (arith, saw_accepted, side), saw.0.returned); none_later = saw.1 },
            λ i. (with_pass me.0 o (with_step o.pass (Sends e (look_turn (sym side i) k (room i) (book_in r e i) c sending) x b) own o.pass.hands) (Some (copied cd m')), me.1),
          ),
          read_by (return_word e) cd desk z st m r id me o (with_step o.pass w own o.pass.hands) (Steps o.pass.number 0 None) m' me.1 at may deed mine,
        ),
      )

  -- step 5 of a send: the entry is stored while the buffer is out, and the buffers of the messages before it stand
  pub sends_entry : (n id : ℕ) (me : SeatState) (o : Mover me.0) (e : End) (c f : ℕ) (message : List ℕ) (x : SenderSide) (b word new before : ℕ) → o.pass.call ≡ Sends e (turn.Taken c (record { follows = f; message = message; stage = stage.Buffer })) x b
      → ((st : State Slot View) (m : LaneLink (RingState (PlacedDesk kc kz))) → Shows cd desk z st m 0 → ahead e (lane_words (lane_to m (other e))) ≡ before)
      → word ≡ 10 + (before + x.accepted % (sizes_at z e).entries) → new ≡ b + entry_length (sizes_at z e) (length message) * 4294967296
      → Allows (WordsRule cd desk z) n id me word (λ _. new) (λ _ me'. SendStoresEntryBy me o e c (record { follows = f; message = message; stage = stage.Buffer }) x b me' × StepBy cd desk (WritesAt word new) me o (Steps o.pass.number 0 None) me')
  sends_entry n id me o e c f message x b word new before call before_is at_word new_is st (m, p, r₀) wide at _ =
      let sending : Sending = record { follows = f; message = message; stage = stage.Buffer } in let t : Turn Sending = turn.Taken c sending in
      let h : IsCallOf m p o.pass.number (Sends e t x b) = subst (IsCallOf m p o.pass.number) call (r₀.turns.calls id o.place o.pass (me.0, at, o.here)) in
      let r = at_zero cd desk z st m p e t h.1.0 refl r₀ in let s₀ = lane_to m e in let s = with_turn s₀ t in let is : s₀ ≡ s = λ k. with_turn s₀ (h.1.0 k) in
      let sound : IsSoundRings s = subst IsSoundRings is (rings_to m e (rings_in r)) in let q : HoldsBuffers s (shelf_to r.shelves e) = subst (λ (u : RingState (PlacedDesk kc kz)). HoldsBuffers u (shelf_to r.shelves e)) is ((buffers_in r) e) in
      let a = length s.lane.lane.accepted in let hd = length s.lane.lane.takers in let sizes = s.rings.sizes in let same = sizes_is cd desk z st m r e in let side : x.accepted ≡ a = ap (λ (u : SenderSide). u.accepted) h.1.2 in
      let entry : UsedWord = record { id = s.rings.sending; len = entry_length sizes (length message) } in let j : ℕ = a % sizes.entries in
      let one = sound.sized.some in let fits = sound.sized.fits in let fl = sound.sized.forward_long in let low : j < sizes.entries = mod-lt a (omega (arith, one, fits)) in
      let stored : new ≡ entry_word entry = new_is ∙ (λ k. sym (h.1.3 refl) k + entry_length (sym same k) (length message) * 4294967296) in
      let place : word ≡ 10 + (ahead e (lane_words (lane_to m (other e))) + j) = at_word ∙ (λ k. 10 + (sym (before_is st m r) k + side k % (sym same k).entries)) in
      let s' : RingState (PlacedDesk kc kz) = (ring_form desk).sent_on s m.era in let t' : Turn Sending = turn.Taken c (record sending { stage = stage.Entry }) in let w : Call = Sends e t' x b in
      let has : has_call s₀.lane.sender o.pass.number ≡ true = has_of s₀.lane.sender o.pass.number (ap holder h.1.0 ∙ h.1.1) (ap is_manager h.1.0) in
      let back = sound.counted.back in let room = (sending_is s sound refl).1 in let cap : s.lane.lane.capacity ≡ sizes.capacity = sound.sized.lane in
      let stands : (k : ℕ) → hd ≤ k → k < a → buffer_at sizes.entries s'.rings.forward k ≡ buffer_at sizes.entries s.rings.forward k = λ k from to.
      buffer_at_other sizes.entries s.rings.forward k a entry (entries_apart sizes.entries k a to (omega (arith, from, room, cap, back, fits))) in
      let may = send_may desk m e o.pass.number 0 h.0 has in
      let deed : with_lane m e s' ≡ after_deed desk m (Steps o.pass.number 0 None) = ap (λ (u : RingState (PlacedDesk kc kz)). with_lane m e ((ring_form desk).sent_on u m.era)) (sym is) ∙ send_deed desk m e o.pass.number 0 h.0 has in
      let mine : IsCallOf (with_lane m e s') 0 o.pass.number w = here_sends desk m e s' o.pass.number t' x b h.0 (refl, h.1.1, h.1.2, λ _. h.1.3 refl) (λ past. h.2 refl) in (
        _,
        keeps,
        tt,
        lane_moves cd desk z st m r e s s' is word new id me.1 me.0 o w keeps (Steps o.pass.number 0 None) (shelf_to r.shelves e) at
            may
            deed
            (ap (set (words_at e (era_word m.era) (lane_words s) (lane_words (lane_to m (other e)))) word) stored
            ∙ forward_set e (era_word m.era) j word entry (lane_words s) (lane_words (lane_to m (other e))) (omega (arith, low, fl)) place)
            refl
            (record { long = q.long; full = λ k from to other. ap (get_elem? (shelf_to r.shelves e)) (stands k from to) ∙ q.full k from to other; home = q.home })
            mine
            (others_send desk m e s' t o.pass.number h.1.0 h.1.1 refl refl refl (λ _. refl) (λ k apart. no_call desk t' o.pass.number k h.1.1 apart)) refl refl refl refl (refl, ((λ i. ap (has_sender_for_manager i) call), λ i. ap (has_for_manager i) call)),
        (
          refl,
          write_by word new cd desk z st m r id me o (with_call o.pass w) (Steps o.pass.number 0 None) (with_lane m e s') me.1
              (stored ∙ (ap entry_word (sym (get_or-set_same s.rings.forward j entry (entry_of 0) (omega (arith, low, fl))))
              ∙ (sym (forward_found e (era_word m.era) j word (lane_words s') (lane_words (lane_to m (other e))) (let l = length-set s.rings.forward j entry in omega (arith, low, fl, l)) place)
              ∙ ap (λ (ws : List ℕ). get_or ws word 0) (sym (words_seen [] m e s'))))) at may deed mine,
        ),
      )
