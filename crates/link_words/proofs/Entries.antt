-- step 4 of a send from the return ring, on either lane: where the entry's word stands, and what its number says.
use Rattle.link_words.specs.declared.codes.DeskTables.{DeskTables}
use Rattle.link_words.specs.PlacedDesks.{PlacedDesk}
use Rattle.std.proofs.Common.{◌≡◌, ℕ, suc, ◌+◌, ◌-◌, ◌*◌, ◌%◌, ◌<◌, ◌≤◌, List, [], ◌++◌, map, length, get_or, refl, sym, ap, ◌∙◌, arith}
use Rattle.std.proofs.lemmas.List.{length-map, get_or-map, get_or_append_left}
use native.Mathlib.Nat.{mod-lt}
use lib.Seq.{get_or-append-add}
use Rattle.atomic_table.specs.Table.{State, Allows}
use Rattle.rp_base.specs.declared.kinds.End.{End}
use Rattle.rp_base.specs.declared.kinds.End.TheVariants as side
use Rattle.vring_layout.specs.declared.words.UsedWord.{UsedWord}
use Rattle.lane_model.specs.declared.lane_links.LaneLink.{LaneLink}
use Rattle.lane_model.specs.declared.stages.Turn.TheVariants as turn
use Rattle.lane_model.specs.declared.stages.SendStage.TheVariants as stage
use base.Stored.{Coded}
use Rattle.lane_model.specs.Desks.{DeskMeaning}
use Rattle.ring_core.specs.declared.states.RingState.{RingState}
use Rattle.ring_core.specs.declared.states.RingSizes.{RingSizes}
use Rattle.ring_core.specs.Rings.{source_buffer, entry_of, buffer_at}
use Rattle.ring_core.proofs.Owned.{source-below, source-late}
use Rattle.link_words.specs.declared.rule.Slot.{Slot}
use Rattle.link_words.specs.declared.rule.SenderSide.{SenderSide}
use Rattle.link_words.specs.declared.rule.LinkSizes.{LinkSizes}
use Rattle.link_words.specs.declared.rule.Call.TheVariants.{Sends}
use Rattle.link_words.specs.declared.rule.View.{View}
use Rattle.link_words.specs.declared.rule.Ring.TheVariants as ring
use Rattle.link_words.specs.Words.{other, lane_to, era_word, entry_word, LaneWords, lane_words, entry_words_before, words_at, entries_before, entry_number}
use Rattle.link_words.specs.Rule.{Shows, WordsRule}
use Rattle.link_words.specs.Passes.{Mover}
use Rattle.link_words.specs.Calls.{SeatState}
use Rattle.link_words.proofs.Tells.{SendTakesBufferBy}
use Rattle.link_words.proofs.Buffers.{words_here, pulls}
use Rattle.link_words.proofs.Exact.{StepBy, ReadsAt}
use Rattle.link_words.proofs.Parts.{rings_in, sizes_in}
use Rattle.link_words.specs.Words.{sizes_at}
use Rattle.link_words.specs.Deeds.{Steps}
use Rattle.std.specs.Prelude.{None}
use Rattle.ring_core.specs.SoundRings.{IsSoundRings}

-- how many entries stand before those of a lane, where the other one is b
abbrev pub ahead : End → LaneWords → ℕ
ahead side.Host b = 0
ahead side.Remote b = length b.forward + length b.returns

-- the i-th return entry of a lane
pub return_found : (e : End) (era i word : ℕ) (a b : LaneWords) → i < length a.returns → word ≡ 10 + (ahead e b + (length a.forward + i)) → get_or (words_at e era a b) word 0 ≡ entry_word (get_or a.returns i (entry_of 0))
return_found side.Host era i word a b low at =
    let f = length-map a.forward entry_word in
    ap (λ (k : ℕ). get_or (words_at side.Host era a b) k 0) (let e : word ≡ suc (suc (suc (suc (suc (suc (suc (suc (suc (suc (length (map entry_word a.forward) + i)))))))))) = omega (arith, at, f) in e)
    ∙ (get_or-append-add (map entry_word a.forward) (map entry_word a.returns ++ entry_words_before b []) i 0
    ∙ (get_or_append_left (map entry_word a.returns) (entry_words_before b []) 0 i (let l = length-map a.returns entry_word in omega (arith, low, l))
    ∙ get_or-map entry_word a.returns i (entry_of 0) 0 low))
return_found side.Remote era i word a b low at =
    let f = length-map a.forward entry_word in let g = length-map b.forward entry_word in let h = length-map b.returns entry_word in
    ap (λ (k : ℕ). get_or (words_at side.Remote era a b) k 0)
    (let e : word ≡ suc (suc (suc (suc (suc (suc (suc (suc (suc (suc (length (map entry_word b.forward) + (length (map entry_word b.returns) + (length (map entry_word a.forward) + i)))))))))))) = omega (arith, at, f, g, h) in e)
    ∙ (get_or-append-add (map entry_word b.forward) (map entry_word b.returns ++ entry_words_before a []) (length (map entry_word b.returns) + (length (map entry_word a.forward) + i)) 0
    ∙ (get_or-append-add (map entry_word b.returns) (entry_words_before a []) (length (map entry_word a.forward) + i) 0
    ∙ (get_or-append-add (map entry_word a.forward) (map entry_word a.returns ++ []) i 0
    ∙ (get_or_append_left (map entry_word a.returns) [] 0 i (let l = length-map a.returns entry_word in omega (arith, low, l))
    ∙ get_or-map entry_word a.returns i (entry_of 0) 0 low))))

-- the i-th forward entry of a lane
pub forward_found : (e : End) (era i word : ℕ) (a b : LaneWords) → i < length a.forward → word ≡ 10 + (ahead e b + i) → get_or (words_at e era a b) word 0 ≡ entry_word (get_or a.forward i (entry_of 0))
forward_found side.Host era i word a b low at =
    ap (λ (k : ℕ). get_or (words_at side.Host era a b) k 0) (let e : word ≡ suc (suc (suc (suc (suc (suc (suc (suc (suc (suc i))))))))) = omega (arith, at) in e)
    ∙ (get_or_append_left (map entry_word a.forward) (map entry_word a.returns ++ entry_words_before b []) 0 i (let l = length-map a.forward entry_word in omega (arith, low, l))
    ∙ get_or-map entry_word a.forward i (entry_of 0) 0 low)
forward_found side.Remote era i word a b low at =
    let g = length-map b.forward entry_word in let h = length-map b.returns entry_word in
    ap (λ (k : ℕ). get_or (words_at side.Remote era a b) k 0)
    (let e : word ≡ suc (suc (suc (suc (suc (suc (suc (suc (suc (suc (length (map entry_word b.forward) + (length (map entry_word b.returns) + i))))))))))) = omega (arith, at, g, h) in e)
    ∙ (get_or-append-add (map entry_word b.forward) (map entry_word b.returns ++ entry_words_before a []) (length (map entry_word b.returns) + i) 0
    ∙ (get_or-append-add (map entry_word b.returns) (entry_words_before a []) i 0
    ∙ (get_or_append_left (map entry_word a.forward) (map entry_word a.returns ++ []) 0 i (let l = length-map a.forward entry_word in omega (arith, low, l))
    ∙ get_or-map entry_word a.forward i (entry_of 0) 0 low)))

-- a buffer's number is the low half of its entry's word
pub id_of : (entry : UsedWord) → entry.id < 4294967296 → entry_word entry % 4294967296 ≡ entry.id
id_of entry low = let n : ℕ = entry.id in let l : ℕ = entry.len in let small : n < 4294967296 = low in let e : (n + l * 4294967296) % 4294967296 ≡ n = omega arith in e

module _ {B : Type 0} {kc : Coded B} {kz : DeskTables} (cd : Coded (PlacedDesk kc kz)) (desk : DeskMeaning (PlacedDesk kc kz)) (z : LinkSizes) where
  -- step 4 of a send behind the own list: the word is that of the return entry
  pub pulls_entry : (n id : ℕ) (me : SeatState) (o : Mover me.0) (e : End) (c f : ℕ) (message : List ℕ) (x : SenderSide) (b i first entries own before : ℕ) → o.pass.call ≡ Sends e (turn.Taken c (record { follows = f; message = message; stage = stage.Look })) x b → first ≡ z.to_host.capacity
      → ((st : State Slot View) (m : LaneLink (RingState (PlacedDesk kc kz))) → Shows cd desk z st m 0 → ((lane_to m e).rings.sizes.entries ≡ entries) × ((lane_to m e).rings.sizes.own ≡ own) × (ahead e (lane_words (lane_to m (other e))) ≡ before))
      → own ≤ x.accepted → i ≡ 10 + (before + (entries + (x.accepted - own) % entries))
      → Allows (WordsRule cd desk z) n id me i (λ y. y) (λ y me'. SendTakesBufferBy me o first e c (record { follows = f; message = message; stage = stage.Look }) x (y % 4294967296) me' × StepBy cd desk (ReadsAt i y) me o (Steps o.pass.number 0 None) me')
  pulls_entry n id me o e c f message x b i first entries own before call first_at sizes_are late at_word = pulls cd desk z n id me o e c f message x b i first call first_at (λ y. y % 4294967296)
      (λ st m r side sound room.
      let s = lane_to m e in let sizes = sizes_are st m r in let rings = s.rings in let a = length s.lane.lane.accepted in
      let sent : x.accepted ≡ a = ap (λ (u : SenderSide). u.accepted) side in let en = sizes.0 in let ow = sizes.1 in let be = sizes.2 in
      let j : ℕ = (a - rings.sizes.own) % rings.sizes.entries in let fl = sound.sized.forward_long in let rl = sound.sized.returns_long in
      let some : 0 < rings.sizes.entries = let one = sound.sized.some in let fits = sound.sized.fits in omega (arith, one, fits) in
      let low : j < rings.sizes.entries = mod-lt (a - rings.sizes.own) some in
      let place : (x.accepted - own) % entries ≡ j = λ k. (sent k - sym ow k) % sym en k in
      let word : i ≡ 10 + (ahead e (lane_words (lane_to m (other e))) + (length rings.forward + j)) = omega (arith, at_word, place, be, en, fl) in
      let entry : UsedWord = get_or rings.returns j (entry_of 0) in
      let found : get_or st.words i 0 ≡ entry_word entry = ap (λ (ws : List ℕ). get_or ws i 0) (words_here cd desk z st m r e) ∙ return_found e (era_word m.era) j i (lane_words s) (lane_words (lane_to m (other e))) (omega (arith, low, rl)) word in
      let source : source_buffer rings.sizes.entries rings.sizes.own rings.returns a ≡ entry.id = source-late rings.sizes.entries rings.sizes.own rings.returns a (omega (arith, late, sent, ow)) in
      let below = source-below rings.sizes a (length s.lane.lane.takers) s.lane.lane.returned rings.forward rings.returns rings.hands rings.aside sound.owned room in
      let most = sound.sized.most in
      ap (λ (k : ℕ). k % 4294967296) found ∙ (id_of entry (omega (arith, below, source, most)) ∙ sym source))

-- what both forms of step 4 of a send ask of the sizes holds of every state of the rule
pub sizes_known : {B : Type 0} {kc : Coded B} {kz : DeskTables} (cd : Coded (PlacedDesk kc kz)) (desk : DeskMeaning (PlacedDesk kc kz)) (z : LinkSizes) (e : End) (st : State Slot View) (m : LaneLink (RingState (PlacedDesk kc kz))) → Shows cd desk z st m 0
    → ((lane_to m e).rings.sizes.entries ≡ (sizes_at z e).entries) × ((lane_to m e).rings.sizes.own ≡ (sizes_at z e).own) × (ahead e (lane_words (lane_to m (other e))) ≡ entries_before z e)
sizes_known cd desk z side.Host st m r = (ap (λ (x : RingSizes). x.entries) (sizes_in r).0, ap (λ (x : RingSizes). x.own) (sizes_in r).0, refl)
sizes_known cd desk z side.Remote st m r =
    let f = (rings_in r).to_host.sized.forward_long in let g = (rings_in r).to_host.sized.returns_long in let n = ap (λ (x : RingSizes). x.entries) (sizes_in r).0 in
    (ap (λ (x : RingSizes). x.entries) (sizes_in r).1, ap (λ (x : RingSizes). x.own) (sizes_in r).1, (λ k. (f ∙ n) k + (g ∙ n) k))

-- the forward entry of the next message names its buffer
pub forward_entry : {B : Type 0} {kc : Coded B} {kz : DeskTables} (cd : Coded (PlacedDesk kc kz)) (desk : DeskMeaning (PlacedDesk kc kz)) (z : LinkSizes) (n : ℕ) (e : End) (st : State Slot View) (m : LaneLink (RingState (PlacedDesk kc kz))) (r : Shows cd desk z st m 0) (count : ℕ) → count ≡ length (lane_to m e).lane.lane.takers → IsSoundRings (lane_to m e)
    → buffer_at (lane_to m e).rings.sizes.entries (lane_to m e).rings.forward (length (lane_to m e).lane.lane.takers) < (lane_to m e).rings.sizes.capacity
    → get_or st.words (entry_number z e ring.Forward count) 0 % 4294967296 ≡ buffer_at (lane_to m e).rings.sizes.entries (lane_to m e).rings.forward (length (lane_to m e).lane.lane.takers)
forward_entry cd desk z n e st m r count at sound low =
    let s = lane_to m e in let sizes = sizes_known cd desk z e st m r in let hd = length s.lane.lane.takers in let size = s.rings.sizes.entries in let fl = sound.sized.forward_long in
    let some : 0 < size = let one = sound.sized.some in let fits = sound.sized.fits in omega (arith, one, fits) in
    let j : ℕ = hd % size in let near : j < size = mod-lt hd some in let place : count % (sizes_at z e).entries ≡ j = λ k. at k % sym sizes.0 k in let be = sizes.2 in
    let word : entry_number z e ring.Forward count ≡ 10 + (ahead e (lane_words (lane_to m (other e))) + j) = let w : 10 + (entries_before z e + (0 + count % (sizes_at z e).entries)) ≡ 10 + (ahead e (lane_words (lane_to m (other e))) + j) = omega (arith, place, be) in w in
    let entry : UsedWord = get_or s.rings.forward j (entry_of 0) in let most = sound.sized.most in
    ap (λ (k : ℕ). k % 4294967296) (ap (λ (ws : List ℕ). get_or ws (entry_number z e ring.Forward count) 0) (words_here cd desk z st m r e) ∙ forward_found e (era_word m.era) j (entry_number z e ring.Forward count) (lane_words s) (lane_words (lane_to m (other e))) (omega (arith, near, fl)) word)
    ∙ id_of entry (omega (arith, low, most))
