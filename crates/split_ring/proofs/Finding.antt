-- What the manager's loads of words find of the rings of a link.
use Rattle.std.proofs.Common.{◌≡◌, ◌<◌, ◌+◌, ◌*◌, ◌%◌, ℕ, Bool, true, false, not, List, [], ◌∷◌, ◌++◌, map, length, get_or, refl, sym, ap, ◌∙◌, subst, arith}
use Rattle.std.proofs.lemmas.List.{ext_get_or, get_or-map, get_or_append_left, get_or_push, length-map}
use Rattle.std.proofs.lemmas.Nat.{mod-mul-add}
use base.Stored.{Coded}
use native.Mathlib.Decide.{dec_lt}
use Rattle.rp_base.specs.declared.kinds.End.{End}
use Rattle.rp_base.specs.declared.kinds.End.TheVariants as side
use Rattle.rp_base.specs.declared.kinds.Era.{Era}
use Rattle.rp_base.specs.Limits.{IsRingSize, ring_capacity}
use Rattle.lane_model.specs.declared.lane_links.LaneLink.{LaneLink}
use Rattle.lane_model.specs.Desks.{DeskMeaning}
use Rattle.ring_core.specs.declared.states.RingSizes.{RingSizes}
use Rattle.ring_core.specs.declared.states.Rings.{Rings}
use Rattle.ring_core.specs.declared.states.RingState.{RingState}
use Rattle.ring_core.specs.Rings.{entry_of}
use Rattle.ring_core.specs.RingWords.{device_sends, entry_in, index_of, ring_of, words_of as lane_shown}
use Rattle.ring_core.specs.SoundRings.{IsSoundRings}
use Rattle.vring_layout.specs.declared.snapshots.Snapshot.{Snapshot}
use Rattle.vring_layout.specs.declared.words.RingWords.{RingWords}
use Rattle.vring_layout.specs.declared.words.UsedWord.{UsedWord}
use Rattle.link_words.specs.declared.codes.DeskTables.{DeskTables}
use Rattle.link_words.specs.declared.rule.LinkSizes.{LinkSizes}
use Rattle.link_words.specs.BufferNumbers.{HasShortNumbers}
use Rattle.link_words.specs.Calls.{SeatState}
use Rattle.link_words.specs.Deeds.{IsSoundState, Nothing}
use Rattle.link_words.specs.Layouts.{layout, place_in}
use Rattle.link_words.specs.Looks.{FitsWords, SeesWord}
use Rattle.link_words.specs.PlacedDesks.{PlacedDesk, placed_meaning}
use Rattle.link_words.specs.PlacedLinks.{KnowsState, placed_link}
use Rattle.link_words.specs.Reopens.{ManagerDoes}
use Rattle.link_words.specs.Words.{entry_number, entry_word, era_word, lane_to, lane_words, sizes_at, words_of}
use Rattle.link_words.proofs.Apart.{forward_low, found_apart, return_low}
use Rattle.link_words.proofs.Entries.{forward_found, return_found}
use Rattle.split_ring.specs.ManagerCalls.{snapshot_of}
use Rattle.split_ring.specs.Snapshots.{FindsIn, HasEntry, HasIndex, HasNumber, IsLaneFound, index_word, ring_if}
use Rattle.split_ring.proofs.ManagerSteps.{state_known}

-- what stands at a place of the table
word_there : {D : Type 0} (m : LaneLink (RingState D)) (i n place : ℕ) → place ≡ place_in i → n ≡ get_or (layout (words_of 0 [] m)) place 0 → n ≡ get_or (words_of 0 [] m) i 0
word_there m i n place at is = is ∙ ((λ k. get_or (layout (words_of 0 [] m)) (at k) 0) ∙ found_apart 10 (words_of 0 [] m) i)

pub era_there : {D : Type 0} (m : LaneLink (RingState D)) (n : ℕ) → n ≡ get_or (layout (words_of 0 [] m)) 16 0 → n ≡ era_word m.era
era_there m n is = word_there m 1 n 16 refl is

pub index_there : {D : Type 0} (m : LaneLink (RingState D)) (e : End) (returns : Bool) (n place : ℕ) → place ≡ place_in (index_word e returns) → n ≡ get_or (layout (words_of 0 [] m)) place 0 → n ≡ index_of (lane_to m e).rings returns
index_there m e returns n place at is = word_there m (index_word e returns) n place at is ∙ go e returns
  where
    go : (e : End) (returns : Bool) → get_or (words_of 0 [] m) (index_word e returns) 0 ≡ index_of (lane_to m e).rings returns
    go side.Host true = refl
    go side.Host false = refl
    go side.Remote true = refl
    go side.Remote false = refl

-- it stands before the entries
pub index_low : (e : End) (returns : Bool) → place_in (index_word e returns) < 160
index_low e true = return_low e
index_low e false = forward_low e

-- an index has 16 bits
index_short : {D : Type 0} (s : RingState D) (returns : Bool) → IsSoundRings s → index_of s.rings returns < 65536
index_short s true sound = let is = sound.return_index in omega (arith, is)
index_short s false sound = let is = sound.forward_index in omega (arith, is)

-- a ring has as many entries as its sizes say
ring_long : {D : Type 0} (s : RingState D) (returns : Bool) → IsSoundRings s → length (ring_of s.rings returns) ≡ s.rings.sizes.entries
ring_long s true sound = sound.sized.returns_long
ring_long s false sound = sound.sized.forward_long

low_mod : (k n : ℕ) → k < n → k % n ≡ k
low_mod k n low = ap (λ (j : ℕ). j % n) (let e : k ≡ 0 * n + k = omega arith in e) ∙ mod-mul-add 0 n k low

entry_there : {D : Type 0} (z : LinkSizes) (m : LaneLink (RingState D)) (e : End) (returns : Bool) (k : ℕ) → FitsWords z m → IsSoundRings m.to_host → IsSoundRings m.to_remote → k < (sizes_at z e).entries
    → get_or (words_of 0 [] m) (entry_number z e (ring_if returns) k) 0 ≡ entry_word (entry_in (lane_to m e).rings returns k)
entry_there z m side.Host true k fits host remote low =
    let size = ap (λ (s : RingSizes). s.entries) fits.to_host in let f = ring_long m.to_host false host in let r = ring_long m.to_host true host in let same = low_mod k z.to_host.entries low in
    return_found side.Host (era_word m.era) k (entry_number z side.Host (ring_if true) k) (lane_words m.to_host) (lane_words m.to_remote) (omega (arith, low, r, size))
    (let at : 10 + (0 + (z.to_host.entries + k % z.to_host.entries)) ≡ 10 + (0 + (length m.to_host.rings.forward + k)) = omega (arith, same, f, size) in at)
entry_there z m side.Host false k fits host remote low =
    let size = ap (λ (s : RingSizes). s.entries) fits.to_host in let f = ring_long m.to_host false host in let same = low_mod k z.to_host.entries low in
    forward_found side.Host (era_word m.era) k (entry_number z side.Host (ring_if false) k) (lane_words m.to_host) (lane_words m.to_remote) (omega (arith, low, f, size))
    (let at : 10 + (0 + (0 + k % z.to_host.entries)) ≡ 10 + (0 + k) = omega (arith, same) in at)
entry_there z m side.Remote true k fits host remote low =
    let size = ap (λ (s : RingSizes). s.entries) fits.to_host in let f = ring_long m.to_host false host in let r = ring_long m.to_host true host in
    let size' = ap (λ (s : RingSizes). s.entries) fits.to_remote in let f' = ring_long m.to_remote false remote in let r' = ring_long m.to_remote true remote in let same = low_mod k z.to_remote.entries low in
    return_found side.Remote (era_word m.era) k (entry_number z side.Remote (ring_if true) k) (lane_words m.to_remote) (lane_words m.to_host) (omega (arith, low, r', size'))
    (let at : 10 + ((z.to_host.entries + z.to_host.entries) + (z.to_remote.entries + k % z.to_remote.entries)) ≡ 10 + ((length m.to_host.rings.forward + length m.to_host.rings.returns) + (length m.to_remote.rings.forward + k)) = omega (arith, same, f, r, size, f', size') in at)
entry_there z m side.Remote false k fits host remote low =
    let size = ap (λ (s : RingSizes). s.entries) fits.to_host in let f = ring_long m.to_host false host in let r = ring_long m.to_host true host in
    let size' = ap (λ (s : RingSizes). s.entries) fits.to_remote in let f' = ring_long m.to_remote false remote in let same = low_mod k z.to_remote.entries low in
    forward_found side.Remote (era_word m.era) k (entry_number z side.Remote (ring_if false) k) (lane_words m.to_remote) (lane_words m.to_host) (omega (arith, low, f', size'))
    (let at : 10 + ((z.to_host.entries + z.to_host.entries) + (0 + k % z.to_remote.entries)) ≡ 10 + ((length m.to_host.rings.forward + length m.to_host.rings.returns) + k) = omega (arith, same, f, r, size) in at)

-- the buffer that it names has a number of 32 bits
entry_short : (r : Rings) (returns : Bool) (k : ℕ) → HasShortNumbers r → k < length (ring_of r returns) → (entry_in r returns k).id < 4294967296
entry_short r true k short low = short.returns k (entry_of 0) low
entry_short r false k short low = short.forward k (entry_of 0) low

short_at : {D : Type 0} (z : LinkSizes) (m : LaneLink (RingState D)) (e : End) → FitsWords z m → HasShortNumbers (lane_to m e).rings
short_at z m side.Host fits = fits.short.to_host
short_at z m side.Remote fits = fits.short.to_remote

sizes_there : {D : Type 0} (z : LinkSizes) (m : LaneLink (RingState D)) (e : End) → FitsWords z m → (lane_to m e).rings.sizes ≡ sizes_at z e
sizes_there z m side.Host fits = fits.to_host
sizes_there z m side.Remote fits = fits.to_remote

module _ {D : Type 0} (coded : Coded D) (meaning : DeskMeaning D) where
  abbrev Links : (me : SeatState) → Type 0
  Links me = LaneLink (RingState (PlacedDesk coded me.0.sizes.desks))

  abbrev there : (tables : DeskTables) → DeskMeaning (PlacedDesk coded tables)
  there tables = placed_meaning coded tables meaning

  sound_at : {tables : DeskTables} (m : LaneLink (RingState (PlacedDesk coded tables))) (e : End) → IsSoundState (there tables) m → IsSoundRings (lane_to m e)
  sound_at m side.Host sound = sound.rings.to_host
  sound_at m side.Remote sound = sound.rings.to_remote

  -- a load that found a word finds what follows of it
  pub found_by : (me me' : SeatState) (place n : ℕ) (Holds : Links me → Type 0) → me' ≡ me → ManagerDoes coded meaning me (SeesWord me.0.sizes place n) Nothing me'
      → ((m : Links me) → IsSoundState (there me.0.sizes.desks) m → FitsWords me.0.sizes m → n ≡ get_or (layout (words_of 0 [] m)) place 0 → Holds m) → FindsIn coded meaning me Holds
  found_by me me' place n Holds same s follows = subst (λ (k : SeatState). ManagerDoes coded meaning me (λ before after. FitsWords me.0.sizes before × Holds before) Nothing k) same
      (record { state = s.state; sound = s.sound; read = (s.read.1, follows s.state s.sound s.read.1 s.read.0); may = s.may; before = s.before; after = s.after; copy = s.copy })

  -- an index, of which the 16 lowest bits are told
  pub finds_index : (me me' : SeatState) (e : End) (returns : Bool) (place n : ℕ) → place ≡ place_in (index_word e returns) → me' ≡ me → ManagerDoes coded meaning me (SeesWord me.0.sizes place n) Nothing me' → FindsIn coded meaning me (HasIndex e returns (n % 65536))
  finds_index me me' e returns place n at same s = found_by me me' place n (HasIndex e returns (n % 65536)) same s
      (λ m sound fits is. let word = index_there m e returns n place at is in let low = index_short (lane_to m e) returns (sound_at m e sound) in (let e : n % 65536 ≡ n = omega (arith, word, low) in e) ∙ word)

  -- an entry
  pub finds_entry : (me me' : SeatState) (e : End) (returns : Bool) (k place n : ℕ) (entry : UsedWord) → k < (sizes_at me.0.sizes e).entries → place ≡ place_in (entry_number me.0.sizes e (ring_if returns) k) → me' ≡ me
      → ((x : UsedWord) → n ≡ entry_word x → x.id < 4294967296 → entry ≡ x) → ManagerDoes coded meaning me (SeesWord me.0.sizes place n) Nothing me' → FindsIn coded meaning me (HasEntry e returns k entry)
  finds_entry me me' e returns k place n entry low at same reads s = found_by me me' place n (HasEntry e returns k entry) same s (λ m sound fits is.
      let z = me.0.sizes in let long = ring_long (lane_to m e) returns (sound_at m e sound) ∙ ap (λ (s : RingSizes). s.entries) (sizes_there z m e fits) in
      reads (entry_in (lane_to m e).rings returns k) (word_there m (entry_number z e (ring_if returns) k) n place at is ∙ entry_there z m e returns k fits (sound_at m side.Host sound) (sound_at m side.Remote sound) low)
      (entry_short (lane_to m e).rings returns k (short_at z m e fits) (omega (arith, low, long))))

  -- the number of the buffer in it
  pub finds_number : (me : SeatState) (e : End) (returns : Bool) (k number : ℕ) (entry : UsedWord) → number ≡ entry.id % 65536 → FindsIn coded meaning me (HasEntry e returns k entry) → FindsIn coded meaning me (HasNumber e returns k number)
  finds_number me e returns k number entry is s = record { state = s.state; sound = s.sound; read = (s.read.0, is ∙ ap (λ (x : UsedWord). x.id % 65536) s.read.1); may = s.may; before = s.before; after = s.after; copy = s.copy }

  -- each load finds a link of the sizes of its table
  pub finds_sized : (me : SeatState) (e : End) {Holds : Links me → Type 0} → FindsIn coded meaning me Holds → IsRingSize (sizes_at me.0.sizes e).entries × ((sizes_at me.0.sizes e).capacity ≡ ring_capacity (sizes_at me.0.sizes e).entries)
  finds_sized me e s = let sized = (sound_at s.state e s.sound).sized in
      subst (λ (r : RingSizes). IsRingSize r.entries × (r.capacity ≡ ring_capacity r.entries)) (sizes_there me.0.sizes s.state e s.read.0) (sized.size, sized.count)

  -- where the manager knows the state of the link, it is that one
  pub finds_known : (me : SeatState) (m : LaneLink (RingState D)) (Holds : Links me → Type 0) → FindsIn coded meaning me Holds → KnowsState coded me.0 m → Holds (placed_link coded me.0.sizes.desks m)
  finds_known me m Holds s knows = subst Holds (state_known coded meaning me _ Nothing me m s knows) s.read.1

  rings_placed : (tables : DeskTables) (m : LaneLink (RingState D)) (e : End) → (lane_to (placed_link coded tables m) e).rings ≡ (lane_to m e).rings
  rings_placed tables m side.Host = refl
  rings_placed tables m side.Remote = refl

  -- so the words of a lane are those of the state
  pub lane_known : (me : SeatState) (m : LaneLink (RingState D)) (e : End) (address : ℕ) (words : RingWords) → IsLaneFound coded meaning me e address words → KnowsState coded me.0 m → words ≡ lane_shown (lane_to m e).rings address
  lane_known me m e address words f knows =
      let r = (lane_to m e).rings in let p = placed_link coded me.0.sizes.desks m in let s = f.avail_idx in let is = state_known coded meaning me _ Nothing me m s knows in
      let sound : IsSoundState (there me.0.sizes.desks) p = subst (IsSoundState (there me.0.sizes.desks)) is s.sound in let fits : FitsWords me.0.sizes p = subst (FitsWords me.0.sizes) is s.read.0 in
      let same = rings_placed me.0.sizes.desks m e in
      let sizes : r.sizes ≡ sizes_at me.0.sizes e = ap (λ (x : Rings). x.sizes) (sym same) ∙ sizes_there me.0.sizes p e fits in
      let device : words.device_writes ≡ device_sends r.sizes = f.device_writes ∙ ap device_sends (sym sizes) in
      let many : (returns : Bool) → length (ring_of r returns) ≡ words.num = λ returns. ap (λ (x : Rings). length (ring_of x returns)) (sym same) ∙ (ring_long (lane_to p e) returns (sound_at p e sound) ∙ (ap (λ (z : RingSizes). z.entries) (sizes_there me.0.sizes p e fits) ∙ sym f.num)) in
      let avail : words.avail ≡ map (λ (x : UsedWord). x.id % 65536) (ring_of r words.device_writes) = ext_get_or 0 words.avail _ (f.long.0 ∙ (sym (many words.device_writes) ∙ sym (length-map (ring_of r words.device_writes) (λ (x : UsedWord). x.id % 65536))))
      (λ k low. let near : k < words.num = (let long = f.long.0 in omega (arith, low, long)) in finds_known me m _ (f.avail k near) knows ∙ (ap (λ (x : Rings). (entry_in x words.device_writes k).id % 65536) same
      ∙ sym (get_or-map (λ (x : UsedWord). x.id % 65536) (ring_of r words.device_writes) k (entry_of 0) 0 (let long = many words.device_writes in omega (arith, near, long))))) in
      let used : words.used ≡ ring_of r (not words.device_writes) = ext_get_or (entry_of 0) words.used (ring_of r (not words.device_writes)) (f.long.1 ∙ sym (many (not words.device_writes)))
      (λ k low. let near : k < words.num = (let long = f.long.1 in omega (arith, low, long)) in finds_known me m _ (f.used k near) knows ∙ ap (λ (x : Rings). entry_in x (not words.device_writes) k) same) in
      let first = finds_known me m _ f.avail_idx knows ∙ ap (λ (x : Rings). index_of x words.device_writes) same in let second = finds_known me m _ f.used_idx knows ∙ ap (λ (x : Rings). index_of x (not words.device_writes)) same in
      (λ i. record { num = (f.num ∙ ap (λ (z : RingSizes). z.entries) (sym sizes)) i; capacity = (f.capacity ∙ ap (λ (z : RingSizes). z.capacity) (sym sizes)) i; base = f.base i; device_writes = words.device_writes; avail_idx = first i; used_idx = second i; avail = avail i; used = used i })
      ∙ (λ i. record {
        num = r.sizes.entries;
        capacity = r.sizes.capacity;
        base = address;
        device_writes = device i;
        avail_idx = index_of r (device i);
        used_idx = index_of r (not (device i));
        avail = map (λ (x : UsedWord). x.id % 65536) (ring_of r (device i));
        used = ring_of r (not (device i));
      })

  -- the era
  pub finds_era : (me me' : SeatState) (n : ℕ) (found : Era) → me' ≡ me → ((era : Era) → n ≡ era_word era → era.inc < 4294967296 → found ≡ era) → ManagerDoes coded meaning me (SeesWord me.0.sizes 16 n) Nothing me' → FindsIn coded meaning me (λ m. m.era ≡ found)
  finds_era me me' n found same reads s = found_by me me' 16 n (λ m. m.era ≡ found) same s (λ m sound fits is. sym (reads m.era (era_there m n is) fits.inc))

  -- one entry more
  pub more_found : (me : SeatState) (e : End) (returns : Bool) (place : ℕ) (entries : List UsedWord) (entry : UsedWord) → length entries ≡ place → ((k : ℕ) → k < place → FindsIn coded meaning me (HasEntry e returns k (get_or entries k (entry_of 0))))
      → FindsIn coded meaning me (HasEntry e returns place entry) → (k : ℕ) → k < place + 1 → FindsIn coded meaning me (HasEntry e returns k (get_or (entries ++ entry ∷ []) k (entry_of 0)))
  more_found me e returns place entries entry long before now k low = elim (dec_lt k place) [
    | yes near ↦ subst (λ (x : UsedWord). FindsIn coded meaning me (HasEntry e returns k x)) (sym (get_or_append_left entries (entry ∷ []) (entry_of 0) k (omega (arith, near, long)))) (before k near)
    | no far ↦ let at : k ≡ place = omega (arith, low, far) in
        subst (λ (j : ℕ). FindsIn coded meaning me (HasEntry e returns j (get_or (entries ++ entry ∷ []) j (entry_of 0)))) (sym at) (subst (λ (x : UsedWord). FindsIn coded meaning me (HasEntry e returns place x)) (sym (get_or_push entries entry (entry_of 0) place long)) now)
  ]

  -- the words of a lane, by what was found
  pub lane_found : (me : SeatState) (e : End) (address : ℕ) (sizes : RingSizes) (avail_idx used_idx : ℕ) (numbers : List ℕ) (available used : List UsedWord) → sizes ≡ sizes_at me.0.sizes e → IsRingSize sizes.entries × (sizes.capacity ≡ ring_capacity sizes.entries)
      → FindsIn coded meaning me (HasIndex e (device_sends sizes) avail_idx) → FindsIn coded meaning me (HasIndex e (not (device_sends sizes)) used_idx) → length available ≡ sizes.entries → length used ≡ sizes.entries → numbers ≡ map (λ (x : UsedWord). x.id % 65536) available
      → ((k : ℕ) → k < sizes.entries → FindsIn coded meaning me (HasEntry e (device_sends sizes) k (get_or available k (entry_of 0)))) → ((k : ℕ) → k < sizes.entries → FindsIn coded meaning me (HasEntry e (not (device_sends sizes)) k (get_or used k (entry_of 0))))
      → IsLaneFound coded meaning me e address (record { num = sizes.entries; capacity = sizes.capacity; base = address; device_writes = device_sends sizes; avail_idx = avail_idx; used_idx = used_idx; avail = numbers; used = used })
  lane_found me e address sizes avail_idx used_idx numbers available used is sized first second long long' numbered found found' = record {
    num = ap (λ (s : RingSizes). s.entries) is;
    capacity = ap (λ (s : RingSizes). s.capacity) is;
    sized = sized;
    base = refl;
    device_writes = ap device_sends is;
    avail_idx = first;
    used_idx = second;
    long = (ap (λ (l : List ℕ). length l) numbered ∙ (length-map available (λ (x : UsedWord). x.id % 65536) ∙ long), long');
    avail = λ k low. finds_number me e (device_sends sizes) k (get_or numbers k 0) (get_or available k (entry_of 0))
        (ap (λ (l : List ℕ). get_or l k 0) numbered ∙ get_or-map (λ (x : UsedWord). x.id % 65536) available k (entry_of 0) 0 (omega (arith, low, long))) (found k low);
    used = found';
  }

  -- the snapshot of a state that the manager knows
  pub shown_known : (me : SeatState) (m : LaneLink (RingState D)) (capacity : ℕ) (snapshot : Snapshot) → FindsIn coded meaning me (λ l. l.era ≡ snapshot.era) → IsLaneFound coded meaning me side.Host 0 snapshot.to_host
      → IsLaneFound coded meaning me side.Remote (512 * capacity) snapshot.to_remote → capacity ≡ me.0.sizes.to_host.capacity → KnowsState coded me.0 m → snapshot ≡ snapshot_of m
  shown_known me m capacity snapshot era host remote many knows =
      let fits : FitsWords me.0.sizes (placed_link coded me.0.sizes.desks m) = subst (FitsWords me.0.sizes) (state_known coded meaning me _ Nothing me m era knows) era.read.0 in
      let same : capacity ≡ m.to_host.rings.sizes.capacity = many ∙ ap (λ (s : RingSizes). s.capacity) (sym fits.to_host) in
      let found : m.era ≡ snapshot.era = finds_known me m (λ l. l.era ≡ snapshot.era) era knows in
      let a = lane_known me m side.Host 0 snapshot.to_host host knows in let b = lane_known me m side.Remote (512 * capacity) snapshot.to_remote remote knows ∙ ap (λ (n : ℕ). lane_shown m.to_remote.rings (512 * n)) same in
      λ i. record { era = sym found i; to_host = a i; to_remote = b i }
