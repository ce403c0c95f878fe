-- One step over segments, entries or blocks.
use Rattle.std.proofs.Common.{◌≡◌, ℕ, ◌+◌, ◌<◌, length, take, get_or, arith, true, List, [], ◌∷◌, ◌++◌, Option, Some, None, inl, inr, refl, ap, sym, ◌∙◌, append_assoc}
use Rattle.std.specs.List.{filter_map, sum_by}
use Rattle.std.specs.Prelude.{slice_get, slice_index}
use Rattle.std.proofs.Math.Seq.{get_or-append_seam}
use Rattle.std.proofs.lemmas.List.{get_or_append_left, take_more}
use Rattle.std.proofs.lemmas.List.Sums.{sum_by-append, sum_by-cons}
use Rattle.std.proofs.lemmas.Option.{slice_get_within, get_or_from_slice_get}
use Rattle.std.specs.Option.{is_some}
use Rattle.std.proofs.lemmas.Bool.{cases_eq, eq-eqb, ne_eqb}
use Rattle.elf_image.specs.Segments.{SegmentAt}
use Rattle.resource_table.specs.declared.entries.Entry.{Entry}
use Rattle.resource_table.specs.declared.entries.Entry.TheVariants as entry
use Rattle.resource_table.specs.declared.entries.Vdev.{Vdev}
use Rattle.resource_table.specs.Tables.{IsSoundDevice}
use Rattle.memory_pool.specs.declared.blocks.Block.{Block}
use Rattle.memory_pool.proofs.Sound.{option_cases}
use Rattle.fw_load.specs.Loading.{segments_unmapped}
use Rattle.fw_load.specs.Memory.{segment_bytes, with_at, with_segments}
use Rattle.fw_load.specs.Rings.{IsSoundPair, pair_from, pair_of}
use Rattle.memory_pool.specs.declared.blocks.Use.{Use}
use Rattle.memory_pool.specs.declared.blocks.Use.TheVariants as usage
use Rattle.fw_load.specs.Tables.{fix_for, rings_before, rings_of}
use Rattle.fw_load.specs.Uses.{HasRing, IsNumbersOf, IsUseOf}

-- a segment that is mapped leaves the others to decide
pub unmapped_more : (at : ℕ → ℕ → Option ℕ) (segment : SegmentAt) (more : List SegmentAt) (found : Option ℕ) → found ≡ at segment.da segment.memory_len → is_some found ≡ true
    → segments_unmapped at (segment ∷ more) ≡ segments_unmapped at more
unmapped_more at segment more found is some =
    elim (option_cases (at segment.da segment.memory_len)) [
      | inl none ↦ absurd (let e : is_some {T = ℕ} None ≡ true = ap is_some (sym (is ∙ none)) ∙ some in cc)
      | inr one ↦ rw one.1 refl
    ]

-- one segment more that is written
pub segment_more : (at : ℕ → ℕ → Option ℕ) (segment : SegmentAt) (more : List SegmentAt) (memory new : List ℕ) (found : Option ℕ) → found ≡ at segment.da segment.memory_len
    → new ≡ with_at found (segment_bytes segment) memory → with_segments at more new ≡ with_segments at (segment ∷ more) memory
segment_more at segment more memory new found is written =
    ap (with_segments at more) (written ∙ ap (λ found. with_at found (segment_bytes segment) memory) is)

-- one item more of which something is kept
pub kept_more : {X Y : Type 0} (h : X → Option Y) (ys : List Y) (all rest : List X) (x : X) (y : Y) → all ≡ x ∷ rest → h x ≡ Some y
    → (ys ++ y ∷ []) ++ filter_map h rest ≡ ys ++ filter_map h all
kept_more h ys all rest x y is here =
    let e : filter_map h all ≡ y ∷ filter_map h rest = ap (filter_map h) is ∙ rw here refl in
    append_assoc ys (y ∷ []) (filter_map h rest) ∙ ap (λ more. ys ++ more) (sym e)

-- one item more of which nothing is kept
pub left_more : {X Y : Type 0} (h : X → Option Y) (ys : List Y) (all rest : List X) (x : X) → all ≡ x ∷ rest → h x ≡ None
    → ys ++ filter_map h rest ≡ ys ++ filter_map h all
left_more h ys all rest x is none =
    let e : filter_map h all ≡ filter_map h rest = ap (filter_map h) is ∙ rw none refl in
    ap (λ more. ys ++ more) (sym e)

-- the rings of a device for RPMsg
pub pair_here : (placed : List Block) (index : ℕ) (device : Vdev) (more : List Entry) → device.id ≡ 7 → pair_from placed index (entry.Device device ∷ more) ≡ Some (pair_of placed index device)
pair_here placed index device more is = let e = eq-eqb device.id 7 is in rw e refl

-- a device that is not for RPMsg
pub pair_later : (placed : List Block) (index : ℕ) (device : Vdev) (more : List Entry) → (device.id ≡ 7 → ⊥) → pair_from placed index (entry.Device device ∷ more) ≡ pair_from placed (index + 1) more
pair_later placed index device more other = let e = ne_eqb device.id 7 other in rw e refl

-- an entry that is no device
pub pair_skip : (placed : List Block) (index : ℕ) (one : Entry) (more : List Entry) → ((device : Vdev) → one ≡ entry.Device device → ⊥) → pair_from placed index (one ∷ more) ≡ pair_from placed (index + 1) more
pair_skip placed index (entry.Carveout da pa len name) more other = refl
pair_skip placed index (entry.Devmem da pa len name) more other = refl
pair_skip placed index (entry.Trace da len name) more other = refl
pair_skip placed index (entry.Device device) more other = absurd (other device refl)
pair_skip placed index (entry.Skipped type) more other = refl

-- one number more
pub numbers_more : (numbers new : List ℕ) (next index : ℕ) (f : ℕ → ℕ) → new ≡ numbers ++ next ∷ [] → length numbers ≡ index
    → ((i : ℕ) → i < index → slice_index numbers i ≡ f i) → next ≡ f index → (i : ℕ) → i < index + 1 → slice_index new i ≡ f i
numbers_more numbers new next index f is len before here i less =
    elim (cases_eq i index) [
      | inl same ↦
          let last : i ≡ length numbers = same ∙ sym len in
          ap (λ all. get_or all i 0) is ∙ ap (λ k. get_or (numbers ++ next ∷ []) k 0) last ∙ get_or-append_seam numbers next [] 0 ∙ here ∙ ap f (sym same)
      | inr other ↦
          ap (λ all. get_or all i 0) is ∙ get_or_append_left numbers (next ∷ []) 0 i (omega arith) ∙ before i (omega arith)
    ]

-- the rings before the next entry
pub before_more : (entries : List Entry) (index : ℕ) (one : Entry) → slice_get entries index ≡ Some one → rings_before entries (index + 1) ≡ rings_before entries index + rings_of one
before_more entries index one is =
    let within = slice_get_within entries index one is in
    let more : take (index + 1) entries ≡ take index entries ++ one ∷ [] =
    take_more entries index one within ∙ ap (λ last. take index entries ++ last ∷ []) (get_or_from_slice_get entries index one one is) in
    let all = ap (sum_by rings_of) more ∙ sum_by-append rings_of (take index entries) (one ∷ []) in
    omega (arith, all, sum_by-cons rings_of one [])

-- an entry that has a ring is there
pub has_ring_within : (entries : List Entry) (index number : ℕ) → HasRing number (slice_get entries index) → index < length entries
has_ring_within entries index number has =
    elim (option_cases (slice_get entries index)) [
      | inl none ↦ absurd (rw none at has)
      | inr one ↦ slice_get_within entries index one.0 one.1
    ]

-- what is written for a block, by the numbers of rings
pub fix_same : (entries : List Entry) (numbers : List ℕ) (purpose : Use) (da pa : ℕ) → IsNumbersOf entries numbers → IsUseOf entries purpose
    → fix_for (slice_index numbers) purpose da pa ≡ fix_for (rings_before entries) purpose da pa
fix_same entries numbers (usage.Carveout index) da pa numbered meant = refl
fix_same entries numbers (usage.Window index) da pa numbered meant = refl
fix_same entries numbers (usage.Buffers index) da pa numbered meant = refl
fix_same entries numbers (usage.Ring index number) da pa numbered meant =
    let e = numbered.each index (has_ring_within entries index number meant) in rw e refl

-- the rings of a sound device for RPMsg are sound
pub pair_sound : (placed : List Block) (index : ℕ) (device : Vdev) → IsSoundDevice device → device.id ≡ 7 → IsSoundPair (pair_of placed index device)
pair_sound placed index device sound is = let two = sound.rpmsg is in (sound.first (omega arith), sound.second (omega arith))
