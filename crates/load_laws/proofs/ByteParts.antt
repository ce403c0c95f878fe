-- What stands at a device address behind a load.
use Rattle.std.proofs.Common.{◌≡◌, ℕ, ◌+◌, ◌-◌, ◌<◌, ◌≤◌, Bool, true, false, cond, inl, inr, List, [], ◌∷◌, ◌++◌, length, get_or, take, drop, map, replicate, slice_index, Option, Some, None, Ok, refl, ap, sym, subst, ◌∙◌, arith, ltb, leb, length-append, length-drop, length-take}
use Rattle.std.specs.List.{All}
use Rattle.std.specs.Option.{is_some, option_or, unwrap_or}
use Rattle.std.proofs.lemmas.Bool.{and_cases, and_parts, cases_Bool, cases_lt, leb-false, leb-true, ltb-false, ltb-true}
use Rattle.std.proofs.lemmas.List.{get_or-append_right, get_or-drop, get_or-take, get_or_append_left, get_or_past, get_or-replicate, length-replicate, length-take-le}
use Rattle.std.proofs.lemmas.List.Elements.{All-cons, All-head, All-map, All-nil, All-tail}
use Rattle.memory_pool.specs.Placements.{placement}
use Rattle.memory_pool.specs.Regions.{memory_len}
use Rattle.memory_pool.specs.Soundness.{SoundPlacement, SoundRegions}
use Rattle.memory_pool.specs.declared.blocks.Block.{Block}
use Rattle.memory_pool.specs.declared.regions.Region.{Region}
use Rattle.memory_pool.proofs.Sound.{option_cases}
use Rattle.addr_translate.specs.Bytes.{with_bytes}
use Rattle.rp_base.specs.Faults.{fault_if, first_fault}
use Rattle.elf_image.specs.Headers.{file_header}
use Rattle.elf_image.specs.Images.{GoodImage, contents_fault, header_fault, identification_fault}
use Rattle.elf_image.specs.Layout.{layout_of}
use Rattle.elf_image.specs.Segments.{SegmentAt, loaded_from, segment_at, segment_fault, segments_by, segments_fault, segments_of}
use Rattle.elf_image.specs.declared.faults.ElfFault.{ElfFault}
use Rattle.elf_image.specs.declared.sections.Section.{Section}
use Rattle.fw_load.specs.Loading.{Loads}
use Rattle.fw_load.specs.Memory.{memory_at, memory_of, segment_bytes, with_at, with_segments, with_table}
use Rattle.fw_load.proofs.Places.{segments_have}
use Rattle.fw_load.specs.Tables.{entries_in, patched_in, table_of, table_section}
use Rattle.load_laws.specs.LoadedBytes.{covers, last_segment_byte, loaded_byte, segment_byte, table_byte}
use Rattle.load_laws.proofs.PlaceParts.{covered_there, has_place, inside_memory, place_there}
use Rattle.load_laws.proofs.LoadParts.{StandInBlocks, both_none, parts_fit, placed_is_sound}

-- ---- bytes that are written

length_written : (at : ℕ) (written memory : List ℕ) → at + length written ≤ length memory → length (with_bytes at written memory) ≡ length memory
length_written at written memory fits =
    omega (arith, length-append (take at memory ++ written) (drop (at + length written) memory), length-append (take at memory) written, length-drop (at + length written) memory, length-take-le at memory (omega arith))

byte_before : (at : ℕ) (written memory : List ℕ) (place : ℕ) → at + length written ≤ length memory → place < at → get_or (with_bytes at written memory) place 0 ≡ get_or memory place 0
byte_before at written memory place fits before =
    let front = length-take-le at memory (omega arith) in
    get_or_append_left (take at memory ++ written) (drop (at + length written) memory) 0 place (omega (arith, length-append (take at memory) written, front))
    ∙ get_or_append_left (take at memory) written 0 place (omega (arith, front))
    ∙ get_or-take at memory place 0 before

byte_written : (at : ℕ) (written memory : List ℕ) (place : ℕ) → at + length written ≤ length memory → at ≤ place → place < at + length written → get_or (with_bytes at written memory) place 0 ≡ get_or written (place - at) 0
byte_written at written memory place fits low high =
    let front = length-take-le at memory (omega arith) in
    get_or_append_left (take at memory ++ written) (drop (at + length written) memory) 0 place (omega (arith, length-append (take at memory) written, front))
    ∙ get_or-append_right (take at memory) written at place 0 front low

byte_behind : (at : ℕ) (written memory : List ℕ) (place : ℕ) → at + length written ≤ length memory → at + length written ≤ place → get_or (with_bytes at written memory) place 0 ≡ get_or memory place 0
byte_behind at written memory place fits behind =
    let len : length (take at memory ++ written) ≡ at + length written = omega (arith, length-append (take at memory) written, length-take-le at memory (omega arith)) in
    let back : at + length written + (place - (at + length written)) ≡ place = omega arith in
    get_or-append_right (take at memory ++ written) (drop (at + length written) memory) (at + length written) place 0 len behind
    ∙ get_or-drop (at + length written) memory (place - (at + length written)) 0
    ∙ ap (λ k. get_or memory k 0) back

-- ---- a write at a range of device addresses

module _ (regions : List Region) (placed : List Block) (sound : SoundRegions regions) (held : SoundPlacement regions placed) (da place : ℕ) (byte : memory_at regions placed da 1 ≡ Some place) where
  abbrev at : ℕ → ℕ → Option ℕ
  at = memory_at regions placed

  -- the byte that a write leaves
  one_write : (from to : ℕ) (written memory : List ℕ) → at from (length written) ≡ Some to → length memory ≡ memory_len regions
      → get_or (with_bytes to written memory) place 0 ≡ unwrap_or (cond (covers from (length written) da) (Some (slice_index written (da - from))) None) (get_or memory place 0)
  one_write from to written memory is len =
      let fits = inside_memory regions placed sound held from (length written) to is in
      elim (cases_Bool (covers from (length written) da)) [
        | inl covered ↦
            let both = and_parts (leb from da) (ltb da (from + length written)) covered in
            let low = leb-true from da both.0 in
            let high = ltb-true da (from + length written) both.1 in
            let there = place_there regions placed sound held from (length written) to da place is byte low high in
            let far : place - to ≡ da - from = omega (arith, there) in
            rw covered (byte_written to written memory place (omega (arith, fits, len)) (omega (arith, there)) (omega (arith, there, low, high)) ∙ ap (λ k. get_or written k 0) far)
        | inr other ↦
            let kept : get_or (with_bytes to written memory) place 0 ≡ get_or memory place 0 =
            elim (cases_Bool (ltb place to)) [
              | inl before ↦ byte_before to written memory place (omega (arith, fits, len)) (ltb-true place to before)
              | inr behind ↦
                  elim (cases_Bool (ltb place (to + length written))) [
                    | inl among ↦
                        let low = ltb-false place to behind in
                        let high = ltb-true place (to + length written) among in
                        let there = covered_there regions placed from (length written) to da place is byte low high in
                        absurd (elim (and_cases (leb from da) (ltb da (from + length written)) other) [
                          | inl under ↦ omega (arith, leb-false from da under, there.0)
                          | inr over ↦ omega (arith, ltb-false da (from + length written) over, there.1)
                        ])
                    | inr past ↦ byte_behind to written memory place (omega (arith, fits, len)) (ltb-false place (to + length written) past)
                  ]
            ] in
            rw other kept
      ]

  -- ---- the segments

  -- a segment has no more bytes in the image than in memory, and stands in memory
  pub record Stands (segment : SegmentAt) : Type 0 where
    pub fits : length segment.file ≤ segment.memory_len
    pub there : is_some (at segment.da segment.memory_len) ≡ true

  length_segment : (segment : SegmentAt) → length segment.file ≤ segment.memory_len → length (segment_bytes segment) ≡ segment.memory_len
  length_segment segment fits =
      omega (arith, length-append segment.file (replicate (segment.memory_len - length segment.file) 0), length-replicate {A = ℕ} (segment.memory_len - length segment.file) 0)

  one_segment : (segment : SegmentAt) (memory : List ℕ) → Stands segment → length memory ≡ memory_len regions
      → (length (with_at (at segment.da segment.memory_len) (segment_bytes segment) memory) ≡ length memory)
      × (get_or (with_at (at segment.da segment.memory_len) (segment_bytes segment) memory) place 0 ≡ unwrap_or (segment_byte segment da) (get_or memory place 0))
  one_segment segment memory stands len =
      let bytes = segment_bytes segment in
      let size = length_segment segment stands.fits in
      elim (option_cases (at segment.da segment.memory_len)) [
        | inl none ↦ absurd (let e : is_some {T = ℕ} None ≡ true = ap is_some (sym none) ∙ stands.there in cc)
        | inr one ↦
            let is : at segment.da (length bytes) ≡ Some one.0 = ap (at segment.da) size ∙ one.1 in
            let fits = inside_memory regions placed sound held segment.da (length bytes) one.0 is in
            let left = one_write segment.da one.0 bytes memory is len in
            rw one.1 (
              length_written one.0 bytes memory (omega (arith, fits, len)),
              subst (λ n. get_or (with_bytes one.0 bytes memory) place 0 ≡ unwrap_or (cond (covers segment.da n da) (Some (slice_index bytes (da - segment.da))) None) (get_or memory place 0)) size left,
            )
      ]

  or_else : (first second : Option ℕ) (last : ℕ) → unwrap_or first (unwrap_or second last) ≡ unwrap_or (option_or first second) last
  or_else None second last = refl
  or_else (Some byte) second last = refl

  all_segments : (segments : List SegmentAt) (memory : List ℕ) → All Stands segments → length memory ≡ memory_len regions
      → (length (with_segments at segments memory) ≡ memory_len regions) × (get_or (with_segments at segments memory) place 0 ≡ unwrap_or (last_segment_byte segments da) (get_or memory place 0))
  all_segments [] memory stand len = (len, refl)
  all_segments (segment ∷ more) memory stand len =
      let first = one_segment segment memory (All-head Stands segment more stand) len in
      let next = with_at (at segment.da segment.memory_len) (segment_bytes segment) memory in
      let rest = all_segments more next (All-tail Stands segment more stand) (first.0 ∙ len) in
      (rest.0, rest.1 ∙ ap (unwrap_or (last_segment_byte more da)) first.1 ∙ or_else (last_segment_byte more da) (segment_byte segment da) (get_or memory place 0))

  -- ---- the table

  the_table : (section : Option Section) (table memory : List ℕ) → length memory ≡ memory_len regions
      → get_or (with_table at section table memory) place 0 ≡ unwrap_or (table_byte at section table da) (get_or memory place 0)
  the_table None table memory len = refl
  the_table (Some section) table memory len =
      elim (option_cases (at section.address (length table))) [
        | inl none ↦
            elim (cases_Bool (covers section.address (length table) da)) [
              | inl covered ↦ rw (none, covered) refl
              | inr other ↦ rw (none, other) refl
            ]
        | inr one ↦
            let left = one_write section.address one.0 table memory one.1 len in
            elim (cases_Bool (covers section.address (length table) da)) [
              | inl covered ↦ let e = rw covered at left in rw (one.1, covered) e
              | inr other ↦ let e = rw other at left in rw (one.1, other) e
            ]
      ]

  zero_there : (n k : ℕ) → get_or (replicate {A = ℕ} n 0) k 0 ≡ 0
  zero_there n k =
      elim (cases_lt k n) [
        | inl less ↦ get_or-replicate n k 0 0 less
        | inr past ↦ get_or_past (replicate {A = ℕ} n 0) k 0 (omega (arith, length-replicate {A = ℕ} n 0))
      ]

  -- the byte behind all writes
  pub filled_byte : (section : Option Section) (table : List ℕ) (segments : List SegmentAt) → All Stands segments
      → get_or (with_table at section table (with_segments at segments (replicate {A = ℕ} (memory_len regions) 0))) place 0 ≡ unwrap_or (option_or (table_byte at section table da) (last_segment_byte segments da)) 0
  filled_byte section table segments stand =
      let zeros = replicate {A = ℕ} (memory_len regions) 0 in
      let under = all_segments segments zeros stand (length-replicate {A = ℕ} (memory_len regions) 0) in
      the_table section table (with_segments at segments zeros) under.0
      ∙ ap (unwrap_or (table_byte at section table da)) (under.1 ∙ ap (unwrap_or (last_segment_byte segments da)) (zero_there (memory_len regions) place))
      ∙ or_else (table_byte at section table da) (last_segment_byte segments da) 0

-- ---- the segments of a good image

passed : (test : Bool) (why : ElfFault) → fault_if test why ≡ None → test ≡ false
passed true why e = absurd (cc)
passed false why e = refl

abbrev Fits : SegmentAt → Type 0
Fits segment = length segment.file ≤ segment.memory_len

none_each : {X : Type 0} (f : X → Option ElfFault) (xs : List X) → first_fault (map f xs) ≡ None → All (λ x. f x ≡ None) xs
none_each f [] e = All-nil (λ x. f x ≡ None)
none_each f (x ∷ more) e =
    let parts = both_none (f x) (first_fault (map f more)) e in
    All-cons (λ x. f x ≡ None) x more parts.0 (none_each f more parts.1)

-- the bytes of a segment that passes its tests fit into its memory
one_fits : (image : List ℕ) (offset file_len memory_len : ℕ) (wide : Option ElfFault) (why : ElfFault) (behind : Option ElfFault)
    → option_or wide (option_or (fault_if (ltb memory_len file_len) why) behind) ≡ None → length (take file_len (drop offset image)) ≤ memory_len
one_fits image offset file_len memory_len wide why behind e =
    let less = ltb-false memory_len file_len (passed _ _ (both_none (fault_if (ltb memory_len file_len) why) behind (both_none wide _ e).1).0) in
    omega (arith, length-take file_len (drop offset image), less)

-- what holds by the layout that an image has
by_layout : {X : Type 0} (layout : Option X) (found : Option X → Option ElfFault) (segments : Option X → List SegmentAt) → found layout ≡ None → All Fits (segments None)
    → ((one : X) → found (Some one) ≡ None → All Fits (segments (Some one))) → All Fits (segments layout)
by_layout None found segments e none some = none
by_layout (Some layout) found segments e none some = some layout e

segments_fit : (image : List ℕ) → GoodImage image → All Fits (segments_of image)
segments_fit image good =
    by_layout (layout_of image) (λ layout. contents_fault layout image) (λ layout. segments_by layout image)
    (both_none (contents_fault (layout_of image) image) None (both_none (identification_fault image) _ good).1).0 (All-nil Fits)
    (λ layout e.
    let loaded = loaded_from layout (file_header layout image) image 0 in
    let parts = both_none (header_fault layout (file_header layout image) (length image)) _ e in
    let none = none_each (segment_fault (length image)) loaded (both_none (segments_fault (length image) loaded) _ parts.1).0 in
    All-map Fits (segment_at image) loaded (λ k d less. one_fits image (get_or loaded k d).header.offset (get_or loaded k d).header.file_len (get_or loaded k d).header.memory_len _ _ _ (none k d less)))

-- the byte at a device address behind a load
pub byte_there : (image : List ℕ) (regions : List Region) (placed : List Block) (da place : ℕ) → SoundRegions regions → Loads image regions → placement regions (entries_in (table_of image)) ≡ Ok placed
    → memory_at regions placed da 1 ≡ Some place → slice_index (memory_of image regions placed) place ≡ loaded_byte image regions placed da
byte_there image regions placed da place sound loads is byte =
    let fits = parts_fit image regions loads in
    let held = placed_is_sound image regions placed sound fits.table is in
    let e : Ok fits.blocks ≡ Ok placed = sym fits.placed ∙ is in
    let same : fits.blocks ≡ placed = cc in
    let stand = subst (λ blocks. StandInBlocks regions blocks (segments_of image)) same fits.segments in
    filled_byte regions placed sound held da place byte (table_section image) (patched_in (table_of image) placed) (segments_of image)
    (λ k d less. record {
      fits = segments_fit image fits.good k d less;
      there = has_place regions placed sound held _ _ (segments_have image k d less) (stand k d less);
    })
