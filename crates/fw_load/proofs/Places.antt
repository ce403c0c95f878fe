-- A map says where segments, the entry, the table and traces stand, as the regions and what was placed among them do.
use Rattle.std.proofs.Common.{◌≡◌, ℕ, zero, suc, ◌+◌, ◌≤◌, length, drop, length-take, length-drop, arith, Bool, true, false, ◌&&◌, ◌-◌, map, replicate, List, [], ◌∷◌, Option, Some, None, IfSome, inl, inr, refl, ap, ◌∙◌, eqb, ltb, not}
use Rattle.std.specs.List.{All, filter, range_with_len}
use Rattle.std.specs.Option.{option_and_then, option_map, option_or}
use Rattle.std.proofs.lemmas.Bool.{cases_Bool, cond_both, ltb-false}
use Rattle.std.proofs.lemmas.List.Elements.{All-nil, All-cons, All-head, All-tail, All-map}
use Rattle.elf_image.specs.Headers.{file_header}
use Rattle.elf_image.specs.Layout.{layout_of}
use Rattle.elf_image.specs.Segments.{SegmentAt, is_loaded, loaded_from, numbered_header, segment_at, segments_by, segments_of}
use Rattle.elf_image.specs.declared.sections.Section.{Section}
use Rattle.resource_table.specs.declared.entries.Entry.{Entry}
use Rattle.resource_table.specs.declared.entries.Entry.TheVariants as entry
use Rattle.resource_table.specs.Tables.{GoodTable}
use Rattle.resource_table.specs.declared.faults.TableFault.TheVariants as fault
use Rattle.resource_table.proofs.Sound.{sound_table}
use Rattle.memory_pool.specs.Regions.{memory_len}
use Rattle.memory_pool.specs.declared.blocks.Block.{Block}
use Rattle.memory_pool.specs.declared.regions.Region.{Region}
use Rattle.addr_translate.specs.Mapped.{mapped_blocks}
use Rattle.addr_translate.specs.Maps.{IsMapOf, Mapping, place_at, place_in}
use Rattle.addr_translate.specs.OrderedMaps.{AreApart}
use Rattle.addr_translate.specs.declared.mapped.Place.{Place}
use Rattle.addr_translate.proofs.Found.{found_permuted}
use Rattle.fw_load.specs.Loading.{entry_unmapped, segment_unmapped, segments_unmapped}
use Rattle.fw_load.specs.Memory.{memory_at, memory_of, segment_bytes, with_at, with_segments, with_table}
use Rattle.fw_load.specs.Rings.{trace_of, traces_of}
use Rattle.fw_load.specs.Tables.{bytes_in, patched_in, section_fault, table_of, table_section}

-- two ways to find a place agree on each range that is not empty
abbrev pub AgreeOnPlaces : (ℕ → ℕ → Option ℕ) → (ℕ → ℕ → Option ℕ) → Type 0
AgreeOnPlaces at other = (da len : ℕ) → 1 ≤ len → at da len ≡ other da len

-- each segment has memory
abbrev pub AllHaveMemory : List SegmentAt → Type 0
AllHaveMemory segments = All (λ (segment : SegmentAt). 1 ≤ segment.memory_len) segments

-- a map agrees with the regions and what was placed among them
pub places_agree : (regions : List Region) (placed : List Block) (map : Mapping) → IsMapOf regions placed map → AreApart map.blocks → AgreeOnPlaces (place_at map) (memory_at regions placed)
places_agree regions placed map is apart = λ da len some.
    ap (λ found. option_and_then (λ (place : Place). place.at) (option_map (place_in da) found)) (found_permuted (mapped_blocks regions placed) map.blocks da len is.same apart some)

-- segments are written alike
pub segments_alike : (at other : ℕ → ℕ → Option ℕ) (segments : List SegmentAt) (memory : List ℕ) → AgreeOnPlaces at other → AllHaveMemory segments
    → with_segments at segments memory ≡ with_segments other segments memory
segments_alike at other [] memory agree some = refl
segments_alike at other (segment ∷ more) memory agree some =
    let here = agree segment.da segment.memory_len (All-head (λ (segment : SegmentAt). 1 ≤ segment.memory_len) segment more some) in
    ap (λ found. with_segments at more (with_at found (segment_bytes segment) memory)) here
    ∙ segments_alike at other more _ agree (All-tail (λ (segment : SegmentAt). 1 ≤ segment.memory_len) segment more some)

-- a table is written alike
pub table_alike : (at other : ℕ → ℕ → Option ℕ) (section : Option Section) (table memory : List ℕ) → AgreeOnPlaces at other → IfSome section (λ _. 1 ≤ length table)
    → with_table at section table memory ≡ with_table other section table memory
table_alike at other None table memory agree some = refl
table_alike at other (Some section) table memory agree some = ap (λ found. with_at found table memory) (agree section.address (length table) some)

-- segments are tested alike
pub unmapped_alike : (at other : ℕ → ℕ → Option ℕ) (segments : List SegmentAt) → AgreeOnPlaces at other → AllHaveMemory segments
    → segments_unmapped at segments ≡ segments_unmapped other segments
unmapped_alike at other [] agree some = refl
unmapped_alike at other (segment ∷ more) agree some =
    let here = agree segment.da segment.memory_len (All-head (λ (segment : SegmentAt). 1 ≤ segment.memory_len) segment more some) in
    let later = unmapped_alike at other more agree (All-tail (λ (segment : SegmentAt). 1 ≤ segment.memory_len) segment more some) in
    let first : segment_unmapped at segment ≡ segment_unmapped other segment = rw here refl in
    ap (λ found. option_or found (segments_unmapped at more)) first ∙ ap (option_or (segment_unmapped other segment)) later

-- the entry is tested alike
pub entry_alike : (at other : ℕ → ℕ → Option ℕ) (start : ℕ) → AgreeOnPlaces at other → entry_unmapped at start ≡ entry_unmapped other start
entry_alike at other start agree = let here = agree start 16 (omega arith) in rw here refl

trace_alike : (at other : ℕ → ℕ → Option ℕ) (one : Entry) → AgreeOnPlaces at other → trace_of at one ≡ trace_of other one
trace_alike at other (entry.Carveout da pa len name) agree = refl
trace_alike at other (entry.Devmem da pa len name) agree = refl
trace_alike at other (entry.Trace da zero name) agree = refl
trace_alike at other (entry.Trace da (suc len) name) agree = let here = agree da (suc len) (omega arith) in rw here refl
trace_alike at other (entry.Device device) agree = refl
trace_alike at other (entry.Skipped type) agree = refl

-- traces are found alike
pub traces_alike : (at other : ℕ → ℕ → Option ℕ) (entries : List Entry) → AgreeOnPlaces at other → traces_of at entries ≡ traces_of other entries
traces_alike at other [] agree = refl
traces_alike at other (one ∷ more) agree =
    let here = trace_alike at other one agree in
    let later = traces_alike at other more agree in
    rw (here, later) refl

kept_have : {X : Type 0} (p : X → Bool) (P : X → Type 0) → ((x : X) → p x ≡ true → P x) → (xs : List X) → All P (filter p xs)
kept_have p P here [] = All-nil P
kept_have p P here (x ∷ more) =
    cond_both (p x) (x ∷ filter p more) (filter p more) (All P)
    (λ e. All-cons P x (filter p more) (here x e) (kept_have p P here more))
    (λ e. kept_have p P here more)

-- a number that passes the second of two tests, that it is not 0
some_memory : (kind len : ℕ) → (eqb kind 1 && not (eqb len 0)) ≡ true → 1 ≤ len
some_memory kind zero e = absurd (both_not_zero (eqb kind 1) e)
  where
    both_not_zero : (b : Bool) → (b && false) ≡ true → ⊥
    both_not_zero true e = cc
    both_not_zero false e = cc
some_memory kind (suc len) e = omega arith

-- what holds with no layout and with any holds with the one that an image has
by_layout : {X : Type 0} (layout : Option X) (segments : Option X → List SegmentAt) → AllHaveMemory (segments None) → ((layout : X) → AllHaveMemory (segments (Some layout))) → AllHaveMemory (segments layout)
by_layout None segments none some = none
by_layout (Some layout) segments none some = some layout

-- each segment of an image has memory
pub segments_have : (image : List ℕ) → AllHaveMemory (segments_of image)
segments_have image =
    by_layout (layout_of image) (λ layout. segments_by layout image) (All-nil (λ (segment : SegmentAt). 1 ≤ segment.memory_len))
    (λ layout. All-map (λ (segment : SegmentAt). 1 ≤ segment.memory_len) (segment_at image) (loaded_from layout (file_header layout image) image 0)
    (kept_have is_loaded (λ numbered. 1 ≤ numbered.header.memory_len) (λ numbered e. some_memory numbered.header.kind numbered.header.memory_len e)
    (map (numbered_header layout (file_header layout image) image) (range_with_len 0 ((file_header layout image).program_count - 0)))))

-- a good table fills its section, and has some bytes
pub table_fills : (image : List ℕ) (section : Option Section) → section_fault image section ≡ None
    → IfSome section (λ section. 1 ≤ section.size) × IfSome section (λ section. length (bytes_in image section) ≡ section.size)
table_fills image None good = (tt, tt)
table_fills image (Some section) good =
    elim (cases_Bool (ltb (length image) (section.offset + section.size))) [
      | inl past ↦ absurd (let e : Some fault.TableShort ≡ None = rw past at good in cc)
      | inr lies ↦
          let table : GoodTable (bytes_in image section) = rw lies at good in
          let header = (sound_table (bytes_in image section) table).header in
          let within = ltb-false (length image) (section.offset + section.size) lies in
          let len : length (bytes_in image section) ≡ section.size = omega (arith, length-take section.size (drop section.offset image), length-drop section.offset image) in
          (omega (arith, len, header), len)
    ]

-- the patched table fills its section too
pub patched_fills : (image : List ℕ) (section : Option Section) (table : Option (List ℕ)) (patched : List ℕ) → section_fault image section ≡ None → table ≡ option_map (bytes_in image) section
    → IfSome table (λ table. length patched ≡ length table) → IfSome section (λ section. length patched ≡ section.size)
patched_fills image None table patched good is len = tt
patched_fills image (Some section) table patched good is len =
    let same : length patched ≡ length (bytes_in image section) = rw is at len in
    same ∙ (table_fills image (Some section) good).1

some_bytes : (section : Option Section) (table : List ℕ) → IfSome section (λ section. 1 ≤ section.size) → IfSome section (λ section. length table ≡ section.size) → IfSome section (λ _. 1 ≤ length table)
some_bytes None table some fills = tt
some_bytes (Some section) table some fills = omega arith

-- memory that is filled by a map, step by step
pub memory_filled : (image : List ℕ) (regions : List Region) (placed : List Block) (at : ℕ → ℕ → Option ℕ) (section : Option Section) (table zeros first last : List ℕ)
    → AgreeOnPlaces at (memory_at regions placed) → section ≡ table_section image → table ≡ patched_in (table_of image) placed
    → IfSome section (λ section. 1 ≤ section.size) → IfSome section (λ section. length table ≡ section.size)
    → zeros ≡ replicate (memory_len regions) 0 → first ≡ with_segments at (segments_of image) zeros → last ≡ with_table at section table first → last ≡ memory_of image regions placed
memory_filled image regions placed at section table zeros first last agree is patched some fills empty segments all =
    let other = memory_at regions placed in
    let loaded = with_segments other (segments_of image) (replicate (memory_len regions) 0) in
    let under : first ≡ loaded = segments ∙ segments_alike at other (segments_of image) zeros agree (segments_have image) ∙ ap (with_segments other (segments_of image)) empty in
    all
    ∙ ap (with_table at section table) under
    ∙ table_alike at other section table loaded agree (some_bytes section table some fills)
    ∙ ap (λ section. with_table other section table loaded) is
    ∙ ap (λ table. with_table other (table_section image) table loaded) patched
