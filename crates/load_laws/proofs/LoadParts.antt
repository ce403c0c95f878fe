-- An image loads exactly where its parts fit.
use Rattle.std.proofs.Common.{◌≡◌, ℕ, ◌+◌, ◌≤◌, ◌<◌, true, inl, inr, List, [], ◌∷◌, length, Option, Some, None, IfSome, Result, Ok, Err, refl, ap, sym, subst, ◌∙◌, arith, ltb}
use Rattle.std.specs.List.{All}
use Rattle.std.specs.Option.{is_none, is_some, option_map, option_or}
use Rattle.std.proofs.lemmas.Bool.{cases_Bool, false≢true, le-ltb, ltb-false}
use Rattle.std.proofs.lemmas.List.Elements.{All-cons, All-head, All-nil, All-tail}
use Rattle.std.proofs.lemmas.List.FromFn.{get_or-map-range_with_len}
use Rattle.elf_image.specs.Images.{entry_of, image_fault}
use Rattle.elf_image.specs.Segments.{SegmentAt, segments_of}
use Rattle.elf_image.specs.declared.sections.Section.{Section}
use Rattle.resource_table.specs.Entries.{entries_of, entry_at, entry_count, start_of}
use Rattle.resource_table.specs.Tables.{GoodTable, IsSoundEntry}
use Rattle.resource_table.specs.declared.entries.Entry.{Entry}
use Rattle.resource_table.specs.declared.faults.TableFault.TheVariants as table
use Rattle.resource_table.proofs.Devices.{sound_entry}
use Rattle.resource_table.proofs.Sound.{length-entries_of}
use Rattle.memory_pool.specs.Placements.{placement}
use Rattle.memory_pool.specs.Soundness.{SoundPlacement, SoundRegions}
use Rattle.memory_pool.specs.Wanted.{in_order, wanted_from}
use Rattle.memory_pool.specs.declared.blocks.Block.{Block}
use Rattle.memory_pool.specs.declared.faults.PlaceFault.{PlaceFault}
use Rattle.memory_pool.specs.declared.regions.Region.{Region}
use Rattle.memory_pool.proofs.Sound.{nothing_sound, placed_sound}
use Rattle.memory_pool.proofs.WantedSound.{order_sound, wanted_sound}
use Rattle.rp_base.specs.Faults.{fault_if}
use Rattle.fw_load.specs.Loading.{Loads, entry_unmapped, mapped_fault, placed_fault, segment_unmapped, segments_unmapped}
use Rattle.fw_load.specs.Memory.{memory_at}
use Rattle.fw_load.specs.Tables.{bytes_in, entries_in, section_fault, table_of, table_section}
use Rattle.fw_load.specs.declared.faults.LoadFault.{LoadFault}
use Rattle.fw_load.specs.declared.faults.LoadFault.TheVariants as fault
use Rattle.fw_load.proofs.Places.{segments_have}
use Rattle.load_laws.specs.Parts.{FitsRegions, HasGoodTable, IsInOneBlock}
use Rattle.load_laws.proofs.PlaceParts.{has_place, in_one_block}

pub both_none : {F : Type 0} (a b : Option F) → option_or a b ≡ None → (a ≡ None) × (b ≡ None)
both_none None b e = (refl, e)
both_none (Some x) b e = absurd (cc)

none_behind : (found : Option LoadFault) → option_or found None ≡ found
none_behind None = refl
none_behind (Some found) = refl

none_under : {A B : Type 0} (f : A → B) (found : Option A) → option_map f found ≡ None → found ≡ None
none_under f None e = refl
none_under f (Some x) e = absurd (cc)

-- ---- the table

section_parts : (image : List ℕ) (section : Option Section) → section_fault image section ≡ None → IfSome section (HasGoodTable image)
section_parts image None good = tt
section_parts image (Some section) good =
    elim (cases_Bool (ltb (length image) (section.offset + section.size))) [
      | inl past ↦ absurd (let e : Some table.TableShort ≡ None = rw past at good in cc)
      | inr lies ↦
          let known : GoodTable (bytes_in image section) = rw lies at good in
          record { inside = ltb-false (length image) (section.offset + section.size) lies; good = known }
    ]

section_whole : (image : List ℕ) (section : Option Section) → IfSome section (HasGoodTable image) → section_fault image section ≡ None
section_whole image None has = refl
section_whole image (Some section) has = let lies = le-ltb (length image) (section.offset + section.size) has.inside in rw lies has.good

-- the entries of a good table are sound
pub entries_sound : (bytes : List ℕ) → GoodTable bytes → All IsSoundEntry (entries_of bytes)
entries_sound bytes good k d less =
    let among : k < entry_count bytes = subst (λ n. k < n) (length-entries_of bytes) less in
    let f : ℕ → Entry = λ i. entry_at bytes (start_of bytes i) in
    subst IsSoundEntry (sym (get_or-map-range_with_len f 0 (entry_count bytes) k k d among (omega arith))) (sound_entry bytes k good less)

table_sound : (image : List ℕ) (section : Option Section) → IfSome section (HasGoodTable image) → All IsSoundEntry (entries_in (option_map (bytes_in image) section))
table_sound image None has = All-nil IsSoundEntry
table_sound image (Some section) has = entries_sound (bytes_in image section) has.good

-- what is placed for the table of a good image is sound
pub placed_is_sound : (image : List ℕ) (regions : List Region) (blocks : List Block) → SoundRegions regions → IfSome (table_section image) (HasGoodTable image)
    → placement regions (entries_in (table_of image)) ≡ Ok blocks → SoundPlacement regions blocks
placed_is_sound image regions blocks sound has is =
    let entries = entries_in (table_of image) in
    placed_sound regions [] (in_order (wanted_from 0 entries)) blocks sound (nothing_sound regions) (order_sound (wanted_from 0 entries) (wanted_sound 0 entries (table_sound image (table_section image) has))) is

-- ---- what is mapped

some_there : (found : Option ℕ) (why : LoadFault) → fault_if (is_none found) why ≡ None → (at : ℕ) × (found ≡ Some at)
some_there None why e = absurd (cc)
some_there (Some at) why e = (at, refl)

none_there : (found : Option ℕ) (why : LoadFault) → is_some found ≡ true → fault_if (is_none found) why ≡ None
none_there None why e = absurd (false≢true e)
none_there (Some at) why e = refl

-- each segment stands in one block
abbrev pub StandInBlocks : List Region → List Block → List SegmentAt → Type 0
StandInBlocks regions placed segments = All (λ (segment : SegmentAt). IsInOneBlock regions placed segment.da segment.memory_len) segments

segments_parts : (regions : List Region) (placed : List Block) (segments : List SegmentAt) → segments_unmapped (memory_at regions placed) segments ≡ None → StandInBlocks regions placed segments
segments_parts regions placed [] e = All-nil (λ (segment : SegmentAt). IsInOneBlock regions placed segment.da segment.memory_len)
segments_parts regions placed (segment ∷ more) e =
    let at = memory_at regions placed in
    let parts = both_none (segment_unmapped at segment) (segments_unmapped at more) e in
    let found = some_there (at segment.da segment.memory_len) (fault.SegmentUnmapped segment.index) parts.0 in
    All-cons (λ (segment : SegmentAt). IsInOneBlock regions placed segment.da segment.memory_len) segment more
    (in_one_block regions placed segment.da segment.memory_len found.0 found.1) (segments_parts regions placed more parts.1)

segments_whole : (regions : List Region) (placed : List Block) (segments : List SegmentAt) → SoundRegions regions → SoundPlacement regions placed
    → All (λ (segment : SegmentAt). 1 ≤ segment.memory_len) segments → StandInBlocks regions placed segments → segments_unmapped (memory_at regions placed) segments ≡ None
segments_whole regions placed [] sound held some stand = refl
segments_whole regions placed (segment ∷ more) sound held some stand =
    let at = memory_at regions placed in
    let P = λ (segment : SegmentAt). IsInOneBlock regions placed segment.da segment.memory_len in
    let S = λ (segment : SegmentAt). 1 ≤ segment.memory_len in
    ap (λ found. option_or found (segments_unmapped at more))
    (none_there (at segment.da segment.memory_len) (fault.SegmentUnmapped segment.index) (has_place regions placed sound held segment.da segment.memory_len (All-head S segment more some) (All-head P segment more stand)))
    ∙ segments_whole regions placed more sound held (All-tail S segment more some) (All-tail P segment more stand)

placed_parts : (image : List ℕ) (regions : List Region) (found : Result (List Block) PlaceFault) → placed_fault image regions found ≡ None
    → (blocks : List Block) × (found ≡ Ok blocks) × (mapped_fault image regions blocks ≡ None)
placed_parts image regions (Err refused) e = absurd (cc)
placed_parts image regions (Ok blocks) e = (blocks, refl, e)

-- the parts of an image that loads fit
pub parts_fit : (image : List ℕ) (regions : List Region) → Loads image regions → FitsRegions image regions
parts_fit image regions loads =
    let first = both_none (option_map fault.Elf (image_fault image)) _ loads in
    let second = both_none (option_map fault.Table (section_fault image (table_section image))) _ first.1 in
    let third = both_none (placed_fault image regions (placement regions (entries_in (table_of image)))) _ second.1 in
    let placed = placed_parts image regions (placement regions (entries_in (table_of image))) third.0 in
    let at = memory_at regions placed.0 in
    let mapped = both_none (segments_unmapped at (segments_of image)) _ placed.2 in
    let entered = both_none (entry_unmapped at (entry_of image)) None mapped.1 in
    let entry = some_there (at (entry_of image) 16) fault.EntryUnmapped entered.0 in
    record {
      good = none_under fault.Elf (image_fault image) first.0;
      table = section_parts image (table_section image) (none_under fault.Table (section_fault image (table_section image)) second.0);
      blocks = placed.0;
      placed = placed.1;
      segments = segments_parts regions placed.0 (segments_of image) mapped.0;
      entry = in_one_block regions placed.0 (entry_of image) 16 entry.0 entry.1;
    }

-- an image whose parts fit loads
pub whole_loads : (image : List ℕ) (regions : List Region) → SoundRegions regions → FitsRegions image regions → Loads image regions
whole_loads image regions sound fits =
    let at = memory_at regions fits.blocks in
    let held = placed_is_sound image regions fits.blocks sound fits.table fits.placed in
    let behind = option_or (placed_fault image regions (placement regions (entries_in (table_of image)))) None in
    ap (λ found. option_or (option_map fault.Elf found) (option_or (option_map fault.Table (section_fault image (table_section image))) behind)) fits.good
    ∙ ap (λ found. option_or (option_map fault.Table found) behind) (section_whole image (table_section image) fits.table)
    ∙ ap (λ found. option_or (placed_fault image regions found) None) fits.placed
    ∙ none_behind (mapped_fault image regions fits.blocks)
    ∙ ap (λ found. option_or found (option_or (entry_unmapped at (entry_of image)) None)) (segments_whole regions fits.blocks (segments_of image) sound held (segments_have image) fits.segments)
    ∙ ap (λ found. option_or found None) (none_there (at (entry_of image) 16) fault.EntryUnmapped (has_place regions fits.blocks sound held (entry_of image) 16 (omega arith) fits.entry))

-- the table of an image that loads is a good one
pub table_good : (image : List ℕ) (regions : List Region) (bytes : List ℕ) → Loads image regions → table_of image ≡ Some bytes → GoodTable bytes
table_good image regions bytes loads is = good_in (table_section image) (parts_fit image regions loads).table is
  where
    good_in : (section : Option Section) → IfSome section (HasGoodTable image) → option_map (bytes_in image) section ≡ Some bytes → GoodTable bytes
    good_in None has e = absurd (cc)
    good_in (Some section) has e = let same : bytes_in image section ≡ bytes = cc in subst GoodTable same has.good
