-- The code of a worker of a demo stands in the memory into which its image was loaded.
use Rattle.std.proofs.Common.{◌≡◌, ◌<◌, ◌≤◌, ℕ, zero, suc, ◌+◌, ◌-◌, cond, List, [], ◌∷◌, ◌++◌, length, take, drop, map, replicate, Option, Some, None, IfSome, option_map, refl, sym, ap, subst, ◌∙◌, arith, eqb}
use Rattle.std.specs.List.{find, slice_range}
use Rattle.std.specs.Option.{option_and_then}
use Rattle.std.proofs.lemmas.Bool.{cond_both}
use Rattle.std.proofs.lemmas.List.Elements.{All-nil}
use Rattle.std.proofs.lemmas.List.{length-append, length-take, take-append-le, take-take, take_all}
use Rattle.memory_pool.specs.declared.blocks.Block.{Block}
use Rattle.memory_pool.specs.declared.blocks.Use.{Use}
use Rattle.memory_pool.specs.declared.blocks.Use.TheVariants as usage
use Rattle.memory_pool.specs.declared.regions.Region.{Region}
use Rattle.rp_base.specs.declared.kinds.RegionKind.TheVariants.{Pool, Tcm}
use Rattle.memory_pool.specs.Regions.{standard_regions}
use Rattle.memory_pool.specs.Ranges.{lies_in}
use Rattle.addr_translate.specs.Bytes.{with_bytes}
use Rattle.addr_translate.specs.Mapped.{mapped_block, memory_place, place_of_use}
use Rattle.addr_translate.specs.Maps.{holds, place_in}
use Rattle.fw_load.specs.Memory.{memory_at, with_at}
use Rattle.std.proofs.Common.{Result, Ok, codes}
use Rattle.rp_base.specs.Limits.{ring_capacity}
use Rattle.resource_table.specs.Entries.{device_at, entries_of, vring_at}
use Rattle.resource_table.specs.declared.entries.Entry.{Entry}
use Rattle.resource_table.specs.declared.entries.Entry.TheVariants as entry
use Rattle.resource_table.specs.declared.entries.Ring.{Ring}
use Rattle.resource_table.specs.declared.entries.Vdev.{Vdev}
use Rattle.resource_table.specs.PatchedEntries.{fixed_entry, patched_entries, set_up}
use Rattle.memory_pool.specs.Placements.{placement}
use Rattle.memory_pool.specs.Soundness.{IsRange, SoundRegions}
use Rattle.memory_pool.proofs.RegionsSound.{added_sound}
use Rattle.fw_load.specs.Loading.{Loads}
use Rattle.fw_load.specs.Rings.{pair_from, pair_of}
use Rattle.fw_load.proofs.Buffers.{HasSizes, fixed_keeps, set_keeps}
use Rattle.load_laws.proofs.LoadParts.{parts_fit, placed_is_sound, table_good}
use Rattle.load_laws.proofs.PatchParts.{placed_reads}
use Rattle.fw_load.specs.Tables.{bytes_in, entries_in}
use Rattle.image_maker.specs.Images.{data_end}
use Rattle.image_maker.specs.ReadBack.{table_section}
use Rattle.image_maker.specs.Tables.{table_bytes, table_len}
use Rattle.demo_laws.proofs.BootBounds.{AreRoomy}
use Rattle.std.proofs.lemmas.List.{drop-take, length-replicate}
use Rattle.rp_base.specs.declared.limits.TheConstants.{IMAGE_MOST}
use Rattle.memory_pool.specs.Regions.{memory_len}
use Rattle.elf_image.specs.Sections.{section_of}
use Rattle.elf_image.specs.Segments.{SegmentAt, segments_of as segments_read}
use Rattle.elf_image.specs.declared.sections.Section.{Section}
use Rattle.fw_load.specs.Memory.{memory_of, with_segments, with_table}
use Rattle.fw_load.specs.Tables.{fixes_of, patched_in, table_of}
use Rattle.remote_code.specs.declared.faults.WorkerFault.{WorkerFault}
use Rattle.remote_code.specs.declared.records.Record.{Record}
use Rattle.remote_core.specs.Records.{record_at}
use Rattle.image_maker.specs.Demo.{worker_lines}
use Rattle.image_maker.specs.Images.{image_of}
use Rattle.image_maker.specs.ReadBack.{IsLoadable, segments_from}
use Rattle.crash_recover.specs.Cores.{LoadState}
use Rattle.crash_recover.specs.Drives.{placed_map}
use Rattle.demo_laws.proofs.DemoPrograms.{IsRead, code_at}
use Rattle.script_lang.specs.declared.recipes.RecipeLine.{RecipeLine}
use Rattle.script_lang.specs.declared.recipes.RecipeLine.TheVariants as recipe
use Rattle.remote_code.specs.declared.records.Record.TheVariants as kind
use Rattle.remote_code.specs.Records.{record_of}
use Rattle.remote_core.specs.Works.{last_source}
use Rattle.image_maker.specs.Demo.{sample_channel}
use Rattle.image_maker.specs.Segments.{code_of}
use Rattle.image_maker.proofs.ReadRecords.{record_read}

-- ---- bytes at the front of a memory

-- a write behind the first 96 bytes leaves them
kept_front : (at : ℕ) (written memory code : List ℕ) → 96 ≤ at → length code ≡ 96 → take 96 memory ≡ code → take 96 (with_bytes at written memory) ≡ code
kept_front at written memory code behind len is =
    let all = ap length is in
    let front = length-take 96 memory in
    let short = length-take at memory in
    let some : 96 ≤ length (take at memory) = omega (arith, behind, len, all, front, short) in
    let more = length-append (take at memory) written in
    take-append-le 96 (take at memory ++ written) (drop (at + length written) memory) (omega (arith, some, more))
    ∙ take-append-le 96 (take at memory) written some ∙ take-take 96 at memory behind ∙ is

kept_at : (found : Option ℕ) (written memory code : List ℕ) → IfSome found (λ (at : ℕ). 96 ≤ at) → length code ≡ 96 → take 96 memory ≡ code → take 96 (with_at found written memory) ≡ code
kept_at None written memory code behind len is = is
kept_at (Some at) written memory code behind len is = kept_front at written memory code behind len is

-- a write of 96 bytes at the front
first_front : (memory code : List ℕ) → length code ≡ 96 → take 96 (with_bytes 0 code memory) ≡ code
first_front memory code len = take-append-le 96 code (drop (0 + length code) memory) (omega (arith, len)) ∙ take_all 96 code (omega (arith, len))

-- ---- where a range from 768 on stands

abbrev tcm : Region
tcm = record { kind = Tcm; da = 0; pa = 0x20000000; len = 65536 }

abbrev pool : Region
pool = record { kind = Pool; da = 0x10000000; pa = 0x30000000; len = 1048576 }

far_region : (da len : ℕ) → IfSome (option_map (λ at. at + (768 - da)) (memory_place 0 standard_regions da len)) (λ (at : ℕ). 96 ≤ at)
far_region da len =
    cond_both (lies_in da len tcm) (Some (0 + (da - 0))) (cond (lies_in da len pool) (Some (65536 + (da - 0x10000000))) None)
    (λ (found : Option ℕ). IfSome (option_map (λ at. at + (768 - da)) found) (λ (at : ℕ). 96 ≤ at))
    (λ _. omega arith)
    (λ _. cond_both (lies_in da len pool) (Some (65536 + (da - 0x10000000))) None (λ (found : Option ℕ). IfSome (option_map (λ at. at + (768 - da)) found) (λ (at : ℕ). 96 ≤ at)) (λ _. omega arith) (λ _. tt))

far_place : (what : Use) (da len : ℕ) → IfSome (option_map (λ at. at + (768 - da)) (place_of_use standard_regions what da len)) (λ (at : ℕ). 96 ≤ at)
far_place (usage.Window index) da len = tt
far_place (usage.Carveout index) da len = far_region da len
far_place (usage.Ring index number) da len = far_region da len
far_place (usage.Buffers index) da len = far_region da len

far_among : (placed : List Block) (len : ℕ)
    → IfSome (option_and_then (λ place. place.at) (option_map (place_in 768) (find (holds 768 len) (map (mapped_block standard_regions) placed)))) (λ (at : ℕ). 96 ≤ at)
far_among [] len = tt
far_among (block ∷ more) len =
    cond_both (holds 768 len (mapped_block standard_regions block)) (Some (mapped_block standard_regions block)) (find (holds 768 len) (map (mapped_block standard_regions) more))
    (λ found. IfSome (option_and_then (λ place. place.at) (option_map (place_in 768) found)) (λ (at : ℕ). 96 ≤ at)) (λ _. far_place block.what block.da block.len) (λ _. far_among more len)

pub far_table : (placed : List Block) (len : ℕ) → IfSome (memory_at standard_regions placed 768 len) (λ (at : ℕ). 96 ≤ at)
far_table placed len =
    cond_both (holds 768 len (record { da = 0; pa = 0x20000000; len = 65536; at = Some 0 })) (Some (record { da = 0; pa = 0x20000000; len = 65536; at = Some 0 }))
    (find (holds 768 len) (map (mapped_block standard_regions) placed))
    (λ found. IfSome (option_and_then (λ place. place.at) (option_map (place_in 768) found)) (λ (at : ℕ). 96 ≤ at)) (λ _. omega arith) (λ _. far_among placed len)

near_code : (placed : List Block) → (memory_at standard_regions placed 0 96 ≡ Some 0) × (memory_at standard_regions placed 512 32 ≡ Some 512) × (memory_at standard_regions placed 1024 496 ≡ Some 1024)
near_code placed = (refl, refl, refl)

-- ---- the code, and its records

-- the lines behind the beginning of the code
abbrev pub code_lines : ℕ → List RecipeLine
code_lines reply =
    recipe.Bind 1024 ∷ recipe.Announce 1024 0 512 ∷ recipe.Take ∷ recipe.Send 1024 4294967295 1024 reply ∷ recipe.Loop 100 2 ∷ recipe.Halt
    ∷ recipe.Load 512 sample_channel 32 ∷ recipe.Load 1024 (replicate reply 90) 496
    ∷ recipe.Table 768 ∷ recipe.Vdev 7 1 ∷ recipe.Vring 4294967295 4096 16 ∷ recipe.Vring 4294967295 4096 16 ∷ []

abbrev pub code_bytes : ℕ → List ℕ
code_bytes reply = code_of (code_lines reply)

code_length : (reply : ℕ) → length (code_bytes reply) ≡ 96
code_length reply = refl

slice_range_is : (xs : List ℕ) (from : ℕ) → slice_range xs from (from + 16) ≡ drop from (take (from + 16) xs)
slice_range_is xs from =
    let wide : from + 16 - from ≡ 16 = omega arith in
    ap (λ (n : ℕ). take n (drop from xs)) wide ∙ sym (drop-take from 16 xs)

-- a range within the first 96 bytes
front_range : (memory code : List ℕ) (from : ℕ) → from + 16 ≤ 96 → take 96 memory ≡ code → slice_range memory from (from + 16) ≡ slice_range code from (from + 16)
front_range memory code from within is =
    let short : take (from + 16) (take 96 memory) ≡ take (from + 16) memory = take-take (from + 16) 96 memory within in
    let one : slice_range memory from (from + 16) ≡ drop from (take (from + 16) memory) = slice_range_is memory from in
    let two : slice_range code from (from + 16) ≡ drop from (take (from + 16) code) = slice_range_is code from in
    one ∙ ap (drop from) (sym short ∙ ap (take (from + 16)) is) ∙ sym two

module _ (reply : ℕ) (small : reply < 497) where
  bind_read : record_of (slice_range (code_bytes reply) 0 16) ≡ Ok (kind.Bind 1024)
  bind_read = record_read (recipe.Bind 1024) (kind.Bind 1024) (omega arith) refl

  announce_read : record_of (slice_range (code_bytes reply) 16 32) ≡ Ok (kind.Announce 1024 0 512)
  announce_read = record_read (recipe.Announce 1024 0 512) (kind.Announce 1024 0 512) (omega arith, omega arith, omega arith) refl

  take_read : record_of (slice_range (code_bytes reply) 32 48) ≡ Ok kind.Take
  take_read = record_read recipe.Take kind.Take tt refl

  send_read : record_of (slice_range (code_bytes reply) 48 64) ≡ Ok (kind.Send reply 1024 last_source 1024)
  send_read = record_read (recipe.Send 1024 4294967295 1024 reply) (kind.Send reply 1024 4294967295 1024) (omega arith, omega arith, omega arith, omega (arith, small)) refl

  loop_read : record_of (slice_range (code_bytes reply) 64 80) ≡ Ok (kind.Loop 100 2)
  loop_read = record_read (recipe.Loop 100 2) (kind.Loop 100 2) (omega arith, omega arith) refl

  halt_read : record_of (slice_range (code_bytes reply) 80 96) ≡ Ok kind.Halt
  halt_read = record_read recipe.Halt kind.Halt tt refl

  -- ---- the memory

  module _ (placed : List Block) where
    segments_front : (zeros : List ℕ) → take 96 (with_segments (memory_at standard_regions placed) (segments_from 0 (worker_lines reply)) zeros) ≡ code_bytes reply
    segments_front zeros =
        let code = code_bytes reply in
        let names : List ℕ = sample_channel ++ replicate {A = ℕ} (32 - length {A = ℕ} sample_channel) 0 in
        let replies : List ℕ = replicate {A = ℕ} reply 90 ++ replicate {A = ℕ} (496 - length {A = ℕ} (replicate {A = ℕ} reply 90)) 0 in
        kept_front 1024 replies (with_bytes 512 names (with_bytes 0 code zeros)) code (omega arith) refl
        (kept_front 512 names (with_bytes 0 code zeros) code (omega arith) refl (first_front zeros code refl))

    -- the first bytes of the memory of such an image are its code
    pub memory_front : (image : List ℕ) (section : Section) → segments_read image ≡ segments_from 0 (worker_lines reply) → section_of image (codes ".resource_table") ≡ Some section → section.address ≡ 768
        → take 96 (memory_of image standard_regions placed) ≡ code_bytes reply
    memory_front image section segments found at =
        let table = patched_in (table_of image) placed in
        let zeros = replicate {A = ℕ} (memory_len standard_regions) 0 in
        subst (λ (all : List SegmentAt). take 96 (with_table (memory_at standard_regions placed) (section_of image (codes ".resource_table")) table (with_segments (memory_at standard_regions placed) all zeros)) ≡ code_bytes reply)
        (sym segments)
        (subst (λ (s : Option Section). take 96 (with_table (memory_at standard_regions placed) s table (with_segments (memory_at standard_regions placed) (segments_from 0 (worker_lines reply)) zeros)) ≡ code_bytes reply)
        (sym found)
        (kept_at (memory_at standard_regions placed section.address (length table)) table _ (code_bytes reply)
        (subst (λ (da : ℕ). IfSome (memory_at standard_regions placed da (length table)) (λ (at : ℕ). 96 ≤ at)) (sym at) (far_table placed (length table))) refl (segments_front zeros)))

  is_read : (expected : Record) (next : Result Record WorkerFault) → next ≡ Ok expected → IsRead expected next
  is_read expected next is = subst (IsRead expected) (sym is) refl

  -- so each record stands where the worker reads it
  pub records_stand : (memory : List ℕ) (load : LoadState) → take 96 memory ≡ code_bytes reply → (place : ℕ) → place ≤ 5
      → IsRead (code_at reply place) (record_at memory (placed_map standard_regions load) 0 place)
  records_stand memory load front zero low = is_read (kind.Bind 1024) _ (ap record_of (front_range memory (code_bytes reply) 0 (omega arith) front) ∙ bind_read)
  records_stand memory load front (suc zero) low = is_read (kind.Announce 1024 0 512) _ (ap record_of (front_range memory (code_bytes reply) 16 (omega arith) front) ∙ announce_read)
  records_stand memory load front (suc (suc zero)) low = is_read kind.Take _ (ap record_of (front_range memory (code_bytes reply) 32 (omega arith) front) ∙ take_read)
  records_stand memory load front (suc (suc (suc zero))) low = is_read (kind.Send reply 1024 last_source 1024) _ (ap record_of (front_range memory (code_bytes reply) 48 (omega arith) front) ∙ send_read)
  records_stand memory load front (suc (suc (suc (suc zero)))) low = is_read (kind.Loop 100 2) _ (ap record_of (front_range memory (code_bytes reply) 64 (omega arith) front) ∙ loop_read)
  records_stand memory load front (suc (suc (suc (suc (suc zero))))) low = is_read kind.Halt _ (ap record_of (front_range memory (code_bytes reply) 80 (omega arith) front) ∙ halt_read)
  records_stand memory load front (suc (suc (suc (suc (suc (suc more)))))) low = absurd (omega (arith, low))

  -- ---- the image

  pub loadable : length (image_of (worker_lines reply)) ≤ IMAGE_MOST → IsLoadable (worker_lines reply)
  loadable short =
      let same : length {A = ℕ} (replicate {A = ℕ} reply 90) ≡ reply = length-replicate {A = ℕ} reply 90 in
      record {
        recipe = (omega arith, (omega arith, (omega arith, ((omega arith, omega arith, omega arith), (tt, ((omega arith, omega arith, omega arith, omega (arith, small)), ((omega arith, omega arith), (tt, ((omega arith, omega arith, omega arith), ((omega arith, omega (arith, same, small), omega arith), (omega arith, ((omega arith, omega arith), ((omega arith, omega arith, omega arith), ((omega arith, omega arith, omega arith), tt))))))))))))));
        room = (tt, (tt, (tt, (tt, (tt, (tt, (tt, (tt, (λ _. omega arith, (λ _. omega (arith, same, small), (tt, (tt, (tt, (tt, tt))))))))))))));
        some = omega arith;
        few = omega arith;
        short = omega (arith, short);
      }

-- ---- the rings

abbrev pub ring : Ring
ring = record { da = 4294967295; align = 4096; num = 16; notify = 0; pa = 0 }

abbrev pub device : Vdev
device = record { id = 7; features = 1; guest = 0; status = 0; count = 2; first = ring; second = ring }

-- the table of a demo has one device, with rings of 16 entries
pub one_device : (reply : ℕ) → entries_of (table_bytes (worker_lines reply)) ≡ entry.Device device ∷ []
unfolding device_at vring_at
one_device reply = refl

-- and so has the table as it is patched
roomy : (placed : List Block) (one : Entry) → HasSizes device one → IfSome (pair_from placed 0 (one ∷ [])) AreRoomy
roomy placed (entry.Carveout da pa len name) has = absurd has
roomy placed (entry.Devmem da pa len name) has = absurd has
roomy placed (entry.Trace da len name) has = absurd has
roomy placed (entry.Device e) has =
    let room : (n : ℕ) → n ≡ 16 → 3 ≤ ring_capacity n = (λ n is. subst (λ (n : ℕ). 3 ≤ ring_capacity n) (sym is) (omega arith)) in
    cond_both (eqb e.id 7) (Some (pair_of placed 0 e)) None (λ found. IfSome found AreRoomy) (λ _. (room e.first.num has.1, room e.second.num has.2)) (λ _. tt)
roomy placed (entry.Skipped type) has = absurd has

no_regions : SoundRegions []
no_regions = record { few = omega arith; small = omega arith; ranges = All-nil (λ (region : Region). IsRange region.da region.pa region.len); apart = λ i j d less among. absurd (omega (arith, less, among)) }

-- the standard regions are sound
regions_sound : SoundRegions standard_regions
regions_sound = added_sound (tcm ∷ []) pool (added_sound [] tcm no_regions refl) refl

module _ (image : List ℕ) (placed : List Block) (loads : Loads image standard_regions) (is : placement standard_regions (entries_in (table_of image)) ≡ Ok placed) where
  roomy_by : (found : Option (List ℕ)) → table_of image ≡ found → entries_in found ≡ entry.Device device ∷ [] → IfSome (pair_from placed 0 (entries_of (patched_in found placed))) AreRoomy
  roomy_by None has one = tt
  roomy_by (Some table) has one =
      let good = table_good image standard_regions table loads has in
      let there : placement standard_regions (entries_of table) ≡ Ok placed = sym (ap (λ (found : Option (List ℕ)). placement standard_regions (entries_in found)) has) ∙ is in
      let held = placed_is_sound image standard_regions placed regions_sound (parts_fit image standard_regions loads).table is in
      let fixes = fixes_of (entries_of table) placed in
      let patched = set_up (fixed_entry fixes 0 (entry.Device device)) in
      let read : entries_of (patched_in (Some table) placed) ≡ patched ∷ [] = placed_reads table good standard_regions placed there held ∙ ap (patched_entries fixes) one in
      subst (λ (entries : List Entry). IfSome (pair_from placed 0 entries) AreRoomy) (sym read)
      (roomy placed patched (set_keeps device (fixed_entry fixes 0 (entry.Device device)) (fixed_keeps fixes 0 device (entry.Device device) (refl, refl, refl))))

  pub rings_roomy : entries_in (table_of image) ≡ entry.Device device ∷ [] → IfSome (pair_from placed 0 (entries_of (patched_in (table_of image) placed))) AreRoomy
  rings_roomy one = roomy_by (table_of image) refl one

-- the entries of the table that is read
pub table_entries : (reply : ℕ) (image : List ℕ) → section_of image (codes ".resource_table") ≡ Some (table_section (worker_lines reply) 768)
    → take (table_len (worker_lines reply)) (drop (data_end (worker_lines reply)) image) ≡ table_bytes (worker_lines reply)
    → entries_in (table_of image) ≡ entries_of (table_bytes (worker_lines reply))
table_entries reply image found table =
    ap (λ (section : Option Section). entries_in (option_map (bytes_in image) section)) found ∙ ap entries_of table
