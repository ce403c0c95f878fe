use Rattle.std.proofs.Common.{◌≡◌, length, IfSome, ap, sym, ◌∙◌}
use Rattle.std.specs.Option.{option_map}
use Rattle.addr_translate.specs.OrderedMaps.{AreApart}
use Rattle.std.proofs.lemmas.List.{length-replicate}
use Rattle.memory_pool.specs.Regions.{memory_len}
use Rattle.memory_pool.specs.Placements.{placement}
use Rattle.fw_load.specs.Memory.{memory_at}
use Rattle.addr_translate.specs.Maps.{place_at}
use Rattle.resource_table.specs.Entries.{entries_of}
use Rattle.resource_table.specs.PatchedEntries.{patched_entries}
use Rattle.fw_load.specs.Rings.{pair_from}
use Rattle.fw_load.specs.Tables.{bytes_in, entries_in, fixes_of, patched_in, table_of}
use Rattle.fw_load.proofs.Buffers.{pair_buffers}
use Rattle.fw_load.proofs.Meant.{placement_meant}
use Rattle.fw_load.proofs.Places.{memory_filled, patched_fills, places_agree, segments_have, table_fills, traces_alike}
use Rattle.fw_load.proofs.loading.filled.Goals as goal

pub patched_table-requires : goal.patched_table-requires
patched_table-requires c =
    rw c.deref.ensures.value (placement_meant c.args.regions.now (entries_in c.args.table.now) c.args.placed.blocks.items c.requires.placed)

pub copy_segments-requires-clause-some : goal.copy_segments-requires-clause-some
copy_segments-requires-clause-some c = segments_have c.args.image.now

pub copy_table-requires-clause-sound : goal.copy_table-requires-clause-sound
copy_table-requires-clause-sound c = rw (← c.map.view_is) c.map.invariant

pub copy_table-requires-clause-some : goal.copy_table-requires-clause-some
copy_table-requires-clause-some c = (table_fills c.args.image.now c.args.section c.requires.good).0

pub copy_table-requires-clause-whole : goal.copy_table-requires-clause-whole
copy_table-requires-clause-whole c =
    let image = c.args.image.now in
    rw c.bytes.ensures
    (patched_fills image c.args.section c.args.table.now c.in_ok-patched.patched c.requires.good
    (c.requires.table ∙ ap (option_map (bytes_in image)) (sym c.requires.section)) c.in_ok-patched.ensures.length)

pub returns : goal.returns
returns c =
    let image = c.args.image.now in
    let placed = c.args.placed.blocks.items in
    let apart : AreApart c.args.map.blocks = rw (← c.map.view_is) c.map.invariant.sound.apart in
    let agree = places_agree c.args.regions.now placed c.args.map c.requires.map apart in
    let blocks = c.deref.ensures.value in
    let patched : c.in_ok-patched.patched ≡ patched_in (table_of image) placed =
    c.in_ok-patched.ensures.patched ∙ ap (patched_in c.args.table.now) blocks ∙ ap (λ table. patched_in table placed) c.requires.table in
    let fills : IfSome c.args.section (λ section. length c.bytes.result.now ≡ section.size) =
    rw c.bytes.ensures
    (patched_fills image c.args.section c.args.table.now c.in_ok-patched.patched c.requires.good
    (c.requires.table ∙ ap (option_map (bytes_in image)) (sym c.requires.section)) c.in_ok-patched.ensures.length) in
    record {
      placed = ap (λ table. placement c.args.regions.now (entries_in table)) (sym c.requires.table) ∙ c.requires.placed;
      held = c.requires.sound;
      map = c.requires.map;
      memory =
          memory_filled image c.args.regions.now placed (place_at c.args.map) c.args.section c.bytes.result.now c.in_ok-memory.memory c.copy_segments.new.memory c.copy_table.new.memory
          agree c.requires.section (c.bytes.ensures ∙ patched) (table_fills image c.args.section c.requires.good).0 fills
          c.in_ok-memory.ensures c.copy_segments.ensures.memory c.copy_table.ensures.memory;
      length =
          c.copy_table.ensures.length ∙ c.copy_segments.ensures.length ∙ ap length c.in_ok-memory.ensures ∙ length-replicate (memory_len c.args.regions.now) 0
          ∙ sym c.requires.map.memory;
      sound = c.in_ok-rings.ensures.sound;
      buffers =
          pair_buffers c.args.regions.now (entries_in c.args.table.now) (fixes_of (entries_in c.args.table.now) placed) placed c.in_ok-rings.rings c.requires.placed c.requires.sound
          (c.in_ok-rings.ensures.rings ∙ ap (pair_from placed 0) (c.in_ok-patched.ensures.entries ∙ ap (λ blocks. patched_entries (fixes_of (entries_in c.args.table.now) blocks) (entries_in c.args.table.now)) blocks));
      inside = c.in_ok-rings.ensures.inside;
      table = patched;
      entry = c.entry.ensures.entry;
      rings = c.in_ok-rings.ensures.rings;
      traces = c.in_ok-rings.ensures.traces ∙ traces_alike (place_at c.args.map) (memory_at c.args.regions.now placed) (entries_of c.in_ok-patched.patched) agree;
    }
