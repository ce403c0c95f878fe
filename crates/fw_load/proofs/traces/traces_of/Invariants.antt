use Rattle.std.proofs.Common.{◌≡◌, ◌++◌, drop}
use Rattle.std.specs.List.{All}
use Rattle.resource_table.specs.Entries.{entries_of}
use Rattle.addr_translate.specs.Maps.{place_at}
use Rattle.fw_load.specs.Rings.{IsTraceIn, traces_of}
use Rattle.fw_load.proofs.traces.traces_of.Given as goal

-- the traces so far, and those of the entries that are left
abbrev pub invariant-loop-index : goal.invariant-loop-index
invariant-loop-index l = record {
  whole : l.traces.items ++ traces_of (place_at l.map) (drop l.index (entries_of l.table)) ≡ traces_of (place_at l.map) (entries_of l.table);
  inside : All (IsTraceIn l.map.memory_len) l.traces.items;
}
