use Rattle.std.proofs.Common.{◌≡◌, ℕ, ◌*◌, ◌<◌, ◌≤◌, length}
use Rattle.std.specs.Prelude.{slice_index}
use Rattle.std.specs.List.{All}
use Rattle.resource_table.specs.Entries.{entries_of}
use Rattle.fw_load.specs.Tables.{rings_before}
use Rattle.fw_load.proofs.fixes.ring_numbers.Given as goal

-- the numbers of rings before the entries so far, and before the next one
abbrev pub invariant-loop-index : goal.invariant-loop-index
invariant-loop-index l = record {
  all : length l.numbers.items ≡ l.index;
  each : (index : ℕ) → index < l.index → slice_index l.numbers.items index ≡ rings_before (entries_of l.table) index;
  next : l.next ≡ rings_before (entries_of l.table) l.index;
  few : l.next ≤ 255 * l.index;
  small : All (λ number. number ≤ 65536) l.numbers.items;
}
