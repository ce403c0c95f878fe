use Rattle.std.proofs.Common.{◌≡◌, ◌-◌}
use Rattle.std.specs.List.{flat_map, range_with_len}
use Rattle.resource_table.specs.Entries.{entry_count}
use Rattle.resource_table.specs.Patches.{after_writes, device_writes}
use Rattle.resource_table.proofs.fixes.write_rpmsg.Given as goal

abbrev pub invariant-loop-index : goal.invariant-loop-index
invariant-loop-index l =
    let count = entry_count l.bytes in
    after_writes (flat_map (device_writes l.bytes) (range_with_len l.index (count - l.index))) l.patched
    ≡ after_writes (flat_map (device_writes l.bytes) (range_with_len 0 count)) l.initial.patched
