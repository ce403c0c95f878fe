use Rattle.std.proofs.Common.{◌≡◌, ◌-◌}
use Rattle.std.specs.List.{range_with_len, list_any}
use Rattle.resource_table.specs.Tables.{is_past_end}
use Rattle.resource_table.proofs.header.has_offset_past_end.Given as goal

abbrev pub invariant-loop-index : goal.invariant-loop-index
invariant-loop-index l =
    list_any (is_past_end l.bytes) (range_with_len l.index (l.count - l.index)) ≡ list_any (is_past_end l.bytes) (range_with_len 0 l.count)
