use Rattle.std.proofs.Common.{◌≡◌, ◌-◌, map}
use Rattle.std.specs.List.{range_with_len, list_any}
use Rattle.resource_table.specs.Tables.{spans_meet, entry_span}
use Rattle.resource_table.proofs.spans.meets_entry.Given as goal

abbrev pub invariant-loop-earlier : goal.invariant-loop-earlier
invariant-loop-earlier l =
    list_any (spans_meet l.span) (map (entry_span l.bytes) (range_with_len l.earlier (l.index - l.earlier)))
    ≡ list_any (spans_meet l.span) (map (entry_span l.bytes) (range_with_len 0 l.index))
