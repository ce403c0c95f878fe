use Rattle.std.proofs.Common.{sym}
use Rattle.resource_table.specs.Tables.{earlier_spans}
use Rattle.resource_table.proofs.Meetings.{none_meets}
use Rattle.resource_table.proofs.spans.meets_earlier.Goals as goal

pub returns-then-end-span : goal.returns-then-end-span
returns-then-end-span c =
    sym (none_meets c.args.span c.args.end (earlier_spans c.args.bytes.now c.args.index) c.if-end-span.true c.requires.end)
