use Rattle.std.proofs.Common.{◌∙◌}
use Rattle.resource_table.specs.Entries.{entries_of}
use Rattle.load_findings.specs.Walks.{outcome_in}
use Rattle.load_findings.proofs.Outcomes.{entry_tried}
use Rattle.load_findings.proofs.placing.Placing.take_table.Goals as goal

pub loop-index-preserved : goal.loop-index-preserved
loop-index-preserved c = record {
  tried =
      entry_tried c.args.regions.now c.args.aliases.now (entries_of c.args.table.now) c.args.anywhere (outcome_in c.loop-index.self) (outcome_in c.take_entry.new.self) c.loop-index.index c.entry.result
      c.entry.ensures.entry c.in_ok-take_entry.ensures.outcome
      ∙ c.loop-index.invariant.tried;
  ordered = c.in_ok-take_entry.ensures.ordered;
}
