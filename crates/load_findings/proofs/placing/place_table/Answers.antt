use Rattle.resource_table.specs.Entries.{entries_of}
use Rattle.load_findings.specs.Placings.{entries_through}
use Rattle.load_findings.specs.Walks.{outcome_in}
use Rattle.load_findings.proofs.Outcomes.{all_tried}
use Rattle.load_findings.proofs.placing.place_table.Goals as goal

pub returns : goal.returns
returns c =
    all_tried c.args.regions.now (entries_through c.args.aliases.now (entries_of c.args.table.now)) (outcome_in c.new-placing.result) _ _
    c.new-placing.ensures.empty c.in_ok-take_table.ensures.outcome c.in_ok-take_table-2.ensures.outcome
