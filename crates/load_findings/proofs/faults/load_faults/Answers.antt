use Rattle.std.proofs.Common.{ap, ◌∙◌}
use Rattle.load_findings.specs.LoadFaults.{board_fault, first_of}
use Rattle.load_findings.proofs.Firsts.{first_is, plain_is}
use Rattle.load_findings.proofs.faults.load_faults.Goals as goal

pub returns-clause-first : goal.returns-clause-first
returns-clause-first c = ap first_of c.in_ok-faults.ensures ∙ first_is c.args.bytes.now c.args.regions.now c.args.aliases.now

pub returns-clause-plain : goal.returns-clause-plain
returns-clause-plain c = λ none.
    ap first_of c.in_ok-faults.ensures ∙ first_is c.args.bytes.now c.args.regions.now c.args.aliases.now
    ∙ ap (board_fault c.args.bytes.now c.args.regions.now) none ∙ plain_is c.args.bytes.now c.args.regions.now
