use Rattle.std.proofs.Common.{◌≡◌, ◌+◌, refl, ap, arith, unwrap_or}
use Rattle.journal_check.specs.Tables.{inc_of}
use Rattle.journal_check.proofs.RecordFacts.{more_open}
use Rattle.journal_check.proofs.records.Record.open.Goals as goal

pub returns-clause-kept : goal.returns-clause-kept
returns-clause-kept c = λ past kept none.
    let was = ap (λ o. unwrap_or o 0) kept.inc in
    let next : c.args.inc ≡ inc_of past + 1 = omega (arith, was, c.unwrap_or.ensures, c.if-inc-eq0.false, c.if-inc-unwrap_or.false) in
    more_open past c.args.self.now _ c.args.inc kept next refl c.new.ensures c.new-2.ensures
