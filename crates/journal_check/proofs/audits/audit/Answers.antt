use Rattle.std.proofs.Common.{◌≡◌, subst, arith, length, reverse}
use Rattle.std.proofs.lemmas.Bool.Decides.{nat_tests}
use Rattle.journal_check.specs.Tables.{Judges}
use Rattle.journal_check.proofs.AuditFacts.{seen_none, seen_more, broken_at, all_sound}
use Rattle.journal_check.proofs.audits.audit.Goals as goal

pub loop-rest-init : goal.loop-rest-init
loop-rest-init c = record { seen = seen_none c.args.bytes.now c.new-book.result c.new-book.ensures; within = omega arith }

pub loop-rest-preserved : goal.loop-rest-preserved
loop-rest-preserved c =
    let seen = c.loop-rest.invariant.seen in
    let judges = c.in_ok-rule.ensures (reverse seen.readings) seen.kept in
    record {
      seen = seen_more _ c.loop-rest.rest.now c.loop-rest.count _ c.take.new.self c.cut_line.result.0.now c.cut_line.result.1.now c.is_empty-in-loop-rest.result seen c.cut_line.ensures.lines c.is_empty-in-loop-rest.ensures
          (subst (λ rule. Judges c.is_empty-in-loop-rest.result c.cut_line.result.0.now (reverse seen.readings) rule c.take.new.self) c.in_default.is judges);
      within = omega (arith, c.cut_line.ensures.shorter, c.loop-rest.invariant.within);
    }

pub returns-in-Some : goal.returns-in-Some
returns-in-Some c =
    let seen = c.loop-rest.invariant.seen in
    let judges = c.in_ok-rule.ensures (reverse seen.readings) seen.kept in
    record {
      exact = broken_at _ c.loop-rest.rest.now c.loop-rest.count _ c.take.new.self c.cut_line.result.0.now c.cut_line.result.1.now c.is_empty-in-loop-rest.result c.in-Some.rule seen c.cut_line.ensures.lines c.is_empty-in-loop-rest.ensures
          (subst (λ rule. Judges c.is_empty-in-loop-rest.result c.cut_line.result.0.now (reverse seen.readings) rule c.take.new.self) c.in-Some.is judges);
    }

pub returns : goal.returns
returns c =
    let none : length c.loop-rest.rest.now ≡ 0 = grind (arith, nat_tests) in
    record { exact = all_sound _ c.loop-rest.rest.now c.loop-rest.count _ c.loop-rest.invariant.seen none }
