use Rattle.std.proofs.Common.{◌≡◌, length, true, false, sym, ◌∙◌, ap, arith}
use Rattle.journal.proofs.ReadBack.{some_line, small_front, no_event, event_written, same_event, other_event}
use Rattle.journal.proofs.readers.read_line.Goals as goal

pub returns-in_default-clause-none : goal.returns-in_default-clause-none
returns-in_default-clause-none c = λ same event good is. absurd (omega (arith, some_line event, ap length is, c.in_default.len_below))

pub returns-in_default-2-clause-none : goal.returns-in_default-2-clause-none
returns-in_default-2-clause-none c = λ same event good is. no_event event c.args.bytes.now c.in_ok-event.field-0 c.in_ok-event.ensures c.in_default-2.is good is

pub returns-then-branch-clause-written : goal.returns-then-branch-clause-written
returns-then-branch-clause-written c =
    event_written c.in-Some.event c.args.bytes.now c.in_ok-event.field-0 c.in_ok-event.ensures c.in-Some.is (small_front c.args.bytes.now (λ at. omega (arith, c.type_inv.bytes at)))

pub returns-then-branch-clause-back : goal.returns-then-branch-clause-back
returns-then-branch-clause-back c = λ event good is. same_event event c.in-Some.event c.args.bytes.now c.in_ok-event.field-0 c.in_ok-event.ensures c.in-Some.is good is

pub returns-else-branch-clause-none : goal.returns-else-branch-clause-none
returns-else-branch-clause-none c = λ same event good is.
    let held = c.in_ok-is_line_of.ensures.1 (other_event event c.in-Some.event c.args.bytes.now c.in_ok-event.field-0 c.in_ok-event.ensures c.in-Some.is good is) in
    let never : ◌≡◌ true false = sym held ∙ c.if-branch.false in absurd (cc)
