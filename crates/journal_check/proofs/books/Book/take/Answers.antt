use Rattle.std.proofs.Common.{sym, subst, ◌∙◌}
use Rattle.journal_check.specs.declared.readings.Reading.TheVariants as reading
use Rattle.journal_check.specs.Readings.{IsReading}
use Rattle.journal_check.proofs.BookFacts.{mark_named, judged}
use Rattle.journal_check.proofs.books.Book.take.Goals as goal

pub take_mark-requires : goal.take_mark-requires
take_mark-requires c =
    mark_named c.in-Event.event c.in-Some.mark (subst (IsReading c.args.line.now) c.in-Event.is c.in_ok-event.ensures).0 (sym c.mark_of.ensures ∙ c.in-Some.is)

pub returns-in-Some : goal.returns-in-Some
returns-in-Some c = λ before kept.
    let says = sym c.mark_of.ensures ∙ c.in-Some.is in
    judged c.args.is_last c.args.line.now c.in-Event.event c.in-Some.mark before c.take_mark.new.self c.take_mark.result (subst (IsReading c.args.line.now) c.in-Event.is c.in_ok-event.ensures) says
    (c.take_mark.ensures.rule before kept) (c.take_mark.ensures.kept before (reading.Event c.in-Event.event) kept says)
