use Rattle.std.proofs.Common.{sym, ap, ◌∙◌}
use Rattle.std.specs.Option.{option_copied_mut}
use Rattle.std.proofs.lemmas.Result.{IfOk-weaker}
use Rattle.journal_check.specs.Marks.{past_of}
use Rattle.journal_check.proofs.BookFacts.{taken, found_is}
use Rattle.journal_check.proofs.books.Book.take_mark.Goals as goal

pub returns-clause-rule : goal.returns-clause-rule
returns-clause-rule c = λ before kept.
    let name = c.args.mark.now.name in
    let found = sym c.get_mut.ensures.value ∙ ap option_copied_mut c.in-Some.is in
    c.take.ensures.rule (past_of name before) (found_is before c.make_record.new.self name _ (c.in_ok-make_record.ensures.kept before kept) c.requires found)

pub returns-clause-kept : goal.returns-clause-kept
returns-clause-kept c = λ before now kept says.
    let mark = c.args.mark.now in
    let found = sym c.get_mut.ensures.value ∙ ap option_copied_mut c.in-Some.is in
    let made = c.in_ok-make_record.ensures.kept before kept in
    let written = (c.get_mut.follows.holds c.take.new.self).3 c.in_ok-make_record.ensures.there in
    IfOk-weaker c.take.result _ _ (λ rule after none. taken before now mark c.make_record.new.self.records.entries (c.get_mut.follows.lender c.take.new.self).entries c.take.new.self made c.requires says (after none) written.0)
    (c.take.ensures.kept (past_of mark.name before) (found_is before c.make_record.new.self mark.name _ made c.requires found))
