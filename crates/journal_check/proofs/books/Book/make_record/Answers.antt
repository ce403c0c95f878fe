use Rattle.std.proofs.Common.{sym, ◌∙◌}
use Rattle.journal_check.proofs.BookFacts.{made}
use Rattle.journal_check.proofs.books.Book.make_record.Goals as goal

pub returns-in_ok-insert-clause-kept : goal.returns-in_ok-insert-clause-kept
returns-in_ok-insert-clause-kept c = λ before kept.
    made before c.args.self.now.records.entries c.insert.new.self.entries c.args.name c.new.result kept c.requires (sym c.contains_key.ensures ∙ c.if-not-contains_key.true) c.new.ensures c.in_ok-insert.ensures.updates.0
