use Rattle.std.proofs.Common.{sym, subst, ◌∷◌}
use Rattle.journal_check.specs.Tables.{IsSide}
use Rattle.journal_check.proofs.SideFacts.{entry}
use Rattle.journal_check.proofs.sides.Side.note.Goals as goal

pub returns-in-Sent : goal.returns-in-Sent
returns-in-Sent c = λ here place kept.
    subst (λ line. IsSide (entry line place c.args.is_closed ∷ here) c.note_sent.new.self) (sym c.in-Sent.is) (c.note_sent.ensures c.in-Sent.field-0 here place kept)

pub returns-in-Took : goal.returns-in-Took
returns-in-Took c = λ here place kept.
    subst (λ line. IsSide (entry line place c.args.is_closed ∷ here) c.note_took.new.self) (sym c.in-Took.is) (c.note_took.ensures c.in-Took.field-0 here place kept)
