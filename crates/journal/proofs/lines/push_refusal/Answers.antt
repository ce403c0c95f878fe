use Rattle.journal.specs.Notices.{notice_line}
use Rattle.journal.proofs.lines.push_refusal.Goals as goal

pub returns-clause-whole : goal.returns-clause-whole
unfolding notice_line
returns-clause-whole c = rw c.cause_text.ensures at c.push_line.ensures.whole
