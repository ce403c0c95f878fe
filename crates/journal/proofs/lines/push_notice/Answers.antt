use Rattle.journal.specs.Notices.{notice_line}
use Rattle.journal.proofs.lines.push_notice.Goals as goal

pub returns-in-Usage-clause-whole : goal.returns-in-Usage-clause-whole
unfolding notice_line
returns-in-Usage-clause-whole c = rw c.in-Usage.is c.push_line.ensures.whole

pub returns-in-StoreFault-clause-whole : goal.returns-in-StoreFault-clause-whole
unfolding notice_line
returns-in-StoreFault-clause-whole c = rw c.in-StoreFault.is c.push_line-in-StoreFault.ensures.whole

pub returns-in-StepLimit-clause-whole : goal.returns-in-StepLimit-clause-whole
unfolding notice_line
returns-in-StepLimit-clause-whole c = rw c.in-StepLimit.is c.push_line-in-StepLimit.ensures.whole

pub returns-in-TooLarge-clause-whole : goal.returns-in-TooLarge-clause-whole
unfolding notice_line
returns-in-TooLarge-clause-whole c = rw c.in-TooLarge.is c.push_line-in-TooLarge.ensures.whole

pub returns-in-Broken-clause-whole : goal.returns-in-Broken-clause-whole
unfolding notice_line
returns-in-Broken-clause-whole c = rw c.in-Broken.is (rw c.from-in-Broken.ensures at c.push_line-in-Broken.ensures.whole)
