use Rattle.journal.proofs.ReadBack.{one_event}
use Rattle.line_laws.proofs.SpelledRuns.{lines_back}
use Rattle.line_laws.proofs.Transcripts.{lines_are}
use Rattle.line_laws.proofs.laws.lines_read_back.Goals as goal

pub returns-clause-written : goal.returns-clause-written
returns-clause-written c = lines_back

pub returns-clause-alone : goal.returns-clause-alone
returns-clause-alone c = λ told commands tells script at d within other good same. one_event other _ good (lines_back told commands tells script at d within) same

pub returns-clause-lines : goal.returns-clause-lines
returns-clause-lines c = λ told commands tells script. lines_are _ (lines_back told commands tells script)
