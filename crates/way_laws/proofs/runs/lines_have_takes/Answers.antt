use Rattle.way_laws.proofs.DriveLines.{drive_adds}
use Rattle.way_laws.proofs.EveryLine.{core_are, every_line}
use Rattle.way_laws.proofs.OtherLines.{nameless_none, others_none}
use Rattle.way_laws.proofs.RunLines.{core_lines, drive_lines, link_lines}
use Rattle.way_laws.proofs.TakeLines.{drive_lines as step_lines}
use Rattle.way_laws.proofs.WholeRuns.{run_lines}
use Rattle.way_laws.proofs.runs.lines_have_takes.Goals as goal

pub returns : goal.returns
returns c = record {
  link = λ told commands answer asked place wanted on runs may found done. link_lines told commands runs answer asked may place wanted on found done;
  of_core = λ told commands answer asked place act on runs may found done. core_lines told commands runs answer asked may place act on found done;
  drive = λ told commands answer asked place count on runs may found done. drive_lines told commands runs answer asked may place count on found done;
  driven = λ name is_quiet core may reached comes. step_lines name is_quiet core may reached comes;
  drive_adds = λ end count core steps account. drive_adds end count core steps account;
  named_core = λ told commands answer asked place wanted on runs may found done. core_are told commands runs answer asked may place wanted on found done;
  others = λ answer run asked none. others_none answer run asked none;
  nameless = λ answer run asked name wanted is linkless coreless. nameless_none answer run asked name wanted is linkless coreless;
  every = λ told commands answer asked runs may. every_line told commands runs answer asked may;
  whole = λ told commands runs. run_lines told commands runs;
}
