-- How the program ends and what it leaves of the yard, by its words and by what its devices did (own).
use Rattle.std.specs.Prelude.{Option}
use Rattle.rp_io.specs.Causes.{Rose}
use Rattle.command_run.specs.Runs.{ObjectsState}
use Rattle.program_status.specs.declared.statuses.Status.{Status}
use Rattle.script_run.specs.Outputs.{Form}
use Rattle.script_run.specs.Endings.{AnswersAs, AnswersWell, Devices, Ends}
use Rattle.script_run.specs.Yards.{Leaves, LeavesAs}

-- what the words ask for ends with this status, and leaves the yard so
pub record FormEnds (ended : Status) (form : Form) (before now : Devices) (yard left : ObjectsState) : Type 0 where
  pub ends : Ends ended form before now
  pub leaves : Leaves ended form before now yard left

-- the answer of the program, by the status of which it is the number, over the devices and the yard as they were and as they are
pub record ProgramEnds (ended : Option Status) (form : Form) (before now : Devices) (old new : ObjectsState) : Type 0 where
  pub answer : AnswersAs ended form before now
  -- where no count of faults rose
  pub complete : ¬ Rose before.source_faults now.source_faults → ¬ Rose before.store_faults now.store_faults → ¬ Rose before.sink_faults now.sink_faults → AnswersWell ended form before
  pub yard : LeavesAs ended form before now old new
