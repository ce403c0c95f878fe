-- What code knows of the run of a demo (own). No public clause speaks of this: it serves the contracts of the crate's own functions.
use Rattle.std.specs.Prelude.{◌≡◌, ℕ, List, [], Some, None, Result, Ok, Err}
use Rattle.script_lang.specs.declared.commands.Command.{Command}
use Rattle.script_run.specs.declared.demos.AcceptedCounts.{AcceptedCounts}
use Rattle.script_run.specs.declared.demos.DemoFault.{DemoFault}
use Rattle.script_run.specs.declared.demos.DemoFault.TheVariants as fault
use Rattle.command_run.specs.Stores.{store_of}
use Rattle.command_run.specs.Runs.{new_run, run_of}
use Rattle.script_run.specs.Outputs.{stop_output}
use Rattle.script_run.specs.Demos.{counts_from, counted_output, demo_output}

-- the run of these commands over an empty store went to its end and so much was accepted, or it stopped in its midst, or memory ran out
abbrev pub IsCounted : List Command → Result AcceptedCounts DemoFault → Type 0
IsCounted commands (Ok accepted) = ((run_of (store_of []) commands).ending ≡ None) × (accepted ≡ counts_from new_run commands)
IsCounted commands (Err (fault.Stopped why)) = (run_of (store_of []) commands).ending ≡ Some why
IsCounted commands (Err fault.NoMemory) = Unit {0}

-- the output of a demo, by what code counted of its run, unless memory ran out
abbrev pub IsDemoCount : ℕ → Result AcceptedCounts DemoFault → Type 0
IsDemoCount sessions (Ok accepted) = demo_output sessions ≡ counted_output sessions accepted None
IsDemoCount sessions (Err (fault.Stopped why)) = demo_output sessions ≡ stop_output (Some why)
IsDemoCount sessions (Err fault.NoMemory) = Unit {0}
