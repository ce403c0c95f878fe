use Rattle.script_run.proofs.Ends.{run_in_part, run_no_memory, run_whole}
use Rattle.script_run.proofs.runs.run_commands.Goals as goal

pub returns-in-Ok : goal.returns-in-Ok
returns-in-Ok g c = record {
  leaves = run_whole _ _ _ _ _ _ _ _ _ c.in-Ok.status c.in-Ok.ensures.written;
  unasked = c.tell_commands.ensures.unasked;
}

pub returns-in-Err-Failed : goal.returns-in-Err-Failed
returns-in-Err-Failed g c = record {
  leaves = run_in_part _ _ _ _ _ _ _ _ _ c.in-Err-Failed.field-0 c.in-Err-Failed.field-0-is c.in-Err-Failed.ensures.written;
  unasked = c.tell_commands.ensures.unasked;
}

pub returns-in-Err-NoMemory : goal.returns-in-Err-NoMemory
returns-in-Err-NoMemory g c = record {
  leaves = run_no_memory _ _ _ _ _ _ _ _ _ c.in-Err-NoMemory.field-0 c.in-Err-NoMemory.field-0-is c.in-Err-NoMemory.ensures.written;
  unasked = c.tell_commands.ensures.unasked;
}
