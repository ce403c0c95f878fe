-- What a shutdown and a detach of a core answer and leave (`rproc_shutdown` and `rproc_detach` of Linux remoteproc_core.c; the faults and their order are own).
use Rattle.std.specs.Prelude.{ℕ, Bool, Option, Some, None, option_map, option_and_then, Result, Ok, Err, if◌then◌else◌}
use Rattle.link_bench.specs.BenchHolds.{caller_out}
use Rattle.link_bench.specs.Benches.{BenchState, link_in}
use Rattle.proc_state.specs.Lives.{CoreLife, life_after_detach, life_after_shutdown}
use Rattle.proc_state.specs.declared.answers.Left.{Left}
use Rattle.proc_state.specs.declared.answers.Left.TheVariants as left
use Rattle.proc_state.specs.declared.answers.LifeFault.{LifeFault}
use Rattle.crash_recover.specs.declared.core_answers.Leave.{Leave}
use Rattle.crash_recover.specs.declared.core_answers.Leave.TheVariants as leave
use Rattle.crash_recover.specs.declared.core_faults.CoreFault.{CoreFault}
use Rattle.crash_recover.specs.declared.core_faults.CoreFault.TheVariants as fault
use Rattle.crash_recover.specs.declared.core_faults.LeaveFault.{LeaveFault}
use Rattle.crash_recover.specs.declared.core_faults.LeaveFault.TheVariants as leave_fault
use Rattle.crash_recover.specs.Cores.{CoreOutcome, CoreState, refuse_or}

-- the incarnation of a link that is live
abbrev pub live_inc : Option BenchState → Option ℕ
live_inc None = None
live_inc (Some bench) = if (link_in bench).era.is_live then Some (link_in bench).era.inc else None

-- the last user leaves: a live link is closed, which is a step that may be taken or not
abbrev pub close_or : Bool → CoreState → CoreState → Option ℕ → CoreOutcome Leave LeaveFault
close_or may_step core gone None = record { core = gone; answer = Ok (leave.Last None) }
close_or may_step core gone (Some inc) =
    if may_step then record { core = gone; answer = Ok (leave.Last (Some inc)) } else record { core = core; answer = Ok leave.Limit }

-- the same, unless a host caller other than 0 is in a call or holds a buffer
abbrev pub last_leave : Bool → CoreState → CoreState → CoreOutcome Leave LeaveFault
last_leave may_step core gone =
    refuse_or core (option_map leave_fault.CallerOut (option_and_then caller_out core.bench)) (close_or may_step core gone (live_inc core.bench))

-- a user leaves, by the life then and what it answers; this is the core without users
abbrev pub leave_as : Bool → CoreState → CoreState → CoreLife → Result Left LifeFault → CoreOutcome Leave LeaveFault
leave_as may_step core gone life (Err why) = record { core = core; answer = Err (leave_fault.Life why) }
leave_as may_step core gone life (Ok (left.Users users)) = record { core = record core { life = life }; answer = Ok (leave.Users users) }
leave_as may_step core gone life (Ok left.Last) = last_leave may_step core gone

-- the core with the last user gone: nothing is loaded
abbrev pub unloaded_core : CoreLife → CoreState → CoreState
unloaded_core life core = record core { life = life; image = None; loaded = None; bench = None }

-- the core left to the other party: its memory is as it was
abbrev pub detached_core : CoreLife → CoreState → CoreState
detached_core life core = record core { life = life; bench = None }

-- a shutdown, for which a step may be taken or not
unfoldable pub shutdown_of : Bool → CoreState → CoreOutcome Leave LeaveFault
shutdown_of may_step core =
    let after = life_after_shutdown core.life in
    leave_as may_step core (unloaded_core after.life core) after.life after.answer

-- a detach, for which a step may be taken or not
unfoldable pub detach_of : Bool → CoreState → CoreOutcome Leave LeaveFault
detach_of may_step core =
    let after = life_after_detach core.life in
    leave_as may_step core (detached_core after.life core) after.life after.answer

-- a refusal of a leave, as a call in short answers it (own)
abbrev pub core_fault_of_leave : LeaveFault → CoreFault
core_fault_of_leave (leave_fault.Life why) = fault.Life why
core_fault_of_leave (leave_fault.CallerOut caller) = fault.CallerOut caller

-- the answer in short (own)
abbrev pub leave_in_short : Leave → Left
leave_in_short (leave.Users users) = left.Users users
leave_in_short (leave.Last closed) = left.Last
-- (no step is asked for in vain where one may be taken)
leave_in_short leave.Limit = left.Last
