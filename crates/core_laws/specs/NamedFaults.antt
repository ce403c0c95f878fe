-- Which faults of a core name a reason other than that memory ran out (own).
use Rattle.std.specs.Prelude.{◌≡◌, true, is_some}
use Rattle.rp_io.specs.declared.faults.FetchFault.TheVariants as fetch
use Rattle.lane_model.specs.declared.recoveries.ReopenFault.TheVariants as reopen
use Rattle.fw_load.specs.Faults.{load_fault_number}
use Rattle.crash_recover.specs.declared.core_faults.CoreFault.{CoreFault}
use Rattle.crash_recover.specs.declared.core_faults.CoreFault.TheVariants as fault

-- the fault isn't that memory ran out, and has no such fault inside (own)
abbrev pub IsNamed : CoreFault → Type 0
IsNamed (fault.Fetch fetch.NoMemory) = ⊥
IsNamed (fault.Load why) = is_some (load_fault_number why) ≡ true
IsNamed (fault.Reopen reopen.NoMemory) = ⊥
IsNamed fault.NoMemory = ⊥
IsNamed why = Unit {0}
