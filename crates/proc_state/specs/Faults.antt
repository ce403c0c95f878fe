-- The numbers of the faults of a life (own).
use Rattle.std.specs.Prelude.{ℕ}
use Rattle.proc_state.specs.declared.answers.LifeFault.{LifeFault}
use Rattle.proc_state.specs.declared.answers.LifeFault.TheVariants.{NotPowered, NotCrashed, RecoveryOff, UsersFull, NotOffline, NotAttached, IncarnationsSpent}

-- the number of each fault
abbrev pub fault_number : LifeFault → ℕ
fault_number NotPowered = 50
fault_number NotCrashed = 51
fault_number RecoveryOff = 52
fault_number UsersFull = 53
fault_number NotOffline = 55
fault_number NotAttached = 56
fault_number IncarnationsSpent = 82
