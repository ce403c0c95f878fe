-- The numbers of the faults of a worker (own).
use Rattle.std.specs.Prelude.{ℕ}
use Rattle.remote_code.specs.declared.faults.WorkerFault.{WorkerFault}
use Rattle.remote_code.specs.declared.faults.WorkerFault.TheVariants.{UnknownOp, CodeUnmapped, BadOperand, NoLink}

-- the number of each fault
abbrev pub fault_number : WorkerFault → ℕ
fault_number UnknownOp = 90
fault_number CodeUnmapped = 91
fault_number BadOperand = 92
fault_number NoLink = 93
