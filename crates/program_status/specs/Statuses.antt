-- The numbers with which the process ends (own).
use Rattle.std.specs.Prelude.{ℕ, ◌==◌, Option, Some, None, if◌then◌else◌}
use Rattle.program_status.specs.declared.statuses.Status.{Status}
use Rattle.program_status.specs.declared.statuses.Status.TheVariants as status

-- the number of each status
abbrev pub status_number : Status → ℕ
status_number status.Done = 0
status_number status.Unsound = 1
status_number status.Usage = 2
status_number status.ReadFault = 3
status_number status.WriteFault = 4
status_number status.NoMemory = 5
status_number status.Refused = 6
status_number status.StepLimit = 7
status_number status.StoreFault = 8

-- the status of each number
abbrev pub status_of : ℕ → Option Status
status_of number =
    if number == 0 then Some status.Done else (if number == 1 then Some status.Unsound else (if number == 2 then Some status.Usage
    else (if number == 3 then Some status.ReadFault else (if number == 4 then Some status.WriteFault else (if number == 5 then Some status.NoMemory
    else (if number == 6 then Some status.Refused else (if number == 7 then Some status.StepLimit else (if number == 8 then Some status.StoreFault else None))))))))
