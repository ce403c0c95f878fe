-- The numbers by which faults are reported (own).
use Rattle.std.specs.Prelude.{ℕ}
use Rattle.rpmsg_header.specs.declared.faults.HeaderFault.{HeaderFault}
use Rattle.rpmsg_header.specs.declared.faults.HeaderFault.TheVariants.{TooLong, Malformed}

-- the number of a fault (own)
abbrev pub number_of : HeaderFault → ℕ
number_of (TooLong n) = 60
number_of Malformed = 61
