-- Lists that are written into an array of C, and what is answered of it (own).
use Rattle.std.specs.Prelude.{ℕ, List, ◌++◌, length, take, drop, nat_le, min, Option, Some, None, if◌then◌else◌}
use Rattle.c_forms.specs.declared.TheConstants.{DONE, WRONG_LENGTH}
use Rattle.c_forms.specs.declared.faults.CFault.{CFault}

-- an array with a list written over its start, as much of it as there is room for (own)
abbrev pub written_over : {A : Type 0} → List A → List A → List A
written_over told array = take (length array) told ++ drop (length told) array

-- the status: why nothing is written, or whether there is room for the whole list (own)
abbrev pub told_status : {A : Type 0} → Option CFault → List A → List A → ℕ
told_status None told array = if nat_le (length told) (length array) then DONE else WRONG_LENGTH
told_status (Some why) told array = why.number

-- the array after it, which a refusal leaves as it was (own)
abbrev pub told_array : {A : Type 0} → Option CFault → List A → List A → List A
told_array None told array = written_over told array
told_array (Some why) told array = array

-- how many are written (own)
abbrev pub told_count : {A : Type 0} → Option CFault → List A → List A → ℕ
told_count None told array = min (length told) (length array)
told_count (Some why) told array = 0
