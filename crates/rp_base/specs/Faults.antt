-- The first of several tests that fails.
use Rattle.std.specs.Prelude.{Bool, List, [], ◌∷◌, Option, Some, None, if◌then◌else◌}
use Rattle.std.specs.Option.{option_or}

-- the fault of a test that fails, and none where it passes (own)
abbrev pub fault_if : {F : Type 0} → Bool → F → Option F
fault_if fails found = if fails then Some found else None

-- the first fault of tests that are made in order (own)
abbrev pub first_fault : {F : Type 0} → List (Option F) → Option F
first_fault [] = None
first_fault (found ∷ more) = option_or found (first_fault more)
