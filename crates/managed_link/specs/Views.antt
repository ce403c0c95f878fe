-- Who has a turn, as a number (own).
use Rattle.std.specs.Prelude.{ℕ, ◌==◌, Option, Some, None, if◌then◌else◌}

-- the holder of a turn without this caller
abbrev pub if_other : Option ℕ → ℕ → Option ℕ
if_other None caller = None
if_other (Some holder) caller = if holder == caller then None else Some holder
