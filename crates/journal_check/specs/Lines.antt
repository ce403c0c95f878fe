-- The lines of a text (own).
use Rattle.std.specs.Prelude.{ℕ, ◌==◌, if◌then◌else◌, List, [], ◌∷◌}
use Rattle.std.specs.List.{onto_first}

-- the lines of a text, each with its line feed; what comes after the last line feed, if anything does, is a line without one
abbrev pub lines_of : List ℕ → List (List ℕ)
lines_of [] = []
lines_of (byte ∷ more) = if byte == 10 then (byte ∷ []) ∷ lines_of more else onto_first byte (lines_of more)
