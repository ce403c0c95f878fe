-- Bytes that are written into others (own).
use Rattle.std.specs.Prelude.{ℕ, ◌+◌, List, ◌++◌, length, take, drop}

-- bytes with others written at a place (own)
abbrev pub with_bytes : ℕ → List ℕ → List ℕ → List ℕ
with_bytes at written bytes = take at bytes ++ written ++ drop (at + length written) bytes
