-- Bytes in the memory of a core that a worker names by their device address (own).
use Rattle.std.specs.Prelude.{ℕ, ◌+◌, ◌==◌, Bool, List, [], slice_range, Option, Result, Ok, Err, is_ok, ok_or, if◌then◌else◌}
use Rattle.addr_translate.specs.Bytes.{with_bytes}
use Rattle.addr_translate.specs.Maps.{Mapping, place_at}
use Rattle.remote_code.specs.declared.faults.WorkerFault.{WorkerFault}
use Rattle.remote_code.specs.declared.faults.WorkerFault.TheVariants.{CodeUnmapped}

-- where the bytes are that a record names; of no bytes no address is looked up
abbrev pub named_place : Mapping → ℕ → ℕ → Result ℕ WorkerFault
named_place map da len = if len == 0 then Ok 0 else ok_or (place_at map da len) CodeUnmapped

-- whether the bytes are there that a record names
abbrev pub is_named : Mapping → ℕ → ℕ → Bool
is_named map da len = is_ok (named_place map da len)

-- so many bytes from a place on, if there is one
abbrev pub bytes_from : List ℕ → ℕ → Result ℕ WorkerFault → List ℕ
bytes_from memory len (Ok at) = slice_range memory at (at + len)
bytes_from memory len (Err fault) = []

-- the bytes that a record names
abbrev pub named_bytes : List ℕ → Mapping → ℕ → ℕ → List ℕ
named_bytes memory map da len = bytes_from memory len (named_place map da len)

-- a memory with bytes written at a place, if there is one
abbrev pub written_from : List ℕ → List ℕ → Result ℕ WorkerFault → List ℕ
written_from memory bytes (Ok at) = with_bytes at bytes memory
written_from memory bytes (Err fault) = memory
