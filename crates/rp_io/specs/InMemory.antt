-- A source, a sink and a store in memory: what each holds, and what a call does to it (own).
use Rattle.std.specs.Prelude.{ℕ, ◌-◌, nat_le, min, ◌||◌, Bool, List, ◌++◌, length, take, drop, if◌then◌else◌}
use Rattle.rp_io.specs.Calls.{Calls, fails_next, with_call}

-- what is left to read, and the most bytes that a read gives (own)
pub record SourceInMemory : Type 0 where
  pub left : List ℕ
  pub most : ℕ
  pub calls : Calls

-- how many bytes the next read moves into a place for `room` bytes (own)
abbrev pub read_count : SourceInMemory → ℕ → ℕ
read_count source room = if fails_next source.calls then 0 else min source.most (min room (length source.left))

-- the source after that read (own)
abbrev pub after_read : SourceInMemory → ℕ → SourceInMemory
after_read source room = record source { left = drop (read_count source room) source.left; calls = with_call source.calls (fails_next source.calls) }

-- what was written, how many bytes it has room for in all, and the most bytes that a write takes (own)
pub record SinkInMemory : Type 0 where
  pub written : List ℕ
  pub room : ℕ
  pub most : ℕ
  pub calls : Calls

-- the next write fails: its number says so, or the room is used up (own)
abbrev pub write_fails : SinkInMemory → Bool
write_fails sink = fails_next sink.calls || nat_le sink.room (length sink.written)

-- how many bytes the next write takes of `offered` (own)
abbrev pub write_count : SinkInMemory → ℕ → ℕ
write_count sink offered = if write_fails sink then 0 else min sink.most (min offered (sink.room - length sink.written))

-- the sink after that write (own)
abbrev pub after_write : SinkInMemory → List ℕ → SinkInMemory
after_write sink bytes = record sink { written = sink.written ++ take (write_count sink (length bytes)) bytes; calls = with_call sink.calls (write_fails sink) }

-- the names and the images (own)
pub record StoreInMemory : Type 0 where
  pub images : List (List ℕ × List ℕ)
  pub calls : Calls
