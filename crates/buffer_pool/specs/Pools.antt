-- A pool of free buffers as a list (own).
use Rattle.std.specs.Prelude.{ℕ, List, [], map}
use Rattle.std.specs.List.{range_with_len}
use Rattle.rp_base.specs.declared.messages.Buffer.{Buffer}

-- the free buffers in the order in which they are used, and how many buffers there is room for
pub record Pool : Type 0 where
  pub buffers : List Buffer
  pub count : ℕ

-- a buffer with an empty message
abbrev pub empty_buffer : ℕ → Buffer
empty_buffer id = record { id = id; message = [] }

-- so many buffers with empty messages, numbered from `first`
abbrev pub buffers_from : ℕ → ℕ → List Buffer
buffers_from first count = map empty_buffer (range_with_len first count)
