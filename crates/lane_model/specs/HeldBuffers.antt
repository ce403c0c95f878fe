-- What contracts see of a held buffer (own).
use Rattle.std.specs.Prelude.{ℕ, List}

-- a buffer that was taken and not given back: its lane, who has it, the number of its message, and the number of the buffer with the bytes of the message in it
pub record HeldBuffer : Type 0 where
  pub lane : ℕ
  pub caller : ℕ
  pub number : ℕ
  pub buffer : ℕ
  pub message : List ℕ
