-- The state of a worker (own).
use Rattle.std.specs.Prelude.{ℕ, Bool, false, List, if◌then◌else◌}
use Rattle.rpmsg_header.specs.Headers.{is_whole, source_of}

-- a worker: the device address of record 0, the number of the record that it runs next, the turns of its loops, the source of the last whole message that it took, and whether it ended
pub record WorkerState : Type 0 where
  pub entry : ℕ
  pub place : ℕ
  pub turns : ℕ
  pub source : ℕ
  pub is_halted : Bool

-- a worker before its first record
abbrev pub new_worker : ℕ → WorkerState
new_worker entry = record { entry = entry; place = 0; turns = 0; source = 0; is_halted = false }

-- a worker that took a message: it keeps the source of a whole one
abbrev pub after_take : List ℕ → WorkerState → WorkerState
after_take message worker =
    if is_whole message then record worker { source = source_of message } else worker
