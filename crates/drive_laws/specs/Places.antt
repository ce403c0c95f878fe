-- Where a worker is among its records (own).
use Rattle.std.specs.Prelude.{◌≡◌, ◌⊎◌, ◌+◌, true}
use Rattle.remote_code.specs.declared.records.Record.{Record}
use Rattle.remote_code.specs.declared.records.Record.TheVariants.{Halt, Loop}
use Rattle.remote_core.specs.Workers.{WorkerState}

-- the worker is where it was
pub record StaysAt (before after : WorkerState) : Type 0 where
  pub entry : after.entry ≡ before.entry
  pub place : after.place ≡ before.place
  pub turns : after.turns ≡ before.turns
  pub halted : after.is_halted ≡ before.is_halted

-- where a record that ran leaves the worker: a halt ends it where it is, a loop leads to the record that it names or to the next one, any
-- other record to the next one
abbrev pub GoesOn : Record → WorkerState → WorkerState → Type 0
GoesOn Halt before after = after ≡ record before { is_halted = true }
GoesOn (Loop turns to) before after = (after.place ≡ to) ⊎ (after.place ≡ before.place + 1)
GoesOn other before after = after ≡ record before { place = before.place + 1 }
