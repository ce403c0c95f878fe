-- The message that a call was handed (own).
use Rattle.std.specs.Prelude.{◌≡◌, ℕ, true, false}
use Rattle.lane_model.specs.declared.calls.CallEnd.{CallEnd}
use Rattle.lane_model.specs.declared.calls.CallEnd.TheVariants as end
use Rattle.lane_model.specs.declared.calls.Step.{Step}
use Rattle.lane_model.specs.declared.calls.Step.TheVariants as step
use Rattle.lane_model.specs.Conditions.{is_calling, is_holding}
use Rattle.lane_model.specs.Links.{LinkState}
use Rattle.channel_bus.specs.Sides.{EndState}

-- where a call of this caller ended with a message, the caller holds its buffer and is in no call
abbrev pub HoldsTaken : LinkState EndState → ℕ → CallEnd → Type 0
HoldsTaken link caller (end.Sent number) = Unit {0}
HoldsTaken link caller (end.Took number verdict) = (is_holding link caller number ≡ true) × (is_calling link caller ≡ false)
HoldsTaken link caller (end.Gave number) = Unit {0}
HoldsTaken link caller (end.Bound endpoint) = Unit {0}
HoldsTaken link caller (end.Unbound endpoint) = Unit {0}
HoldsTaken link caller (end.Busy holder) = Unit {0}
HoldsTaken link caller (end.Dead era) = Unit {0}
HoldsTaken link caller (end.NoBuffer accepted returned) = Unit {0}
HoldsTaken link caller (end.BookFull accepted) = Unit {0}
HoldsTaken link caller (end.Empty accepted) = Unit {0}
HoldsTaken link caller (end.Refused fault) = Unit {0}

-- the same of a step, where it ended the call
abbrev pub HoldsStepTaken : LinkState EndState → ℕ → Step → CallEnd → Type 0
HoldsStepTaken link caller (step.At number) end = Unit {0}
HoldsStepTaken link caller step.Ended end = HoldsTaken link caller end
