-- A caller that takes its calls step by step (own).
use Rattle.std.specs.Prelude.{Option, Some, None}
use Rattle.channel_bus.specs.declared.sides.Side.{Side}
use Rattle.split_ring.specs.declared.callers.Caller.{Caller}
use Rattle.split_ring.specs.declared.calls.RingCall.{RingCall}
use Rattle.split_ring.specs.declared.links.SharedLink.{SharedLink}
use Rattle.split_ring.specs.Callers.{IsCallerOf, MayAdvance}

-- the call that is under way is one of this caller, which is in no call where there is none
abbrev pub IsBetween : SharedLink Side → Caller → Option (RingCall Side) → Type 0
IsBetween link caller None = IsCallerOf link caller
IsBetween link caller (Some call) = MayAdvance link caller call
