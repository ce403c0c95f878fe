use Rattle.split_ring.specs.Callers.{Holds, IsCallerOf}
use Rattle.storm_speed.proofs.links.give_back.Given as goal

-- the caller is in no call, and holds this buffer
abbrev pub invariant-loop : goal.invariant-loop
invariant-loop g l = record {
  rests : IsCallerOf l.link l.caller;
  holds : Holds l.caller l.held;
}
