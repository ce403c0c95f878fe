use Rattle.split_ring.specs.Callers.{IsCallerOf}
use Rattle.link_speed.proofs.triples.Given as goal

-- both callers are in no call
abbrev pub invariant-loop : goal.invariant-loop
invariant-loop l = IsCallerOf l.link l.sender × IsCallerOf l.link l.receiver
