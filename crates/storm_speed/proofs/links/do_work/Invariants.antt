use Rattle.split_ring.specs.Callers.{IsCallerOf}
use Rattle.storm_speed.proofs.links.do_work.Given as goal

-- the caller is in no call
abbrev pub invariant-loop : goal.invariant-loop
invariant-loop g l = IsCallerOf l.link l.caller
