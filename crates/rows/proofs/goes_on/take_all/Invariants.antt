use Rattle.split_ring.specs.Callers.{IsCallerOf}
use Rattle.rows.proofs.goes_on.take_all.Given as goal

-- the caller is in no call
abbrev pub invariant-loop : goal.invariant-loop
invariant-loop l = IsCallerOf l.link l.caller
