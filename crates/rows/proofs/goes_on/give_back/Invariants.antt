use Rattle.split_ring.specs.Callers.{Holds, IsCallerOf}
use Rattle.rows.proofs.goes_on.give_back.Given as goal

-- the caller is in no call, and has the buffer in hand
abbrev pub invariant-loop : goal.invariant-loop
invariant-loop l = IsCallerOf l.link l.caller × Holds l.caller l.held
