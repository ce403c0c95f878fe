use Rattle.split_ring.specs.Callers.{MayAdvance}
use Rattle.link_threads.proofs.turns.step.Given as goal

-- the call goes on
abbrev pub invariant-loop : goal.invariant-loop
invariant-loop l = MayAdvance l.link l.caller l.call
