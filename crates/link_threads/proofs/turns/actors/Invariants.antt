use Rattle.std.proofs.Common.{All}
use Rattle.split_ring.specs.Callers.{IsCallerOf, IsManagerOf}
use Rattle.link_threads.proofs.turns.actors.Given as goal

-- each actor's caller is one of the link
abbrev pub invariant-loop : goal.invariant-loop
invariant-loop l = IsManagerOf l.link l.manager × All (λ actor. IsCallerOf l.link actor.caller) l.actors.items
