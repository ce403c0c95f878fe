use Rattle.std.specs.Prelude.{All}
use Rattle.split_ring.specs.Callers.{IsCallerOf, IsManagerOf}
use Rattle.storm_speed.proofs.links.callers.Given as goal

-- each caller is one of the link, in no call
abbrev pub invariant-loop-place : goal.invariant-loop-place
invariant-loop-place l = record {
  manager : IsManagerOf l.link l.manager;
  callers : All (λ caller. IsCallerOf l.link caller) l.callers.items;
}
