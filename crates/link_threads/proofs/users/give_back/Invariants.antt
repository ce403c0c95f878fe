use Rattle.split_ring.specs.Callers.{Holds, IsAfterCall}
use Rattle.link_threads.specs.Lives.{HasGrown}
use Rattle.link_threads.proofs.users.give_back.Given as goal

-- the caller is in no call, and has the buffer in hand
abbrev pub invariant-loop : goal.invariant-loop
invariant-loop g l = record {
  after : IsAfterCall l.link l.fn.caller l.caller;
  holds : Holds l.caller l.held;
  grown : HasGrown l.fn.caller l.caller;
}
