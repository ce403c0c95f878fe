use Rattle.link_threads.specs.Actors.{IsBetween}
use Rattle.link_threads.proofs.turns.act_all.Given as goal

-- the call that is under way is the caller's
abbrev pub invariant-loop-place : goal.invariant-loop-place
invariant-loop-place l = IsBetween l.link l.caller l.call
