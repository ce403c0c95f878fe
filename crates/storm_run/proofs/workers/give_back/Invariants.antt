use Rattle.std.proofs.Common.{◌≡◌, [], ◌∷◌}
use Rattle.split_ring.specs.Callers.{Holds, IsCallerOf}
use Rattle.split_ring.specs.Seats.{pass_in}
use Rattle.storm_run.specs.Rounds.{HasSent}
use Rattle.storm_run.proofs.workers.give_back.Given as goal

-- the caller is in no call, holds this buffer alone, and has sent nothing
abbrev pub invariant-loop : goal.invariant-loop
invariant-loop g l = record {
  rests : IsCallerOf l.link l.caller;
  holds : Holds l.caller l.held;
  alone : (pass_in l.caller.seat.me).hands ≡ l.held.number ∷ [];
  sent : HasSent [] l.fn.caller l.caller;
}
