use Rattle.std.proofs.Common.{◌≤◌}
use Rattle.storm_run.specs.Rounds.{HasSent, IsFree, storm_messages}
use Rattle.storm_run.proofs.workers.work.Given as goal

-- the caller is free, and has sent its first messages
abbrev pub invariant-loop : goal.invariant-loop
invariant-loop g l = record {
  free : IsFree l.link l.caller;
  most : l.sent ≤ l.task.count;
  sent : HasSent (storm_messages l.fn.caller.id.number l.sent) l.fn.caller l.caller;
}
