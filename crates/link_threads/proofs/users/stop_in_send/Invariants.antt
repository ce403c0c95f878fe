use Rattle.std.proofs.Common.{◌≡◌}
use Rattle.split_ring.specs.Callers.{MayAdvance}
use Rattle.link_threads.proofs.Sends.{SendsOn}
use Rattle.link_threads.proofs.users.stop_in_send.Given as goal

-- the call goes on, behind so many steps
abbrev pub invariant-loop-step : goal.invariant-loop-step
invariant-loop-step g l = record {
  id : l.caller.id ≡ l.fn.caller.id;
  may : MayAdvance l.link l.caller l.call;
  sends : SendsOn g.row.D.coded g.D.Desk.meaning l.link.sizes l.fn.caller.id l.fn.message l.fn.caller.seat.me l.step l.call.phase l.caller.seat.me;
}
