use Rattle.split_ring.specs.Callers.{IsAfterCall}
use Rattle.split_ring.proofs.Waiting.{HasTried}
use Rattle.split_ring.proofs.links.SharedLink.send.Given as goal

-- the caller is in no call, and each of its tries was answered Busy
abbrev pub invariant-loop : goal.invariant-loop
invariant-loop g l = IsAfterCall l.self l.fn.caller l.caller × HasTried g.row.D.coded g.D.Desk.meaning l.fn.caller.seat.me l.caller.seat.me
