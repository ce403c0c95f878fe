use Rattle.std.proofs.Common.{sym, subst}
use Rattle.split_ring.specs.Calls.{IsInPhase}
use Rattle.split_ring.specs.CallPhases.{Phase}
use Rattle.link_threads.proofs.turns.begin.Goals as goal

pub returns : goal.returns
returns c = let q = c.requires in record {
  seat = q.seat;
  number = q.number;
  low = q.low;
  stands = subst (λ (p : Phase). IsInPhase c.args.link.now.sizes c.args.caller.now.id p c.args.caller.now.seat.me) (sym c.begin.ensures) (q.rests, tt);
}
