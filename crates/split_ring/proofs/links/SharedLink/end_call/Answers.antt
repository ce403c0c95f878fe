use Rattle.split_ring.proofs.SeatEnds.{leaves_none}
use Rattle.split_ring.proofs.links.SharedLink.end_call.Goals as goal

pub returns-else-is_holding-clause-leaves : goal.returns-else-is_holding-clause-leaves
returns-else-is_holding-clause-leaves g c = leaves_none c.args.who.number c.args.seat.now.me
