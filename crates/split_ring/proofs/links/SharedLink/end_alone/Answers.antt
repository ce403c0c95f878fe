use Rattle.std.proofs.Common.{sym, subst}
use Rattle.split_ring.specs.Reclaims.{HasTurnHeld}
use Rattle.split_ring.proofs.SeatEnds.{held_alone}
use Rattle.split_ring.proofs.Focusing.{alone_same}
use Rattle.split_ring.proofs.links.SharedLink.end_alone.Goals as goal

pub end_call-requires-clause-stands : goal.end_call-requires-clause-stands
end_call-requires-clause-stands g c =
    let z = c.args.self.now.sizes in let who = c.args.who in let me = c.args.seat.now.me in let alone = (held_alone z who c.args.turn me c.requires.stands c.requires.number.0).0 in
    subst (HasTurnHeld z who c.args.turn) (sym (alone_same who.number me alone)) c.requires.stands
