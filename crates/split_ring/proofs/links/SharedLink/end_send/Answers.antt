use Rattle.std.proofs.Common.{subst}
use Rattle.link_words.specs.PlacedLinks.{KnowsState}
use Rattle.split_ring.specs.Focus.{seat_of}
use Rattle.split_ring.proofs.EndSteps.{send_finds}
use Rattle.split_ring.proofs.SeatEnds.{leaves_then, takes_nothing}
use Rattle.split_ring.proofs.links.SharedLink.end_send.Goals as goal

pub find_end-requires-clause-turn : goal.find_end-requires-clause-turn
find_end-requires-clause-turn g c = send_finds c.args.self.now.sizes c.args.who c.requires.stands.0 (seat_of c.args.who.number c.args.seat.now.me) c.requires.stands.1 c.requires.seat.told

pub returns-then-not-is_holding-clause-leaves : goal.returns-then-not-is_holding-clause-leaves
returns-then-not-is_holding-clause-leaves g c = leaves_then c.args.who.number c.args.seat.now.me c.find_end.new.seat.me c.quit.new.seat.me c.find_end.ensures.alone.leaves c.quit.ensures.alone.leaves

pub returns-in-Err-claim-clause-leaves : goal.returns-in-Err-claim-clause-leaves
returns-in-Err-claim-clause-leaves g c = leaves_then c.args.who.number c.args.seat.now.me c.find_end.new.seat.me c.claim.new.seat.me c.find_end.ensures.alone.leaves c.claim.ensures.alone.leaves

pub returns-clause-leaves : goal.returns-clause-leaves
returns-clause-leaves g c =
    let n = c.args.who.number in let me = c.args.seat.now.me in let me1 = c.find_end.new.seat.me in let me2 = c.claim.new.seat.me in let me3 = c.quit-2.new.seat.me in
    leaves_then n me me3 c.quit_empty.new.seat.me (leaves_then n me me2 me3 (leaves_then n me me1 me2 c.find_end.ensures.alone.leaves c.claim.ensures.alone.leaves) c.quit-2.ensures.alone.leaves) c.quit_empty.ensures.alone.leaves

pub returns-in-Err-claim-clause-met : goal.returns-in-Err-claim-clause-met
returns-in-Err-claim-clause-met g c m knows closed =
    let here = c.find_end.ensures.alone.knows m knows in let is = c.in-Err-claim.ensures.met m here in
    (is, subst (KnowsState g.row.D.coded c.claim.new.seat.me.0) (takes_nothing g.D.Desk.meaning c.args.who.end c.in-Err-claim.holder m is) (c.claim.ensures.alone.knows m here))
