use Rattle.split_ring.specs.Focus.{seat_of}
use Rattle.split_ring.proofs.EndSteps.{rest_claims, rest_claimed, claim_finds}
use Rattle.split_ring.proofs.SeatEnds.{leaves_then}
use Rattle.split_ring.proofs.links.SharedLink.end_holder.Goals as goal

pub claim-requires-clause-call : goal.claim-requires-clause-call
claim-requires-clause-call g c = rest_claims c.args.who (seat_of c.args.who.number c.args.seat.now.me) c.requires.rests

pub find_end-requires-clause-turn : goal.find_end-requires-clause-turn
find_end-requires-clause-turn g c =
    let who = c.args.who in let me = seat_of c.args.who.number c.args.seat.now.me in let at = c.requires.rests in let me1 = seat_of c.args.who.number c.claim.new.seat.me in let t = c.in_default.ensures.claimed in
    claim_finds who me at me1 t.0 (rest_claimed who me at me1 t.0 t.1)

pub returns-in-Err-find_end-clause-leaves : goal.returns-in-Err-find_end-clause-leaves
returns-in-Err-find_end-clause-leaves g c =
    let n = c.args.who.number in let me = c.args.seat.now.me in let me2 = c.find_end.new.seat.me in
    leaves_then n me me2 c.quit.new.seat.me (leaves_then n me c.claim.new.seat.me me2 c.claim.ensures.alone.leaves c.find_end.ensures.alone.leaves) c.quit.ensures.alone.leaves

pub returns-clause-leaves : goal.returns-clause-leaves
returns-clause-leaves g c =
    let n = c.args.who.number in let me = c.args.seat.now.me in let me2 = c.find_end.new.seat.me in
    leaves_then n me me2 c.quit_empty.new.seat.me (leaves_then n me c.claim.new.seat.me me2 c.claim.ensures.alone.leaves c.find_end.ensures.alone.leaves) c.quit_empty.ensures.alone.leaves
