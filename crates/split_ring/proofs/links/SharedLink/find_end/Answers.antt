use Rattle.std.proofs.Common.{refl}
use Rattle.link_words.specs.Calls.{place_of}
use Rattle.link_words.specs.Deeds.{Nothing}
use Rattle.link_words.specs.Steps.{HasWord}
use Rattle.split_ring.specs.Focus.{seat_of}
use Rattle.split_ring.proofs.AloneEnds.{deed_known, finds_alone, may_find_alone}
use Rattle.split_ring.proofs.EndSteps.{found_closed}
use Rattle.split_ring.proofs.links.SharedLink.find_end.Goals as goal

pub find_closed-requires-clause-turn : goal.find_closed-requires-clause-turn
find_closed-requires-clause-turn g c = may_find_alone c.args.number c.args.seat.now.me c.requires.seat.order c.requires.turn.0 c.requires.turn.1

pub returns-else-era-clause-closed : goal.returns-else-era-clause-closed
returns-else-era-clause-closed g c =
    let n = c.args.number in let me = c.args.seat.now.me in let me' = c.find_closed.new.seat.me in let y = c.find_closed.result in
    found_closed (seat_of n me) (seat_of n me') y c.era_of-era.result c.requires.turn.0 (finds_alone n me c.requires.seat.order c.requires.turn.0 me' y c.requires.turn.1 c.find_closed.ensures.told).0 c.era_of-era.ensures c.if-era.false

pub returns-then-era-clause-alone : goal.returns-then-era-clause-alone
returns-then-era-clause-alone g c =
    let n = c.args.number in let me = c.args.seat.now.me in let me' = c.find_closed.new.seat.me in let y = c.find_closed.result in
    let leaves = (finds_alone n me c.requires.seat.order c.requires.turn.0 me' y c.requires.turn.1 c.find_closed.ensures.told).1 in
    record { leaves = leaves; knows = deed_known g.row.D.coded g.D.Desk.meaning n (place_of me) Nothing Nothing me me.1 me' me' (HasWord 16 y) refl c.find_closed.ensures.step refl leaves }

pub returns-else-era-clause-alone : goal.returns-else-era-clause-alone
returns-else-era-clause-alone g c =
    let n = c.args.number in let me = c.args.seat.now.me in let me' = c.find_closed.new.seat.me in let y = c.find_closed.result in
    let leaves = (finds_alone n me c.requires.seat.order c.requires.turn.0 me' y c.requires.turn.1 c.find_closed.ensures.told).1 in
    record { leaves = leaves; knows = deed_known g.row.D.coded g.D.Desk.meaning n (place_of me) Nothing Nothing me me.1 me' me' (HasWord 16 y) refl c.find_closed.ensures.step refl leaves }
