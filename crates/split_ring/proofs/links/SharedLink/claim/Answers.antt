use Rattle.std.proofs.Common.{◌≡◌, ◌+◌, ◌-◌, sym, ap, ◌∙◌, subst, arith}
use Rattle.link_words.specs.Calls.{SeatState}
use Rattle.link_words.specs.Reclaims.{MayClaim}
use Rattle.split_ring.specs.Carried.{turned_by}
use Rattle.split_ring.specs.Focus.{count_of}
use Rattle.split_ring.proofs.AloneEnds.{claims_busy, claims_free, may_claim_alone, own_least}
use Rattle.split_ring.proofs.EndSteps.{anothers}
use Rattle.split_ring.proofs.links.SharedLink.claim.Goals as goal

pub claim_turn-found-requires-clause-caller : goal.claim_turn-found-requires-clause-caller
claim_turn-found-requires-clause-caller g c =
    let who = c.args.who in let me = c.args.seat.now.me in
    subst (λ (s : SeatState). MayClaim s who.end who.number) (sym c.turn_by.ensures.turned) (may_claim_alone who me c.requires.pass.0 c.requires.call (turned_by c.args.own me.1) c.requires.pass.1)

pub overflow_sub-all-else-found-eq0 : goal.overflow_sub-all-else-found-eq0
overflow_sub-all-else-found-eq0 g c = let me = c.args.seat.now.me in let least = own_least (count_of c.args.who.number me) c.args.own c.args.all me.1 c.requires.slots.0 c.requires.slots.1 in omega (arith, least)

pub returns-then-found-eq0-clause-claimed : goal.returns-then-found-eq0-clause-claimed
returns-then-found-eq0-clause-claimed g c =
    let who = c.args.who in let me = c.args.seat.now.me in let own = c.args.own in let all = c.args.all in let f = c.claim_turn-found in
    (claims_free g.row.D.coded g.D.Desk.meaning who me c.requires.pass.0 c.requires.call own all c.requires.slots.0 c.requires.slots.1 c.turn_by.new.seat.me f.new.seat.me c.turn_by-then-found-eq0.new.seat.me c.turn_by.ensures.turned f.result f.ensures.told f.ensures.step
    c.if-found-eq0.true (c.turn_by-then-found-eq0.ensures.turned ∙ ap (λ (s : SeatState). (s.0, turned_by (all - own) s.1)) c.turn.ensures.2)).0

pub returns-then-found-eq0-clause-alone : goal.returns-then-found-eq0-clause-alone
returns-then-found-eq0-clause-alone g c =
    let who = c.args.who in let me = c.args.seat.now.me in let own = c.args.own in let all = c.args.all in let f = c.claim_turn-found in
    (claims_free g.row.D.coded g.D.Desk.meaning who me c.requires.pass.0 c.requires.call own all c.requires.slots.0 c.requires.slots.1 c.turn_by.new.seat.me f.new.seat.me c.turn_by-then-found-eq0.new.seat.me c.turn_by.ensures.turned f.result f.ensures.told f.ensures.step
    c.if-found-eq0.true (c.turn_by-then-found-eq0.ensures.turned ∙ ap (λ (s : SeatState). (s.0, turned_by (all - own) s.1)) c.turn.ensures.2)).1

pub returns-else-found-eq0-clause-busy : goal.returns-else-found-eq0-clause-busy
returns-else-found-eq0-clause-busy g c =
    let who = c.args.who in let me = c.args.seat.now.me in let own = c.args.own in let all = c.args.all in let f = c.claim_turn-found in let busy = c.if-found-eq0.false in let is : f.result ≡ f.result - 1 + 1 = omega arith in (
      (claims_busy g.row.D.coded g.D.Desk.meaning who me c.requires.pass.0 c.requires.call own all c.requires.slots.0 c.requires.slots.1 c.turn_by.new.seat.me f.new.seat.me c.turn_by-else-found-eq0.new.seat.me c.turn_by.ensures.turned f.result f.ensures.told f.ensures.step
          busy c.turn_by-else-found-eq0.ensures.turned).0,
      anothers g.row.D.coded g.D.Desk.meaning c.turn_by.new.seat.me f.new.seat.me who f.result (f.result - 1) is f.ensures.step,
    )

pub returns-else-found-eq0-clause-alone : goal.returns-else-found-eq0-clause-alone
returns-else-found-eq0-clause-alone g c =
    let who = c.args.who in let me = c.args.seat.now.me in let own = c.args.own in let all = c.args.all in let f = c.claim_turn-found in
    (claims_busy g.row.D.coded g.D.Desk.meaning who me c.requires.pass.0 c.requires.call own all c.requires.slots.0 c.requires.slots.1 c.turn_by.new.seat.me f.new.seat.me c.turn_by-else-found-eq0.new.seat.me c.turn_by.ensures.turned f.result f.ensures.told f.ensures.step
    c.if-found-eq0.false c.turn_by-else-found-eq0.ensures.turned).1
