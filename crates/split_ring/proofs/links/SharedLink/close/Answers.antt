use Rattle.std.proofs.Common.{refl, ap}
use Rattle.link_words.specs.declared.rule.Made.TheVariants as made
use Rattle.link_words.specs.declared.rule.Pass.{Pass}
use Rattle.link_words.specs.Seats.{is_closed_behind}
use Rattle.split_ring.proofs.CloseSteps.{noted_once, noted_knowing, where_it_was}
use Rattle.split_ring.proofs.Seats.{mover_of}
use Rattle.split_ring.proofs.links.SharedLink.close.Goals as goal

pub close_once-requires-clause-pass : goal.close_once-requires-clause-pass
close_once-requires-clause-pass g c = mover_of c.args.caller.now.seat.me c.requires.one

pub close_once-requires-clause-seat : goal.close_once-requires-clause-seat
close_once-requires-clause-seat g c = c.requires.seat

pub returns-clause-own : goal.returns-clause-own
returns-clause-own g c =
    let q = c.requires in let x = c.close_once.ensures.closed in let me = c.args.caller.now.seat.me in let me' = c.close_once.new.seat.me in
    (x.era, x.answered, ap (λ (p : Pass). p.own) (noted_once (made.Close x.era) c.args.caller.now.id.number (record me.0 { is_closed = is_closed_behind c.args.inc x.era }, me.1) me' q.one q.number x.noted).pass)

pub returns-clause-caller : goal.returns-clause-caller
returns-clause-caller g c =
    let q = c.requires in let x = c.close_once.ensures.closed in let me = c.args.caller.now.seat.me in let me' = c.close_once.new.seat.me in
    where_it_was c.args.self.now c.args.caller.now (record { id = c.args.caller.now.id; seat = c.close_once.new.seat }) (made.Close x.era) refl c.close_once.ensures.same.0 (noted_knowing (made.Close x.era) (is_closed_behind c.args.inc x.era) me me' (noted_once (made.Close x.era) c.args.caller.now.id.number (record me.0 { is_closed = is_closed_behind c.args.inc x.era }, me.1) me' q.one q.number x.noted)) q
