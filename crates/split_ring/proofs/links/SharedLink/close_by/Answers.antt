use Rattle.std.proofs.Common.{◌∙◌, refl, sym}
use Rattle.link_words.specs.declared.rule.Made.TheVariants as made
use Rattle.link_words.specs.Calls.{SeatState}
use Rattle.link_words.specs.Passes.{place_of_number}
use Rattle.link_words.specs.Seats.{is_closed_behind}
use Rattle.split_ring.specs.declared.callers.Manager.{Manager}
use Rattle.split_ring.proofs.CarriedCloses.{carrier_closed, keeps_closed}
use Rattle.split_ring.proofs.CloseSteps.{known_closed, manages_noted}
use Rattle.split_ring.proofs.ManagerSteps.{closed_state}
use Rattle.split_ring.proofs.links.SharedLink.close_by.Goals as goal

pub close_once-requires-clause-pass : goal.close_once-requires-clause-pass
close_once-requires-clause-pass g c = let m = c.requires.manages in record { place = m.0; pass = m.1; here = m.2 }

pub close_once-requires-clause-seat : goal.close_once-requires-clause-seat
close_once-requires-clause-seat g c = record { at_table = c.requires.at_table; told = c.requires.told }

pub returns-clause-manager : goal.returns-clause-manager
returns-clause-manager g c =
    let x = c.close_once.ensures.closed in let before = c.args.manager.now in let after : Manager = record { seat = c.close_once.new.seat; users = before.users; out = before.out } in
    (carrier_closed c.args.self.now before after (made.Close x.era) (is_closed_behind c.args.inc x.era) x.noted refl refl (c.close_once.ensures.same.0 ∙ c.requires.at_table) c.close_once.ensures.order c.requires, refl)

pub returns-clause-others : goal.returns-clause-others
returns-clause-others g c =
    let x = c.close_once.ensures.closed in let before = c.args.manager.now in let after : Manager = record { seat = c.close_once.new.seat; users = before.users; out = before.out } in
    keeps_closed c.args.self.now before after (made.Close x.era) (is_closed_behind c.args.inc x.era) x.noted refl refl

pub returns-clause-known : goal.returns-clause-known
returns-clause-known g c same =
    let x = c.close_once.ensures.closed in let me = c.args.manager.now.seat.me in
    known_closed (made.Close x.era) (place_of_number 64 me.0.passes) c.args.inc x.era me c.close_once.new.seat.me x.noted (x.current c.requires.manages ∙ sym same)

pub returns-clause-state : goal.returns-clause-state
returns-clause-state g c = λ m is.
    let x = c.close_once.ensures.closed in let me = c.args.manager.now.seat.me in let me' = c.close_once.new.seat.me in
    let knows : SeatState = (record me.0 { is_closed = is_closed_behind c.args.inc x.era }, me.1) in
    closed_state g.row.D.coded g.D.Desk.meaning c.args.inc c.close_once.result c.args.manager.now (record { seat = c.close_once.new.seat; users = c.args.manager.now.users; out = c.args.manager.now.out }) m x
    (manages_noted (made.Close x.era) (place_of_number 64 me.0.passes) knows me' x.noted c.requires.manages) refl is
