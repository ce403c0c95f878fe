use Rattle.std.proofs.Common.{◌%◌}
use Rattle.link_words.specs.declared.rule.Ring.TheVariants as ring
use Rattle.link_words.specs.Layouts.{place_in}
use Rattle.link_words.specs.Words.{entry_number}
use Rattle.split_ring.proofs.Seats.{finds}
use Rattle.split_ring.proofs.TakeSteps.{entry_at, takes_filled}
use Rattle.split_ring.specs.Focus.{seat_of}
use Rattle.split_ring.proofs.links.SharedLink.take_filled.Goals as goal

pub load_entry-entry-requires-clause-call : goal.load_entry-entry-requires-clause-call
load_entry-entry-requires-clause-call g c = entry_at g.row.D.coded g.D.Desk.meaning (seat_of c.args.call.now.who.number c.args.seat.now.me) c.args.call.now c.requires.call

pub returns-clause-out : goal.returns-clause-out
returns-clause-out g c =
    let me = seat_of c.args.call.now.who.number c.args.seat.now.me in let me' = seat_of c.args.call.now.who.number c.load_entry-entry.new.seat.me in let n = c.load_entry-entry.result in let z = c.args.self.now.sizes in let call = c.args.call.now in
    (takes_filled g.row.D.coded g.D.Desk.meaning z me me' call (n % 4294967296) c.requires.seat.told c.requires.call c.load_entry-entry.ensures.told
    (finds g.row.D.coded g.D.Desk.meaning me me' (place_in (entry_number z call.who.end ring.Forward call.handed)) n c.load_entry-entry.ensures.step)).0

pub returns-clause-done : goal.returns-clause-done
returns-clause-done g c =
    let me = seat_of c.args.call.now.who.number c.args.seat.now.me in let me' = seat_of c.args.call.now.who.number c.load_entry-entry.new.seat.me in let n = c.load_entry-entry.result in let z = c.args.self.now.sizes in let call = c.args.call.now in
    (takes_filled g.row.D.coded g.D.Desk.meaning z me me' call (n % 4294967296) c.requires.seat.told c.requires.call c.load_entry-entry.ensures.told
    (finds g.row.D.coded g.D.Desk.meaning me me' (place_in (entry_number z call.who.end ring.Forward call.handed)) n c.load_entry-entry.ensures.step)).1
