use Rattle.std.proofs.Common.{[], false, refl}
use Rattle.link_words.specs.declared.rule.Call.TheVariants.{EndsReceive}
use Rattle.split_ring.specs.Seats.{pass_in}
use Rattle.split_ring.specs.Focus.{seat_of}
use Rattle.split_ring.proofs.EndSteps.{receive_finds, receive_doomed, doomed_receive, receive_holds, ended_then, pass_is}
use Rattle.split_ring.proofs.SeatEnds.{leaves_then}
use Rattle.split_ring.proofs.links.SharedLink.end_receive.Goals as goal

pub find_end-requires-clause-turn : goal.find_end-requires-clause-turn
find_end-requires-clause-turn g c = receive_finds c.args.self.now.sizes c.args.who false (seat_of c.args.who.number c.args.seat.now.me) c.requires.stands

pub quit_empty-requires-clause-holds : goal.quit_empty-requires-clause-holds
quit_empty-requires-clause-holds g c =
    let z = c.args.self.now.sizes in let who = c.args.who in let me = seat_of c.args.who.number c.args.seat.now.me in let h = c.requires.stands in let me1 = seat_of c.args.who.number c.find_end.new.seat.me in
    receive_holds z who false me h me1 c.requires.number refl (receive_doomed z who false me h me1 c.in_default.ensures.closed)

pub returns-clause-ended : goal.returns-clause-ended
returns-clause-ended g c =
    let z = c.args.self.now.sizes in let who = c.args.who in let me = seat_of c.args.who.number c.args.seat.now.me in let h = c.requires.stands in let me1 = seat_of c.args.who.number c.find_end.new.seat.me in
    let now = receive_doomed z who false me h me1 c.in_default.ensures.closed in
    ended_then who (EndsReceive who.end h.turn h.side h.buffer h.message) [] (pass_in me) (pass_in me1) me me1 (seat_of c.args.who.number c.quit_empty.new.seat.me) (pass_is me1 (doomed_receive z who false me h) now.one) now.sizes c.quit_empty.ensures.left

pub returns-clause-leaves : goal.returns-clause-leaves
returns-clause-leaves g c = leaves_then c.args.who.number c.args.seat.now.me c.find_end.new.seat.me c.quit_empty.new.seat.me c.find_end.ensures.alone.leaves c.quit_empty.ensures.alone.leaves
