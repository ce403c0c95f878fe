use Rattle.std.proofs.Common.{[], refl}
use Rattle.lane_model.specs.declared.stages.TakeStage.TheVariants as take_stage
use Rattle.lane_model.specs.declared.stages.Work.TheVariants as work
use Rattle.link_words.specs.Layouts.{place_in}
use Rattle.link_words.specs.Words.{forward_word}
use Rattle.split_ring.specs.Turns.{receive_slots}
use Rattle.split_ring.proofs.Seats.{finds}
use Rattle.split_ring.proofs.TakeSteps.{alone, work_at, finds_message, finds_empty}
use Rattle.split_ring.specs.Focus.{seat_of}
use Rattle.split_ring.proofs.links.SharedLink.look_for_message.Goals as goal

pub load_index-index-requires-clause-call : goal.load_index-index-requires-clause-call
load_index-index-requires-clause-call g c =
    let me = seat_of c.args.call.now.who.number c.args.seat.now.me in let who = c.args.call.now.who in let q = c.requires.call in let w = work.Take take_stage.Era in
    work_at me who w q.side 0 [] (receive_slots who q.side) q.at (alone me who w q.side 0 [] q.at)

pub returns-then-waiting_messages-eq0-clause-empty : goal.returns-then-waiting_messages-eq0-clause-empty
returns-then-waiting_messages-eq0-clause-empty g c =
    let me = seat_of c.args.call.now.who.number c.args.seat.now.me in let me' = seat_of c.args.call.now.who.number c.load_index-index.new.seat.me in let n = c.load_index-index.result in let call = c.args.call.now in
    let all = finds_empty g.row.D.coded g.D.Desk.meaning c.args.self.now.sizes me me' call n c.waiting_messages.result c.requires.seat.told c.args.self.now.fits.opens c.requires.call c.load_index-index.ensures.told
    (finds g.row.D.coded g.D.Desk.meaning me me' (place_in (forward_word call.who.end)) n c.load_index-index.ensures.step) c.waiting_messages.ensures c.if-waiting_messages-eq0.true in
    (refl, all.0, all.1)

pub returns-else-waiting_messages-eq0-clause-message : goal.returns-else-waiting_messages-eq0-clause-message
returns-else-waiting_messages-eq0-clause-message g c =
    let me = seat_of c.args.call.now.who.number c.args.seat.now.me in let me' = seat_of c.args.call.now.who.number c.load_index-index.new.seat.me in let n = c.load_index-index.result in let call = c.args.call.now in
    finds_message g.row.D.coded g.D.Desk.meaning c.args.self.now.sizes me me' call n c.waiting_messages.result c.requires.seat.told c.args.self.now.fits.opens c.requires.call c.load_index-index.ensures.told
    (finds g.row.D.coded g.D.Desk.meaning me me' (place_in (forward_word call.who.end)) n c.load_index-index.ensures.step) c.waiting_messages.ensures c.if-waiting_messages-eq0.false
