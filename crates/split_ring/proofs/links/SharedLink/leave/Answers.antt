use Rattle.std.proofs.Common.{ap, ◌∙◌}
use Rattle.link_words.specs.declared.rule.View.{View}
use Rattle.link_words.specs.Layouts.{place_in}
use Rattle.link_words.specs.Steps.{StoresWord, turn_number}
use Rattle.split_ring.specs.Focus.{seat_of}
use Rattle.split_ring.proofs.AloneSteps.{may_leave, left_done}
use Rattle.split_ring.proofs.Seats.{stores}
use Rattle.split_ring.proofs.TurnSteps.{ends_at, leaves}
use Rattle.split_ring.proofs.links.SharedLink.leave.Goals as goal

pub leave_turn-requires-clause-call : goal.leave_turn-requires-clause-call
leave_turn-requires-clause-call g c = let n = c.args.number in let me = c.args.seat.now.me in may_leave n me me c.requires.seat.order c.args.turn c.args.lane (ends_at c.args.turn c.args.lane (seat_of n me) c.requires.call)

pub returns-clause-seat : goal.returns-clause-seat
returns-clause-seat g c =
    let n = c.args.number in let me = c.args.seat.now.me in let me' = c.leave_turn.new.seat.me in let place = place_in (turn_number c.args.turn c.args.lane) in
    let all = left_done g.row.D.coded g.D.Desk.meaning n me me' c.requires.seat.order c.args.turn c.args.lane (StoresWord place 0) (ends_at c.args.turn c.args.lane (seat_of n me) c.requires.call) c.leave_turn.ensures.told c.leave_turn.ensures.step in
    record { at_table = c.leave_turn.ensures.same.0 ∙ c.requires.seat.at_table; told = ap (λ (v : View). v.sizes) all.2.leaves.view ∙ c.requires.seat.told; order = c.leave_turn.ensures.order }

pub returns-clause-alone : goal.returns-clause-alone
returns-clause-alone g c =
    let n = c.args.number in let me = c.args.seat.now.me in let me' = c.leave_turn.new.seat.me in let place = place_in (turn_number c.args.turn c.args.lane) in
    (left_done g.row.D.coded g.D.Desk.meaning n me me' c.requires.seat.order c.args.turn c.args.lane (StoresWord place 0) (ends_at c.args.turn c.args.lane (seat_of n me) c.requires.call) c.leave_turn.ensures.told c.leave_turn.ensures.step).2

pub returns-clause-left : goal.returns-clause-left
returns-clause-left g c =
    let n = c.args.number in let me = c.args.seat.now.me in let me' = c.leave_turn.new.seat.me in let place = place_in (turn_number c.args.turn c.args.lane) in
    let all = left_done g.row.D.coded g.D.Desk.meaning n me me' c.requires.seat.order c.args.turn c.args.lane (StoresWord place 0) (ends_at c.args.turn c.args.lane (seat_of n me) c.requires.call) c.leave_turn.ensures.told c.leave_turn.ensures.step in
    leaves g.row.D.coded g.D.Desk.meaning c.args.turn c.args.lane (seat_of n me) (seat_of n me') c.requires.call all.0 (stores g.row.D.coded g.D.Desk.meaning (seat_of n me) (seat_of n me') place 0 all.1)
