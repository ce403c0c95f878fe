use Rattle.std.proofs.Common.{refl}
use Rattle.link_words.specs.Calls.{call_at, number_at, place_of}
use Rattle.link_words.specs.Layouts.{place_in}
use Rattle.link_words.specs.Reclaims.{ending_of}
use Rattle.link_words.specs.Steps.{StoresWord, turn_number}
use Rattle.split_ring.specs.Focus.{seat_of}
use Rattle.split_ring.specs.Seats.{pass_in}
use Rattle.split_ring.proofs.AloneEnds.{deed_known, ended_alone, ending_here, may_leave_alone}
use Rattle.split_ring.proofs.links.SharedLink.quit.Goals as goal

pub leave_ended-requires-clause-call : goal.leave_ended-requires-clause-call
leave_ended-requires-clause-call g c = may_leave_alone c.args.number c.args.seat.now.me c.requires.seat.order c.requires.turn.0 c.args.turn c.args.lane c.requires.turn.1

pub returns-clause-left : goal.returns-clause-left
returns-clause-left g c = (ended_alone c.args.number c.args.seat.now.me c.requires.seat.order c.requires.turn.0 c.leave_ended.new.seat.me c.leave_ended.ensures.told).0

pub returns-clause-alone : goal.returns-clause-alone
returns-clause-alone g c =
    let n = c.args.number in let me = c.args.seat.now.me in let me' = c.leave_ended.new.seat.me in let k = place_of me in let order = c.requires.seat.order in let stands = c.requires.turn.0 in
    let leaves = (ended_alone n me order stands me' c.leave_ended.ensures.told).1 in
    record {
      leaves = leaves;
      knows = deed_known g.row.D.coded g.D.Desk.meaning n k (ending_of (call_at k me.0.passes) (number_at k me.0.passes)) (ending_of (pass_in (seat_of n me)).call n) me me.1 me' me' (StoresWord (place_in (turn_number c.args.turn c.args.lane)) 0) (ending_here n me order stands)
          c.leave_ended.ensures.step refl leaves;
    }
