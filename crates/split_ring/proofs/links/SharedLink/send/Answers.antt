use Rattle.std.proofs.Common.{refl, sym, ◌∙◌}
use Rattle.split_ring.proofs.Waiting.{none_tried, send_tried, send_waited, send_waited_seen}
use Rattle.split_ring.proofs.links.SharedLink.send.Goals as goal

pub loop-init : goal.loop-init
loop-init g c = ((refl, c.requires), none_tried g.row.D.coded g.D.Desk.meaning c.args.caller.now.seat.me)

pub loop-preserved : goal.loop-preserved
loop-preserved g c = (
  (c.try_send-answer.ensures.caller.0 ∙ c.loop.invariant.0.0, c.try_send-answer.ensures.caller.1),
  send_tried g.row.D.coded g.D.Desk.meaning c.args.self.now.sizes c.loop.caller.id c.args.message.now c.try_send-answer.result c.args.caller.now.seat.me c.loop.caller.seat.me c.try_send-answer.new.caller.seat.me
      c.loop.invariant.1 c.try_send-answer.ensures.walk (sym c.is_send_busy.ensures ∙ c.if-not-is_send_busy.false),
)

pub returns-then-not-is_send_busy-clause-walks : goal.returns-then-not-is_send_busy-clause-walks
returns-then-not-is_send_busy-clause-walks g c =
    send_waited g.row.D.coded g.D.Desk.meaning c.args.self.now.sizes c.args.caller.now.id c.loop.caller.id c.args.message.now c.try_send-answer.result c.args.caller.now.seat.me c.loop.caller.seat.me c.try_send-answer.new.caller.seat.me
    c.loop.invariant.0.0 c.loop.invariant.1 c.try_send-answer.ensures.walk (sym c.is_send_busy.ensures ∙ c.if-not-is_send_busy.true)

pub returns-then-not-is_send_busy-clause-seen : goal.returns-then-not-is_send_busy-clause-seen
returns-then-not-is_send_busy-clause-seen g c =
    send_waited_seen g.row.D.coded g.D.Desk.meaning c.args.caller.now.id c.loop.caller.id c.try_send-answer.result c.args.caller.now.seat.me c.loop.caller.seat.me
    c.loop.invariant.0.0 c.loop.invariant.1 c.try_send-answer.ensures.seen
