use Rattle.std.proofs.Common.{◌≡◌, ℕ, ap, ◌∙◌, subst, arith}
use Rattle.storm_run.specs.Rounds.{HasSent, storm_messages}
use Rattle.storm_run.specs.Tasks.{least_in}
use Rattle.storm_run.proofs.Moves.{none_sent, sent_still, worked}
use Rattle.storm_run.proofs.workers.work.Goals as goal

pub loop-init : goal.loop-init
loop-init g c = record { free = c.requires; most = omega arith; sent = none_sent c.args.caller.now }

pub loop-preserved-in-Message-1 : goal.loop-preserved-in-Message-1
loop-preserved-in-Message-1 g c = record {
  free = c.take_next.ensures.free;
  most = c.send_left-sent.ensures.most;
  sent = sent_still (storm_messages c.args.caller.now.id.number c.send_left-sent.result) c.args.caller.now c.send_left-sent.new.caller c.take_next.new.caller
      (c.send_left-sent.ensures.sent c.args.caller.now c.loop.invariant.sent) c.take_next.ensures.turned.sent;
}

pub returns-in-Empty : goal.returns-in-Empty
returns-in-Empty g c =
    let a = c.args.caller.now in let b = c.send_left-sent.new.caller in
    let least : c.least-least.result ≡ least_in c.args.task a.id.end = c.least-least.ensures ∙ ap (least_in c.args.task) c.end.ensures in
    let from = c.from.ensures in let above = c.if-from-least.true in
    worked c.args.link.now c.args.task.count (least_in c.args.task a.id.end) c.in-Empty.accepted a b c.take_next.new.caller c.take_next.ensures.free
    (subst (λ (n : ℕ). HasSent (storm_messages a.id.number n) a b) c.if-sent-task.true (c.send_left-sent.ensures.sent a c.loop.invariant.sent)) c.in-Empty.ensures.turned (omega arith)

pub loop-preserved : goal.loop-preserved
loop-preserved g c = record {
  free = c.take_next.ensures.free;
  most = c.send_left-sent.ensures.most;
  sent = sent_still (storm_messages c.args.caller.now.id.number c.send_left-sent.result) c.args.caller.now c.send_left-sent.new.caller c.take_next.new.caller
      (c.send_left-sent.ensures.sent c.args.caller.now c.loop.invariant.sent) c.take_next.ensures.turned.sent;
}
