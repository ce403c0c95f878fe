use Rattle.std.proofs.Common.{ℕ, ap, ◌∙◌}
use Rattle.storm_run.specs.Rounds.{storm_message, storm_messages}
use Rattle.storm_run.proofs.Moves.{sent_next, sent_still, sent_one, sent_none}
use Rattle.storm_run.proofs.workers.send_left.Goals as goal

pub returns-in-Ok-clause-sent : goal.returns-in-Ok-clause-sent
returns-in-Ok-clause-sent g c = λ first so_far.
    sent_next c.args.sent c.storm_message-message.result first c.args.caller.now c.send.new.caller (c.storm_message-message.ensures ∙ ap (λ (n : ℕ). storm_message n c.args.sent) c.number.ensures)
    (sent_one _ _ _ c.storm_message-message.result c.in-Ok.field-0 c.args.caller.now c.send.new.caller c.send.ensures.caller.0 c.in-Ok.ensures.walks) so_far

pub returns-in-Err-clause-sent : goal.returns-in-Err-clause-sent
returns-in-Err-clause-sent g c = λ first so_far.
    sent_still (storm_messages first.id.number c.args.sent) first c.args.caller.now c.send.new.caller so_far
    (sent_none _ _ _ c.storm_message-message.result c.in-Err.field-0 c.args.caller.now c.send.new.caller c.send.ensures.caller.0 c.in-Err.ensures.walks)
