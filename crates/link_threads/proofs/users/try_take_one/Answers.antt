use Rattle.std.proofs.Common.{◌∙◌}
use Rattle.link_threads.proofs.Takes.{took}
use Rattle.link_threads.proofs.users.try_take_one.Goals as goal

pub returns-clause-taken : goal.returns-clause-taken
returns-clause-taken g c =
    took g.row.D.coded g.D.Desk.meaning c.in-Ok.field-0 c.number-number.result c.copy-message.result c.args.caller.now c.try_take.new.caller c.give_back.new.caller c.number-number.ensures
    (c.copy-message.ensures.copied ∙ c.message.ensures) c.try_take.ensures.caller.0 c.give_back.ensures.caller.0 c.in-Ok.ensures.walk c.give_back.ensures.grown
