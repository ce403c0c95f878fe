use Rattle.std.proofs.Common.{Some}
use Rattle.link_bench.specs.Benches.{lists_of}
use Rattle.link_bench.proofs.Lists.{step_lists}
use Rattle.link_bench.proofs.Walks.{others_after}
use Rattle.link_bench.proofs.steps.call_steps.Goals as goal

pub returns-in-At-clause-others : goal.returns-in-At-clause-others
returns-in-At-clause-others c other next differs might =
    let left = step_lists c.args.link.now c.first_step.new.self c.args.caller c.args.follows (Some c.args.wished.now) c.in-At.ensures.whole in
    c.later_steps.ensures.others other next differs
    (others_after (lists_of c.args.link.now) (lists_of c.first_step.new.self) c.args.caller c.args.follows (Some c.args.wished.now) c.requires.may left other next differs might)

pub returns-in-Ended-clause-others : goal.returns-in-Ended-clause-others
returns-in-Ended-clause-others c other next differs might =
    let left = step_lists c.args.link.now c.first_step.new.self c.args.caller c.args.follows (Some c.args.wished.now) c.in-Ended.ensures.whole in
    others_after (lists_of c.args.link.now) (lists_of c.first_step.new.self) c.args.caller c.args.follows (Some c.args.wished.now) c.requires.may left other next differs might
