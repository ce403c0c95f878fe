-- Each step that goes on leaves fewer, and the one that ends the call ends the whole.
use Rattle.std.proofs.Common.{◌+◌, suc, Some, None, arith}
use Rattle.managed_link.proofs.Walks.{ends_after, few_left, step_ends, step_goes}
use Rattle.managed_link.proofs.links.ManagedLink.walk.Goals as goal

pub returns-in-Ended-clause-whole : goal.returns-in-Ended-clause-whole
returns-in-Ended-clause-whole c = (0, omega arith, step_ends c.args.self.now c.first_step.new.self c.args.caller c.args.follows (Some c.args.wished.now) c.first_step.new.end c.in-Ended.ensures.whole c.in-Ended.ensures.outcome)

pub loop-init : goal.loop-init
loop-init c =
    let on = step_goes c.args.self.now c.first_step.new.self c.args.caller c.args.follows (Some c.args.wished.now) c.first_step.result c.first_step.new.end c.requires.may c.first_step.ensures.whole c.first_step.ensures.outcome c.in_default.not-Ended in
    let few = few_left c.args.self.now c.first_step.new.self c.args.caller c.args.follows (Some c.args.wished.now) on in record {
      may = on.may;
      few = omega (arith, few);
      counted = omega arith;
      whole = λ k left end rest. ends_after (suc k) (k + 1) c.args.self.now left c.args.caller c.args.follows (Some c.args.wished.now) end (omega arith) (on.whole k left end rest);
    }

pub returns-in-Ended-next_step-clause-whole : goal.returns-in-Ended-next_step-clause-whole
returns-in-Ended-next_step-clause-whole c = let counted = c.loop.invariant.counted in (
  0 + (c.loop.counter + 1),
  omega (arith, counted),
  c.loop.invariant.whole 0 c.next_step.new.self c.next_step.new.end
      (step_ends c.loop.self c.next_step.new.self c.args.caller 0 None c.next_step.new.end c.in-Ended-next_step.ensures.whole c.in-Ended-next_step.ensures.outcome),
)

pub loop-preserved : goal.loop-preserved
loop-preserved c =
    let on = step_goes c.loop.self c.next_step.new.self c.args.caller 0 None c.next_step.result c.next_step.new.end c.loop.invariant.may c.next_step.ensures.whole c.next_step.ensures.outcome c.in_default-next_step.not-Ended in
    let fewer = on.fewer in let few = c.loop.invariant.few in let counted = c.loop.invariant.counted in record {
      may = on.may;
      few = omega (arith, fewer, few);
      counted = omega (arith, counted);
      whole = λ k left end rest. ends_after (suc k + (c.loop.counter + 1)) (k + (c.loop.counter + 1 + 1)) c.args.self.now left c.args.caller c.args.follows (Some c.args.wished.now) end (omega arith) (c.loop.invariant.whole (suc k) left end (on.whole k left end rest));
    }
