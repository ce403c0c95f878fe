use Rattle.std.proofs.Common.{◌≡◌, None, refl, sym, ap}
use Rattle.ring_core.specs.declared.states.RingState.{RingState}
use Rattle.channel_bus.specs.Sides.{EndState}
use Rattle.lane_model.specs.declared.calls.Outcome.TheVariants as outcome
use Rattle.link_bench.specs.declared.benches.Reach.TheVariants as reach
use Rattle.link_bench.specs.Benches.{Walk, later_steps, lists_of, on_rings}
use Rattle.link_bench.proofs.Lists.{step_lists}
use Rattle.link_bench.proofs.Walks.{later_done, others_after}
use Rattle.link_bench.proofs.steps.later_step.Goals.{In-At, In-Ended}
use Rattle.link_bench.proofs.steps.later_step.Goals as goal

-- the walk of one step, where the call goes on and where it ends
goes_on : (c : In-At) → record { link = c.next_step.new.self; steps = 1; reach = reach.At c.in-At.step } ≡ later_steps on_rings 1 0 0 c.args.link.now c.args.caller
unfolding later_steps
goes_on c = sym (later_done on_rings 1 0 0 0 c.args.link.now c.args.caller refl refl c.next_step.new.self (outcome.At c.in-At.step) c.in-At.ensures.whole c.in-At.ensures.outcome)

ended : (c : In-Ended) → record { link = c.next_step.new.self; steps = 1; reach = reach.Ended c.next_step.new.end } ≡ later_steps on_rings 1 0 0 c.args.link.now c.args.caller
ended c = sym (later_done on_rings 1 0 0 0 c.args.link.now c.args.caller refl refl c.next_step.new.self (outcome.Ended c.next_step.new.end) c.in-Ended.ensures.whole c.in-Ended.ensures.outcome)

pub returns-in-At-clause-link : goal.returns-in-At-clause-link
returns-in-At-clause-link c = ap (λ (walk : Walk (RingState EndState)). walk.link) (goes_on c)

pub returns-in-At-clause-reach : goal.returns-in-At-clause-reach
returns-in-At-clause-reach c = ap (λ (walk : Walk (RingState EndState)). walk.reach) (goes_on c)

pub returns-in-At-clause-others : goal.returns-in-At-clause-others
returns-in-At-clause-others c other wanted differs may =
    others_after (lists_of c.args.link.now) (lists_of c.next_step.new.self) c.args.caller 0 None c.requires.may (step_lists c.args.link.now c.next_step.new.self c.args.caller 0 None c.in-At.ensures.whole) other wanted differs may

pub returns-in-Ended-clause-link : goal.returns-in-Ended-clause-link
returns-in-Ended-clause-link c = ap (λ (walk : Walk (RingState EndState)). walk.link) (ended c)

pub returns-in-Ended-clause-reach : goal.returns-in-Ended-clause-reach
returns-in-Ended-clause-reach c = ap (λ (walk : Walk (RingState EndState)). walk.reach) (ended c)

pub returns-in-Ended-clause-others : goal.returns-in-Ended-clause-others
returns-in-Ended-clause-others c other wanted differs may =
    others_after (lists_of c.args.link.now) (lists_of c.next_step.new.self) c.args.caller 0 None c.requires.may (step_lists c.args.link.now c.next_step.new.self c.args.caller 0 None c.in-Ended.ensures.whole) other wanted differs may
