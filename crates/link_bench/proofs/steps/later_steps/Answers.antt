use Rattle.std.proofs.Common.{◌≡◌, suc, ◌+◌, ◌-◌, false, not, cond, eqb, None, sym, ap, ◌∙◌, arith}
use Rattle.rp_base.specs.declared.limits.TheConstants.{STEPS_MOST}
use Rattle.ring_core.specs.declared.states.RingState.{RingState}
use Rattle.channel_bus.specs.Sides.{EndState}
use Rattle.lane_model.specs.declared.calls.Outcome.TheVariants as outcome
use Rattle.link_bench.specs.declared.benches.Reach.TheVariants as reach
use Rattle.link_bench.specs.Benches.{Walk, later_steps, lists_of, on_rings}
use Rattle.link_bench.proofs.Lists.{step_lists}
use Rattle.link_bench.proofs.Walks.{later_done, goes_on_at, others_after}
use Rattle.link_bench.proofs.steps.later_steps.Goals.{In-Ended}
use Rattle.link_bench.proofs.steps.later_steps.Goals as goal

-- the walk that ends with this step
ended : (c : In-Ended) → record { link = c.next_step.new.self; steps = c.count.new.self; reach = reach.Ended c.next_step.new.end }
    ≡ later_steps on_rings c.args.more c.args.last c.args.steps.now c.args.link.now c.args.caller
ended c =
    let left = c.args.more - (c.loop.counter + 1) in
    let one : c.args.more - c.loop.counter ≡ suc left = omega arith in
    let free : eqb c.loop.steps STEPS_MOST ≡ false = c.count.ensures.spent ∙ ap not c.if-not-count.false in
    let counted : c.count.new.self ≡ c.loop.steps + 1 = c.count.ensures.counted ∙ ap (λ b. cond b (c.loop.steps + 1) c.loop.steps) c.if-not-count.false in
    ap (λ steps. record { link = c.next_step.new.self; steps = steps; reach = reach.Ended c.next_step.new.end }) counted
    ∙ sym (later_done on_rings (c.args.more - c.loop.counter) left c.loop.last c.loop.steps c.loop.link c.args.caller one free c.next_step.new.self (outcome.Ended c.next_step.new.end) c.in-Ended.ensures.whole c.in-Ended.ensures.outcome)
    ∙ c.loop.invariant.walk

pub returns-in-Ended-clause-link : goal.returns-in-Ended-clause-link
returns-in-Ended-clause-link c = ap (λ (walk : Walk (RingState EndState)). walk.link) (ended c)

pub returns-in-Ended-clause-steps : goal.returns-in-Ended-clause-steps
returns-in-Ended-clause-steps c = ap (λ (walk : Walk (RingState EndState)). walk.steps) (ended c)

pub returns-in-Ended-clause-taken : goal.returns-in-Ended-clause-taken
returns-in-Ended-clause-taken c = c.in-Ended.ensures.taken

pub returns-in-Ended-clause-others : goal.returns-in-Ended-clause-others
returns-in-Ended-clause-others c other wanted differs may =
    let left = step_lists c.loop.link c.next_step.new.self c.args.caller 0 None c.in-Ended.ensures.whole in
    others_after (lists_of c.loop.link) (lists_of c.next_step.new.self) c.args.caller 0 None c.loop.invariant.may left other wanted differs (c.loop.invariant.others other wanted differs may)

pub loop-preserved : goal.loop-preserved
loop-preserved c =
    let left = c.args.more - (c.loop.counter + 1) in
    let one : c.args.more - c.loop.counter ≡ suc left = omega arith in
    let free : eqb c.loop.steps STEPS_MOST ≡ false = c.count.ensures.spent ∙ ap not c.if-not-count.false in
    let counted : c.count.new.self ≡ c.loop.steps + 1 = c.count.ensures.counted ∙ ap (λ b. cond b (c.loop.steps + 1) c.loop.steps) c.if-not-count.false in
    let lists = step_lists c.loop.link c.next_step.new.self c.args.caller 0 None c.in-At.ensures.whole in
    record {
      walk = ap (λ steps. later_steps on_rings left c.in-At.step steps c.next_step.new.self c.args.caller) counted
          ∙ sym (later_done on_rings (c.args.more - c.loop.counter) left c.loop.last c.loop.steps c.loop.link c.args.caller one free c.next_step.new.self (outcome.At c.in-At.step) c.in-At.ensures.whole c.in-At.ensures.outcome)
          ∙ c.loop.invariant.walk;
      may = goes_on_at (lists_of c.loop.link) (lists_of c.next_step.new.self) c.args.caller 0 None c.loop.invariant.may lists c.in-At.step c.in-At.ensures.outcome;
      others = λ other wanted differs may. others_after (lists_of c.loop.link) (lists_of c.next_step.new.self) c.args.caller 0 None c.loop.invariant.may lists other wanted differs (c.loop.invariant.others other wanted differs may);
    }
