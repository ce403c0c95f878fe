use Rattle.std.proofs.Common.{◌≡◌, ◌+◌, ◌≤◌, suc, Some, sym, ap, ◌∙◌, arith}
use Rattle.ring_core.specs.declared.states.RingState.{RingState}
use Rattle.channel_bus.specs.Sides.{EndState, side_meaning}
use Rattle.lane_model.proofs.AtOnce.{lists_end}
use Rattle.link_bench.specs.Benches.{Walk, call_steps, lists_of, on_rings}
use Rattle.link_bench.proofs.AtOnce.{call_ends, ended_walk, others_end}
use Rattle.link_bench.proofs.Lists.{is_rings}
use Rattle.link_bench.proofs.whole_steps.whole_steps.Goals.{After-set}
use Rattle.link_bench.proofs.whole_steps.whole_steps.Goals as goal

-- a call that is made in one run ends within the steps that the run has left
done : (c : After-set) → ended_walk c.call.new.self c.call.new.steps c.call.new.end
    ≡ call_steps on_rings 6 c.args.steps.now c.args.link.now c.args.caller c.args.follows c.args.wished.now
done c =
    let whole = c.call.ensures.whole in
    let count : c.call.new.steps ≡ c.args.steps.now + suc whole.0 = omega (arith, whole.1, c.steps-done.ensures.steps) in
    let within : whole.0 ≤ 6 = omega (arith, whole.1, c.call.ensures.few) in
    ap (λ steps. ended_walk c.call.new.self steps c.call.new.end) count
    ∙ sym (call_ends on_rings whole.0 6 c.args.steps.now c.args.link.now c.args.caller c.args.follows c.args.wished.now c.call.new.self c.call.new.end whole.2 within (omega (arith, within, c.if-done.true, c.steps-done.ensures.steps)))

pub returns-then-done-clause-link : goal.returns-then-done-clause-link
returns-then-done-clause-link c = ap (λ (walk : Walk (RingState EndState)). walk.link) (done c)

pub returns-then-done-clause-steps : goal.returns-then-done-clause-steps
returns-then-done-clause-steps c = c.set.ensures ∙ ap (λ (walk : Walk (RingState EndState)). walk.steps) (done c)

pub returns-then-done-clause-reach : goal.returns-then-done-clause-reach
returns-then-done-clause-reach c = ap (λ (walk : Walk (RingState EndState)). walk.reach) (done c)

pub returns-then-done-clause-taken : goal.returns-then-done-clause-taken
returns-then-done-clause-taken c = c.call.ensures.taken

pub returns-then-done-clause-others : goal.returns-then-done-clause-others
returns-then-done-clause-others c =
    let whole = c.call.ensures.whole in
    others_end whole.0 (lists_of c.args.link.now) c.args.caller c.args.follows (Some c.args.wished.now) (lists_of c.call.new.self) c.call.new.end
    (lists_end whole.0 on_rings side_meaning is_rings c.args.link.now c.args.caller c.args.follows (Some c.args.wished.now) c.call.new.self c.call.new.end whole.2) c.requires.may
