-- One step of a call of a bench.
use Rattle.std.proofs.Common.{◌≡◌, ℕ, Option, Some, None, refl, sym, ap, ◌∙◌}
use Rattle.lane_model.specs.declared.calls.Outcome.{Outcome}
use Rattle.lane_model.specs.declared.calls.Outcome.TheVariants as outcome
use Rattle.ring_core.specs.declared.states.RingState.{RingState}
use Rattle.channel_bus.specs.Sides.{EndState}
use Rattle.link_bench.specs.declared.benches.BegunCall.{BegunCall}
use Rattle.link_bench.specs.declared.benches.Reach.TheVariants as reach
use Rattle.link_bench.specs.Benches.{BenchState, LinkRings, Walk, advance_steps, advance_walk, begun_call_of, on_rings, step_on}
use Rattle.link_bench.proofs.Walks.{call_done, later_after, later_done, later_none}

-- a step behind which no other follows is done, or it ends the call
one_after : (steps : ℕ) (rings : LinkRings) (caller : ℕ) (done : Outcome) → (later_after on_rings 0 steps rings caller done).reach ≡ reach.Limit → ⊥
one_after steps rings caller (outcome.At step) limit =
    let at : reach.At step ≡ reach.Limit = ap (λ (walk : Walk (RingState EndState)). walk.reach) (sym (later_none on_rings step steps rings caller)) ∙ limit in absurd (cc)
one_after steps rings caller (outcome.Ended end) limit = absurd (cc)

-- the step of a call that was begun, and that of one under way
step_of : (bench : BenchState) (caller : ℕ) (call : Option BegunCall) → (advance_steps bench 0 0 caller call).reach ≡ reach.Limit → ⊥
step_of bench caller (Some call) limit =
    let step = step_on on_rings bench.rings caller call.follows (Some call.wish) in
    one_after 1 step.state caller step.outcome
    (ap (λ (walk : Walk (RingState EndState)). walk.reach) (sym (call_done on_rings 0 0 bench.rings caller call.follows call.wish refl step.state step.outcome refl refl)) ∙ limit)
step_of bench caller None limit =
    let step = step_on on_rings bench.rings caller 0 None in
    one_after 1 step.state caller step.outcome
    (ap (λ (walk : Walk (RingState EndState)). walk.reach) (sym (later_done on_rings 1 0 0 0 bench.rings caller refl refl step.state step.outcome refl refl)) ∙ limit)

-- the first step of a run finds a step left
pub step_left : (bench : BenchState) (caller : ℕ) → (advance_walk bench 0 0 caller).reach ≡ reach.Limit → ⊥
step_left bench caller = step_of bench caller (begun_call_of bench caller)
