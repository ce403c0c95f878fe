-- What each step of a caller keeps of the lists of a link, its calls keep.
use Rattle.std.proofs.Common.{◌<◌, ℕ, zero, suc, ◌+◌, eqb, Option, Some, None, sym, subst}
use Rattle.std.proofs.lemmas.Bool.{cond_both}
use Rattle.rp_base.specs.declared.limits.TheConstants.{STEPS_MOST}
use Rattle.lane_model.specs.declared.calls.Outcome.{Outcome}
use Rattle.lane_model.specs.declared.calls.Outcome.TheVariants as outcome
use Rattle.lane_model.specs.declared.calls.Wish.{Wish}
use Rattle.lane_model.specs.Conditions.{MayStep}
use Rattle.lane_model.specs.Links.{LinkState, caller_step}
use Rattle.lane_model.specs.WholeCalls.{WhereOn, left_of}
use Rattle.lane_model.proofs.FormSteps.{step_agrees}
use Rattle.lane_model.proofs.GoesOn.{goes_on, where_on}
use Rattle.ring_core.specs.declared.states.RingState.{RingState}
use Rattle.channel_bus.specs.Sides.{EndState, side_meaning}
use Rattle.link_bench.specs.declared.benches.Reach.TheVariants as reach
use Rattle.link_bench.specs.Benches.{LinkRings, Walk, call_steps, later_steps, lists_of, on_rings, step_on, walk_on}
use Rattle.link_bench.proofs.Lists.{is_rings}

-- a step that goes on may be followed by the next one
pub next_may : (caller : ℕ) (link : LinkState EndState) (follows : ℕ) (wished : Option Wish) → MayStep link caller wished
    → WhereOn (caller_step side_meaning link caller follows wished).outcome (MayStep (caller_step side_meaning link caller follows wished).state caller None)
next_may caller link follows wished may =
    let after = (caller_step side_meaning link caller follows wished).state in
    where_on (caller_step side_meaning link caller follows wished).outcome
    {P = MayStep after caller None × (left_of after caller None < left_of link caller wished)} {Q = MayStep after caller None}
    (λ both. both.0) (goes_on side_meaning link caller follows wished may)

module _ (P : LinkState EndState → Type 0) (May : LinkState EndState → Option Wish → Type 0) (caller : ℕ)
    (keeps : (link : LinkState EndState) (follows : ℕ) (wished : Option Wish) → May link wished → P link → P (caller_step side_meaning link caller follows wished).state)
    (next : (link : LinkState EndState) (follows : ℕ) (wished : Option Wish) → May link wished
    → WhereOn (caller_step side_meaning link caller follows wished).outcome (May (caller_step side_meaning link caller follows wished).state None)) where
  on : (state : LinkRings) (steps : ℕ) (done : Outcome) (later : ℕ → Walk (RingState EndState)) → P (lists_of state) → WhereOn done (May (lists_of state) None)
      → ((step : ℕ) → May (lists_of state) None → P (lists_of (later step).link)) → P (lists_of (walk_on state steps done later).link)
  on state steps (outcome.At step) later is may rest = rest step may
  on state steps (outcome.Ended ended) later is may rest = is

  step_and : (steps : ℕ) (rings : LinkRings) (follows : ℕ) (wished : Option Wish) (later : LinkRings → ℕ → Walk (RingState EndState)) → May (lists_of rings) wished → P (lists_of rings)
      → ((after : LinkRings) (step : ℕ) → May (lists_of after) None → P (lists_of after) → P (lists_of (later after step).link))
      → let step = step_on on_rings rings caller follows wished in P (lists_of (walk_on step.state (steps + 1) step.outcome (later step.state)).link)
  step_and steps rings follows wished later may is rest =
      let step = step_on on_rings rings caller follows wished in
      let same = sym (step_agrees on_rings side_meaning is_rings rings caller follows wished) in
      let kept : P (lists_of step.state) = subst P same (keeps (lists_of rings) follows wished may is) in
      on step.state (steps + 1) step.outcome (later step.state) kept
      (subst (λ (link : LinkState EndState). WhereOn step.outcome (May link None)) same (next (lists_of rings) follows wished may)) (λ done on. rest step.state done on kept)

  pub later_keeps : (more last steps : ℕ) (rings : LinkRings) → May (lists_of rings) None → P (lists_of rings) → P (lists_of (later_steps on_rings more last steps rings caller).link)
  unfolding later_steps
  later_keeps zero last steps rings may is = is
  later_keeps (suc more) last steps rings may is =
      cond_both (eqb steps STEPS_MOST) (record { link = rings; steps = steps; reach = reach.Limit }) _ (λ (walk : Walk (RingState EndState)). P (lists_of walk.link)) (λ _. is)
      (λ _. step_and steps rings 0 None (λ after done. later_steps on_rings more done (steps + 1) after caller) may is (λ after done. later_keeps more done (steps + 1) after))

  pub call_keeps : (more steps : ℕ) (rings : LinkRings) (follows : ℕ) (wanted : Wish) → May (lists_of rings) (Some wanted) → P (lists_of rings)
      → P (lists_of (call_steps on_rings more steps rings caller follows wanted).link)
  unfolding call_steps
  call_keeps more steps rings follows wanted may is =
      cond_both (eqb steps STEPS_MOST) (record { link = rings; steps = steps; reach = reach.Limit }) _ (λ (walk : Walk (RingState EndState)). P (lists_of walk.link)) (λ _. is)
      (λ _. step_and steps rings follows (Some wanted) (λ after done. later_steps on_rings more done (steps + 1) after caller) may is (λ after done. later_keeps more done (steps + 1) after))
