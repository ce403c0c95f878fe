-- What calls, a close, a reclaim and a reopening leave of rings stands for what they leave of the lists.
use Rattle.std.proofs.Common.{◌≡◌, ℕ, zero, suc, ◌+◌, ◌==◌, Bool, true, false, cond, Option, Some, None, refl, ap, ◌∙◌}
use Rattle.rp_base.specs.declared.kinds.End.{End}
use Rattle.rp_base.specs.declared.kinds.End.TheVariants as side
use Rattle.rp_base.specs.declared.kinds.Era.{Era}
use Rattle.rp_base.specs.declared.limits.TheConstants.{STEPS_MOST}
use Rattle.lane_model.specs.declared.calls.Outcome.{Outcome}
use Rattle.lane_model.specs.declared.calls.Outcome.TheVariants as outcome
use Rattle.lane_model.specs.declared.calls.Wish.{Wish}
use Rattle.lane_model.specs.declared.lane_links.LaneLink.{LaneLink}
use Rattle.lane_model.specs.declared.states.LaneState.{LaneState}
use Rattle.lane_model.specs.Forms.{FormMeaning, IsForm}
use Rattle.lane_model.specs.Lanes.{is_live_in}
use Rattle.lane_model.specs.Links.{LinkState, caller_step, end_of, form_step, link_of}
use Rattle.lane_model.specs.Recoveries.{link_after_close, link_after_reclaim, link_after_reopen, without_caller}
use Rattle.lane_model.proofs.FormSteps.{step_agrees}
use Rattle.channel_bus.specs.Sides.{EndState, side_meaning}
use Rattle.link_bench.specs.declared.benches.Reach.TheVariants as reach
use Rattle.link_bench.specs.Benches.{BenchState, LinkRings, Walk, call_steps, later_steps, link_in, lists_of, on_lists, on_rings, step_on, walk_lists, walk_on}
use Rattle.link_bench.specs.BenchCrashes.{after_close, after_reclaim}

-- the form over rings is a form
pub is_rings : IsForm on_rings side_meaning
is_rings = record {
  after_send_start = λ lane caller follows message. refl;
  after_receive_start = λ lane caller follows first. refl;
  sent_on = λ lane era. refl;
  received_on = λ lane era. refl;
  after_send_end = λ lane caller. refl;
  after_receive_end = λ lane caller. refl;
  link_after_reopen = λ lane. refl;
}

-- what a step leaves of rings stands for what it leaves of the lists
pub step_lists : (rings after : LinkRings) (caller follows : ℕ) (wished : Option Wish) → after ≡ (form_step on_rings side_meaning rings caller follows wished).state
    → lists_of after ≡ (caller_step side_meaning (lists_of rings) caller follows wished).state
step_lists rings after caller follows wished left = ap lists_of left ∙ step_agrees on_rings side_meaning is_rings rings caller follows wished

module _ {L : Type 0} (form : FormMeaning L EndState) (is : IsForm form side_meaning) where
  either : (b : Bool) (one other : Walk L) (first second : Walk (LaneState EndState)) → walk_lists form one ≡ first → walk_lists form other ≡ second
      → walk_lists form (cond b one other) ≡ cond b first second
  either true one other first second is_one is_other = is_one
  either false one other first second is_one is_other = is_other

  on : (after : LaneLink L) (left : LinkState EndState) (steps : ℕ) (done : Outcome) (later : ℕ → Walk L) (rest : ℕ → Walk (LaneState EndState)) → link_of form after ≡ left
      → ((step : ℕ) → walk_lists form (later step) ≡ rest step) → walk_lists form (walk_on after steps done later) ≡ walk_on left steps done rest
  on after left steps (outcome.At step) later rest same each = each step
  on after left steps (outcome.Ended ended) later rest same each = ap (λ (link : LinkState EndState). record { link = link; steps = steps; reach = reach.Ended ended }) same

  -- a step and the later ones
  step_and : (steps : ℕ) (link : LaneLink L) (caller follows : ℕ) (wished : Option Wish) (later : LaneLink L → ℕ → Walk L) (rest : LinkState EndState → ℕ → Walk (LaneState EndState))
      → ((after : LaneLink L) (step : ℕ) → walk_lists form (later after step) ≡ rest (link_of form after) step)
      → walk_lists form (cond (steps == STEPS_MOST) (record { link = link; steps = steps; reach = reach.Limit })
      (walk_on (step_on form link caller follows wished).state (steps + 1) (step_on form link caller follows wished).outcome (later (step_on form link caller follows wished).state)))
      ≡ cond (steps == STEPS_MOST) (record { link = link_of form link; steps = steps; reach = reach.Limit })
      (walk_on (step_on on_lists (link_of form link) caller follows wished).state (steps + 1) (step_on on_lists (link_of form link) caller follows wished).outcome
      (rest (step_on on_lists (link_of form link) caller follows wished).state))
  step_and steps link caller follows wished later rest each =
      let after = (step_on form link caller follows wished).state in
      let left = (step_on on_lists (link_of form link) caller follows wished).state in
      let same : link_of form after ≡ left = step_agrees form side_meaning is link caller follows wished in
      either (steps == STEPS_MOST) _ _ _ _ refl
      (on after left (steps + 1) (step_on form link caller follows wished).outcome (later after) (rest left) same (λ step. each after step ∙ ap (λ (state : LinkState EndState). rest state step) same))

  pub later_agrees : (more last steps : ℕ) (link : LaneLink L) (caller : ℕ)
      → walk_lists form (later_steps form more last steps link caller) ≡ later_steps on_lists more last steps (link_of form link) caller
  unfolding later_steps
  later_agrees zero last steps link caller = refl
  later_agrees (suc more) last steps link caller =
      step_and steps link caller 0 None (λ after done. later_steps form more done (steps + 1) after caller) (λ left done. later_steps on_lists more done (steps + 1) left caller)
      (λ after done. later_agrees more done (steps + 1) after caller)

  pub call_agrees : (more steps : ℕ) (link : LaneLink L) (caller follows : ℕ) (wanted : Wish)
      → walk_lists form (call_steps form more steps link caller follows wanted) ≡ call_steps on_lists more steps (link_of form link) caller follows wanted
  unfolding call_steps
  call_agrees more steps link caller follows wanted =
      step_and steps link caller follows (Some wanted) (λ after done. later_steps form more done (steps + 1) after caller) (λ left done. later_steps on_lists more done (steps + 1) left caller)
      (λ after done. later_agrees more done (steps + 1) after caller)

-- the same of the rings of a bench
pub later_lists : (more last steps : ℕ) (rings : LinkRings) (caller : ℕ)
    → walk_lists on_rings (later_steps on_rings more last steps rings caller) ≡ later_steps on_lists more last steps (lists_of rings) caller
later_lists = later_agrees on_rings is_rings

pub call_lists : (more steps : ℕ) (rings : LinkRings) (caller follows : ℕ) (wanted : Wish)
    → walk_lists on_rings (call_steps on_rings more steps rings caller follows wanted) ≡ call_steps on_lists more steps (lists_of rings) caller follows wanted
call_lists = call_agrees on_rings is_rings

close_at : (rings : LinkRings) (live : Bool) (era : Era) → lists_of (cond live (record rings { era = era }) rings) ≡ cond live (record (lists_of rings) { era = era }) (lists_of rings)
close_at rings true era = refl
close_at rings false era = refl

-- a close, of the rings of a link and of a bench
pub close_rings : (rings : LinkRings) (inc : ℕ) → lists_of (link_after_close rings inc) ≡ link_after_close (lists_of rings) inc
close_rings rings inc = close_at rings (is_live_in rings.era inc) (record { inc = inc; is_live = false })

pub close_lists : (bench : BenchState) → link_in (after_close bench) ≡ link_after_close (link_in bench) (link_in bench).era.inc
close_lists bench = close_rings bench.rings bench.rings.era.inc

reclaim_at : (rings : LinkRings) (found : Option End) (caller : ℕ) → lists_of (without_caller on_rings rings found caller) ≡ without_caller on_lists (lists_of rings) found caller
reclaim_at rings (Some side.Host) caller = refl
reclaim_at rings (Some side.Remote) caller = refl
reclaim_at rings None caller = refl

-- a reclaim
pub reclaim_rings : (rings : LinkRings) (caller : ℕ) → lists_of (link_after_reclaim on_rings rings caller) ≡ link_after_reclaim on_lists (lists_of rings) caller
reclaim_rings rings caller = reclaim_at rings (end_of rings.callers caller) caller

pub reclaim_lists : (bench : BenchState) (caller : ℕ) → link_in (after_reclaim bench caller) ≡ link_after_reclaim on_lists (link_in bench) caller
reclaim_lists bench caller = reclaim_rings bench.rings caller

-- a reopening
pub reopen_rings : (rings : LinkRings) → lists_of (link_after_reopen on_rings rings) ≡ link_after_reopen on_lists (lists_of rings)
reopen_rings rings = refl
