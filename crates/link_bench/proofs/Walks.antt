-- Calls, step by step, on a link of any form.
use Rattle.std.proofs.Common.{◌≡◌, ◌≢◌, ◌<◌, ℕ, suc, ◌+◌, eqb, false, cond, Option, Some, None, refl, sym, ap, subst, ◌∙◌, inl, inr}
use Rattle.std.proofs.lemmas.Bool.Decides.{eqb_tells}
use Rattle.rp_base.specs.declared.limits.TheConstants.{STEPS_MOST}
use Rattle.lane_model.specs.declared.calls.Outcome.{Outcome}
use Rattle.lane_model.specs.declared.calls.Outcome.TheVariants as outcome
use Rattle.lane_model.specs.declared.calls.Wish.{Wish}
use Rattle.lane_model.specs.declared.lane_links.LaneLink.{LaneLink}
use Rattle.lane_model.specs.Forms.{FormMeaning}
use Rattle.lane_model.specs.Links.{LinkState, caller_step}
use Rattle.lane_model.specs.Conditions.{MayStep}
use Rattle.lane_model.specs.WholeCalls.{WhereOn, left_of}
use Rattle.lane_model.proofs.GoesOn.{goes_on}
use Rattle.lane_model.proofs.Others.{others_may}
use Rattle.link_bench.specs.declared.benches.Reach.TheVariants as reach
use Rattle.channel_bus.specs.Sides.{EndState}
use Rattle.channel_bus.specs.Sides.{side_meaning}
use Rattle.link_bench.specs.Benches.{Walk, call_steps, later_steps, step_on, walk_on}

module _ {L : Type 0} (form : FormMeaning L EndState) where
  -- what a step does to the later ones
  abbrev pub later_after : ℕ → ℕ → LaneLink L → ℕ → Outcome → Walk L
  later_after more steps link caller done = walk_on link steps done (λ step. later_steps form more step steps link caller)

  -- no step more
  pub later_none : (last steps : ℕ) (link : LaneLink L) (caller : ℕ)
      → later_steps form 0 last steps link caller ≡ record { link = link; steps = steps; reach = reach.At last }
  unfolding later_steps
  later_none last steps link caller = refl

  -- a step more
  later_one : (more last steps : ℕ) (link : LaneLink L) (caller : ℕ)
      → later_steps form (suc more) last steps link caller
      ≡ cond (eqb steps STEPS_MOST) (record { link = link; steps = steps; reach = reach.Limit })
      (later_after more (steps + 1) (step_on form link caller 0 None).state caller (step_on form link caller 0 None).outcome)
  unfolding later_steps
  later_one more last steps link caller = refl

  -- the first step of a call
  call_one : (more steps : ℕ) (link : LaneLink L) (caller follows : ℕ) (wanted : Wish)
      → call_steps form more steps link caller follows wanted
      ≡ cond (eqb steps STEPS_MOST) (record { link = link; steps = steps; reach = reach.Limit })
      (later_after more (steps + 1) (step_on form link caller follows (Some wanted)).state caller (step_on form link caller follows (Some wanted)).outcome)
  unfolding call_steps
  call_one more steps link caller follows wanted = refl

  -- a step of which this is left, where the run has a step left
  done_one : (more steps : ℕ) (link : LaneLink L) (caller follows : ℕ) (wished : Option Wish) → eqb steps STEPS_MOST ≡ false → (after : LaneLink L) (done : Outcome)
      → after ≡ (step_on form link caller follows wished).state → done ≡ (step_on form link caller follows wished).outcome
      → cond (eqb steps STEPS_MOST) (record { link = link; steps = steps; reach = reach.Limit })
      (later_after more (steps + 1) (step_on form link caller follows wished).state caller (step_on form link caller follows wished).outcome) ≡ later_after more (steps + 1) after caller done
  done_one more steps link caller follows wished free after done left does =
      ap (λ b. cond b (record { link = link; steps = steps; reach = reach.Limit })
      (later_after more (steps + 1) (step_on form link caller follows wished).state caller (step_on form link caller follows wished).outcome)) free
      ∙ ap (λ (state : LaneLink L). later_after more (steps + 1) state caller (step_on form link caller follows wished).outcome) (sym left)
      ∙ ap (later_after more (steps + 1) after caller) (sym does)

  -- a later step that is done
  pub later_done : (count more last steps : ℕ) (link : LaneLink L) (caller : ℕ) → count ≡ suc more → eqb steps STEPS_MOST ≡ false → (after : LaneLink L) (done : Outcome)
      → after ≡ (step_on form link caller 0 None).state → done ≡ (step_on form link caller 0 None).outcome
      → later_steps form count last steps link caller ≡ later_after more (steps + 1) after caller done
  later_done count more last steps link caller one free after done left does =
      ap (λ n. later_steps form n last steps link caller) one ∙ later_one more last steps link caller ∙ done_one more steps link caller 0 None free after done left does

  -- a first step that is done
  pub call_done : (more steps : ℕ) (link : LaneLink L) (caller follows : ℕ) (wanted : Wish) → eqb steps STEPS_MOST ≡ false → (after : LaneLink L) (done : Outcome)
      → after ≡ (step_on form link caller follows (Some wanted)).state → done ≡ (step_on form link caller follows (Some wanted)).outcome
      → call_steps form more steps link caller follows wanted ≡ later_after more (steps + 1) after caller done
  call_done more steps link caller follows wanted free after done left does =
      call_one more steps link caller follows wanted ∙ done_one more steps link caller follows (Some wanted) free after done left does

-- two numbers that aren't the same
pub not_equal : (a b : ℕ) → a ≢ b → eqb a b ≡ false
not_equal a b differ = elim (eqb_tells a b) [ inl same ↦ absurd (differ same.1) | inr other ↦ other.0 ]

module _ (link after : LinkState EndState) (caller follows : ℕ) (wanted : Option Wish) (may : MayStep link caller wanted)
    (left : after ≡ (caller_step side_meaning link caller follows wanted).state) where
  -- a call that goes on may do its next step
  pub goes_on_at : (step : ℕ) → outcome.At step ≡ (caller_step side_meaning link caller follows wanted).outcome → MayStep after caller None
  goes_on_at step does =
      let on = subst (λ (done : Outcome). WhereOn done (MayStep (caller_step side_meaning link caller follows wanted).state caller None
      × (left_of (caller_step side_meaning link caller follows wanted).state caller None < left_of link caller wanted)))
      (sym does) (goes_on side_meaning link caller follows wanted may) in
      subst (λ (state : LinkState EndState). MayStep state caller None) (sym left) on.0

  -- every other caller may do its next step where it might before
  pub others_after : (other : ℕ) (next : Option Wish) → caller ≢ other → MayStep link other next → MayStep after other next
  others_after other next differ might =
      subst (λ (state : LinkState EndState). MayStep state other next) (sym left) (others_may side_meaning link caller other follows wanted next differ may might)
