-- Whole calls that are made in one run, as steps of the run.
use Rattle.std.proofs.Common.{◌≡◌, ◌≢◌, ◌≤◌, ◌<◌, ℕ, zero, suc, ◌+◌, eqb, false, Option, Some, None, refl, sym, ap, ◌∙◌, arith}
use Rattle.rp_base.specs.declared.limits.TheConstants.{STEPS_MOST}
use Rattle.lane_model.specs.declared.calls.CallEnd.{CallEnd}
use Rattle.lane_model.specs.declared.calls.Outcome.{Outcome}
use Rattle.lane_model.specs.declared.calls.Outcome.TheVariants as outcome
use Rattle.lane_model.specs.declared.calls.Wish.{Wish}
use Rattle.lane_model.specs.declared.lane_links.LaneLink.{LaneLink}
use Rattle.lane_model.specs.Forms.{FormMeaning}
use Rattle.lane_model.specs.Links.{LinkState, caller_step, form_step}
use Rattle.lane_model.specs.Conditions.{MayStep}
use Rattle.lane_model.specs.AtOnce.{FormEndsIn, EndsIn}
use Rattle.lane_model.proofs.Ends.{same_outcome}
use Rattle.link_bench.specs.declared.benches.Reach.TheVariants as reach
use Rattle.channel_bus.specs.Sides.{EndState}
use Rattle.channel_bus.specs.Sides.{side_meaning}
use Rattle.link_bench.specs.Benches.{Walk, call_steps, later_steps, step_on}
use Rattle.link_bench.proofs.Walks.{later_done, call_done, not_equal, goes_on_at, others_after}

-- how far a call came that has ended
abbrev pub ended_walk : {L : Type 0} → LaneLink L → ℕ → CallEnd → Walk L
ended_walk left steps end = record { link = left; steps = steps; reach = reach.Ended end }

-- the run has steps left
has_steps : (steps : ℕ) → steps < STEPS_MOST → eqb steps STEPS_MOST ≡ false
has_steps steps some = not_equal steps STEPS_MOST (λ same. absurd (omega arith))

module _ {L : Type 0} (form : FormMeaning L EndState) where
  -- what a step does to its call, whatever the form
  does : (link : LaneLink L) (caller follows : ℕ) (wished : Option Wish) (done : Outcome)
      → (form_step form side_meaning link caller follows wished).outcome ≡ done → done ≡ (step_on form link caller follows wished).outcome
  does link caller follows wished done is = sym is ∙ same_outcome form side_meaning link caller follows wished

  -- the later steps of a call that ends in so many steps, where the run has them
  later_ends : (n m last steps : ℕ) (link : LaneLink L) (caller : ℕ) (left : LaneLink L) (end : CallEnd) → FormEndsIn n form side_meaning link caller 0 None left end
      → n ≤ m → steps + suc n ≤ STEPS_MOST → later_steps form (suc m) last steps link caller ≡ ended_walk left (steps + suc n) end
  unfolding FormEndsIn
  later_ends zero m last steps link caller left end ends within most =
      later_done form (suc m) m last steps link caller refl (has_steps steps (omega arith)) left (outcome.Ended end) (sym ends.1) (does link caller 0 None (outcome.Ended end) ends.0)
  later_ends (suc n) zero last steps link caller left end ends within most = absurd (omega arith)
  later_ends (suc n) (suc m) last steps link caller left end ends within most =
      let state = (form_step form side_meaning link caller 0 None).state in
      let count : steps + 1 + suc n ≡ steps + suc (suc n) = omega arith in
      later_done form (suc (suc m)) (suc m) last steps link caller refl (has_steps steps (omega arith)) state (outcome.At ends.0) refl (does link caller 0 None (outcome.At ends.0) ends.1)
      ∙ later_ends n m ends.0 (steps + 1) state caller left end ends.2 (omega arith) (omega arith)
      ∙ ap (λ k. ended_walk left k end) count

  -- a call that ends in so many steps, where the run has them
  pub call_ends : (n m steps : ℕ) (link : LaneLink L) (caller follows : ℕ) (wanted : Wish) (left : LaneLink L) (end : CallEnd)
      → FormEndsIn n form side_meaning link caller follows (Some wanted) left end → n ≤ m → steps + suc n ≤ STEPS_MOST
      → call_steps form m steps link caller follows wanted ≡ ended_walk left (steps + suc n) end
  unfolding FormEndsIn
  call_ends zero m steps link caller follows wanted left end ends within most =
      call_done form m steps link caller follows wanted (has_steps steps (omega arith)) left (outcome.Ended end) (sym ends.1) (does link caller follows (Some wanted) (outcome.Ended end) ends.0)
  call_ends (suc n) zero steps link caller follows wanted left end ends within most = absurd (omega arith)
  call_ends (suc n) (suc m) steps link caller follows wanted left end ends within most =
      let state = (form_step form side_meaning link caller follows (Some wanted)).state in
      let count : steps + 1 + suc n ≡ steps + suc (suc n) = omega arith in
      call_done form (suc m) steps link caller follows wanted (has_steps steps (omega arith)) state (outcome.At ends.0) refl (does link caller follows (Some wanted) (outcome.At ends.0) ends.1)
      ∙ later_ends n m ends.0 (steps + 1) state caller left end ends.2 (omega arith) (omega arith)
      ∙ ap (λ k. ended_walk left k end) count

-- what every other caller may do stays possible
pub others_end : (n : ℕ) (link : LinkState EndState) (caller follows : ℕ) (wished : Option Wish) (left : LinkState EndState) (end : CallEnd)
    → EndsIn n side_meaning link caller follows wished left end → MayStep link caller wished
    → (other : ℕ) (next : Option Wish) → caller ≢ other → MayStep link other next → MayStep left other next
unfolding FormEndsIn
others_end zero link caller follows wished left end ends may other next differ might = others_after link left caller follows wished may (sym ends.1) other next differ might
others_end (suc n) link caller follows wished left end ends may other next differ might =
    let state = (caller_step side_meaning link caller follows wished).state in
    others_end n state caller 0 None left end ends.2 (goes_on_at link state caller follows wished may refl ends.0 (sym ends.1)) other next differ
    (others_after link state caller follows wished may refl other next differ might)
