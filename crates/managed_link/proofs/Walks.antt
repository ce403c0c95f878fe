-- A call of a managed link step by step: what each step adds to it.
use Rattle.std.proofs.Common.{◌≡◌, ◌<◌, ◌≤◌, ℕ, suc, Option, None, refl, sym, ap, subst, ◌∙◌, arith}
use Rattle.lane_model.specs.declared.calls.CallEnd.{CallEnd}
use Rattle.lane_model.specs.declared.calls.Outcome.{Outcome}
use Rattle.lane_model.specs.declared.calls.Outcome.TheVariants as outcome
use Rattle.lane_model.specs.declared.calls.Step.{Step}
use Rattle.lane_model.specs.declared.calls.Step.TheVariants as step
use Rattle.lane_model.specs.declared.calls.Wish.{Wish}
use Rattle.lane_model.specs.AtOnce.{FormEndsIn}
use Rattle.lane_model.specs.Answers.{outcome_of}
use Rattle.lane_model.specs.Conditions.{MayStep}
use Rattle.lane_model.specs.Links.{LinkState, caller_step, form_step}
use Rattle.lane_model.specs.WholeCalls.{WhereOn, left_of}
use Rattle.lane_model.proofs.Ends.{same_outcome}
use Rattle.lane_model.proofs.FormSteps.{step_agrees}
use Rattle.lane_model.proofs.GoesOn.{goes_on, most_left}
use Rattle.lane_laws.proofs.RingMoves.{is_ring_form}
use Rattle.channel_bus.specs.Sides.{EndState, side_meaning}
use Rattle.managed_link.specs.Known.{LinkRings, lists_of, on_rings}
use Rattle.managed_link.proofs.WholeTurns.{After}

-- a step that goes on, and the calls that the rest makes whole
pub record GoesOn (m next : LinkRings) (caller follows : ℕ) (wished : Option Wish) : Type 0 where
  pub may : MayStep (lists_of next) caller None
  pub fewer : left_of (lists_of next) caller None < left_of (lists_of m) caller wished
  pub whole : (k : ℕ) (left : LinkRings) (end : CallEnd) → FormEndsIn k on_rings side_meaning next caller 0 None left end → FormEndsIn (suc k) on_rings side_meaning m caller follows wished left end

-- what is said is that of the lists
says_of : (m : LinkRings) (caller follows : ℕ) (wished : Option Wish) (said : Outcome) → said ≡ (caller_step side_meaning (lists_of m) caller follows wished).outcome → (form_step on_rings side_meaning m caller follows wished).outcome ≡ said
says_of m caller follows wished said is = same_outcome on_rings side_meaning m caller follows wished ∙ sym is

pub step_ends : (m next : LinkRings) (caller follows : ℕ) (wished : Option Wish) (end : CallEnd) → next ≡ After m caller follows wished → outcome.Ended end ≡ (caller_step side_meaning (lists_of m) caller follows wished).outcome
    → FormEndsIn 0 on_rings side_meaning m caller follows wished next end
unfolding FormEndsIn
step_ends m next caller follows wished end leaves is = (says_of m caller follows wished (outcome.Ended end) is, sym leaves)

whole_from : (m next : LinkRings) (caller follows : ℕ) (wished : Option Wish) (number : ℕ) → next ≡ After m caller follows wished → (form_step on_rings side_meaning m caller follows wished).outcome ≡ outcome.At number
    → (k : ℕ) (left : LinkRings) (end : CallEnd) → FormEndsIn k on_rings side_meaning next caller 0 None left end → FormEndsIn (suc k) on_rings side_meaning m caller follows wished left end
unfolding FormEndsIn
whole_from m next caller follows wished number leaves on k left end rest = (number, on, subst (λ (x : LinkRings). FormEndsIn k on_rings side_meaning x caller 0 None left end) leaves rest)

pub step_goes : (m next : LinkRings) (caller follows : ℕ) (wished : Option Wish) (said : Step) (end : CallEnd) → MayStep (lists_of m) caller wished → next ≡ After m caller follows wished
    → outcome_of said end ≡ (caller_step side_meaning (lists_of m) caller follows wished).outcome → (said ≡ step.Ended → ⊥) → GoesOn m next caller follows wished
step_goes m next caller follows wished step.Ended end may leaves is on = absurd (on refl)
step_goes m next caller follows wished (step.At number) end may leaves is on =
    let lists = caller_step side_meaning (lists_of m) caller follows wished in
    let goes = subst (λ (said : Outcome). WhereOn said (MayStep lists.state caller None × (left_of lists.state caller None < left_of (lists_of m) caller wished))) (sym is) (goes_on side_meaning (lists_of m) caller follows wished may) in
    let same : lists.state ≡ lists_of next = sym (step_agrees on_rings side_meaning (is_ring_form side_meaning) m caller follows wished) ∙ ap lists_of (sym leaves) in record {
      may = subst (λ (s : LinkState EndState). MayStep s caller None) same goes.0;
      fewer = subst (λ (s : LinkState EndState). left_of s caller None < left_of (lists_of m) caller wished) same goes.1;
      whole = whole_from m next caller follows wished number leaves (says_of m caller follows wished (outcome.At number) is);
    }

-- at most five steps follow the next one of a call that has done its first
pub few_left : (m next : LinkRings) (caller follows : ℕ) (wished : Option Wish) → GoesOn m next caller follows wished → left_of (lists_of next) caller None ≤ 5
few_left m next caller follows wished on = let most = most_left (lists_of m) caller wished in let fewer = on.fewer in omega (arith, most, fewer)

-- with so many steps in all
pub ends_after : (k n : ℕ) (m left : LinkRings) (caller follows : ℕ) (wished : Option Wish) (end : CallEnd) → k ≡ n → FormEndsIn k on_rings side_meaning m caller follows wished left end → FormEndsIn n on_rings side_meaning m caller follows wished left end
ends_after k n m left caller follows wished end same ends = subst (λ (steps : ℕ). FormEndsIn steps on_rings side_meaning m caller follows wished left end) same ends
