-- Where nothing is settled, each buffer stays where it is.
use Rattle.std.proofs.Common.{◌≡◌, ◌∙◌, ℕ, List, Option, Some, None, false, true≢false, is_some, refl, sym, subst}
use Rattle.lane_model.specs.declared.calls.CallEnd.{CallEnd}
use Rattle.managed_link.specs.declared.hands.Hand.{Hand}
use Rattle.managed_link.specs.Hands.{AreSome}
use Rattle.managed_link.specs.Steps.{hands_learnt, settled_in}
use Rattle.managed_link.proofs.steps.learn_at.Goals as goal

none_is : (o : Option CallEnd) → is_some o ≡ false → o ≡ None
none_is None not_some = refl
none_is (Some end) not_some = absurd (true≢false not_some)

same_hands : (o : Option CallEnd) (caller : ℕ) (hands : List Hand) → o ≡ None → AreSome (hands_learnt o caller hands) hands
same_hands o caller hands none = subst (λ (p : Option CallEnd). AreSome (hands_learnt p caller hands) hands) (sym none) (λ place hand here. (place, here))

pub returns-then-not-is_settled-clause-among : goal.returns-then-not-is_settled-clause-among
returns-then-not-is_settled-clause-among c =
    same_hands (settled_in c.args.slot.now) c.args.caller _ (none_is (settled_in c.args.slot.now) (sym c.is_settled.ensures ∙ c.if-not-is_settled.true))

pub returns-in_default-clause-among : goal.returns-in_default-clause-among
returns-in_default-clause-among c = same_hands (settled_in c.args.slot.now) c.args.caller _ (sym c.settled_in.ensures ∙ c.in_default.is)
