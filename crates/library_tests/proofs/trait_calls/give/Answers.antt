use Rattle.std.proofs.Common.{◌≡◌, ℕ, Some, Option, refl, sym, ap, subst, ◌∙◌, arith}
use Rattle.rp_base.specs.declared.kinds.End.{End}
use Rattle.rp_base.specs.declared.kinds.End.TheVariants as side
use Rattle.lane_model.specs.declared.calls.Wish.TheVariants as wish
use Rattle.lane_model.specs.Links.{link_of, end_of}
use Rattle.lane_model.specs.Conditions.{MayStep}
use Rattle.lane_model.specs.Answers.{IsHeldOf}
use Rattle.library_tests.proofs.trait_calls.give.Goals as goal

pub make_call-requires : goal.make_call-requires
make_call-requires g c =
    let link = link_of g.L.LaneForm.form c.args.link.now in
    let host : Some side.Host ≡ end_of c.args.link.now.callers 1 = ap (λ (e : End). Some e) (sym c.in-Some-Host.field-0-is) ∙ c.in-Some-Host.ensures.end in
    let lane : c.args.held.lane ≡ 0 = omega (arith, c.lane.ensures, c.if-lane-ne0.false) in
    let caller : c.args.held.caller ≡ 1 = omega (arith, c.caller.ensures, c.if-caller-ne1.false) in (
      link,
      refl,
      record {
        step = subst (λ n. MayStep link 1 (Some (wish.Give n))) c.number-number.ensures c.if-not-may_step.ensures;
        held = subst (λ (found : Option End). IsHeldOf found 1 c.args.held) host (lane, caller);
      },
    )
