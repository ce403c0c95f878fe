use Rattle.std.proofs.Common.{◌≡◌, ℕ, suc, ◌-◌, ◌+◌, Some, None, sym, ap, subst, ◌∙◌, arith}
use Rattle.lane_model.specs.declared.lane_links.LaneLink.{LaneLink}
use Rattle.lane_model.specs.declared.calls.Outcome.TheVariants as outcome
use Rattle.lane_model.specs.Links.{LinkState, link_of, form_step}
use Rattle.lane_model.specs.Forms.{list_form}
use Rattle.lane_model.specs.Conditions.{MayStep}
use Rattle.lane_model.specs.WholeCalls.{form_to_end, steps_to_end}
use Rattle.lane_model.proofs.Ends.{same_outcome, step_ends, step_goes_on, may_again, six_are_enough}
use Rattle.lane_model.proofs.lane_links.LaneLink.finish.Goals as goal

pub returns-in-Ended-clause-whole : goal.returns-in-Ended-clause-whole
returns-in-Ended-clause-whole g c =
    let form = g.L.LaneForm.form in
    let desk = g.L.Desk.Desk.meaning in
    let count : 6 - c.loop.counter ≡ suc (5 - c.loop.counter) = omega arith in
    let here : outcome.Ended c.next_step.new.end ≡ (form_step form desk c.loop.self c.args.caller 0 None).outcome =
    c.in-Ended.ensures.outcome ∙ sym (same_outcome form desk c.loop.self c.args.caller 0 None) in
    sym c.loop.invariant.whole
    ∙ ap (λ n. form_to_end n form desk c.loop.self c.args.caller 0 None) count
    ∙ step_ends (5 - c.loop.counter) form desk c.loop.self c.args.caller 0 None c.next_step.new.end here
    ∙ ap (λ (state : LaneLink g.row.L.Denot). Some (record { state = state; end = c.next_step.new.end })) (sym c.in-Ended.ensures.whole)

pub returns-in-Ended-clause-left : goal.returns-in-Ended-clause-left
returns-in-Ended-clause-left g c =
    let form = g.L.LaneForm.form in
    let desk = g.L.Desk.Desk.meaning in
    let count : 6 - c.loop.counter ≡ suc (5 - c.loop.counter) = omega arith in
    sym c.loop.invariant.left
    ∙ ap (λ n. steps_to_end n desk (link_of form c.loop.self) c.args.caller 0 None) count
    ∙ step_ends (5 - c.loop.counter) (list_form desk) desk (link_of form c.loop.self) c.args.caller 0 None c.next_step.new.end c.in-Ended.ensures.outcome
    ∙ ap (λ (state : LinkState g.row.L-Desk.Denot). Some (record { state = state; end = c.next_step.new.end })) (sym c.in-Ended.ensures.left)

pub loop-preserved : goal.loop-preserved
loop-preserved g c =
    let form = g.L.LaneForm.form in
    let desk = g.L.Desk.Desk.meaning in
    let rest : ℕ = 6 - (c.loop.counter + 1) in
    let count : 6 - c.loop.counter ≡ suc rest = omega arith in
    let here : outcome.At c.in-At.field-0 ≡ (form_step form desk c.loop.self c.args.caller 0 None).outcome =
    c.in-At.ensures.outcome ∙ sym (same_outcome form desk c.loop.self c.args.caller 0 None) in
    record {
      may = subst (λ (state : LinkState g.row.L-Desk.Denot). MayStep state c.args.caller None) (sym c.in-At.ensures.left)
          (may_again desk (link_of form c.loop.self) c.args.caller 0 None c.in-At.field-0 c.in-At.ensures.outcome c.loop.invariant.may);
      whole = ap (λ (state : LaneLink g.row.L.Denot). form_to_end rest form desk state c.args.caller 0 None) c.in-At.ensures.whole
          ∙ sym (step_goes_on rest form desk c.loop.self c.args.caller 0 None c.in-At.field-0 here)
          ∙ sym (ap (λ n. form_to_end n form desk c.loop.self c.args.caller 0 None) count)
          ∙ c.loop.invariant.whole;
      left = ap (λ (state : LinkState g.row.L-Desk.Denot). steps_to_end rest desk state c.args.caller 0 None) c.in-At.ensures.left
          ∙ sym (step_goes_on rest (list_form desk) desk (link_of form c.loop.self) c.args.caller 0 None c.in-At.field-0 c.in-At.ensures.outcome)
          ∙ sym (ap (λ n. steps_to_end n desk (link_of form c.loop.self) c.args.caller 0 None) count)
          ∙ c.loop.invariant.left;
    }

pub unreachable-requires : goal.unreachable-requires
unreachable-requires g c =
    let form = g.L.LaneForm.form in
    let desk = g.L.Desk.Desk.meaning in
    six_are_enough desk (link_of form c.args.self.now) (link_of form c.loop.self) c.args.caller (6 - c.loop.counter) c.requires (omega arith) c.loop.invariant.left
