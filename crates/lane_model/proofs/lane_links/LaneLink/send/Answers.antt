use Rattle.std.proofs.Common.{◌≡◌, Some, None, ◌++◌, sym, ap, ◌∙◌}
use Rattle.lane_model.specs.declared.lane_links.LaneLink.{LaneLink}
use Rattle.lane_model.specs.declared.calls.Wish.{Wish}
use Rattle.lane_model.specs.declared.calls.Wish.TheVariants as wish
use Rattle.lane_model.specs.declared.calls.Outcome.TheVariants as outcome
use Rattle.lane_model.specs.Links.{LinkState, link_of, form_step}
use Rattle.lane_model.specs.Forms.{list_form}
use Rattle.lane_model.specs.WholeCalls.{form_to_end, steps_to_end}
use Rattle.lane_model.proofs.Ends.{same_outcome, step_ends, step_goes_on, any_follows, may_again}
use Rattle.lane_model.proofs.lane_links.LaneLink.send.Goals as goal

pub finish-requires : goal.finish-requires
finish-requires g c =
    let form = g.L.LaneForm.form in
    let desk = g.L.Desk.Desk.meaning in
    let wished : Wish = wish.Send (c.args.head.now ++ c.args.body.now) in
    rw c.in-At.ensures.left (may_again desk (link_of form c.args.self.now) c.args.caller c.args.follows (Some wished) c.in-At.field-0 c.in-At.ensures.outcome c.requires.may)

pub returns-in-At-clause-whole : goal.returns-in-At-clause-whole
returns-in-At-clause-whole g c =
    let form = g.L.LaneForm.form in
    let desk = g.L.Desk.Desk.meaning in
    let wished : Wish = wish.Send (c.args.head.now ++ c.args.body.now) in
    let here : outcome.At c.in-At.field-0 ≡ (form_step form desk c.args.self.now c.args.caller c.args.follows (Some wished)).outcome =
    c.in-At.ensures.outcome ∙ sym (same_outcome form desk c.args.self.now c.args.caller c.args.follows (Some wished)) in
    step_goes_on 6 form desk c.args.self.now c.args.caller c.args.follows (Some wished) c.in-At.field-0 here
    ∙ any_follows 6 form desk _ c.args.caller c.args.follows 0
    ∙ sym (ap (λ (state : LaneLink g.row.L.Denot). form_to_end 6 form desk state c.args.caller 0 None) c.in-At.ensures.whole)
    ∙ c.finish.ensures.whole

pub returns-in-At-clause-left : goal.returns-in-At-clause-left
returns-in-At-clause-left g c =
    let form = g.L.LaneForm.form in
    let desk = g.L.Desk.Desk.meaning in
    let wished : Wish = wish.Send (c.args.head.now ++ c.args.body.now) in
    step_goes_on 6 (list_form desk) desk (link_of form c.args.self.now) c.args.caller c.args.follows (Some wished) c.in-At.field-0 c.in-At.ensures.outcome
    ∙ any_follows 6 (list_form desk) desk _ c.args.caller c.args.follows 0
    ∙ sym (ap (λ (state : LinkState g.row.L-Desk.Denot). steps_to_end 6 desk state c.args.caller 0 None) c.in-At.ensures.left)
    ∙ c.finish.ensures.left

pub returns-in-Ended-clause-whole : goal.returns-in-Ended-clause-whole
returns-in-Ended-clause-whole g c =
    let form = g.L.LaneForm.form in
    let desk = g.L.Desk.Desk.meaning in
    let wished : Wish = wish.Send (c.args.head.now ++ c.args.body.now) in
    let here : outcome.Ended c.send_first.new.end ≡ (form_step form desk c.args.self.now c.args.caller c.args.follows (Some wished)).outcome =
    c.in-Ended.ensures.outcome ∙ sym (same_outcome form desk c.args.self.now c.args.caller c.args.follows (Some wished)) in
    step_ends 6 form desk c.args.self.now c.args.caller c.args.follows (Some wished) c.send_first.new.end here
    ∙ ap (λ (state : LaneLink g.row.L.Denot). Some (record { state = state; end = c.send_first.new.end })) (sym c.in-Ended.ensures.whole)

pub returns-in-Ended-clause-left : goal.returns-in-Ended-clause-left
returns-in-Ended-clause-left g c =
    let form = g.L.LaneForm.form in
    let desk = g.L.Desk.Desk.meaning in
    let wished : Wish = wish.Send (c.args.head.now ++ c.args.body.now) in
    step_ends 6 (list_form desk) desk (link_of form c.args.self.now) c.args.caller c.args.follows (Some wished) c.send_first.new.end c.in-Ended.ensures.outcome
    ∙ ap (λ (state : LinkState g.row.L-Desk.Denot). Some (record { state = state; end = c.send_first.new.end })) (sym c.in-Ended.ensures.left)
