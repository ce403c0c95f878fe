use Rattle.std.proofs.Common.{◌≡◌, ◌-◌, None}
use Rattle.lane_model.specs.Conditions.{MayStep}
use Rattle.lane_model.specs.Links.{link_of}
use Rattle.lane_model.specs.WholeCalls.{form_to_end, steps_to_end}
use Rattle.lane_model.proofs.lane_links.LaneLink.finish.Given as goal

-- the call may go on, and what is left of it is what was left at first
abbrev pub invariant-loop : goal.invariant-loop
invariant-loop g l = record {
  may : MayStep (link_of g.L.LaneForm.form l.self) l.caller None;
  whole : form_to_end (6 - l.counter) g.L.LaneForm.form g.L.Desk.Desk.meaning l.self l.caller 0 None
      ≡ form_to_end 6 g.L.LaneForm.form g.L.Desk.Desk.meaning l.fn.self l.caller 0 None;
  left : steps_to_end (6 - l.counter) g.L.Desk.Desk.meaning (link_of g.L.LaneForm.form l.self) l.caller 0 None
      ≡ steps_to_end 6 g.L.Desk.Desk.meaning (link_of g.L.LaneForm.form l.fn.self) l.caller 0 None;
}
