use Rattle.std.proofs.Common.{◌≡◌, ◌+◌, ◌-◌, ◌≤◌, Some}
use Rattle.std.specs.Option.{option_map}
use Rattle.lane_model.specs.Links.{LinkState}
use Rattle.lane_model.specs.WholeCalls.{left_of}
use Rattle.lane_model.specs.Answers.{MayAsk, wish_of, steps_to_answer}
use Rattle.lane_model.proofs.links.make_call.Given as goal

-- the link tells a state in which the call may go on, and what is left of it is what was left at first
abbrev pub invariant-loop : goal.invariant-loop
invariant-loop g l = record {
  told : LinkState g.row.L-Desk.Denot;
  is : g.L.Link.state l.link ≡ Some told;
  may : MayAsk told (g.L.Link.number l.pass) (g.L.Link.asked l.call);
  few : left_of told (g.L.Link.number l.pass) (option_map wish_of (g.L.Link.asked l.call)) + l.counter ≤ 6;
  left : (first : LinkState g.row.L-Desk.Denot) → g.L.Link.state l.fn.link ≡ Some first
      → steps_to_answer (7 - l.counter) g.L.Desk.Desk.meaning told (g.L.Link.number l.pass) (g.L.Link.follows l.call) (g.L.Link.asked l.call)
      ≡ steps_to_answer 7 g.L.Desk.Desk.meaning first (g.L.Link.number l.fn.pass) first.era.inc (Some l.fn.ask);
}
