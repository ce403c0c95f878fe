-- The call may go on, with few steps left, and what ends it there ends the whole call.
use Rattle.std.proofs.Common.{◌≡◌, ◌+◌, ◌≤◌, ℕ, Some, None}
use Rattle.lane_model.specs.declared.calls.CallEnd.{CallEnd}
use Rattle.lane_model.specs.AtOnce.{FormEndsIn}
use Rattle.lane_model.specs.Conditions.{MayStep}
use Rattle.lane_model.specs.WholeCalls.{left_of}
use Rattle.channel_bus.specs.Sides.{side_meaning}
use Rattle.managed_link.specs.Known.{LinkRings, lists_of, on_rings}
use Rattle.managed_link.proofs.links.ManagedLink.walk.Given as goal

abbrev pub invariant-loop : goal.invariant-loop
invariant-loop l = record {
  may : MayStep (lists_of l.self) l.caller None;
  few : left_of (lists_of l.self) l.caller None + l.counter ≤ 5;
  counted : l.steps ≡ l.fn.steps + l.counter + 1;
  whole : (k : ℕ) (left : LinkRings) (end : CallEnd) → FormEndsIn k on_rings side_meaning l.self l.caller 0 None left end
      → FormEndsIn (k + (l.counter + 1)) on_rings side_meaning l.fn.self l.caller l.fn.follows (Some l.fn.wished) left end;
}
