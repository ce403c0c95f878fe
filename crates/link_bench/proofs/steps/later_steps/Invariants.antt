use Rattle.std.proofs.Common.{◌≡◌, ◌-◌, None}
use Rattle.lane_model.specs.Conditions.{MayStep}
use Rattle.link_bench.specs.Benches.{OthersMay, later_steps, lists_of, on_rings}
use Rattle.link_bench.proofs.steps.later_steps.Given as goal

-- the steps that are left lead where all of them do
abbrev pub invariant-loop : goal.invariant-loop
invariant-loop l = record {
  walk : later_steps on_rings (l.fn.more - l.counter) l.last l.steps l.link l.fn.caller ≡ later_steps on_rings l.fn.more l.fn.last l.fn.steps l.fn.link l.fn.caller;
  may : MayStep (lists_of l.link) l.fn.caller None;
  others : OthersMay (lists_of l.fn.link) (lists_of l.link) l.fn.caller;
}
