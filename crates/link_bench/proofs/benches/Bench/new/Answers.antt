use Rattle.std.proofs.Common.{◌≡◌, List, Option, Some, slice_get, length, ap, subst}
use Rattle.link_bench.specs.declared.benches.BegunCall.{BegunCall}
use Rattle.link_bench.proofs.BegunCalls.{none_in_none}
use Rattle.link_bench.proofs.benches.Bench.new.Goals as goal

pub invariant_of-result : goal.invariant_of-result
invariant_of-result c =
    let none = c.in_ok-no_begun_calls.ensures in (
      ap length none,
      λ caller call is. absurd (none_in_none 64 caller call (subst (λ (begun : List (Option BegunCall)). slice_get begun caller ≡ Some (Some call)) none is)),
    )
