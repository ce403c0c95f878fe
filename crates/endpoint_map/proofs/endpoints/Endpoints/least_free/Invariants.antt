use Rattle.std.proofs.Common.{◌-◌, ◌+◌, ◌≡◌, ◌<◌, ◌≤◌, ◌≢◌, length, HoldsAt}
use Rattle.endpoint_map.specs.Bindings.{first_dynamic}
use Rattle.endpoint_map.proofs.Gaps.{AreFilled}
use Rattle.endpoint_map.proofs.endpoints.Endpoints.least_free.Given as goal

abbrev pub invariant-loop-low : goal.invariant-loop-low
invariant-loop-low l =
    record {
      ordered : l.low ≤ l.high;
      within : l.first + l.high ≤ length l.self.bound;
      filled : AreFilled l.self.bound l.first l.low;
      stops : l.first + l.high < length l.self.bound → HoldsAt (λ b. b.endpoint.address ≢ first_dynamic + l.high) l.self.bound (l.first + l.high);
    }

abbrev pub decreases-loop-low : goal.decreases-loop-low
decreases-loop-low l = l.high - l.low
