use Rattle.std.proofs.Common.{◌≡◌, ◌≢◌, ◌+◌, ◌-◌, ◌<◌, ◌/◌, ap, ◌∙◌, sym, subst, get_or, length, HoldsAt, arith}
use Rattle.std.proofs.lemmas.List.{get_or_default}
use Rattle.endpoint_map.specs.Bindings.{IsAscending, first_dynamic}
use Rattle.endpoint_map.proofs.Gaps.{AreFilled, filled, least_free_is, gap_is_least}
use Rattle.endpoint_map.proofs.endpoints.Endpoints.least_free.Goals as goal

pub loop-low-preserved-then-index-middle : goal.loop-low-preserved-then-index-middle
loop-low-preserved-then-index-middle c =
    let same = ap (λ b. b.bound) c.self.view_is in
    let bound = c.args.self.now.bound in
    let first = c.first_dynamic-first.result in
    let middle = c.loop-low.low + (c.loop-low.high - c.loop-low.low) / 2 in
    let read = c.index.result.now in
    let lt : first + middle < length bound = omega (arith, c.loop-low.invariant.within) in
    let here : HoldsAt (λ b. b.endpoint.address ≡ first_dynamic + middle) bound (first + middle) =
    λ d. ap (λ b. b.endpoint.address) (get_or_default bound (first + middle) d read lt ∙ sym (c.index.ensures ∙ ap (λ xs. get_or xs (first + middle) read) same)) ∙ c.if-index-middle.true in
    record {
      ordered = omega arith;
      within = c.loop-low.invariant.within;
      filled = filled bound first middle (subst IsAscending same c.self.invariant.0) c.first_dynamic-first.ensures lt here;
      stops = c.loop-low.invariant.stops;
    }

pub returns-clause-address : goal.returns-clause-address
returns-clause-address c =
    let place = c.first_dynamic-first.result in
    let same = ap (λ b. b.bound) c.self.view_is in
    let met = c.loop-low.invariant in
    let end : c.loop-low.high ≡ c.loop-low.low = omega (arith, met.ordered) in
    let bound = c.args.self.now.bound in
    let stops = subst (λ n. place + n < length bound → HoldsAt (λ b. b.endpoint.address ≢ first_dynamic + n) bound (place + n)) end met.stops in
    least_free_is c.args.self.now place c.loop-low.low (subst IsAscending same c.self.invariant.0) c.first_dynamic-first.ensures (omega (arith, met.within)) met.filled stops

pub returns-clause-least : goal.returns-clause-least
returns-clause-least c =
    let place = c.first_dynamic-first.result in
    let same = ap (λ b. b.bound) c.self.view_is in
    let met = c.loop-low.invariant in
    let end : c.loop-low.high ≡ c.loop-low.low = omega (arith, met.ordered) in
    let bound = c.args.self.now.bound in
    let stops = subst (λ n. place + n < length bound → HoldsAt (λ b. b.endpoint.address ≢ first_dynamic + n) bound (place + n)) end met.stops in
    gap_is_least c.args.self.now place c.loop-low.low (subst IsAscending same c.self.invariant.0) c.first_dynamic-first.ensures (omega (arith, met.within)) met.filled stops
