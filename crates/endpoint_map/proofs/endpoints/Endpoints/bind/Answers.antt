use Rattle.std.proofs.Common.{◌≡◌, ℕ, ◌+◌, List, true, false, cond, refl, ap, sym, ◌∙◌, subst, is_some, is_ok, insert, length, arith}
use Rattle.std.proofs.lemmas.List.Edits.{length-insert}
use Rattle.rp_base.specs.declared.kinds.BoundEndpoint.{BoundEndpoint}
use Rattle.endpoint_map.specs.Bindings.{Bindings, is_full, place_of, IsAscending, IsPlace}
use Rattle.endpoint_map.proofs.Places.{at_address, found_at, found_nowhere, place_is, ascending-insert}
use Rattle.endpoint_map.proofs.Binds.{answer_by, answer_is, left_by, left_is, fewer_if_fits}
use Rattle.endpoint_map.proofs.endpoints.Endpoints.bind.Goals as goal

pub returns-in-Ok-clause-answer : goal.returns-in-Ok-clause-answer
returns-in-Ok-clause-answer c =
    let now = c.args.self.now in
    let taken = ap is_some (found_at now c.address_for-address.result c.in-Ok.field-0 (at_address 0) c.search.ensures.ascending c.in-Ok.ensures.found.0 c.in-Ok.ensures.found.1) in
    answer_is now c.args.address c.address_for-address.result true (is_full now) c.address_for-address.ensures.address taken refl

pub returns-in-Ok-clause-left : goal.returns-in-Ok-clause-left
returns-in-Ok-clause-left c =
    let now = c.args.self.now in
    let taken = ap is_some (found_at now c.address_for-address.result c.in-Ok.field-0 (at_address 0) c.search.ensures.ascending c.in-Ok.ensures.found.0 c.in-Ok.ensures.found.1) in
    left_is now c.args.address c.address_for-address.result c.args.since true (is_full now) c.address_for-address.ensures.address taken refl

pub returns-then-is_full-clause-answer : goal.returns-then-is_full-clause-answer
returns-then-is_full-clause-answer c =
    let now = c.args.self.now in
    let free = ap is_some (found_nowhere now c.address_for-address.result c.in-Err.place c.in-Err.ensures.absent) in
    answer_is now c.args.address c.address_for-address.result false true c.address_for-address.ensures.address free (sym c.is_full.ensures ∙ c.if-is_full.true)

abbrev one_of : (address bindings since : ℕ) → BoundEndpoint
one_of address bindings since = record { endpoint = record { address = address; generation = bindings + 1 }; since = since }

-- the place of the address among the endpoints in the table, and what it has afterwards
place_inside : (address place : ℕ) (items bound : List BoundEndpoint) → items ≡ bound → IsPlace address bound place → IsPlace address items place
place_inside address place items bound same p = subst (λ xs. IsPlace address xs place) (sym same) p

pub invariant_of-self : goal.invariant_of-self
invariant_of-self c =
    let inside = c.self.inside in
    let items = inside.bound.items in
    let address = c.address_for-address.result in
    let place = c.in-Err.place in
    let one = one_of address inside.bindings c.args.since in
    let same : items ≡ c.args.self.now.bound = ap (λ b. b.bound) c.self.view_is in
    let absent = place_inside address place items c.args.self.now.bound same c.in-Err.ensures.absent in
    let added : c.insert.new.self.items ≡ insert items place one = c.insert.ensures.items ∙ ap (λ r. cond (is_ok r) (insert items place one) items) c.unwrap.ensures in
    let fewer = fewer_if_fits c.args.self.now (sym c.is_full.ensures ∙ c.if-is_full.false) in (
      subst IsAscending (sym added) (ascending-insert one items place c.self.invariant.0 absent),
      omega (arith, ap length added, ap length same, fewer, length-insert items place one absent.within),
      omega (arith, c.self.invariant.2, c.insert.ensures.capacity),
    )

pub returns-clause-answer : goal.returns-clause-answer
returns-clause-answer c =
    let now = c.args.self.now in
    let address = c.address_for-address.result in
    let free = ap is_some (found_nowhere now address c.in-Err.place c.in-Err.ensures.absent) in
    ap (λ v. answer_by v address false false) c.self.view_is
    ∙ answer_is now c.args.address address false false c.address_for-address.ensures.address free (sym c.is_full.ensures ∙ c.if-is_full.false)

pub returns-clause-left : goal.returns-clause-left
returns-clause-left c =
    let now = c.args.self.now in
    let inside = c.self.inside in
    let items = inside.bound.items in
    let address = c.address_for-address.result in
    let place = c.in-Err.place in
    let one = one_of address inside.bindings c.args.since in
    let free = ap is_some (found_nowhere now address place c.in-Err.ensures.absent) in
    let same : items ≡ now.bound = ap (λ b. b.bound) c.self.view_is in
    let there : place_of address items ≡ place = place_is address items place (place_inside address place items now.bound same c.in-Err.ensures.absent) in
    let added : c.insert.new.self.items ≡ insert items place one = c.insert.ensures.items ∙ ap (λ r. cond (is_ok r) (insert items place one) items) c.unwrap.ensures in
    ap (λ xs. record { bound = xs; count = inside.bindings + 1 }) (added ∙ ap (λ k. insert items k one) (sym there))
    ∙ ap (λ v. left_by v address c.args.since false false) c.self.view_is
    ∙ left_is now c.args.address address c.args.since false false c.address_for-address.ensures.address free (sym c.is_full.ensures ∙ c.if-is_full.false)
