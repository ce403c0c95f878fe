use Rattle.std.proofs.Common.{rules, ap, ◌∙◌, subst}
use Rattle.std.proofs.lemmas.List.Sorted.{answers_always}
use Rattle.endpoint_map.specs.Bindings.{IsAscending}
use Rattle.endpoint_map.proofs.Places.{search_found, search_absent}
use Rattle.endpoint_map.proofs.endpoints.Endpoints.search.Goals as goal

pub returns-clause-found : goal.returns-clause-found
returns-clause-found c =
    let call = c.binary_search_by_key in
    let same = c.deref.ensures.value ∙ ap (λ b. b.bound) c.self.view_is in
    search_found _ _ _ _ same call.ensures.bound (call.ensures.position (λ b. b.endpoint.address) (answers_always _ _ _ (λ f a r q k. search rules)))

pub returns-clause-absent : goal.returns-clause-absent
returns-clause-absent c =
    let call = c.binary_search_by_key in
    let same = c.deref.ensures.value ∙ ap (λ b. b.bound) c.self.view_is in
    search_absent _ _ _ _ same (subst IsAscending (ap (λ b. b.bound) c.self.view_is) c.self.invariant.0) call.ensures.bound (call.ensures.position (λ b. b.endpoint.address) (answers_always _ _ _ (λ f a r q k. search rules)))

pub returns-clause-ascending : goal.returns-clause-ascending
returns-clause-ascending c = subst IsAscending (ap (λ b. b.bound) c.self.view_is) c.self.invariant.0
