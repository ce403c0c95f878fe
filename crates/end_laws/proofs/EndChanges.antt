-- What a binding and an unbinding leave of an end.
use Rattle.std.proofs.Common.{◌≡◌, ℕ, Bool, true, false, cond, not, List, [], ◌∷◌, filter, find, Option, Some, None, option_map, Result, Ok, Err, ok_or, refl, ap, sym, ◌∙◌, subst}
use Rattle.std.specs.Result.{result_ok}
use Rattle.std.proofs.lemmas.Bool.{eqb-true}
use Rattle.rp_base.specs.declared.kinds.Endpoint.{Endpoint}
use Rattle.rp_base.specs.declared.kinds.BoundEndpoint.{BoundEndpoint}
use Rattle.rp_base.specs.declared.kinds.BindFault.{BindFault}
use Rattle.rp_base.specs.declared.kinds.BindFault.TheVariants as fault
use Rattle.endpoint_map.specs.Bindings.{Bindings, is_at, endpoint_of, bound_at, bind_answer, after_bind, unbind_answer, after_unbind}
use Rattle.endpoint_map.proofs.Lookups.{binding, refused, unbinding}
use Rattle.channel_bus.specs.Sides.{EndState, is_service, side_bind_answer, after_side_bind, side_unbind_answer, after_side_unbind}
use Rattle.end_laws.specs.Changes.{AddsAtMost, RemovesAtMost, KeepsChannels}

-- what is found passes the test
pub found_passes : {X : Type 0} (test : X → Bool) (xs : List X) (x : X) → find test xs ≡ Some x → test x ≡ true
found_passes test [] x e = absurd cc
found_passes {X = X} test (y ∷ ys) x e =
    elim (test y) as (λ b. test y ≡ b → cond b (Some y) (find test ys) ≡ Some x → test x ≡ true) [
      | true ↦ λ passes found. subst (λ (z : X). test z ≡ true) (let same : y ≡ x = cc in same) passes
      | false ↦ λ _ found. found_passes test ys x found
    ] refl e

-- nothing goes where nothing is found
none_goes : {X : Type 0} (test : X → Bool) (xs : List X) → find test xs ≡ None → filter (λ x. not (test x)) xs ≡ xs
none_goes test [] e = refl
none_goes test (x ∷ xs) e =
    elim (test x) as (λ b. cond b (Some x) (find test xs) ≡ None → cond (not b) (x ∷ filter (λ y. not (test y)) xs) (filter (λ y. not (test y)) xs) ≡ x ∷ xs) [
      | true ↦ λ found. absurd cc
      | false ↦ λ found. ap (λ rest. x ∷ rest) (none_goes test xs found)
    ] e

-- what is found where the elements that pass the test all stay or all go
pub find_filtered : {X : Type 0} (test keeps : X → Bool) (stay : Bool) (xs : List X) → ((x : X) → test x ≡ true → keeps x ≡ stay) → find test (filter keeps xs) ≡ cond stay (find test xs) None
find_filtered test keeps true [] says = refl
find_filtered test keeps false [] says = refl
find_filtered {X = X} test keeps stay (x ∷ xs) says = by (find_filtered test keeps stay xs says) (test x) (keeps x) refl refl
  where
    by : find test (filter keeps xs) ≡ cond stay (find test xs) None → (passes kept : Bool) → test x ≡ passes → keeps x ≡ kept
        → find test (cond kept (x ∷ filter keeps xs) (filter keeps xs)) ≡ cond stay (cond passes (Some x) (find test xs)) None
    by rest true true t k = ap (λ b. cond b (Some x) (find test (filter keeps xs))) t ∙ ap (λ b. cond b (Some x) None) (sym k ∙ says x t)
    by rest true false t k =
        let goes : false ≡ stay = sym k ∙ says x t in
        rest ∙ ap (λ b. cond b (find test xs) None) (sym goes) ∙ ap (λ b. cond b (Some x) None) goes
    by rest false true t k = ap (λ b. cond b (Some x) (find test (filter keeps xs))) t ∙ rest
    by rest false false t k = rest

-- a binding of an address, by its answer
pub adds : (bindings : Bindings) (asked since : ℕ) (answer : Result Endpoint BindFault) → bind_answer bindings asked ≡ answer
    → AddsAtMost bindings (after_bind bindings asked since) (result_ok answer) since
adds bindings asked since (Ok endpoint) e = binding bindings asked since endpoint e
adds bindings asked since (Err why) e = refused bindings asked since why e

-- an unbinding of an address, by what is bound there
pub removes : (bindings : Bindings) (address : ℕ) (found : Option BoundEndpoint) → bound_at bindings address ≡ found
    → RemovesAtMost bindings (after_unbind bindings address) (option_map endpoint_of found)
removes bindings address None e =
    ap (λ (left : List BoundEndpoint). let now : Bindings = record { bound = left; count = bindings.count } in now) (none_goes (is_at address) bindings.bound e)
removes bindings address (Some one) e =
    let at : one.endpoint.address ≡ address = eqb-true one.endpoint.address address (found_passes (is_at address) bindings.bound one e) in
    subst (λ place. RemovesAtMost bindings (after_unbind bindings place) (Some one.endpoint)) at record {
      bound = ap (λ place. option_map endpoint_of (bound_at bindings place)) at ∙ ap (option_map endpoint_of) e;
      gone = unbinding bindings one.endpoint.address;
    }

pub binding_adds : (side : EndState) (address since : ℕ) → AddsAtMost side.bindings (after_side_bind side address since).bindings (result_ok (side_bind_answer side address)) since
binding_adds side address since = by (is_service side address)
  where
    by : (service : Bool) → AddsAtMost side.bindings (cond service side (record side { bindings = after_bind side.bindings address since })).bindings
        (result_ok (cond service (Err (fault.AddressTaken address)) (bind_answer side.bindings address))) since
    by true = refl
    by false = adds side.bindings address since (bind_answer side.bindings address) refl

pub unbinding_removes : (side : EndState) (address : ℕ) → RemovesAtMost side.bindings (after_side_unbind side address).bindings (result_ok (side_unbind_answer side address))
unbinding_removes side address = by (is_service side address)
  where
    answered : (found : Option BoundEndpoint) → bound_at side.bindings address ≡ found
        → RemovesAtMost side.bindings (after_unbind side.bindings address) (result_ok (ok_or (option_map endpoint_of found) (fault.NotBound address)))
    answered None e = removes side.bindings address None e
    answered (Some one) e = removes side.bindings address (Some one) e

    by : (service : Bool) → RemovesAtMost side.bindings (cond service side (record side { bindings = after_unbind side.bindings address })).bindings
        (result_ok (cond service (Err (fault.NotBound address)) (unbind_answer side.bindings address)))
    by true = refl
    by false = answered (bound_at side.bindings address) refl

-- an end of which only the endpoints may change
kept_by : (side : EndState) (service : Bool) (left : Bindings) → KeepsChannels side (cond service side (record side { bindings = left }))
kept_by side true left = record { service = refl; drivers = refl; channels = refl }
kept_by side false left = record { service = refl; drivers = refl; channels = refl }

pub binding_keeps : (side : EndState) (address since : ℕ) → KeepsChannels side (after_side_bind side address since)
binding_keeps side address since = kept_by side (is_service side address) (after_bind side.bindings address since)

pub unbinding_keeps : (side : EndState) (address : ℕ) → KeepsChannels side (after_side_unbind side address)
unbinding_keeps side address = kept_by side (is_service side address) (after_unbind side.bindings address)
