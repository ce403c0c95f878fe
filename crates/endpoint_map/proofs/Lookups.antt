-- What is found at an address after one endpoint more or less.
use Rattle.std.proofs.Common.{◌≡◌, ℕ, ◌+◌, ◌<◌, ◌≤◌, ◌≢◌, Bool, true, false, cond, not, eqb, List, [], ◌∷◌, ◌++◌, length, take, drop, filter, find, insert, Option, Some, None, is_some, Result, Ok, Err, refl, ap, sym, ◌∙◌, subst, arith}
use Rattle.std.specs.Option.{option_or}
use Rattle.std.specs.Result.{result_unwrap_or}
use Rattle.std.proofs.lemmas.List.{take-append-drop}
use Rattle.std.proofs.lemmas.List.Folds.{find-append}
use Rattle.std.proofs.lemmas.Bool.{eq-eqb, ne_eqb, eqb-true}
use Rattle.rp_base.specs.declared.kinds.Endpoint.{Endpoint}
use Rattle.rp_base.specs.declared.kinds.BoundEndpoint.{BoundEndpoint}
use Rattle.rp_base.specs.declared.kinds.BindFault.{BindFault}
use Rattle.endpoint_map.specs.Bindings.{Bindings, address_for, bound_at, is_at, is_bound, is_full, place_of, bind_answer, after_bind, after_unbind, BindsOne, UnbindsOne}
use Rattle.endpoint_map.proofs.Binds.{answer_by, answer_is, left_by, left_is}

-- an element that fails the test, put in anywhere
find-insert_other : {X : Type 0} (test : X → Bool) (xs : List X) (i : ℕ) (y : X) → test y ≡ false → find test (insert xs i y) ≡ find test xs
find-insert_other test xs i y fails =
    find-append test (take i xs) (y ∷ drop i xs)
    ∙ ap (λ b. option_or (find test (take i xs)) (cond b (Some y) (find test (drop i xs)))) fails
    ∙ sym (find-append test (take i xs) (drop i xs))
    ∙ ap (find test) (take-append-drop i xs)

-- nothing is found in the front of a list in which nothing is found
find_none-front : {X : Type 0} (test : X → Bool) (xs ys : List X) → find test (xs ++ ys) ≡ None → find test xs ≡ None
find_none-front test [] ys e = refl
find_none-front test (x ∷ xs) ys e =
    elim (test x) as (λ b. cond b (Some x) (find test (xs ++ ys)) ≡ None → cond b (Some x) (find test xs) ≡ None) [
      | true ↦ λ h. absurd cc
      | false ↦ λ h. find_none-front test xs ys h
    ] e

-- an element that passes the test, put in anywhere among others that fail it
find-insert_same : {X : Type 0} (test : X → Bool) (xs : List X) (i : ℕ) (y : X) → test y ≡ true → find test xs ≡ None → find test (insert xs i y) ≡ Some y
find-insert_same test xs i y passes none =
    find-append test (take i xs) (y ∷ drop i xs)
    ∙ ap (λ o. option_or o (cond (test y) (Some y) (find test (drop i xs)))) (find_none-front test (take i xs) (drop i xs) (ap (find test) (take-append-drop i xs) ∙ none))
    ∙ ap (λ b. cond b (Some y) (find test (drop i xs))) passes

-- an element that passes the one test passes the other, so one that fails the other fails the one
fails_both : {X : Type 0} (test keeps : X → Bool) (x : X) → (test x ≡ true → keeps x ≡ true) → keeps x ≡ false → test x ≡ false
fails_both test keeps x all e =
    elim (test x) as (λ b. test x ≡ b → b ≡ false) [
      | true ↦ λ t. let k = all t in absurd cc
      | false ↦ λ _. refl
    ] refl

-- what is found stays where only elements go that fail the test
find-filter_other : {X : Type 0} (test keeps : X → Bool) (xs : List X) → ((x : X) → test x ≡ true → keeps x ≡ true) → find test (filter keeps xs) ≡ find test xs
find-filter_other test keeps [] all = refl
find-filter_other test keeps (x ∷ xs) all =
    let rest = find-filter_other test keeps xs all in
    elim (keeps x) as (λ b. keeps x ≡ b → find test (cond b (x ∷ filter keeps xs) (filter keeps xs)) ≡ cond (test x) (Some x) (find test xs)) [
      | true ↦ λ e. ap (cond (test x) (Some x)) rest
      | false ↦ λ e. rest ∙ sym (ap (λ b. cond b (Some x) (find test xs)) (fails_both test keeps x (all x) e))
    ] refl

-- nothing is found where all go that pass the test
find-filter_same : {X : Type 0} (test : X → Bool) (xs : List X) → find test (filter (λ x. not (test x)) xs) ≡ None
find-filter_same test [] = refl
find-filter_same test (x ∷ xs) =
    let kept = filter (λ y. not (test y)) xs in
    let rest : find test kept ≡ None = find-filter_same test xs in
    elim (test x) as (λ b. test x ≡ b → find test (cond (not b) (x ∷ kept) kept) ≡ None) [
      | true ↦ λ e. rest
      | false ↦ λ e. ap (λ b. cond b (Some x) (find test kept)) e ∙ rest
    ] refl

none_if_not_some : {X : Type 0} (o : Option X) → is_some o ≡ false → o ≡ None
none_if_not_some None e = refl
none_if_not_some (Some x) e = absurd cc

-- a binding that succeeds
binding_by : (bindings : Bindings) (address since : ℕ) (endpoint : Endpoint) (taken full : Bool) → is_bound bindings address ≡ taken
    → answer_by bindings address taken full ≡ Ok endpoint → BindsOne bindings (left_by bindings address since taken full) endpoint since
binding_by bindings address since endpoint true full t e = absurd cc
binding_by bindings address since endpoint false true t e = absurd cc
binding_by bindings address since endpoint false false t e =
    let bound = bindings.bound in
    let one : Endpoint = record { address = address; generation = bindings.count + 1 } in
    let made : BoundEndpoint = record { endpoint = one; since = since } in
    let same : one ≡ endpoint = ap (λ r. result_unwrap_or r one) e in
    let after = left_by bindings address since false false in
    let there : bound_at after address ≡ Some made = find-insert_same (is_at address) bound (place_of address bound) made (eq-eqb address address refl) (none_if_not_some (bound_at bindings address) t) in
    let elsewhere : (other : ℕ) → other ≢ address → bound_at after other ≡ bound_at bindings other =
    λ other apart. find-insert_other (is_at other) bound (place_of address bound) made (ne_eqb address other (λ s. apart (sym s))) in
    subst (λ (x : Endpoint). BindsOne bindings after x since) same record { free = t; next = refl; counted = refl; there = there; elsewhere = elsewhere }

pub binding : (bindings : Bindings) (asked since : ℕ) (endpoint : Endpoint) → bind_answer bindings asked ≡ Ok endpoint → BindsOne bindings (after_bind bindings asked since) endpoint since
binding bindings asked since endpoint e =
    let address = address_for bindings asked in
    let taken = is_bound bindings address in
    let full = is_full bindings in
    subst (λ (left : Bindings). BindsOne bindings left endpoint since) (left_is bindings asked address since taken full refl refl refl)
    (binding_by bindings address since endpoint taken full refl (answer_is bindings asked address taken full refl refl refl ∙ e))

-- a binding that is refused
refused_by : (bindings : Bindings) (address since : ℕ) (fault : BindFault) (taken full : Bool) → answer_by bindings address taken full ≡ Err fault → left_by bindings address since taken full ≡ bindings
refused_by bindings address since fault true full e = refl
refused_by bindings address since fault false true e = refl
refused_by bindings address since fault false false e = absurd cc

pub refused : (bindings : Bindings) (asked since : ℕ) (fault : BindFault) → bind_answer bindings asked ≡ Err fault → after_bind bindings asked since ≡ bindings
refused bindings asked since fault e =
    let address = address_for bindings asked in
    let taken = is_bound bindings address in
    let full = is_full bindings in
    sym (left_is bindings asked address since taken full refl refl refl)
    ∙ refused_by bindings address since fault taken full (answer_is bindings asked address taken full refl refl refl ∙ e)

pub unbinding : (bindings : Bindings) (address : ℕ) → UnbindsOne bindings (after_unbind bindings address) address
unbinding bindings address = record {
  there = find-filter_same (is_at address) bindings.bound;
  elsewhere = λ other apart. find-filter_other (is_at other) (λ b. not (is_at address b)) bindings.bound (λ b at. ap not (ne_eqb b.endpoint.address address (λ s. apart (sym (eqb-true b.endpoint.address other at) ∙ s))));
  counted = refl;
}
