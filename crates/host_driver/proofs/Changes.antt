-- How each endpoint is driven after a change.
use Rattle.std.proofs.Common.{◌≡◌, ◌≢◌, ℕ, Bool, true, false, cond, not, ◌&&◌, eqb, List, [], ◌∷◌, ◌++◌, take, drop, find, insert, Some, None, refl, ap, sym, ◌∙◌, subst}
use Rattle.std.specs.Option.{option_or, option_map}
use Rattle.std.proofs.lemmas.Bool.{eqb-true, eq-eqb}
use Rattle.std.proofs.lemmas.List.{take-append-drop}
use Rattle.std.proofs.lemmas.List.Folds.{find-append}
use Rattle.rp_base.specs.declared.kinds.Endpoint.{Endpoint}
use Rattle.rp_base.specs.declared.kinds.DriverKind.{DriverKind}
use Rattle.host_driver.specs.declared.driven.DrivenEndpoint.{DrivenEndpoint}
use Rattle.host_driver.specs.Drivers.{DriversState, is_same_endpoint, drives, driven_at, without, place_of, with_delivery, newly_driven, driven_by, kind_for, after_created}
use Rattle.host_driver.specs.Runs.{ChangesOne}
use Rattle.host_driver.proofs.Places.{change}

-- endpoints that pass the test are one
one_endpoint : (a b : Endpoint) → is_same_endpoint a b ≡ true → a ≡ b
one_endpoint a b same =
    let parts = both (eqb a.address b.address) (eqb a.generation b.generation) same in
    ap (λ address. record { address = address; generation = a.generation }) (eqb-true a.address b.address parts.0)
    ∙ ap (λ generation. record { address = b.address; generation = generation }) (eqb-true a.generation b.generation parts.1)
  where
    both : (p q : Bool) → (p && q) ≡ true → (p ≡ true) × (q ≡ true)
    both true true e = (refl, refl)
    both true false e = absurd cc
    both false q e = absurd cc

same_as_itself : (a : Endpoint) → is_same_endpoint a a ≡ true
same_as_itself a = ap (λ b. b && eqb a.generation a.generation) (eq-eqb a.address a.address refl) ∙ eq-eqb a.generation a.generation refl

-- an endpoint that drives one drives no other
drives_one : (endpoint other : Endpoint) (one : DrivenEndpoint) → other ≢ endpoint → drives endpoint one ≡ true → drives other one ≡ false
drives_one endpoint other one apart here =
    elim (drives other one) as (λ b. drives other one ≡ b → b ≡ false) [
      | false ↦ λ e. refl
      | true ↦ λ e. absurd (apart (sym (one_endpoint one.endpoint other e) ∙ one_endpoint one.endpoint endpoint here))
    ] refl

-- what is found after a change by which each element stays the same for the test, or goes and fails it
found_in_rest : (endpoint other : Endpoint) (driven : List DrivenEndpoint) → other ≢ endpoint → driven_at other (without endpoint driven) ≡ driven_at other driven
found_in_rest endpoint other [] apart = refl
found_in_rest endpoint other (x ∷ xs) apart =
    elim (drives endpoint x) as (λ b. drives endpoint x ≡ b → driven_at other (cond (not b) (x ∷ without endpoint xs) (without endpoint xs)) ≡ cond (drives other x) (Some x) (driven_at other xs)) [
      | true ↦ λ e. found_in_rest endpoint other xs apart ∙ sym (ap (λ b. cond b (Some x) (driven_at other xs)) (drives_one endpoint other x apart e))
      | false ↦ λ e. ap (λ o. cond (drives other x) (Some x) o) (found_in_rest endpoint other xs apart)
    ] refl

gone : (endpoint : Endpoint) (driven : List DrivenEndpoint) → driven_at endpoint (without endpoint driven) ≡ None
gone endpoint [] = refl
gone endpoint (x ∷ xs) =
    elim (drives endpoint x) as (λ b. drives endpoint x ≡ b → driven_at endpoint (cond (not b) (x ∷ without endpoint xs) (without endpoint xs)) ≡ None) [
      | true ↦ λ e. gone endpoint xs
      | false ↦ λ e. ap (λ b. cond b (Some x) (driven_at endpoint (without endpoint xs))) e ∙ gone endpoint xs
    ] refl

-- an element that fails the test, put in anywhere
find-insert_other : (test : DrivenEndpoint → Bool) (xs : List DrivenEndpoint) (i : ℕ) (y : DrivenEndpoint) → test y ≡ false → find test (insert xs i y) ≡ find test xs
find-insert_other test xs i y fails =
    find-append test (take i xs) (y ∷ drop i xs)
    ∙ ap (λ b. option_or (find test (take i xs)) (cond b (Some y) (find test (drop i xs)))) fails
    ∙ sym (find-append test (take i xs) (drop i xs))
    ∙ ap (find test) (take-append-drop i xs)

-- nothing is found in the front of a list in which nothing is found
find_none-front : (test : DrivenEndpoint → Bool) (xs ys : List DrivenEndpoint) → find test (xs ++ ys) ≡ None → find test xs ≡ None
find_none-front test [] ys e = refl
find_none-front test (x ∷ xs) ys e =
    elim (test x) as (λ b. cond b (Some x) (find test (xs ++ ys)) ≡ None → cond b (Some x) (find test xs) ≡ None) [
      | true ↦ λ h. absurd cc
      | false ↦ λ h. find_none-front test xs ys h
    ] e

-- an element that passes the test, put in anywhere among others that fail it
find-insert_same : (test : DrivenEndpoint → Bool) (xs : List DrivenEndpoint) (i : ℕ) (y : DrivenEndpoint) → test y ≡ true → find test xs ≡ None → find test (insert xs i y) ≡ Some y
find-insert_same test xs i y passes none =
    find-append test (take i xs) (y ∷ drop i xs)
    ∙ ap (λ o. option_or o (cond (test y) (Some y) (find test (drop i xs)))) (find_none-front test (take i xs) (drop i xs) (ap (find test) (take-append-drop i xs) ∙ none))
    ∙ ap (λ b. cond b (Some y) (find test (drop i xs))) passes

pub destroyed_changes : (driven : List DrivenEndpoint) (endpoint : Endpoint) → ChangesOne driven (without endpoint driven) endpoint None
destroyed_changes driven endpoint = record { there = gone endpoint driven; elsewhere = λ other apart. found_in_rest endpoint other driven apart }

put_changes : (driven : List DrivenEndpoint) (one : DrivenEndpoint) (i : ℕ) → ChangesOne driven (insert (without one.endpoint driven) i one) one.endpoint (Some one)
put_changes driven one i =
    let others = without one.endpoint driven in
    record {
      there = find-insert_same (drives one.endpoint) others i one (same_as_itself one.endpoint) (gone one.endpoint driven);
      elsewhere = λ other apart. find-insert_other (drives other) others i one (drives_one one.endpoint other one apart (same_as_itself one.endpoint)) ∙ found_in_rest one.endpoint other driven apart;
    }

pub created_changes : (drivers : DriversState) (name : List ℕ) (endpoint : Endpoint) (channel : ℕ) (kind : DriverKind) → kind_for drivers name ≡ Some kind
    → ChangesOne drivers.driven (after_created drivers name endpoint channel).driven endpoint (Some (newly_driven kind endpoint channel))
created_changes drivers name endpoint channel kind e =
    let one = newly_driven kind endpoint channel in
    subst (λ o. ChangesOne drivers.driven (driven_by o endpoint channel drivers.driven) endpoint (Some one)) (sym e)
    (put_changes drivers.driven one (place_of endpoint (without endpoint drivers.driven)))

pub not_driven_stays : (drivers : DriversState) (name : List ℕ) (endpoint : Endpoint) (channel : ℕ) → kind_for drivers name ≡ None → after_created drivers name endpoint channel ≡ drivers
not_driven_stays drivers name endpoint channel e =
    ap (λ o. record drivers { driven = driven_by o endpoint channel drivers.driven }) e

-- a delivery changes no endpoint's address or generation
counted_there : (endpoint : Endpoint) (driven : List DrivenEndpoint) → driven_at endpoint (change with_delivery endpoint driven) ≡ option_map with_delivery (driven_at endpoint driven)
counted_there endpoint [] = refl
counted_there endpoint (x ∷ xs) =
    elim (drives endpoint x) as (λ b. drives endpoint x ≡ b → driven_at endpoint (cond b (with_delivery x) x ∷ change with_delivery endpoint xs) ≡ option_map with_delivery (cond b (Some x) (driven_at endpoint xs))) [
      | true ↦ λ e. ap (λ b. cond b (Some (with_delivery x)) (driven_at endpoint (change with_delivery endpoint xs))) e
      | false ↦ λ e. ap (λ b. cond b (Some x) (driven_at endpoint (change with_delivery endpoint xs))) e ∙ counted_there endpoint xs
    ] refl

counted_elsewhere : (endpoint other : Endpoint) (driven : List DrivenEndpoint) → other ≢ endpoint → driven_at other (change with_delivery endpoint driven) ≡ driven_at other driven
counted_elsewhere endpoint other [] apart = refl
counted_elsewhere endpoint other (x ∷ xs) apart =
    elim (drives endpoint x) as (λ b. drives endpoint x ≡ b → driven_at other (cond b (with_delivery x) x ∷ change with_delivery endpoint xs) ≡ cond (drives other x) (Some x) (driven_at other xs)) [
      | true ↦ λ e.
          let no = drives_one endpoint other x apart e in
          ap (λ b. cond b (Some (with_delivery x)) (driven_at other (change with_delivery endpoint xs))) no
          ∙ counted_elsewhere endpoint other xs apart
          ∙ sym (ap (λ b. cond b (Some x) (driven_at other xs)) no)
      | false ↦ λ e. ap (λ o. cond (drives other x) (Some x) o) (counted_elsewhere endpoint other xs apart)
    ] refl

pub delivered_changes : (driven : List DrivenEndpoint) (endpoint : Endpoint) → ChangesOne driven (change with_delivery endpoint driven) endpoint (option_map with_delivery (driven_at endpoint driven))
delivered_changes driven endpoint = record { there = counted_there endpoint driven; elsewhere = λ other apart. counted_elsewhere endpoint other driven apart }
