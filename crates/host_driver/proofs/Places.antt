-- Where an endpoint is among ascending ones, and what a change at its place is.
use Rattle.std.proofs.Common.{◌≡◌, ℕ, zero, suc, ◌<◌, ◌≤◌, Bool, true, false, cond, not, List, [], ◌∷◌, length, get_or, set, map, insert, remove, All, HoldsAt, Some, None, refl, ap, sym, ◌∙◌, inl, inr, arith}
use Rattle.std.specs.List.{AllWithin, prefix_len}
use Rattle.std.specs.List.Sorted.{IsPartitionPoint, IsPartitionedBy}
use Rattle.std.proofs.lemmas.Bool.{cases_order}
use Rattle.std.proofs.lemmas.List.Sums.{prefix_len_is, prefix_len_passes, prefix_len_stops}
use Rattle.std.proofs.lemmas.List.Elements.{All-cons}
use Rattle.std.proofs.lemmas.List.Kept.{AllPairs-cons}
use Rattle.std.proofs.lemmas.List.Sorted.{All-permutation, IsPermutation-insert}
use Rattle.rp_base.specs.declared.kinds.Endpoint.{Endpoint}
use Rattle.rp_base.specs.declared.kinds.DriverKind.TheVariants.{Sink}
use Rattle.host_driver.specs.declared.driven.DrivenEndpoint.{DrivenEndpoint}
use Rattle.host_driver.specs.Drivers.{is_before, drives, driven_at, without, place_of, IsAscending}
use Rattle.host_driver.proofs.Orders.{before_all, before_is_other, behind_is_other, behind, before_same, behind_same}

-- no endpoint in the list is this one
abbrev pub IsAbsent : Endpoint → List DrivenEndpoint → Type 0
IsAbsent endpoint driven = All (λ one. drives endpoint one ≡ false) driven

-- this one is at the place
abbrev pub IsAt : Endpoint → List DrivenEndpoint → ℕ → Type 0
IsAt endpoint driven place = HoldsAt (λ one. drives endpoint one ≡ true) driven place

-- what comes before an endpoint stands in front
pub is_parted : (endpoint : Endpoint) (driven : List DrivenEndpoint) → IsAscending driven → IsPartitionedBy (λ one. is_before one.endpoint endpoint) driven
is_parted endpoint driven up i j d le lt before =
    elim (cases_order i j) [
      | inl same ↦ ap (λ k. is_before (get_or driven k d).endpoint endpoint) same ∙ before
      | inr (inl less) ↦ before_all (get_or driven i d).endpoint (get_or driven j d).endpoint endpoint (up i j d less lt) before
      | inr (inr more) ↦ absurd (omega arith)
    ]

abbrev some_one : Endpoint → DrivenEndpoint
some_one endpoint = record { endpoint = endpoint; kind = Sink; channel = 0; deliveries = 0 }

pub place_is : (endpoint : Endpoint) (driven : List DrivenEndpoint) (place : ℕ) → place ≤ length driven
    → IsPartitionPoint (λ one. is_before one.endpoint endpoint ≡ true) (λ one. is_before one.endpoint endpoint ≡ false) driven place → place ≡ place_of endpoint driven
place_is endpoint driven place within parted =
    let d = some_one endpoint in
    sym (prefix_len_is (λ one. is_before one.endpoint endpoint) driven place d within
    (λ k less. parted.0 k d (omega arith) less)
    (λ less. parted.1 place d (omega arith) less))

-- where the endpoint is not at its place, it is nowhere
pub absent_at : (endpoint : Endpoint) (driven : List DrivenEndpoint) → IsAscending driven
    → (place_of endpoint driven < length driven → (d : DrivenEndpoint) → drives endpoint (get_or driven (place_of endpoint driven) d) ≡ false)
    → IsAbsent endpoint driven
absent_at endpoint driven up other k d lt =
    let place = place_of endpoint driven in
    let test : DrivenEndpoint → Bool = λ one. is_before one.endpoint endpoint in
    elim (cases_order k place) [
      | inl same ↦ ap (λ n. drives endpoint (get_or driven n d)) same ∙ other (omega arith) d
      | inr (inl less) ↦ before_is_other (get_or driven k d).endpoint endpoint (prefix_len_passes test driven k d less)
      | inr (inr more) ↦
          let within : place < length driven = omega arith in
          let here = (get_or driven place d).endpoint in
          let first = behind here endpoint (prefix_len_stops test driven d within) (other within d) in
          behind_is_other endpoint (get_or driven k d).endpoint (before_all endpoint here (get_or driven k d).endpoint first (up place k d more lt))
    ]

tail : (x : DrivenEndpoint) (xs : List DrivenEndpoint) → IsAscending (x ∷ xs) → IsAscending xs
tail x xs up i j d lt within = up (suc i) (suc j) d (omega arith) (omega arith)

absent_tail : (endpoint : Endpoint) (x : DrivenEndpoint) (xs : List DrivenEndpoint) → IsAbsent endpoint (x ∷ xs) → IsAbsent endpoint xs
absent_tail endpoint x xs absent k d lt = absent (suc k) d (omega arith)

-- ---- where the endpoint is not driven

pub absent_is_none : (endpoint : Endpoint) (driven : List DrivenEndpoint) → IsAbsent endpoint driven → driven_at endpoint driven ≡ None
absent_is_none endpoint [] absent = refl
absent_is_none endpoint (x ∷ xs) absent =
    ap (λ b. cond b (Some x) (driven_at endpoint xs)) (absent 0 x (omega arith))
    ∙ absent_is_none endpoint xs (absent_tail endpoint x xs absent)

pub absent_stays : (endpoint : Endpoint) (driven : List DrivenEndpoint) → IsAbsent endpoint driven → without endpoint driven ≡ driven
absent_stays endpoint [] absent = refl
absent_stays endpoint (x ∷ xs) absent =
    ap (λ b. cond (not b) (x ∷ without endpoint xs) (without endpoint xs)) (absent 0 x (omega arith))
    ∙ ap (λ ys. x ∷ ys) (absent_stays endpoint xs (absent_tail endpoint x xs absent))

-- a change of the endpoint alone
abbrev pub change : (DrivenEndpoint → DrivenEndpoint) → Endpoint → List DrivenEndpoint → List DrivenEndpoint
change f endpoint driven = map (λ one. cond (drives endpoint one) (f one) one) driven

pub absent_is_unchanged : (f : DrivenEndpoint → DrivenEndpoint) (endpoint : Endpoint) (driven : List DrivenEndpoint) → IsAbsent endpoint driven → change f endpoint driven ≡ driven
absent_is_unchanged f endpoint [] absent = refl
absent_is_unchanged f endpoint (x ∷ xs) absent =
    ap (λ b. cond b (f x) x ∷ change f endpoint xs) (absent 0 x (omega arith))
    ∙ ap (λ ys. x ∷ ys) (absent_is_unchanged f endpoint xs (absent_tail endpoint x xs absent))

-- ---- where it is driven

-- behind it, it is not again
absent_behind : (endpoint : Endpoint) (x : DrivenEndpoint) (xs : List DrivenEndpoint) → IsAscending (x ∷ xs) → drives endpoint x ≡ true → IsAbsent endpoint xs
absent_behind endpoint x xs up here k d lt = behind_same (get_or xs k d).endpoint x.endpoint endpoint (up 0 (suc k) d (omega arith) (omega arith)) here

-- nor before it
other_before : (endpoint : Endpoint) (x : DrivenEndpoint) (xs : List DrivenEndpoint) (place : ℕ) → IsAscending (x ∷ xs) → place < length xs → IsAt endpoint xs place → drives endpoint x ≡ false
other_before endpoint x xs place up lt at = before_same x.endpoint (get_or xs place x).endpoint endpoint (up 0 (suc place) x (omega arith) (omega arith)) (at x)

pub there_is_found : (endpoint : Endpoint) (driven : List DrivenEndpoint) (place : ℕ) (d : DrivenEndpoint) → IsAscending driven → place < length driven → IsAt endpoint driven place
    → driven_at endpoint driven ≡ Some (get_or driven place d)
there_is_found endpoint [] place d up lt at = absurd (omega arith)
there_is_found endpoint (x ∷ xs) zero d up lt at = ap (λ b. cond b (Some x) (driven_at endpoint xs)) (at x)
there_is_found endpoint (x ∷ xs) (suc place) d up lt at =
    ap (λ b. cond b (Some x) (driven_at endpoint xs)) (other_before endpoint x xs place up (omega arith) (λ e. at e))
    ∙ there_is_found endpoint xs place d (tail x xs up) (omega arith) (λ e. at e)

pub there_goes : (endpoint : Endpoint) (driven : List DrivenEndpoint) (place : ℕ) → IsAscending driven → place < length driven → IsAt endpoint driven place
    → without endpoint driven ≡ remove driven place
there_goes endpoint [] place up lt at = absurd (omega arith)
there_goes endpoint (x ∷ xs) zero up lt at =
    ap (λ b. cond (not b) (x ∷ without endpoint xs) (without endpoint xs)) (at x)
    ∙ absent_stays endpoint xs (absent_behind endpoint x xs up (at x))
there_goes endpoint (x ∷ xs) (suc place) up lt at =
    ap (λ b. cond (not b) (x ∷ without endpoint xs) (without endpoint xs)) (other_before endpoint x xs place up (omega arith) (λ e. at e))
    ∙ ap (λ ys. x ∷ ys) (there_goes endpoint xs place (tail x xs up) (omega arith) (λ e. at e))

pub there_is_changed : (f : DrivenEndpoint → DrivenEndpoint) (endpoint : Endpoint) (driven : List DrivenEndpoint) (place : ℕ) (d : DrivenEndpoint) → IsAscending driven → place < length driven → IsAt endpoint driven place
    → change f endpoint driven ≡ set driven place (f (get_or driven place d))
there_is_changed f endpoint [] place d up lt at = absurd (omega arith)
there_is_changed f endpoint (x ∷ xs) zero d up lt at =
    ap (λ b. cond b (f x) x ∷ change f endpoint xs) (at x)
    ∙ ap (λ ys. f x ∷ ys) (absent_is_unchanged f endpoint xs (absent_behind endpoint x xs up (at x)))
there_is_changed f endpoint (x ∷ xs) (suc place) d up lt at =
    ap (λ b. cond b (f x) x ∷ change f endpoint xs) (other_before endpoint x xs place up (omega arith) (λ e. at e))
    ∙ ap (λ ys. x ∷ ys) (there_is_changed f endpoint xs place d (tail x xs up) (omega arith) (λ e. at e))

-- ---- one endpoint more

-- the place of an endpoint that isn't driven: behind all that come before it and before all others
pub record IsPlace (endpoint : Endpoint) (driven : List DrivenEndpoint) (place : ℕ) : Type 0 where
  pub within : place ≤ length driven
  pub before : AllWithin (λ one. is_before one.endpoint endpoint ≡ true) driven 0 place
  pub behind : AllWithin (λ one. is_before endpoint one.endpoint ≡ true) driven place (length driven)

pub is_place : (endpoint : Endpoint) (driven : List DrivenEndpoint) (place : ℕ) → place ≤ length driven → IsAbsent endpoint driven → IsAscending driven
    → place ≡ place_of endpoint driven → IsPlace endpoint driven place
is_place endpoint driven place within absent up is =
    let test : DrivenEndpoint → Bool = λ one. is_before one.endpoint endpoint in
    record {
      within = within;
      before = λ k d low high. prefix_len_passes test driven k d (omega arith);
      behind = λ k d low high.
          behind (get_or driven k d).endpoint endpoint (elim (test (get_or driven k d)) as (λ b. test (get_or driven k d) ≡ b → test (get_or driven k d) ≡ false) [
            | false ↦ λ e. e
            | true ↦ λ e.
                let stops = prefix_len_stops test driven d (omega arith) in
                let passes = is_parted endpoint driven up (prefix_len test driven) k d (omega arith) high e in
                absurd cc
          ] refl) (absent k d high);
    }

pub ascending-insert : (one : DrivenEndpoint) (driven : List DrivenEndpoint) (place : ℕ) → IsAscending driven → IsPlace one.endpoint driven place → IsAscending (insert driven place one)
ascending-insert one [] zero up p = λ i j d lt within. absurd (omega arith)
ascending-insert one [] (suc place) up p = absurd (let h = p.within in omega arith)
ascending-insert one (x ∷ xs) zero up p =
    AllPairs-cons (λ a b. is_before a.endpoint b.endpoint ≡ true) one (x ∷ xs) (λ k d lt. p.behind k d (omega arith) lt) up
ascending-insert one (x ∷ xs) (suc place) up p =
    let is_after : DrivenEndpoint → Type 0 = λ b. is_before x.endpoint b.endpoint ≡ true in
    let place_in_rest : IsPlace one.endpoint xs place = record {
      within = let h = p.within in omega arith;
      before = λ k d low high. p.before (suc k) d (omega arith) (omega arith);
      behind = λ k d low high. p.behind (suc k) d (omega arith) (omega arith);
    } in
    let later : All is_after (one ∷ xs) = All-cons is_after one xs (p.before 0 x (omega arith) (omega arith)) (λ k d lt. up 0 (suc k) d (omega arith) (omega arith)) in
    AllPairs-cons (λ a b. is_before a.endpoint b.endpoint ≡ true) x (insert xs place one)
    (All-permutation is_after (one ∷ xs) (insert xs place one) (IsPermutation-insert xs place one) later)
    (ascending-insert one xs place (tail x xs up) place_in_rest)
