-- The first gap among ascending addresses from 1024 on.
use Rattle.std.proofs.Common.{◌≡◌, ℕ, zero, suc, ◌+◌, ◌-◌, ◌<◌, ◌≤◌, ◌≢◌, Bool, true, false, not, eqb, List, length, get_or, find, All, HoldsAt, Option, Some, None, is_some, unwrap_or, refl, ap, sym, ◌∙◌, subst, inl, inr, add-zero, arith, slice_get}
use Rattle.std.specs.List.{range_with_len}
use Rattle.std.proofs.lemmas.Bool.{ne_eqb, cases_lt}
use Rattle.std.proofs.lemmas.Option.{slice_get-get_or}
use Rattle.std.proofs.lemmas.List.Folds.{find_at}
use Rattle.std.proofs.lemmas.List.FromFn.{get_or-range_with_len, length-range_with_len}
use Rattle.std.proofs.lemmas.List.Sums.{position_or_len_is}
use Rattle.rp_base.specs.declared.kinds.BoundEndpoint.{BoundEndpoint}
use Rattle.endpoint_map.specs.Bindings.{Bindings, is_at, bound_at, is_bound, least_free, first_dynamic, IsAscending, IsDynamicPlace, IsLeastFree}
use Rattle.endpoint_map.proofs.Places.{at_address, ascending_le, found_at, find_none}

-- n places on, an address is higher by at least n
ascending_gap : (bound : List BoundEndpoint) → IsAscending bound → (i n : ℕ) (d : BoundEndpoint) → i + n < length bound → (get_or bound i d).endpoint.address + n ≤ (get_or bound (i + n) d).endpoint.address
ascending_gap bound up i zero d lt = let e : (get_or bound (i + 0) d).endpoint.address ≡ (get_or bound i d).endpoint.address = ap (λ k. (get_or bound k d).endpoint.address) (add-zero i) in omega arith
ascending_gap bound up i (suc n) d lt =
    let before = ascending_gap bound up i n d (omega arith) in
    let next : (get_or bound (i + n) d).endpoint.address < (get_or bound (i + suc n) d).endpoint.address = up (i + n) (i + suc n) d (omega arith) lt in
    omega arith

-- the address at a dynamic place is at least as far from 1024
far : (bound : List BoundEndpoint) (first n : ℕ) (d : BoundEndpoint) → IsAscending bound → IsDynamicPlace bound first → first + n < length bound → first_dynamic + n ≤ (get_or bound (first + n) d).endpoint.address
far bound first n d up place lt =
    let least : first_dynamic ≤ (get_or bound first d).endpoint.address = place.dynamic first d (omega arith) (omega arith) in
    omega (arith, ascending_gap bound up first n d lt)

-- the addresses 1024, 1025 and so on stand at the n places from the first dynamic one
abbrev pub AreFilled : List BoundEndpoint → ℕ → ℕ → Type 0
AreFilled bound first n = (k : ℕ) (d : BoundEndpoint) → k < n → (get_or bound (first + k) d).endpoint.address ≡ first_dynamic + k

-- where one of them stands, all before it do
pub filled : (bound : List BoundEndpoint) (first middle : ℕ) → IsAscending bound → IsDynamicPlace bound first → first + middle < length bound
    → HoldsAt (λ b. b.endpoint.address ≡ first_dynamic + middle) bound (first + middle) → AreFilled bound first (middle + 1)
filled bound first middle up place lt here k d less =
    let rest = middle - k in
    let at : first + k + rest ≡ first + middle = omega arith in
    let gap = ascending_gap bound up (first + k) rest d (omega arith) in
    let last : (get_or bound (first + k + rest) d).endpoint.address ≡ first_dynamic + middle = ap (λ p. (get_or bound p d).endpoint.address) at ∙ here d in
    omega (arith, gap, far bound first k d up place (omega arith))

-- the first number of a range that passes a test
find_in_range : (test : ℕ → Bool) (a n count : ℕ) → ((k : ℕ) → k < n → test (a + k) ≡ false) → test (a + n) ≡ true → n < count → find test (range_with_len a count) ≡ Some (a + n)
find_in_range test a n count fails passes lt =
    let numbers = range_with_len a count in
    let fits : n < length numbers = omega (arith, length-range_with_len a count) in
    let at : (k : ℕ) → k < count → get_or numbers k 0 ≡ a + k = λ k less. get_or-range_with_len a count k 0 less in
    find_at test numbers
    ∙ ap (slice_get numbers) (position_or_len_is test numbers n 0 (omega arith) (λ k less. ap test (at k (omega arith)) ∙ fails k less) (λ _. ap test (at n lt) ∙ passes))
    ∙ slice_get-get_or numbers n 0 fits
    ∙ ap Some (at n lt)

-- no endpoint is at the first gap
gap_is_free : (bindings : Bindings) (first n : ℕ) → IsAscending bindings.bound → IsDynamicPlace bindings.bound first
    → AreFilled bindings.bound first n → (first + n < length bindings.bound → HoldsAt (λ b. b.endpoint.address ≢ first_dynamic + n) bindings.bound (first + n))
    → All (λ b. is_at (first_dynamic + n) b ≡ false) bindings.bound
gap_is_free bindings first n up place full stops k d lt =
    let bound = bindings.bound in
    let address = (get_or bound k d).endpoint.address in
    elim (cases_lt k first) [
      | inl less ↦ ne_eqb _ _ (let h : address < first_dynamic = place.lower k d (omega arith) less in omega arith)
      | inr le ↦ elim (cases_lt k (first + n)) [
        | inl less ↦
            let at : first + (k - first) ≡ k = omega arith in
            let e : address ≡ first_dynamic + (k - first) = ap (λ p. (get_or bound p d).endpoint.address) (sym at) ∙ full (k - first) d (omega arith) in
            ne_eqb _ _ (omega arith)
        | inr above ↦
            let least = far bound first n d up place (omega arith) in
            let apart : (get_or bound (first + n) d).endpoint.address ≢ first_dynamic + n = stops (omega arith) d in
            let h = ascending_le bound up (first + n) k d above lt in
            ne_eqb _ _ (omega arith)
      ]
    ]

-- an address before the first gap is bound
filled_is_bound : (bindings : Bindings) (first n : ℕ) → IsAscending bindings.bound → first + n ≤ length bindings.bound → AreFilled bindings.bound first n
    → (k : ℕ) → k < n → is_bound bindings (first_dynamic + k) ≡ true
filled_is_bound bindings first n up within full k less =
    ap is_some (found_at bindings (first_dynamic + k) (first + k) (at_address 0) up (omega arith) (λ d. full k d less))

gap_is_unbound : (bindings : Bindings) (first n : ℕ) → IsAscending bindings.bound → IsDynamicPlace bindings.bound first
    → AreFilled bindings.bound first n → (first + n < length bindings.bound → HoldsAt (λ b. b.endpoint.address ≢ first_dynamic + n) bindings.bound (first + n))
    → is_bound bindings (first_dynamic + n) ≡ false
gap_is_unbound bindings first n up place full stops =
    ap is_some (find_none (is_at (first_dynamic + n)) bindings.bound (gap_is_free bindings first n up place full stops))

-- the first gap is the least free address
pub least_free_is : (bindings : Bindings) (first n : ℕ) → IsAscending bindings.bound → IsDynamicPlace bindings.bound first → first + n ≤ length bindings.bound
    → AreFilled bindings.bound first n → (first + n < length bindings.bound → HoldsAt (λ b. b.endpoint.address ≢ first_dynamic + n) bindings.bound (first + n))
    → first_dynamic + n ≡ least_free bindings
least_free_is bindings first n up place within full stops =
    let is_taken : (k : ℕ) → k < n → not (is_bound bindings (first_dynamic + k)) ≡ false =
    λ k less. ap not (filled_is_bound bindings first n up within full k less) in
    let is_free = ap not (gap_is_unbound bindings first n up place full stops) in
    sym (ap (λ o. unwrap_or o first_dynamic) (find_in_range (λ address. not (is_bound bindings address)) first_dynamic n (length bindings.bound + 1) is_taken is_free (omega arith)))

pub gap_is_least : (bindings : Bindings) (first n : ℕ) → IsAscending bindings.bound → IsDynamicPlace bindings.bound first → first + n ≤ length bindings.bound
    → AreFilled bindings.bound first n → (first + n < length bindings.bound → HoldsAt (λ b. b.endpoint.address ≢ first_dynamic + n) bindings.bound (first + n))
    → IsLeastFree bindings (first_dynamic + n)
gap_is_least bindings first n up place within full stops = record {
  dynamic = omega arith;
  free = gap_is_unbound bindings first n up place full stops;
  least = λ lower le less.
      let at : first_dynamic + (lower - first_dynamic) ≡ lower = omega arith in
      ap (is_bound bindings) (sym at) ∙ filled_is_bound bindings first n up within full (lower - first_dynamic) (omega arith);
}
