-- Where an address is among ascending ones, and what a binary search finds.
use Rattle.std.proofs.Common.{◌≡◌, ℕ, zero, suc, ◌+◌, ◌<◌, ◌≤◌, ◌≢◌, Bool, true, false, cond, not, eqb, ltb, List, [], ◌∷◌, ◌++◌, length, get_or, take, drop, filter, find, insert, remove, All, AllPairs, HoldsAt, Option, Some, None, Result, Ok, Err, IfOk, IfErr, refl, ap, sym, ◌∙◌, subst, inl, inr, arith, rules, slice_get}
use Rattle.std.specs.List.{AllWithin, position_or_len, prefix_len}
use Rattle.std.specs.List.Sorted.{IsBinarySearchResult, IsSearchInRange}
use Rattle.std.specs.Ordering.{nat_cmp, ordering_index, MatchOrdering}
use Rattle.std.specs.declared.cmp.Ordering.{Ordering}
use Rattle.std.specs.declared.cmp.Ordering.TheVariants.{Less, Equal, Greater}
use Rattle.std.specs.Cmp.{ranks}
use Rattle.std.proofs.lemmas.Bool.{eq-eqb, ne_eqb, lt-ltb, le-ltb, cases_order}
use Rattle.std.proofs.lemmas.Bool.Decides.{nat_tests}
use Rattle.std.proofs.lemmas.Option.{slice_get-get_or}
use Rattle.std.proofs.lemmas.List.{get_or_past}
use Rattle.std.proofs.lemmas.List.Folds.{find_at}
use Rattle.std.proofs.lemmas.List.Sums.{position_or_len_is, prefix_len_is}
use Rattle.std.proofs.lemmas.List.Elements.{All-cons}
use Rattle.std.proofs.lemmas.List.Kept.{AllPairs-cons}
use Rattle.std.proofs.lemmas.List.Sorted.{All-permutation, IsPermutation-insert}
use Rattle.rp_base.specs.declared.kinds.BoundEndpoint.{BoundEndpoint}
use Rattle.endpoint_map.specs.Bindings.{Bindings, is_at, bound_at, is_bound, place_of, first_dynamic, IsAscending, IsPlace, IsDynamicPlace}

-- the order of an answer rises with the address
higher : (a b x : ℕ) → a ≤ b → ordering_index (nat_cmp a x) ≤ ordering_index (nat_cmp b x)
higher a b x le = grind (arith, nat_tests)

-- some endpoint, to read past the end of a list
abbrev pub at_address : ℕ → BoundEndpoint
at_address address = record { endpoint = record { address = address; generation = 0 }; since = 0 }

-- ascending addresses are not lower at a later place
pub ascending_le : (bound : List BoundEndpoint) → IsAscending bound → (i j : ℕ) (d : BoundEndpoint) → i ≤ j → j < length bound → (get_or bound i d).endpoint.address ≤ (get_or bound j d).endpoint.address
ascending_le bound up i j d le lt =
    elim (cases_order i j) [
      | inl same ↦ let e : (get_or bound i d).endpoint.address ≡ (get_or bound j d).endpoint.address = ap (λ k. (get_or bound k d).endpoint.address) same in omega arith
      | inr (inl less) ↦ let h : (get_or bound i d).endpoint.address < (get_or bound j d).endpoint.address = up i j d less lt in omega arith
      | inr (inr more) ↦ absurd (omega arith)
    ]

-- two numbers by the answer of their comparison
compared : (x y : ℕ) (answer : Ordering) → nat_cmp x y ≡ answer → MatchOrdering answer (x < y) (x ≡ y) (y < x)
compared x y answer e = subst (λ o. MatchOrdering o (x < y) (x ≡ y) (y < x)) e (ranks x y)

-- what a binary search by addresses answers
pub search_found : (address : ℕ) (items bound : List BoundEndpoint) (answer : Result ℕ ℕ) → items ≡ bound → IsSearchInRange answer (length items)
    → IsBinarySearchResult (λ b. nat_cmp b.endpoint.address address) items answer
    → IfOk answer (λ place. (place < length bound) × HoldsAt (λ b. b.endpoint.address ≡ address) bound place)
search_found address items bound (Ok place) same inside at =
    subst (λ xs. (place < length xs) × HoldsAt (λ b. b.endpoint.address ≡ address) xs place) same (inside, λ d. compared _ _ Equal (at d))
search_found address items bound (Err place) same inside at = tt

pub search_absent : (address : ℕ) (items bound : List BoundEndpoint) (answer : Result ℕ ℕ) → items ≡ bound → IsAscending bound → IsSearchInRange answer (length items)
    → IsBinarySearchResult (λ b. nat_cmp b.endpoint.address address) items answer → IfErr answer (IsPlace address bound)
search_absent address items bound (Ok place) same up inside at = tt
search_absent address items bound (Err place) same up inside at =
    let rising : IsAscending items = subst IsAscending (sym same) up in
    let parted = at (λ i j d le lt. higher _ _ address (ascending_le items rising i j d le lt)) in
    subst (λ xs. IsPlace address xs place) same record {
      within = inside;
      lower = λ k d low high. compared _ _ Less (parted.0 k d low high);
      higher = λ k d low high. compared _ _ Greater (parted.1 k d low high);
    }

-- what is found at a place of the address
pub found_at : (bindings : Bindings) (address place : ℕ) (d : BoundEndpoint) → IsAscending bindings.bound → place < length bindings.bound
    → HoldsAt (λ b. b.endpoint.address ≡ address) bindings.bound place → bound_at bindings address ≡ Some (get_or bindings.bound place d)
found_at bindings address place d up lt at =
    let bound = bindings.bound in
    let before : (k : ℕ) → k < place → is_at address (get_or bound k d) ≡ false =
    λ k less. ne_eqb _ _ (let h : (get_or bound k d).endpoint.address < (get_or bound place d).endpoint.address = up k place d less lt in let e = at d in omega arith) in
    find_at (is_at address) bound
    ∙ ap (slice_get bound) (position_or_len_is (is_at address) bound place d (omega arith) before (λ _. eq-eqb _ _ (at d)))
    ∙ slice_get-get_or bound place d lt

-- nothing passes a test that each element fails
pub find_none : {X : Type 0} (test : X → Bool) (xs : List X) → All (λ x. test x ≡ false) xs → find test xs ≡ None
find_none test [] fails = refl
find_none test (x ∷ xs) fails =
    ap (λ b. cond b (Some x) (find test xs)) (fails 0 x (omega arith))
    ∙ find_none test xs (λ k d lt. fails (suc k) d (omega arith))

-- where an address has a place, no endpoint is at it
elsewhere : (address : ℕ) (bound : List BoundEndpoint) (place : ℕ) → IsPlace address bound place → All (λ b. is_at address b ≡ false) bound
elsewhere address bound place p k d lt =
    elim (cases_order k place) [
      | inl same ↦ let h : address < (get_or bound k d).endpoint.address = p.higher k d (omega arith) lt in ne_eqb _ _ (omega arith)
      | inr (inl less) ↦ let h : (get_or bound k d).endpoint.address < address = p.lower k d (omega arith) less in ne_eqb _ _ (omega arith)
      | inr (inr more) ↦ let h : address < (get_or bound k d).endpoint.address = p.higher k d (omega arith) lt in ne_eqb _ _ (omega arith)
    ]

pub found_nowhere : (bindings : Bindings) (address place : ℕ) → IsPlace address bindings.bound place → bound_at bindings address ≡ None
found_nowhere bindings address place p = find_none (is_at address) bindings.bound (elsewhere address bindings.bound place p)

pub place_is : (address : ℕ) (bound : List BoundEndpoint) (place : ℕ) → IsPlace address bound place → place_of address bound ≡ place
place_is address bound place p =
    prefix_len_is (λ b. ltb b.endpoint.address address) bound place (at_address 0) p.within
    (λ k less. lt-ltb _ _ (p.lower k (at_address 0) (omega arith) less))
    (λ less. le-ltb _ _ (let h : address < (get_or bound place (at_address 0)).endpoint.address = p.higher place (at_address 0) (omega arith) less in omega arith))

tail : (x : BoundEndpoint) (xs : List BoundEndpoint) → IsAscending (x ∷ xs) → IsAscending xs
tail x xs up i j d lt within = up (suc i) (suc j) d (omega arith) (omega arith)

-- one endpoint more keeps the addresses ascending
pub ascending-insert : (one : BoundEndpoint) (bound : List BoundEndpoint) (place : ℕ) → IsAscending bound → IsPlace one.endpoint.address bound place → IsAscending (insert bound place one)
ascending-insert one [] zero up p = λ i j d lt within. absurd (omega arith)
ascending-insert one [] (suc place) up p = absurd (let h = p.within in omega arith)
ascending-insert one (x ∷ xs) zero up p =
    AllPairs-cons (λ b c. b.endpoint.address < c.endpoint.address) one (x ∷ xs) (λ k d lt. p.higher k d (omega arith) lt) up
ascending-insert one (x ∷ xs) (suc place) up p =
    let is_after : BoundEndpoint → Type 0 = λ b. x.endpoint.address < b.endpoint.address in
    let place_in_rest : IsPlace one.endpoint.address xs place = record {
      within = let h = p.within in omega arith;
      lower = λ k d low high. p.lower (suc k) d (omega arith) (omega arith);
      higher = λ k d low high. p.higher (suc k) d (omega arith) (omega arith);
    } in
    let later : All is_after (one ∷ xs) = All-cons is_after one xs (p.lower 0 x (omega arith) (omega arith)) (λ k d lt. up 0 (suc k) d (omega arith) (omega arith)) in
    AllPairs-cons (λ b c. b.endpoint.address < c.endpoint.address) x (insert xs place one)
    (All-permutation is_after (one ∷ xs) (insert xs place one) (IsPermutation-insert xs place one) later)
    (ascending-insert one xs place (tail x xs up) place_in_rest)

-- an address goes from no endpoint that is elsewhere
without_kept : (address : ℕ) (bound : List BoundEndpoint) → All (λ b. is_at address b ≡ false) bound → filter (λ b. not (is_at address b)) bound ≡ bound
without_kept address [] fails = refl
without_kept address (x ∷ xs) fails =
    ap (λ b. cond (not b) (x ∷ filter (λ y. not (is_at address y)) xs) (filter (λ y. not (is_at address y)) xs)) (fails 0 x (omega arith))
    ∙ ap (λ ys. x ∷ ys) (without_kept address xs (λ k d lt. fails (suc k) d (omega arith)))

-- the endpoint at a place is the one that goes when its address is unbound
pub without_is : (address : ℕ) (bound : List BoundEndpoint) (place : ℕ) → IsAscending bound → place < length bound
    → HoldsAt (λ b. b.endpoint.address ≡ address) bound place → filter (λ b. not (is_at address b)) bound ≡ remove bound place
without_is address [] place up lt at = absurd (omega arith)
without_is address (x ∷ xs) zero up lt at =
    let kept : Bool → List BoundEndpoint = λ b. cond (not b) (x ∷ filter (λ y. not (is_at address y)) xs) (filter (λ y. not (is_at address y)) xs) in
    let others : All (λ b. is_at address b ≡ false) xs =
    λ k d within. ne_eqb _ _ (let h : x.endpoint.address < (get_or xs k d).endpoint.address = up 0 (suc k) d (omega arith) (omega arith) in let e : x.endpoint.address ≡ address = at x in omega arith) in
    ap kept (eq-eqb x.endpoint.address address (at x)) ∙ without_kept address xs others
without_is address (x ∷ xs) (suc place) up lt at =
    let kept : Bool → List BoundEndpoint = λ b. cond (not b) (x ∷ filter (λ y. not (is_at address y)) xs) (filter (λ y. not (is_at address y)) xs) in
    let before : x.endpoint.address < (get_or xs place x).endpoint.address = up 0 (suc place) x (omega arith) lt in
    let e : (get_or xs place x).endpoint.address ≡ address = at x in
    ap kept (ne_eqb x.endpoint.address address (omega arith))
    ∙ ap (λ ys. x ∷ ys) (without_is address xs place (tail x xs up) (omega arith) (λ d. at d))

-- and none where an address has no endpoint
pub without_none : (address : ℕ) (bound : List BoundEndpoint) (place : ℕ) → IsPlace address bound place → filter (λ b. not (is_at address b)) bound ≡ bound
without_none address bound place p = without_kept address bound (elsewhere address bound place p)

-- the endpoint at 1024 has the first dynamic place
pub dynamic_from_found : (bound : List BoundEndpoint) (place : ℕ) → IsAscending bound → place < length bound
    → HoldsAt (λ b. b.endpoint.address ≡ first_dynamic) bound place → IsDynamicPlace bound place
dynamic_from_found bound place up lt at = record {
  within = omega arith;
  lower = λ k d low less. let h : (get_or bound k d).endpoint.address < (get_or bound place d).endpoint.address = up k place d less lt in let e = at d in omega arith;
  dynamic = λ k d le within. let h = ascending_le bound up place k d le within in let e = at d in omega arith;
}

pub dynamic_from_absent : (bound : List BoundEndpoint) (place : ℕ) → IsPlace first_dynamic bound place → IsDynamicPlace bound place
dynamic_from_absent bound place p = record {
  within = p.within;
  lower = p.lower;
  dynamic = λ k d le within. let h : first_dynamic < (get_or bound k d).endpoint.address = p.higher k d le within in omega arith;
}
