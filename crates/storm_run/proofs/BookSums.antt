-- How many entries a book has, by how many each caller has.
use Rattle.std.proofs.Common.{◌≡◌, ◌⊎◌, ◌+◌, ◌*◌, ◌≤◌, ◌<◌, ◌∙◌, ℕ, zero, suc, List, [], ◌∷◌, Bool, true, false, cond, ltb, eqb, eq-eqb, ne_eqb, length, get_or, refl, sym, ap, subst, ⊎_elim, arith}
use Rattle.std.proofs.lemmas.Bool.{cases_lt, cases_order, cond-true, cond-false, lt-ltb, le-ltb}
use Rattle.std.proofs.lemmas.List.Recursion.{is_count_by}
use Rattle.lane_model.specs.declared.states.BookEntry.{BookEntry}
use Rattle.link_words.specs.Histories.{entries_by}
use Rattle.storm_run.specs.Counts.{entry_count}

-- how many entries are of this caller, and of callers below this number
abbrev pub many_of : ℕ → List BookEntry → ℕ
many_of caller [] = 0
many_of caller (b ∷ bs) = cond (eqb b.caller caller) (1 + many_of caller bs) (many_of caller bs)

abbrev below : ℕ → List BookEntry → ℕ
below caller [] = 0
below caller (b ∷ bs) = cond (ltb b.caller caller) (1 + below caller bs) (below caller bs)

pub many_is : (caller : ℕ) (entries : List BookEntry) → many_of caller entries ≡ entry_count caller entries
many_is caller entries = is_count_by (many_of caller) (λ (b : BookEntry). eqb b.caller caller) refl (λ x xs. refl) entries

length_either : (b : Bool) (s : ℕ × List ℕ) (rest : List (ℕ × List ℕ)) (n : ℕ) → length rest ≡ n → length (cond b (s ∷ rest) rest) ≡ cond b (1 + n) n
length_either true s rest n is = let same : length rest ≡ n = is in omega (arith, same)
length_either false s rest n is = is

pub entries_many : (caller number : ℕ) (entries : List BookEntry) → length (entries_by caller number entries) ≡ many_of caller entries
entries_many caller number [] = refl
entries_many caller number (b ∷ bs) = length_either (eqb b.caller caller) (number, b.message) (entries_by caller (suc number) bs) (many_of caller bs) (entries_many caller (suc number) bs)

some_either : (x : Bool) (n : ℕ) → 1 ≤ n → 1 ≤ cond x (1 + n) n
some_either true n more = omega arith
some_either false n more = more

-- each entry is of its caller
pub some_of : (entries : List BookEntry) (k : ℕ) (d : BookEntry) → k < length entries → 1 ≤ many_of (get_or entries k d).caller entries
some_of [] k d within = absurd (omega (arith, within))
some_of (b ∷ bs) zero d within = subst (λ (x : Bool). 1 ≤ cond x (1 + many_of b.caller bs) (many_of b.caller bs)) (sym (eq-eqb b.caller b.caller refl)) (omega arith)
some_of (b ∷ bs) (suc k) d within =
    let c = (get_or bs k d).caller in let more : 1 ≤ many_of c bs = some_of bs k d (omega (arith, within)) in some_either (eqb b.caller c) (many_of c bs) more

-- one caller more
adds : (c n s b m : ℕ) → s ≡ b + m → cond (ltb c (suc n)) (1 + s) s ≡ cond (ltb c n) (1 + b) b + cond (eqb c n) (1 + m) m
adds c n s b m is = ⊎_elim
    (λ (same : c ≡ n).
    cond-true (ltb c (suc n)) (1 + s) s (lt-ltb c (suc n) (omega (arith, same)))
    ∙ (let sums : 1 + s ≡ b + (1 + m) = omega (arith, is) in sums ∙ sym (λ i. cond-false (ltb c n) (1 + b) b (le-ltb c n (omega (arith, same))) i + cond-true (eqb c n) (1 + m) m (eq-eqb c n same) i)))
    (λ (other : (c < n) ⊎ (n < c)). ⊎_elim
    (λ (less : c < n).
    cond-true (ltb c (suc n)) (1 + s) s (lt-ltb c (suc n) (omega (arith, less)))
    ∙ (let sums : 1 + s ≡ (1 + b) + m = omega (arith, is) in sums ∙ sym (λ i. cond-true (ltb c n) (1 + b) b (lt-ltb c n less) i + cond-false (eqb c n) (1 + m) m (ne_eqb c n (λ e. omega (arith, less, e))) i)))
    (λ (more : n < c).
    cond-false (ltb c (suc n)) (1 + s) s (le-ltb c (suc n) (omega (arith, more)))
    ∙ (is ∙ sym (λ i. cond-false (ltb c n) (1 + b) b (le-ltb c n (omega (arith, more))) i + cond-false (eqb c n) (1 + m) m (ne_eqb c n (λ e. omega (arith, more, e))) i)))
    other)
    (cases_order c n)

below_more : (n : ℕ) (entries : List BookEntry) → below (suc n) entries ≡ below n entries + many_of n entries
below_more n [] = refl
below_more n (b ∷ bs) = adds b.caller n (below (suc n) bs) (below n bs) (many_of n bs) (below_more n bs)

below_none : (entries : List BookEntry) → below 0 entries ≡ 0
below_none [] = refl
below_none (b ∷ bs) = cond-false (ltb b.caller 0) (1 + below 0 bs) (below 0 bs) (le-ltb b.caller 0 (omega arith)) ∙ below_none bs

-- all are below a number
below_all : (n : ℕ) (entries : List BookEntry) → ((k : ℕ) (d : BookEntry) → k < length entries → (get_or entries k d).caller < n) → below n entries ≡ length entries
below_all n [] all = refl
below_all n (b ∷ bs) all =
    cond-true (ltb b.caller n) (1 + below n bs) (below n bs) (lt-ltb b.caller n (all 0 b (omega arith)))
    ∙ (let more : below n bs ≡ length bs = below_all n bs (λ k d within. all (suc k) d (omega (arith, within))) in omega (arith, more))

-- so many callers from this number on have as many entries each, and others have none
pub record AreEven (first callers count : ℕ) (entries : List BookEntry) : Type 0 where
  pub inside : (caller : ℕ) → first ≤ caller → caller < first + callers → many_of caller entries ≡ count
  pub before : (caller : ℕ) → caller < first → many_of caller entries ≡ 0
  pub behind : (caller : ℕ) → first + callers ≤ caller → many_of caller entries ≡ 0

module _ (first callers count : ℕ) (entries : List BookEntry) (even : AreEven first callers count entries) where
  none_before : (n : ℕ) → n ≤ first → below n entries ≡ 0
  none_before zero few = below_none entries
  none_before (suc n) few =
      let less : below n entries ≡ 0 = none_before n (omega (arith, few)) in let none : many_of n entries ≡ 0 = even.before n (omega (arith, few)) in
      below_more n entries ∙ omega (arith, less, none)

  sums : (n : ℕ) → n ≤ callers → below (first + n) entries ≡ n * count
  sums zero few = ap (λ (n : ℕ). below n entries) (let same : first + 0 ≡ first = omega arith in same) ∙ (none_before first (omega arith) ∙ (let zeros : 0 ≡ 0 * count = omega arith in zeros))
  sums (suc n) few =
      let less : below (first + n) entries ≡ n * count = sums n (omega (arith, few)) in
      let here : many_of (first + n) entries ≡ count = even.inside (first + n) (omega arith) (omega (arith, few)) in
      ap (λ (m : ℕ). below m entries) (let next : first + suc n ≡ suc (first + n) = omega arith in next)
      ∙ (below_more (first + n) entries ∙ ((λ i. less i + here i) ∙ (let product : n * count + count ≡ suc n * count = omega arith in product)))

  -- each entry is of one of them
  pub low : (k : ℕ) (d : BookEntry) → k < length entries → (get_or entries k d).caller < first + callers
  low k d within =
      let c = (get_or entries k d).caller in let some : 1 ≤ many_of c entries = some_of entries k d within in
      ⊎_elim (λ (less : c < first + callers). less) (λ (more : first + callers ≤ c). let none : many_of c entries ≡ 0 = even.behind c more in absurd (omega (arith, some, none))) (cases_lt c (first + callers))

  -- so there are so many
  pub total : length entries ≡ callers * count
  total = sym (below_all (first + callers) entries low) ∙ sums callers (omega arith)
