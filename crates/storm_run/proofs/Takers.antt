-- Nothing was handed over that wasn't accepted.
use Rattle.std.proofs.Common.{◌≡◌, ◌⊎◌, ◌+◌, ◌≤◌, ◌<◌, ◌++◌, ◌&&◌, ℕ, zero, suc, List, [], ◌∷◌, Bool, true, false, cond, eqb, eq-eqb, length, get_or, refl, sym, ap, subst, ⊎_elim, inl, inr, arith}
use Rattle.std.proofs.lemmas.Bool.{and_parts, cases_lt, eqb-true, false≢true}
use mathlib.Core.Option.{Option, none, some}
use Rattle.rp_base.specs.declared.kinds.End.{End}
use Rattle.lane_model.specs.declared.states.BookEntry.{BookEntry}
use Rattle.link_words.specs.declared.rule.Event.{Event}
use Rattle.link_words.specs.declared.rule.Event.TheVariants.{Count, Publish, Step, Take}
use Rattle.link_words.specs.Histories.{ReadsIn, same_end, takes_by, takes_in}
use Rattle.link_words.specs.Passes.{HasNumber}

abbrev from_some : ℕ → Option ℕ → ℕ
from_some d none = d
from_some d (some x) = x

-- a number more
behind_one : (b : Bool) (x n : ℕ) (ns : List ℕ) → HasNumber ns n → HasNumber (cond b (x ∷ ns) ns) n
behind_one true x n ns (k, is) = (suc k, is)
behind_one false x n ns has = has

first_of : (b : Bool) (x : ℕ) (ns : List ℕ) → b ≡ true → HasNumber (cond b (x ∷ ns) ns) x
first_of true x ns is = (0, refl)
first_of false x ns is = absurd (false≢true is)

some_is : (a b : ℕ) → some a ≡ some b → a ≡ b
some_is a b same = ap (from_some a) same

as_number : (m n : ℕ) (ns : List ℕ) → m ≡ n → HasNumber ns m → HasNumber ns n
as_number m n ns is has = subst (λ (k : ℕ). HasNumber ns k) is has

-- each number that was handed over was handed to its taker
pub taken_at : (takers : List ℕ) (first k n : ℕ) → k < length takers → n ≡ first + k → HasNumber (takes_by (get_or takers k 0) first takers) n
taken_at [] first k n within is = absurd (omega (arith, within))
taken_at (c ∷ cs) first zero n within is = as_number first n (takes_by c first (c ∷ cs)) (omega (arith, is)) (first_of (eqb c c) first (takes_by c (suc first) cs) (eq-eqb c c refl))
taken_at (c ∷ cs) first (suc k) n within is =
    let taker = get_or cs k 0 in behind_one (eqb c taker) first n (takes_by taker (suc first) cs) (taken_at cs (suc first) k n (omega (arith, within)) (omega (arith, is)))

-- a number of a list with one more at its end
in_push : (ns : List ℕ) (x n : ℕ) → HasNumber (ns ++ x ∷ []) n → HasNumber ns n ⊎ (x ≡ n)
in_push [] x n (zero, is) = inr (some_is x n is)
in_push [] x n (suc k, is) = absurd (grind arith)
in_push (y ∷ ys) x n (zero, is) = inl (0, is)
in_push (y ∷ ys) x n (suc k, is) = ⊎_elim (λ (had : HasNumber ys n). inl (suc had.0, had.1)) (λ (same : x ≡ n). inr same) (in_push ys x n (k, is))

-- what a pass took in an incarnation is in the book of its lane
read_either : (e lane : End) (inc i n number : ℕ) (book : List BookEntry) (message : List ℕ) (es : List Event) (b : Bool) → b ≡ same_end lane e && eqb i inc
    → (HasNumber (takes_in e inc es) n → n < length book) → (same_end lane e ≡ true → i ≡ inc → number < length book)
    → HasNumber (cond b (takes_in e inc es ++ number ∷ []) (takes_in e inc es)) n → n < length book
read_either e lane inc i n number book message es true is before here has = ⊎_elim
    (λ (had : HasNumber (takes_in e inc es) n). before had)
    (λ (same : number ≡ n). let parts = and_parts (same_end lane e) (eqb i inc) (sym is) in subst (λ (k : ℕ). k < length book) same (here parts.0 (eqb-true i inc parts.1)))
    (in_push (takes_in e inc es) number n has)
read_either e lane inc i n number book message es false is before here has = before has

pub read_within : (e : End) (inc : ℕ) (book : List BookEntry) (own : List Event) (n : ℕ) → ReadsIn e inc book own → HasNumber (takes_in e inc own) n → n < length book
read_within e inc book [] n reads (k, is) = absurd (grind arith)
read_within e inc book (Step made ∷ es) n reads has = read_within e inc book es n reads has
read_within e inc book (Count lane i counts ∷ es) n reads has = read_within e inc book es n reads has
read_within e inc book (Publish lane i number message ∷ es) n reads has = read_within e inc book es n reads has
read_within e inc book (Take lane i number message ∷ es) n reads has =
    read_either e lane inc i n number book message es (same_end lane e && eqb i inc) refl (λ had. read_within e inc book es n reads.1 had) (λ same now. (reads.0 same now).0) has

-- where each number that a caller took is below the length of a book, there are no more takers
pub no_more : (takers : List ℕ) (most : ℕ) → ((caller n : ℕ) → HasNumber (takes_by caller 0 takers) n → n < most) → length takers ≤ most
no_more takers most below = ⊎_elim
    (λ (more : most < length takers). let at = taken_at takers 0 most most more (omega arith) in let less = below (get_or takers most 0) most at in absurd (omega (arith, less)))
    (λ (within : length takers ≤ most). within)
    (cases_lt most (length takers))
