-- The entries of a book, one by one.
use Rattle.std.proofs.Common.{◌≡◌, ◌+◌, ◌<◌, ◌∙◌, ℕ, zero, suc, List, [], ◌∷◌, length, get_or, set, sym, ap, take, eqb, eq-eqb, ne_eqb, ⊎_elim, arith, Some, None}
use Rattle.std.proofs.lemmas.Bool.{cases_eq}
use Rattle.std.proofs.lemmas.List.{get_or-set_same, get_or-set_other}
use Rattle.std.proofs.lemmas.List.Sums.{count_by_more_yes, count_by_more_no}
use Rattle.std.specs.Prelude.{slice_get}
use Rattle.std.specs.Option.{option_map}
use Rattle.lane_model.specs.declared.states.BookEntry.{BookEntry}
use Rattle.rp_base.specs.declared.limits.TheConstants.{CALLERS_MOST}
use Rattle.storm_run.specs.Counts.{entry_count}

-- the caller of the entry of a number
abbrev pub IsCallerAt : List BookEntry → ℕ → ℕ → Type 0
IsCallerAt entries number caller = option_map (λ (entry : BookEntry). entry.caller) (slice_get entries number) ≡ Some caller

some_is : (a b : ℕ) → Some a ≡ Some b → a ≡ b
some_is a b same = grind arith

-- the entry of a number has its caller
pub record HasEntry (entries : List BookEntry) (number caller : ℕ) : Type 0 where
  pub within : number < length entries
  pub is : (d : BookEntry) → (get_or entries number d).caller ≡ caller

pub entry_at : (entries : List BookEntry) (number caller : ℕ) → IsCallerAt entries number caller → HasEntry entries number caller
entry_at [] number caller is = grind arith
entry_at (x ∷ xs) zero caller is = record { within = omega arith; is = λ d. some_is x.caller caller is }
entry_at (x ∷ xs) (suc number) caller is = let rest = entry_at xs number caller is in record { within = (let below = rest.within in omega arith); is = rest.is }

-- it is counted for its caller, and for no other
pub counted_next : (counts : List ℕ) (entries : List BookEntry) (number caller n : ℕ) (d : BookEntry) → length counts ≡ CALLERS_MOST → caller < CALLERS_MOST → n < CALLERS_MOST → HasEntry entries number caller
    → ((k : ℕ) → k < CALLERS_MOST → get_or counts k 0 ≡ entry_count k (take number entries))
    → get_or (set counts caller (get_or counts caller 0 + 1)) n 0 ≡ entry_count n (take (number + 1) entries)
counted_next counts entries number caller n d many low below entry counted =
    ⊎_elim
    (λ (same : n ≡ caller).
    (λ i. get_or (set counts caller (get_or counts caller 0 + 1)) (same i) 0)
    ∙ (get_or-set_same counts caller (get_or counts caller 0 + 1) 0 (omega (arith, many, low))
    ∙ (ap (λ (k : ℕ). k + 1) (counted caller low)
    ∙ (sym (count_by_more_yes (λ (e : BookEntry). eqb e.caller caller) entries number d entry.within (eq-eqb (get_or entries number d).caller caller (entry.is d)))
    ∙ ap (λ (k : ℕ). entry_count k (take (number + 1) entries)) (sym same)))))
    (λ (other : n ≡ caller → ⊥).
    get_or-set_other counts caller n (get_or counts caller 0 + 1) 0 other
    ∙ (counted n below ∙ sym (count_by_more_no (λ (e : BookEntry). eqb e.caller n) entries number d entry.within (ne_eqb (get_or entries number d).caller n (λ same. other (sym same ∙ entry.is d))))))
    (cases_eq n caller)

-- a number that the book has has an entry
pub none_at : (entries : List BookEntry) (number : ℕ) → number < length entries → option_map (λ (entry : BookEntry). entry.caller) (slice_get entries number) ≡ None → ⊥
none_at [] number below is = grind arith
none_at (x ∷ xs) zero below is = grind arith
none_at (x ∷ xs) (suc number) below is = none_at xs number (omega arith) is
