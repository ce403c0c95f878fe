-- Which numbers of callers are in use, as callers are made and end.
use Rattle.std.proofs.Common.{◌≡◌, ◌<◌, ◌∙◌, ℕ, List, Bool, not, length, get_or, sym, ap, arith, Some, None}
use Rattle.std.specs.Prelude.{Option}
use Rattle.std.specs.List.{prefix_len}
use Rattle.std.specs.Option.{option_and_then, is_none}
use Rattle.std.proofs.lemmas.Bool.{cond-true, lt-ltb}
use Rattle.std.proofs.lemmas.List.Sums.{prefix_len_is}
use Rattle.std.proofs.lemmas.Option.{slice_get-get_or}
use Rattle.rp_base.specs.declared.kinds.End.{End}
use Rattle.lane_model.specs.Links.{end_of, free_number}

end_at_place : (users : List (Option End)) (k : ℕ) (d : Option End) → k < length users → end_of users k ≡ get_or users k d
end_at_place users k d within = ap (option_and_then (λ (found : Option End). found)) (slice_get-get_or users k d within)

-- the least free number is the first that is not in use
pub free_first : (users : List (Option End)) (made : ℕ) (end : ℕ → End) → made < length users → ((k : ℕ) → k < made → end_of users k ≡ Some (end k)) → end_of users made ≡ None → free_number users ≡ Some made
free_first users made end within used free =
    let p : Option End → Bool = λ f. not (is_none f) in
    let first : prefix_len p users ≡ made =
    prefix_len_is p users made None (omega (arith, within))
    (λ k below. ap p (sym (end_at_place users k None (omega (arith, below, within))) ∙ used k below))
    (λ there. ap p (sym (end_at_place users made None within) ∙ free)) in
    cond-true _ (Some (prefix_len p users)) None (lt-ltb (prefix_len p users) (length users) (omega (arith, first, within))) ∙ ap (λ (n : ℕ). Some n) first
