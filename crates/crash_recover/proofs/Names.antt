-- A text that is its own part before a zero has no zero.
use Rattle.std.proofs.Common.{◌≡◌, ℕ, false, List, subst, eqb}
use Rattle.std.specs.Prelude.{Contains}
use Rattle.std.specs.List.{list_any}
use Rattle.std.proofs.lemmas.Bool.{both_ways, eq-eqb}
use Rattle.std.proofs.lemmas.List.Folds.{list_any_at}
use Rattle.rp_base.specs.Texts.{text_before_zero}
use Rattle.rp_base.proofs.Zeros.{text_before_zero-is_clear}

pub no_zero : (text : List ℕ) → text_before_zero text ≡ text → Contains text 0 → ⊥
no_zero text same found =
    let clear : list_any (λ byte. eqb byte 0) text ≡ false = subst (λ bytes. list_any (λ byte. eqb byte 0) bytes ≡ false) same (text_before_zero-is_clear text) in
    both_ways (list_any (λ byte. eqb byte 0) text) clear (list_any_at (λ byte. eqb byte 0) text found.0 0 found.1 (eq-eqb _ 0 found.2))
