-- The first row of each end of an arrow, with one row more before the others.
use Rattle.std.proofs.Common.{◌≡◌, ℕ, ◌+◌, cond, List, ◌∷◌, Option, Some, None, sym, ap, ◌∙◌}
use Rattle.std.specs.Option.{option_or}
use Rattle.journal_check.proofs.SideFacts.{one_more_told}
use Rattle.chart.specs.declared.keys.ArrowEnd.{ArrowEnd}
use Rattle.chart.specs.declared.joins.Arrow.{Arrow}
use Rattle.chart.specs.declared.joins.Told.{Told}
use Rattle.chart.specs.declared.rows.Row.{Row}
use Rattle.chart.specs.Keys.{is_same_arrow_end}
use Rattle.chart.specs.Charts.{arrow_in, first_of, told_by}

-- a row that is an end of an arrow
pub end_before : (end : ArrowEnd) (index before : ℕ) (row : Row) (left more : List Row) (arrow : Arrow) (new old : Option Told) → index ≡ before + 1 → left ≡ row ∷ more → arrow_in row.stand ≡ Some arrow
    → new ≡ cond (is_same_arrow_end arrow.end end) (Some (record { row = before; lifeline = arrow.lifeline })) old → old ≡ first_of end index more → new ≡ first_of end before left
end_before end index before row left more arrow new old next is here now so_far =
    one_more_told (is_same_arrow_end arrow.end end) (record { row = before; lifeline = arrow.lifeline }) new old (first_of end index more) now so_far
    ∙ ap (λ n. option_or (cond (is_same_arrow_end arrow.end end) (Some (record { row = before; lifeline = arrow.lifeline })) None) (first_of end n more)) next
    ∙ sym (ap (λ o. option_or (told_by end before o) (first_of end (before + 1) more)) here)
    ∙ sym (ap (first_of end before) is)

-- a row that is none
pub none_before : (end : ArrowEnd) (index before : ℕ) (row : Row) (left more : List Row) (kept : Option Told) → index ≡ before + 1 → left ≡ row ∷ more → arrow_in row.stand ≡ None
    → kept ≡ first_of end index more → kept ≡ first_of end before left
none_before end index before row left more kept next is here so_far =
    so_far ∙ ap (λ n. first_of end n more) next ∙ sym (ap (λ o. option_or (told_by end before o) (first_of end (before + 1) more)) here) ∙ sym (ap (first_of end before) is)
