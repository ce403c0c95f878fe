-- One row more.
use Rattle.std.proofs.Common.{◌≡◌, ℕ, suc, ◌+◌, ◌<◌, List, [], ◌∷◌, ◌++◌, length, drop, get_or, refl, sym, ap, ◌∙◌, add-one, append_assoc, drop-cons}
use Rattle.std.specs.List.{cons_option}
use Rattle.journal.specs.declared.events.Event.{Event}
use Rattle.chart.specs.declared.marks.Said.{Said}
use Rattle.chart.specs.declared.rows.Row.{Row}
use Rattle.chart.specs.Marks.{said_by}
use Rattle.chart.specs.Rows.{row_at, rows_from}

-- what is left at a place is the item there and what is left behind it
pub left_at : {X : Type 0} (items : List X) (i : ℕ) (item : X) → i < length items → item ≡ get_or items i item → drop i items ≡ item ∷ drop (i + 1) items
left_at items i item inside is = drop-cons items i item inside ∙ ap (λ x. x ∷ drop (suc i) items) (sym is) ∙ ap (λ n. item ∷ drop n items) (sym (add-one i))

-- one row more
pub one_row : (past : List Said) (event : Event) (left more : List Event) (rows all : List Row) → left ≡ event ∷ more → rows ++ rows_from past left ≡ all
    → (rows ++ row_at (cons_option (said_by event) past) event ∷ []) ++ rows_from (cons_option (said_by event) past) more ≡ all
one_row past event left more rows all is so_far =
    append_assoc rows (row_at (cons_option (said_by event) past) event ∷ []) (rows_from (cons_option (said_by event) past) more)
    ∙ sym (ap (λ events. rows ++ rows_from past events) is) ∙ so_far

pub rows_len : (past : List Said) (events : List Event) → length (rows_from past events) ≡ length events
rows_len past [] = refl
rows_len past (event ∷ events) = ap suc (rows_len (cons_option (said_by event) past) events)
