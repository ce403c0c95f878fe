-- The ends of arrows in order, and the first row that is an end.
use Rattle.std.proofs.Common.{◌≡◌, ℕ, zero, suc, ◌+◌, ◌<◌, Bool, true, false, List, [], ◌∷◌, Option, Some, None, refl, ap, ◌∙◌, subst, arith}
use Rattle.std.specs.Prelude.{slice_get, option_and_then, cond}
use Rattle.std.specs.Option.{option_or, option_map_or}
use Rattle.std.specs.List.{cons_option, filter_map}
use Rattle.journal.specs.Lines.{line}
use Rattle.journal.specs.declared.events.Event.{Event}
use Rattle.chart.specs.declared.joins.Arrow.{Arrow}
use Rattle.chart.specs.declared.joins.Told.{Told}
use Rattle.chart.specs.declared.keys.ArrowEnd.{ArrowEnd}
use Rattle.chart.specs.declared.marks.Deed.{Deed}
use Rattle.chart.specs.declared.marks.Deed.TheVariants as deed
use Rattle.chart.specs.declared.marks.Said.{Said}
use Rattle.chart.specs.declared.rows.Row.{Row}
use Rattle.chart.specs.Charts.{arrow_in, first_of, told_by}
use Rattle.chart.specs.Keys.{is_same_arrow_end}
use Rattle.chart.specs.Laws.{IsFirst, drawn_at, end_drawn, end_told, is_end, told_in}
use Rattle.chart.specs.Marks.{said_by}
use Rattle.chart.specs.Rows.{lifeline_in, mark_in, row_in, rows_from}

drawn_is : (said : Said) (what : Deed) (caller : Option ℕ) (past : List Said)
    → drawn_at (lifeline_in said.teller.name what caller past) (mark_in said what past) ≡ told_in (record said.teller { caller = caller }) what
drawn_is said (deed.Opens inc) caller past = refl
drawn_is said deed.Closes caller past = refl
drawn_is said deed.Crashes caller past = refl
drawn_is said (deed.Joins number end) caller past = refl
drawn_is said (deed.Sent number) None past = refl
drawn_is said (deed.Sent number) (Some caller) past = refl
drawn_is said (deed.Took number is_dropped) None past = refl
drawn_is said (deed.Took number is_dropped) (Some caller) past = refl
drawn_is said deed.Other caller past = refl

row_drawn : (said : Option Said) (past : List Said) (text : List ℕ) → end_drawn (row_in said past text) ≡ option_and_then (λ s. told_in s.teller s.deed) said
row_drawn None past text = refl
row_drawn (Some said) past text = drawn_is said said.deed said.teller.caller past

pub ends_from : (past : List Said) (events : List Event) → filter_map end_drawn (rows_from past events) ≡ filter_map end_told events
ends_from past [] = refl
ends_from past (event ∷ events) = λ i.
    cons_option (row_drawn (said_by event) (cons_option (said_by event) past) (line event) i) (ends_from (cons_option (said_by event) past) events i)

-- the first row, counted from an index, and what stands before it
record IsFound (rows : List Row) (end : ArrowEnd) (index : ℕ) (told : Told) : Type 0 where
  at : ℕ
  row : Row
  place : told.row ≡ index + at
  there : slice_get rows at ≡ Some row
  is : is_end end row ≡ true
  before : (i : ℕ) (other : Row) → i < at → slice_get rows i ≡ Some other → is_end end other ≡ false

abbrev Finds : List Row → ArrowEnd → ℕ → Option Told → Type 0
Finds rows end index None = (i : ℕ) (other : Row) → slice_get rows i ≡ Some other → is_end end other ≡ false
Finds rows end index (Some told) = IsFound rows end index told

-- a row that is the end
here : (row : Row) (more : List Row) (end : ArrowEnd) (index : ℕ) (told : Told) → told.row ≡ index → is_end end row ≡ true → IsFound (row ∷ more) end index told
here row more end index told place is =
    record { at = 0; row = row; place = omega (arith, place); there = refl; is = is; before = λ i other below there. absurd (omega arith) }

-- and one that isn't, before others
later : (row : Row) (more : List Row) (end : ArrowEnd) (index : ℕ) (found : Option Told) → is_end end row ≡ false → Finds more end (index + 1) found → Finds (row ∷ more) end index found
later row more end index None is none = λ i other there. at i other there
  where
    at : (i : ℕ) (other : Row) → slice_get (row ∷ more) i ≡ Some other → is_end end other ≡ false
    at zero other there = let same : row ≡ other = cc in subst (λ r. is_end end r ≡ false) same is
    at (suc i) other there = none i other there
later row more end index (Some told) is found =
    record { at = suc found.at; row = found.row; place = omega (arith, found.place); there = found.there; is = found.is; before = at }
  where
    at : (i : ℕ) (other : Row) → i < suc found.at → slice_get (row ∷ more) i ≡ Some other → is_end end other ≡ false
    at zero other below there = let same : row ≡ other = cc in subst (λ r. is_end end r ≡ false) same is
    at (suc i) other below there = found.before i other (omega arith) there

by_test : (row : Row) (more : List Row) (end : ArrowEnd) (index : ℕ) (arrow : Arrow) (test : Bool) → arrow_in row.stand ≡ Some arrow → is_same_arrow_end arrow.end end ≡ test → Finds more end (index + 1) (first_of end (index + 1) more)
    → Finds (row ∷ more) end index (option_or (cond test (Some (record { row = index; lifeline = arrow.lifeline })) None) (first_of end (index + 1) more))
by_test row more end index arrow true is same rest =
    here row more end index (record { row = index; lifeline = arrow.lifeline }) refl (ap (λ o. option_map_or (λ a. is_same_arrow_end a.end end) o false) is ∙ same)
by_test row more end index arrow false is same rest =
    later row more end index (first_of end (index + 1) more) (ap (λ o. option_map_or (λ a. is_same_arrow_end a.end end) o false) is ∙ same) rest

by_arrow : (row : Row) (more : List Row) (end : ArrowEnd) (index : ℕ) (arrow : Option Arrow) → arrow_in row.stand ≡ arrow → Finds more end (index + 1) (first_of end (index + 1) more)
    → Finds (row ∷ more) end index (option_or (told_by end index arrow) (first_of end (index + 1) more))
by_arrow row more end index None is rest =
    later row more end index (first_of end (index + 1) more) (ap (λ o. option_map_or (λ a. is_same_arrow_end a.end end) o false) is) rest
by_arrow row more end index (Some arrow) is rest = by_test row more end index arrow (is_same_arrow_end arrow.end end) is refl rest

finds : (rows : List Row) (end : ArrowEnd) (index : ℕ) → Finds rows end index (first_of end index rows)
finds [] end index = λ i other there. absurd (cc)
finds (row ∷ more) end index = by_arrow row more end index (arrow_in row.stand) refl (finds more end (index + 1))

is_first : (rows : List Row) (end : ArrowEnd) (found : Option Told) → Finds rows end 0 found → IsFirst rows end found
is_first rows end None none = none
is_first rows end (Some told) found =
    let same : told.row ≡ found.at = omega (arith, found.place) in
    record {
      row = found.row;
      there = ap (slice_get rows) same ∙ found.there;
      is = found.is;
      before = λ i other below there. found.before i other (omega (arith, same, below)) there;
    }

pub first_found : (rows : List Row) (end : ArrowEnd) → IsFirst rows end (first_of end 0 rows)
first_found rows end = is_first rows end (first_of end 0 rows) (finds rows end 0)
