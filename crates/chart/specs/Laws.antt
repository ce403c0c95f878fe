-- The ends of arrows, as a transcript says them and as a chart draws them (own).
use Rattle.std.specs.Prelude.{◌≡◌, ◌<◌, ℕ, Bool, true, false, List, Option, Some, None, slice_get, unwrap_or, option_and_then}
use Rattle.std.specs.Option.{option_map_or}
use Rattle.journal.specs.declared.events.Event.{Event}
use Rattle.chart.specs.declared.joins.Told.{Told}
use Rattle.chart.specs.declared.keys.ArrowEnd.{ArrowEnd}
use Rattle.chart.specs.declared.keys.Lifeline.{Lifeline}
use Rattle.chart.specs.declared.marks.Deed.{Deed}
use Rattle.chart.specs.declared.marks.Deed.TheVariants as deed
use Rattle.chart.specs.declared.marks.Teller.{Teller}
use Rattle.chart.specs.declared.rows.Mark.{Mark}
use Rattle.chart.specs.declared.rows.Mark.TheVariants as mark
use Rattle.chart.specs.declared.rows.Stand.{Stand}
use Rattle.chart.specs.declared.rows.Stand.TheVariants as stand
use Rattle.chart.specs.declared.rows.Row.{Row}
use Rattle.chart.specs.Keys.{is_same_arrow_end}
use Rattle.chart.specs.Charts.{arrow_in}
use Rattle.chart.specs.Marks.{said_by}

-- an end of the arrow of a message, without the incarnation
pub record End : Type 0 where
  pub name : List ℕ
  pub caller : ℕ
  pub number : ℕ
  pub is_sent : Bool

-- a sent line gives the one end, a took line the other
abbrev pub told_in : Teller → Deed → Option End
told_in teller (deed.Sent number) = Some (record { name = teller.name; caller = unwrap_or teller.caller 0; number = number; is_sent = true })
told_in teller (deed.Took number is_dropped) = Some (record { name = teller.name; caller = unwrap_or teller.caller 0; number = number; is_sent = false })
told_in teller _ = None

abbrev pub end_told : Event → Option End
end_told event = option_and_then (λ said. told_in said.teller said.deed) (said_by event)

-- the end that a row draws, on its lifeline
abbrev pub drawn_at : Lifeline → Mark → Option End
drawn_at lifeline (mark.Arrow end is_dropped) =
    Some (record { name = end.message.name; caller = lifeline.caller; number = end.message.number; is_sent = end.is_sent })
drawn_at lifeline _ = None

abbrev pub drawn_in : Stand → Option End
drawn_in stand.Aside = None
drawn_in (stand.At lifeline mark) = drawn_at lifeline mark

abbrev pub end_drawn : Row → Option End
end_drawn row = drawn_in row.stand

-- whether a row is this end
abbrev pub is_end : ArrowEnd → Row → Bool
is_end end row = option_map_or (λ arrow. is_same_arrow_end arrow.end end) (arrow_in row.stand) false

-- a row that is this end, and none before it
pub record IsFirstAt (rows : List Row) (end : ArrowEnd) (told : Told) : Type 0 where
  pub row : Row
  pub there : slice_get rows told.row ≡ Some row
  pub is : is_end end row ≡ true
  pub before : (i : ℕ) (other : Row) → i < told.row → slice_get rows i ≡ Some other → is_end end other ≡ false

-- the first row that is this end, or none where no row is
abbrev pub IsFirst : List Row → ArrowEnd → Option Told → Type 0
IsFirst rows end None = (i : ℕ) (other : Row) → slice_get rows i ≡ Some other → is_end end other ≡ false
IsFirst rows end (Some told) = IsFirstAt rows end told
