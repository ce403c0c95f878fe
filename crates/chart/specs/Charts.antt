-- Where each row is drawn, and the other end of its arrow (own).
use Rattle.std.specs.Prelude.{ℕ, ◌+◌, not, if◌then◌else◌, List, [], ◌∷◌, map, position, Option, None, Some, unwrap_or, option_map}
use Rattle.std.specs.Option.{option_or}
use Rattle.chart.specs.declared.keys.Lifeline.{Lifeline}
use Rattle.chart.specs.declared.keys.ArrowEnd.{ArrowEnd}
use Rattle.chart.specs.declared.joins.Place.{Place}
use Rattle.chart.specs.declared.joins.Partner.{Partner}
use Rattle.chart.specs.declared.joins.Told.{Told}
use Rattle.chart.specs.declared.joins.Arrow.{Arrow}
use Rattle.chart.specs.declared.rows.Mark.{Mark}
use Rattle.chart.specs.declared.rows.Mark.TheVariants as mark
use Rattle.chart.specs.declared.rows.Stand.{Stand}
use Rattle.chart.specs.declared.rows.Stand.TheVariants as stand
use Rattle.chart.specs.declared.rows.Row.{Row}
use Rattle.chart.specs.Keys.{is_same_lifeline, is_same_arrow_end}

-- the place of a lifeline among lifelines
abbrev pub column_of : List Lifeline → Lifeline → ℕ
column_of lifelines lifeline = unwrap_or (position (is_same_lifeline lifeline) lifelines) 0

-- the end of an arrow that a row is
abbrev pub arrow_at : Lifeline → Mark → Option Arrow
arrow_at lifeline (mark.Arrow end is_dropped) = Some (record { lifeline = lifeline; end = end })
arrow_at lifeline _ = None

abbrev pub arrow_in : Stand → Option Arrow
arrow_in stand.Aside = None
arrow_in (stand.At lifeline mark) = arrow_at lifeline mark

-- what a row says of an end: its place and its lifeline, where it is that end
abbrev pub told_by : ArrowEnd → ℕ → Option Arrow → Option Told
told_by end row None = None
told_by end row (Some arrow) = if is_same_arrow_end arrow.end end then Some (record { row = row; lifeline = arrow.lifeline }) else None

-- the first of rows, counted from `row`, that is this end of an arrow
abbrev pub first_of : ArrowEnd → ℕ → List Row → Option Told
first_of end row [] = None
first_of end row (here ∷ more) = option_or (told_by end row (arrow_in here.stand)) (first_of end (row + 1) more)

-- the end of the same message where it was taken, for the one where it was sent, and the other way
abbrev pub other_end : ArrowEnd → ArrowEnd
other_end end = record end { is_sent = not end.is_sent }

abbrev pub partner_in : List Lifeline → Told → Partner
partner_in lifelines told = record { row = told.row; column = column_of lifelines told.lifeline }

abbrev pub partner_of : List Lifeline → List Row → ArrowEnd → Option Partner
partner_of lifelines rows end = option_map (partner_in lifelines) (first_of (other_end end) 0 rows)

-- the column of the lifeline on which a row is
abbrev pub column_in : List Lifeline → Stand → ℕ
column_in lifelines stand.Aside = 0
column_in lifelines (stand.At lifeline mark) = column_of lifelines lifeline

abbrev pub partner_at : List Lifeline → List Row → Option Arrow → Option Partner
partner_at lifelines rows None = None
partner_at lifelines rows (Some arrow) = partner_of lifelines rows arrow.end

-- where a row is drawn
abbrev pub place_at : List Lifeline → List Row → Stand → Place
place_at lifelines rows stand = record { column = column_in lifelines stand; partner = partner_at lifelines rows (arrow_in stand) }

abbrev pub places_of : List Lifeline → List Row → List Place
places_of lifelines rows = map (λ row. place_at lifelines rows row.stand) rows
