-- The shapes of a chart (own).
use Rattle.std.specs.Prelude.{ℕ, ◌+◌, ◌-◌, nat_le, if◌then◌else◌, List, [], ◌∷◌, ◌++◌, length, take, codes}
use Rattle.std.specs.Fmt.{decimal}
use Rattle.chart.specs.declared.joins.Place.{Place}
use Rattle.chart.specs.declared.keys.Lifeline.{Lifeline}
use Rattle.chart.specs.declared.keys.Side.{Side}
use Rattle.chart.specs.declared.keys.Side.TheVariants as side
use Rattle.chart.specs.declared.rows.Mark.{Mark}
use Rattle.chart.specs.declared.rows.Mark.TheVariants as mark
use Rattle.chart.specs.declared.rows.Row.{Row}
use Rattle.chart.specs.declared.rows.Stand.{Stand}
use Rattle.chart.specs.declared.rows.Stand.TheVariants as stand
use Rattle.svg_text.specs.declared.pictures.Shape.{Shape}
use Rattle.svg_text.specs.declared.pictures.Shape.TheVariants as shape
use Rattle.svg_text.specs.declared.pictures.Style.{Style}
use Rattle.svg_text.specs.declared.pictures.Style.TheVariants as style
use Rattle.chart_picture.specs.declared.measures.TheConstants.{LABEL_MOST}
use Rattle.chart_picture.specs.Measures.{x_of, y_of, height_of}
use Rattle.chart_picture.specs.Heads.{lifelines_shapes}
use Rattle.chart_picture.specs.Marks.{mark_shapes}

-- a label is in its bar, or beside its lifeline: the callers of the host have theirs to the left
abbrev pub beside_style : Side → Style
beside_style side.Host = style.LeftLabel
beside_style side.Own = style.RightLabel
beside_style side.Remote = style.RightLabel

abbrev pub label_style : Mark → Side → Style
label_style mark.Note side = beside_style side
label_style mark.Opening side = style.BarText
label_style mark.Closing side = style.BarText
label_style mark.Crash side = style.CrashText
label_style (mark.Arrow end is_dropped) side = beside_style side

abbrev pub beside_x : Side → ℕ → ℕ
beside_x side.Host x = x - 12
beside_x side.Own x = x + 12
beside_x side.Remote x = x + 12

abbrev pub label_x : Mark → Side → ℕ → ℕ
label_x mark.Note side x = beside_x side x
label_x mark.Opening side x = x
label_x mark.Closing side x = x
label_x mark.Crash side x = x
label_x (mark.Arrow end is_dropped) side x = beside_x side x

-- a label, or its prefix where it is long
abbrev pub clipped : List ℕ → List ℕ
clipped label = if nat_le (length label) LABEL_MOST then label else take LABEL_MOST label ++ codes "..."

-- what a row shows on its lifeline, and its label
abbrev pub stand_shapes : Stand → Place → ℕ → List ℕ → List Shape
stand_shapes stand.Aside place y label = shape.Text style.Aside 52 (y + 4) (clipped label) ∷ []
stand_shapes (stand.At lifeline mark) place y label =
    mark_shapes lifeline.side mark place y
    ++ shape.Text (label_style mark lifeline.side) (label_x mark lifeline.side (x_of place.column)) (y + 4) (clipped label) ∷ []

-- the number of its line, from 1, is before each row
abbrev pub row_shapes : ℕ → Row → Place → List Shape
row_shapes index row place =
    shape.Text style.Count 40 (y_of index + 4) (decimal (index + 1)) ∷ stand_shapes row.stand place (y_of index) row.label

-- rows from above, the first with this index
abbrev pub rows_shapes : ℕ → List Row → List Place → List Shape
rows_shapes index (row ∷ rows) (place ∷ places) = row_shapes index row place ++ rows_shapes (index + 1) rows places
rows_shapes index rows places = []

-- the shapes of a chart: its lifelines, and over them its rows
abbrev pub shapes_of : List Lifeline → List Row → List Place → List Shape
shapes_of lifelines rows places = lifelines_shapes (height_of (length rows)) 0 lifelines ++ rows_shapes 0 rows places
