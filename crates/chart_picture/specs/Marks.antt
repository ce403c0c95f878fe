-- What a row shows on its lifeline, which is at x, in its height y (own).
use Rattle.std.specs.Prelude.{ℕ, ◌+◌, ◌-◌, ◌/◌, Bool, true, false, if◌then◌else◌, List, [], ◌∷◌, ◌++◌, Option, Some, None}
use Rattle.std.specs.Fmt.{decimal}
use Rattle.chart.specs.declared.keys.Side.{Side}
use Rattle.chart.specs.declared.keys.Side.TheVariants as side
use Rattle.chart.specs.declared.joins.Partner.{Partner}
use Rattle.chart.specs.declared.joins.Place.{Place}
use Rattle.chart.specs.declared.rows.Mark.{Mark}
use Rattle.chart.specs.declared.rows.Mark.TheVariants as mark
use Rattle.svg_text.specs.declared.pictures.Shape.{Shape}
use Rattle.svg_text.specs.declared.pictures.Shape.TheVariants as shape
use Rattle.svg_text.specs.declared.pictures.Style.{Style}
use Rattle.svg_text.specs.declared.pictures.Style.TheVariants as style
use Rattle.chart_picture.specs.Measures.{x_of, y_of}

abbrev pub dot : ℕ → ℕ → Shape
dot x y = shape.Box style.Dot (x - 3) (y - 3) 6 6

abbrev pub bar : Style → ℕ → ℕ → Shape
bar style x y = shape.Box style (x - 86) (y - 9) 172 18

-- a point on the way from a lifeline to that of its link or core
abbrev pub inward : Side → ℕ → ℕ
inward side.Host x = x + 60
inward side.Own x = x - 60
inward side.Remote x = x - 60

-- where a message was sent: a dot, and a line that ends soon where nobody took it
abbrev pub sent_shapes : Side → Option Partner → ℕ → ℕ → List Shape
sent_shapes side None x y = shape.Line style.Loose x y (inward side x) y ∷ dot x y ∷ []
sent_shapes side (Some partner) x y = dot x y ∷ []

-- where it was taken: the arrow from its send with its number, or a line that begins on the way where its send isn't known
abbrev pub took_shapes : Side → Option Partner → ℕ → Bool → ℕ → ℕ → List Shape
took_shapes side None number is_dropped x y = shape.Line style.Loose (inward side x) y x y ∷ []
took_shapes side (Some from) number is_dropped x y =
    shape.Line (if is_dropped then style.Dropped else style.Arrow) (x_of from.column) (y_of from.row) x y
    ∷ shape.Text style.Number ((x_of from.column + x) / 2) ((y_of from.row + y) / 2 + 4) (decimal number)
    ∷ []

-- the cross of a message that was dropped
abbrev pub cross_shapes : Bool → ℕ → ℕ → List Shape
cross_shapes false x y = []
cross_shapes true x y =
    shape.Line style.Cross (x - 7) (y - 7) (x + 7) (y + 7) ∷ shape.Line style.Cross (x - 7) (y + 7) (x + 7) (y - 7) ∷ []

abbrev pub arrow_shapes : Bool → Side → Option Partner → ℕ → Bool → ℕ → ℕ → List Shape
arrow_shapes true side partner number is_dropped x y = sent_shapes side partner x y
arrow_shapes false side partner number is_dropped x y = took_shapes side partner number is_dropped x y ++ cross_shapes is_dropped x y

abbrev pub mark_shapes : Side → Mark → Place → ℕ → List Shape
mark_shapes side mark.Note place y = dot (x_of place.column) y ∷ []
mark_shapes side mark.Opening place y = bar style.Opening (x_of place.column) y ∷ []
mark_shapes side mark.Closing place y = bar style.Closing (x_of place.column) y ∷ []
mark_shapes side mark.Crash place y = bar style.Crash (x_of place.column) y ∷ []
mark_shapes side (mark.Arrow end is_dropped) place y =
    arrow_shapes end.is_sent side place.partner end.message.number is_dropped (x_of place.column) y
