-- A lifeline and its head (own).
use Rattle.std.specs.Prelude.{ℕ, ◌+◌, ◌-◌, List, [], ◌∷◌, ◌++◌, codes}
use Rattle.std.specs.Fmt.{decimal}
use Rattle.chart.specs.declared.keys.Lifeline.{Lifeline}
use Rattle.chart.specs.declared.keys.Side.{Side}
use Rattle.chart.specs.declared.keys.Side.TheVariants as side
use Rattle.svg_text.specs.declared.pictures.Shape.{Shape}
use Rattle.svg_text.specs.declared.pictures.Shape.TheVariants as shape
use Rattle.svg_text.specs.declared.pictures.Style.{Style}
use Rattle.svg_text.specs.declared.pictures.Style.TheVariants as style
use Rattle.chart_picture.specs.Measures.{x_of}

abbrev pub head_of : Side → Style
head_of side.Host = style.CallerHead
head_of side.Own = style.OwnHead
head_of side.Remote = style.CallerHead

-- what a head says below the name
abbrev pub role_of : Side → ℕ → List ℕ
role_of side.Host caller = codes "host caller " ++ decimal caller
role_of side.Own caller = codes "link or core"
role_of side.Remote caller = codes "remote caller " ++ decimal caller

-- a line down the picture, and a head with the name and the role
abbrev pub lifeline_shapes : ℕ → ℕ → Lifeline → List Shape
lifeline_shapes height column lifeline =
    let x = x_of column in
    shape.Line style.Lifeline x 54 x height
    ∷ shape.Box (head_of lifeline.side) (x - 60) 14 120 40
    ∷ shape.Text style.Name x 31 lifeline.name
    ∷ shape.Text style.Role x 47 (role_of lifeline.side lifeline.caller)
    ∷ []

-- lifelines from left to right, the first in this column
abbrev pub lifelines_shapes : ℕ → ℕ → List Lifeline → List Shape
lifelines_shapes height column [] = []
lifelines_shapes height column (lifeline ∷ more) = lifeline_shapes height column lifeline ++ lifelines_shapes height (column + 1) more
