-- The text of the SVG of a picture (SVG 1.1: the elements `line`, `rect` and `text`).
use Rattle.std.specs.Prelude.{ℕ, List, [], ◌∷◌, ◌++◌, codes}
use Rattle.std.specs.List.{flat_map}
use Rattle.std.specs.Fmt.{decimal}
use Rattle.svg_text.specs.Escapes.{escaped}
use Rattle.svg_text.specs.declared.pictures.Shape.{Shape}
use Rattle.svg_text.specs.declared.pictures.Shape.TheVariants as shape
use Rattle.svg_text.specs.declared.pictures.Style.{Style}
use Rattle.svg_text.specs.declared.pictures.Style.TheVariants as style
use Rattle.svg_text.specs.declared.printing.TheConstants.{OPENING, STYLES, CLOSING}

-- the class of a style
abbrev pub class_text : Style → List ℕ
class_text style.Lifeline = codes "lifeline"
class_text style.CallerHead = codes "head"
class_text style.OwnHead = codes "own-head"
class_text style.Name = codes "name"
class_text style.Role = codes "role"
class_text style.Count = codes "count"
class_text style.Aside = codes "aside"
class_text style.LeftLabel = codes "left"
class_text style.RightLabel = codes "right"
class_text style.Dot = codes "dot"
class_text style.Arrow = codes "arrow"
class_text style.Dropped = codes "dropped"
class_text style.Loose = codes "loose"
class_text style.Cross = codes "cross"
class_text style.Number = codes "number"
class_text style.Opening = codes "opening"
class_text style.Closing = codes "closing"
class_text style.Crash = codes "crash"
class_text style.BarText = codes "bar-text"
class_text style.CrashText = codes "crash-text"

-- an attribute after a space
unfoldable pub attribute : List ℕ → ℕ → List ℕ
attribute name value = codes " " ++ name ++ codes "=\"" ++ decimal value ++ codes "\""

-- the tag of an element, without its end
unfoldable pub tag : List ℕ → Style → List ℕ → List ℕ
tag name style attributes = codes "<" ++ name ++ codes " class=\"" ++ class_text style ++ codes "\"" ++ attributes

-- the attributes of a point and a size
abbrev pub places : List (List ℕ × ℕ) → List ℕ
places attributes = flat_map (λ a. attribute a.0 a.1) attributes

-- the element of a shape: what a text says is in it escaped
unfoldable pub shape_text : Shape → List ℕ
shape_text (shape.Line style x1 y1 x2 y2) =
    tag (codes "line") style (places ((codes "x1", x1) ∷ (codes "y1", y1) ∷ (codes "x2", x2) ∷ (codes "y2", y2) ∷ [])) ++ codes "/>\n"
shape_text (shape.Box style x y width height) =
    tag (codes "rect") style (places ((codes "x", x) ∷ (codes "y", y) ∷ (codes "width", width) ∷ (codes "height", height) ∷ [])) ++ codes "/>\n"
shape_text (shape.Text style x y text) =
    tag (codes "text") style (places ((codes "x", x) ∷ (codes "y", y) ∷ [])) ++ codes ">" ++ escaped text ++ codes "</text>\n"

-- the text of the SVG of a picture: its size, the style sheet, and the element of each shape in order
unfoldable pub svg_of : ℕ → ℕ → List Shape → List ℕ
svg_of width height shapes =
    OPENING.now ++ places ((codes "width", width) ∷ (codes "height", height) ∷ []) ++ STYLES.now ++ flat_map shape_text shapes ++ CLOSING.now
