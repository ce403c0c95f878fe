-- Where the columns and the rows of a picture are (own).
use Rattle.std.specs.Prelude.{ℕ, ◌+◌, ◌*◌}
use Rattle.chart_picture.specs.declared.measures.TheConstants.{FIRST, STEP, RIGHT, TOP, ROW}

abbrev pub x_of : ℕ → ℕ
x_of column = FIRST + STEP * column

abbrev pub y_of : ℕ → ℕ
y_of row = TOP + ROW * row

-- the size of a picture of so many lifelines, and of so many rows
abbrev pub width_of : ℕ → ℕ
width_of lifelines = FIRST + STEP * lifelines + RIGHT

abbrev pub height_of : ℕ → ℕ
height_of rows = TOP + ROW * rows
