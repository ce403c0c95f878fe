-- The lifelines of rows, from left to right (own).
use Rattle.std.specs.Prelude.{◌<◌, ◌⊎◌, length, ℕ, Bool, true, false, ◌&&◌, if◌then◌else◌, List, [], ◌∷◌, ◌++◌, filter}
use Rattle.std.specs.List.{flat_map}
use Rattle.indexmap.specs.IndexSet.{insert_all}
use Rattle.chart.specs.declared.limits.TheConstants.{LIFELINES_MOST}
use Rattle.chart.specs.declared.keys.Side.{Side}
use Rattle.chart.specs.declared.keys.Side.TheVariants as side
use Rattle.chart.specs.declared.keys.Lifeline.{Lifeline}
use Rattle.chart.specs.declared.rows.Stand.{Stand}
use Rattle.chart.specs.declared.rows.Stand.TheVariants as stand
use Rattle.chart.specs.declared.rows.Row.{Row}
use Rattle.chart.specs.Keys.{is_same_name, is_same_side, is_same_lifeline}
use Rattle.chart.specs.Rows.{own}

-- lifelines in the order in which they first come in a list, each once
abbrev pub distinct : List Lifeline → List Lifeline
distinct lifelines = insert_all is_same_lifeline [] lifelines

-- the lifelines that a row needs: that of its link or core, and its own
abbrev pub lifelines_at : Stand → List Lifeline
lifelines_at stand.Aside = []
lifelines_at (stand.At lifeline mark) = own lifeline.name ∷ lifeline ∷ []

abbrev pub lifelines_in : Row → List Lifeline
lifelines_in row = lifelines_at row.stand

-- a lifeline of this link or core on this side
abbrev pub stands : List ℕ → Side → Lifeline → Bool
stands name side lifeline = is_same_name lifeline.name name && is_same_side lifeline.side side

abbrev pub is_own : Side → Bool
is_own side.Host = false
is_own side.Own = true
is_own side.Remote = false

-- the lifelines of one link or core, from the host to the remote
abbrev pub group_of : List Lifeline → Lifeline → List Lifeline
group_of all lifeline =
    if is_own lifeline.side
    then filter (stands lifeline.name side.Host) all ++ filter (stands lifeline.name side.Own) all ++ filter (stands lifeline.name side.Remote) all
    else []

-- lifelines by their links and cores
abbrev pub in_order : List Lifeline → List Lifeline
in_order all = flat_map (group_of all) all

-- the lifelines that rows are on, each once
abbrev pub seats_of : List Row → List Lifeline
seats_of rows = distinct (flat_map lifelines_in rows)

-- the same from left to right
abbrev pub lifelines_of : List Row → List Lifeline
lifelines_of rows = distinct (in_order (seats_of rows))

-- rows have more lifelines than a chart
abbrev pub IsTooWide : List Row → Type 0
IsTooWide rows = (LIFELINES_MOST < length (seats_of rows)) ⊎ (LIFELINES_MOST < length (lifelines_of rows))
