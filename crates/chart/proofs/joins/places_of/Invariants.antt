use Rattle.std.proofs.Common.{◌≡◌, map, take}
use Rattle.chart.specs.Charts.{place_at}
use Rattle.chart.proofs.joins.places_of.Given as goal

-- the places of the rows so far
abbrev pub invariant-loop-row : goal.invariant-loop-row
invariant-loop-row l = l.places.items ≡ map (λ row. place_at l.lifelines.keys l.rows row.stand) (take l.row-index l.rows)
