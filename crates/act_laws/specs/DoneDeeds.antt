-- Deeds that are what was done on a bench (own).
use Rattle.std.specs.Prelude.{◌≡◌}
use Rattle.rp_base.specs.declared.kinds.End.{End}
use Rattle.lane_laws.specs.FormMoves.{form_moves}
use Rattle.lane_laws.specs.Moves.{MayMoves}
use Rattle.lane_laws.specs.Takes.{moves_takes}
use Rattle.lane_laws.specs.Ways.{AreWholeMoves, link_after_moves}
use Rattle.ring_core.specs.RingSteps.{ring_form}
use Rattle.channel_bus.specs.Sides.{side_meaning}
use Rattle.link_bench.specs.Benches.{BenchState, link_in}
use Rattle.act_laws.specs.Deeds.{Deeds}

-- each of the moves may be made where the ones before it have been, they leave of the lists and of the rings of this bench what that one has, and the takes are those that they tell
pub record AreDone (bench : BenchState) (deeds : Deeds) (left : BenchState) : Type 0 where
  pub whole : AreWholeMoves deeds.moves
  pub may : MayMoves side_meaning (link_in bench) deeds.moves
  pub lists : link_after_moves side_meaning (link_in bench) deeds.moves ≡ link_in left
  pub rings : form_moves (ring_form side_meaning) side_meaning bench.rings deeds.moves ≡ left.rings
  pub takes : (end : End) → moves_takes side_meaning (link_in bench) deeds.moves end ≡ deeds.takes end
