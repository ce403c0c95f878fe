-- What an act leaves of a link comes by the moves of its deeds; so in a closed era it hands nothing over.
use Rattle.std.proofs.Common.{◌≡◌, ℕ, false, List, ◌∙◌}
use Rattle.channel_bus.specs.Sides.{side_meaning}
use Rattle.lane_laws.specs.Moves.{no_handings}
use Rattle.lane_laws.proofs.WayFacts.{after_moves_link}
use Rattle.link_bench.specs.declared.acts.LinkAct.{LinkAct}
use Rattle.link_bench.specs.Acts.{IsFitAct, link_act}
use Rattle.link_bench.specs.Benches.{BenchState, link_in}
use Rattle.link_bench.specs.Watchers.{Seeing}
use Rattle.core_laws.specs.BenchMoves.{ComesBy, IsReachedBench}
use Rattle.core_laws.specs.ClosedLinks.{StaysClosed}
use Rattle.core_laws.proofs.ClosedMoves.{closed_by}
use Rattle.act_laws.specs.Deeds.{act_deeds}
use Rattle.act_laws.proofs.Lands.{lands_lists}
use Rattle.act_laws.proofs.ReachedActs.{deeds_land}

-- an act on any link
pub acts_come : {W : Type 0} (sees : Seeing W) (own : ℕ) (bench : BenchState) (watcher : W) (steps : ℕ) (asked : LinkAct (List ℕ)) → IsFitAct asked → IsReachedBench bench
    → ComesBy side_meaning (link_in bench) (link_in (link_act sees own bench watcher steps asked).bench)
acts_come sees own bench watcher steps asked fit is =
    let deeds = act_deeds sees own bench watcher steps asked in
    let left = (link_act sees own bench watcher steps asked).bench in
    let lands = deeds_land sees own bench watcher steps asked fit is in
    record {
      moves = deeds.moves;
      may = lands.may;
      left = after_moves_link side_meaning (no_handings (link_in bench)) deeds.moves ∙ lands_lists bench.rings deeds left.rings lands;
    }

pub act_closed : {W : Type 0} (sees : Seeing W) (own : ℕ) (bench : BenchState) (watcher : W) (steps : ℕ) (asked : LinkAct (List ℕ)) → IsFitAct asked → IsReachedBench bench
    → (link_in bench).era.is_live ≡ false → StaysClosed (link_in bench) (link_in (link_act sees own bench watcher steps asked).bench)
act_closed sees own bench watcher steps asked fit is shut =
    closed_by (link_in bench) _ (acts_come sees own bench watcher steps asked fit is) shut
