-- What comes of a closed link by moves is closed, and has handed over nothing more.
use Rattle.std.proofs.Common.{◌≡◌, false, List, [], ◌∷◌, subst}
use Rattle.lane_model.specs.Links.{LinkState}
use Rattle.lane_laws.specs.Moves.{Move, Recorded, after_move, after_moves, no_handings}
use Rattle.lane_laws.proofs.LinkRuns.{move_shut, moves_hand_none}
use Rattle.channel_bus.specs.Sides.{EndState, side_meaning}
use Rattle.core_laws.specs.BenchMoves.{ComesBy}
use Rattle.core_laws.specs.ClosedLinks.{StaysClosed}

shut_on : (now : Recorded EndState) (moves : List Move) → now.link.era.is_live ≡ false → (after_moves side_meaning now moves).link.era.is_live ≡ false
shut_on now [] shut = shut
shut_on now (move ∷ moves) shut = shut_on (after_move side_meaning now move) moves (move_shut side_meaning now.link move shut).shut

pub closed_by : (before after : LinkState EndState) → ComesBy side_meaning before after → before.era.is_live ≡ false → StaysClosed before after
closed_by before after came shut =
    subst (StaysClosed before) came.left
    (record {
      closed = shut_on (no_handings before) came.moves shut;
      hands = moves_hand_none side_meaning (no_handings before) came.moves shut;
    })
