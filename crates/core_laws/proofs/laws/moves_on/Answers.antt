use Rattle.channel_bus.specs.Sides.{side_meaning}
use Rattle.core_laws.proofs.LinkMoves.{comes_none, comes_then}
use Rattle.core_laws.proofs.laws.moves_on.Goals as goal

pub returns : goal.returns
returns c = record { none = λ link. comes_none side_meaning link; more = λ before middle after first second. comes_then side_meaning before middle after first second }
