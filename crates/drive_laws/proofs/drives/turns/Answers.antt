use Rattle.drive_laws.proofs.TurnFacts.{own_turn, passed_turn, both_rest, turn_behind}
use Rattle.drive_laws.proofs.drives.turns.Goals as goal

pub returns : goal.returns
returns c = record { own = own_turn; passed = passed_turn; rest = both_rest; behind = turn_behind }
