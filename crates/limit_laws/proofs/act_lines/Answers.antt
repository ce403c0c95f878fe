use Rattle.std.proofs.Common.{◌≤◌, ℕ, List, length, arith}
use Rattle.lane_model.specs.Links.{LinkState}
use Rattle.channel_bus.specs.Sides.{EndState}
use Rattle.link_bench.specs.declared.acts.ActAnswer.{ActAnswer}
use Rattle.link_bench.specs.declared.acts.ActAnswer.TheVariants as answer
use Rattle.link_bench.specs.declared.benches.Reach.{Reach}
use Rattle.link_bench.specs.declared.benches.Reach.TheVariants as reach
use Rattle.link_bench.specs.declared.turns.TurnEnd.{TurnEnd}
use Rattle.link_bench.specs.declared.turns.TurnEnd.TheVariants as turn_end
use Rattle.link_commands.specs.CallEvents.{reach_events}
use Rattle.link_commands.specs.Effects.{answer_events, turn_events}
use Rattle.limit_laws.proofs.act_lines.Goals as goal

-- how far a call came
reach_few : (name : List ℕ) (link : LinkState EndState) (caller : ℕ) (reached : Reach) → length (reach_events name link caller reached) ≤ 2
reach_few name link caller (reach.At step) = omega arith
reach_few name link caller (reach.Ended ended) = omega arith
reach_few name link caller reach.Limit = omega arith

-- turns, however many were made
turns_few : (name : List ℕ) (link : LinkState EndState) (done : ℕ) (ended : TurnEnd) → length (turn_events name link done ended) ≤ 2
turns_few name link done turn_end.Whole = omega arith
turns_few name link done (turn_end.Fault caller why) = omega arith
turns_few name link done (turn_end.Reached caller (reach.At step)) = omega arith
turns_few name link done (turn_end.Reached caller (reach.Ended ended)) = omega arith
turns_few name link done (turn_end.Reached caller reach.Limit) = omega arith

pub returns : goal.returns
returns c = act_few
  where
    act_few : (name : List ℕ) (link : LinkState EndState) (told : ActAnswer) → length (answer_events name link told) ≤ 2
    act_few name link (answer.Caller number end) = omega arith
    act_few name link answer.CallersFull = omega arith
    act_few name link (answer.Refused caller why) = omega arith
    act_few name link (answer.TooLong caller len) = omega arith
    act_few name link (answer.WrongSide receiver) = omega arith
    act_few name link (answer.Begun caller) = omega arith
    act_few name link (answer.Reached caller reached) = reach_few name link caller reached
    act_few name link (answer.Pumped done ended) = turns_few name link done ended
    act_few name link (answer.Reclaimed caller came) = omega arith
