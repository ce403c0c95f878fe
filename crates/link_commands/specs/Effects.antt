-- What an act on a link leaves of it and writes (own).
use Rattle.std.specs.Prelude.{ℕ, List, [], ◌∷◌, Option, Some, None}
use Rattle.link_bench.specs.declared.acts.ActAnswer.{ActAnswer}
use Rattle.link_bench.specs.declared.acts.ActAnswer.TheVariants as answer
use Rattle.link_bench.specs.declared.acts.LinkAct.{LinkAct}
use Rattle.link_bench.specs.declared.bench_crashes.Reclaim.{Reclaim}
use Rattle.link_bench.specs.declared.bench_crashes.Reclaim.TheVariants as reclaim
use Rattle.link_bench.specs.declared.benches.Reach.{Reach}
use Rattle.link_bench.specs.declared.benches.Reach.TheVariants as reach
use Rattle.link_bench.specs.declared.turns.TurnEnd.{TurnEnd}
use Rattle.link_bench.specs.declared.turns.TurnEnd.TheVariants as turn_end
use Rattle.lane_model.specs.Links.{LinkState}
use Rattle.channel_bus.specs.Sides.{EndState}
use Rattle.link_bench.specs.Benches.{BenchState, link_in}
use Rattle.link_bench.specs.Acts.{link_act}
use Rattle.link_bench.specs.Watchers.{nobody_sees}
use Rattle.journal.specs.declared.events.Event.{Event}
use Rattle.journal.specs.declared.events.Event.TheVariants as event
use Rattle.link_commands.specs.declared.stops.Stop.{Stop}
use Rattle.link_commands.specs.declared.stops.Stop.TheVariants as stop
use Rattle.link_commands.specs.CallEvents.{end_event, fault_event, reach_events}

-- what a command leaves of its bench, the steps of the run until then, what it writes, and why the run stops in its midst, if it does
pub record Effect : Type 0 where
  pub bench : BenchState
  pub steps : ℕ
  pub events : List Event
  pub ending : Option Stop

-- these events, and the bench as it is
abbrev pub tells_all : BenchState → ℕ → List Event → Effect
tells_all bench steps told = record { bench = bench; steps = steps; events = told; ending = None }

-- one event, and the bench as it is
abbrev pub tells : BenchState → ℕ → Event → Effect
tells bench steps told = tells_all bench steps (told ∷ [])

-- the run ends where a step more is asked than it may take
abbrev pub limit_stop : Reach → Option Stop
limit_stop (reach.At step) = None
limit_stop (reach.Ended ended) = None
limit_stop reach.Limit = Some stop.StepLimit

-- what is written of turns: how the last one ended, if it wasn't whole, then how many were done; nothing where the run has no step left
abbrev pub turn_events : List ℕ → LinkState EndState → ℕ → TurnEnd → List Event
turn_events name link done turn_end.Whole = event.Pumped name done ∷ []
turn_events name link done (turn_end.Fault caller why) = fault_event name caller why ∷ event.Pumped name done ∷ []
turn_events name link done (turn_end.Reached caller (reach.At step)) = event.At name caller step ∷ event.Pumped name done ∷ []
turn_events name link done (turn_end.Reached caller (reach.Ended ended)) = end_event name link caller ended ∷ event.Pumped name done ∷ []
turn_events name link done (turn_end.Reached caller reach.Limit) = []

-- the run ends where it has no step left
abbrev pub turn_ending : TurnEnd → Option Stop
turn_ending turn_end.Whole = None
turn_ending (turn_end.Fault caller why) = None
turn_ending (turn_end.Reached caller reached) = limit_stop reached

-- how a reclaim ended
abbrev pub reclaim_event : List ℕ → ℕ → Reclaim → Event
reclaim_event name caller reclaim.Done = event.Reclaimed name caller
reclaim_event name caller (reclaim.StillOpen era) = event.StillOpen name era.inc
reclaim_event name caller (reclaim.Busy holder) = event.BusyTurn name holder

-- what comes of an act, on the link that it left
abbrev pub answer_events : List ℕ → LinkState EndState → ActAnswer → List Event
answer_events name link (answer.Caller number end) = event.Caller name number end ∷ []
answer_events name link answer.CallersFull = event.CallersFull name ∷ []
answer_events name link (answer.Refused caller why) = fault_event name caller why ∷ []
answer_events name link (answer.TooLong caller len) = event.TooLong name caller len ∷ []
answer_events name link (answer.WrongSide receiver) = event.WrongSide name receiver ∷ []
answer_events name link (answer.Begun caller) = event.Begun name caller ∷ []
answer_events name link (answer.Reached caller reached) = reach_events name link caller reached
answer_events name link (answer.Pumped done ended) = turn_events name link done ended
answer_events name link (answer.Reclaimed caller came) = reclaim_event name caller came ∷ []

-- why the run stops with an act
abbrev pub answer_ending : ActAnswer → Option Stop
answer_ending (answer.Reached caller reached) = limit_stop reached
answer_ending (answer.Pumped done ended) = turn_ending ended
answer_ending other = None

-- an act for callers on a link that nobody watches, and that has no callers of its own
abbrev pub act_effect : List ℕ → BenchState → ℕ → LinkAct (List ℕ) → Effect
act_effect name bench steps act =
    let acted = link_act nobody_sees 0 bench tt steps act in
    record { bench = acted.bench; steps = acted.steps; events = answer_events name (link_in acted.bench) acted.answer; ending = answer_ending acted.answer }
