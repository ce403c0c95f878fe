-- What a close and a reopening of a link leave of it and write (own).
use Rattle.std.specs.Prelude.{ℕ, ◌+◌, ◌==◌, List, [], ◌∷◌, Option, Some, None, if◌then◌else◌}
use Rattle.rp_base.specs.declared.limits.TheConstants.{STEPS_MOST}
use Rattle.rp_base.specs.declared.kinds.Era.{Era}
use Rattle.lane_model.specs.declared.recoveries.ReopenFault.{ReopenFault}
use Rattle.lane_model.specs.declared.recoveries.ReopenFault.TheVariants as reopen_fault
use Rattle.lane_model.specs.Recoveries.{link_close_refusal, link_reopen_refusal}
use Rattle.journal.specs.declared.events.Event.{Event}
use Rattle.journal.specs.declared.events.Event.TheVariants as event
use Rattle.link_commands.specs.declared.stops.Stop.TheVariants as stop
use Rattle.link_bench.specs.Benches.{BenchState, link_in}
use Rattle.link_bench.specs.BenchCrashes.{after_close, after_reopen}
use Rattle.link_commands.specs.Effects.{Effect, tells, tells_all}

-- a close of this era, which it ended or found in this life
abbrev pub close_event : List ℕ → Era → Option Era → Event
close_event name era None = event.Closed name era.inc
close_event name era (Some found) = event.Already name found

-- `close X`: an exchange of the era is one step, where it changes nothing too
unfoldable pub close_effect : List ℕ → BenchState → ℕ → Effect
close_effect name bench steps =
    if steps == STEPS_MOST then record { bench = bench; steps = steps; events = []; ending = Some stop.StepLimit }
    else tells (after_close bench) (steps + 1) (close_event name (link_in bench).era (link_close_refusal (link_in bench).era (link_in bench).era.inc))

-- why a link isn't opened again (out of memory isn't the link's refusal, and ends the run)
abbrev pub reopen_events : List ℕ → ReopenFault → List Event
reopen_events name (reopen_fault.StillOpen era) = event.StillOpen name era.inc ∷ []
reopen_events name (reopen_fault.StillTurn caller) = event.StillTurn name caller ∷ []
reopen_events name (reopen_fault.StillHeld caller number) = event.StillHeld name caller number ∷ []
reopen_events name reopen_fault.IncarnationsSpent = event.IncarnationsSpent name ∷ []
reopen_events name reopen_fault.NoMemory = []

-- a link that nothing keeps from its next incarnation, or something
abbrev pub opened_effect : List ℕ → BenchState → ℕ → Option ReopenFault → Effect
opened_effect name bench steps None = tells (after_reopen bench) steps (event.Open name ((link_in bench).era.inc + 1))
opened_effect name bench steps (Some why) = tells_all bench steps (reopen_events name why)

-- `reopen X`: no step
unfoldable pub reopen_effect : List ℕ → BenchState → ℕ → Effect
reopen_effect name bench steps = opened_effect name bench steps (link_reopen_refusal (link_in bench))
