-- What is done on the link of a core (own).
use Rattle.std.specs.Prelude.{ℕ, List, [], ◌∷◌, Option, Some, None}
use Rattle.journal.specs.declared.events.Event.{Event}
use Rattle.journal.specs.declared.events.Event.TheVariants as event
use Rattle.link_bench.specs.declared.acts.LinkAct.{LinkAct}
use Rattle.link_bench.specs.Benches.{BenchState, link_in}
use Rattle.crash_recover.specs.CoreActs.{act_on_core, core_after_act}
use Rattle.crash_recover.specs.CoreCallers.{core_turn_holder}
use Rattle.crash_recover.specs.CoreRings.{core_ring}
use Rattle.crash_recover.specs.Cores.{CoreState}
use Rattle.link_commands.specs.declared.acts.LinkView.{LinkView}
use Rattle.link_commands.specs.declared.acts.LinkView.TheVariants as view
use Rattle.command_run.specs.CoreEffects.{CoreEffect, core_tells}
use Rattle.link_commands.specs.Effects.{answer_ending, answer_events}
use Rattle.link_commands.specs.LinkCommands.{view_events}
use Rattle.link_commands.specs.RingDumps.{ring_events}

-- an act for callers on the link that a core has or not
unfoldable pub core_link_effect : List ℕ → CoreState → ℕ → LinkAct (List ℕ) → Option BenchState → CoreEffect
core_link_effect name core steps act None = core_tells core steps (event.NoLink name)
core_link_effect name core steps act (Some bench) =
    let acted = act_on_core core bench steps act in
    record { core = core_after_act core acted; steps = acted.steps; events = answer_events name (link_in acted.bench) acted.answer; ending = answer_ending acted.answer }

-- the bytes of a ring that a core has or not
abbrev pub found_ring_events : List ℕ → ℕ → Option (List ℕ) → List Event
found_ring_events name lane None = event.NoLink name ∷ []
found_ring_events name lane (Some bytes) = ring_events name lane bytes

-- the same, unless a turn of the link is out
abbrev pub shown_ring_events : List ℕ → CoreState → ℕ → Option ℕ → List Event
shown_ring_events name core lane (Some caller) = event.StillTurn name caller ∷ []
shown_ring_events name core lane None = found_ring_events name lane (core_ring core lane)

-- `ring X LANE` of a core
unfoldable pub core_ring_events : List ℕ → CoreState → ℕ → List Event
core_ring_events name core lane = shown_ring_events name core lane (core_turn_holder core)

-- what the link shows that a core has or not
abbrev pub found_view_events : List ℕ → LinkView → Option BenchState → List Event
found_view_events name shown None = event.NoLink name ∷ []
found_view_events name shown (Some bench) = view_events name bench shown

-- what the link of a core shows, its rings over the buffers that were placed
abbrev pub link_view_events : List ℕ → CoreState → LinkView → List Event
link_view_events name core (view.Ring lane) = core_ring_events name core lane
link_view_events name core other = found_view_events name other core.bench
