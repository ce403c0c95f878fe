-- What is told of the channels that a core answers of its link is what its state says.
use Rattle.std.proofs.Common.{◌≡◌, ℕ, true, List, ◌++◌, Option, Some, None, Result, Ok, Err, IfOk, IfErr, OnOk, Vec, refl, ap}
use Rattle.std.specs.Prelude.{IsSomeAnd}
use Rattle.std.specs.Option.{is_some, option_and_then, option_map}
use Rattle.std.specs.declared.alloc.Global.{Global}
use Rattle.name_service.specs.declared.channels.Channel.{Channel}
use Rattle.vring_layout.specs.declared.snapshots.SnapshotFault.{SnapshotFault}
use Rattle.link_bench.specs.Benches.{BenchState, link_in}
use Rattle.link_bench.specs.BenchRings.{IsSnapshotFault}
use Rattle.lane_model.specs.Lanes.{holder}
use Rattle.journal.specs.Lines.{transcript}
use Rattle.crash_recover.specs.Cores.{CoreState}
use Rattle.crash_recover.specs.CoreCallers.{core_channels, core_receiver}
use Rattle.link_commands.specs.declared.acts.LinkView.TheVariants as view
use Rattle.run_log.specs.Logs.{LogState}
use Rattle.link_commands.specs.LinkCommands.{view_events}
use Rattle.link_commands.specs.ChannelLists.{channels_events, found_channels}
use Rattle.link_commands.proofs.FoundChannels.{found_is}
use Rattle.command_run.specs.CoreEffects.{core_tells_all}
use Rattle.command_run.specs.CoreLinks.{found_view_events}
use Rattle.command_run.specs.Outcomes.{HasCoreEffect}

-- on the link that a core has or not
module _ (name : List ℕ) (core : CoreState) (log after : LogState) (answer : Result (Vec Channel Global) SnapshotFault) where
  core_at : (found : Option BenchState) → is_some found ≡ true → OnOk answer (option_and_then (λ (bench : BenchState). holder (link_in bench).to_host.receiver) found ≡ None)
      → IfOk answer (λ channels. option_map (λ (bench : BenchState). (link_in bench).to_host.desk.channels) found ≡ Some channels.items)
      → IfErr answer (IsSnapshotFault (option_and_then (λ (bench : BenchState). holder (link_in bench).to_host.receiver) found))
      → IsSomeAnd (found_channels name answer) (λ events. after ≡ record log { lines = log.lines ++ transcript events }) → HasCoreEffect (core_tells_all core log.steps (found_view_events name view.Channels found)) core log after None
  unfolding view_events channels_events
  core_at None some free same refused told = absurd (cc)
  core_at (Some bench) some free same refused told =
      let left = found_is name bench (λ events. after ≡ record log { lines = log.lines ++ transcript events }) answer (holder (link_in bench).to_host.receiver) free (listed answer same) refused told in
      record { core = refl; steps = ap (λ (l : LogState). l.steps) left; lines = ap (λ (l : LogState). l.lines) left; ending = refl }
    where
      listed : (answer : Result (Vec Channel Global) SnapshotFault) → IfOk answer (λ channels. Some (link_in bench).to_host.desk.channels ≡ Some channels.items) → IfOk answer (λ channels. channels.items ≡ (link_in bench).to_host.desk.channels)
      listed (Ok channels) same = cc
      listed (Err why) same = tt

  pub core_told : is_some core.bench ≡ true → OnOk answer (core_receiver core ≡ None) → IfOk answer (λ channels. core_channels core ≡ Some channels.items) → IfErr answer (IsSnapshotFault (core_receiver core))
      → IsSomeAnd (found_channels name answer) (λ events. after ≡ record log { lines = log.lines ++ transcript events }) → HasCoreEffect (core_tells_all core log.steps (found_view_events name view.Channels core.bench)) core log after None
  core_told = core_at core.bench
