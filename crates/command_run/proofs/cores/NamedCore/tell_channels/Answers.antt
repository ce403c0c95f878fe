-- What is told of the channels of a core's link is what its state says.
use Rattle.std.proofs.Common.{None, rules, subst, sym}
use Rattle.crash_recover.specs.Cores.{CoreState}
use Rattle.link_commands.specs.declared.acts.LinkView.TheVariants as view
use Rattle.command_run.specs.CoreEffects.{core_tells_all}
use Rattle.command_run.specs.CoreLinks.{found_view_events}
use Rattle.command_run.specs.Outcomes.{HasCoreEffect}
use Rattle.command_run.specs.NamedCores.{NamedCoreState}
use Rattle.command_run.proofs.CoreChannels.{core_told}
use Rattle.command_run.proofs.cores.NamedCore.tell_channels.Goals as goal

pub returns-clause-effect : goal.returns-clause-effect
returns-clause-effect c =
    let s = c.self.inside in let log = c.args.log.now in let after = c.tell_channels.new.log in let found = c.channels.ensures in
    let shown = core_told s.name s.core log after c.channels.result (search rules) found.free found.channels found.refused c.in_ok-tell_channels.ensures in
    subst (λ (named : NamedCoreState). HasCoreEffect (core_tells_all named.core log.steps (found_view_events named.name view.Channels named.core.bench)) c.channels.new.self log after None) c.self.view_is
    (subst (λ (core : CoreState). HasCoreEffect (core_tells_all s.core log.steps (found_view_events s.name view.Channels s.core.bench)) core log after None) (sym found.same) shown)
