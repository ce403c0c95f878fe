-- A core of a run that has crashed (own).
use Rattle.std.specs.Prelude.{◌≡◌, ◌≢◌, ℕ, List, Option, Some, None, IsSomeAnd}
use Rattle.rp_base.specs.declared.kinds.LifeState.TheVariants.{Crashed}
use Rattle.script_lang.specs.declared.commands.Command.{Command}
use Rattle.link_bench.specs.Benches.{BenchState, link_in}
use Rattle.crash_recover.specs.Cores.{CoreState}
use Rattle.core_laws.specs.ClosedLinks.{StaysClosed}
use Rattle.link_commands.specs.declared.acts.CoreAct.TheVariants as core
use Rattle.link_commands.specs.declared.acts.Line.TheVariants as line
use Rattle.link_commands.specs.declared.acts.NamedAct.TheVariants as under
use Rattle.link_commands.specs.declared.acts.StartAct.TheVariants as start
use Rattle.link_commands.specs.Acts.{line_of}
use Rattle.command_run.specs.Runs.{RunState, core_place}

-- a command recovers no core but another one
abbrev pub RecoversOther : RunState → ℕ → Command → Type 0
RecoversOther run place asked = (name : List ℕ) → line_of asked ≡ line.On name (under.Core (core.Start start.Recover)) → core_place run.objects.cores name ≢ Some place

-- a core has no link still, or its link is closed still and nothing was handed over
abbrev pub LinkStaysClosed : Option BenchState → Option BenchState → Type 0
LinkStaysClosed None after = after ≡ None
LinkStaysClosed (Some bench) after = IsSomeAnd after (λ (now : BenchState). StaysClosed (link_in bench) (link_in now))

-- a core is crashed still, and nothing was handed over on its link
pub record StaysCrashed (before after : CoreState) : Type 0 where
  pub crashed : after.life.state ≡ Crashed
  pub link : LinkStaysClosed before.bench after.bench
