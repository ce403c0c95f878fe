-- What a command left of a bench, wrote and answered (own).
use Rattle.std.specs.Prelude.{◌≡◌, ◌++◌, Option}
use Rattle.journal.specs.Lines.{transcript}
use Rattle.run_log.specs.Logs.{LogState}
use Rattle.link_bench.specs.Benches.{BenchState}
use Rattle.link_commands.specs.declared.stops.Stop.{Stop}
use Rattle.link_commands.specs.Effects.{Effect}

-- a command left of its bench, wrote and answered what this effect says
pub record HasEffect (effect : Effect) (left : BenchState) (before after : LogState) (answer : Option Stop) : Type 0 where
  pub bench : left ≡ effect.bench
  pub steps : after.steps ≡ effect.steps
  pub lines : after.lines ≡ before.lines ++ transcript effect.events
  pub ending : answer ≡ effect.ending
