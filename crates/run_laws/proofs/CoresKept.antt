-- A run keeps what its cores keep of their links.
use Rattle.std.proofs.Common.{List}
use Rattle.rp_io.specs.Images.{ImageAnswer}
use Rattle.script_lang.specs.declared.commands.Command.{Command}
use Rattle.crash_recover.specs.Cores.{IsKeptCore}
use Rattle.core_laws.proofs.CoreActs.{core_act_kept}
use Rattle.core_laws.proofs.KeptCores.{core_driven, kept_stays}
use Rattle.command_run.specs.Runs.{RunState, effect_of, run_of}
use Rattle.command_run.specs.Stores.{StoreAnswers}
use Rattle.run_laws.specs.Kept.{AreKept}
use Rattle.run_laws.proofs.AnyActs.{AnyAct, effect_keeps_cores, runs_keep_cores}
use Rattle.run_laws.proofs.CoreWalks.{KeepCores}

pub cores_are_kept : KeepCores AnyAct IsKeptCore
cores_are_kept = record {
  region = λ core region clear is. is;
  driver = λ core channel kind is. is;
  lives = kept_stays;
  drive = λ core up is. core_driven core is;
  act = λ core steps asked fits is. core_act_kept core steps asked is;
}

-- a command
pub effect_kept : (answer : ImageAnswer) (run : RunState) (wanted : Command) → AreKept run.objects → AreKept (effect_of answer run wanted).run.objects
effect_kept = effect_keeps_cores IsKeptCore (λ set book. tt) cores_are_kept

-- a run
pub runs_kept : (told : StoreAnswers) (commands : List Command) → AreKept (run_of told commands).last.objects
runs_kept = runs_keep_cores IsKeptCore (λ set book. tt) cores_are_kept
