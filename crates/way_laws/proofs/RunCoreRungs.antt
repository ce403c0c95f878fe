-- The rings of the link of each core of a run are sound.
use Rattle.std.proofs.Common.{◌≡◌, ℕ, List, All, Some, IfSome, slice_get}
use Rattle.std.proofs.lemmas.List.Elements.{All-nil, All-push, All-set}
use Rattle.rp_io.specs.Images.{ImageAnswer}
use Rattle.lane_laws.specs.SoundRingLinks.{HasSoundRings}
use Rattle.script_lang.specs.declared.commands.Command.{Command}
use Rattle.script_lang.specs.declared.recipes.RecipeLine.{RecipeLine}
use Rattle.script_lang.specs.Runnable.{AreRunnable, IsRunnable}
use Rattle.link_bench.specs.Acts.{IsFitAct}
use Rattle.link_bench.specs.Benches.{BenchState}
use Rattle.link_commands.specs.declared.acts.Line.{Line}
use Rattle.command_run.specs.NamedCores.{NamedCoreState}
use Rattle.command_run.specs.Runs.{RunEffect, RunState, new_run, run_of}
use Rattle.command_run.specs.Stores.{StoreAnswers}
use Rattle.run_laws.proofs.CommandWalks.{ActsOnCore, CommandOutcome, MakesCore, made_core, outcome}
use Rattle.run_laws.proofs.CoresReady.{IsSoundCore}
use Rattle.run_laws.proofs.RunInductions.{any_answers, each_is, state_kept}
use Rattle.run_laws.proofs.RunnableLines.{IsRunnableLine, runnable_line}
use Rattle.run_laws.proofs.RunWalks.{FitsLine, item_at}
use Rattle.run_laws.proofs.RunsReached.{AreSound, command_sound, line_fits, none_sound}
use Rattle.way_laws.proofs.CoreRungs.{IsRungCore, core_rung, new_core_rung}

-- each core has sound rings
abbrev AreRung : List NamedCoreState → Type 0
AreRung cores = All (λ (named : NamedCoreState). IsRungCore named.core) cores

-- each outcome of a command leaves them so
module _ (answer : ImageAnswer) (run : RunState) (sound : AreSound run.objects) (are : AreRung run.objects.cores) where
  next_rung : {done : Line (List RecipeLine) (List ℕ)} {effect : RunEffect} → CommandOutcome answer run done effect → FitsLine IsFitAct done → IsRunnableLine done → AreRung effect.run.objects.cores
  next_rung (MakesCore name set book none) fits fit = All-push (λ (named : NamedCoreState). IsRungCore named.core) run.objects.cores (made_core name set book) are (new_core_rung set book fit)
  next_rung (ActsOnCore name wanted place on at) fits fit =
      All-set (λ (named : NamedCoreState). IsRungCore named.core) run.objects.cores place _
      (core_rung run.objects.images answer on run.steps (item_at (λ (named : NamedCoreState). IsSoundCore named.core) run.objects.cores place on at.found sound.cores)
      (item_at (λ (named : NamedCoreState). IsRungCore named.core) run.objects.cores place on at.found are) run.objects.is_quiet wanted fits) are
  next_rung came fits fit = are

record Stands (run : RunState) : Type 0 where
  pub sound : AreSound run.objects
  pub cores : AreRung run.objects.cores

run_rung : (told : StoreAnswers) (commands : List Command) → AreRunnable commands → AreRung (run_of told commands).last.objects.cores
run_rung told commands runs =
    (state_kept IsRunnable (λ answer. Unit {0}) Stands
    (λ answer run asked any may stands. record {
      sound = command_sound answer run asked may stands.sound;
      cores = next_rung answer run stands.sound stands.cores (outcome answer run asked) (line_fits asked may) (runnable_line asked may);
    })
    told new_run commands (any_answers told) (each_is (λ asked may. may) commands runs) (record { sound = none_sound; cores = All-nil (λ (named : NamedCoreState). IsRungCore named.core) })).cores

module _ (told : StoreAnswers) (commands : List Command) (place : ℕ) (on : NamedCoreState) (runs : AreRunnable commands) (found : slice_get (run_of told commands).last.objects.cores place ≡ Some on) where
  rung : IsRungCore on.core
  rung = item_at (λ (named : NamedCoreState). IsRungCore named.core) (run_of told commands).last.objects.cores place on found (run_rung told commands runs)

  pub cores_sound : IfSome on.core.bench (λ (bench : BenchState). HasSoundRings bench.rings)
  cores_sound = rung.bench
