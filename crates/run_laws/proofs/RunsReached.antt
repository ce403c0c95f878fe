-- What a run leaves of its links and its cores is reached, kept and ready.
use Rattle.std.proofs.Common.{◌≡◌, ℕ, ◌+◌, ◌==◌, Bool, false, List, [], Option, Some, None, IfSome, refl}
use Rattle.std.specs.Prelude.{Contains}
use Rattle.std.proofs.lemmas.Bool.{cond_both}
use Rattle.std.proofs.lemmas.List.Elements.{All-contains, All-nil}
use Rattle.rp_io.specs.Images.{ImageAnswer}
use Rattle.rp_base.specs.declared.limits.TheConstants.{STEPS_MOST}
use Rattle.lane_model.specs.declared.calls.LinkConfig.{LinkConfig}
use Rattle.lane_model.specs.declared.recoveries.ReopenFault.{ReopenFault}
use Rattle.lane_model.specs.Links.{LinkState}
use Rattle.lane_model.specs.Recoveries.{link_close_refusal, link_reopen_refusal}
use Rattle.lane_model.specs.Soundness.{SoundLink}
use Rattle.channel_bus.specs.Sides.{EndState}
use Rattle.script_lang.specs.declared.commands.Command.{Command}
use Rattle.script_lang.specs.Runnable.{AreRunnable, IsRunnable}
use Rattle.link_bench.specs.Acts.{IsFitAct}
use Rattle.link_bench.specs.Benches.{BenchState, link_in, new_bench_of}
use Rattle.link_bench.specs.BenchCrashes.{after_close}
use Rattle.link_bench.specs.Watchers.{nobody_sees}
use Rattle.core_laws.specs.BenchMoves.{IsReached, IsReachedBench, IsReachedCore}
use Rattle.core_laws.proofs.BenchMoves.{closed, new_reached, reopened}
use Rattle.core_laws.proofs.CoreActs.{acted_reached}
use Rattle.core_laws.proofs.CoreMoves.{new_core_reached}
use Rattle.core_laws.proofs.HandedMessages.{got_front, got_whole, handed_once}
use Rattle.core_laws.proofs.CrashReclaims.{reached_sound}
use Rattle.link_commands.specs.declared.acts.ManagerAct.{ManagerAct}
use Rattle.link_commands.specs.declared.acts.ManagerAct.TheVariants as manager
use Rattle.link_commands.specs.declared.acts.NamedAct.{NamedAct}
use Rattle.link_commands.specs.declared.acts.NamedAct.TheVariants as under
use Rattle.link_commands.specs.Acts.{line_of}
use Rattle.link_commands.specs.Effects.{Effect, tells}
use Rattle.link_commands.specs.LinkCommands.{link_effect, manager_effect}
use Rattle.command_run.specs.NamedCores.{NamedCoreState}
use Rattle.link_commands.specs.NamedLinks.{NamedLink}
use Rattle.link_commands.specs.Recoveries.{close_effect, close_event, opened_effect, reopen_effect}
use Rattle.command_run.specs.Runs.{ObjectsState, RunState, effect_of, new_end, new_run, regions_of, run_of}
use Rattle.command_run.specs.Stores.{StoreAnswers}
use Rattle.run_laws.specs.Kept.{AreKept, AreReady}
use Rattle.run_laws.specs.Reached.{AreReached, HandsInOrder}
use Rattle.run_laws.proofs.CoreWalks.{FitsNamed}
use Rattle.run_laws.proofs.CoresReady.{IsSoundCore, sound_cores}
use Rattle.run_laws.proofs.RunnableLines.{runnable_fits, runnable_line}
use Rattle.run_laws.proofs.RunInductions.{each_is}
use Rattle.run_laws.proofs.RunWalks.{AreAll, FitsLine, KeepRuns, effect_keeps, runs_keep}

-- ---- acts of commands that can be run

pub line_fits : (wanted : Command) → IsRunnable wanted → FitsLine IsFitAct (line_of wanted)
line_fits wanted runs = runnable_fits (line_of wanted) (runnable_line wanted runs)

-- ---- what the manager of a link does

module _ (name : List ℕ) (bench : BenchState) (steps : ℕ) (is : IsReachedBench bench) where
  close_reached : IsReachedBench (close_effect name bench steps).bench
  unfolding close_effect
  close_reached =
      cond_both (steps == STEPS_MOST) _ (tells (after_close bench) (steps + 1) (close_event name (link_in bench).era (link_close_refusal (link_in bench).era (link_in bench).era.inc)))
      (λ (effect : Effect). IsReachedBench effect.bench) (λ _. is) (λ _. closed bench is)

  opened_at : (why : Option ReopenFault) → link_reopen_refusal (link_in bench) ≡ why → IsReachedBench (opened_effect name bench steps why).bench
  opened_at None clear = reopened bench is clear
  opened_at (Some why) found = is

  reopen_reached : IsReachedBench (reopen_effect name bench steps).bench
  unfolding reopen_effect
  reopen_reached = opened_at (link_reopen_refusal (link_in bench)) refl

  managed : (wanted : ManagerAct) → IsReachedBench (manager_effect name bench steps wanted).bench
  managed manager.Close = close_reached
  managed manager.Reopen = reopen_reached

-- what is done under the name of a link
pub link_reached : (on : NamedLink) (steps : ℕ) (wanted : NamedAct (List ℕ)) → FitsNamed IsFitAct wanted → IsReachedBench on.bench → IsReachedBench (link_effect on steps wanted).bench
unfolding link_effect
link_reached on steps (under.Make made) fits is = is
link_reached on steps (under.Link asked) fits is = acted_reached nobody_sees 0 on.bench tt steps asked fits is
link_reached on steps (under.Manage asked) fits is = managed on.name on.bench steps is asked
link_reached on steps (under.Show shown) fits is = is
link_reached on steps (under.Core asked) fits is = is

-- ---- links and cores of runs

new_link_reached : (config : LinkConfig) (has_service : Bool) → IsReachedBench (new_bench_of config (new_end has_service) (new_end false))
new_link_reached config has_service =
    new_reached config (new_end has_service) (new_end false) (record { endpoints = refl; bindings = refl }) (record { endpoints = refl; bindings = refl })

all_sound : KeepRuns IsFitAct IsReachedBench IsSoundCore
all_sound = record {
  new_link = λ config has_service. new_link_reached config has_service;
  new_core = λ set book. record { reached = new_core_reached (regions_of set) [] book; kept = tt; ready = record { begun = tt; calls = λ _. tt } };
  link = λ on steps wanted fits is. link_reached on steps wanted fits is;
  core = sound_cores;
}

-- what the links and the cores of a run are
abbrev pub AreSound : ObjectsState → Type 0
AreSound objects = AreAll IsReachedBench IsSoundCore objects

pub none_sound : AreSound new_run.objects
none_sound = record { links = All-nil (λ (named : NamedLink). IsReachedBench named.bench); cores = All-nil (λ (named : NamedCoreState). IsSoundCore named.core) }

-- a command
pub command_sound : (answer : ImageAnswer) (run : RunState) (wanted : Command) → IsRunnable wanted → AreSound run.objects → AreSound (effect_of answer run wanted).run.objects
command_sound answer run wanted runs are = effect_keeps IsFitAct IsReachedBench IsSoundCore all_sound answer run wanted (line_fits wanted runs) are

-- a run
pub run_sound : (told : StoreAnswers) (commands : List Command) → AreRunnable commands → AreSound (run_of told commands).last.objects
run_sound told commands runs = runs_keep IsFitAct IsReachedBench IsSoundCore all_sound told commands (each_is line_fits commands runs)

-- the same, part by part
are_reached : (objects : ObjectsState) → AreSound objects → AreReached objects
are_reached objects are = record { links = are.links; cores = λ place item within. (are.cores place item within).reached }

are_ready : (objects : ObjectsState) → AreSound objects → AreReady objects
are_ready objects are = λ place item within. (are.cores place item within).ready

module _ (answer : ImageAnswer) (run : RunState) (wanted : Command) (runs : IsRunnable wanted) (reached : AreReached run.objects) (kept : AreKept run.objects) (ready : AreReady run.objects) where
  left : AreSound (effect_of answer run wanted).run.objects
  left =
      command_sound answer run wanted runs
      (record { links = reached.links; cores = λ place item within. record { reached = reached.cores place item within; kept = kept place item within; ready = ready place item within } })

  pub effect_reached : AreReached (effect_of answer run wanted).run.objects
  effect_reached = are_reached (effect_of answer run wanted).run.objects left

  pub effect_ready : AreReady (effect_of answer run wanted).run.objects
  effect_ready = are_ready (effect_of answer run wanted).run.objects left

pub runs_reached : (told : StoreAnswers) (commands : List Command) → AreRunnable commands → AreReached (run_of told commands).last.objects
runs_reached told commands runs = are_reached (run_of told commands).last.objects (run_sound told commands runs)

pub runs_ready : (told : StoreAnswers) (commands : List Command) → AreRunnable commands → AreReady (run_of told commands).last.objects
runs_ready told commands runs = are_ready (run_of told commands).last.objects (run_sound told commands runs)

-- ---- what links have handed over

in_order : (link : LinkState EndState) → IsReached link → HandsInOrder link
in_order link reached = record { reached = reached; once = handed_once link reached; front = λ end bound sender was. got_front link reached end bound was sender; whole = got_whole link reached }

core_in_order : (found : Option BenchState) → IfSome found IsReachedBench → IfSome found (λ (bench : BenchState). HandsInOrder (link_in bench))
core_in_order None is = is
core_in_order (Some bench) is = in_order (link_in bench) is.link

pub links_in_order : (told : StoreAnswers) (commands : List Command) (named : NamedLink) → AreRunnable commands → Contains (run_of told commands).last.objects.links named
    → HandsInOrder (link_in named.bench)
links_in_order told commands named runs there =
    in_order (link_in named.bench) (All-contains (λ (named : NamedLink). IsReachedBench named.bench) _ named (runs_reached told commands runs).links there).link

pub cores_in_order : (told : StoreAnswers) (commands : List Command) (named : NamedCoreState) → AreRunnable commands → Contains (run_of told commands).last.objects.cores named
    → IfSome named.core.bench (λ (bench : BenchState). HandsInOrder (link_in bench))
cores_in_order told commands named runs there =
    core_in_order named.core.bench (All-contains (λ (named : NamedCoreState). IsReachedCore named.core) _ named (runs_reached told commands runs).cores there).bench

pub links_sound : (told : StoreAnswers) (commands : List Command) (named : NamedLink) → AreRunnable commands → Contains (run_of told commands).last.objects.links named
    → SoundLink (link_in named.bench)
links_sound told commands named runs there =
    reached_sound (link_in named.bench) (All-contains (λ (named : NamedLink). IsReachedBench named.bench) _ named (runs_reached told commands runs).links there).link

core_sound : (found : Option BenchState) → IfSome found IsReachedBench → IfSome found (λ (bench : BenchState). SoundLink (link_in bench))
core_sound None is = is
core_sound (Some bench) is = reached_sound (link_in bench) is.link

pub cores_sound : (told : StoreAnswers) (commands : List Command) (named : NamedCoreState) → AreRunnable commands → Contains (run_of told commands).last.objects.cores named
    → IfSome named.core.bench (λ (bench : BenchState). SoundLink (link_in bench))
cores_sound told commands named runs there =
    core_sound named.core.bench (All-contains (λ (named : NamedCoreState). IsReachedCore named.core) _ named (runs_reached told commands runs).cores there).bench
