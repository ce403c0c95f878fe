-- A run keeps what is kept of its links and of its cores.
use Rattle.std.proofs.Common.{◌≡◌, ℕ, Bool, false, List, [], All, Some, slice_get, subst}
use Rattle.std.proofs.lemmas.List.Elements.{All-nil, All-push, All-set}
use Rattle.std.proofs.lemmas.Option.{get_or_from_slice_get, slice_get_within}
use Rattle.rp_io.specs.Images.{ImageAnswer}
use Rattle.lane_model.specs.declared.calls.LinkConfig.{LinkConfig}
use Rattle.script_lang.specs.declared.commands.Command.{Command}
use Rattle.script_lang.specs.declared.commands.RegionSet.{RegionSet}
use Rattle.script_lang.specs.declared.recipes.RecipeLine.{RecipeLine}
use Rattle.link_bench.specs.declared.acts.LinkAct.{LinkAct}
use Rattle.link_bench.specs.Benches.{BenchState, new_bench_of}
use Rattle.crash_recover.specs.Cores.{CoreState, new_core}
use Rattle.link_commands.specs.declared.acts.Line.{Line}
use Rattle.link_commands.specs.declared.acts.Line.TheVariants as line
use Rattle.link_commands.specs.declared.acts.NamedAct.{NamedAct}
use Rattle.link_commands.specs.Acts.{line_of}
use Rattle.link_commands.specs.LinkCommands.{link_effect}
use Rattle.command_run.specs.NamedCores.{NamedCoreState}
use Rattle.link_commands.specs.NamedLinks.{NamedLink}
use Rattle.command_run.specs.Runs.{ObjectsState, RunEffect, RunState, effect_of, new_end, new_run, regions_of, run_of}
use Rattle.command_run.specs.Stores.{StoreAnswers}
use Rattle.run_laws.proofs.CommandWalks.{ActsOnCore, ActsOnLink, CommandOutcome, MakesCore, MakesLink, outcome}
use Rattle.run_laws.proofs.CoreWalks.{FitsNamed, KeepCores, core_is_kept}
use Rattle.run_laws.proofs.RunInductions.{EachIs, any_answers, state_kept}

-- an item at a place
pub item_at : {X : Type 0} (P : X → Type 0) (items : List X) (place : ℕ) (item : X) → slice_get items place ≡ Some item → All P items → P item
item_at P items place item found all = subst P (get_or_from_slice_get items place item item found) (all place item (slice_get_within items place item found))

-- this holds of the links of a run, and that of its cores
pub record AreAll (L : BenchState → Type 0) (C : CoreState → Type 0) (objects : ObjectsState) : Type 0 where
  pub links : All (λ (named : NamedLink). L named.bench) objects.links
  pub cores : All (λ (named : NamedCoreState). C named.core) objects.cores

-- it holds of new links and cores, and what is done on them keeps it, where this is known of an act on a link
pub record KeepRuns (Fits : LinkAct (List ℕ) → Type 0) (L : BenchState → Type 0) (C : CoreState → Type 0) : Type 0 where
  pub new_link : (config : LinkConfig) (has_service : Bool) → L (new_bench_of config (new_end has_service) (new_end false))
  pub new_core : (set : RegionSet) (book : ℕ) → C (new_core (regions_of set) [] book)
  pub link : (on : NamedLink) (steps : ℕ) (wanted : NamedAct (List ℕ)) → FitsNamed Fits wanted → L on.bench → L (link_effect on steps wanted).bench
  pub core : KeepCores Fits C

-- this is known of the act of a line
abbrev pub FitsLine : (LinkAct (List ℕ) → Type 0) → Line (List RecipeLine) (List ℕ) → Type 0
FitsLine Fits (line.Image name lines) = Unit {0}
FitsLine Fits (line.Quiet set) = Unit {0}
FitsLine Fits (line.Dump name image) = Unit {0}
FitsLine Fits (line.On name wanted) = FitsNamed Fits wanted

module _ (Fits : LinkAct (List ℕ) → Type 0) (L : BenchState → Type 0) (C : CoreState → Type 0) (keep : KeepRuns Fits L C) where
  -- whatever the outcome of a command is
  module _ (answer : ImageAnswer) (run : RunState) (are : AreAll L C run.objects) where
    outcome_keeps : {done : Line (List RecipeLine) (List ℕ)} {effect : RunEffect} → CommandOutcome answer run done effect → FitsLine Fits done → AreAll L C effect.run.objects
    outcome_keeps (MakesLink name config has_service none) fits = record {
      links = All-push (λ (named : NamedLink). L named.bench) run.objects.links _ are.links (keep.new_link config has_service);
      cores = are.cores;
    }
    outcome_keeps (MakesCore name set book none) fits = record {
      links = are.links;
      cores = All-push (λ (named : NamedCoreState). C named.core) run.objects.cores _ are.cores (keep.new_core set book);
    }
    outcome_keeps (ActsOnLink name wanted place on at) fits = record {
      links = All-set (λ (named : NamedLink). L named.bench) run.objects.links place _
          (keep.link on run.steps wanted fits (item_at (λ (named : NamedLink). L named.bench) run.objects.links place on at.found are.links)) are.links;
      cores = are.cores;
    }
    outcome_keeps (ActsOnCore name wanted place on at) fits = record {
      links = are.links;
      cores = All-set (λ (named : NamedCoreState). C named.core) run.objects.cores place _
          (core_is_kept Fits C keep.core run.objects.images answer run.objects.is_quiet on run.steps wanted fits
          (item_at (λ (named : NamedCoreState). C named.core) run.objects.cores place on at.found are.cores)) are.cores;
    }
    outcome_keeps came fits = record { links = are.links; cores = are.cores }

  -- a command
  pub effect_keeps : (answer : ImageAnswer) (run : RunState) (wanted : Command) → FitsLine Fits (line_of wanted) → AreAll L C run.objects
      → AreAll L C (effect_of answer run wanted).run.objects
  effect_keeps answer run wanted fits are = outcome_keeps answer run are (outcome answer run wanted) fits

  -- a run from nothing
  pub runs_keep : (told : StoreAnswers) (commands : List Command) → EachIs (λ asked. FitsLine Fits (line_of asked)) commands → AreAll L C (run_of told commands).last.objects
  runs_keep told commands fit =
      state_kept (λ asked. FitsLine Fits (line_of asked)) (λ answer. Unit {0}) (λ run. AreAll L C run.objects) (λ answer run asked any. effect_keeps answer run asked) told new_run commands (any_answers told) fit
      (record { links = All-nil (λ (named : NamedLink). L named.bench); cores = All-nil (λ (named : NamedCoreState). C named.core) })
