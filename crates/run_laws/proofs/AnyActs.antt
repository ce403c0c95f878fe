-- A run keeps of its cores what each of their changes keeps, whatever is asked of links.
use Rattle.std.proofs.Common.{ℕ, List, [], ◌∷◌, All}
use Rattle.rp_io.specs.Images.{ImageAnswer}
use Rattle.script_lang.specs.declared.commands.Command.{Command}
use Rattle.script_lang.specs.declared.commands.RegionSet.{RegionSet}
use Rattle.script_lang.specs.declared.recipes.RecipeLine.{RecipeLine}
use Rattle.link_bench.specs.declared.acts.LinkAct.{LinkAct}
use Rattle.link_bench.specs.Benches.{BenchState}
use Rattle.crash_recover.specs.Cores.{CoreState, new_core}
use Rattle.link_commands.specs.declared.acts.Line.{Line}
use Rattle.link_commands.specs.declared.acts.Line.TheVariants as line
use Rattle.link_commands.specs.declared.acts.NamedAct.{NamedAct}
use Rattle.link_commands.specs.declared.acts.NamedAct.TheVariants as under
use Rattle.link_commands.specs.Acts.{line_of}
use Rattle.command_run.specs.NamedCores.{NamedCoreState}
use Rattle.command_run.specs.Runs.{ObjectsState, RunState, effect_of, regions_of, run_of}
use Rattle.command_run.specs.Stores.{StoreAnswers}
use Rattle.run_laws.proofs.CoreWalks.{FitsNamed, KeepCores}
use Rattle.run_laws.proofs.RunInductions.{EachIs}
use Rattle.run_laws.proofs.RunWalks.{FitsLine, KeepRuns, effect_keeps, runs_keep}

-- nothing is asked of acts, nor of links
abbrev pub AnyAct : LinkAct (List ℕ) → Type 0
AnyAct asked = Unit {0}

abbrev AnyBench : BenchState → Type 0
AnyBench bench = Unit {0}

any_named : (wanted : NamedAct (List ℕ)) → FitsNamed AnyAct wanted
any_named (under.Make made) = tt
any_named (under.Link asked) = tt
any_named (under.Manage managed) = tt
any_named (under.Show shown) = tt
any_named (under.Core asked) = tt

any_line : (wanted : Line (List RecipeLine) (List ℕ)) → FitsLine AnyAct wanted
any_line (line.Image name lines) = tt
any_line (line.Quiet set) = tt
any_line (line.Dump name image) = tt
any_line (line.On name wanted) = any_named wanted

any_lines : (commands : List Command) → EachIs (λ asked. FitsLine AnyAct (line_of asked)) commands
any_lines [] = tt
any_lines (first ∷ more) = (any_line (line_of first), any_lines more)

-- this holds of new cores, and their changes keep it
module _ (C : CoreState → Type 0) (new : (set : RegionSet) (book : ℕ) → C (new_core (regions_of set) [] book)) (keep : KeepCores AnyAct C) where
  abbrev pub AreCores : ObjectsState → Type 0
  AreCores objects = All (λ (named : NamedCoreState). C named.core) objects.cores

  all_kept : KeepRuns AnyAct AnyBench C
  all_kept = record {
    new_link = λ config has_service. tt;
    new_core = new;
    link = λ on steps wanted fits is. tt;
    core = keep;
  }

  -- a command
  pub effect_keeps_cores : (answer : ImageAnswer) (run : RunState) (wanted : Command) → AreCores run.objects → AreCores (effect_of answer run wanted).run.objects
  effect_keeps_cores answer run wanted are =
      (effect_keeps AnyAct AnyBench C all_kept answer run wanted (any_line (line_of wanted)) (record { links = λ place item within. tt; cores = are })).cores

  -- a run
  pub runs_keep_cores : (told : StoreAnswers) (commands : List Command) → AreCores (run_of told commands).last.objects
  runs_keep_cores told commands = (runs_keep AnyAct AnyBench C all_kept told commands (any_lines commands)).cores
