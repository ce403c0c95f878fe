-- The account of the link of each core of a run tells its tale.
use Rattle.std.proofs.Common.{◌≡◌, ℕ, ◌&&◌, List, Option, Some, None, IfSome, slice_get, refl, sym, subst}
use Rattle.std.specs.Option.{IsSomeAnd}
use Rattle.std.proofs.lemmas.Bool.{cond_both}
use Rattle.rp_io.specs.Images.{ImageAnswer}
use Rattle.rp_base.specs.declared.kinds.End.{End}
use Rattle.rp_base.specs.declared.kinds.End.TheVariants as side
use Rattle.script_lang.specs.declared.commands.Command.{Command}
use Rattle.script_lang.specs.declared.recipes.RecipeLine.{RecipeLine}
use Rattle.script_lang.specs.Runnable.{AreRunnable}
use Rattle.link_bench.specs.Acts.{IsFitAct}
use Rattle.link_bench.specs.Benches.{BenchState, link_in}
use Rattle.link_commands.specs.declared.acts.Line.{Line}
use Rattle.link_commands.specs.declared.acts.Line.TheVariants as line
use Rattle.link_commands.specs.declared.acts.Making.TheVariants as making
use Rattle.link_commands.specs.declared.acts.NamedAct.{NamedAct}
use Rattle.link_commands.specs.declared.acts.NamedAct.TheVariants as under
use Rattle.link_commands.specs.Acts.{line_of}
use Rattle.command_run.specs.CoreCommands.{core_effect}
use Rattle.command_run.specs.NamedCores.{NamedCoreState}
use Rattle.command_run.specs.Runs.{RunEffect, RunState, core_place, run_of}
use Rattle.command_run.specs.Stores.{StoreAnswers}
use Rattle.run_laws.proofs.CommandWalks.{ActsOnCore, ActsOnLink, CommandOutcome, HasNoRoom, IsNameless, MakesCore, MakesLink, NamesNothing, made_core, outcome}
use Rattle.run_laws.proofs.CoreWalks.{FitsNamed}
use Rattle.run_laws.proofs.CoresReady.{IsSoundCore}
use Rattle.run_laws.proofs.RunWalks.{FitsLine, item_at}
use Rattle.run_laws.proofs.RunsReached.{line_fits}
use Rattle.act_laws.specs.Accounts.{Account, IsAccount}
use Rattle.way_laws.specs.WordedTakes.{ComesFromOpening}
use Rattle.way_laws.specs.CoreAccounts.{core_account_behind, core_account_of, core_accounting, core_act_at, is_unlinked, next_core_account}
use Rattle.way_laws.specs.RunAccounts.{is_place}
use Rattle.way_laws.proofs.CoreTales.{TaleIf, come_if, core_tale, told_if}
use Rattle.way_laws.proofs.DoneAt.{core_done_by_place, none_on_cores}
use Rattle.way_laws.proofs.PlaceOutcomes.{AreLevel, Changes, Grows, PlaceOutcome, Stays, item_behind, level_after, run_level}

-- ---- what is done on a core

pub done_fits : (run : RunState) (place : ℕ) (done : Line (List RecipeLine) (List ℕ)) → FitsLine IsFitAct done → IfSome (core_act_at run place done) (FitsNamed IsFitAct)
done_fits run place (line.On name wanted) fits =
    cond_both (is_unlinked run name && is_place (core_place run.objects.cores name) place) (Some wanted) None (λ (found : Option (NamedAct (List ℕ))). IfSome found (FitsNamed IsFitAct)) (λ _. fits) (λ _. tt)
done_fits run place other fits = tt

-- a core behind what is done under its name
abbrev core_behind : ImageAnswer → RunState → NamedCoreState → NamedAct (List ℕ) → NamedCoreState
core_behind answer run on wanted = record on { core = (core_effect run.objects.images answer run.objects.is_quiet on run.steps wanted).core }

-- a core has a link, and that an account, which tells its tale; or it has neither
abbrev Tells : End → NamedCoreState → Option Account → Type 0
Tells end on account = TaleIf end on.core.bench account

-- a new core has no link
abbrev HasNone : NamedCoreState → Type 0
HasNone made = made.core.bench ≡ None

-- ---- one command

module _ (place : ℕ) (answer : ImageAnswer) (run : RunState) where
  -- under a name that nothing has nothing is done
  none_under : (name : List ℕ) (wanted : NamedAct (List ℕ)) → IsNameless run name → core_act_at run place (line.On name wanted) ≡ None
  none_under name wanted none = core_done_by_place run place name wanted None none.linkless none.coreless

  -- whatever the outcome of a command is
  at_place : {done : Line (List RecipeLine) (List ℕ)} {effect : RunEffect} → CommandOutcome answer run done effect
      → PlaceOutcome (core_behind answer run) HasNone run.objects.cores place (core_act_at run place done) effect.run.objects.cores
  at_place (NamesNothing name wanted none) = Stays (none_under name wanted none)
  at_place (HasNoRoom name made none) = Stays (none_under name (under.Make made) none)
  at_place (MakesLink name config has_service none) = Stays (none_under name (under.Make (making.Link config has_service)) none)
  at_place (ActsOnLink name wanted at link is) = Stays (none_on_cores run place name wanted at link is)
  at_place (MakesCore name set book none) = Grows (made_core name set book) refl (none_under name (under.Make (making.Core set book)) none)
  at_place (ActsOnCore name wanted at core is) = Changes at core wanted is.found (core_done_by_place run place name wanted (Some at) is.unlinked is.placed)
  at_place came = Stays refl

tale_behind : (end : End) (answer : ImageAnswer) (run : RunState) (on : NamedCoreState) (acted : Option (NamedAct (List ℕ))) (account : Option Account) → IfSome acted (FitsNamed IsFitAct) → IsSoundCore on.core
    → Tells end on account → Tells end (item_behind (core_behind answer run) on acted) (core_account_behind end run.objects.images answer on run.steps acted account)
tale_behind end answer run on None account fits sound tale = tale
tale_behind end answer run on (Some wanted) account fits sound tale = core_tale end run.objects.images answer on run.steps account tale run.objects.is_quiet wanted fits sound

new_level : (end : End) (found : Option NamedCoreState) → IfSome found HasNone → AreLevel (Tells end) found None
new_level end None none = refl
new_level end (Some made) none = subst (λ (bench : Option BenchState). TaleIf end bench None) (sym none) tt

-- ---- runs

run_tales : (end : End) (place : ℕ) (told : StoreAnswers) (commands : List Command) → AreRunnable commands
    → AreLevel (Tells end) (slice_get (run_of told commands).last.objects.cores place) (core_account_of end place told commands)
run_tales end place =
    run_level (λ run. run.objects.cores) (Tells end) place (core_accounting end place)
    (λ answer run asked account may sound.
    level_after (at_place place answer run (outcome answer run asked)) (Tells end) account (λ found. next_core_account end place answer run (line_of asked) found account)
    (λ on found. tale_behind end answer run on (core_act_at run place (line_of asked)) account (done_fits run place (line_of asked) (line_fits asked may))
    (item_at (λ (named : NamedCoreState). IsSoundCore named.core) run.objects.cores place on found sound.cores))
    (new_level end _))
    refl

tale : (end : End) (told : StoreAnswers) (commands : List Command) (place : ℕ) (on : NamedCoreState) → AreRunnable commands → slice_get (run_of told commands).last.objects.cores place ≡ Some on
    → TaleIf end on.core.bench (core_account_of end place told commands)
tale end told commands place on runs found =
    subst (λ (there : Option NamedCoreState). AreLevel (Tells end) there (core_account_of end place told commands)) found (run_tales end place told commands runs)

pub cores_are_told : (end : End) (told : StoreAnswers) (commands : List Command) (place : ℕ) (on : NamedCoreState) → AreRunnable commands → slice_get (run_of told commands).last.objects.cores place ≡ Some on
    → IfSome on.core.bench (λ (bench : BenchState). IsSomeAnd (core_account_of end place told commands) (IsAccount end (link_in bench)))
cores_are_told end told commands place on runs found = told_if end on.core.bench (core_account_of end place told commands) (tale end told commands place on runs found)

-- the link of a core comes by the way of its account
pub cores_come : (told : StoreAnswers) (commands : List Command) (place : ℕ) (on : NamedCoreState) → AreRunnable commands → slice_get (run_of told commands).last.objects.cores place ≡ Some on
    → IfSome on.core.bench (λ (bench : BenchState). ComesFromOpening (link_in bench))
cores_come told commands place on runs found = come_if side.Host on.core.bench (core_account_of side.Host place told commands) (tale side.Host told commands place on runs found)
