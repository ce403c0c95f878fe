-- The account of each link of a run tells its tale.
use Rattle.std.proofs.Common.{◌≡◌, ℕ, List, Option, Some, None, IfSome, slice_get, refl, subst}
use Rattle.std.specs.Option.{IsSomeAnd, option_map}
use Rattle.std.proofs.lemmas.Bool.{cond_both}
use Rattle.rp_io.specs.Images.{ImageAnswer}
use Rattle.rp_base.specs.declared.kinds.End.{End}
use Rattle.rp_base.specs.declared.kinds.End.TheVariants as side
use Rattle.lane_laws.specs.SoundRingLinks.{HasSoundRings}
use Rattle.script_lang.specs.declared.commands.Command.{Command}
use Rattle.script_lang.specs.declared.recipes.RecipeLine.{RecipeLine}
use Rattle.script_lang.specs.Runnable.{AreRunnable}
use Rattle.link_bench.specs.Acts.{IsFitAct}
use Rattle.link_bench.specs.Benches.{BenchState, link_in}
use Rattle.core_laws.specs.BenchMoves.{IsReachedBench}
use Rattle.link_commands.specs.declared.acts.Line.{Line}
use Rattle.link_commands.specs.declared.acts.Line.TheVariants as line
use Rattle.link_commands.specs.declared.acts.Making.TheVariants as making
use Rattle.link_commands.specs.declared.acts.NamedAct.{NamedAct}
use Rattle.link_commands.specs.declared.acts.NamedAct.TheVariants as under
use Rattle.link_commands.specs.Acts.{line_of}
use Rattle.link_commands.specs.LinkCommands.{link_effect}
use Rattle.link_commands.specs.NamedLinks.{NamedLink}
use Rattle.command_run.specs.Runs.{RunEffect, RunState, effect_of, place_of, run_of}
use Rattle.command_run.specs.Stores.{StoreAnswers}
use Rattle.run_laws.proofs.CommandWalks.{ActsOnCore, ActsOnLink, CommandOutcome, HasNoRoom, MakesCore, MakesLink, NamesNothing, made_link, outcome}
use Rattle.run_laws.proofs.CoreWalks.{FitsNamed}
use Rattle.run_laws.proofs.RunnableLines.{IsRunnableLine, runnable_line}
use Rattle.run_laws.proofs.RunWalks.{FitsLine, item_at}
use Rattle.run_laws.proofs.RunsReached.{line_fits}
use Rattle.act_laws.specs.Accounts.{Account, IsAccount, new_account}
use Rattle.way_laws.specs.WordedTakes.{ComesFromOpening}
use Rattle.way_laws.specs.RunAccounts.{account_behind, account_of, accounting, link_act_at, is_place, next_account}
use Rattle.way_laws.proofs.CoreTales.{TaleIf, come_if, told_if}
use Rattle.way_laws.proofs.DoneAt.{done_by_place}
use Rattle.way_laws.proofs.LinkTales.{link_tale, made_tale}
use Rattle.way_laws.proofs.PlaceOutcomes.{AreLevel, Changes, Grows, PlaceOutcome, Stays, item_behind, level_after, run_level}
use Rattle.act_laws.proofs.Tales.{IsSoundTale}

-- ---- what is done on a link

pub done_fits : (run : RunState) (place : ℕ) (done : Line (List RecipeLine) (List ℕ)) → FitsLine IsFitAct done → IfSome (link_act_at run place done) (FitsNamed IsFitAct)
done_fits run place (line.On name wanted) fits =
    cond_both (is_place (place_of run.objects.links name) place) (Some wanted) None (λ (found : Option (NamedAct (List ℕ))). IfSome found (FitsNamed IsFitAct)) (λ _. fits) (λ _. tt)
done_fits run place other fits = tt

-- a link behind what is done under its name
abbrev link_behind : ℕ → NamedLink → NamedAct (List ℕ) → NamedLink
link_behind steps on wanted = record on { bench = (link_effect on steps wanted).bench }

-- a link has an account, which tells its tale
abbrev Tells : End → NamedLink → Option Account → Type 0
Tells end on account = IsSomeAnd account (IsSoundTale end on.bench)

-- the tale of a new link begins
abbrev Begins : End → NamedLink → Type 0
Begins end made = IsSoundTale end made.bench (new_account (link_in made.bench))

-- ---- one command

module _ (end : End) (place : ℕ) (answer : ImageAnswer) (run : RunState) where
  -- nothing is done at the place of a link under a name that no link has
  none_under : (name : List ℕ) (wanted : NamedAct (List ℕ)) → place_of run.objects.links name ≡ None → link_act_at run place (line.On name wanted) ≡ None
  none_under name wanted linkless = done_by_place run place name wanted None linkless

  -- whatever the outcome of a command is
  at_place : {done : Line (List RecipeLine) (List ℕ)} {effect : RunEffect} → CommandOutcome answer run done effect → IsRunnableLine done
      → PlaceOutcome (link_behind run.steps) (Begins end) run.objects.links place (link_act_at run place done) effect.run.objects.links
  at_place (NamesNothing name wanted none) fit = Stays (none_under name wanted none.linkless)
  at_place (HasNoRoom name made none) fit = Stays (none_under name (under.Make made) none.linkless)
  at_place (MakesCore name set book none) fit = Stays (none_under name (under.Make (making.Core set book)) none.linkless)
  at_place (ActsOnCore name wanted at core is) fit = Stays (none_under name wanted is.unlinked)
  at_place (MakesLink name config has_service none) fit =
      Grows (made_link name config has_service) (made_tale end config has_service fit.0.0 fit.0.1 fit.0.2) (none_under name (under.Make (making.Link config has_service)) none.linkless)
  at_place (ActsOnLink name wanted at link is) fit = Changes at link wanted is.found (done_by_place run place name wanted (Some at) is.placed)
  at_place came fit = Stays refl

tale_behind : (end : End) (on : NamedLink) (steps : ℕ) (acted : Option (NamedAct (List ℕ))) (account : Option Account) → IfSome acted (FitsNamed IsFitAct) → IsReachedBench on.bench → Tells end on account
    → Tells end (item_behind (link_behind steps) on acted) (option_map (account_behind end on.bench steps acted) account)
tale_behind end on steps acted None fits reached tells = absurd tells
tale_behind end on steps None (Some account) fits reached tells = tells
tale_behind end on steps (Some wanted) (Some account) fits reached tells = link_tale end on steps wanted account fits reached tells

new_level : (end : End) (found : Option NamedLink) → IfSome found (Begins end) → AreLevel (Tells end) found (option_map (λ (made : NamedLink). new_account (link_in made.bench)) found)
new_level end None begins = refl
new_level end (Some made) begins = begins

-- ---- runs

run_tales : (end : End) (place : ℕ) (told : StoreAnswers) (commands : List Command) → AreRunnable commands
    → AreLevel (Tells end) (slice_get (run_of told commands).last.objects.links place) (account_of end place told commands)
run_tales end place =
    run_level (λ run. run.objects.links) (Tells end) place (accounting end place)
    (λ answer run asked account may sound.
    let after = (effect_of answer run asked).run in
    level_after (at_place end place answer run (outcome answer run asked) (runnable_line asked may)) (Tells end) account (λ found. next_account end place run (line_of asked) after found account)
    (λ on found. tale_behind end on run.steps (link_act_at run place (line_of asked)) account (done_fits run place (line_of asked) (line_fits asked may))
    (item_at (λ (named : NamedLink). IsReachedBench named.bench) run.objects.links place on found sound.links))
    (new_level end (slice_get after.objects.links place)))
    refl

tale_of : (end : End) (bench : BenchState) (account : Option Account) → IsSomeAnd account (IsSoundTale end bench) → TaleIf end (Some bench) account × HasSoundRings bench.rings
tale_of end bench None is = absurd is
tale_of end bench (Some account) is = (is.tale, is.sound)

module _ (told : StoreAnswers) (commands : List Command) (place : ℕ) (on : NamedLink) (runs : AreRunnable commands) (found : slice_get (run_of told commands).last.objects.links place ≡ Some on) where
  tale : (end : End) → TaleIf end (Some on.bench) (account_of end place told commands) × HasSoundRings on.bench.rings
  tale end =
      tale_of end on.bench (account_of end place told commands)
      (subst (λ (there : Option NamedLink). AreLevel (Tells end) there (account_of end place told commands)) found (run_tales end place told commands runs))

  pub links_sound : HasSoundRings on.bench.rings
  links_sound = (tale side.Host).1

  -- the link comes by the way of its account
  pub links_come : ComesFromOpening (link_in on.bench)
  links_come = come_if side.Host (Some on.bench) (account_of side.Host place told commands) (tale side.Host).0

pub links_are_told : (end : End) (told : StoreAnswers) (commands : List Command) (place : ℕ) (on : NamedLink) → AreRunnable commands → slice_get (run_of told commands).last.objects.links place ≡ Some on
    → IsSomeAnd (account_of end place told commands) (IsAccount end (link_in on.bench))
links_are_told end told commands place on runs found = told_if end (Some on.bench) (account_of end place told commands) (tale told commands place on runs found end).0
