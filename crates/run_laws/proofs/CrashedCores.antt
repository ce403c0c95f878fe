-- What commands leave of a crashed core: until it is recovered nothing is handed over.
use Rattle.std.proofs.Common.{◌≡◌, ◌≢◌, ℕ, ◌==◌, Bool, false, cond, List, Option, Some, None, IfSome, refl, sym, ap, subst, ◌∙◌, slice_get, slice_set}
use Rattle.std.specs.Option.{IsSomeAnd, option_map}
use Rattle.std.proofs.lemmas.Bool.{cond_both, eqb-true}
use Rattle.rp_io.specs.Images.{ImageAnswer}
use Rattle.rp_base.specs.declared.kinds.LifeState.{LifeState}
use Rattle.rp_base.specs.declared.kinds.LifeState.TheVariants.{Crashed}
use Rattle.crash_recover.specs.CoreActs.{act_on_core}
use Rattle.proc_state.specs.declared.answers.LifeFault.TheVariants as life_fault
use Rattle.proc_state.specs.declared.answers.Power.{Power}
use Rattle.proc_state.specs.Lives.{Outcome, boot_to, crash_as, handover_to, is_up, leave_to, line_of, most, refusal_of, with_user}
use Rattle.script_lang.specs.declared.commands.Command.{Command}
use Rattle.script_lang.specs.declared.recipes.RecipeLine.{RecipeLine}
use Rattle.script_lang.specs.Runnable.{IsRunnable}
use Rattle.link_bench.specs.declared.acts.LinkAct.{LinkAct}
use Rattle.link_bench.specs.Acts.{IsFitAct}
use Rattle.link_bench.specs.Benches.{BenchState, link_in}
use Rattle.crash_recover.specs.Cores.{CoreState}
use Rattle.crash_recover.specs.CoreBoots.{boot_as, boot_of, handover_as, handover_of}
use Rattle.crash_recover.specs.CoreCrashes.{report_as, report_of}
use Rattle.crash_recover.specs.CoreLeaves.{detach_of, detached_core, leave_as, shutdown_of, unloaded_core}
use Rattle.core_actors.specs.ActorEnds.{actors_after_end}
use Rattle.core_laws.specs.BenchMoves.{IsReachedBench, IsReachedCore}
use Rattle.core_laws.proofs.ClosedMoves.{closed_by}
use Rattle.act_laws.proofs.ActMoves.{act_closed}
use Rattle.core_laws.proofs.LinkMoves.{comes_none}
use Rattle.channel_bus.specs.Sides.{side_meaning}
use Rattle.journal.specs.declared.events.Event.TheVariants as event
use Rattle.link_commands.specs.declared.acts.CoreAct.TheVariants as act
use Rattle.link_commands.specs.declared.acts.Line.{Line}
use Rattle.link_commands.specs.declared.acts.Line.TheVariants as line
use Rattle.link_commands.specs.declared.acts.NamedAct.{NamedAct}
use Rattle.link_commands.specs.declared.acts.NamedAct.TheVariants as under
use Rattle.link_commands.specs.declared.acts.StartAct.TheVariants as starts
use Rattle.command_run.specs.CoreCommands.{core_effect}
use Rattle.command_run.specs.CoreDrives.{drive_effect, drive_steps}
use Rattle.command_run.specs.CoreEffects.{CoreEffect, core_tells}
use Rattle.command_run.specs.CoreLinks.{core_link_effect}
use Rattle.command_run.specs.CoreLives.{found_image, may_step}
use Rattle.command_run.specs.NamedCores.{NamedCoreState}
use Rattle.command_run.specs.NamedImages.{ImageState}
use Rattle.command_run.specs.Runs.{RunEffect, RunState, core_place, effect_of}
use Rattle.run_laws.specs.CrashedCores.{LinkStaysClosed, RecoversOther, StaysCrashed}
use Rattle.run_laws.specs.Starts.{core_at}
use Rattle.run_laws.proofs.CommandWalks.{ActsOnCore, CommandOutcome, MakesCore, outcome}
use Rattle.run_laws.proofs.CoreActWalks.{ActOutcome, AddsDriver, AddsRegion, Crashes, Detaches, Drives, LinkActs, ShutsDown, Starts, Switches, act_outcome}
use Rattle.run_laws.proofs.CoreWalks.{FitsNamed}
use Rattle.run_laws.proofs.Items.{get_changed, get_front}
use Rattle.run_laws.proofs.RunWalks.{FitsLine}
use Rattle.run_laws.proofs.RunsReached.{line_fits}

-- a link that is closed
abbrev Shut : BenchState → Type 0
Shut bench = (link_in bench).era.is_live ≡ false

as_it_was : (found : Option BenchState) → IfSome found Shut → LinkStaysClosed found found
as_it_was None shut = refl
as_it_was (Some bench) shut = closed_by (link_in bench) (link_in bench) (comes_none side_meaning (link_in bench)) shut

module _ (core : CoreState) (crashed : core.life.state ≡ Crashed) (reached : IsReachedCore core) (shut : IfSome core.bench Shut) where
  -- a core whose link is the same, and whose state too
  stays : (after : CoreState) → after.life.state ≡ Crashed → after.bench ≡ core.bench → StaysCrashed core after
  stays after there same = record { crashed = there; link = subst (LinkStaysClosed core.bench) (sym same) (as_it_was core.bench shut) }

  unchanged : StaysCrashed core core
  unchanged = stays core crashed refl

  -- ---- lives

  counted : (name : List ℕ) (found : ImageAnswer) → StaysCrashed core (boot_as (with_user core.life).life (with_user core.life).answer core name found).core
  counted name found =
      cond_both (core.life.users == most) (refusal_of life_fault.UsersFull core.life) _
      (λ (outcome : Outcome Power). StaysCrashed core (boot_as outcome.life outcome.answer core name found).core) (λ _. unchanged) (λ _. stays _ crashed refl)

  booted : (name : List ℕ) (found : ImageAnswer) → StaysCrashed core (boot_of core name found).core
  unfolding boot_of
  booted name found =
      subst (λ (state : LifeState). StaysCrashed core (boot_as (boot_to (line_of state).boot core.life).life (boot_to (line_of state).boot core.life).answer core name found).core)
      (sym crashed) (counted name found)

  handed_over : (name : List ℕ) (found : ImageAnswer) → StaysCrashed core (handover_of core name found).core
  unfolding handover_of
  handed_over name found =
      subst (λ (state : LifeState). StaysCrashed core (handover_as (handover_to (line_of state).handover core.life).life (handover_to (line_of state).handover core.life).answer core name found).core)
      (sym crashed) unchanged

  shut_down : (may : Bool) → StaysCrashed core (shutdown_of may core).core
  unfolding shutdown_of
  shut_down may =
      subst (λ (state : LifeState). let after = leave_to life_fault.NotPowered (line_of state).shutdown core.life in
      StaysCrashed core (leave_as may core (unloaded_core after.life core) after.life after.answer).core)
      (sym crashed) unchanged

  detached : (may : Bool) → StaysCrashed core (detach_of may core).core
  unfolding detach_of
  detached may =
      subst (λ (state : LifeState). let after = leave_to life_fault.NotAttached (line_of state).detach core.life in
      StaysCrashed core (leave_as may core (detached_core after.life core) after.life after.answer).core)
      (sym crashed) unchanged

  reported : (may : Bool) → StaysCrashed core (report_of may core).core
  unfolding report_of
  reported may =
      subst (λ (state : LifeState). StaysCrashed core (report_as may (crash_as (line_of state).crash core.life).life (crash_as (line_of state).crash core.life).answer core).core)
      (sym crashed) unchanged

  undriven : (name : List ℕ) (is_quiet : Bool) (steps count : ℕ) → StaysCrashed core (drive_effect name is_quiet core steps count).core
  unfolding drive_effect
  undriven name is_quiet steps count =
      subst (λ (up : Bool). StaysCrashed core (cond up (drive_steps count name is_quiet core steps) (core_tells core steps (event.NotRunning name))).core)
      (sym (ap is_up crashed)) unchanged

  -- ---- the link

  acted : (name : List ℕ) (steps : ℕ) (asked : LinkAct (List ℕ)) (found : Option BenchState) → core.bench ≡ found → IsFitAct asked → StaysCrashed core (core_link_effect name core steps asked found).core
  unfolding core_link_effect
  acted name steps asked None is fits = unchanged
  acted name steps asked (Some bench) is fits = record {
    crashed = crashed;
    link = subst (λ (found : Option BenchState). LinkStaysClosed found (Some (act_on_core core bench steps asked).bench)) (sym is)
        (act_closed actors_after_end 2 bench core.actors steps asked fits (subst (λ (found : Option BenchState). IfSome found IsReachedBench) is reached.bench)
        (subst (λ (found : Option BenchState). IfSome found Shut) is shut));
  }

-- ---- what is done under the name

module _ (images : List ImageState) (answer : ImageAnswer) (is_quiet : Bool) (on : NamedCoreState) (steps : ℕ) (crashed : on.core.life.state ≡ Crashed) (reached : IsReachedCore on.core) (shut : IfSome on.core.bench Shut) where
  -- whatever the outcome of an act is that is no recovery
  outcome_crashed : {wanted : NamedAct (List ℕ)} {effect : CoreEffect} → ActOutcome images answer is_quiet on steps wanted effect → FitsNamed IsFitAct wanted → wanted ≢ under.Core (act.Start starts.Recover) → StaysCrashed on.core effect.core
  outcome_crashed (LinkActs asked) fits other = acted on.core crashed reached shut on.name steps asked on.core.bench refl fits
  outcome_crashed (AddsRegion region clear) fits other = stays on.core crashed reached shut _ crashed refl
  outcome_crashed (AddsDriver channel kind) fits other = stays on.core crashed reached shut _ crashed refl
  outcome_crashed (Starts (starts.Boot image)) fits other = booted on.core crashed reached shut image (found_image images answer image)
  outcome_crashed (Starts (starts.Handover image)) fits other = handed_over on.core crashed reached shut image (found_image images answer image)
  outcome_crashed (Starts starts.Recover) fits other = absurd (other refl)
  outcome_crashed ShutsDown fits other = shut_down on.core crashed reached shut (may_step steps)
  outcome_crashed Detaches fits other = detached on.core crashed reached shut (may_step steps)
  outcome_crashed (Crashes kind) fits other = reported on.core crashed reached shut (may_step steps)
  outcome_crashed (Drives count) fits other = undriven on.core crashed reached shut on.name is_quiet steps count
  outcome_crashed (Switches set) fits other = stays on.core crashed reached shut _ crashed refl
  outcome_crashed came fits other = unchanged on.core crashed reached shut

-- ---- commands

module _ (answer : ImageAnswer) (run : RunState) (place : ℕ) (on : NamedCoreState) (found : slice_get run.objects.cores place ≡ Some on)
    (reached : IsReachedCore on.core) (crashed : on.core.life.state ≡ Crashed) (shut : IfSome on.core.bench Shut) where
  -- a core at the place stays so, if it is this one
  by_cores : (cores : List NamedCoreState) (now : NamedCoreState) → slice_get cores place ≡ Some now → StaysCrashed on.core now.core
      → IsSomeAnd (option_map (λ (named : NamedCoreState). named.core) (slice_get cores place)) (StaysCrashed on.core)
  by_cores cores now there is = subst (λ (item : Option NamedCoreState). IsSomeAnd (option_map (λ (named : NamedCoreState). named.core) item) (StaysCrashed on.core)) (sym there) is

  -- whatever the outcome of a command is that recovers no core but another one
  outcome_stays : {done : Line (List RecipeLine) (List ℕ)} {effect : RunEffect} → CommandOutcome answer run done effect → FitsLine IsFitAct done
      → ((name : List ℕ) → done ≡ line.On name (under.Core (act.Start starts.Recover)) → core_place run.objects.cores name ≢ Some place) → IsSomeAnd (core_at effect.run place) (StaysCrashed on.core)
  outcome_stays (MakesCore name set book none) fits other = by_cores _ on (get_front run.objects.cores _ place on found) (unchanged on.core crashed reached shut)
  outcome_stays (ActsOnCore name wanted at core is) fits other =
      let now : NamedCoreState → NamedCoreState = λ named. record named { core = (core_effect run.objects.images answer run.objects.is_quiet named run.steps wanted).core } in
      by_cores (slice_set run.objects.cores at (now core)) (cond (at == place) (now on) on) (get_changed now run.objects.cores at place core on is.found found)
      (cond_both (at == place) (now on) on (λ (after : NamedCoreState). StaysCrashed on.core after.core)
      (λ same. outcome_crashed run.objects.images answer run.objects.is_quiet on run.steps crashed reached shut (act_outcome run.objects.images answer run.objects.is_quiet on run.steps wanted) fits
      (λ recovers. other name (ap (line.On name) recovers) (is.placed ∙ ap Some (eqb-true at place same)))) (λ _. unchanged on.core crashed reached shut))
  outcome_stays came fits other = by_cores run.objects.cores on found (unchanged on.core crashed reached shut)

  pub stays_crashed : (asked : Command) → IsRunnable asked → RecoversOther run place asked → IsSomeAnd (core_at (effect_of answer run asked).run place) (StaysCrashed on.core)
  stays_crashed asked runs other = outcome_stays (outcome answer run asked) (line_fits asked runs) other
