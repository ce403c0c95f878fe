-- What commands leave of a closed link: until it is reopened nothing is handed over.
use Rattle.std.proofs.Common.{◌≡◌, ◌≢◌, ℕ, ◌+◌, ◌==◌, false, cond, List, [], Option, Some, refl, sym, ap, subst, ◌∙◌, slice_get, slice_set}
use Rattle.std.specs.Option.{IsSomeAnd, option_map}
use Rattle.std.proofs.lemmas.Bool.{cond_both, eqb-true}
use Rattle.rp_io.specs.Images.{ImageAnswer}
use Rattle.rp_base.specs.declared.limits.TheConstants.{STEPS_MOST}
use Rattle.lane_model.specs.Recoveries.{link_close_refusal}
use Rattle.channel_bus.specs.Sides.{side_meaning}
use Rattle.script_lang.specs.declared.commands.Command.{Command}
use Rattle.script_lang.specs.declared.recipes.RecipeLine.{RecipeLine}
use Rattle.script_lang.specs.Runnable.{IsRunnable}
use Rattle.link_bench.specs.Acts.{IsFitAct}
use Rattle.link_bench.specs.Benches.{BenchState, link_in}
use Rattle.link_bench.specs.BenchCrashes.{after_close}
use Rattle.link_bench.specs.Watchers.{nobody_sees}
use Rattle.core_laws.specs.BenchMoves.{IsReachedBench}
use Rattle.core_laws.specs.ClosedLinks.{StaysClosed}
use Rattle.core_laws.proofs.ClosedMoves.{closed_by}
use Rattle.act_laws.proofs.ActMoves.{act_closed}
use Rattle.core_laws.proofs.BenchMoves.{comes_close}
use Rattle.core_laws.proofs.LinkMoves.{comes_none}
use Rattle.link_commands.specs.declared.acts.Line.{Line}
use Rattle.link_commands.specs.declared.acts.Line.TheVariants as line
use Rattle.link_commands.specs.declared.acts.ManagerAct.TheVariants as manager
use Rattle.link_commands.specs.declared.acts.NamedAct.{NamedAct}
use Rattle.link_commands.specs.declared.acts.NamedAct.TheVariants as under
use Rattle.link_commands.specs.declared.stops.Stop.TheVariants as stop
use Rattle.link_commands.specs.Effects.{Effect, tells}
use Rattle.link_commands.specs.LinkCommands.{link_effect}
use Rattle.link_commands.specs.NamedLinks.{NamedLink}
use Rattle.link_commands.specs.Recoveries.{close_effect, close_event}
use Rattle.command_run.specs.Runs.{RunEffect, RunState, effect_of, place_of}
use Rattle.run_laws.specs.ClosedLinks.{LeavesClosed, ReopensOther, bench_at}
use Rattle.run_laws.proofs.CommandWalks.{ActsOnLink, CommandOutcome, MakesLink, outcome}
use Rattle.run_laws.proofs.CoreWalks.{FitsNamed}
use Rattle.run_laws.proofs.Items.{get_changed, get_front}
use Rattle.run_laws.proofs.RunWalks.{FitsLine}
use Rattle.run_laws.proofs.RunsReached.{line_fits}

module _ (run : RunState) (place : ℕ) (on : NamedLink) (found : slice_get run.objects.links place ≡ Some on) (reached : IsReachedBench on.bench) (shut : (link_in on.bench).era.is_live ≡ false) where
  -- a closed link of which nothing changes
  stays : StaysClosed (link_in on.bench) (link_in on.bench)
  stays = closed_by (link_in on.bench) (link_in on.bench) (comes_none side_meaning (link_in on.bench)) shut

  -- the link at the place is this one
  by_links : (links : List NamedLink) (now : NamedLink) → slice_get links place ≡ Some now → StaysClosed (link_in on.bench) (link_in now.bench)
      → IsSomeAnd (option_map (λ (named : NamedLink). named.bench) (slice_get links place)) (λ (after : BenchState). StaysClosed (link_in on.bench) (link_in after))
  by_links links now there closed =
      subst (λ (item : Option NamedLink). IsSomeAnd (option_map (λ (named : NamedLink). named.bench) item) (λ (after : BenchState). StaysClosed (link_in on.bench) (link_in after))) (sym there) closed

  unchanged : IsSomeAnd (bench_at run place) (λ (after : BenchState). StaysClosed (link_in on.bench) (link_in after))
  unchanged = by_links run.objects.links on found stays

  -- ---- the link itself

  closed_again : StaysClosed (link_in on.bench) (link_in (close_effect on.name on.bench run.steps).bench)
  unfolding close_effect
  closed_again =
      cond_both (run.steps == STEPS_MOST) (record { bench = on.bench; steps = run.steps; events = []; ending = Some stop.StepLimit })
      (tells (after_close on.bench) (run.steps + 1) (close_event on.name (link_in on.bench).era (link_close_refusal (link_in on.bench).era (link_in on.bench).era.inc)))
      (λ (effect : Effect). StaysClosed (link_in on.bench) (link_in effect.bench)) (λ _. stays)
      (λ _. closed_by (link_in on.bench) (link_in (after_close on.bench)) (comes_close on.bench) shut)

  on_itself : (wanted : NamedAct (List ℕ)) → FitsNamed IsFitAct wanted → wanted ≢ under.Manage manager.Reopen → StaysClosed (link_in on.bench) (link_in (link_effect on run.steps wanted).bench)
  unfolding link_effect
  on_itself (under.Make made) fits other = stays
  on_itself (under.Link asked) fits other = act_closed nobody_sees 0 on.bench tt run.steps asked fits reached shut
  on_itself (under.Manage manager.Close) fits other = closed_again
  on_itself (under.Manage manager.Reopen) fits other = absurd (other refl)
  on_itself (under.Show shown) fits other = stays
  on_itself (under.Core asked) fits other = stays

  -- ---- commands

  -- whatever the outcome of a command is that reopens no link but another one
  outcome_closed : {answer : ImageAnswer} {done : Line (List RecipeLine) (List ℕ)} {effect : RunEffect} → CommandOutcome answer run done effect → FitsLine IsFitAct done
      → ((name : List ℕ) → done ≡ line.On name (under.Manage manager.Reopen) → place_of run.objects.links name ≢ Some place) → LeavesClosed on.bench effect.run place
  outcome_closed (MakesLink name config has_service none) fits other = by_links _ on (get_front run.objects.links _ place on found) stays
  outcome_closed (ActsOnLink name wanted at link is) fits other =
      let now : NamedLink → NamedLink = λ link. record link { bench = (link_effect link run.steps wanted).bench } in
      by_links (slice_set run.objects.links at (now link)) (cond (at == place) (now on) on) (get_changed now run.objects.links at place link on is.found found)
      (cond_both (at == place) (now on) on (λ (after : NamedLink). StaysClosed (link_in on.bench) (link_in after.bench))
      (λ same. on_itself wanted fits (λ reopens. other name (ap (line.On name) reopens) (is.placed ∙ ap Some (eqb-true at place same)))) (λ _. stays))
  outcome_closed came fits other = unchanged

  pub stays_closed : (answer : ImageAnswer) (asked : Command) → IsRunnable asked → ReopensOther run place asked → LeavesClosed on.bench (effect_of answer run asked).run place
  stays_closed answer asked runs other = outcome_closed (outcome answer run asked) (line_fits asked runs) other
