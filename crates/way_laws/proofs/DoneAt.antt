-- What a line under a name does at the places of a run's links and cores, by what has the name.
use Rattle.std.proofs.Common.{◌≡◌, ℕ, ◌&&◌, cond, List, Option, Some, None, is_none, option_and_then, slice_get, refl, ap, ◌∙◌}
use Rattle.std.proofs.lemmas.Bool.{eq-eqb}
use Rattle.link_commands.specs.declared.acts.Line.TheVariants as line
use Rattle.link_commands.specs.declared.acts.NamedAct.{NamedAct}
use Rattle.link_commands.specs.NamedLinks.{NamedLink}
use Rattle.command_run.specs.NamedCores.{NamedCoreState}
use Rattle.command_run.specs.Runs.{RunState, core_place, place_of}
use Rattle.run_laws.specs.Reopenings.{IsLinkAt}
use Rattle.run_laws.specs.Starts.{IsCoreAt}
use Rattle.way_laws.specs.CoreAccounts.{core_act_at}
use Rattle.way_laws.specs.RunAccounts.{link_act_at, is_place}

module _ (run : RunState) (place : ℕ) (name : List ℕ) (wanted : NamedAct (List ℕ)) where
  -- on a link, by the place of the name
  pub done_by_place : (at : Option ℕ) → place_of run.objects.links name ≡ at → link_act_at run place (line.On name wanted) ≡ cond (is_place at place) (Some wanted) None
  done_by_place at placed = ap (λ (p : Option ℕ). cond (is_place p place) (Some wanted) None) placed

  pub done_on_it : (on : NamedLink) → IsLinkAt run name place on → link_act_at run place (line.On name wanted) ≡ Some wanted
  done_on_it on at = done_by_place (Some place) at.placed ∙ ap (λ test. cond test (Some wanted) None) (eq-eqb place place refl)

  -- on a core nothing, where a link has the name, and else by the place of the name
  pub none_on_cores : (at : ℕ) (on : NamedLink) → IsLinkAt run name at on → core_act_at run place (line.On name wanted) ≡ None
  none_on_cores at on there =
      ap (λ (p : Option ℕ). cond (is_none (option_and_then (slice_get run.objects.links) p) && is_place (core_place run.objects.cores name) place) (Some wanted) None) there.placed
      ∙ ap (λ (found : Option NamedLink). cond (is_none found && is_place (core_place run.objects.cores name) place) (Some wanted) None) there.found

  pub core_done_by_place : (at : Option ℕ) → place_of run.objects.links name ≡ None → core_place run.objects.cores name ≡ at → core_act_at run place (line.On name wanted) ≡ cond (is_place at place) (Some wanted) None
  core_done_by_place at linkless placed =
      ap (λ (p : Option ℕ). cond (is_none (option_and_then (slice_get run.objects.links) p) && is_place (core_place run.objects.cores name) place) (Some wanted) None) linkless
      ∙ ap (λ (p : Option ℕ). cond (is_place p place) (Some wanted) None) placed

  pub core_done_on_it : (on : NamedCoreState) → IsCoreAt run name place on → core_act_at run place (line.On name wanted) ≡ Some wanted
  core_done_on_it on at = core_done_by_place (Some place) at.unlinked at.placed ∙ ap (λ test. cond test (Some wanted) None) (eq-eqb place place refl)
