-- What reopenings of links of a run leave of them, and starts of its cores.
use Rattle.std.proofs.Common.{◌≡◌, ◌+◌, ℕ, true, List, Option, Some, None, Ok, slice_get, refl, sym, ap, subst, ◌∙◌}
use Rattle.std.specs.Option.{IsSomeAnd}
use Rattle.std.specs.Str.{bytes_eq}
use Rattle.std.proofs.lemmas.List.Quantifiers.{position-Some}
use Rattle.std.proofs.lemmas.Option.{get_or_from_slice_get}
use Rattle.std.proofs.lemmas.Slice.Eq.{bytes_eq-Decides}
use Rattle.rp_io.specs.Images.{ImageAnswer}
use Rattle.lane_model.specs.declared.recoveries.ReopenFault.{ReopenFault}
use Rattle.lane_model.specs.Recoveries.{link_reopen_refusal}
use Rattle.script_lang.specs.declared.commands.Command.TheVariants as command
use Rattle.link_bench.specs.Benches.{BenchState, link_in}
use Rattle.crash_recover.specs.declared.core_answers.Start.{Start}
use Rattle.crash_recover.specs.Cores.{CoreState, IsKeptCore}
use Rattle.crash_recover.specs.CoreBoots.{boot_of}
use Rattle.crash_recover.specs.CoreRecoveries.{recovery_of}
use Rattle.core_laws.specs.Beginnings.{BeginsLife, ReopensNext, begins_life}
use Rattle.core_laws.proofs.Beginnings.{boot_begins, recovery_begins, recovery_reopens, reopened_empty}
use Rattle.link_commands.specs.declared.acts.ManagerAct.TheVariants as manager
use Rattle.link_commands.specs.declared.acts.NamedAct.TheVariants as under
use Rattle.link_commands.specs.LinkCommands.{link_effect}
use Rattle.link_commands.specs.NamedLinks.{NamedLink}
use Rattle.link_commands.specs.Recoveries.{opened_effect, reopen_effect}
use Rattle.command_run.specs.CoreLives.{booted_image, found_image}
use Rattle.command_run.specs.NamedCores.{NamedCoreState}
use Rattle.command_run.specs.Runs.{RunEffect, RunState, effect_of}
use Rattle.run_laws.specs.Kept.{AreKept}
use Rattle.run_laws.specs.Reopenings.{IsLeftByReopen, IsLinkAt, IsReopened}
use Rattle.run_laws.specs.Starts.{IsCoreAt, core_at}
use Rattle.run_laws.proofs.CommandWalks.{link_acts}
use Rattle.run_laws.proofs.Items.{set_there}
use Rattle.run_laws.proofs.RunWalks.{item_at}
use Rattle.run_laws.proofs.StartsInRuns.{boot_leaves, recovery_leaves}

-- ---- links

-- the link at the place of a name has that name
named_so : (run : RunState) (name : List ℕ) (place : ℕ) (on : NamedLink) → IsLinkAt run name place on → on.name ≡ name
named_so run name place on at =
    let test = λ (named : NamedLink). bytes_eq named.name name in
    (bytes_eq-Decides on.name name).0
    (subst (λ (named : NamedLink). test named ≡ true) (get_or_from_slice_get run.objects.links place on on at.found) (position-Some test run.objects.links place on at.placed).1)

reopened_by : (name : List ℕ) (bench : BenchState) (steps : ℕ) (why : Option ReopenFault) → IsReopened why bench (opened_effect name bench steps why).bench
reopened_by name bench steps None = reopened_empty bench
reopened_by name bench steps (Some why) = refl

reopen_leaves : (on : NamedLink) (steps : ℕ) → IsReopened (link_reopen_refusal (link_in on.bench)) on.bench (link_effect on steps (under.Manage manager.Reopen)).bench
unfolding link_effect reopen_effect
reopen_leaves on steps = reopened_by on.name on.bench steps (link_reopen_refusal (link_in on.bench))

pub reopens_in_run : (answer : ImageAnswer) (run : RunState) (name : List ℕ) (place : ℕ) (on : NamedLink) → IsLinkAt run name place on
    → IsSomeAnd (slice_get (effect_of answer run (command.Reopen name)).run.objects.links place) (IsLeftByReopen name on.bench)
unfolding effect_of
reopens_in_run answer run name place on at =
    let wanted = under.Manage manager.Reopen in
    subst (λ (found : Option NamedLink). IsSomeAnd found (IsLeftByReopen name on.bench))
    (sym (ap (λ (left : RunEffect). slice_get left.run.objects.links place) (link_acts answer run name wanted place on at)
    ∙ set_there run.objects.links place (record on { bench = (link_effect on run.steps wanted).bench }) on at.found))
    (record { name = named_so run name place on at; bench = reopen_leaves on run.steps })

-- ---- cores

module _ (answer : ImageAnswer) (run : RunState) (name : List ℕ) (place : ℕ) (on : NamedCoreState) (at : IsCoreAt run name place on) where
  pub boot_begins_in_run : (image : List ℕ) (did : Start) → begins_life did ≡ true → (boot_of on.core image (found_image run.objects.images answer image)).answer ≡ Ok did
      → IsSomeAnd (core_at (effect_of answer run (command.Boot name image)).run place) (BeginsLife (on.core.life.incarnation + 1))
  boot_begins_in_run image did begins is =
      subst (λ (found : Option CoreState). IsSomeAnd found (BeginsLife (on.core.life.incarnation + 1))) (sym (boot_leaves answer run name place on at image))
      (boot_begins on.core image (found_image run.objects.images answer image) did begins is)

  pub recovery_begins_in_run : AreKept run.objects → (did : Start) → begins_life did ≡ true → (recovery_of on.core (found_image run.objects.images answer (booted_image on.name on.core))).answer ≡ Ok did
      → IsSomeAnd (core_at (effect_of answer run (command.Recover name)).run place) (BeginsLife (on.core.life.incarnation + 1))
  recovery_begins_in_run are did begins is =
      subst (λ (found : Option CoreState). IsSomeAnd found (BeginsLife (on.core.life.incarnation + 1))) (sym (recovery_leaves answer run name place on at))
      (recovery_begins on.core (found_image run.objects.images answer (booted_image on.name on.core))
      (item_at (λ (named : NamedCoreState). IsKeptCore named.core) run.objects.cores place on at.found are) did begins is)

  pub recovery_reopens_in_run : (did : Start) → begins_life did ≡ true → (recovery_of on.core (found_image run.objects.images answer (booted_image on.name on.core))).answer ≡ Ok did
      → IsSomeAnd (core_at (effect_of answer run (command.Recover name)).run place) (λ (left : CoreState). ReopensNext on.core.bench left.bench)
  recovery_reopens_in_run did begins is =
      subst (λ (found : Option CoreState). IsSomeAnd found (λ (left : CoreState). ReopensNext on.core.bench left.bench)) (sym (recovery_leaves answer run name place on at))
      (recovery_reopens on.core (found_image run.objects.images answer (booted_image on.name on.core)) did begins is)
