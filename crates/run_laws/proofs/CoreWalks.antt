-- What is done under the name of a core keeps what each change of a core keeps.
use Rattle.std.proofs.Common.{◌≡◌, inl, ℕ, Bool, true, List, [], ◌∷◌, ◌++◌, None, refl, sym, subst}
use Rattle.rp_io.specs.Images.{ImageAnswer}
use Rattle.rp_base.specs.declared.kinds.DriverKind.{DriverKind}
use Rattle.memory_pool.specs.declared.regions.Region.{Region}
use Rattle.proc_state.specs.Lives.{is_up}
use Rattle.link_bench.specs.declared.acts.LinkAct.{LinkAct}
use Rattle.crash_recover.specs.CoreActs.{core_act}
use Rattle.crash_recover.specs.Cores.{CoreState, add_fault, with_driver}
use Rattle.crash_recover.specs.Drives.{drive_step}
use Rattle.core_laws.proofs.Outcomes.{Stays, boot_stays, detach_stays, handover_stays, recovery_stays, report_stays, shutdown_stays}
use Rattle.link_commands.specs.declared.acts.NamedAct.{NamedAct}
use Rattle.link_commands.specs.declared.acts.NamedAct.TheVariants as under
use Rattle.link_commands.specs.declared.acts.StartAct.{StartAct}
use Rattle.link_commands.specs.declared.acts.StartAct.TheVariants as starts
use Rattle.command_run.specs.CoreCommands.{core_effect, is_on}
use Rattle.command_run.specs.CoreEffects.{CoreEffect}
use Rattle.command_run.specs.CoreLives.{booted_image, found_image, may_step, start_name, start_with}
use Rattle.command_run.specs.NamedCores.{NamedCoreState}
use Rattle.command_run.specs.NamedImages.{ImageState}
use Rattle.run_laws.proofs.CoreActWalks.{ActOutcome, AddsDriver, AddsRegion, Crashes, Detaches, Drives, LinkActs, ShutsDown, Starts, Switches, act_outcome, link_effect_core}
use Rattle.run_laws.proofs.ScriptDrives.{drive_keeps}

-- each change of a core keeps this of it, an act of which this may be known too
pub record KeepCores (Fits : LinkAct (List ℕ) → Type 0) (C : CoreState → Type 0) : Type 0 where
  pub region : (core : CoreState) (region : Region) → add_fault core region ≡ None → C core → C (record core { regions = core.regions ++ region ∷ [] })
  pub driver : (core : CoreState) (channel : List ℕ) (kind : DriverKind) → C core → C (with_driver core (channel, kind))
  pub lives : Stays C
  pub drive : (core : CoreState) → is_up core.life.state ≡ true → C core → C (drive_step core).core
  pub act : (core : CoreState) (steps : ℕ) (asked : LinkAct (List ℕ)) → Fits asked → C core → C (core_act core steps asked).core

-- this is known of the act on a link, if there is one
abbrev pub FitsNamed : (LinkAct (List ℕ) → Type 0) → NamedAct (List ℕ) → Type 0
FitsNamed Fits (under.Make made) = Unit {0}
FitsNamed Fits (under.Link asked) = Fits asked
FitsNamed Fits (under.Manage managed) = Unit {0}
FitsNamed Fits (under.Show shown) = Unit {0}
FitsNamed Fits (under.Core asked) = Unit {0}

module _ (Fits : LinkAct (List ℕ) → Type 0) (C : CoreState → Type 0) (keep : KeepCores Fits C) where
  -- whatever the outcome of an act is
  module _ (images : List ImageState) (answer : ImageAnswer) (is_quiet : Bool) (on : NamedCoreState) (steps : ℕ) (is : C on.core) where
    start_kept : (start : StartAct) → C (start_with start on.core (found_image images answer (start_name start on))).core
    start_kept (starts.Boot image) = boot_stays C keep.lives on.core image (found_image images answer image) is
    start_kept (starts.Handover image) = handover_stays C keep.lives on.core image (found_image images answer image) is
    start_kept starts.Recover = recovery_stays C keep.lives on.core (found_image images answer (booted_image on.name on.core)) is

    outcome_kept : {wanted : NamedAct (List ℕ)} {effect : CoreEffect} → ActOutcome images answer is_quiet on steps wanted effect → FitsNamed Fits wanted → C effect.core
    outcome_kept (LinkActs asked) fits = subst C (sym (link_effect_core on.name on.core steps asked on.core.bench)) (keep.act on.core steps asked fits is)
    outcome_kept (AddsRegion region clear) fits = keep.region on.core region clear is
    outcome_kept (AddsDriver channel kind) fits = keep.driver on.core channel kind is
    outcome_kept (Starts start) fits = start_kept start
    outcome_kept ShutsDown fits = shutdown_stays C keep.lives (may_step steps) on.core is
    outcome_kept Detaches fits = detach_stays C keep.lives (may_step steps) on.core is
    outcome_kept (Crashes kind) fits = report_stays C keep.lives (may_step steps) on.core is
    outcome_kept (Drives count) fits = drive_keeps on.name is_quiet C keep.drive on.core steps count is
    outcome_kept (Switches set) fits = keep.lives.same on.core (record on.core.life { recovery = is_on set }) on.core.image on.core.loaded (record { inc = refl; up = refl }) (inl refl) is
    outcome_kept came fits = is

  pub core_is_kept : (images : List ImageState) (answer : ImageAnswer) (is_quiet : Bool) (on : NamedCoreState) (steps : ℕ) (wanted : NamedAct (List ℕ)) → FitsNamed Fits wanted → C on.core
      → C (core_effect images answer is_quiet on steps wanted).core
  core_is_kept images answer is_quiet on steps wanted fits is = outcome_kept images answer is_quiet on steps is (act_outcome images answer is_quiet on steps wanted) fits
