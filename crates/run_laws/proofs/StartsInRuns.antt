-- Boots and handovers of a core of a run.
use Rattle.std.proofs.Common.{◌≡◌, ◌≢◌, ◌↔◌, ℕ, List, Option, Some, sym, ap, ◌∙◌}
use Rattle.std.specs.Option.{option_map}
use Rattle.rp_io.specs.Images.{ImageAnswer}
use Rattle.rp_base.specs.declared.kinds.LifeState.{LifeState}
use Rattle.rp_base.specs.declared.kinds.LifeState.TheVariants.{Offline, Running, Attached, Detached}
use Rattle.proc_state.specs.Lives.{most}
use Rattle.script_lang.specs.declared.commands.Command.TheVariants as command
use Rattle.link_commands.specs.declared.acts.CoreAct.{CoreAct}
use Rattle.link_commands.specs.declared.acts.CoreAct.TheVariants as core
use Rattle.link_commands.specs.declared.acts.StartAct.TheVariants as starts
use Rattle.link_commands.specs.declared.acts.NamedAct.TheVariants as under
use Rattle.command_run.specs.NamedCores.{NamedCoreState}
use Rattle.command_run.specs.CoreCommands.{core_act_effect, core_effect}
use Rattle.command_run.specs.CoreEffects.{CoreEffect}
use Rattle.command_run.specs.CoreLives.{booted_image, crash_effect, detach_effect, found_image, may_step, shutdown_effect, started_effect}
use Rattle.command_run.specs.Runs.{RunEffect, RunState, effect_of, name_effect, core_effect_at}
use Rattle.rp_base.specs.declared.kinds.CrashKind.{CrashKind}
use Rattle.crash_recover.specs.CoreBoots.{boot_of, handover_of}
use Rattle.crash_recover.specs.CoreCrashes.{report_of}
use Rattle.crash_recover.specs.CoreLeaves.{detach_of, shutdown_of}
use Rattle.crash_recover.specs.CoreRecoveries.{recovery_of}
use Rattle.core_laws.specs.FoundImages.{FindsLoadable}
use Rattle.core_laws.proofs.Starts.{attaches_where, boots_where, hands_over_where}
use Rattle.run_laws.specs.Starts.{IsCoreAt, core_at, state_at}
use Rattle.run_laws.proofs.CommandWalks.{core_acts}
use Rattle.run_laws.proofs.Items.{set_there, some_is}

-- a core's act, by what it leaves of the core
act_at : (answer : ImageAnswer) (run : RunState) (name : List ℕ) (place : ℕ) (on : NamedCoreState) (act : CoreAct) → IsCoreAt run name place on
    → name_effect answer run name (under.Core act)
    ≡ core_effect_at run place on (core_act_effect run.objects.images answer run.objects.is_quiet on run.steps act)
unfolding core_effect
act_at answer run name place on act at = core_acts answer run name (under.Core act) place on at

-- the state of the core behind it
state_behind : (run : RunState) (name : List ℕ) (place : ℕ) (on : NamedCoreState) (effect : CoreEffect) → IsCoreAt run name place on
    → state_at (core_effect_at run place on effect).run place ≡ Some effect.core.life.state
state_behind run name place on effect at =
    ap (option_map (λ (on : NamedCoreState). on.core.life.state)) (set_there run.objects.cores place (record on { core = effect.core }) on at.found)

comes_to : {P : Type 0} (now : Option LifeState) (state to : LifeState) → now ≡ Some state → (state ≡ to) ↔ P → (now ≡ Some to) ↔ P
comes_to now state to is both = (λ there. both.0 (some_is state to (sym is ∙ there)), λ p. is ∙ ap Some (both.1 p))

pub boots_in_run : (answer : ImageAnswer) (run : RunState) (name image : List ℕ) (place : ℕ) (on : NamedCoreState) → IsCoreAt run name place on → on.core.life.state ≡ Offline
    → on.core.life.incarnation ≢ most
    → (state_at (effect_of answer run (command.Boot name image)).run place ≡ Some Running) ↔ FindsLoadable on.core (found_image run.objects.images answer image)
unfolding effect_of core_act_effect started_effect
boots_in_run answer run name image place on at offline few =
    comes_to _ _ Running
    (ap (λ (effect : RunEffect). state_at effect.run place) (act_at answer run name place on (core.Start (starts.Boot image)) at)
    ∙ state_behind run name place on (core_act_effect run.objects.images answer run.objects.is_quiet on run.steps (core.Start (starts.Boot image))) at)
    (boots_where on.core image (found_image run.objects.images answer image) offline few)

pub attaches_in_run : (answer : ImageAnswer) (run : RunState) (name image : List ℕ) (place : ℕ) (on : NamedCoreState) → IsCoreAt run name place on → on.core.life.state ≡ Detached
    → (state_at (effect_of answer run (command.Boot name image)).run place ≡ Some Attached) ↔ (on.core.life.incarnation ≢ most)
unfolding effect_of core_act_effect started_effect
attaches_in_run answer run name image place on at detached =
    comes_to _ _ Attached
    (ap (λ (effect : RunEffect). state_at effect.run place) (act_at answer run name place on (core.Start (starts.Boot image)) at)
    ∙ state_behind run name place on (core_act_effect run.objects.images answer run.objects.is_quiet on run.steps (core.Start (starts.Boot image))) at)
    (attaches_where on.core image (found_image run.objects.images answer image) detached)

pub hands_over_in_run : (answer : ImageAnswer) (run : RunState) (name image : List ℕ) (place : ℕ) (on : NamedCoreState) → IsCoreAt run name place on → on.core.life.state ≡ Offline
    → (state_at (effect_of answer run (command.Handover name image)).run place ≡ Some Detached) ↔ FindsLoadable on.core (found_image run.objects.images answer image)
unfolding effect_of core_act_effect started_effect
hands_over_in_run answer run name image place on at offline =
    comes_to _ _ Detached
    (ap (λ (effect : RunEffect). state_at effect.run place) (act_at answer run name place on (core.Start (starts.Handover image)) at)
    ∙ state_behind run name place on (core_act_effect run.objects.images answer run.objects.is_quiet on run.steps (core.Start (starts.Handover image))) at)
    (hands_over_where on.core image (found_image run.objects.images answer image) offline)

-- ---- the core behind each call

pub core_behind : (run : RunState) (name : List ℕ) (place : ℕ) (on : NamedCoreState) (effect : CoreEffect) → IsCoreAt run name place on
    → core_at (core_effect_at run place on effect).run place ≡ Some effect.core
core_behind run name place on effect at =
    ap (option_map (λ (on : NamedCoreState). on.core)) (set_there run.objects.cores place (record on { core = effect.core }) on at.found)

-- the core that an act leaves
pub core_left : (answer : ImageAnswer) (run : RunState) (name : List ℕ) (place : ℕ) (on : NamedCoreState) (act : CoreAct) → IsCoreAt run name place on
    → core_at (name_effect answer run name (under.Core act)).run place
    ≡ Some (core_act_effect run.objects.images answer run.objects.is_quiet on run.steps act).core
core_left answer run name place on act at =
    ap (λ (effect : RunEffect). core_at effect.run place) (act_at answer run name place on act at)
    ∙ core_behind run name place on (core_act_effect run.objects.images answer run.objects.is_quiet on run.steps act) at

module _ (answer : ImageAnswer) (run : RunState) (name : List ℕ) (place : ℕ) (on : NamedCoreState) (at : IsCoreAt run name place on) where
  pub boot_leaves : (image : List ℕ) → core_at (effect_of answer run (command.Boot name image)).run place ≡ Some (boot_of on.core image (found_image run.objects.images answer image)).core
  unfolding effect_of core_act_effect started_effect
  boot_leaves image = core_left answer run name place on (core.Start (starts.Boot image)) at

  pub handover_leaves : (image : List ℕ) → core_at (effect_of answer run (command.Handover name image)).run place ≡ Some (handover_of on.core image (found_image run.objects.images answer image)).core
  unfolding effect_of core_act_effect started_effect
  handover_leaves image = core_left answer run name place on (core.Start (starts.Handover image)) at

  pub recovery_leaves : core_at (effect_of answer run (command.Recover name)).run place ≡ Some (recovery_of on.core (found_image run.objects.images answer (booted_image on.name on.core))).core
  unfolding effect_of core_act_effect started_effect
  recovery_leaves = core_left answer run name place on (core.Start starts.Recover) at

  pub shutdown_leaves : core_at (effect_of answer run (command.Shutdown name)).run place ≡ Some (shutdown_of (may_step run.steps) on.core).core
  unfolding effect_of core_act_effect shutdown_effect
  shutdown_leaves = core_left answer run name place on core.Shutdown at

  pub detach_leaves : core_at (effect_of answer run (command.Detach name)).run place ≡ Some (detach_of (may_step run.steps) on.core).core
  unfolding effect_of core_act_effect detach_effect
  detach_leaves = core_left answer run name place on core.Detach at

  pub crash_leaves : (kind : CrashKind) → core_at (effect_of answer run (command.Crash name kind)).run place ≡ Some (report_of (may_step run.steps) on.core).core
  unfolding effect_of core_act_effect crash_effect
  crash_leaves kind = core_left answer run name place on (core.Crash kind) at
