-- What stays of a core over its calls, whatever they answer: one walk over the outcomes for each property that a core keeps.
use Rattle.std.proofs.Common.{◌≡◌, ◌⊎◌, inl, inr, ℕ, Bool, true, List, Option, Some, None, is_some, refl, ap}
use Rattle.std.specs.Option.{option_map, option_or}
use Rattle.std.proofs.lemmas.Bool.{true≢false}
use Rattle.rp_io.specs.Images.{ImageAnswer}
use Rattle.rp_base.specs.declared.kinds.LifeState.{LifeState}
use Rattle.proc_state.specs.declared.answers.LifeFault.{LifeFault}
use Rattle.proc_state.specs.declared.answers.LifeFault.TheVariants as life_fault
use Rattle.proc_state.specs.Lives.{CoreLife, is_up, leave_to, life_after_boot, life_after_crash, life_after_detach, life_after_handover, life_after_shutdown, line_of, recovery_fault}
use Rattle.crash_recover.specs.declared.core_answers.Crash.{Crash}
use Rattle.crash_recover.specs.declared.core_answers.Leave.{Leave}
use Rattle.crash_recover.specs.declared.core_answers.Start.{Start}
use Rattle.crash_recover.specs.declared.core_faults.LeaveFault.{LeaveFault}
use Rattle.crash_recover.specs.declared.core_faults.StartFault.{StartFault}
use Rattle.crash_recover.specs.Cores.{CoreOutcome, CoreState, LoadState}
use Rattle.crash_recover.specs.CoreBoots.{boot_of, handover_of, image_fault, load_in, started_core}
use Rattle.crash_recover.specs.CoreCrashes.{crashed_core, report_of}
use Rattle.crash_recover.specs.CoreLeaves.{detach_of, shutdown_of}
use Rattle.crash_recover.specs.CoreRecoveries.{after_recovery, core_to_reopen, recovery_of, reopen_fault}
use Rattle.crash_recover.proofs.SameLives.{IsSame, IsStopped, boot_same, crash_stops, handover_same, leave_same, starts_up}
use Rattle.core_laws.proofs.CallOutcomes.{Attaches, BootOutcome, Empties, GoesDown, HandoverOutcome, HandsOver, LeaveOutcome, NoReopening, OneFewer, OneMore, RecoveryOutcome, ReportOutcome, Restarts, Runs, boot_outcome, detach_outcome, handover_outcome, recovery_outcome, report_outcome, shutdown_outcome}

-- a refusal that is named otherwise is there just where it was
pub none_mapped : {A B : Type 0} (f : A → B) (found : Option A) → option_map f found ≡ None → found ≡ None
none_mapped f None none = refl
none_mapped f (Some why) none = absurd (true≢false (ap is_some none))

pub first_none : {X : Type 0} (first later : Option X) → option_or first later ≡ None → first ≡ None
first_none None later none = refl
first_none (Some why) later none = absurd (true≢false (ap is_some none))

-- what a core has loaded behind a call: what it had, nothing, or what it loads of an image that nothing refuses
abbrev pub IsLoadOf : CoreState → Option LoadState → Type 0
IsLoadOf core loaded = (loaded ≡ core.loaded) ⊎ ((loaded ≡ None) ⊎ ((found : ImageAnswer) × ((image_fault core found ≡ None) × (loaded ≡ Some (load_in core found)))))

-- what of a core stays over each thing that its calls do to it
pub record Stays (P : CoreState → Type 0) : Type 0 where
  pub same : (core : CoreState) (life : CoreLife) (image : Option (List ℕ)) (loaded : Option LoadState) → IsSame core.life life → IsLoadOf core loaded → P core
      → P (record core { life = life; image = image; loaded = loaded })
  pub started : (core : CoreState) (life : CoreLife) (image : Option (List ℕ)) (loaded : Option LoadState) → is_up life.state ≡ true → IsLoadOf core loaded → P core
      → P (started_core life (record core { image = image; loaded = loaded }))
  pub unlinked : (core : CoreState) (life : CoreLife) (image : Option (List ℕ)) (loaded : Option LoadState) → IsLoadOf core loaded → P core
      → P (record core { life = life; image = image; loaded = loaded; bench = None })
  pub crashed : (core : CoreState) (life : CoreLife) → IsStopped core.life life → P core → P (crashed_core life core)
  pub readied : (core : CoreState) → recovery_fault core.life ≡ None → P core → P (core_to_reopen core)
  pub recovered : (core : CoreState) (found : ImageAnswer) → image_fault core found ≡ None → recovery_fault core.life ≡ None → reopen_fault core ≡ None → P core
      → P (after_recovery core (load_in core found))

module _ (P : CoreState → Type 0) where
  report_kept : {may_step : Bool} (core : CoreState) {out : CoreOutcome Crash LifeFault} → ReportOutcome may_step core out → P core → ((life : CoreLife) → IsStopped core.life life → P (crashed_core life core)) → P out.core
  report_kept core (GoesDown first closed was) is left = left (life_after_crash core.life).life (crash_stops (line_of core.life.state).crash core.life first)
  report_kept core came is left = is

  -- a crash report, which leaves a core as it is or crashed
  pub report_left : (may_step : Bool) (core : CoreState) → P core → ((life : CoreLife) → IsStopped core.life life → P (crashed_core life core)) → P (report_of may_step core).core
  report_left may_step core is left = report_kept core (report_outcome may_step core) is left

  module _ (stays : Stays P) where
    boot_kept : (core : CoreState) (name : List ℕ) (found : ImageAnswer) {out : CoreOutcome Start StartFault} → BootOutcome core name found out → P core → P out.core
    boot_kept core name found (OneMore users answer) is =
        stays.same core (life_after_boot core.life).life core.image core.loaded (boot_same (line_of core.life.state).boot core.life users answer) (inl refl) is
    boot_kept core name found (Runs first off clear) is =
        stays.started core (life_after_boot core.life).life (Some name) (Some (load_in core found)) (starts_up core.life first) (inr (inr (found, (clear, refl)))) is
    boot_kept core name found (Attaches first on) is = stays.started core (life_after_boot core.life).life core.image core.loaded (starts_up core.life first) (inl refl) is
    boot_kept core name found came is = is

    pub boot_stays : (core : CoreState) (name : List ℕ) (found : ImageAnswer) → P core → P (boot_of core name found).core
    boot_stays core name found is = boot_kept core name found (boot_outcome core name found) is

    handover_kept : (core : CoreState) (name : List ℕ) (found : ImageAnswer) {out : CoreOutcome Start StartFault} → HandoverOutcome core name found out → P core → P out.core
    handover_kept core name found (HandsOver done answer clear) is =
        stays.same core (life_after_handover core.life).life (Some name) (Some (load_in core found)) (handover_same core.life.state core.life done refl answer) (inr (inr (found, (clear, refl)))) is
    handover_kept core name found came is = is

    pub handover_stays : (core : CoreState) (name : List ℕ) (found : ImageAnswer) → P core → P (handover_of core name found).core
    handover_stays core name found is = handover_kept core name found (handover_outcome core name found) is

    leave_kept : {may_step : Bool} (core gone : CoreState) (why : LifeFault) (to : Option LifeState) {out : CoreOutcome Leave LeaveFault} → LeaveOutcome may_step core gone (leave_to why to core.life) out → P core → P gone → P out.core
    leave_kept core gone why to (OneFewer users answer) is left = stays.same core (leave_to why to core.life).life core.image core.loaded (leave_same why to core.life users answer) (inl refl) is
    leave_kept core gone why to (Empties last live was) is left = left
    leave_kept core gone why to came is left = is

    pub shutdown_stays : (may_step : Bool) (core : CoreState) → P core → P (shutdown_of may_step core).core
    shutdown_stays may_step core is =
        leave_kept core _ life_fault.NotPowered (line_of core.life.state).shutdown (shutdown_outcome may_step core) is (stays.unlinked core (life_after_shutdown core.life).life None None (inr (inl refl)) is)

    pub detach_stays : (may_step : Bool) (core : CoreState) → P core → P (detach_of may_step core).core
    detach_stays may_step core is =
        leave_kept core _ life_fault.NotAttached (line_of core.life.state).detach (detach_outcome may_step core) is (stays.unlinked core (life_after_detach core.life).life core.image core.loaded (inl refl) is)

    pub report_stays : (may_step : Bool) (core : CoreState) → P core → P (report_of may_step core).core
    report_stays may_step core is = report_left may_step core is (λ life stops. stays.crashed core life stops is)

    recovery_kept : (core : CoreState) (found : ImageAnswer) {out : CoreOutcome Start StartFault} → RecoveryOutcome core found out → P core → P out.core
    recovery_kept core found (NoReopening why may loads opens) is = stays.readied core may is
    recovery_kept core found (Restarts may loads opens) is = stays.recovered core found (first_none (image_fault core found) _ loads) may opens is
    recovery_kept core found came is = is

    pub recovery_stays : (core : CoreState) (found : ImageAnswer) → P core → P (recovery_of core found).core
    recovery_stays core found is = recovery_kept core found (recovery_outcome core found) is
