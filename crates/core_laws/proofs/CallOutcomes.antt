-- What each call of a core comes to, told apart once: each law over the calls takes these cases.
use Rattle.std.proofs.Common.{◌≡◌, ℕ, Bool, true, false, List, Option, Some, None, Result, Ok, Err, refl, ap}
use Rattle.std.specs.Option.{option_and_then, option_map}
use Rattle.std.proofs.lemmas.Bool.{cond_both}
use Rattle.rp_io.specs.Images.{ImageAnswer}
use Rattle.proc_state.specs.declared.answers.Left.{Left}
use Rattle.proc_state.specs.declared.answers.Left.TheVariants as left
use Rattle.proc_state.specs.declared.answers.LifeFault.{LifeFault}
use Rattle.proc_state.specs.declared.answers.Power.{Power}
use Rattle.proc_state.specs.declared.answers.Power.TheVariants as power
use Rattle.proc_state.specs.declared.answers.Report.{Report}
use Rattle.proc_state.specs.declared.answers.Report.TheVariants as report
use Rattle.proc_state.specs.Lives.{Outcome, is_offline, life_after_boot, life_after_crash, life_after_detach, life_after_handover, life_after_recovery, life_after_shutdown, recovery_fault}
use Rattle.link_bench.specs.BenchHolds.{caller_out}
use Rattle.link_bench.specs.Benches.{BenchState}
use Rattle.crash_recover.specs.declared.core_answers.Crash.{Crash}
use Rattle.crash_recover.specs.declared.core_answers.Crash.TheVariants as crash
use Rattle.crash_recover.specs.declared.core_answers.Leave.{Leave}
use Rattle.crash_recover.specs.declared.core_answers.Leave.TheVariants as leave
use Rattle.crash_recover.specs.declared.core_answers.Start.{Start}
use Rattle.crash_recover.specs.declared.core_answers.Start.TheVariants as start
use Rattle.crash_recover.specs.declared.core_faults.LeaveFault.{LeaveFault}
use Rattle.crash_recover.specs.declared.core_faults.LeaveFault.TheVariants as leave_fault
use Rattle.crash_recover.specs.declared.core_faults.StartFault.{StartFault}
use Rattle.crash_recover.specs.declared.core_faults.StartFault.TheVariants as start_fault
use Rattle.crash_recover.specs.Cores.{CoreOutcome, CoreState, refuse_or}
use Rattle.crash_recover.specs.CoreBoots.{boot_as, boot_of, first_boot, handover_as, handover_of, image_fault, load_in, started_core, with_load}
use Rattle.crash_recover.specs.CoreCrashes.{crashed_core, first_report, link_incarnation, report_as, report_of}
use Rattle.crash_recover.specs.CoreLeaves.{close_or, detach_of, detached_core, leave_as, live_inc, shutdown_of, unloaded_core}
use Rattle.crash_recover.specs.CoreRecoveries.{after_recovery, core_to_reopen, recovery_of, reload_fault, reopen_fault}

-- ---- boots and handovers

module _ (core : CoreState) (name : List ℕ) (found : ImageAnswer) where
  -- a boot is refused by the life or for the image, brings a user more, or starts or attaches the core
  pub data BootOutcome : CoreOutcome Start StartFault → Type 0 where
    NoBoot : (why : LifeFault) → BootOutcome (record { core = core; answer = Err (start_fault.Life why) })
    NoImage : (why : StartFault) → image_fault core found ≡ Some why → BootOutcome (record { core = core; answer = Err why })
    OneMore : (users : ℕ) → (life_after_boot core.life).answer ≡ Ok (power.Counted users)
        → BootOutcome (record { core = record core { life = (life_after_boot core.life).life }; answer = Ok (start.Users users) })
    Runs : (life_after_boot core.life).answer ≡ Ok power.First → is_offline core.life.state ≡ true → image_fault core found ≡ None
        → BootOutcome (record { core = started_core (life_after_boot core.life).life (with_load core name (load_in core found)); answer = Ok (start.Running (life_after_boot core.life).life.incarnation) })
    Attaches : (life_after_boot core.life).answer ≡ Ok power.First → is_offline core.life.state ≡ false
        → BootOutcome (record { core = started_core (life_after_boot core.life).life core; answer = Ok (start.Attached (life_after_boot core.life).life.incarnation) })

  first_outcome : (life_after_boot core.life).answer ≡ Ok power.First → BootOutcome (first_boot (life_after_boot core.life).life core name found)
  first_outcome first =
      cond_both (is_offline core.life.state) _ _ BootOutcome (λ off. by_image (image_fault core found) refl off) (λ on. Attaches first on) where
        by_image : (why : Option StartFault) → image_fault core found ≡ why → is_offline core.life.state ≡ true
            → BootOutcome (refuse_or core why (record { core = started_core (life_after_boot core.life).life (with_load core name (load_in core found)); answer = Ok (start.Running (life_after_boot core.life).life.incarnation) }))
        by_image None clear off = Runs first off clear
        by_image (Some why) is off = NoImage why is

  boot_by : (answer : Result Power LifeFault) → (life_after_boot core.life).answer ≡ answer → BootOutcome (boot_as (life_after_boot core.life).life answer core name found)
  boot_by (Err why) is = NoBoot why
  boot_by (Ok (power.Counted users)) is = OneMore users is
  boot_by (Ok power.First) is = first_outcome is

  pub boot_outcome : BootOutcome (boot_of core name found)
  unfolding boot_of
  boot_outcome = boot_by (life_after_boot core.life).answer refl

  -- a handover is refused by the life or for the image, or the other party's core is there to be attached
  pub data HandoverOutcome : CoreOutcome Start StartFault → Type 0 where
    NoHandover : (why : LifeFault) → HandoverOutcome (record { core = core; answer = Err (start_fault.Life why) })
    NoImageGiven : (why : StartFault) → image_fault core found ≡ Some why → HandoverOutcome (record { core = core; answer = Err why })
    HandsOver : (done : Unit {0}) → (life_after_handover core.life).answer ≡ Ok done → image_fault core found ≡ None
        → HandoverOutcome (record { core = record (with_load core name (load_in core found)) { life = (life_after_handover core.life).life }; answer = Ok start.Detached })

  handover_by : (answer : Result (Unit {0}) LifeFault) → (life_after_handover core.life).answer ≡ answer → HandoverOutcome (handover_as (life_after_handover core.life).life answer core name found)
  handover_by (Err why) is = NoHandover why
  handover_by (Ok done) is = by_image (image_fault core found) refl where
    by_image : (why : Option StartFault) → image_fault core found ≡ why
        → HandoverOutcome (refuse_or core why (record { core = record (with_load core name (load_in core found)) { life = (life_after_handover core.life).life }; answer = Ok start.Detached }))
    by_image None clear = HandsOver done is clear
    by_image (Some why) refuses = NoImageGiven why refuses

  pub handover_outcome : HandoverOutcome (handover_of core name found)
  unfolding handover_of
  handover_outcome = handover_by (life_after_handover core.life).answer refl

-- ---- recoveries

module _ (core : CoreState) (found : ImageAnswer) where
  -- a recovery is refused by the life, for the image, or since the link isn't reopened, for which a new host caller is there by then; or the core starts again
  pub data RecoveryOutcome : CoreOutcome Start StartFault → Type 0 where
    NoRecovery : (why : LifeFault) → recovery_fault core.life ≡ Some why → RecoveryOutcome (record { core = core; answer = Err (start_fault.Life why) })
    NoReload : (why : StartFault) → recovery_fault core.life ≡ None → reload_fault core found ≡ Some why → RecoveryOutcome (record { core = core; answer = Err why })
    NoReopening : (why : StartFault) → recovery_fault core.life ≡ None → reload_fault core found ≡ None → reopen_fault core ≡ Some why
        → RecoveryOutcome (record { core = core_to_reopen core; answer = Err why })
    Restarts : recovery_fault core.life ≡ None → reload_fault core found ≡ None → reopen_fault core ≡ None
        → RecoveryOutcome (record { core = after_recovery core (load_in core found); answer = Ok (start.Running (life_after_recovery core.life).life.incarnation) })

  abbrev again : CoreOutcome Start StartFault
  again = record { core = after_recovery core (load_in core found); answer = Ok (start.Running (life_after_recovery core.life).life.incarnation) }

  reopening_by : (why : Option StartFault) → recovery_fault core.life ≡ None → reload_fault core found ≡ None → reopen_fault core ≡ why → RecoveryOutcome (refuse_or (core_to_reopen core) why again)
  reopening_by None may loads opens = Restarts may loads opens
  reopening_by (Some why) may loads is = NoReopening why may loads is

  reload_by : (why : Option StartFault) → recovery_fault core.life ≡ None → reload_fault core found ≡ why → RecoveryOutcome (refuse_or core why (refuse_or (core_to_reopen core) (reopen_fault core) again))
  reload_by None may loads = reopening_by (reopen_fault core) may loads refl
  reload_by (Some why) may is = NoReload why may is

  recovery_by : (why : Option LifeFault) → recovery_fault core.life ≡ why
      → RecoveryOutcome (refuse_or core (option_map start_fault.Life why) (refuse_or core (reload_fault core found) (refuse_or (core_to_reopen core) (reopen_fault core) again)))
  recovery_by None may = reload_by (reload_fault core found) may refl
  recovery_by (Some why) is = NoRecovery why is

  pub recovery_outcome : RecoveryOutcome (recovery_of core found)
  unfolding recovery_of
  recovery_outcome = recovery_by (recovery_fault core.life) refl

-- ---- the last user

module _ (may_step : Bool) (core gone : CoreState) (after : Outcome Left) where
  -- a leave is refused by the life, leaves other users, or is the last: a host caller is out, no step may be taken, or nobody has the core
  pub data LeaveOutcome : CoreOutcome Leave LeaveFault → Type 0 where
    NoLeave : (why : LifeFault) → LeaveOutcome (record { core = core; answer = Err (leave_fault.Life why) })
    OneFewer : (users : ℕ) → after.answer ≡ Ok (left.Users users) → LeaveOutcome (record { core = record core { life = after.life }; answer = Ok (leave.Users users) })
    IsOut : (caller : ℕ) → option_and_then caller_out core.bench ≡ Some caller → LeaveOutcome (record { core = core; answer = Err (leave_fault.CallerOut caller) })
    NoStep : may_step ≡ false → LeaveOutcome (record { core = core; answer = Ok leave.Limit })
    Empties : after.answer ≡ Ok left.Last → (live : Option ℕ) → live_inc core.bench ≡ live → LeaveOutcome (record { core = gone; answer = Ok (leave.Last live) })

  close_by : after.answer ≡ Ok left.Last → (live : Option ℕ) → live_inc core.bench ≡ live → LeaveOutcome (close_or may_step core gone live)
  close_by last None is = Empties last None is
  close_by last (Some inc) is = cond_both may_step _ _ LeaveOutcome (λ _. Empties last (Some inc) is) (λ none. NoStep none)

  out_by : after.answer ≡ Ok left.Last → (found : Option ℕ) → option_and_then caller_out core.bench ≡ found → LeaveOutcome (refuse_or core (option_map leave_fault.CallerOut found) (close_or may_step core gone (live_inc core.bench)))
  out_by last None none = close_by last (live_inc core.bench) refl
  out_by last (Some caller) is = IsOut caller is

  leave_by : (answer : Result Left LifeFault) → after.answer ≡ answer → LeaveOutcome (leave_as may_step core gone after.life answer)
  leave_by (Err why) is = NoLeave why
  leave_by (Ok (left.Users users)) is = OneFewer users is
  leave_by (Ok left.Last) is = out_by is (option_and_then caller_out core.bench) refl

  leave_outcome : LeaveOutcome (leave_as may_step core gone after.life after.answer)
  leave_outcome = leave_by after.answer refl

pub shutdown_outcome : (may_step : Bool) (core : CoreState) → LeaveOutcome may_step core (unloaded_core (life_after_shutdown core.life).life core) (life_after_shutdown core.life) (shutdown_of may_step core)
unfolding shutdown_of
shutdown_outcome may_step core = leave_outcome may_step core (unloaded_core (life_after_shutdown core.life).life core) (life_after_shutdown core.life)

pub detach_outcome : (may_step : Bool) (core : CoreState) → LeaveOutcome may_step core (detached_core (life_after_detach core.life).life core) (life_after_detach core.life) (detach_of may_step core)
unfolding detach_of
detach_outcome may_step core = leave_outcome may_step core (detached_core (life_after_detach core.life).life core) (life_after_detach core.life)

-- ---- crash reports

module _ (may_step : Bool) (core : CoreState) where
  -- a report is refused by the life, finds the core crashed, may take no step, or crashes the core
  pub data ReportOutcome : CoreOutcome Crash LifeFault → Type 0 where
    NoReport : (why : LifeFault) → ReportOutcome (record { core = core; answer = Err why })
    IsDown : ReportOutcome (record { core = core; answer = Ok crash.Already })
    NoStepLeft : may_step ≡ false → ReportOutcome (record { core = core; answer = Ok crash.Limit })
    GoesDown : (life_after_crash core.life).answer ≡ Ok report.First → (closed : Option ℕ) → link_incarnation core.bench ≡ closed
        → ReportOutcome (record { core = crashed_core (life_after_crash core.life).life core; answer = Ok (crash.First closed) })

  first_by : (life_after_crash core.life).answer ≡ Ok report.First → (link : Option BenchState) → core.bench ≡ link → ReportOutcome (first_report may_step (life_after_crash core.life).life core link)
  first_by first None is = GoesDown first None (ap link_incarnation is)
  first_by first (Some bench) is = cond_both may_step _ _ ReportOutcome (λ _. GoesDown first (link_incarnation (Some bench)) (ap link_incarnation is)) (λ none. NoStepLeft none)

  report_by : (answer : Result Report LifeFault) → (life_after_crash core.life).answer ≡ answer → ReportOutcome (report_as may_step (life_after_crash core.life).life answer core)
  report_by (Err why) is = NoReport why
  report_by (Ok report.Already) is = IsDown
  report_by (Ok report.First) is = first_by is core.bench refl

  pub report_outcome : ReportOutcome (report_of may_step core)
  unfolding report_of
  report_outcome = report_by (life_after_crash core.life).answer refl
