-- What a boot, a handover and a recovery are refused for isn't that memory ran out.
use Rattle.std.proofs.Common.{◌≡◌, ℕ, ◌+◌, ◌-◌, ◌^◌, ◌==◌, Bool, true, List, Option, Some, None, IfSome, Result, Ok, Err, refl}
use Rattle.std.specs.Option.{is_some, option_map, option_or}
use Rattle.std.specs.Result.{IfErr, result_err, result_map_both}
use Rattle.std.proofs.lemmas.Bool.{cond_both}
use Rattle.rp_io.specs.Images.{ImageAnswer}
use Rattle.rp_io.specs.declared.faults.NoImage.TheVariants as no_image
use Rattle.lane_model.specs.Links.{LinkState}
use Rattle.lane_model.specs.Recoveries.{link_reclaim_refusal, link_reopen_refusal}
use Rattle.lane_model.specs.declared.recoveries.ReclaimRefusal.{ReclaimRefusal}
use Rattle.lane_model.specs.declared.recoveries.ReclaimRefusal.TheVariants as refusal
use Rattle.lane_model.specs.declared.states.Holding.{Holding}
use Rattle.lane_model.specs.Crashes.{least_held, turn_out}
use Rattle.lane_model.specs.declared.recoveries.ReopenFault.{ReopenFault}
use Rattle.lane_model.specs.declared.recoveries.ReopenFault.TheVariants as reopen
use Rattle.fw_load.specs.Faults.{load_fault_number}
use Rattle.fw_load.specs.Loading.{load_fault}
use Rattle.fw_load.specs.declared.faults.LoadFault.{LoadFault}
use Rattle.load_laws.proofs.NumberParts.{load_numbered}
use Rattle.proc_state.specs.Lives.{CoreLife, is_offline, life_after_boot, life_after_handover, life_after_recovery, recovery_fault}
use Rattle.proc_state.specs.declared.answers.LifeFault.{LifeFault}
use Rattle.proc_state.specs.declared.answers.Power.{Power}
use Rattle.proc_state.specs.declared.answers.Power.TheVariants as power
use Rattle.link_bench.specs.Benches.{BenchState, link_in}
use Rattle.link_bench.specs.BenchEnds.{reopen_refusal_by, reopen_refusal_of, with_new_host}
use Rattle.crash_recover.specs.declared.core_answers.Start.{Start}
use Rattle.crash_recover.specs.declared.core_faults.StartFault.{StartFault}
use Rattle.crash_recover.specs.declared.core_faults.StartFault.TheVariants as start_fault
use Rattle.crash_recover.specs.Cores.{CoreOutcome, CoreState, loaded_rings, refuse_or}
use Rattle.crash_recover.specs.CoreBoots.{as_unit, boot_as, boot_of, core_fault_of_start, first_boot, handover_as, handover_of, image_fault, in_short, load_in, power_of}
use Rattle.crash_recover.specs.CoreRecoveries.{core_to_reopen, fault_with, recovery_of, reload_fault, reopen_fault, rings_fault, same_rings}
use Rattle.core_laws.specs.NamedFaults.{IsNamed}

abbrev IsNamedStart : StartFault → Type 0
IsNamedStart why = IsNamed (core_fault_of_start why)

abbrev AreNamed : Option StartFault → Type 0
AreNamed found = IfSome found IsNamedStart

abbrev AnswersNamed : CoreOutcome Start StartFault → Type 0
AnswersNamed did = IfErr did.answer IsNamedStart

-- ---- refusals

life_named : (found : Option LifeFault) → AreNamed (option_map start_fault.Life found)
life_named None = tt
life_named (Some why) = tt

load_named : (found : Option LoadFault) → IfSome found (λ why. is_some (load_fault_number why) ≡ true) → AreNamed (option_map start_fault.Load found)
load_named None is = tt
load_named (Some why) is = is

image_named : (core : CoreState) (found : ImageAnswer) → AreNamed (image_fault core found)
image_named core (Ok image) = load_named (load_fault image core.regions) (load_numbered image core.regions)
image_named core (Err no_image.Missing) = tt
image_named core (Err (no_image.TooLarge bytes)) = tt

or_named : (a b : Option StartFault) → AreNamed a → AreNamed b → AreNamed (option_or a b)
or_named None b first second = second
or_named (Some why) b first second = first

-- ---- the link

abbrev AreReopens : Option ReopenFault → Type 0
AreReopens found = IfSome found (λ why. IsNamedStart (start_fault.Reopen why))

reopens_or : (a b : Option ReopenFault) → AreReopens a → AreReopens b → AreReopens (option_or a b)
reopens_or None b first second = second
reopens_or (Some why) b first second = first

turns_named : (found : Option ℕ) → AreReopens (option_map reopen.StillTurn found)
turns_named None = tt
turns_named (Some caller) = tt

held_named : (found : Option Holding) → AreReopens (option_map (λ h. reopen.StillHeld h.caller h.number) found)
held_named None = tt
held_named (Some one) = tt

reopening_named : {D : Type 0} (link : LinkState D) → AreReopens (link_reopen_refusal link)
reopening_named link =
    reopens_or _ _ (cond_both link.era.is_live _ _ AreReopens (λ _. tt) (λ _. tt))
    (reopens_or _ _ (turns_named (option_or (turn_out link.to_host) (turn_out link.to_remote)))
    (reopens_or _ _ (held_named (option_or (least_held link.to_host.lane.held) (least_held link.to_remote.lane.held)))
    (cond_both (link.era.inc == 2 ^ 32 - 1) _ _ AreReopens (λ _. tt) (λ _. tt))))

reclaim_named : (bench : BenchState) (found : Option ReclaimRefusal) → AreReopens (reopen_refusal_by bench found)
reclaim_named bench None = reopening_named (link_in (with_new_host bench))
reclaim_named bench (Some (refusal.StillOpen era)) = tt
reclaim_named bench (Some (refusal.Busy holder)) = tt

reopen_named : (found : Option ReopenFault) → AreReopens found → AreNamed (option_map start_fault.Reopen found)
reopen_named None is = tt
reopen_named (Some why) is = is

link_named : (bench : Option BenchState) (why : Option LifeFault) → AreNamed (fault_with bench why)
link_named None why = life_named why
link_named (Some bench) why =
    or_named (option_map start_fault.Reopen (reopen_refusal_of bench)) (option_map start_fault.Life why)
    (reopen_named (reopen_refusal_of bench) (reclaim_named bench (link_reclaim_refusal (link_in bench) 0))) (life_named why)

-- ---- outcomes

refused_named : (core : CoreState) (found : Option StartFault) (done : CoreOutcome Start StartFault) → AreNamed found → AnswersNamed done → AnswersNamed (refuse_or core found done)
refused_named core None done is told = told
refused_named core (Some why) done is told = is

short_named : {A : Type 0} (short : Start → A) (answer : Result Start StartFault) → IfErr answer IsNamedStart → IfErr (result_map_both short core_fault_of_start answer) IsNamed
short_named short (Ok value) is = tt
short_named short (Err why) is = is

first_named : (life : CoreLife) (core : CoreState) (name : List ℕ) (found : ImageAnswer) → AnswersNamed (first_boot life core name found)
first_named life core name found =
    cond_both (is_offline core.life.state) _ _ AnswersNamed (λ _. refused_named core (image_fault core found) _ (image_named core found) tt) (λ _. tt)

booted_named : (life : CoreLife) (answer : Result Power LifeFault) (core : CoreState) (name : List ℕ) (found : ImageAnswer) → AnswersNamed (boot_as life answer core name found)
booted_named life (Err why) core name found = tt
booted_named life (Ok (power.Counted users)) core name found = tt
booted_named life (Ok power.First) core name found = first_named life core name found

handed_named : (life : CoreLife) (answer : Result (Unit {0}) LifeFault) (core : CoreState) (name : List ℕ) (found : ImageAnswer) → AnswersNamed (handover_as life answer core name found)
handed_named life (Err why) core name found = tt
handed_named life (Ok done) core name found = refused_named core (image_fault core found) _ (image_named core found) tt

reloads_named : (core : CoreState) (found : ImageAnswer) → AreNamed (reload_fault core found)
reloads_named core found =
    or_named (image_fault core found) (rings_fault core (load_in core found)) (image_named core found)
    (cond_both (same_rings (loaded_rings core.loaded) (load_in core found).rings) _ _ AreNamed (λ _. tt) (λ _. tt))

-- ---- calls

pub boots_named : (core : CoreState) (name : List ℕ) (found : ImageAnswer) → IfErr (in_short power_of core_fault_of_start (boot_of core name found)).answer IsNamed
unfolding boot_of
boots_named core name found =
    short_named power_of (boot_of core name found).answer (booted_named (life_after_boot core.life).life (life_after_boot core.life).answer core name found)

pub handovers_named : (core : CoreState) (name : List ℕ) (found : ImageAnswer) → IfErr (in_short as_unit core_fault_of_start (handover_of core name found)).answer IsNamed
unfolding handover_of
handovers_named core name found =
    short_named as_unit (handover_of core name found).answer (handed_named (life_after_handover core.life).life (life_after_handover core.life).answer core name found)

pub recoveries_named : (core : CoreState) (found : ImageAnswer) → IfErr (in_short as_unit core_fault_of_start (recovery_of core found)).answer IsNamed
unfolding recovery_of
recoveries_named core found =
    short_named as_unit (recovery_of core found).answer
    (refused_named core (option_map start_fault.Life (recovery_fault core.life)) _ (life_named (recovery_fault core.life))
    (refused_named core (reload_fault core found) _ (reloads_named core found)
    (refused_named (core_to_reopen core) (reopen_fault core) _ (link_named core.bench (result_err (life_after_recovery core.life).answer)) tt)))
