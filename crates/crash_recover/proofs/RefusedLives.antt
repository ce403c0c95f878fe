-- A start that the life of a core refuses, whatever the image.
use Rattle.std.proofs.Common.{◌≡◌, ℕ, List, Some, Result, Err, refl, ap}
use Rattle.rp_io.specs.Images.{ImageAnswer}
use Rattle.proc_state.specs.Lives.{life_after_handover, recovery_fault}
use Rattle.proc_state.specs.declared.answers.LifeFault.{LifeFault}
use Rattle.crash_recover.specs.declared.core_faults.StartFault.TheVariants as start_fault
use Rattle.crash_recover.specs.Cores.{CoreState}
use Rattle.crash_recover.specs.CoreBoots.{handover_as, handover_of}
use Rattle.crash_recover.specs.CoreRecoveries.{recovery_of}

-- a recovery that the life of the core refuses
pub refused_recovery : (core : CoreState) (found : ImageAnswer) (why : LifeFault) → recovery_fault core.life ≡ Some why → recovery_of core found ≡ record { core = core; answer = Err (start_fault.Life why) }
unfolding recovery_of
refused_recovery core found why refused = rw refused refl

-- a handover that the life of the core refuses
pub refused_handover : (core : CoreState) (name : List ℕ) (found : ImageAnswer) (why : LifeFault) → (life_after_handover core.life).answer ≡ Err why
    → handover_of core name found ≡ record { core = core; answer = Err (start_fault.Life why) }
unfolding handover_of
refused_handover core name found why is = ap (λ (answer : Result (Unit {0}) LifeFault). handover_as (life_after_handover core.life).life answer core name found) is
