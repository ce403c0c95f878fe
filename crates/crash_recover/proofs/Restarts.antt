-- Where nothing keeps a core from being started again, its life is recovered.
use Rattle.std.proofs.Common.{◌≡◌, Option, Some, None, is_some, option_map, refl, ap}
use Rattle.std.specs.Option.{option_or}
use Rattle.std.specs.Result.{result_err}
use Rattle.std.proofs.lemmas.Bool.{true≢false}
use Rattle.proc_state.specs.Lives.{life_after_recovery}
use Rattle.proc_state.specs.declared.answers.LifeFault.{LifeFault}
use Rattle.proc_state.proofs.Recoveries.{runs_next}
use Rattle.crash_recover.specs.declared.core_faults.StartFault.{StartFault}
use Rattle.crash_recover.specs.declared.core_faults.StartFault.TheVariants as start_fault
use Rattle.link_bench.specs.Benches.{BenchState}
use Rattle.link_bench.specs.BenchEnds.{reopen_refusal_of}
use Rattle.crash_recover.specs.CoreRecoveries.{fault_with, next_life, reopen_fault}
use Rattle.crash_recover.specs.Cores.{CoreState}

none_told : (why : Option LifeFault) → option_map start_fault.Life why ≡ None → why ≡ None
none_told None none = refl
none_told (Some why) none = absurd (true≢false (ap is_some none))

none_later : (first later : Option StartFault) → option_or first later ≡ None → later ≡ None
none_later None later none = none
none_later (Some why) later none = absurd (true≢false (ap is_some none))

none_with : (found : Option BenchState) (why : Option LifeFault) → fault_with found why ≡ None → why ≡ None
none_with None why none = none_told why none
none_with (Some bench) why none = none_told why (none_later (option_map start_fault.Reopen (reopen_refusal_of bench)) (option_map start_fault.Life why) none)

-- a core that is started again comes to its next life
pub restarts : (core : CoreState) → reopen_fault core ≡ None → (life_after_recovery core.life).life ≡ next_life core.life
restarts core opens = runs_next core.life (none_with core.bench (result_err (life_after_recovery core.life).answer) opens)
