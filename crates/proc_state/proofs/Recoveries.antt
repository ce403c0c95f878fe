-- A life that may be recovered is crashed, and one that is recovered runs in its next incarnation.
use Rattle.std.proofs.Common.{◌≡◌, ◌==◌, ◌+◌, Bool, true, false, None, is_some, refl, ap}
use Rattle.std.specs.Result.{result_err}
use Rattle.std.proofs.lemmas.Bool.{cond_both, true≢false}
use Rattle.rp_base.specs.declared.kinds.LifeState.{LifeState}
use Rattle.rp_base.specs.declared.kinds.LifeState.TheVariants.{Offline, Running, Crashed, Attached, Detached}
use Rattle.proc_state.specs.declared.answers.LifeFault.TheVariants as fault
use Rattle.proc_state.specs.Lives.{CoreLife, Outcome, first_start, life_after_recovery, line_of, most, recovery_fault, recovery_state_by, recovery_to, refusal_of}

crashed_at : (state : LifeState) (is_on : Bool) → result_err (recovery_state_by (line_of state).recovery is_on) ≡ None → state ≡ Crashed
crashed_at Offline is_on may = absurd (true≢false (ap is_some may))
crashed_at Running is_on may = absurd (true≢false (ap is_some may))
crashed_at Crashed is_on may = refl
crashed_at Attached is_on may = absurd (true≢false (ap is_some may))
crashed_at Detached is_on may = absurd (true≢false (ap is_some may))

-- a life that may be recovered is crashed
pub crashed_life : (life : CoreLife) → recovery_fault life ≡ None → life.state ≡ Crashed
crashed_life life may = crashed_at life.state life.recovery may

started_next : (life : CoreLife) → result_err (first_start Running life.users (tt {0}) life).answer ≡ None
    → (first_start Running life.users (tt {0}) life).life ≡ record life { state = Running; incarnation = life.incarnation + 1 }
started_next life =
    cond_both (life.incarnation == most) (refusal_of fault.IncarnationsSpent life) _
    (λ (out : Outcome (Unit {0})). result_err out.answer ≡ None → out.life ≡ record life { state = Running; incarnation = life.incarnation + 1 })
    (λ _ none. absurd (true≢false (ap is_some none))) (λ _ _. refl)

next_at : (state : LifeState) (is_on : Bool) (life : CoreLife) → result_err (recovery_to (recovery_state_by (line_of state).recovery is_on) life).answer ≡ None
    → (recovery_to (recovery_state_by (line_of state).recovery is_on) life).life ≡ record life { state = Running; incarnation = life.incarnation + 1 }
next_at Offline is_on life none = absurd (true≢false (ap is_some none))
next_at Running is_on life none = absurd (true≢false (ap is_some none))
next_at Crashed true life none = started_next life none
next_at Crashed false life none = absurd (true≢false (ap is_some none))
next_at Attached is_on life none = absurd (true≢false (ap is_some none))
next_at Detached is_on life none = absurd (true≢false (ap is_some none))

-- a life that is recovered runs in its next incarnation
pub runs_next : (life : CoreLife) → result_err (life_after_recovery life).answer ≡ None → (life_after_recovery life).life ≡ record life { state = Running; incarnation = life.incarnation + 1 }
runs_next life none = next_at life.state life.recovery life none
