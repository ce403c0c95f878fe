-- What a call of a life that goes on leaves of its incarnation, and of whether the core is up.
use Rattle.std.proofs.Common.{◌≡◌, ◌==◌, ℕ, true, false, Option, Some, None, Ok, Err, refl, sym, ap}
use Rattle.std.proofs.lemmas.Bool.{cond_both, true≢false}
use Rattle.rp_base.specs.declared.kinds.LifeState.{LifeState}
use Rattle.rp_base.specs.declared.kinds.LifeState.TheVariants.{Offline, Running, Crashed, Attached, Detached}
use Rattle.proc_state.specs.declared.answers.Left.{Left}
use Rattle.proc_state.specs.declared.answers.Left.TheVariants as left
use Rattle.proc_state.specs.declared.answers.LifeFault.{LifeFault}
use Rattle.proc_state.specs.declared.answers.LifeFault.TheVariants as life_fault
use Rattle.proc_state.specs.declared.answers.Power.{Power}
use Rattle.proc_state.specs.declared.answers.Power.TheVariants as power
use Rattle.proc_state.specs.declared.answers.Report.{Report}
use Rattle.proc_state.specs.declared.answers.Report.TheVariants as report
use Rattle.proc_state.specs.Lives.{CoreLife, Outcome, boot_to, crash_as, first_start, handover_to, is_offline, is_up, leave_to, life_after_boot, life_after_handover, line_of, most, refusal_of, with_user}

-- a life in the same incarnation that is up where the one before is
pub record IsSame (before after : CoreLife) : Type 0 where
  pub inc : after.incarnation ≡ before.incarnation
  pub up : is_up after.state ≡ is_up before.state

first_up : (state : LifeState) (life : CoreLife) → is_up state ≡ true → (first_start state 1 power.First life).answer ≡ Ok power.First → is_up (first_start state 1 power.First life).life.state ≡ true
first_up state life up =
    cond_both (life.incarnation == most) (refusal_of life_fault.IncarnationsSpent life) _ (λ (out : Outcome Power). out.answer ≡ Ok power.First → is_up out.life.state ≡ true)
    (λ _ is. absurd (cc)) (λ _ is. up)

pub no_first : (life : CoreLife) → (with_user life).answer ≡ Ok power.First → ⊥
no_first life =
    cond_both (life.users == most) (refusal_of life_fault.UsersFull life) _ (λ (out : Outcome Power). out.answer ≡ Ok power.First → ⊥) (λ _ is. absurd (cc)) (λ _ is. absurd (cc))

boots_up : (state : LifeState) (life : CoreLife) → (boot_to (line_of state).boot life).answer ≡ Ok power.First → is_up (boot_to (line_of state).boot life).life.state ≡ true
boots_up Offline life is = first_up Running life refl is
boots_up Running life is = absurd (no_first life is)
boots_up Crashed life is = absurd (no_first life is)
boots_up Attached life is = absurd (no_first life is)
boots_up Detached life is = first_up Attached life refl is

-- the first boot of a core starts it
pub starts_up : (life : CoreLife) → (life_after_boot life).answer ≡ Ok power.First → is_up (life_after_boot life).life.state ≡ true
starts_up life is = boots_up life.state life is

-- a user more, a user fewer and a handover leave it the same
user_same : (life : CoreLife) → IsSame life (with_user life).life
user_same life = cond_both (life.users == most) (refusal_of life_fault.UsersFull life) _ (λ (out : Outcome Power). IsSame life out.life) (λ _. record { inc = refl; up = refl }) (λ _. record { inc = refl; up = refl })

pub boot_same : (to : Option LifeState) (life : CoreLife) (users : ℕ) → (boot_to to life).answer ≡ Ok (power.Counted users) → IsSame life (boot_to to life).life
boot_same None life users is = user_same life
boot_same (Some state) life users is =
    cond_both (life.incarnation == most) (refusal_of life_fault.IncarnationsSpent life) _ (λ (out : Outcome Power). out.answer ≡ Ok (power.Counted users) → IsSame life out.life)
    (λ _ is. absurd (cc)) (λ _ is. absurd (cc)) is

pub leave_same : (why : LifeFault) (to : Option LifeState) (life : CoreLife) (users : ℕ) → (leave_to why to life).answer ≡ Ok (left.Users users) → IsSame life (leave_to why to life).life
leave_same why None life users is = record { inc = refl; up = refl }
leave_same why (Some state) life users is =
    cond_both (life.users == 1) _ _ (λ (out : Outcome Left). out.answer ≡ Ok (left.Users users) → IsSame life out.life)
    (λ _ is. absurd (cc)) (λ _ is. record { inc = refl; up = refl }) is

pub handover_same : (state : LifeState) (life : CoreLife) (done : Unit {0}) → life.state ≡ state → (handover_to (line_of state).handover life).answer ≡ Ok done → IsSame life (handover_to (line_of state).handover life).life
handover_same Offline life done state is = record { inc = refl; up = ap is_up (sym state) }
handover_same Running life done state is = absurd (cc)
handover_same Crashed life done state is = absurd (cc)
handover_same Attached life done state is = absurd (cc)
handover_same Detached life done state is = absurd (cc)

-- a life that a crash has stopped
pub record IsStopped (before after : CoreLife) : Type 0 where
  pub inc : after.incarnation ≡ before.incarnation
  pub stopped : is_up after.state ≡ false

-- the first report of a crash stops it
pub crash_stops : (found : Option Report) (life : CoreLife) → (crash_as found life).answer ≡ Ok report.First → IsStopped life (crash_as found life).life
crash_stops None life is = absurd (cc)
crash_stops (Some told) life is = record { inc = refl; stopped = refl }

-- the life of a core that is handed over: it was offline, is loaded, and has as many users
pub record IsHanded (before after : CoreLife) : Type 0 where
  pub offline : is_offline before.state ≡ true
  pub loaded : is_offline after.state ≡ false
  pub users : after.users ≡ before.users
  pub same : IsSame before after

-- a handover that nothing refuses leaves such a life
hands_at : (state : LifeState) (life : CoreLife) → life.state ≡ state → (handover_to (line_of state).handover life).answer ≡ Ok tt → IsHanded life (handover_to (line_of state).handover life).life
hands_at Offline life there is = record { offline = ap is_offline there; loaded = refl; users = refl; same = handover_same Offline life tt there is }
hands_at Running life there is = absurd (cc)
hands_at Crashed life there is = absurd (cc)
hands_at Attached life there is = absurd (cc)
hands_at Detached life there is = absurd (cc)

pub hands_over : (life : CoreLife) → (life_after_handover life).answer ≡ Ok tt → IsHanded life (life_after_handover life).life
hands_over life is = hands_at life.state life refl is

unhanded_at : (state : LifeState) (life : CoreLife) (why : LifeFault) → (handover_to (line_of state).handover life).answer ≡ Err why → is_offline state ≡ true → ⊥
unhanded_at Offline life why is off = cc
unhanded_at Running life why is off = true≢false (sym off)
unhanded_at Crashed life why is off = true≢false (sym off)
unhanded_at Attached life why is off = true≢false (sym off)
unhanded_at Detached life why is off = true≢false (sym off)

-- a core whose life refuses a handover isn't offline
pub unhanded : (life : CoreLife) (why : LifeFault) → (life_after_handover life).answer ≡ Err why → is_offline life.state ≡ true → ⊥
unhanded life why is off = unhanded_at life.state life why is off
