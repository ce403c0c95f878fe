-- The life of a core, and what each call makes of it: a table of states and calls (the states and calls of the Linux remoteproc documentation and of its remoteproc_core.c; the counts are own).
use Rattle.std.specs.Prelude.{◌≡◌, ℕ, ◌+◌, ◌-◌, ◌≤◌, ◌==◌, Bool, true, is_some, Option, Some, None, if◌then◌else◌, Result, Ok, Err, OnErr}
use Rattle.std.specs.Result.{result_err}
use Rattle.rp_base.specs.declared.kinds.LifeState.{LifeState}
use Rattle.rp_base.specs.declared.kinds.LifeState.TheVariants.{Offline, Running, Crashed, Attached, Detached}
use Rattle.proc_state.specs.declared.answers.LifeFault.{LifeFault}
use Rattle.proc_state.specs.declared.answers.LifeFault.TheVariants as fault
use Rattle.proc_state.specs.declared.answers.Power.{Power}
use Rattle.proc_state.specs.declared.answers.Power.TheVariants as power
use Rattle.proc_state.specs.declared.answers.Left.{Left}
use Rattle.proc_state.specs.declared.answers.Left.TheVariants as left
use Rattle.proc_state.specs.declared.answers.Report.{Report}
use Rattle.proc_state.specs.declared.answers.Report.TheVariants as report

-- a life: the state, how many users there are, the number of the life, and whether a crash may be recovered
pub record CoreLife : Type 0 where
  pub state : LifeState
  pub users : ℕ
  pub incarnation : ℕ
  pub recovery : Bool

-- the life that a call leaves, and what it answers
pub record Outcome (A : Type 0) : Type 0 where
  pub life : CoreLife
  pub answer : Result A LifeFault

-- how far users and incarnations are counted, 2^32 - 1
abbrev pub most : ℕ
most = 4294967295

-- the life of a core that was never booted
abbrev pub new_life : CoreLife
new_life = record { state = Offline; users = 0; incarnation = 0; recovery = true }

-- ---- the table

-- a line of the table: the states that a handover, the first user's boot, the last user's shutdown and detach, and a recovery lead to, and what a crash is there; there is none where the call leads nowhere
pub record StateLine : Type 0 where
  pub handover : Option LifeState
  pub boot : Option LifeState
  pub shutdown : Option LifeState
  pub detach : Option LifeState
  pub crash : Option Report
  pub recovery : Option LifeState

-- the line of each state
abbrev pub line_of : LifeState → StateLine
line_of Offline = record { handover = Some Detached; boot = Some Running; shutdown = None; detach = None; crash = None; recovery = None }
line_of Running = record { handover = None; boot = None; shutdown = Some Offline; detach = None; crash = Some report.First; recovery = None }
line_of Crashed = record { handover = None; boot = None; shutdown = None; detach = None; crash = Some report.Already; recovery = Some Running }
line_of Attached = record { handover = None; boot = None; shutdown = Some Offline; detach = Some Detached; crash = Some report.First; recovery = None }
line_of Detached = record { handover = None; boot = Some Attached; shutdown = None; detach = None; crash = None; recovery = None }

-- whether a core is up: its users may shut it down
abbrev pub is_up : LifeState → Bool
is_up state = is_some (line_of state).shutdown

-- whether nothing is loaded: the core may be handed over
abbrev pub is_offline : LifeState → Bool
is_offline state = is_some (line_of state).handover

-- ---- what a call leaves and answers, by its place in the table

-- a refusal: the life is as it was
abbrev pub refusal_of : {A : Type 0} → LifeFault → CoreLife → Outcome A
refusal_of reason life = record { life = life; answer = Err reason }

-- the core starts in this state in its next incarnation, for these users; there is none after the last
abbrev pub first_start : {A : Type 0} → LifeState → ℕ → A → CoreLife → Outcome A
first_start state users told life =
    if life.incarnation == most then refusal_of fault.IncarnationsSpent life
    else record {
      life = record life { state = state; users = users; incarnation = life.incarnation + 1 };
      answer = Ok told;
    }

-- one user more
abbrev pub with_user : CoreLife → Outcome Power
with_user life =
    if life.users == most then refusal_of fault.UsersFull life
    else record {
      life = record life { users = life.users + 1 };
      answer = Ok (power.Counted (life.users + 1));
    }

-- one user fewer, and this state at none
abbrev pub without_user : LifeState → CoreLife → Outcome Left
without_user state life =
    if life.users == 1 then record {
      life = record life { state = state; users = 0 };
      answer = Ok left.Last;
    }
    else record {
      life = record life { users = life.users - 1 };
      answer = Ok (left.Users (life.users - 1));
    }

-- a handover: another party starts the core
abbrev pub handover_to : Option LifeState → CoreLife → Outcome (Unit {0})
handover_to None life = refusal_of fault.NotOffline life
handover_to (Some state) life = record { life = record life { state = state }; answer = Ok tt }

-- a boot: the first user's starts the core, each other one is counted
abbrev pub boot_to : Option LifeState → CoreLife → Outcome Power
boot_to None life = with_user life
boot_to (Some state) life = first_start state 1 power.First life

-- a user leaves
abbrev pub leave_to : LifeFault → Option LifeState → CoreLife → Outcome Left
leave_to reason None life = refusal_of reason life
leave_to reason (Some state) life = without_user state life

-- a report of a crash
abbrev pub crash_as : Option Report → CoreLife → Outcome Report
crash_as None life = refusal_of fault.NotPowered life
crash_as (Some told) life = record { life = record life { state = Crashed }; answer = Ok told }

-- the state that a recovery leads to, which has to be on, or why it leads to none, whatever incarnation is left
abbrev pub recovery_state_by : Option LifeState → Bool → Result LifeState LifeFault
recovery_state_by None is_on = Err fault.NotCrashed
recovery_state_by (Some state) is_on = if is_on then Ok state else Err fault.RecoveryOff

-- a recovery: the core starts again, for the users that it has
abbrev pub recovery_to : Result LifeState LifeFault → CoreLife → Outcome (Unit {0})
recovery_to (Err why) life = refusal_of why life
recovery_to (Ok state) life = first_start state life.users tt life

-- ---- the calls

-- a handover (own; Linux has such a core in the state `RPROC_DETACHED` from the start)
abbrev pub life_after_handover : CoreLife → Outcome (Unit {0})
life_after_handover life = handover_to (line_of life.state).handover life

-- a boot, `rproc_boot`; that of a detached core is `rproc_attach`
abbrev pub life_after_boot : CoreLife → Outcome Power
life_after_boot life = boot_to (line_of life.state).boot life

-- a shutdown, `rproc_shutdown`
abbrev pub life_after_shutdown : CoreLife → Outcome Left
life_after_shutdown life = leave_to fault.NotPowered (line_of life.state).shutdown life

-- a detach, `rproc_detach`
abbrev pub life_after_detach : CoreLife → Outcome Left
life_after_detach life = leave_to fault.NotAttached (line_of life.state).detach life

-- a report of a crash, `rproc_report_crash`
abbrev pub life_after_crash : CoreLife → Outcome Report
life_after_crash life = crash_as (line_of life.state).crash life

-- the state that a recovery leads a life to, or why it leads to none, whatever incarnation is left
abbrev pub recovery_state : CoreLife → Result LifeState LifeFault
recovery_state life = recovery_state_by (line_of life.state).recovery life.recovery

-- why a life is not recovered, whatever incarnation is left: it isn't crashed, or its recovery is off
abbrev pub recovery_fault : CoreLife → Option LifeFault
recovery_fault life = result_err (recovery_state life)

-- a recovery, `rproc_trigger_recovery`
abbrev pub life_after_recovery : CoreLife → Outcome (Unit {0})
life_after_recovery life = recovery_to (recovery_state life) life

-- ---- what calls keep

-- which users and incarnations there are in each state: a core has users exactly where it is up or
-- crashed, and then it was started
abbrev pub AreIn : LifeState → ℕ → ℕ → Type 0
AreIn Offline users incarnation = users ≡ 0
AreIn Running users incarnation = (1 ≤ users) × (1 ≤ incarnation)
AreIn Crashed users incarnation = (1 ≤ users) × (1 ≤ incarnation)
AreIn Attached users incarnation = (1 ≤ users) × (1 ≤ incarnation)
AreIn Detached users incarnation = users ≡ 0

-- a life that calls lead to
pub record IsReachable (life : CoreLife) : Type 0 where
  pub counts : AreIn life.state life.users life.incarnation
  pub users : life.users ≤ most
  pub incarnation : life.incarnation ≤ most

-- a life that a call leads to from this one: it is reachable, and its incarnation is no lower
pub record Follows (before after : CoreLife) : Type 0 where
  pub reachable : IsReachable after
  pub incarnation : before.incarnation ≤ after.incarnation

-- a refusal leaves the life as it was
abbrev pub KeepsAtErr : {A : Type 0} → CoreLife → Outcome A → Type 0
KeepsAtErr life outcome = OnErr outcome.answer (outcome.life ≡ life)
