use Rattle.std.proofs.Common.{◌≡◌, false, Option, None, Some, is_none, is_some, Err, refl, sym, ap, subst, ◌∙◌}
use Rattle.rp_io.specs.Images.{ImageAnswer}
use Rattle.rp_base.specs.declared.kinds.LifeState.{LifeState}
use Rattle.proc_state.specs.Lives.{CoreLife, handover_to, is_offline, life_after_handover, line_of, recovery_fault}
use Rattle.proc_state.specs.declared.answers.LifeFault.{LifeFault}
use Rattle.crash_recover.specs.declared.core_faults.StartFault.TheVariants as start_fault
use Rattle.crash_recover.proofs.RefusedLives.{refused_handover, refused_recovery}
use Rattle.link_commands.specs.declared.acts.StartAct.{StartAct}
use Rattle.command_run.specs.CoreLives.{start_with}
use Rattle.command_run.specs.Runs.{start_needs}
use Rattle.command_run.proofs.starts.begin.Goals as goal

stays_with : (to : Option LifeState) (life : CoreLife) (why : LifeFault) → (handover_to to life).answer ≡ Err why → is_some to ≡ false
stays_with None life why is = refl
stays_with (Some state) life why is = absurd (cc)

-- a life that is not handed over was not offline
stays_taken : (life : CoreLife) (why : LifeFault) → (life_after_handover life).answer ≡ Err why → is_offline life.state ≡ false
stays_taken life why is = stays_with (line_of life.state).handover life why is

pub returns-in-Err : goal.returns-in-Err
returns-in-Err c =
    let core = c.args.core.now in
    let why = c.in-Err.fault in
    let refused = sym c.in-Err.ensures.answer in
    subst (λ (start : StartAct). (start_needs start core ≡ false) × ((found : ImageAnswer) → start_with start core found ≡ record { core = core; answer = Err (start_fault.Life why) })) (sym c.in-Handover.is)
    (stays_taken core.life why refused, λ found. refused_handover core c.in-Handover.image found why refused)

pub returns-in-Some : goal.returns-in-Some
returns-in-Some c =
    let core = c.args.core.now in
    let why = c.in-Some.fault in
    let refused : recovery_fault core.life ≡ Some why = sym c.recovery_fault.ensures ∙ c.in-Some.is in
    subst (λ (start : StartAct). (start_needs start core ≡ false) × ((found : ImageAnswer) → start_with start core found ≡ record { core = core; answer = Err (start_fault.Life why) })) (sym c.in-Recover.is)
    (ap is_none refused, λ found. refused_recovery core found why refused)
