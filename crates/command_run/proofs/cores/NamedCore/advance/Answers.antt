use Rattle.std.proofs.Common.{◌≡◌, ◌-◌, ◌+◌, ◌++◌, ◌||◌, inl, inr, eqb, not, cond, Bool, ℕ, suc, List, false, true, refl, sym, ap, subst, ◌∙◌, true≢false, arith}
use Rattle.std.proofs.lemmas.Bool.{or_parts}
use Rattle.journal.specs.Lines.{transcript}
use Rattle.rp_base.specs.declared.limits.TheConstants.{STEPS_MOST}
use Rattle.journal.specs.declared.events.Event.TheVariants as event
use Rattle.crash_recover.specs.Cores.{CoreState}
use Rattle.crash_recover.specs.Drives.{drive_step, is_idle}
use Rattle.run_log.specs.Logs.{Keeps, LogState}
use Rattle.command_run.specs.Outcomes.{DrivesOn}
use Rattle.command_run.specs.CoreDrives.{is_crashed, is_over, step_events}
use Rattle.command_run.proofs.Driving.{crash_over, drive_first, drive_goes_on, rest_over, steps_go, steps_idle}
use Rattle.command_run.proofs.cores.NamedCore.advance.Goals as goal

-- a step that is counted where one is left
count_on : (counts : Bool) (old new : LogState) → eqb old.steps STEPS_MOST ≡ not counts → new ≡ record old { steps = cond counts (old.steps + 1) old.steps } → eqb old.steps STEPS_MOST ≡ false
    → new ≡ record old { steps = old.steps + 1 }
count_on true old new spent counted few = counted
count_on false old new spent counted few = absurd (true≢false (sym spent ∙ few))

pub loop-done-init : goal.loop-done-init
loop-done-init c =
    let none : c.args.count ≡ c.args.count - 0 = omega arith in
    record {
      name = refl;
      on = subst (λ (left : ℕ). DrivesOn c.args.self.now.name c.args.is_quiet c.args.count c.args.self.now.core c.args.log.now left c.args.self.now.core c.args.log.now) none
          (drive_first c.args.self.now.name c.args.is_quiet c.args.count c.args.self.now.core c.args.log.now c.requires.up);
    }

pub drive_on-requires : goal.drive_on-requires
drive_on-requires c =
    let over = or_parts (is_crashed c.loop-done.self.core.life.state) (eqb c.steps.result STEPS_MOST) (sym c.is_over.ensures ∙ c.if-is_over.false) in
    c.loop-done.invariant.on.up over.0

pub returns-then-is_over-clause-over : goal.returns-then-is_over-clause-over
returns-then-is_over-clause-over c =
    inr (crash_over c.args.self.now.name c.args.is_quiet c.loop-done.self.core c.loop-done.log.steps
    (ap (λ n. is_crashed c.loop-done.self.core.life.state || eqb n STEPS_MOST) (sym c.steps.ensures.steps) ∙ sym c.is_over.ensures ∙ c.if-is_over.true))

pub returns-then-not-branch-clause-on : goal.returns-then-not-branch-clause-on
returns-then-not-branch-clause-on c =
    let name = c.args.self.now.name in
    let core = c.loop-done.self.core in
    let log = c.loop-done.log in
    let over : (is_crashed core.life.state || eqb log.steps STEPS_MOST) ≡ false =
    ap (λ n. is_crashed core.life.state || eqb n STEPS_MOST) (sym c.steps.ensures.steps) ∙ sym c.is_over.ensures ∙ c.if-is_over.false in
    let did = c.in_ok-drive_on.ensures in
    let rests : false ≡ not (is_idle core) = sym c.if-not-branch.true ∙ did.steps in
    let keeps : Keeps log c.drive_on.new.log (step_events name c.args.is_quiet (drive_step core)) =
    did.told ∙ ap (λ (n : List ℕ). record log { lines = log.lines ++ transcript (step_events n c.args.is_quiet (drive_step core)) }) c.loop-done.invariant.name in
    let idle = steps_idle name c.args.is_quiet core c.drive_on.new.self.core log.steps log c.drive_on.new.log over rests did.core keeps in
    let on : CoreState → LogState → Type 0 = λ k l. DrivesOn name c.args.is_quiet c.args.count c.args.self.now.core c.args.log.now (c.args.count - c.loop-done.done) k l in
    subst (λ (k : CoreState). on k c.drive_on.new.log) (sym idle.1.0) (subst (λ (l : LogState). on core l) (sym idle.1.1) c.loop-done.invariant.on)

pub returns-then-not-branch-clause-over : goal.returns-then-not-branch-clause-over
returns-then-not-branch-clause-over c =
    let name = c.args.self.now.name in
    let core = c.loop-done.self.core in
    let log = c.loop-done.log in
    let over : (is_crashed core.life.state || eqb log.steps STEPS_MOST) ≡ false =
    ap (λ n. is_crashed core.life.state || eqb n STEPS_MOST) (sym c.steps.ensures.steps) ∙ sym c.is_over.ensures ∙ c.if-is_over.false in
    let did = c.in_ok-drive_on.ensures in
    let rests : false ≡ not (is_idle core) = sym c.if-not-branch.true ∙ did.steps in
    let keeps : Keeps log c.drive_on.new.log (step_events name c.args.is_quiet (drive_step core)) =
    did.told ∙ ap (λ (n : List ℕ). record log { lines = log.lines ++ transcript (step_events n c.args.is_quiet (drive_step core)) }) c.loop-done.invariant.name in
    let idle = steps_idle name c.args.is_quiet core c.drive_on.new.self.core log.steps log c.drive_on.new.log over rests did.core keeps in
    inr (subst (λ (k : CoreState). is_over name k c.drive_on.new.log.steps ≡ true) (sym idle.1.0)
    (rest_over name c.args.is_quiet core c.drive_on.new.log.steps (event.Idle name) idle.0))

pub loop-done-preserved : goal.loop-done-preserved
loop-done-preserved c =
    let name = c.args.self.now.name in
    let core = c.loop-done.self.core in
    let log = c.loop-done.log in
    let left = c.args.count - c.loop-done.done in
    let more = c.args.count - (c.loop-done.done + 1) in
    let one : left ≡ suc more = omega (arith, c.loop-done-test.true, c.requires.most) in
    let over : (is_crashed core.life.state || eqb log.steps STEPS_MOST) ≡ false =
    ap (λ n. is_crashed core.life.state || eqb n STEPS_MOST) (sym c.steps.ensures.steps) ∙ sym c.is_over.ensures ∙ c.if-is_over.false in
    let did = c.in_ok-drive_on.ensures in
    let works : true ≡ not (is_idle core) = sym c.if-not-branch.false ∙ did.steps in
    let go = steps_go name c.args.is_quiet core log.steps over works in
    let keeps : Keeps log c.drive_on.new.log (step_events name c.args.is_quiet (drive_step core)) =
    did.told ∙ ap (λ (n : List ℕ). record log { lines = log.lines ++ transcript (step_events n c.args.is_quiet (drive_step core)) }) c.loop-done.invariant.name in
    let same : c.drive_on.new.log.steps ≡ log.steps = ap (λ (l : LogState). l.steps) keeps in
    let counted : c.count.new.self ≡ record c.drive_on.new.log { steps = log.steps + 1 } =
    count_on c.count.result c.drive_on.new.log c.count.new.self c.count.ensures.spent c.count.ensures.counted (ap (λ n. eqb n STEPS_MOST) same ∙ go.1)
    ∙ ap (λ n. record c.drive_on.new.log { steps = n + 1 }) same in
    record {
      name = did.name ∙ c.loop-done.invariant.name;
      on = drive_goes_on name c.args.is_quiet c.args.count c.args.self.now.core c.args.log.now left more core c.drive_on.new.self.core log
          c.count.new.self one c.loop-done.invariant.on go.0 go.1 did.core (counted ∙ ap (λ (l : LogState). record l { steps = log.steps + 1 }) keeps);
    }

pub returns-clause-on : goal.returns-clause-on
returns-clause-on c =
    let same : c.args.count - c.loop-done.done ≡ c.args.count - c.args.most = omega (arith, c.loop-done-test.false, c.loop-done.auto.done-end) in
    subst (λ (left : ℕ). DrivesOn c.args.self.now.name c.args.is_quiet c.args.count c.args.self.now.core c.args.log.now left c.loop-done.self.core c.loop-done.log) same c.loop-done.invariant.on

pub returns-clause-over : goal.returns-clause-over
returns-clause-over c = inl (omega (arith, c.requires.most))
