use Rattle.std.proofs.Common.{◌≡◌, ◌⊎◌, inl, inr, ◌+◌, ℕ, List, true, IfOk, subst, arith}
use Rattle.std.proofs.lemmas.Result.{IfOk-weaker}
use Rattle.command_run.specs.Outcomes.{HasCoreEffect}
use Rattle.command_run.specs.CoreDrives.{drive_end, drive_steps, is_over}
use Rattle.command_run.proofs.Driving.{drive_ends, steps_end}
use Rattle.command_run.proofs.cores.NamedCore.drive_running.Goals as goal

-- where all steps were asked for, none is left or the drive is over
last_over : (left count : ℕ) (Over : Type 0) → (left + count ≡ count) ⊎ Over → (left ≡ 0) ⊎ Over
last_over left count Over (inl all) = inl (omega (arith, all))
last_over left count Over (inr over) = inr over

pub returns-clause-effect : goal.returns-clause-effect
returns-clause-effect c =
    let name = c.args.self.now.name in
    let left = c.in_ok-left.left in
    let core = c.advance.new.self.core in
    let log = c.advance.new.log in
    let did = c.in_ok-left.ensures in
    let over = last_over left c.args.count (is_over name core log.steps ≡ true) did.over in
    let at = subst (λ (n : List ℕ). IfOk c.end_drive.result (λ ending. HasCoreEffect (drive_end left n core log.steps) c.end_drive.new.self.core log c.end_drive.new.log ending)) did.name c.end_drive.ensures.effect in
    IfOk-weaker c.end_drive.result
    (λ ending. HasCoreEffect (drive_end left name core log.steps) c.end_drive.new.self.core log c.end_drive.new.log ending)
    (λ ending. HasCoreEffect (drive_steps c.args.count name c.args.is_quiet c.args.self.now.core c.args.log.now.steps) c.end_drive.new.self.core c.args.log.now c.end_drive.new.log ending)
    (λ ending has. drive_ends name c.args.is_quiet c.args.count c.args.self.now.core c.args.log.now left core c.end_drive.new.self.core log c.end_drive.new.log
    (drive_end left name core log.steps) ending did.on (steps_end name c.args.is_quiet left core log.steps over) has)
    at
