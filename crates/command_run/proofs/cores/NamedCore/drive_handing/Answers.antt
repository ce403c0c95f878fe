use Rattle.std.proofs.Common.{◌≡◌, ◌++◌, ℕ, List, true, false, Option, IfErr, Result, Err, sym, ap, subst, ◌∙◌}
use Rattle.std.proofs.lemmas.Result.{err_from_is_err_and}
use Rattle.journal.specs.Lines.{transcript}
use Rattle.proc_state.specs.Lives.{CoreLife, is_up}
use Rattle.command_run.specs.NamedCores.{NamedCoreState}
use Rattle.link_commands.specs.declared.stops.Stop.{Stop}
use Rattle.command_run.specs.declared.faults.OutputFault.{OutputFault}
use Rattle.command_run.specs.CoreEffects.{CoreEffect}
use Rattle.command_run.specs.Fetches.{EndsCut}
use Rattle.command_run.specs.Outcomes.{HasCoreEffect}
use Rattle.command_run.specs.CoreDrives.{drive_steps}
use Rattle.command_run.proofs.HandedLines.{front_of_none, no_write}
use Rattle.command_run.proofs.Driving.{drive_up, handing_cut, handing_keeps, keeps_down, keeps_same}
use Rattle.command_run.proofs.cores.NamedCore.drive_handing.Goals as goal

pub returns-in_err-drive_running-clause-cut : goal.returns-in_err-drive_running-clause-cut
returns-in_err-drive_running-clause-cut g c =
    let sink = g.K.Sink in
    let name = c.args.self.now.name in
    let first = c.args.self.now.core in
    let before = c.args.log.now in
    let now = sink.written c.drive_pieces.new.out in
    let found = err_from_is_err_and c.from_residual-in_err-drive_running.result c.from_residual-in_err-drive_running.ensures.1 in
    let up : is_up first.life.state ≡ true =
    ap (λ (s : NamedCoreState). is_up s.core.life.state) (sym c.self.view_is) ∙ ap (λ (l : CoreLife). is_up l.state) (sym c.life.ensures) ∙ sym c.if-not-is_up.ensures in
    let cut : CoreEffect → Result (Option Stop) OutputFault → Type 0 =
    λ e r. IfErr r (λ why. EndsCut why (before.lines ++ transcript e.events) (sink.written c.args.out.now) now (sink.faults c.args.out.now) (sink.faults c.drive_pieces.new.out)) in
    subst (λ (e : CoreEffect). cut e c.from_residual-in_err-drive_running.result) (sym (drive_up name c.args.is_quiet first before.steps c.args.count up))
    (subst (cut (drive_steps c.args.count name c.args.is_quiet first before.steps)) (sym (found.1 ∙ ap (λ (why : OutputFault). Err why) found.2)) (
      handing_cut name c.args.is_quiet c.args.count first before (sink.written c.args.out.now) c.in_ok-left.left c.drive_pieces.new.self.core c.drive_pieces.new.log now c.in_ok-left.ensures.on now
          (front_of_none now c.drive_pieces.new.log.lines),
      c.in_ok-left.ensures.same,
    ))

pub returns-in_err-drive_running-clause-paused : goal.returns-in_err-drive_running-clause-paused
returns-in_err-drive_running-clause-paused g c =
    let found = err_from_is_err_and c.from_residual-in_err-drive_running.result c.from_residual-in_err-drive_running.ensures.1 in
    no_write (Option Stop) _ c.from_residual-in_err-drive_running.result (found.1 ∙ ap (λ (why : OutputFault). Err why) found.2)

pub returns-clause-less : goal.returns-clause-less
returns-clause-less g c less =
    let name = c.args.self.now.name in
    let is_quiet = c.args.is_quiet in
    let first = c.args.self.now.core in
    let before = c.args.log.now in
    let up : is_up first.life.state ≡ true =
    ap (λ (s : NamedCoreState). is_up s.core.life.state) (sym c.self.view_is) ∙ ap (λ (l : CoreLife). is_up l.state) (sym c.life.ensures) ∙ sym c.if-not-is_up.ensures in
    let did = subst (λ (n : List ℕ). HasCoreEffect (drive_steps c.in_ok-left.left n is_quiet c.drive_pieces.new.self.core c.drive_pieces.new.log.steps) c.drive_running.new.self.core c.drive_pieces.new.log c.drive_running.new.log c.in_ok-drive_running.field-0)
    c.in_ok-left.ensures.name c.in_ok-drive_running.ensures.effect in
    let same = λ (done : ℕ). ap (λ (e : CoreEffect). e.events) (drive_up name is_quiet first before.steps done up) in
    keeps_same _ _ c.args.count _ _ c.drive_running.new.log.lines same (same c.args.count)
    (handing_keeps name is_quiet c.args.count first before (g.K.Sink.written c.args.out.now) c.in_ok-left.left c.drive_pieces.new.self.core c.drive_pieces.new.log (g.K.Sink.written c.drive_pieces.new.out) c.in_ok-left.ensures.on
    c.drive_running.new.self.core c.drive_running.new.log c.in_ok-drive_running.field-0 did (c.in_ok-left.ensures.less less) c.in_ok-left.ensures.near)

pub returns-then-not-is_up-clause-less : goal.returns-then-not-is_up-clause-less
returns-then-not-is_up-clause-less g c less =
    let first = c.args.self.now.core in
    let down : is_up first.life.state ≡ false =
    ap (λ (s : NamedCoreState). is_up s.core.life.state) (sym c.self.view_is) ∙ ap (λ (l : CoreLife). is_up l.state) (sym c.life.ensures) ∙ sym c.if-not-is_up.ensures in
    keeps_down c.args.self.now.name c.args.is_quiet first c.drive.new.self.core c.args.count c.args.log.now c.drive.new.log c.in_ok-drive.field-0 down c.in_ok-drive.ensures.effect less
