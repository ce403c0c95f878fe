use Rattle.std.proofs.Common.{◌++◌, ℕ, List, IfErr, Result, Err, refl, sym, ap, subst, ◌∙◌}
use Rattle.std.proofs.lemmas.Result.{err_from_is_err_and}
use Rattle.rp_io.specs.Causes.{Rose}
use Rattle.journal.specs.Lines.{transcript}
use Rattle.command_run.specs.declared.faults.OutputFault.{OutputFault}
use Rattle.command_run.specs.Fetches.{EndsCut}
use Rattle.command_run.specs.Outcomes.{DrivesOn}
use Rattle.command_run.specs.CoreDrives.{drive_steps}
use Rattle.command_run.proofs.HandedLines.{front_of_none, no_write, on_write}
use Rattle.command_run.proofs.Driving.{handing_cut, handing_first, handing_handed, handing_on, handing_paused}
use Rattle.command_run.proofs.cores.NamedCore.drive_pieces.Goals as goal

pub loop-left-init : goal.loop-left-init
loop-left-init g c = record {
  name = refl;
  on = handing_first c.args.self.now.name c.args.is_quiet c.args.count c.args.self.now.core c.args.log.now c.requires (g.K.Sink.written c.args.out.now);
  same = refl;
  less = λ less. less;
}

pub returns-in_err-left-clause-cut : goal.returns-in_err-left-clause-cut
returns-in_err-left-clause-cut g c =
    let sink = g.K.Sink in
    let name = c.args.self.now.name in
    let first = c.args.self.now.core in
    let before = c.args.log.now in
    let found = err_from_is_err_and c.from_residual.result c.from_residual.ensures.1 in
    let text = before.lines ++ transcript (drive_steps c.args.count name c.args.is_quiet first before.steps).events in
    subst (λ (r : Result ℕ OutputFault). IfErr r (λ why. EndsCut why text (sink.written c.args.out.now) (sink.written c.loop-left.out) (sink.faults c.args.out.now) (sink.faults c.loop-left.out)))
    (sym (found.1 ∙ ap (λ (why : OutputFault). Err why) found.2)) (
      handing_cut name c.args.is_quiet c.args.count first before (sink.written c.args.out.now) c.loop-left.left c.loop-left.self.core c.loop-left.log (sink.written c.loop-left.out) c.loop-left.invariant.on
          (sink.written c.loop-left.out) (front_of_none (sink.written c.loop-left.out) c.loop-left.log.lines),
      c.loop-left.invariant.same,
    )

pub returns-in_err-left-clause-paused : goal.returns-in_err-left-clause-paused
returns-in_err-left-clause-paused g c =
    let found = err_from_is_err_and c.from_residual.result c.from_residual.ensures.1 in
    no_write ℕ _ c.from_residual.result (found.1 ∙ ap (λ (why : OutputFault). Err why) found.2)

pub returns-in_err-hand_on-clause-paused : goal.returns-in_err-hand_on-clause-paused
returns-in_err-hand_on-clause-paused g c =
    let sink = g.K.Sink in
    let name = c.args.self.now.name in
    let first = c.args.self.now.core in
    let before = c.args.log.now in
    let found = err_from_is_err_and c.from_residual-in_err-hand_on.result c.from_residual-in_err-hand_on.ensures.1 in
    let on = subst (λ (n : List ℕ). DrivesOn n c.args.is_quiet c.loop-left.left c.loop-left.self.core c.loop-left.log c.in_ok-left.left c.advance.new.self.core c.advance.new.log) c.loop-left.invariant.name c.in_ok-left.ensures.on in
    on_write ℕ _ c.from_residual-in_err-hand_on.result (found.1 ∙ ap (λ (why : OutputFault). Err why) found.2)
    (handing_paused name c.args.is_quiet c.args.count first before (sink.written c.args.out.now) c.loop-left.left c.loop-left.self.core c.loop-left.log (sink.written c.loop-left.out) c.loop-left.invariant.on
    c.in_ok-left.left c.advance.new.self.core c.advance.new.log on (sink.written c.hand_on.new.out) c.in_err-hand_on.ensures.front c.in_ok-left.ensures.most c.loop-left.invariant.less)

pub returns-in_err-hand_on-clause-cut : goal.returns-in_err-hand_on-clause-cut
returns-in_err-hand_on-clause-cut g c =
    let sink = g.K.Sink in
    let name = c.args.self.now.name in
    let first = c.args.self.now.core in
    let before = c.args.log.now in
    let found = err_from_is_err_and c.from_residual-in_err-hand_on.result c.from_residual-in_err-hand_on.ensures.1 in
    let text = before.lines ++ transcript (drive_steps c.args.count name c.args.is_quiet first before.steps).events in
    let on = subst (λ (n : List ℕ). DrivesOn n c.args.is_quiet c.loop-left.left c.loop-left.self.core c.loop-left.log c.in_ok-left.left c.advance.new.self.core c.advance.new.log) c.loop-left.invariant.name c.in_ok-left.ensures.on in
    let told = handing_on name c.args.is_quiet c.args.count first before (sink.written c.args.out.now) c.loop-left.left c.loop-left.self.core c.loop-left.log (sink.written c.loop-left.out) c.loop-left.invariant.on
    c.in_ok-left.left c.advance.new.self.core c.advance.new.log on in
    subst (λ (r : Result ℕ OutputFault). IfErr r (λ why. EndsCut why text (sink.written c.args.out.now) (sink.written c.hand_on.new.out) (sink.faults c.args.out.now) (sink.faults c.hand_on.new.out)))
    (sym (found.1 ∙ ap (λ (why : OutputFault). Err why) found.2)) (
      handing_cut name c.args.is_quiet c.args.count first before (sink.written c.args.out.now) c.in_ok-left.left c.advance.new.self.core c.advance.new.log (sink.written c.loop-left.out) told
          (sink.written c.hand_on.new.out) c.in_err-hand_on.ensures.front,
      subst (λ (n : ℕ). Rose n (sink.faults c.hand_on.new.out)) c.loop-left.invariant.same c.in_err-hand_on.ensures.failed,
    )

pub returns-then-before-left-lt-STRETCH-clause-on : goal.returns-then-before-left-lt-STRETCH-clause-on
returns-then-before-left-lt-STRETCH-clause-on g c =
    let sink = g.K.Sink in
    let name = c.args.self.now.name in
    let first = c.args.self.now.core in
    let before = c.args.log.now in
    let on = subst (λ (n : List ℕ). DrivesOn n c.args.is_quiet c.loop-left.left c.loop-left.self.core c.loop-left.log c.in_ok-left.left c.advance.new.self.core c.advance.new.log) c.loop-left.invariant.name c.in_ok-left.ensures.on in
    let told = handing_on name c.args.is_quiet c.args.count first before (sink.written c.args.out.now) c.loop-left.left c.loop-left.self.core c.loop-left.log (sink.written c.loop-left.out) c.loop-left.invariant.on
    c.in_ok-left.left c.advance.new.self.core c.advance.new.log on in
    handing_handed name c.args.is_quiet c.args.count first before (sink.written c.args.out.now) c.in_ok-left.left c.advance.new.self.core c.advance.new.log (sink.written c.loop-left.out) told
    (sink.written c.hand_on.new.out) c.hand_on.new.self c.in_ok-hand_on.ensures.handed c.in_ok-hand_on.ensures.steps

pub loop-left-preserved : goal.loop-left-preserved
loop-left-preserved g c =
    let sink = g.K.Sink in
    let name = c.args.self.now.name in
    let first = c.args.self.now.core in
    let before = c.args.log.now in
    let on = subst (λ (n : List ℕ). DrivesOn n c.args.is_quiet c.loop-left.left c.loop-left.self.core c.loop-left.log c.in_ok-left.left c.advance.new.self.core c.advance.new.log) c.loop-left.invariant.name c.in_ok-left.ensures.on in
    let told = handing_on name c.args.is_quiet c.args.count first before (sink.written c.args.out.now) c.loop-left.left c.loop-left.self.core c.loop-left.log (sink.written c.loop-left.out) c.loop-left.invariant.on
    c.in_ok-left.left c.advance.new.self.core c.advance.new.log on in
    record {
      name = c.in_ok-left.ensures.name ∙ c.loop-left.invariant.name;
      on = handing_handed name c.args.is_quiet c.args.count first before (sink.written c.args.out.now) c.in_ok-left.left c.advance.new.self.core c.advance.new.log (sink.written c.loop-left.out) told
          (sink.written c.hand_on.new.out) c.hand_on.new.self c.in_ok-hand_on.ensures.handed c.in_ok-hand_on.ensures.steps;
      same = c.in_ok-hand_on.ensures.same ∙ c.loop-left.invariant.same;
      less = λ _. c.in_ok-hand_on.ensures.less;
    }
