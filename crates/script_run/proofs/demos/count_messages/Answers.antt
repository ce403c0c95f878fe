use Rattle.std.proofs.Common.{◌+◌, drop, sym, ap, subst, ◌∙◌}
use Rattle.script_run.specs.declared.demos.AcceptedCounts.{AcceptedCounts}
use Rattle.run_log.specs.Logs.{LogState}
use Rattle.command_run.specs.Runs.{ObjectsState, new_run}
use Rattle.script_run.specs.Demos.{accepted_sum}
use Rattle.command_run.proofs.RunSteps.{left_at, runnable_first}
use Rattle.script_run.proofs.DemoSums.{CountsSoFar, counts_after, counts_all, counts_none, counts_until, IsOfBooks, sum_fits}
use Rattle.std.proofs.Math.ListN.{drop_of_length-le}
use Rattle.script_run.proofs.demos.count_messages.Goals as goal

pub loop-command-init : goal.loop-command-init
loop-command-init c =
    let commands = c.args.commands.now in
    record {
      so_far = subst (λ (objects : ObjectsState). CountsSoFar commands (record { objects = objects; steps = c.new-log.result.steps }) c.none-accepted.result commands) (sym c.new-objects.ensures)
          (subst (λ (log : LogState). CountsSoFar commands (record { objects = new_run.objects; steps = log.steps }) c.none-accepted.result commands) (sym c.new-log.ensures)
          (subst (λ (accepted : AcceptedCounts). CountsSoFar commands new_run accepted commands) (sym c.none-accepted.ensures) (counts_none commands c.requires.few)));
      runnable = c.requires.runnable;
    }

pub returns-in-Some : goal.returns-in-Some
returns-in-Some c =
    let commands = c.args.commands.now in
    let i = c.loop-command.command-index in
    let first = c.command-item.result in
    counts_until commands c.loop-command.objects c.run.new.self c.loop-command.log c.run.new.log c.loop-command.accepted (drop i commands) first (drop (i + 1) commands) c.in_ok-stop.stop
    (left_at commands i first c.loop-command-test.true c.command-item.is) c.loop-command.invariant.so_far c.in_ok-stop.ensures c.in-Some.stop c.in-Some.is

pub and-accepted-requires : goal.and-accepted-requires
and-accepted-requires c =
    let commands = c.args.commands.now in
    let i = c.loop-command.command-index in
    let first = c.command-item.result in
    let fits = sum_fits commands c.loop-command.objects c.run.new.self c.loop-command.log c.run.new.log c.loop-command.accepted (drop i commands) first (drop (i + 1) commands) c.in_ok-stop.stop
    (left_at commands i first c.loop-command-test.true c.command-item.is) c.loop-command.invariant.so_far c.in_ok-stop.ensures c.drive_counts.result
    (record { to_host = c.drive_counts.ensures.to_host; to_remote = c.drive_counts.ensures.to_remote }) in
    record { to_host = fits.0; to_remote = fits.1 }

pub loop-command-preserved : goal.loop-command-preserved
loop-command-preserved c =
    let commands = c.args.commands.now in
    let i = c.loop-command.command-index in
    let first = c.command-item.result in
    let is = left_at commands i first c.loop-command-test.true c.command-item.is in
    record {
      so_far = subst (λ (accepted : AcceptedCounts). CountsSoFar commands (record { objects = c.run.new.self; steps = c.clear.new.self.steps }) accepted (drop (i + 1) commands))
          (sym (c.and-accepted.ensures ∙ ap (accepted_sum c.loop-command.accepted) c.drive_counts.ensures.accepted))
          (counts_after commands c.loop-command.objects c.run.new.self c.loop-command.log c.run.new.log c.loop-command.accepted (drop i commands) first (drop (i + 1) commands) c.in_ok-stop.stop
          is c.loop-command.invariant.so_far c.in_ok-stop.ensures c.in_default.is c.clear.new.self.steps (ap (λ (log : LogState). log.steps) c.clear.ensures)
          (subst (λ (driven : AcceptedCounts). IsOfBooks driven) c.drive_counts.ensures.accepted (record { to_host = c.drive_counts.ensures.to_host; to_remote = c.drive_counts.ensures.to_remote })));
      runnable = (runnable_first first (drop (i + 1) commands) (drop i commands) is c.loop-command.invariant.runnable).1;
    }

pub returns : goal.returns
returns c =
    let commands = c.args.commands.now in
    counts_all commands (record { objects = c.loop-command.objects; steps = c.loop-command.log.steps }) c.loop-command.accepted
    (subst (CountsSoFar commands (record { objects = c.loop-command.objects; steps = c.loop-command.log.steps }) c.loop-command.accepted)
    (drop_of_length-le commands c.loop-command-test.false) c.loop-command.invariant.so_far)
