use Rattle.std.proofs.Common.{drop}
use Rattle.script_lang.specs.Runnable.{AreRunnable}
use Rattle.script_run.proofs.DemoSums.{CountsSoFar}
use Rattle.script_run.proofs.demos.count_messages.Given as goal

-- so much was accepted, and the commands that are left can be run
abbrev pub invariant-loop-command : goal.invariant-loop-command
invariant-loop-command l = record {
  so_far : CountsSoFar l.fn.commands (record { objects = l.objects; steps = l.log.steps }) l.accepted (drop l.command-index l.fn.commands);
  runnable : AreRunnable (drop l.command-index l.fn.commands);
}
