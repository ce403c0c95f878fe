use Rattle.std.proofs.Common.{◌≡◌, drop}
use Rattle.script_lang.specs.Runnable.{AreRunnable}
use Rattle.run_log.specs.Logs.{KeepsLess}
use Rattle.command_run.specs.Runs.{AsksNone, new_run, run_from}
use Rattle.script_run.proofs.SoFar.{SoFar}
use Rattle.script_run.proofs.runs.tell_commands.Given as goal

-- what the commands so far told is kept or handed on, and those that are left follow
abbrev pub invariant-loop-command : goal.invariant-loop-command
invariant-loop-command g l =
    let store = g.F.FirmwareStore in
    let sink = g.K.Sink in
    record {
      so_far : SoFar (store.images l.fn.store) l.fn.commands (drop l.command-index l.fn.commands) (sink.written l.fn.out) (sink.written l.out) l.log.lines
          (λ later rest. run_from later (record { objects = l.objects; steps = l.log.steps }) rest);
      less : KeepsLess l.log;
      runnable : AreRunnable (drop l.command-index l.fn.commands);
      same : sink.faults l.out ≡ sink.faults l.fn.out;
      images : store.images l.store ≡ store.images l.fn.store;
      still : store.faults l.store ≡ store.faults l.fn.store;
      unasked : AsksNone new_run l.fn.commands → (l.store ≡ l.fn.store) × AsksNone (record { objects = l.objects; steps = l.log.steps }) (drop l.command-index l.fn.commands);
    }
