use Rattle.std.proofs.Common.{List, sym, subst}
use Rattle.script_lang.specs.declared.commands.Command.{Command}
use Rattle.script_lang.specs.Runnable.{AreRunnable}
use Rattle.script_lang.proofs.Runnable.{are_runnable}
use Rattle.script_run.proofs.program.run_and_write.Goals as goal

pub run_commands-requires-clause-runnable : goal.run_commands-requires-clause-runnable
run_commands-requires-clause-runnable g c =
    subst (λ (commands : List Command). AreRunnable commands) (sym c.as_slice-commands.ensures.value) (are_runnable c.args.script.now.commands.items c.requires.script)
