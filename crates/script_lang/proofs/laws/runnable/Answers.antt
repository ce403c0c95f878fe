use Rattle.script_lang.proofs.Runnable.{are_runnable}
use Rattle.script_lang.proofs.laws.runnable.Goals as goal

pub returns : goal.returns
returns c = are_runnable
