use Rattle.core_laws.proofs.Beginnings.{boot_begins, recovery_begins, recovery_reopens}
use Rattle.core_laws.proofs.laws.lives_begin_empty.Goals as goal

pub returns : goal.returns
returns c = record {
  boot = boot_begins;
  recovery = λ core found did kept begins is. recovery_begins core found kept did begins is;
  reopening = recovery_reopens;
}
