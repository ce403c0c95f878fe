use Rattle.std.proofs.Common.{ap}
use Rattle.run_laws.specs.Drives.{steps_events}
use Rattle.drive_laws.specs.Steps.{drive_length}
use Rattle.run_laws.proofs.ScriptDrives.{all_made, drive_fewer, drive_walked, drive_whole}
use Rattle.run_laws.proofs.drives.script_drive.Goals as goal

pub returns : goal.returns
returns c = record {
  steps_and_end = λ name is_quiet core count steps. drive_walked name is_quiet count core steps;
  fewer = λ core count steps. drive_fewer count core steps;
  enough = λ core count steps. all_made count core steps;
  core = λ name is_quiet core count steps fits. ap (λ effect. effect.core) (drive_whole name is_quiet count core steps fits);
  steps = λ name is_quiet core count steps fits. ap (λ effect. effect.steps) (drive_whole name is_quiet count core steps fits);
  goes_on = λ name is_quiet core count steps fits. ap (λ effect. effect.ending) (drive_whole name is_quiet count core steps fits);
  told = λ name is_quiet core count steps fits. record {
    earlier = steps_events (drive_length count core) name is_quiet core;
    is = ap (λ effect. effect.events) (drive_whole name is_quiet count core steps fits);
  };
}
