use Rattle.drive_laws.proofs.DriveFacts.{made_most, made_fewer, made_before, drive_parts}
use Rattle.drive_laws.proofs.drives.drive.Goals as goal

pub returns : goal.returns
returns c = record { most = made_most; fewer = made_fewer; made = made_before; parts = drive_parts }
