use Rattle.act_laws.proofs.CoreLands.{crash_lands, ready_lands}
use Rattle.act_laws.proofs.DoneDeeds.{done_of, drive_done}
use Rattle.act_laws.proofs.acts.cores_do.Goals as goal

pub returns : goal.returns
returns c = record {
  drive = drive_done;
  crash = λ bench. done_of bench _ _ (crash_lands bench);
  ready = λ bench. done_of bench _ _ (ready_lands bench);
}
