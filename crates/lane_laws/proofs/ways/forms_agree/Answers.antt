use Rattle.lane_laws.proofs.FormMoves.{moves_agree}
use Rattle.lane_laws.proofs.ways.forms_agree.Goals as goal

pub returns : goal.returns
returns g c = moves_agree g.L.LaneForm.form g.L.Desk.Desk.meaning g.met.L.LaneForm.is_form
