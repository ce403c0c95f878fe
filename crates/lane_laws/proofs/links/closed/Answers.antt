use Rattle.lane_laws.proofs.CrashLaws.{reclaim_hands_none, step_hands_none}
use Rattle.lane_laws.proofs.LinkRuns.{moves_hand_none, moves_record_none}
use Rattle.lane_laws.proofs.links.closed.Goals as goal

pub returns : goal.returns
returns g c = record {
  step = λ link caller follows wished shut. step_hands_none g.D.Desk.meaning link caller follows wished shut;
  reclaim = λ link caller. reclaim_hands_none g.D.Desk.meaning link caller;
  handings = λ start moves end shut. moves_record_none g.D.Desk.meaning start moves end shut;
  takers = λ start moves shut. moves_hand_none g.D.Desk.meaning start moves shut;
}
