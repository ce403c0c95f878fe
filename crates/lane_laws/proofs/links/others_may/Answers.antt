use Rattle.lane_model.proofs.CrashMay.{close_may, reclaim_may, reopen_may}
use Rattle.lane_model.proofs.Others.{caller_may, others_may}
use Rattle.lane_laws.proofs.links.others_may.Goals as goal

pub returns : goal.returns
returns g c = record {
  step = λ link caller other follows wished next differ may may_other. others_may g.D.Desk.meaning link caller other follows wished next differ may may_other;
  caller = λ link new other next may. caller_may link new other next may;
  close = λ link inc other next may. close_may link other inc next may;
  reclaim = λ link caller other next differ may. reclaim_may g.D.Desk.meaning link caller other next differ may;
  reopen = λ link other next clear may. reopen_may g.D.Desk.meaning link other next clear may;
}
