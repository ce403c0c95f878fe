use Rattle.core_laws.proofs.BenchMoves.{advanced, begun_reached, called, closed, enlisted, new_reached, reclaim_tried, reclaimed, reopened}
use Rattle.link_bench.specs.Watchers.{nobody_sees}
use Rattle.core_laws.proofs.CoreActs.{acted_reached}
use Rattle.core_laws.proofs.laws.bench_is_reached.Goals as goal

pub returns : goal.returns
returns c = record {
  new = new_reached;
  caller = enlisted;
  begun = begun_reached;
  advance = advanced;
  call = λ bench steps caller wanted. called bench 6 steps caller wanted;
  start = λ bench steps caller wanted. called bench 0 steps caller wanted;
  act = λ own bench steps asked fit is. acted_reached nobody_sees own bench tt steps asked fit is;
  close = closed;
  reclaim = reclaim_tried;
  end_caller = λ bench caller reached shut. reclaimed bench caller shut reached;
  reopen = reopened;
}
