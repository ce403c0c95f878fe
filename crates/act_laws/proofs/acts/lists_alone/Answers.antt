use Rattle.std.proofs.Common.{refl}
use Rattle.link_bench.proofs.Lists.{call_lists, close_lists, later_lists, reclaim_lists}
use Rattle.act_laws.proofs.acts.lists_alone.Goals as goal

pub returns : goal.returns
returns c = record {
  new = λ config host remote. refl;
  caller = λ bench end number. refl;
  call = call_lists;
  later = later_lists;
  close = close_lists;
  reclaim = reclaim_lists;
  reopen = λ bench. refl;
}
