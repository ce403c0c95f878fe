use Rattle.crash_recover.proofs.KeptBenches.{caller_kept, reclaim_kept}
use Rattle.crash_recover.proofs.KeptLinks.{advance_kept, start_kept, whole_kept}
use Rattle.core_laws.proofs.laws.link_is_kept.Goals as goal

pub returns : goal.returns
returns c = record {
  caller = caller_kept;
  begun = λ life bench caller call is. is;
  advance = advance_kept;
  call = whole_kept;
  start = start_kept;
  reclaim = reclaim_kept;
}
