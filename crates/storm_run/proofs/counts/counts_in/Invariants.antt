use Rattle.std.proofs.Common.{◌≡◌, ◌<◌, ℕ, length, slice_index, take}
use Rattle.rp_base.specs.declared.limits.TheConstants.{CALLERS_MOST}
use Rattle.storm_run.specs.Counts.{entry_count}
use Rattle.storm_run.proofs.counts.counts_in.Given as goal

-- each number's entries among the first ones are counted
abbrev pub invariant-loop-number : goal.invariant-loop-number
invariant-loop-number l = record {
  many : length l.counts ≡ CALLERS_MOST;
  counted : (caller : ℕ) → caller < CALLERS_MOST → slice_index l.counts caller ≡ entry_count caller (take l.number l.book.entries);
}
