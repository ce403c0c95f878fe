-- The text of a report, by what was counted.
use Rattle.std.proofs.Common.{◌≡◌, ◌+◌, ◌≤◌, ◌<◌, ◌∙◌, ℕ, List, ap, arith, slice_index}
use Rattle.lane_model.specs.declared.states.BookEntry.{BookEntry}
use Rattle.rp_base.specs.declared.kinds.End.{End}
use Rattle.rp_base.specs.declared.limits.TheConstants.{CALLERS_MOST}
use Rattle.storm_run.specs.Counts.{IsStormLane, entry_count}
use Rattle.storm_run.specs.Storms.{caller_line, caller_lines, lane_line}
use Rattle.storm_run.proofs.Ranges.{same_text}

-- the line of a lane
pub line_as : (lane accepted handed all : ℕ) → accepted ≡ all → handed ≡ all → lane_line lane accepted handed handed ≡ lane_line lane all all all
line_as lane accepted handed all a h = λ i. lane_line lane (a i) (h i) (h i)

-- the lines of callers who sent as many messages each, by how many entries of a book are of each
pub lines_as : (first callers count : ℕ) (end : End) (entries : List BookEntry) (handed : ℕ) (counts : List ℕ) → IsStormLane first callers count entries handed → first + callers ≤ CALLERS_MOST
    → ((n : ℕ) → n < CALLERS_MOST → slice_index counts n ≡ entry_count n entries) → caller_lines first callers end (slice_index counts) ≡ caller_lines first callers end (λ number. count)
lines_as first callers count end entries handed counts lane few counted =
    same_text (λ n. caller_line n end (slice_index counts n)) (λ n. caller_line n end count) first callers
    (λ n above below. ap (caller_line n end) (counted n (omega arith) ∙ lane.each n above below))
