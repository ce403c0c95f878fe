use Rattle.std.proofs.Common.{◌≡◌, ◌++◌, ◌-◌, ◌*◌, drop}
use Rattle.journal.specs.Lines.{transcript}
use Rattle.link_commands.specs.RingDumps.{dump_rows, row_count}
use Rattle.link_commands.proofs.rings.tell_rows.Given as goal

-- the lines so far, and those of the rows that are left
abbrev pub invariant-loop-row : goal.invariant-loop-row
invariant-loop-row l =
    record {
      lines : l.log.lines ++ transcript (dump_rows (row_count l.fn.bytes - l.row) l.fn.name (16 * l.row) (drop (16 * l.row) l.fn.bytes))
          ≡ l.fn.log.lines ++ transcript (dump_rows (row_count l.fn.bytes) l.fn.name 0 l.fn.bytes);
      steps : l.log.steps ≡ l.fn.log.steps;
    }
