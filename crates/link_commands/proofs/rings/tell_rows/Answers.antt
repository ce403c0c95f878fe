use Rattle.std.proofs.Common.{◌≡◌, ◌-◌, ◌*◌, ℕ, List, ◌++◌, drop, take, sym, ap, ◌∙◌, append-nil, arith}
use Rattle.journal.specs.Lines.{transcript}
use Rattle.run_log.specs.Logs.{LogState}
use Rattle.link_commands.specs.RingDumps.{dump_rows, row_count}
use Rattle.link_commands.proofs.RingRows.{rows_none, row_bytes, row_told}
use Rattle.link_commands.proofs.rings.tell_rows.Goals as goal

pub loop-row-preserved : goal.loop-row-preserved
loop-row-preserved c =
    let bytes = c.args.bytes.now in
    let first = 16 * c.loop-row.row in
    record {
      lines =
          row_told (row_count bytes) c.loop-row.row c.args.name bytes (take (c.min-past.result - first) (drop first bytes)) c.loop-row.log.lines c.tell_row.new.log.lines c.loop-row-test.true
          (row_bytes bytes first c.min-past.result c.min-past.ensures) (ap (λ (log : LogState). log.lines) c.in_ok-tell_row.ensures)
          ∙ c.loop-row.invariant.lines;
      steps = ap (λ (log : LogState). log.steps) c.in_ok-tell_row.ensures ∙ c.loop-row.invariant.steps;
    }

pub returns : goal.returns
returns c =
    let bytes = c.args.bytes.now in
    let none : row_count bytes - c.loop-row.row ≡ 0 = omega (arith, c.loop-row-test.false) in
    let last : c.loop-row.log.lines ≡ c.loop-row.log.lines ++ transcript (dump_rows (row_count bytes - c.loop-row.row) c.args.name (16 * c.loop-row.row) (drop (16 * c.loop-row.row) bytes)) =
    sym (append-nil c.loop-row.log.lines)
    ∙ ap (λ (text : List ℕ). c.loop-row.log.lines ++ text) (sym (ap transcript
    (ap (λ n. dump_rows n c.args.name (16 * c.loop-row.row) (drop (16 * c.loop-row.row) bytes)) none ∙ rows_none c.args.name (16 * c.loop-row.row) (drop (16 * c.loop-row.row) bytes)))) in
    ap (λ (lines : List ℕ). record { lines = lines; steps = c.loop-row.log.steps }) (last ∙ c.loop-row.invariant.lines)
    ∙ ap (λ (steps : ℕ). record { lines = c.args.log.now.lines ++ transcript (dump_rows (row_count bytes) c.args.name 0 bytes); steps = steps }) c.loop-row.invariant.steps
