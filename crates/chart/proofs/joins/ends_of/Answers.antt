use Rattle.std.proofs.Common.{◌≡◌, ◌+◌, ◌-◌, ◌∷◌, drop, sym, ap, ◌∙◌, arith}
use Rattle.chart.specs.Charts.{arrow_in}
use Rattle.chart.proofs.RowFacts.{left_at}
use Rattle.chart.proofs.JoinFacts.{end_before}
use Rattle.chart.proofs.joins.ends_of.Goals as goal

pub loop-index-preserved-in_ok-insert : goal.loop-index-preserved-in_ok-insert
loop-index-preserved-in_ok-insert c =
    let rows = c.args.rows.now in
    let index = c.loop-index.index in
    let row = c.index-rows-index.result in
    let next : index ≡ index - 1 + 1 = omega arith in
    let here = left_at rows (index - 1) row (omega arith) c.index-rows-index.is ∙ ap (λ n. row ∷ drop n rows) (sym next) in
    record {
      within = omega arith;
      told = λ end.
          end_before end index (index - 1) row (drop (index - 1) rows) (drop index rows) c.in-Some.arrow _ _ next here (ap (λ r. arrow_in r.stand) c.index-rows-index.is ∙ sym c.arrow_in.ensures ∙ c.in-Some.is) (c.in_ok-insert.ensures.updates.0 end) (c.loop-index.invariant.told end);
    }
