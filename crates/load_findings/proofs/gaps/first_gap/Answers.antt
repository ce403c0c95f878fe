use Rattle.std.proofs.Common.{arith}
use Rattle.memory_pool.proofs.LeastPlaces.{clear_behind, clear_between, free_more, least_from, next_le}
use Rattle.load_findings.proofs.gaps.first_gap.Goals as goal
use Rattle.load_findings.proofs.gaps.first_gap.Goals.{else-free-len-2, else-loop-block-test, then-free-len-2+else-place-len, then-loop-block-test+then-free-len}

pub returns-then-place-len-clause-clear : goal.returns-then-place-len-clause-clear
returns-then-place-len-clause-clear c = λ fits.
    let next = c.next_multiple_of-place in
    clear_between c.args.blocks.now c.loop-block.block-index next.result c.args.len c.requires.ordered
    (λ k d less lt. omega (arith, next.ensures.lower_bound, c.loop-block.invariant.passed k d less lt))
    c.from-then-free-len-2.result _ c.from-then-free-len-2.ensures c.if-place-len.true

pub returns-then-place-len-clause-least : goal.returns-then-place-len-clause-least
returns-then-place-len-clause-least c =
    let next = c.next_multiple_of-place in
    least_from c.args.blocks.now c.args.from c.args.len c.args.align c.loop-block.block-index c.loop-block.free next.result c.loop-block.invariant c.requires.aligned next.ensures.upper_bound next.ensures.multiple

pub loop-block-preserved : goal.loop-block-preserved
loop-block-preserved c =
    let align = c.args.align in
    let free = c.loop-block.free in
    rw c.max-free.ensures
    (free_more c.args.blocks.now c.args.from c.args.len align c.loop-block.block-index free c.range_end.result _ c.loop-block.invariant c.loop-block-test.true c.range_end.ensures.end c.range_end.ensures.most
    (λ lower ge is.
    elim c.if-free-len-2.branch [
      | then-free-len-2+else-place-len w ↦
          let next = w.next_multiple_of-place in
          omega (arith, w.from-then-free-len-2.ensures, w.if-place-len.false, next_le lower free align next.result c.requires.aligned is next.ensures.multiple next.ensures.upper_bound ge)
      | else-free-len-2 w ↦ omega (arith, c.from.ensures, w.if-free-len-2.false)
    ]))

pub returns-clause-clear : goal.returns-clause-clear
returns-clause-clear c = λ fits.
    let next = c.next_multiple_of in
    elim c.loop-block-test.branch [
      | else-loop-block-test w ↦
          clear_behind c.args.blocks.now c.loop-block.block-index next.result c.args.len
          (λ k d less lt. omega (arith, next.ensures.lower_bound, c.loop-block.invariant.passed k d less lt)) (omega (arith, w.loop-block-test.false))
      | then-loop-block-test+then-free-len w ↦ absurd (omega (arith, next.ensures.lower_bound, w.if-free-len.true))
    ]

pub returns-clause-least : goal.returns-clause-least
returns-clause-least c =
    let next = c.next_multiple_of in
    least_from c.args.blocks.now c.args.from c.args.len c.args.align c.loop-block.block-index c.loop-block.free next.result c.loop-block.invariant c.requires.aligned next.ensures.upper_bound next.ensures.multiple
