use Rattle.std.proofs.Common.{arith, rules, leb, ◌+◌, ap, sym, ◌∙◌}
use Rattle.std.specs.List.{list_any}
use Rattle.memory_pool.specs.Ranges.{meets_block}
use Rattle.std.proofs.lemmas.List.Sorted.{IsPartitionPoint-from_clause, IsPartitionedBy-leb}
use Rattle.memory_pool.proofs.LeastPlaces.{is_gap, take_rest, place_found, place_missing}
use Rattle.load_findings.proofs.gaps.least_place.Goals as goal

pub returns-then-place-from-clause-place : goal.returns-then-place-from-clause-place
returns-then-place-from-clause-place c =
    let pool = c.args.pool.now in
    let blocks = c.args.blocks.now in
    let found = c.first_gap-place in
    let parted = IsPartitionedBy-leb (λ block. block.da + block.len) blocks pool.da c.requires.ordered.ends in
    let point = IsPartitionPoint-from_clause (λ block. leb (block.da + block.len) pool.da) blocks c.partition_point-first.result c.partition_point-first.ensures.partitioned parted (λ a r q k. search rules) in
    let rest = take_rest blocks c.partition_point-first.result in
    let gap = is_gap pool blocks c.from.result c.from-2.result c.partition_point-first.result found.result (omega arith) point found.ensures.from found.ensures.aligned (λ lower ge lt is. ap (list_any (meets_block lower c.from.result)) (sym rest) ∙ found.ensures.least lower ge lt is) in
    let is = place_found pool blocks c.from.result c.from-2.result c.partition_point-first.result found.result gap (omega arith) (ap (list_any (meets_block found.result c.from.result)) (sym rest) ∙ found.ensures.clear (omega arith)) in
    sym (rw c.from.ensures at (rw c.from-2.ensures at is))

pub returns-else-place-from-clause-place : goal.returns-else-place-from-clause-place
returns-else-place-from-clause-place c =
    let pool = c.args.pool.now in
    let blocks = c.args.blocks.now in
    let found = c.first_gap-place in
    let parted = IsPartitionedBy-leb (λ block. block.da + block.len) blocks pool.da c.requires.ordered.ends in
    let point = IsPartitionPoint-from_clause (λ block. leb (block.da + block.len) pool.da) blocks c.partition_point-first.result c.partition_point-first.ensures.partitioned parted (λ a r q k. search rules) in
    let rest = take_rest blocks c.partition_point-first.result in
    let gap = is_gap pool blocks c.from.result c.from-2.result c.partition_point-first.result found.result (omega arith) point found.ensures.from found.ensures.aligned (λ lower ge lt is. ap (list_any (meets_block lower c.from.result)) (sym rest) ∙ found.ensures.least lower ge lt is) in
    let is = place_missing pool blocks c.from.result c.from-2.result c.partition_point-first.result found.result gap (omega arith) in
    sym (rw c.from.ensures at (rw c.from-2.ensures at is))
