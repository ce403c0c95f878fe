use Rattle.std.proofs.Common.{arith, rules, leb}
use Rattle.std.specs.List.Sorted.{IsNonDecreasingBy}
use Rattle.std.proofs.lemmas.List.Sorted.{IsPermutation-insert, IsPartitionPoint-from_clause, IsPartitionedBy-leb}
use Rattle.memory_pool.proofs.Ordered.{insert_ordered}
use Rattle.load_findings.proofs.placing.insert_by_address.Goals as goal

pub returns-clause-ordered : goal.returns-clause-ordered
returns-clause-ordered c =
    let starts : IsNonDecreasingBy (λ other. other.da) c.deref.result.now = rw c.deref.ensures.value c.requires.ordered.starts in
    let parted = IsPartitionedBy-leb (λ other. other.da) c.deref.result.now c.args.block.da starts in
    let point = IsPartitionPoint-from_clause (λ other. leb other.da c.args.block.da) c.deref.result.now c.partition_point-place.result c.partition_point-place.ensures.partitioned parted (λ a r q k. search rules) in
    rw c.in_ok-insert.ensures.items
    (insert_ordered c.args.memory.now.items c.partition_point-place.result c.args.block c.requires.some c.requires.apart c.requires.ordered (omega arith) (rw c.deref.ensures.value at point))

pub returns-clause-more : goal.returns-clause-more
returns-clause-more c =
    rw c.in_ok-insert.ensures.items (IsPermutation-insert c.args.memory.now.items c.partition_point-place.result c.args.block)
