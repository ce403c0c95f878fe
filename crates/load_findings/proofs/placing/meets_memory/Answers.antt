use Rattle.std.proofs.Common.{◌+◌, arith, rules, leb, length, sym, ◌∙◌}
use Rattle.std.proofs.lemmas.Bool.{le-ltb}
use Rattle.std.proofs.lemmas.List.Sorted.{IsPartitionPoint-from_clause, IsPartitionedBy-leb}
use Rattle.memory_pool.proofs.LeastPlaces.{meets_first, meets_none}
use Rattle.load_findings.proofs.placing.meets_memory.Goals as goal

pub returns-then-first-memory : goal.returns-then-first-memory
returns-then-first-memory c =
    let memory = c.args.memory.now in
    let da = c.args.da in
    let parted = IsPartitionedBy-leb (λ block. block.da + block.len) memory da c.requires.ends in
    let point = IsPartitionPoint-from_clause (λ block. leb (block.da + block.len) da) memory c.partition_point-first.result c.partition_point-first.ensures.partitioned parted (λ a r q k. search rules) in
    rw c.range_end.ensures.end (meets_first memory c.partition_point-first.result da c.args.len c.from.result _ c.requires point (omega arith) c.from.ensures)

pub returns-else-first-memory : goal.returns-else-first-memory
returns-else-first-memory c =
    let memory = c.args.memory.now in
    let da = c.args.da in
    let parted = IsPartitionedBy-leb (λ block. block.da + block.len) memory da c.requires.ends in
    let point = IsPartitionPoint-from_clause (λ block. leb (block.da + block.len) da) memory c.partition_point-first.result c.partition_point-first.ensures.partitioned parted (λ a r q k. search rules) in
    le-ltb c.partition_point-first.result (length memory) (omega arith) ∙ sym (meets_none memory c.partition_point-first.result da c.args.len point (omega arith))
