use Rattle.std.proofs.Common.{ℕ, ◌-◌, ◌+◌, length, replicate, ap, ◌∙◌, arith}
use Rattle.std.proofs.lemmas.List.{length-replicate}
use Rattle.addr_translate.specs.Bytes.{with_bytes}
use Rattle.fw_load.proofs.Bytes.{writes_join}
use Rattle.fw_load.proofs.mapped.copy_segment.Goals as goal

pub returns-clause-memory : goal.returns-clause-memory
returns-clause-memory c =
    let file = c.args.segment.now.file.now in
    let zeros = replicate (c.args.segment.now.memory_len - length file) 0 in
    c.fill.ensures.filled ∙ ap (with_bytes (c.args.at + length file) zeros) c.write.ensures.written
    ∙ writes_join c.args.at file zeros c.args.memory.now (omega (arith, length-replicate {A = ℕ} (c.args.segment.now.memory_len - length file) 0))
