use Rattle.std.proofs.Common.{ℕ, replicate, refl, ap, ◌∙◌, arith}
use Rattle.addr_translate.proofs.Zeros.{piece_more, pieces_end}
use Rattle.addr_translate.proofs.memory.CoreMemory.new.Goals as goal

pub loop-preserved : goal.loop-preserved
loop-preserved c =
    piece_more c.loop.counter c.loop.bytes.items c.extend_from_slice.new.self.items _ c.in_ok-extend_from_slice.ensures.items refl c.loop.invariant

pub returns : goal.returns
returns c =
    pieces_end c.loop.counter c.memory_len-len.result c.loop.bytes.len c.loop.bytes.items c.resize.new.self.items (omega (arith, c.loop.auto.counter-end)) c.loop.bytes.ok.0 c.in_ok-resize.ensures.items c.loop.invariant
    ∙ ap (λ (n : ℕ). replicate n 0) c.memory_len-len.ensures.bytes
