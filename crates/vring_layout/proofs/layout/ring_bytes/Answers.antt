use Rattle.std.proofs.Common.{◌≡◌, length, ap, ◌∙◌, arith, rules}
use Rattle.vring_layout.specs.Rings.{ring_layout}
use Rattle.vring_layout.proofs.Lengths.{length-ring_layout}
use Rattle.vring_layout.proofs.layout.ring_bytes.Goals as goal

pub returns-clause-size : goal.returns-clause-size
returns-clause-size c =
    let words = c.args.words.now in
    let bytes : c.push_used_ring.new.bytes.items ≡ ring_layout c.args.align words = search rules in
    ap length bytes ∙ length-ring_layout c.args.align words (omega arith) c.requires.avail c.requires.used
