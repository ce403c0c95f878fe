use Rattle.std.proofs.Common.{◌≡◌, length, get_or, arith, ap, ◌∙◌}
use Rattle.core_dump.specs.Parts.{MemoryPart, part_len}
use Rattle.core_dump.proofs.Steps.{header_more, len_more}
use Rattle.core_dump.proofs.dumps.put_program_headers.Goals as goal

pub loop-part-preserved : goal.loop-part-preserved
loop-part-preserved c =
    let parts = c.args.parts.now in
    let i = c.loop-part.part-index in
    let item = c.part-item.result in
    let len = length c.part.inside.bytes.now in
    let same = c.part.view_is ∙ c.part-item.is in
    let da : c.from.result ≡ (get_or parts i item).da = c.from.ensures ∙ ap (λ (part : MemoryPart). part.da) same in
    let size : len ≡ part_len (get_or parts i item) = ap part_len same in
    record {
      whole =
          header_more parts i c.loop-part.offset c.from.result len item c.loop-part.dump.items c.put_load_header.new.out.items _ c.loop-part-test.true da size c.in_ok-put_load_header.ensures
          c.loop-part.invariant.whole;
      left = omega (arith, len_more parts i item c.loop-part-test.true, c.loop-part.invariant.left, size);
    }
