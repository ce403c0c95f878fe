use Rattle.std.proofs.Common.{◌≤◌, ap, sym, ◌∙◌}
use Rattle.std.proofs.lemmas.List.Elements.{All-tail}
use Rattle.elf_image.specs.Segments.{SegmentAt}
use Rattle.elf_image.specs.SegmentsRead.{segment_read}
use Rattle.fw_load.specs.Loading.{segments_unmapped}
use Rattle.addr_translate.specs.Maps.{place_at}
use Rattle.fw_load.proofs.Steps.{unmapped_more}
use Rattle.fw_load.proofs.mapped.test_segments.Goals as goal

pub loop-segment-preserved : goal.loop-segment-preserved
loop-segment-preserved c =
    let at = place_at c.args.map.now in
    let segment = segment_read c.in-Some.segment in
    let more = unmapped_more at segment c.next.new.self c.memory_at.result c.memory_at.ensures.place c.if-is_none.ensures in
    record {
      decides = sym more ∙ ap (segments_unmapped at) (sym c.in-Some.ensures.steps) ∙ c.loop-segment.invariant.decides;
      some = All-tail (λ (segment : SegmentAt). 1 ≤ segment.memory_len) segment c.next.new.self (rw c.in-Some.ensures.steps at c.loop-segment.invariant.some);
    }
