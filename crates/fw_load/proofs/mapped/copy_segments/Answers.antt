use Rattle.std.proofs.Common.{◌≤◌, ap, sym, ◌∙◌}
use Rattle.std.proofs.lemmas.List.Elements.{All-tail}
use Rattle.elf_image.specs.Segments.{SegmentAt}
use Rattle.elf_image.specs.SegmentsRead.{segment_read}
use Rattle.fw_load.specs.Memory.{segment_bytes, with_at, with_segments}
use Rattle.addr_translate.specs.Maps.{place_at}
use Rattle.fw_load.proofs.Steps.{segment_more}
use Rattle.fw_load.proofs.mapped.copy_segments.Goals as goal

pub loop-segment-preserved-in-Some-memory_at : goal.loop-segment-preserved-in-Some-memory_at
loop-segment-preserved-in-Some-memory_at c =
    let at = place_at c.args.map.now in
    let segment = segment_read c.in-Some.segment in
    let memory = c.loop-segment.memory in
    let written = c.copy_segment.ensures.memory ∙ ap (λ found. with_at found (segment_bytes segment) memory) (sym c.in-Some-memory_at.is) in
    record {
      whole =
          segment_more at segment c.next.new.self memory c.copy_segment.new.memory c.memory_at.result c.memory_at.ensures.place written
          ∙ ap (λ left. with_segments at left memory) (sym c.in-Some.ensures.steps)
          ∙ c.loop-segment.invariant.whole;
      len = c.copy_segment.ensures.length ∙ c.loop-segment.invariant.len;
      some = All-tail (λ (segment : SegmentAt). 1 ≤ segment.memory_len) segment c.next.new.self (rw c.in-Some.ensures.steps at c.loop-segment.invariant.some);
    }

pub loop-segment-preserved : goal.loop-segment-preserved
loop-segment-preserved c =
    let at = place_at c.args.map.now in
    let segment = segment_read c.in-Some.segment in
    let memory = c.loop-segment.memory in
    let written = ap (λ found. with_at found (segment_bytes segment) memory) (sym c.in_default.is) in
    record {
      whole =
          segment_more at segment c.next.new.self memory memory c.memory_at.result c.memory_at.ensures.place written
          ∙ ap (λ left. with_segments at left memory) (sym c.in-Some.ensures.steps)
          ∙ c.loop-segment.invariant.whole;
      len = c.loop-segment.invariant.len;
      some = All-tail (λ (segment : SegmentAt). 1 ≤ segment.memory_len) segment c.next.new.self (rw c.in-Some.ensures.steps at c.loop-segment.invariant.some);
    }
