-- The segments that a reader gives.
use Rattle.elf_image.specs.Segments.{SegmentAt}
use Rattle.elf_image.specs.declared.program.Segment.{Segment}

-- what a segment that was read says, with its file bytes as a list (own)
abbrev pub segment_read : Segment → SegmentAt
segment_read segment = record {
  index = segment.index;
  da = segment.da;
  memory_len = segment.memory_len;
  file = segment.file.now;
}
