use Rattle.std.proofs.Common.{◌≡◌, ◌≤◌, length}
use Rattle.std.specs.List.{All}
use Rattle.elf_image.specs.Segments.{SegmentAt, segments_of}
use Rattle.fw_load.specs.Memory.{with_segments}
use Rattle.addr_translate.specs.Maps.{place_at}
use Rattle.fw_load.proofs.mapped.copy_segments.Given as goal

-- the memory so far with the segments that are left makes the whole
abbrev pub invariant-loop-segment : goal.invariant-loop-segment
invariant-loop-segment l = record {
  whole : with_segments (place_at l.map) l.segment-iterator l.memory ≡ with_segments (place_at l.map) (segments_of l.image) l.fn.memory;
  len : length l.memory ≡ length l.fn.memory;
  some : All (λ (segment : SegmentAt). 1 ≤ segment.memory_len) l.segment-iterator;
}
