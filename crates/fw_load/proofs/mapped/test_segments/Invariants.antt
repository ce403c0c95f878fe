use Rattle.std.proofs.Common.{◌≡◌, ◌≤◌}
use Rattle.std.specs.List.{All}
use Rattle.elf_image.specs.Segments.{SegmentAt, segments_of}
use Rattle.fw_load.specs.Loading.{segments_unmapped}
use Rattle.addr_translate.specs.Maps.{place_at}
use Rattle.fw_load.proofs.mapped.test_segments.Given as goal

-- the segments that are left decide
abbrev pub invariant-loop-segment : goal.invariant-loop-segment
invariant-loop-segment l = record {
  decides : segments_unmapped (place_at l.map) l.segment-iterator ≡ segments_unmapped (place_at l.map) (segments_of l.image);
  some : All (λ (segment : SegmentAt). 1 ≤ segment.memory_len) l.segment-iterator;
}
