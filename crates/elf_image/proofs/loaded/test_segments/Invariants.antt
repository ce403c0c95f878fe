use Rattle.std.proofs.Common.{◌≡◌, length}
use Rattle.elf_image.specs.Layout.{layout_for}
use Rattle.elf_image.specs.Segments.{loaded_from, segments_fault}
use Rattle.elf_image.proofs.loaded.test_segments.Given as goal

abbrev pub invariant-loop-numbered : goal.invariant-loop-numbered
invariant-loop-numbered l =
    segments_fault (length l.bytes) l.numbered-iterator ≡ segments_fault (length l.bytes) (loaded_from (layout_for l.fn.class) l.fn.header l.bytes 0)
