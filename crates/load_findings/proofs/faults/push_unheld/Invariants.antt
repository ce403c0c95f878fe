use Rattle.std.proofs.Common.{◌≡◌, ◌++◌}
use Rattle.elf_image.specs.Images.{entry_of}
use Rattle.elf_image.specs.Segments.{segments_of}
use Rattle.load_findings.specs.LoadFaults.{lacks_through, unheld}
use Rattle.load_findings.specs.Walks.{known_blocks}
use Rattle.load_findings.proofs.faults.push_unheld.Given as goal

-- those so far, and those of the segments that are left
abbrev pub invariant-loop-segment : goal.invariant-loop-segment
invariant-loop-segment l =
    let lacks = lacks_through l.regions l.aliases (known_blocks l.known l.blocks) in
    l.faults.items ++ unheld lacks l.segment-iterator (entry_of l.image) ≡ l.fn.faults.items ++ unheld lacks (segments_of l.image) (entry_of l.image)
