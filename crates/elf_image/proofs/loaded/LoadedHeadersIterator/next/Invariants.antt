use Rattle.std.proofs.Common.{◌≡◌, ◌-◌}
use Rattle.elf_image.specs.Layout.{layout_for}
use Rattle.elf_image.specs.Segments.{loaded_from}
use Rattle.elf_image.specs.Tables.{IsInTable}
use Rattle.elf_image.proofs.loaded.LoadedHeadersIterator.next.Given as goal

abbrev pub invariant-loop-self : goal.invariant-loop-self
invariant-loop-self l =
    let now = l.self-inside in
    let initial = l.initial.self-inside in
    record {
      table : IsInTable now.bytes.now (layout_for now.class) now.header now.next now.start;
      left : loaded_from (layout_for now.class) now.header now.bytes.now now.next ≡ loaded_from (layout_for initial.class) initial.header initial.bytes.now initial.next;
    }

abbrev pub decreases-loop-self : goal.decreases-loop-self
decreases-loop-self l = l.self-inside.header.program_count - l.self-inside.next
