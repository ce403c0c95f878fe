use Rattle.std.proofs.Common.{◌≡◌}
use Rattle.std.specs.List.{find}
use Rattle.elf_image.specs.Layout.{layout_for}
use Rattle.elf_image.specs.Sections.{has_name, sections_from}
use Rattle.elf_image.proofs.sections.find_section.Given as goal

abbrev pub invariant-loop-index : goal.invariant-loop-index
invariant-loop-index l =
    let test = has_name l.names l.name in
    find test (sections_from (layout_for l.class) l.header l.bytes l.index) ≡ find test (sections_from (layout_for l.class) l.header l.bytes 0)
