use Rattle.std.proofs.Common.{sym, ◌∙◌}
use Rattle.elf_image.specs.Layout.{layout_for}
use Rattle.elf_image.specs.Sections.{has_name}
use Rattle.elf_image.proofs.Tables.{find_more}
use Rattle.elf_image.proofs.sections.find_section.Goals as goal

pub loop-index-preserved : goal.loop-index-preserved
loop-index-preserved c =
    let test = has_name c.names_section-names.result.now c.args.name.now in
    let more = find_more test (layout_for c.args.class) c.args.header.now c.args.bytes.now c.loop-index.index c.section_header-section.result c.has_name.result c.loop-index-test.true c.section_header-section.ensures c.has_name.ensures in
    let same = rw c.if-has_name.false at more in
    sym same ∙ c.loop-index.invariant
