use Rattle.std.proofs.Common.{None, Some, refl, sym}
use Rattle.std.proofs.lemmas.Result.{err_from_is_err_and}
use Rattle.elf_image.specs.Images.{entry_of}
use Rattle.addr_translate.specs.OrderedMaps.{AreApart}
use Rattle.fw_load.specs.Loading.{entry_unmapped}
use Rattle.addr_translate.specs.Maps.{place_at}
use Rattle.fw_load.proofs.Places.{segments_have}
use Rattle.fw_load.proofs.Refusals.{placed_by, tests_decide}
use Rattle.fw_load.proofs.loading.load_image.Goals as goal

pub test_segments-requires : goal.test_segments-requires
test_segments-requires c = segments_have c.args.image.now

pub returns-in_err-test_segments-clause-refused : goal.returns-in_err-test_segments-clause-refused
returns-in_err-test_segments-clause-refused c =
    let image = c.args.bytes.now in
    let regions = c.args.regions.now in
    let placed = c.in_ok-placed.placed.blocks.items in
    let map = c.in_ok-map.map in
    let read = c.args.image.now in
    let apart : AreApart map.blocks = rw (← c.map.view_is) c.map.invariant.sound.apart in
    let same = c.requires.same in
    let is =
    placed_by image regions placed read c.section-section.result c.in_ok-table.table same c.section-section.ensures.section (sym c.requires.good) c.in_ok-table.ensures.fault
    c.in_ok-table.ensures.table c.in_ok-placed.ensures.placed in
    let refused = c.in_err-test_segments.field-0.0 in
    let answer = err_from_is_err_and c.from_residual-in_err-test_segments.result c.from_residual-in_err-test_segments.ensures.1 in
    rw (answer.1, answer.2)
    (λ other. tests_decide image read regions placed map (entry_of read) (Some refused) (entry_unmapped (place_at map) (entry_of read)) is same c.in_ok-map.ensures apart refl c.in_err-test_segments.ensures refl)

pub returns-in_err-test_entry-clause-refused : goal.returns-in_err-test_entry-clause-refused
returns-in_err-test_entry-clause-refused c =
    let image = c.args.bytes.now in
    let regions = c.args.regions.now in
    let placed = c.in_ok-placed.placed.blocks.items in
    let map = c.in_ok-map.map in
    let read = c.args.image.now in
    let apart : AreApart map.blocks = rw (← c.map.view_is) c.map.invariant.sound.apart in
    let same = c.requires.same in
    let is =
    placed_by image regions placed read c.section-section.result c.in_ok-table.table same c.section-section.ensures.section (sym c.requires.good) c.in_ok-table.ensures.fault
    c.in_ok-table.ensures.table c.in_ok-placed.ensures.placed in
    let refused = c.in_err-test_entry.field-0.0 in
    let answer = err_from_is_err_and c.from_residual-in_err-test_entry.result c.from_residual-in_err-test_entry.ensures.1 in
    rw (answer.1, answer.2)
    (λ other. tests_decide image read regions placed map c.entry.result None (Some refused) is same c.in_ok-map.ensures apart c.entry.ensures.entry c.in_ok-test_segments.ensures c.in_err-test_entry.ensures)

pub returns-clause-loads : goal.returns-clause-loads
returns-clause-loads c =
    let image = c.args.bytes.now in
    let regions = c.args.regions.now in
    let placed = c.in_ok-placed.placed.blocks.items in
    let map = c.in_ok-map.map in
    let read = c.args.image.now in
    let apart : AreApart map.blocks = rw (← c.map.view_is) c.map.invariant.sound.apart in
    let same = c.requires.same in
    let is =
    placed_by image regions placed read c.section-section.result c.in_ok-table.table same c.section-section.ensures.section (sym c.requires.good) c.in_ok-table.ensures.fault
    c.in_ok-table.ensures.table c.in_ok-placed.ensures.placed in
    tests_decide image read regions placed map c.entry.result None None is same c.in_ok-map.ensures apart c.entry.ensures.entry c.in_ok-test_segments.ensures c.in_ok-test_entry.ensures
