use Rattle.std.proofs.Common.{Ok, sym, ap, subst, ◌≡◌, ◌∙◌}
use Rattle.resource_table.specs.Entries.{entries_of}
use Rattle.resource_table.specs.Tables.{GoodTable}
use Rattle.resource_table.specs.PatchedEntries.{patched_entries}
use Rattle.memory_pool.specs.Placements.{placement}
use Rattle.fw_load.specs.Tables.{entries_in, fixes_of, patched_in}
use Rattle.load_laws.proofs.LoadParts.{parts_fit, placed_is_sound, table_good}
use Rattle.load_laws.proofs.PatchParts.{placed_good, placed_reads}
use Rattle.load_laws.proofs.laws.patched_table.Goals as goal

pub returns-clause-good : goal.returns-clause-good
returns-clause-good c = λ image table regions placed sound loads has is.
    let held = placed_is_sound image regions placed sound (parts_fit image regions loads).table is in
    let there : placement regions (entries_of table) ≡ Ok placed = sym (ap (λ found. placement regions (entries_in found)) has) ∙ is in
    subst (λ found. GoodTable (patched_in found placed)) (sym has) (placed_good table (table_good image regions table loads has) regions placed there held)

pub returns-clause-entries : goal.returns-clause-entries
returns-clause-entries c = λ image table regions placed sound loads has is.
    let held = placed_is_sound image regions placed sound (parts_fit image regions loads).table is in
    let there : placement regions (entries_of table) ≡ Ok placed = sym (ap (λ found. placement regions (entries_in found)) has) ∙ is in
    subst (λ found. entries_of (patched_in found placed) ≡ patched_entries (fixes_of (entries_of table) placed) (entries_of table)) (sym has)
    (placed_reads table (table_good image regions table loads has) regions placed there held)
