use Rattle.std.proofs.Common.{◌≡◌, sym, ap, ◌∙◌, arith, subst, IsTrue, length, slice_index}
use Rattle.std.specs.List.{All}
use Rattle.std.proofs.lemmas.List.{take_at}
use Rattle.resource_table.specs.Entries.{entries_of}
use Rattle.resource_table.specs.Patches.{is_fix_of, patched_of, patch_writes, LeavesPlace}
use Rattle.resource_table.proofs.Sound.{sound_table}
use Rattle.resource_table.proofs.Writes.{patch_within, written-other}
use Rattle.resource_table.specs.PatchedEntries.{patched_entries}
use Rattle.resource_table.specs.Tables.{GoodTable}
use Rattle.resource_table.proofs.PatchedTables.{patched_good, patched_reads}
use Rattle.resource_table.proofs.reader.Table.patched.Goals as goal

pub returns-clause-patched : goal.returns-clause-patched
returns-clause-patched c =
    let len : length c.patch.new.patched ≡ c.in_ok-patched.patched.len = omega (arith, c.patch.auto.patched, c.deref_mut.ensures.len) in
    take_at c.patch.new.patched _ _ len ∙ c.patch.ensures.patched ∙ ap (λ b. patched_of b c.args.fixes.now) c.self.view_is

pub returns-clause-others : goal.returns-clause-others
returns-clause-others c = λ place leaves.
    let bytes = c.self.inside.bytes.now in
    let fixes = c.args.fixes.now in
    let named = subst (λ b. All (λ fix. IsTrue (is_fix_of (entries_of b) fix)) fixes) (sym c.self.view_is) c.requires in
    let leaves_it = subst (λ b. All (LeavesPlace place) (patch_writes b fixes)) (sym c.self.view_is) leaves in
    ap (λ b. slice_index b place) (returns-clause-patched c)
    ∙ ap (λ b. slice_index (patched_of b fixes) place) (sym c.self.view_is)
    ∙ written-other (patch_writes bytes fixes) bytes place (patch_within bytes fixes (sound_table bytes c.self.invariant) named) leaves_it
    ∙ ap (λ b. slice_index b place) c.self.view_is

pub returns-clause-good : goal.returns-clause-good
returns-clause-good c =
    let fixes = c.args.fixes.now in
    let bytes = c.self.inside.bytes.now in
    let named = subst (λ b. All (λ fix. IsTrue (is_fix_of (entries_of b) fix)) fixes) (sym c.self.view_is) c.requires in
    subst GoodTable (sym (returns-clause-patched c ∙ ap (λ b. patched_of b fixes) (sym c.self.view_is))) (patched_good bytes c.self.invariant fixes named c.patch.ensures.small)

pub returns-clause-entries : goal.returns-clause-entries
returns-clause-entries c =
    let fixes = c.args.fixes.now in
    let bytes = c.self.inside.bytes.now in
    let named = subst (λ b. All (λ fix. IsTrue (is_fix_of (entries_of b) fix)) fixes) (sym c.self.view_is) c.requires in
    ap entries_of (returns-clause-patched c ∙ ap (λ b. patched_of b fixes) (sym c.self.view_is))
    ∙ patched_reads bytes c.self.invariant fixes named c.patch.ensures.small ∙ ap (λ b. patched_entries fixes (entries_of b)) c.self.view_is
