use Rattle.std.proofs.Common.{◌≡◌, ℕ, ◌<◌, drop, get_or}
use Rattle.std.specs.List.{flat_map}
use Rattle.resource_table.specs.Patches.{after_writes, fix_writes}
use Rattle.resource_table.specs.PatchedEntries.{IsSmallFix}
use Rattle.resource_table.specs.declared.fixes.Fix.{Fix}
use Rattle.resource_table.proofs.fixes.write_fixes.Given as goal

abbrev pub invariant-loop-fix : goal.invariant-loop-fix
invariant-loop-fix l = record {
  written : after_writes (flat_map (fix_writes l.bytes) (drop l.fix-index l.fixes)) l.patched ≡ after_writes (flat_map (fix_writes l.bytes) l.fixes) l.initial.patched;
  small : (k : ℕ) (d : Fix) → k < l.fix-index → IsSmallFix (get_or l.fixes k d);
}
