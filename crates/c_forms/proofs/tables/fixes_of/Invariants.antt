use Rattle.std.proofs.Common.{◌≡◌, ◌++◌, drop, map}
use Rattle.std.specs.Prelude.{IsTrue}
use Rattle.std.specs.List.{All}
use Rattle.resource_table.specs.Entries.{entries_of}
use Rattle.resource_table.specs.Patches.{is_fix_of}
use Rattle.c_forms.specs.Tables.{fix_of, wrong_fix}
use Rattle.c_forms.proofs.tables.fixes_of.Given as goal

-- the fixes so far are ones of the table, and the first that is none is among the others
abbrev pub invariant-loop-index : goal.invariant-loop-index
invariant-loop-index l = record {
  made : l.fixes.items ++ map fix_of (drop l.index l.given) ≡ map fix_of l.given;
  fit : All (λ fix. IsTrue (is_fix_of (entries_of l.table) fix)) l.fixes.items;
  left : wrong_fix (entries_of l.table) l.index (drop l.index l.given) ≡ wrong_fix (entries_of l.table) 0 l.given;
}
