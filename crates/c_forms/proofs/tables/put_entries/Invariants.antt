use Rattle.std.proofs.Common.{None, map}
use Rattle.resource_table.specs.Entries.{entries_of}
use Rattle.c_forms.specs.Forms.{entry_form}
use Rattle.c_forms.proofs.Puts.{IsPut}
use Rattle.c_forms.proofs.tables.put_entries.Given as goal

-- the entries so far are written
abbrev pub invariant-loop-index : goal.invariant-loop-index
invariant-loop-index l = IsPut (map (entry_form None) (entries_of l.table)) l.array l.fn.array l.index
