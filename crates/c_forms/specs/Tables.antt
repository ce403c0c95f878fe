-- What C is given of a resource table, and what it may write into one (own).
use Rattle.std.specs.Prelude.{ℕ, ◌+◌, ◌==◌, min, not, List, [], ◌∷◌, length, map, Option, Some, None, option_map, if◌then◌else◌}
use Rattle.std.specs.Option.{option_or}
use Rattle.resource_table.specs.Entries.{entries_of}
use Rattle.resource_table.specs.Patches.{is_fix_of, patched_of}
use Rattle.resource_table.specs.Tables.{table_fault}
use Rattle.resource_table.specs.declared.entries.Entry.{Entry}
use Rattle.resource_table.specs.declared.faults.TableFault.{TableFault}
use Rattle.resource_table.specs.declared.fixes.Fix.{Fix}
use Rattle.c_forms.specs.Faults.{no_fault, table_fault_form}
use Rattle.c_forms.specs.Forms.{entry_form}
use Rattle.c_forms.specs.declared.TheConstants.{NOTHING, WRONG_FIX}
use Rattle.c_forms.specs.declared.entries.CEntry.{CEntry}
use Rattle.c_forms.specs.declared.faults.CFault.{CFault}
use Rattle.c_forms.specs.declared.fixes.CFix.{CFix}
use Rattle.c_forms.specs.declared.tables.CTable.{CTable}

-- the entries of a table by its test: bytes that are no table have none (own)
abbrev pub entries_unless : Option TableFault → List ℕ → List Entry
entries_unless None table = entries_of table
entries_unless (Some why) table = []

-- the entries that are read (own)
abbrev pub entries_read : List ℕ → List Entry
entries_read table = entries_unless (table_fault table) table

-- why bytes are no table (own)
abbrev pub table_refusal : List ℕ → Option CFault
table_refusal table = option_map table_fault_form (table_fault table)

-- what is given of a table by its test (own)
abbrev pub table_unless : Option TableFault → List ℕ → CTable
table_unless None table = record { fault = no_fault; entries = length (entries_of table) }
table_unless (Some why) table = record { fault = table_fault_form why; entries = 0 }

-- what is given of a table (own)
abbrev pub table_told : List ℕ → CTable
table_told table = table_unless (table_fault table) table

-- the entries of a table by themselves, of whose traces no place is known (own)
abbrev pub table_entries_told : List ℕ → List CEntry
table_entries_told table = map (entry_form None) (entries_read table)

-- a fix that was given (own)
abbrev pub fix_of : CFix → Fix
fix_of given = record {
  entry = given.entry;
  rings = not (given.rings == 0);
  ring = given.ring;
  da = given.da;
  pa = given.pa;
  notify = given.notify;
}

-- the first of fixes, the first of which has a number, that is none of the entries (own)
abbrev pub wrong_fix : List Entry → ℕ → List CFix → Option CFault
wrong_fix entries index [] = None
wrong_fix entries index (given ∷ more) =
    if is_fix_of entries (fix_of given) then wrong_fix entries (index + 1) more else Some (record { number = WRONG_FIX; about = min index NOTHING })

-- why fixes are not written into a table: it is none, or the first that isn't one of it (own)
abbrev pub patch_refusal : List ℕ → List CFix → Option CFault
patch_refusal table fixes = option_or (table_refusal table) (wrong_fix (entries_of table) 0 fixes)

-- a table after fixes, which a refusal leaves as it was (own)
abbrev pub patched_unless : Option CFault → List ℕ → List CFix → List ℕ
patched_unless None table fixes = patched_of table (map fix_of fixes)
patched_unless (Some why) table fixes = table
