use Rattle.std.proofs.Common.{map}
use Rattle.resource_table.specs.Entries.{entries_of}
use Rattle.addr_translate.specs.Maps.{place_at}
use Rattle.c_forms.specs.Loads.{placed_form}
use Rattle.c_forms.proofs.Puts.{IsPut}
use Rattle.c_forms.proofs.images.put_entries.Given as goal

-- the entries so far are written
abbrev pub invariant-loop-index : goal.invariant-loop-index
invariant-loop-index l = IsPut (map (placed_form (place_at l.places)) (entries_of l.table)) l.array l.fn.array l.index
