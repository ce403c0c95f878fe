use Rattle.std.proofs.Common.{◌≡◌, ℕ, None, List, map, Option, sym, ap, ◌∙◌}
use Rattle.addr_translate.specs.OrderedMaps.{AreApart}
use Rattle.addr_translate.specs.Maps.{place_at}
use Rattle.c_forms.specs.Arrays.{told_array, told_count, told_status}
use Rattle.c_forms.specs.Loads.{entries_told, placed_form}
use Rattle.c_forms.specs.Regions.{regions_of}
use Rattle.c_forms.specs.Tables.{entries_read}
use Rattle.c_forms.specs.declared.entries.CEntry.{CEntry}
use Rattle.c_forms.specs.declared.faults.CFault.{CFault}
use Rattle.c_forms.proofs.LoadForms.{entries_same, not_memory}
use Rattle.c_forms.proofs.images.patched_entries.Goals as goal

pub returns-in-Ok : goal.returns-in-Ok
returns-in-Ok c =
    let image = c.args.image.now in
    let regions = regions_of c.args.regions.now in
    let found = c.in-Ok.found in
    let was = c.args.array.now in
    let form = placed_form (place_at found.loaded.map) in
    let read : c.bytes.result.now ≡ found.loaded.table = c.bytes.ensures in
    let apart : AreApart found.loaded.map.blocks = rw (← c.drop-in-Ok-2.view_is) c.drop-in-Ok-2.invariant.sound.apart in
    let same = entries_same image regions found c.in-Ok.ensures.loaded apart in
    let told : map form (entries_read c.bytes.result.now) ≡ entries_told image regions = ap (λ (table : List ℕ). map form (entries_read table)) read ∙ same in
    let loads = c.in-Ok.ensures.loads in
    record {
      status =
          λ _.
          c.put_entries.ensures.status
          ∙ ap (λ (all : List CEntry). told_status None all was) told
          ∙ sym (ap (λ (why : Option CFault). told_status why (entries_told image regions) was) loads);
      entries =
          λ _.
          c.put_entries.ensures.entries
          ∙ ap (λ (all : List CEntry). told_array None all was) told
          ∙ sym (ap (λ (why : Option CFault). told_array why (entries_told image regions) was) loads);
      count =
          λ _.
          c.put_entries.ensures.count
          ∙ ap (λ (all : List CEntry). told_count None all was) told
          ∙ sym (ap (λ (why : Option CFault). told_count why (entries_told image regions) was) loads);
      kept = λ full. absurd (not_memory (map form (entries_read c.bytes.result.now)) was (sym c.put_entries.ensures.status ∙ full));
    }
