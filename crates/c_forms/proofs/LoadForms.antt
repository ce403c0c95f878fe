-- What is told of an image that loads.
use Rattle.std.proofs.Common.{◌≡◌, ℕ, zero, suc, ◌≤◌, true, false, cond, leb, List, [], ◌∷◌, length, map, Option, None, refl, sym, ap, ◌∙◌, arith}
use Rattle.resource_table.specs.Entries.{entries_of}
use Rattle.resource_table.specs.declared.entries.Entry.{Entry}
use Rattle.resource_table.specs.declared.entries.Entry.TheVariants as entry
use Rattle.elf_image.specs.Images.{entry_of}
use Rattle.memory_pool.specs.declared.blocks.Block.{Block}
use Rattle.memory_pool.specs.declared.regions.Region.{Region}
use Rattle.addr_translate.specs.OrderedMaps.{AreApart}
use Rattle.fw_load.proofs.Places.{places_agree}
use Rattle.fw_load.specs.Memory.{memory_at}
use Rattle.addr_translate.specs.Maps.{place_at}
use Rattle.fw_load.specs.Rings.{pair_from}
use Rattle.fw_load.specs.Tables.{patched_in, table_of}
use Rattle.fw_load.specs.declared.rings.RingPair.{RingPair}
use Rattle.c_forms.specs.Arrays.{told_status}
use Rattle.c_forms.specs.Loads.{IsLoadOf, bare_load, blocks_in, blocks_of, entries_told, load_told, load_unless, loaded_form, patched_table, placed_form, refusal, with_rings}
use Rattle.c_forms.specs.Tables.{entries_read}
use Rattle.c_forms.specs.declared.TheConstants.{DONE, NO_MEMORY, WRONG_LENGTH}
use Rattle.c_forms.specs.declared.faults.CFault.{CFault}
use Rattle.c_forms.specs.declared.loads.LoadOver.{LoadOver}

-- the blocks of a load are those of the image
pub blocks_same : (image : List ℕ) (regions : List Region) (found : LoadOver) → IsLoadOf image regions found → found.loaded.placed.blocks.items ≡ blocks_of image regions
blocks_same image regions found is = sym (ap blocks_in is.loaded.placed)

-- the table of a load is that of the image
pub table_same : (image : List ℕ) (regions : List Region) (found : LoadOver) → IsLoadOf image regions found → found.loaded.table ≡ patched_table image regions
table_same image regions found is = is.loaded.table ∙ ap (patched_in (table_of image)) (blocks_same image regions found is)

-- what is told of a load is told of the image
pub loaded_same : (image : List ℕ) (regions : List Region) (found : LoadOver) → IsLoadOf image regions found → refusal image regions ≡ None → loaded_form found ≡ load_told image regions
loaded_same image regions found is loads =
    let pair = is.loaded.rings
    ∙ ap (λ (blocks : List Block). pair_from blocks 0 (entries_of found.loaded.table)) (blocks_same image regions found is)
    ∙ ap (λ (table : List ℕ). pair_from (blocks_of image regions) 0 (entries_of table)) (table_same image regions found is) in
    ap (λ (start : ℕ). with_rings (bare_load start found.loaded.table found.regions) found.loaded.rings) is.loaded.entry
    ∙ ap (λ (table : List ℕ). with_rings (bare_load (entry_of image) table found.regions) found.loaded.rings) (table_same image regions found is)
    ∙ ap (λ (over : List Region). with_rings (bare_load (entry_of image) (patched_table image regions) over) found.loaded.rings) is.over
    ∙ ap (λ (rings : Option RingPair). with_rings (bare_load (entry_of image) (patched_table image regions) regions) rings) pair
    ∙ sym (ap (λ (why : Option CFault). load_unless why image regions) loads)

form_alike : (at other : ℕ → ℕ → Option ℕ) (one : Entry) → ((da len : ℕ) → 1 ≤ len → at da len ≡ other da len) → placed_form at one ≡ placed_form other one
form_alike at other (entry.Carveout da pa len name) agree = refl
form_alike at other (entry.Devmem da pa len name) agree = refl
form_alike at other (entry.Trace da zero name) agree = refl
form_alike at other (entry.Trace da (suc len) name) agree = let here = agree da (suc len) (omega arith) in rw here refl
form_alike at other (entry.Device device) agree = refl
form_alike at other (entry.Skipped type) agree = refl

-- entries are told alike, where two ways to find a place agree on each range that is not empty
pub forms_alike : (at other : ℕ → ℕ → Option ℕ) (entries : List Entry) → ((da len : ℕ) → 1 ≤ len → at da len ≡ other da len) → map (placed_form at) entries ≡ map (placed_form other) entries
forms_alike at other [] agree = refl
forms_alike at other (one ∷ more) agree =
    ap (λ first. first ∷ map (placed_form at) more) (form_alike at other one agree)
    ∙ ap (λ rest. placed_form other one ∷ rest) (forms_alike at other more agree)

-- what is told of the entries of a load is told of those of the image
pub entries_same : (image : List ℕ) (regions : List Region) (found : LoadOver) → IsLoadOf image regions found → AreApart found.loaded.map.blocks
    → map (placed_form (place_at found.loaded.map)) (entries_read found.loaded.table) ≡ entries_told image regions
entries_same image regions found is apart =
    let blocks = found.loaded.placed.blocks.items in
    let agree = places_agree regions blocks found.loaded.map is.loaded.map apart in
    forms_alike (place_at found.loaded.map) (memory_at regions blocks) (entries_read found.loaded.table) agree
    ∙ ap (λ (table : List ℕ). map (placed_form (memory_at regions blocks)) (entries_read table)) (table_same image regions found is)
    ∙ ap (λ (placed : List Block). map (placed_form (memory_at regions placed)) (entries_read (patched_table image regions))) (blocks_same image regions found is)

done_not_memory : DONE ≡ NO_MEMORY → ⊥
done_not_memory same = omega arith

length_not_memory : WRONG_LENGTH ≡ NO_MEMORY → ⊥
length_not_memory same = omega arith

-- a list that is told has a status other than that of want of memory
pub not_memory : {A : Type 0} (told was : List A) → told_status None told was ≡ NO_MEMORY → ⊥
not_memory told was is = elim (leb (length told) (length was)) as (λ fits. cond fits DONE WRONG_LENGTH ≡ NO_MEMORY → ⊥) [ true ↦ done_not_memory | false ↦ length_not_memory ] is
