-- What a table has whose tests have passed.
use Rattle.std.proofs.Common.{◌≡◌, ℕ, ◌+◌, ◌*◌, ◌≤◌, ◌<◌, ◌||◌, ◌&&◌, Bool, true, false, not, List, length, refl, sym, ap, ◌∙◌, arith, slice_get, Some, None, inl, inr, subst}
use Rattle.std.proofs.lemmas.Bool.{ltb-false, ltb-true, false≢true}
use Rattle.std.proofs.lemmas.Option.{none-some, slice_get_cases, slice_get-get_or}
use Rattle.std.proofs.lemmas.List.FromFn.{length-map-range_with_len, get_or-map-range_with_len}
use Rattle.rp_base.specs.Faults.{fault_if}
use Rattle.resource_table.specs.Entries.{entry_count, start_of, type_at, entry_at, entry_of_type, entries_of, device_at}
use Rattle.resource_table.specs.Tables.{header_fault, entries_fault, entry_fault, form_fault, varying_fault, fixed_size, size_of_type, entry_size, GoodTable}
use Rattle.resource_table.specs.Walks.{IsSoundHeader}
use Rattle.resource_table.specs.Patches.{takes_fix, is_taken, is_fix_of}
use Rattle.resource_table.specs.declared.faults.TableFault.{TableFault}
use Rattle.resource_table.specs.declared.kinds.ResourceType.{ResourceType}
use Rattle.resource_table.specs.declared.kinds.ResourceType.TheVariants as type
use Rattle.resource_table.specs.declared.entries.Entry.{Entry}
use Rattle.resource_table.specs.declared.fixes.Fix.{Fix}
use Rattle.resource_table.proofs.Parts.{fixed_size_least}
use Rattle.resource_table.proofs.Ranges.{neither, none_in_range}

-- a test that has no fault passes
pub passes : (test : Bool) (found : TableFault) → fault_if test found ≡ None → test ≡ false
passes true found e = absurd (none-some found (sym e))
passes false found e = refl

-- neither of two tests is true
pub both_false : (a b : Bool) → (a || b) ≡ false → (a ≡ false) × (b ≡ false)
both_false true b e = absurd (false≢true (sym e))
both_false false b e = (refl, e)

-- both tests are true
pub both_true : (a b : Bool) → (a && b) ≡ true → (a ≡ true) × (b ≡ true)
both_true true b e = (refl, e)
both_true false b e = absurd (false≢true e)

-- a header without a fault is sound
pub sound_header : (bytes : List ℕ) → header_fault bytes ≡ None → IsSoundHeader bytes
sound_header bytes e =
    let short = neither _ _ e in
    let version = neither _ _ short.1 in
    let reserved = neither _ _ version.1 in
    let last = neither _ _ reserved.1 in
    let offsets = both_false _ _ (passes _ _ last.0) in
    let counts = both_false _ _ offsets.0 in
    record {
      size = ltb-false _ _ (passes _ _ short.0);
      count = ltb-false _ _ counts.0;
      offsets = ltb-false _ _ counts.1;
    }

-- the tests by the type of an entry see to it that it lies in the table
whole_of_type : (kind : ResourceType) (bytes : List ℕ) (index start : ℕ) → start + fixed_size kind ≤ length bytes
    → varying_fault kind bytes index start ≡ None → start + size_of_type kind bytes start ≤ length bytes
whole_of_type type.Carveout bytes index start fixed e = fixed
whole_of_type type.Devmem bytes index start fixed e = fixed
whole_of_type type.Trace bytes index start fixed e = fixed
whole_of_type type.Vdev bytes index start fixed e = ltb-false _ _ (passes _ _ (neither _ _ (neither _ _ e).1).0)
whole_of_type type.Other bytes index start fixed e = fixed

-- the fixed part of an entry, and all of it, lie in the table
pub record LiesWithin (bytes : List ℕ) (index : ℕ) : Type 0 where
  pub fixed : start_of bytes index + fixed_size (type_at bytes (start_of bytes index)) ≤ length bytes
  pub whole : start_of bytes index + entry_size bytes (start_of bytes index) ≤ length bytes

pub sound_form : (bytes : List ℕ) (index : ℕ) → form_fault bytes index ≡ None → LiesWithin bytes index
sound_form bytes index e =
    let start = start_of bytes index in
    let short = neither _ _ e in
    let fixed = ltb-false _ _ (passes _ _ short.0) in
    let varying = (neither _ _ (neither _ _ short.1).1).0 in
    record { fixed = fixed; whole = whole_of_type (type_at bytes start) bytes index start fixed varying }

-- what a good table has
pub record IsSoundTable (bytes : List ℕ) : Type 0 where
  pub header : IsSoundHeader bytes
  pub form : (index : ℕ) → index < entry_count bytes → form_fault bytes index ≡ None
  pub entry : (index : ℕ) → index < entry_count bytes → LiesWithin bytes index

pub sound_table : (bytes : List ℕ) → GoodTable bytes → IsSoundTable bytes
sound_table bytes e =
    let parts = neither _ _ e in
    let entries = (neither _ _ parts.1).0 in
    record { header = sound_header bytes parts.0; form = form entries; entry = λ index below. sound_form bytes index (form entries index below) }
  where
    form : entries_fault bytes ≡ None → (index : ℕ) → index < entry_count bytes → form_fault bytes index ≡ None
    form entries index below =
        (neither _ _ (none_in_range (entry_fault bytes) 0 (entry_count bytes) index index entries below (omega arith))).0

-- where an entry takes a fix, what the fix writes lies in the table
pub record HasRoom (bytes : List ℕ) (start : ℕ) (fix : Fix) : Type 0 where
  pub ring : fix.rings ≡ true → start + 28 + 20 * fix.ring + 20 ≤ length bytes
  pub carveout : fix.rings ≡ false → start + 56 ≤ length bytes

room_of_type : (kind : ResourceType) (bytes : List ℕ) (start : ℕ) (fix : Fix) → start + size_of_type kind bytes start ≤ length bytes
    → takes_fix fix (entry_of_type kind bytes start) ≡ true → HasRoom bytes start fix
unfolding device_at
room_of_type type.Carveout bytes start fix whole takes =
    record { ring = λ is. absurd (false≢true (sym (ap not is) ∙ takes)); carveout = λ is. whole }
room_of_type type.Devmem bytes start fix whole takes = absurd (false≢true takes)
room_of_type type.Trace bytes start fix whole takes = absurd (false≢true takes)
room_of_type type.Vdev bytes start fix whole takes =
    let both = both_true _ _ takes in
    let among = ltb-true _ _ both.1 in
    record { ring = λ is. omega (arith, among, whole); carveout = λ is. absurd (false≢true (sym is ∙ both.0)) }
room_of_type type.Other bytes start fix whole takes = absurd (false≢true takes)

-- how many entries there are
pub length-entries_of : (bytes : List ℕ) → length (entries_of bytes) ≡ entry_count bytes
length-entries_of bytes = length-map-range_with_len (λ index. entry_at bytes (start_of bytes index)) 0 (entry_count bytes)

-- an entry of a good table, whose bytes a reader holds
pub record IsEntryOf (bytes : List ℕ) (index : ℕ) : Type 0 where
  pub offset : 16 + 4 * (index + 1) ≤ length bytes
  pub kind : start_of bytes index + 4 ≤ length bytes
  pub whole : start_of bytes index + entry_size bytes (start_of bytes index) ≤ length bytes
  pub is : slice_get (entries_of bytes) index ≡ Some (entry_at bytes (start_of bytes index))

pub entry_of_good : (bytes : List ℕ) (index : ℕ) → GoodTable bytes → index < length (entries_of bytes) → IsEntryOf bytes index
entry_of_good bytes index good below =
    let f : ℕ → Entry = λ i. entry_at bytes (start_of bytes i) in
    let sound = sound_table bytes good in
    let among : index < entry_count bytes = subst (λ n. index < n) (length-entries_of bytes) below in
    let entry = sound.entry index among in
    record {
      offset = omega (arith, among, sound.header.offsets);
      kind = omega (arith, entry.fixed, fixed_size_least (type_at bytes (start_of bytes index)));
      whole = entry.whole;
      is = slice_get-get_or (entries_of bytes) index (f index) below ∙ ap Some (get_or-map-range_with_len f 0 (entry_count bytes) index index (f index) among (omega arith));
    }

-- the fix of a good table names an entry, in which there is room for it
pub record IsSoundFix (bytes : List ℕ) (fix : Fix) : Type 0 where
  pub among : fix.entry < entry_count bytes
  pub room : HasRoom bytes (start_of bytes fix.entry) fix
  pub takes : takes_fix fix (entry_at bytes (start_of bytes fix.entry)) ≡ true

pub sound_fix : (bytes : List ℕ) (fix : Fix) → IsSoundTable bytes → is_fix_of (entries_of bytes) fix ≡ true → IsSoundFix bytes fix
sound_fix bytes fix sound names =
    let f : ℕ → Entry = λ index. entry_at bytes (start_of bytes index) in
    let count = entry_count bytes in
    elim (slice_get_cases (entries_of bytes) fix.entry).1 [
      | inl w ↦
          let among : fix.entry < count = subst (λ n. fix.entry < n) (length-map-range_with_len f 0 count) w.1 in
          let is : w.0 ≡ entry_at bytes (start_of bytes fix.entry) = sym w.3 ∙ get_or-map-range_with_len f 0 count fix.entry fix.entry w.0 among (omega arith) in
          let takes : takes_fix fix (entry_at bytes (start_of bytes fix.entry)) ≡ true =
          sym (ap (takes_fix fix) is) ∙ sym (ap (is_taken fix) w.2) ∙ names in
          record {
            among = among;
            room = room_of_type (type_at bytes (start_of bytes fix.entry)) bytes (start_of bytes fix.entry) fix (sound.entry fix.entry among).whole takes;
            takes = takes;
          }
      | inr w ↦ absurd (false≢true (sym (ap (is_taken fix) w.1) ∙ names))
    ]
