-- Writes into the fields of a table.
use Rattle.std.proofs.Common.{◌≡◌, ℕ, zero, suc, ◌+◌, ◌-◌, ◌≤◌, ◌<◌, ◌⊎◌, Bool, true, false, IsTrue, List, [], ◌∷◌, ◌++◌, length, take, drop, refl, ap, ◌∙◌, arith, get_or, inl, inr, length-append, length-drop}
use Rattle.std.specs.Int.{bytes_low_first}
use Rattle.std.proofs.lemmas.Bool.{false≢true}
use Rattle.std.specs.List.{All, flat_map, range_with_len}
use Rattle.std.proofs.lemmas.List.{length-take-le, get_or-take, get_or-drop, get_or_append_left, get_or-append_right}
use Rattle.std.proofs.lemmas.List.Elements.{All-nil, All-cons, All-head, All-tail, All-append}
use Rattle.rp_base.specs.Fields.{with_number}
use Rattle.resource_table.specs.Entries.{entry_count, start_of, type_at, entries_of}
use Rattle.resource_table.specs.Tables.{is_rpmsg, is_rpmsg_of_type, fixed_size}
use Rattle.resource_table.specs.Patches.{Write, after_writes, LeavesPlace, fix_writes, device_writes, patch_writes, is_fix_of}
use Rattle.resource_table.specs.declared.fixes.Fix.{Fix}
use Rattle.resource_table.specs.declared.kinds.ResourceType.{ResourceType}
use Rattle.resource_table.specs.declared.kinds.ResourceType.TheVariants as type
use Rattle.resource_table.proofs.Ranges.{range_more}
use Rattle.resource_table.proofs.Sound.{HasRoom, IsSoundTable, sound_fix}

-- writes that are made after others
pub written_after : (xs ys : List Write) (bytes : List ℕ) → after_writes (xs ++ ys) bytes ≡ after_writes ys (after_writes xs bytes)
written_after [] ys bytes = refl
written_after (x ∷ xs) ys bytes = written_after xs ys (with_number x.width x.at x.value bytes)

-- the entries from i on are set up where entry i is, and then the later ones
pub device_more : (bytes patched : List ℕ) (i n : ℕ) → i < n
    → after_writes (flat_map (device_writes bytes) (range_with_len i (n - i))) patched
    ≡ after_writes (flat_map (device_writes bytes) (range_with_len (i + 1) (n - (i + 1)))) (after_writes (device_writes bytes i) patched)
device_more bytes patched i n below =
    ap (λ range. after_writes (flat_map (device_writes bytes) range) patched) (range_more i n below)
    ∙ written_after (device_writes bytes i) (flat_map (device_writes bytes) (range_with_len (i + 1) (n - (i + 1)))) patched

-- a write lies in a table of so many bytes
abbrev pub LiesIn : ℕ → Write → Type 0
LiesIn len write = write.at + write.width ≤ len

length-low_bytes : (i n x : ℕ) → length (bytes_low_first i n x) ≡ n
length-low_bytes i zero x = refl
length-low_bytes i (suc n) x = let e = length-low_bytes (suc i) n x in omega (arith, e)

-- a write into a table leaves its length
pub length-with_number : (width at value : ℕ) (bytes : List ℕ) → at + width ≤ length bytes → length (with_number width at value bytes) ≡ length bytes
length-with_number width at value bytes within =
    let field = bytes_low_first 0 width value in
    let front : length (take at bytes) ≡ at = length-take-le at bytes (omega arith) in
    let len = length-low_bytes 0 width value in
    omega (arith, length-append (take at bytes ++ field) (drop (at + width) bytes), length-append (take at bytes) field, len, length-drop (at + width) bytes, front)

-- a write leaves what stands before its field and behind it
with_number-other : (width at value : ℕ) (bytes : List ℕ) (place : ℕ) → at + width ≤ length bytes → (place < at) ⊎ (at + width ≤ place)
    → get_or (with_number width at value bytes) place 0 ≡ get_or bytes place 0
with_number-other width at value bytes place within (inl before) =
    let field = bytes_low_first 0 width value in
    let front : length (take at bytes) ≡ at = length-take-le at bytes (omega arith) in
    get_or_append_left (take at bytes ++ field) (drop (at + width) bytes) 0 place (omega (arith, length-append (take at bytes) field, front))
    ∙ get_or_append_left (take at bytes) field 0 place (omega (arith, front))
    ∙ get_or-take at bytes place 0 before
with_number-other width at value bytes place within (inr behind) =
    let field = bytes_low_first 0 width value in
    let front : length (take at bytes) ≡ at = length-take-le at bytes (omega arith) in
    let len : length (take at bytes ++ field) ≡ at + width = omega (arith, length-append (take at bytes) field, length-low_bytes 0 width value, front) in
    let back : at + width + (place - (at + width)) ≡ place = omega arith in
    get_or-append_right (take at bytes ++ field) (drop (at + width) bytes) (at + width) place 0 len behind
    ∙ get_or-drop (at + width) bytes (place - (at + width)) 0
    ∙ ap (λ k. get_or bytes k 0) back

-- what lies in a table lies in it after a write
pub still_within : (write : Write) (more : List Write) (bytes : List ℕ) → All (LiesIn (length bytes)) (write ∷ more)
    → All (LiesIn (length (with_number write.width write.at write.value bytes))) more
still_within write more bytes within =
    let len = length-with_number write.width write.at write.value bytes (All-head (LiesIn (length bytes)) write more within) in
    rw len (All-tail (LiesIn (length bytes)) write more within)

-- writes that lie in a table leave its length
pub length-written : (writes : List Write) (bytes : List ℕ) → All (LiesIn (length bytes)) writes → length (after_writes writes bytes) ≡ length bytes
length-written [] bytes within = refl
length-written (write ∷ more) bytes within =
    length-written more (with_number write.width write.at write.value bytes) (still_within write more bytes within)
    ∙ length-with_number write.width write.at write.value bytes (All-head (LiesIn (length bytes)) write more within)

-- writes leave a place that none of them covers
pub written-other : (writes : List Write) (bytes : List ℕ) (place : ℕ) → All (LiesIn (length bytes)) writes → All (LeavesPlace place) writes
    → get_or (after_writes writes bytes) place 0 ≡ get_or bytes place 0
written-other [] bytes place within leaves = refl
written-other (write ∷ more) bytes place within leaves =
    written-other more (with_number write.width write.at write.value bytes) place (still_within write more bytes within) (All-tail (LeavesPlace place) write more leaves)
    ∙ with_number-other write.width write.at write.value bytes place (All-head (LiesIn (length bytes)) write more within) (All-head (LeavesPlace place) write more leaves)

pub two_within : (len : ℕ) (a b : Write) → LiesIn len a → LiesIn len b → All (LiesIn len) (a ∷ b ∷ [])
two_within len a b ha hb = All-cons (LiesIn len) a (b ∷ []) ha (All-cons (LiesIn len) b [] hb (All-nil (LiesIn len)))

pub three_within : (len : ℕ) (a b c : Write) → LiesIn len a → LiesIn len b → LiesIn len c → All (LiesIn len) (a ∷ b ∷ c ∷ [])
three_within len a b c ha hb hc = All-cons (LiesIn len) a (b ∷ c ∷ []) ha (two_within len b c hb hc)

-- what a fix writes lies in the table, where there is room for it
fix_within : (bytes : List ℕ) (fix : Fix) → HasRoom bytes (start_of bytes fix.entry) fix → All (LiesIn (length bytes)) (fix_writes bytes fix)
fix_within bytes fix room = by fix.rings refl
  where
    by : (rings : Bool) → fix.rings ≡ rings → All (LiesIn (length bytes)) (fix_writes bytes fix)
    by true is = let r = room.ring is in rw is (three_within (length bytes) _ _ _ (omega (arith, r)) (omega (arith, r)) (omega (arith, r)))
    by false is = let r = room.carveout is in rw is (two_within (length bytes) _ _ (omega (arith, r)) (omega (arith, r)))

fixes_within : (bytes : List ℕ) (fixes : List Fix) → IsSoundTable bytes → All (λ fix. IsTrue (is_fix_of (entries_of bytes) fix)) fixes
    → All (LiesIn (length bytes)) (flat_map (fix_writes bytes) fixes)
fixes_within bytes [] sound named = All-nil (LiesIn (length bytes))
fixes_within bytes (fix ∷ more) sound named =
    let P : Fix → Type 0 = λ f. IsTrue (is_fix_of (entries_of bytes) f) in
    All-append (LiesIn (length bytes)) (fix_writes bytes fix) (flat_map (fix_writes bytes) more)
    (fix_within bytes fix (sound_fix bytes fix sound (All-head P fix more named)).room)
    (fixes_within bytes more sound (All-tail P fix more named))

-- a device for RPMsg has the fixed part of a device
pub rpmsg_is_device : (kind : ResourceType) (bytes : List ℕ) (start : ℕ) → is_rpmsg_of_type kind bytes start ≡ true → fixed_size kind ≡ 28
rpmsg_is_device type.Carveout bytes start is = absurd (false≢true is)
rpmsg_is_device type.Devmem bytes start is = absurd (false≢true is)
rpmsg_is_device type.Trace bytes start is = absurd (false≢true is)
rpmsg_is_device type.Vdev bytes start is = refl
rpmsg_is_device type.Other bytes start is = absurd (false≢true is)

device_within : (bytes : List ℕ) (index : ℕ) → start_of bytes index + fixed_size (type_at bytes (start_of bytes index)) ≤ length bytes
    → All (LiesIn (length bytes)) (device_writes bytes index)
device_within bytes index fixed = by (is_rpmsg bytes index) refl
  where
    by : (set : Bool) → is_rpmsg bytes index ≡ set → All (LiesIn (length bytes)) (device_writes bytes index)
    by true is =
        let size = rpmsg_is_device (type_at bytes (start_of bytes index)) bytes (start_of bytes index) is in
        rw is (two_within (length bytes) _ _ (omega (arith, size, fixed)) (omega (arith, size, fixed)))
    by false is = rw is (All-nil (LiesIn (length bytes)))

devices_within : (bytes : List ℕ) (a n : ℕ) → IsSoundTable bytes → a + n ≤ entry_count bytes
    → All (LiesIn (length bytes)) (flat_map (device_writes bytes) (range_with_len a n))
devices_within bytes a zero sound among = All-nil (LiesIn (length bytes))
devices_within bytes a (suc n) sound among =
    All-append (LiesIn (length bytes)) (device_writes bytes a) (flat_map (device_writes bytes) (range_with_len (a + 1) n))
    (device_within bytes a (sound.entry a (omega arith)).fixed)
    (devices_within bytes (a + 1) n sound (omega arith))

-- all that is written into a good table lies in it
pub patch_within : (bytes : List ℕ) (fixes : List Fix) → IsSoundTable bytes → All (λ fix. IsTrue (is_fix_of (entries_of bytes) fix)) fixes
    → All (LiesIn (length bytes)) (patch_writes bytes fixes)
patch_within bytes fixes sound named =
    All-append (LiesIn (length bytes)) (flat_map (fix_writes bytes) fixes) (flat_map (device_writes bytes) (range_with_len 0 (entry_count bytes)))
    (fixes_within bytes fixes sound named) (devices_within bytes 0 (entry_count bytes) sound (omega arith))
