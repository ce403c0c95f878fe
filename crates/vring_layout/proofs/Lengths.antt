-- How long the parts of a ring are.
use Rattle.std.proofs.Common.{◌≡◌, ℕ, ◌+◌, ◌*◌, ◌-◌, ◌≤◌, ◌++◌, List, length, replicate, refl, ap, ◌∙◌, arith, length-append}
use Rattle.std.specs.List.{flat_map, range_with_len}
use Rattle.std.proofs.lemmas.List.{length-replicate}
use Rattle.std.proofs.lemmas.List.FromFn.{length-range_with_len}
use Rattle.byteorder.specs.Endian.{little_bytes}
use Rattle.rp_base.specs.declared.limits.TheConstants.{MESSAGE_MOST}
use Rattle.vring_layout.specs.Sizes.{available_end, ring_size, used_start}
use Rattle.vring_layout.specs.Rings.{available_ring, descriptor_bytes, descriptor_table, ring_layout, used_entry_bytes, used_ring}
use Rattle.vring_layout.specs.declared.words.RingWords.{RingWords}
use Rattle.vring_layout.proofs.Pieces.{length-pieces}

length-descriptor_table : (words : RingWords) → words.capacity ≤ words.num → length (descriptor_table words) ≡ 16 * words.num
length-descriptor_table words within =
    let describe : ℕ → List ℕ = λ i. descriptor_bytes (words.base + MESSAGE_MOST * i) words.device_writes in
    let used = length-pieces describe 16 (λ i. refl) (range_with_len 0 words.capacity) in
    let count = length-range_with_len 0 words.capacity in
    let zeros = length-replicate {A = ℕ} (16 * (words.num - words.capacity)) 0 in
    let both = length-append (flat_map describe (range_with_len 0 words.capacity)) (replicate (16 * (words.num - words.capacity)) 0) in
    omega arith

-- a ring of num entries between two words in front and one behind
length-ring : (front entries back : List ℕ) (size num : ℕ) → length front ≡ 4 → length entries ≡ size * num → length back ≡ 2 → length (front ++ entries ++ back) ≡ 6 + size * num
length-ring front entries back size num in_front between behind =
    omega (arith, length-append front entries, length-append (front ++ entries) back)

length-four : (table first gap second : List ℕ) → length (table ++ first ++ gap ++ second) ≡ length table + length first + length gap + length second
length-four table first gap second =
    omega (arith, length-append table first, length-append (table ++ first) gap, length-append (table ++ first ++ gap) second)

sizes_add_up : (table first gap second num end used : ℕ) → table ≡ 16 * num → first ≡ 6 + 2 * num → gap ≡ used - end → second ≡ 6 + 8 * num → end ≡ 16 * num + 2 * (3 + num) → end ≤ used → table + first + gap + second ≡ used + 6 + 8 * num
sizes_add_up table first gap second num end used t f g s e behind = omega arith

-- the length of the whole is the size of the ring
pub length-ring_layout : (align : ℕ) (words : RingWords) → words.capacity ≤ words.num → length words.avail ≡ words.num → length words.used ≡ words.num → length (ring_layout align words) ≡ ring_size words.num align
length-ring_layout align words within avail used =
    let num = words.num in
    let gap = used_start num align - available_end num in
    let entries = length-pieces (little_bytes 2) 2 (λ entry. refl) words.avail in
    let first : length (available_ring words) ≡ 6 + 2 * num =
    length-ring (little_bytes 2 0 ++ little_bytes 2 words.avail_idx) (flat_map (little_bytes 2) words.avail) (little_bytes 2 0) 2 num refl (entries ∙ ap (λ n. 2 * n) avail) refl in
    let used_entries = length-pieces used_entry_bytes 8 (λ entry. refl) words.used in
    let second : length (used_ring words) ≡ 6 + 8 * num =
    length-ring (little_bytes 2 0 ++ little_bytes 2 words.used_idx) (flat_map used_entry_bytes words.used) (little_bytes 2 0) 8 num refl (used_entries ∙ ap (λ n. 8 * n) used) refl in
    length-four (descriptor_table words) (available_ring words) (replicate gap 0) (used_ring words)
    ∙ sizes_add_up _ _ _ _ num (available_end num) (used_start num align) (length-descriptor_table words within) first (length-replicate gap 0) second refl (omega arith)
