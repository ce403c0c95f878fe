-- What the tests read of an entry, and what is read of it where its bytes, or all but its fixed fields, are as they were.
use Rattle.std.proofs.Common.{◌≡◌, ℕ, zero, suc, ◌+◌, ◌≤◌, ◌<◌, ◌==◌, ◌&&◌, ◌||◌, not, Bool, List, [], ◌∷◌, length, refl, sym, ap, ◌∙◌, arith, map, nat_lt, Option, inl, inr}
use Rattle.std.specs.List.{range_with_len}
use Rattle.std.proofs.lemmas.Bool.{cases_lt, le-ltb}
use Rattle.rp_base.specs.Limits.{is_ring_size}
use Rattle.resource_table.specs.Layout.{field, fw_rsc_hdr, fw_rsc_vdev, fw_rsc_vdev_vring}
use Rattle.rp_base.specs.Faults.{fault_if, first_fault}
use Rattle.resource_table.specs.Entries.{entry_of_type, ring_count, ring_of, no_ring, vring_start, vring_at, device_at}
use Rattle.resource_table.specs.Tables.{size_of_type, uses_reserved, varying_fault, is_rpmsg_of_type, has_wrong_ring_count, device_size, rings_fault, ring_fault_at, is_ring_align}
use Rattle.resource_table.specs.declared.faults.TableFault.{TableFault}
use Rattle.resource_table.specs.declared.faults.TableFault.TheVariants as fault
use Rattle.resource_table.specs.declared.kinds.ResourceType.{ResourceType}
use Rattle.resource_table.specs.declared.kinds.ResourceType.TheVariants as type
use Rattle.resource_table.specs.declared.entries.Entry.{Entry}
use Rattle.resource_table.specs.declared.entries.Entry.TheVariants as entry
use Rattle.resource_table.specs.declared.entries.Ring.{Ring}
use Rattle.resource_table.specs.declared.entries.Vdev.{Vdev}
use Rattle.resource_table.proofs.Agreement.{Agree, narrow, number_same, name_same}
use Rattle.resource_table.proofs.Devices.{ring_there}

-- the features that an entry offers, where it is a device
abbrev pub offers_of : ResourceType → List ℕ → ℕ → ℕ
offers_of type.Vdev bytes start = field fw_rsc_vdev.dfeatures start bytes
offers_of _ bytes start = 0

-- the tests of an entry of a type read the same
pub record SameTests (kind : ResourceType) (a b : List ℕ) (start : ℕ) : Type 0 where
  pub size : size_of_type kind b start ≡ size_of_type kind a start
  pub reserved : uses_reserved kind b start ≡ uses_reserved kind a start
  pub varying : (index : ℕ) → varying_fault kind b index start ≡ varying_fault kind a index start
  pub rpmsg : is_rpmsg_of_type kind b start ≡ is_rpmsg_of_type kind a start
  pub offers : offers_of kind b start ≡ offers_of kind a start

-- the bytes of a device agree but for the fields that are fixed
pub record DeviceAgrees (a b : List ℕ) (start : ℕ) : Type 0 where
  pub head : Agree a b start (start + 16)
  pub config : Agree a b (start + 20) (start + 24)
  pub counts : Agree a b (start + 25) (start + 28)
  pub rings : (ring : ℕ) → ring < ring_count a start → Agree a b (vring_start start ring + 4) (vring_start start ring + 12)

-- a function of the numbers of a range, by its values
pub map_range_same : {X : Type 0} (f g : ℕ → X) (a n : ℕ) → ((i : ℕ) → a ≤ i → i < a + n → f i ≡ g i) → map f (range_with_len a n) ≡ map g (range_with_len a n)
map_range_same f g a zero same = refl
map_range_same f g a (suc n) same =
    ap (λ x. x ∷ map f (range_with_len (a + 1) n)) (same a (omega arith) (omega arith))
    ∙ ap (λ xs. g a ∷ xs) (map_range_same f g (a + 1) n (λ i low high. same i (omega arith) (omega arith)))

-- the tests of a ring and of a device, by their outcomes
abbrev ring_by : ℕ → ℕ → ℕ → Option TableFault
ring_by index num align = first_fault (fault_if (not (is_ring_size num)) (fault.RingSize index) ∷ fault_if (not (is_ring_align align)) (fault.RingAlign index) ∷ [])

abbrev device_by : ℕ → Bool → Bool → Option TableFault → Option TableFault
device_by index wrong short rings = first_fault (fault_if wrong (fault.RingCount index) ∷ fault_if short (fault.EntryShort index) ∷ rings ∷ [])

ring_tests_same : (a b : List ℕ) (index start ring : ℕ) → Agree a b (vring_start start ring + 4) (vring_start start ring + 12)
    → ring_fault_at b index start ring ≡ ring_fault_at a index start ring
unfolding vring_at
ring_tests_same a b index start ring agree =
    let at = vring_start start ring in
    let align = number_same 4 (at + 4) a b (narrow a b (at + 4) (at + 12) (at + 4) (at + 4 + 4) agree (omega arith) (omega arith)) in
    let num = number_same 4 (at + 8) a b (narrow a b (at + 4) (at + 12) (at + 8) (at + 8 + 4) agree (omega arith) (omega arith)) in
    ap (λ n. ring_by index n (field fw_rsc_vdev_vring.align at b)) num ∙ ap (ring_by index (field fw_rsc_vdev_vring.num at a)) align

pub count_same : (a b : List ℕ) (start : ℕ) → DeviceAgrees a b start → ring_count b start ≡ ring_count a start
count_same a b start agrees = number_same 1 (start + 25) a b (narrow a b (start + 25) (start + 28) (start + 25) (start + 25 + 1) agrees.counts (omega arith) (omega arith))

abbrev wrong_by : ℕ → ℕ → Bool
wrong_by count id = nat_lt 2 count || ((id == 7) && not (count == 2))

-- the tests of a device read the same
pub device_tests : (a b : List ℕ) (start : ℕ) → length b ≡ length a → DeviceAgrees a b start → SameTests type.Vdev a b start
device_tests a b start len agrees =
    let count = count_same a b start agrees in
    let id = number_same 4 (start + 4) a b (narrow a b start (start + 16) (start + 4) (start + 4 + 4) agrees.head (omega arith) (omega arith)) in
    let features = number_same 4 (start + 12) a b (narrow a b start (start + 16) (start + 12) (start + 12 + 4) agrees.head (omega arith) (omega arith)) in
    let config = number_same 4 (start + 20) a b (narrow a b (start + 20) (start + 24) (start + 20) (start + 20 + 4) agrees.config (omega arith) (omega arith)) in
    let reserved = number_same 2 (start + 26) a b (narrow a b (start + 25) (start + 28) (start + 26) (start + 26 + 2) agrees.counts (omega arith) (omega arith)) in
    let size : device_size b start ≡ device_size a start = omega (arith, count, config) in
    let wrong : has_wrong_ring_count b start ≡ has_wrong_ring_count a start =
    ap (λ n. wrong_by n (field fw_rsc_vdev.id start b)) count ∙ ap (wrong_by (ring_count a start)) id in
    let short : nat_lt (length b) (start + device_size b start) ≡ nat_lt (length a) (start + device_size a start) =
    ap (λ n. nat_lt n (start + device_size b start)) len ∙ ap (λ n. nat_lt (length a) (start + n)) size in
    let rings : (index : ℕ) → rings_fault b index start ≡ rings_fault a index start =
    λ index. ap (λ n. first_fault (map (ring_fault_at b index start) (range_with_len 0 n))) count
    ∙ ap first_fault (map_range_same (ring_fault_at b index start) (ring_fault_at a index start) 0 (ring_count a start)
    (λ ring low high. ring_tests_same a b index start ring (agrees.rings ring (omega arith)))) in
    record {
      size = size;
      reserved = ap (λ n. not (n == 0)) reserved;
      varying = λ index.
          ap (λ w. device_by index w (nat_lt (length b) (start + device_size b start)) (rings_fault b index start)) wrong
          ∙ ap (λ s. device_by index (has_wrong_ring_count a start) s (rings_fault b index start)) short
          ∙ ap (device_by index (has_wrong_ring_count a start) (nat_lt (length a) (start + device_size a start))) (rings index);
      rpmsg = ap (λ n. n == 7) id;
      offers = features;
    }

pub device_whole : (a b : List ℕ) (start : ℕ) → Agree a b start (start + device_size a start) → DeviceAgrees a b start
device_whole a b start agree =
    let end = start + device_size a start in
    record {
      head = narrow a b start end start (start + 16) agree (omega arith) (omega arith);
      config = narrow a b start end (start + 20) (start + 24) agree (omega arith) (omega arith);
      counts = narrow a b start end (start + 25) (start + 28) agree (omega arith) (omega arith);
      rings = λ ring below. narrow a b start end (vring_start start ring + 4) (vring_start start ring + 12) agree (omega arith) (omega arith);
    }

-- the tests of an entry whose bytes all agree read the same
pub tests_whole : (kind : ResourceType) (a b : List ℕ) (start : ℕ) → length b ≡ length a → Agree a b start (start + size_of_type kind a start) → SameTests kind a b start
tests_whole type.Carveout a b start len agree = record {
  size = refl;
  reserved = ap (λ n. not (n == 0)) (number_same 4 (start + 20) a b (narrow a b start (start + 56) (start + 20) (start + 20 + 4) agree (omega arith) (omega arith)));
  varying = λ index. refl;
  rpmsg = refl;
  offers = refl;
}
tests_whole type.Devmem a b start len agree = record {
  size = refl;
  reserved = ap (λ n. not (n == 0)) (number_same 4 (start + 20) a b (narrow a b start (start + 56) (start + 20) (start + 20 + 4) agree (omega arith) (omega arith)));
  varying = λ index. refl;
  rpmsg = refl;
  offers = refl;
}
tests_whole type.Trace a b start len agree = record {
  size = refl;
  reserved = ap (λ n. not (n == 0)) (number_same 4 (start + 12) a b (narrow a b start (start + 48) (start + 12) (start + 12 + 4) agree (omega arith) (omega arith)));
  varying = λ index. refl;
  rpmsg = refl;
  offers = refl;
}
tests_whole type.Vdev a b start len agree = device_tests a b start len (device_whole a b start agree)
tests_whole type.Other a b start len agree = record { size = refl; reserved = refl; varying = λ index. refl; rpmsg = refl; offers = refl }

abbrev vring : ℕ → ℕ → ℕ → ℕ → ℕ → Ring
vring da align num notify pa = record { da = da; align = align; num = num; notify = notify; pa = pa }

pub same_vring : (da align num notify pa d a n f p : ℕ) → da ≡ d → align ≡ a → num ≡ n → notify ≡ f → pa ≡ p → vring da align num notify pa ≡ vring d a n f p
same_vring da align num notify pa d a n f p one two three four five = cc

vring_same : (a b : List ℕ) (at : ℕ) → Agree a b at (at + 20) → vring_at b at ≡ vring_at a at
unfolding vring_at
vring_same a b at agree =
    let part : (o : ℕ) → o + 4 ≤ 20 → Agree a b (at + o) (at + o + 4) = λ o inside. narrow a b at (at + 20) (at + o) (at + o + 4) agree (omega arith) (omega arith) in
    same_vring _ _ _ _ _ _ _ _ _ _
    (number_same 4 (at + 0) a b (part 0 (omega arith))) (number_same 4 (at + 4) a b (part 4 (omega arith))) (number_same 4 (at + 8) a b (part 8 (omega arith)))
    (number_same 4 (at + 12) a b (part 12 (omega arith))) (number_same 4 (at + 16) a b (part 16 (omega arith)))

no_ring_there : (bytes : List ℕ) (start ring : ℕ) → ring_count bytes start ≤ ring → ring_of bytes start ring ≡ no_ring
no_ring_there bytes start ring past = let e = le-ltb ring (ring_count bytes start) past in rw e refl

-- a ring of a device reads the same where its bytes agree
pub ring_kept : (a b : List ℕ) (start ring : ℕ) → ring_count b start ≡ ring_count a start → (ring < ring_count a start → Agree a b (vring_start start ring) (vring_start start ring + 20))
    → ring_of b start ring ≡ ring_of a start ring
ring_kept a b start ring count agree =
    elim (cases_lt ring (ring_count a start)) [
      | inl below ↦ ring_there b start ring (omega (arith, count, below)) ∙ vring_same a b (vring_start start ring) (agree below) ∙ sym (ring_there a start ring below)
      | inr past ↦ no_ring_there b start ring (omega (arith, count, past)) ∙ sym (no_ring_there a start ring past)
    ]

-- a device that agrees but for its fixed fields
abbrev vdev : ℕ → ℕ → ℕ → ℕ → ℕ → Ring → Ring → Vdev
vdev id features guest status count first second = record { id = id; features = features; guest = guest; status = status; count = count; first = first; second = second }

same_vdev : (id features guest status count i f g s c : ℕ) (first second one two : Ring) → id ≡ i → features ≡ f → guest ≡ g → status ≡ s → count ≡ c → first ≡ one → second ≡ two
    → vdev id features guest status count first second ≡ vdev i f g s c one two
same_vdev id features guest status count i f g s c first second one two e1 e2 e3 e4 e5 e6 e7 = cc

pub device_is : (a b : List ℕ) (start guest status : ℕ) (first second : Ring) → DeviceAgrees a b start
    → field fw_rsc_vdev.gfeatures start b ≡ guest → field fw_rsc_vdev.status start b ≡ status → ring_of b start 0 ≡ first → ring_of b start 1 ≡ second
    → device_at b start ≡ record (device_at a start) { guest = guest; status = status; first = first; second = second }
unfolding device_at
device_is a b start guest status first second agrees g s one two =
    let id = number_same 4 (start + 4) a b (narrow a b start (start + 16) (start + 4) (start + 4 + 4) agrees.head (omega arith) (omega arith)) in
    let features = number_same 4 (start + 12) a b (narrow a b start (start + 16) (start + 12) (start + 12 + 4) agrees.head (omega arith) (omega arith)) in
    same_vdev _ _ _ _ _ _ _ _ _ _ _ _ _ _ id features g s (count_same a b start agrees) one two

device_kept : (a b : List ℕ) (start : ℕ) → Agree a b start (start + device_size a start) → device_at b start ≡ device_at a start
unfolding device_at
device_kept a b start agree =
    let end = start + device_size a start in
    let agrees = device_whole a b start agree in
    let ring : (r : ℕ) → ring_of b start r ≡ ring_of a start r =
    λ r. ring_kept a b start r (count_same a b start agrees) (λ below. narrow a b start end (vring_start start r) (vring_start start r + 20) agree (omega arith) (omega (arith, below))) in
    device_is a b start (field fw_rsc_vdev.gfeatures start a) (field fw_rsc_vdev.status start a) (ring_of a start 0) (ring_of a start 1) agrees
    (number_same 4 (start + 16) a b (narrow a b start end (start + 16) (start + 16 + 4) agree (omega arith) (omega arith)))
    (number_same 1 (start + 24) a b (narrow a b start end (start + 24) (start + 24 + 1) agree (omega arith) (omega arith)))
    (ring 0) (ring 1)

pub four_same : (make : ℕ → ℕ → ℕ → List ℕ → Entry) (da pa len d p l : ℕ) (name n : List ℕ) → da ≡ d → pa ≡ p → len ≡ l → name ≡ n → make da pa len name ≡ make d p l n
four_same make da pa len d p l name n e f g h = cc

three_same : (da len d l : ℕ) (name n : List ℕ) → da ≡ d → len ≡ l → name ≡ n → entry.Trace da len name ≡ entry.Trace d l n
three_same da len d l name n e f g = cc

-- an entry reads the same where its bytes agree
pub entry_whole : (kind : ResourceType) (a b : List ℕ) (start : ℕ) → length b ≡ length a → field fw_rsc_hdr.type start b ≡ field fw_rsc_hdr.type start a
    → Agree a b start (start + size_of_type kind a start) → entry_of_type kind b start ≡ entry_of_type kind a start
entry_whole type.Carveout a b start len head agree =
    let part : (o : ℕ) → o + 4 ≤ 56 → Agree a b (start + o) (start + o + 4) = λ o inside. narrow a b start (start + 56) (start + o) (start + o + 4) agree (omega arith) (omega arith) in
    four_same (λ da pa len name. entry.Carveout da pa len name) _ _ _ _ _ _ _ _
    (number_same 4 (start + 4) a b (part 4 (omega arith))) (number_same 4 (start + 8) a b (part 8 (omega arith))) (number_same 4 (start + 12) a b (part 12 (omega arith)))
    (name_same (start + 24) a b len (narrow a b start (start + 56) (start + 24) (start + 24 + 31) agree (omega arith) (omega arith)))
entry_whole type.Devmem a b start len head agree =
    let part : (o : ℕ) → o + 4 ≤ 56 → Agree a b (start + o) (start + o + 4) = λ o inside. narrow a b start (start + 56) (start + o) (start + o + 4) agree (omega arith) (omega arith) in
    four_same (λ da pa len name. entry.Devmem da pa len name) _ _ _ _ _ _ _ _
    (number_same 4 (start + 4) a b (part 4 (omega arith))) (number_same 4 (start + 8) a b (part 8 (omega arith))) (number_same 4 (start + 12) a b (part 12 (omega arith)))
    (name_same (start + 24) a b len (narrow a b start (start + 56) (start + 24) (start + 24 + 31) agree (omega arith) (omega arith)))
entry_whole type.Trace a b start len head agree =
    let part : (o : ℕ) → o + 4 ≤ 48 → Agree a b (start + o) (start + o + 4) = λ o inside. narrow a b start (start + 48) (start + o) (start + o + 4) agree (omega arith) (omega arith) in
    three_same _ _ _ _ _ _
    (number_same 4 (start + 4) a b (part 4 (omega arith))) (number_same 4 (start + 8) a b (part 8 (omega arith)))
    (name_same (start + 16) a b len (narrow a b start (start + 48) (start + 16) (start + 16 + 31) agree (omega arith) (omega arith)))
entry_whole type.Vdev a b start len head agree = ap entry.Device (device_kept a b start agree)
entry_whole type.Other a b start len head agree = ap entry.Skipped head
