-- Which resource tables are good, and what is wrong with the others: the first of the tests that fails.
use Rattle.std.specs.Prelude.{◌≡◌, ℕ, ◌<◌, ◌≤◌, ◌+◌, ◌*◌, ◌==◌, nat_lt, nat_le, Bool, true, false, not, ◌&&◌, ◌||◌, List, [], ◌∷◌, map, length, Option, None}
use Rattle.std.specs.Int.{is_power_of_two}
use Rattle.std.specs.List.{range_with_len, list_any}
use Rattle.rp_base.specs.Limits.{is_ring_size}
use Rattle.resource_table.specs.declared.TheConstants.{ENTRIES_MOST}
use Rattle.resource_table.specs.Layout.{field, resource_table, fw_rsc_hdr, fw_rsc_carveout, fw_rsc_trace, fw_rsc_vdev, fw_rsc_vdev_vring}
use Rattle.rp_base.specs.Faults.{fault_if, first_fault}
use Rattle.resource_table.specs.Entries.{entry_count, start_of, type_at, ring_count, vring_start, vring_at}
use Rattle.resource_table.specs.declared.faults.TableFault.{TableFault}
use Rattle.resource_table.specs.declared.faults.TableFault.TheVariants as fault
use Rattle.resource_table.specs.declared.kinds.ResourceType.{ResourceType}
use Rattle.resource_table.specs.declared.kinds.ResourceType.TheVariants as type
use Rattle.resource_table.specs.declared.entries.Entry.{Entry}
use Rattle.resource_table.specs.declared.entries.Entry.TheVariants as entry
use Rattle.resource_table.specs.declared.entries.Ring.{Ring}
use Rattle.resource_table.specs.declared.entries.Vdev.{Vdev}
use Rattle.resource_table.specs.declared.spans.Span.{Span}

-- whether two spans that are not empty have a byte in common (own)
abbrev pub spans_meet : Span → Span → Bool
spans_meet a b = nat_lt a.from b.to && nat_lt b.from a.to

-- where the offsets end (struct resource_table, offset[])
abbrev pub offsets_end : List ℕ → ℕ
offsets_end bytes = resource_table.size + resource_table.offset_size * entry_count bytes

-- whether an offset names a place past the end (struct resource_table, offset[])
abbrev pub is_past_end : List ℕ → ℕ → Bool
is_past_end bytes index = nat_lt (length bytes) (start_of bytes index)

-- whether there are more entries than there may be (own), the offsets pass the end, or one of them does (struct resource_table, num and offset[])
abbrev pub has_wrong_offsets : List ℕ → Bool
has_wrong_offsets bytes =
    nat_lt ENTRIES_MOST (entry_count bytes)
    || nat_lt (length bytes) (offsets_end bytes)
    || list_any (is_past_end bytes) (range_with_len 0 (entry_count bytes))

-- the tests of the header and the offsets (struct resource_table)
abbrev pub header_fault : List ℕ → Option TableFault
header_fault bytes = first_fault
    (fault_if (nat_lt (length bytes) resource_table.size) fault.TableShort
    ∷ fault_if (not (field resource_table.ver 0 bytes == 1)) fault.Version
    ∷ fault_if (not (field resource_table.reserved 0 bytes == 0)) fault.Reserved
    ∷ fault_if (has_wrong_offsets bytes) fault.Offsets
    ∷ [])

-- the bytes of the fixed part of an entry (struct fw_rsc_carveout, fw_rsc_devmem, fw_rsc_trace, fw_rsc_vdev, fw_rsc_hdr)
abbrev pub fixed_size : ResourceType → ℕ
fixed_size type.Carveout = fw_rsc_carveout.size
fixed_size type.Devmem = fw_rsc_carveout.size
fixed_size type.Trace = fw_rsc_trace.size
fixed_size type.Vdev = fw_rsc_vdev.size
fixed_size type.Other = fw_rsc_hdr.size

-- the bytes of the device that begins at a place, in all: the fixed part, the vrings and the configuration (struct fw_rsc_vdev, config_len)
abbrev pub device_size : List ℕ → ℕ → ℕ
device_size bytes start =
    fw_rsc_vdev.size + fw_rsc_vdev_vring.size * ring_count bytes start + field fw_rsc_vdev.config_len start bytes

-- the bytes of an entry of a type, in all (own)
abbrev pub size_of_type : ResourceType → List ℕ → ℕ → ℕ
size_of_type type.Carveout bytes start = fw_rsc_carveout.size
size_of_type type.Devmem bytes start = fw_rsc_carveout.size
size_of_type type.Trace bytes start = fw_rsc_trace.size
size_of_type type.Vdev bytes start = device_size bytes start
size_of_type type.Other bytes start = fw_rsc_hdr.size

-- the bytes of the entry that begins at a place, in all (own)
abbrev pub entry_size : List ℕ → ℕ → ℕ
entry_size bytes start = size_of_type (type_at bytes start) bytes start

-- whether a reserved field of an entry is not 0 (struct fw_rsc_carveout, fw_rsc_devmem, fw_rsc_trace, fw_rsc_vdev, reserved)
abbrev pub uses_reserved : ResourceType → List ℕ → ℕ → Bool
uses_reserved type.Carveout bytes start = not (field fw_rsc_carveout.reserved start bytes == 0)
uses_reserved type.Devmem bytes start = not (field fw_rsc_carveout.reserved start bytes == 0)
uses_reserved type.Trace bytes start = not (field fw_rsc_trace.reserved start bytes == 0)
uses_reserved type.Vdev bytes start = not (field fw_rsc_vdev.reserved start bytes == 0)
uses_reserved type.Other bytes start = false

-- whether a device has more than two vrings, or is for RPMsg, VIRTIO_ID_RPMSG 7, and has not two (own)
abbrev pub has_wrong_ring_count : List ℕ → ℕ → Bool
has_wrong_ring_count bytes start =
    nat_lt 2 (ring_count bytes start) || (field fw_rsc_vdev.id start bytes == 7 && not (ring_count bytes start == 2))

-- an alignment of a ring: a power of two from 4 (VIRTIO 1.2, 2.7) to 65,536 (own)
abbrev pub is_ring_align : ℕ → Bool
is_ring_align align = is_power_of_two align && nat_le 4 align && nat_le align 65536

-- the tests of one vring (struct fw_rsc_vdev_vring, num and align)
abbrev pub ring_fault : ℕ → Ring → Option TableFault
ring_fault index ring = first_fault
    (fault_if (not (is_ring_size ring.num)) (fault.RingSize index) ∷ fault_if (not (is_ring_align ring.align)) (fault.RingAlign index) ∷ [])

-- the tests of the vring of a number, of the device that begins at a place (struct fw_rsc_vdev, vring[])
abbrev pub ring_fault_at : List ℕ → ℕ → ℕ → ℕ → Option TableFault
ring_fault_at bytes index start ring = ring_fault index (vring_at bytes (vring_start start ring))

-- the tests of the vrings of a device, vring by vring (struct fw_rsc_vdev, vring[])
abbrev pub rings_fault : List ℕ → ℕ → ℕ → Option TableFault
rings_fault bytes index start =
    first_fault (map (ring_fault_at bytes index start) (range_with_len 0 (ring_count bytes start)))

-- the tests of a device after its fixed part (struct fw_rsc_vdev)
abbrev pub device_fault : List ℕ → ℕ → ℕ → Option TableFault
device_fault bytes index start = first_fault
    (fault_if (has_wrong_ring_count bytes start) (fault.RingCount index)
    ∷ fault_if (nat_lt (length bytes) (start + device_size bytes start)) (fault.EntryShort index)
    ∷ rings_fault bytes index start
    ∷ [])

-- the tests after the fixed part, by the type of the entry (own)
abbrev pub varying_fault : ResourceType → List ℕ → ℕ → ℕ → Option TableFault
varying_fault type.Vdev bytes index start = device_fault bytes index start
varying_fault _ bytes index start = None

-- whether an entry of a type is a device for RPMsg, VIRTIO_ID_RPMSG 7 (struct fw_rsc_vdev, id)
abbrev pub is_rpmsg_of_type : ResourceType → List ℕ → ℕ → Bool
is_rpmsg_of_type type.Vdev bytes start = field fw_rsc_vdev.id start bytes == 7
is_rpmsg_of_type _ bytes start = false

-- whether the entry of a number is a device for RPMsg (struct fw_rsc_vdev, id)
abbrev pub is_rpmsg : List ℕ → ℕ → Bool
is_rpmsg bytes index = is_rpmsg_of_type (type_at bytes (start_of bytes index)) bytes (start_of bytes index)

-- the bytes of the entry of a number, in all (own)
abbrev pub entry_span : List ℕ → ℕ → Span
entry_span bytes index =
    record { from = start_of bytes index; to = start_of bytes index + entry_size bytes (start_of bytes index) }

-- what is in a table before the entry of a number: the header with the offsets, and the earlier entries (own)
abbrev pub earlier_spans : List ℕ → ℕ → List Span
earlier_spans bytes index = record { from = 0; to = offsets_end bytes } ∷ map (entry_span bytes) (range_with_len 0 index)

-- the tests of the entry of a number by its own bytes (struct fw_rsc_hdr)
abbrev pub form_fault : List ℕ → ℕ → Option TableFault
form_fault bytes index =
    let start = start_of bytes index in
    first_fault
    (fault_if (nat_lt (length bytes) (start + fixed_size (type_at bytes start))) (fault.EntryShort index)
    ∷ fault_if (uses_reserved (type_at bytes start) bytes start) (fault.EntryReserved index)
    ∷ varying_fault (type_at bytes start) bytes index start
    ∷ [])

-- all tests of the entry of a number: its own, then that it is no second device for RPMsg, then that its bytes are no other's (own)
abbrev pub entry_fault : List ℕ → ℕ → Option TableFault
entry_fault bytes index = first_fault
    (form_fault bytes index
    ∷ fault_if (is_rpmsg bytes index && list_any (is_rpmsg bytes) (range_with_len 0 index)) (fault.SecondRpmsg index)
    ∷ fault_if (list_any (spans_meet (entry_span bytes index)) (earlier_spans bytes index)) fault.Offsets
    ∷ [])

-- the first fault of the entries, entry by entry (own)
abbrev pub entries_fault : List ℕ → Option TableFault
entries_fault bytes = first_fault (map (entry_fault bytes) (range_with_len 0 (entry_count bytes)))

-- the first of all tests that fails, if one does (own)
abbrev pub table_fault : List ℕ → Option TableFault
table_fault bytes = first_fault (header_fault bytes ∷ entries_fault bytes ∷ [])

-- a table that passes all tests (own)
abbrev pub GoodTable : List ℕ → Type 0
GoodTable bytes = table_fault bytes ≡ None

-- a ring that has passed its tests (struct fw_rsc_vdev_vring, num and align)
pub record IsSoundRing (ring : Ring) : Type 0 where
  pub size : is_ring_size ring.num ≡ true
  pub align : is_ring_align ring.align ≡ true

-- a device that has passed its tests: at most two rings, of which one for RPMsg has both, and sound ones (struct fw_rsc_vdev)
pub record IsSoundDevice (device : Vdev) : Type 0 where
  pub count : device.count ≤ 2
  pub rpmsg : device.id ≡ 7 → device.count ≡ 2
  pub first : 0 < device.count → IsSoundRing device.first
  pub second : 1 < device.count → IsSoundRing device.second

-- an entry that has passed its tests (own)
abbrev pub IsSoundEntry : Entry → Type 0
IsSoundEntry (entry.Device device) = IsSoundDevice device
IsSoundEntry _ = Unit {0}
