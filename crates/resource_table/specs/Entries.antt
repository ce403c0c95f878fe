-- The entries of a resource table, read off its bytes.
use Rattle.std.specs.Prelude.{ℕ, ◌+◌, ◌*◌, ◌==◌, nat_lt, List, map, take, drop, if◌then◌else◌}
use Rattle.std.specs.List.{range_with_len}
use Rattle.rp_base.specs.Fields.{number_at}
use Rattle.rp_base.specs.Texts.{text_before_zero}
use Rattle.rp_base.specs.declared.limits.TheConstants.{NAME_MOST}
use Rattle.resource_table.specs.Layout.{field, resource_table, fw_rsc_hdr, fw_rsc_carveout, fw_rsc_trace, fw_rsc_vdev, fw_rsc_vdev_vring}
use Rattle.resource_table.specs.declared.kinds.ResourceType.{ResourceType}
use Rattle.resource_table.specs.declared.kinds.ResourceType.TheVariants as type
use Rattle.resource_table.specs.declared.entries.Entry.{Entry}
use Rattle.resource_table.specs.declared.entries.Entry.TheVariants as entry
use Rattle.resource_table.specs.declared.entries.Ring.{Ring}
use Rattle.resource_table.specs.declared.entries.Vdev.{Vdev}

-- how many entries a table says that it has (struct resource_table, num)
abbrev pub entry_count : List ℕ → ℕ
entry_count bytes = field resource_table.num 0 bytes

-- where the entry of a number begins, counted from the table's start (struct resource_table, offset[])
abbrev pub start_of : List ℕ → ℕ → ℕ
start_of bytes index =
    number_at resource_table.offset_size (resource_table.size + resource_table.offset_size * index) bytes

-- the type that a number names: RSC_CARVEOUT 0, RSC_DEVMEM 1, RSC_TRACE 2, RSC_VDEV 3 (enum fw_resource_type); others are skipped (own)
abbrev pub type_of : ℕ → ResourceType
type_of number =
    if number == 0
    then type.Carveout
    else if number == 1
    then type.Devmem
    else if number == 2
    then type.Trace
    else if number == 3
    then type.Vdev
    else type.Other

-- the type of the entry that begins at a place (struct fw_rsc_hdr, type)
abbrev pub type_at : List ℕ → ℕ → ResourceType
type_at bytes start = type_of (field fw_rsc_hdr.type start bytes)

-- the name in a field that begins at a place: the bytes up to the first zero, and the last byte counts as zero (char name[32])
abbrev pub name_at : ℕ → List ℕ → List ℕ
name_at place bytes = text_before_zero (take NAME_MOST (drop place bytes))

-- where the vring of a number begins, in the device that begins at a place (struct fw_rsc_vdev, vring[])
abbrev pub vring_start : ℕ → ℕ → ℕ
vring_start start ring = start + fw_rsc_vdev.size + fw_rsc_vdev_vring.size * ring

-- the vring that begins at a place (struct fw_rsc_vdev_vring)
unfoldable pub vring_at : List ℕ → ℕ → Ring
vring_at bytes start = record {
  da = field fw_rsc_vdev_vring.da start bytes;
  align = field fw_rsc_vdev_vring.align start bytes;
  num = field fw_rsc_vdev_vring.num start bytes;
  notify = field fw_rsc_vdev_vring.notifyid start bytes;
  pa = field fw_rsc_vdev_vring.pa start bytes;
}

-- how a ring that a device does not have reads (own)
abbrev pub no_ring : Ring
no_ring = record { da = 0; align = 0; num = 0; notify = 0; pa = 0 }

-- how many vrings the device that begins at a place has (struct fw_rsc_vdev, num_of_vrings)
abbrev pub ring_count : List ℕ → ℕ → ℕ
ring_count bytes start = field fw_rsc_vdev.num_of_vrings start bytes

-- the vring of a number, or zeros where the device does not have it (own)
abbrev pub ring_of : List ℕ → ℕ → ℕ → Ring
ring_of bytes start ring =
    if nat_lt ring (ring_count bytes start) then vring_at bytes (vring_start start ring) else no_ring

-- the device that begins at a place (struct fw_rsc_vdev)
unfoldable pub device_at : List ℕ → ℕ → Vdev
device_at bytes start = record {
  id = field fw_rsc_vdev.id start bytes;
  features = field fw_rsc_vdev.dfeatures start bytes;
  guest = field fw_rsc_vdev.gfeatures start bytes;
  status = field fw_rsc_vdev.status start bytes;
  count = ring_count bytes start;
  first = ring_of bytes start 0;
  second = ring_of bytes start 1;
}

-- the entry of a type that begins at a place (struct fw_rsc_carveout, fw_rsc_devmem, fw_rsc_trace, fw_rsc_vdev)
abbrev pub entry_of_type : ResourceType → List ℕ → ℕ → Entry
entry_of_type type.Carveout bytes start =
    entry.Carveout (field fw_rsc_carveout.da start bytes) (field fw_rsc_carveout.pa start bytes) (field fw_rsc_carveout.len start bytes)
    (name_at (start + fw_rsc_carveout.name.at) bytes)
entry_of_type type.Devmem bytes start =
    entry.Devmem (field fw_rsc_carveout.da start bytes) (field fw_rsc_carveout.pa start bytes) (field fw_rsc_carveout.len start bytes)
    (name_at (start + fw_rsc_carveout.name.at) bytes)
entry_of_type type.Trace bytes start =
    entry.Trace (field fw_rsc_trace.da start bytes) (field fw_rsc_trace.len start bytes) (name_at (start + fw_rsc_trace.name.at) bytes)
entry_of_type type.Vdev bytes start = entry.Device (device_at bytes start)
entry_of_type type.Other bytes start = entry.Skipped (field fw_rsc_hdr.type start bytes)

-- the entry that begins at a place (struct fw_rsc_hdr)
abbrev pub entry_at : List ℕ → ℕ → Entry
entry_at bytes start = entry_of_type (type_at bytes start) bytes start

-- the entries of a table, in the order of its offsets (struct resource_table)
abbrev pub entries_of : List ℕ → List Entry
entries_of bytes = map (λ index. entry_at bytes (start_of bytes index)) (range_with_len 0 (entry_count bytes))
