-- The table that a remote core is given: with the places of its carveouts and rings, and its RPMsg device set up.
use Rattle.std.specs.Prelude.{ℕ, ◌+◌, ◌≤◌, ◌<◌, ◌⊎◌, nat_lt, Bool, false, not, ◌&&◌, List, [], ◌∷◌, ◌++◌, slice_get, Option, Some, None, if◌then◌else◌}
use Rattle.std.specs.Int.RustNames.{bit_and}
use Rattle.std.specs.List.{flat_map, range_with_len}
use Rattle.rp_base.specs.Fields.{with_number}
use Rattle.resource_table.specs.Layout.{Field, field, fw_rsc_carveout, fw_rsc_vdev, fw_rsc_vdev_vring}
use Rattle.resource_table.specs.Entries.{entry_count, start_of, vring_start}
use Rattle.resource_table.specs.Tables.{is_rpmsg}
use Rattle.resource_table.specs.declared.entries.Entry.{Entry}
use Rattle.resource_table.specs.declared.entries.Entry.TheVariants as entry
use Rattle.resource_table.specs.declared.fixes.Fix.{Fix}

-- a number that is written into a field: its place from the table's start, its width in bytes, and its value (own)
pub record Write : Type 0 where
  pub at : ℕ
  pub width : ℕ
  pub value : ℕ

-- a number for a field of the structure that begins at a place (own)
abbrev pub into : Field → ℕ → ℕ → Write
into f start value = record { at = start + f.at; width = f.width; value = value }

-- the bytes after writes that are made in order (own)
abbrev pub after_writes : List Write → List ℕ → List ℕ
after_writes [] bytes = bytes
after_writes (write ∷ more) bytes = after_writes more (with_number write.width write.at write.value bytes)

-- whether an entry takes a fix: a carveout one that is for no ring, a device one for a ring that it has (own)
abbrev pub takes_fix : Fix → Entry → Bool
takes_fix fix (entry.Carveout da pa len name) = not fix.rings
takes_fix fix (entry.Device device) = fix.rings && nat_lt fix.ring device.count
takes_fix fix _ = false

-- whether there is an entry, and it takes a fix (own)
abbrev pub is_taken : Fix → Option Entry → Bool
is_taken fix None = false
is_taken fix (Some found) = takes_fix fix found

-- whether a fix names one of the entries, which takes it (own)
abbrev pub is_fix_of : List Entry → Fix → Bool
is_fix_of entries fix = is_taken fix (slice_get entries fix.entry)

-- what a fix of a ring writes (struct fw_rsc_vdev_vring)
abbrev pub ring_writes : Fix → ℕ → List Write
ring_writes fix start =
    into fw_rsc_vdev_vring.da start fix.da ∷ into fw_rsc_vdev_vring.notifyid start fix.notify ∷ into fw_rsc_vdev_vring.pa start fix.pa ∷ []

-- what a fix of a carveout writes (struct fw_rsc_carveout)
abbrev pub carveout_writes : Fix → ℕ → List Write
carveout_writes fix start = into fw_rsc_carveout.da start fix.da ∷ into fw_rsc_carveout.pa start fix.pa ∷ []

-- what a fix writes into a table (own)
abbrev pub fix_writes : List ℕ → Fix → List Write
fix_writes bytes fix =
    if fix.rings
    then ring_writes fix (vring_start (start_of bytes fix.entry) fix.ring)
    else carveout_writes fix (start_of bytes fix.entry)

-- what the device for RPMsg that begins at a place is set to: of the features that it offers VIRTIO_RPMSG_F_NS, bit 0, and the status ACKNOWLEDGE 1, DRIVER 2 and DRIVER_OK 4, 7 in all (VIRTIO 1.2, 2.1)
abbrev pub rpmsg_writes : ℕ → ℕ → List Write
rpmsg_writes features start =
    into fw_rsc_vdev.gfeatures start (bit_and features 1) ∷ into fw_rsc_vdev.status start 7 ∷ []

-- what is written into the entry of a number: where it is a device for RPMsg, that it is set up (own)
abbrev pub device_writes : List ℕ → ℕ → List Write
device_writes bytes index =
    let start = start_of bytes index in
    if is_rpmsg bytes index then rpmsg_writes (field fw_rsc_vdev.dfeatures start bytes) start else []

-- all that is written into a table: the fixes, then its RPMsg device (own)
abbrev pub patch_writes : List ℕ → List Fix → List Write
patch_writes bytes fixes =
    flat_map (fix_writes bytes) fixes ++ flat_map (device_writes bytes) (range_with_len 0 (entry_count bytes))

-- the patched table (own)
abbrev pub patched_of : List ℕ → List Fix → List ℕ
patched_of bytes fixes = after_writes (patch_writes bytes fixes) bytes

-- a place that a write leaves as it is: it is before the field or after it (own)
abbrev pub LeavesPlace : ℕ → Write → Type 0
LeavesPlace place write = (place < write.at) ⊎ (write.at + write.width ≤ place)
