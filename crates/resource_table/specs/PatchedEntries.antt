-- What the entries of a patched table are: those of the table, with the fixes in their fields and the device for RPMsg set up.
use Rattle.std.specs.Prelude.{ℕ, ◌+◌, ◌^◌, ◌<◌, ◌==◌, List, [], ◌∷◌, if◌then◌else◌}
use Rattle.std.specs.Int.RustNames.{bit_and}
use Rattle.resource_table.specs.declared.entries.Entry.{Entry}
use Rattle.resource_table.specs.declared.entries.Entry.TheVariants as entry
use Rattle.resource_table.specs.declared.entries.Ring.{Ring}
use Rattle.resource_table.specs.declared.fixes.Fix.{Fix}

-- the numbers of a fix fit the fields of 32 bits that they are written into (struct fw_rsc_carveout, fw_rsc_vdev_vring)
pub record IsSmallFix (fix : Fix) : Type 0 where
  pub da : fix.da < 2 ^ 32
  pub pa : fix.pa < 2 ^ 32
  pub notify : fix.notify < 2 ^ 32

-- a ring with the place and the number of a fix (struct fw_rsc_vdev_vring, da, notifyid, pa)
abbrev pub placed_ring : Fix → Ring → Ring
placed_ring fix ring = record ring { da = fix.da; notify = fix.notify; pa = fix.pa }

-- the ring of a number of a device, placed where a fix is for it (own)
abbrev pub ring_with : Fix → ℕ → Ring → Ring
ring_with fix number ring = if fix.ring == number then placed_ring fix ring else ring

-- an entry with a fix in its fields: a carveout with its place, a device with one of its rings placed (struct fw_rsc_carveout, da, pa; struct fw_rsc_vdev)
abbrev pub with_fix : Fix → Entry → Entry
with_fix fix (entry.Carveout da pa len name) = entry.Carveout fix.da fix.pa len name
with_fix fix (entry.Device device) =
    entry.Device (record device { first = ring_with fix 0 device.first; second = ring_with fix 1 device.second })
with_fix fix other = other

-- the entry of a number with those fixes, in order, that name it (own)
abbrev pub fixed_entry : List Fix → ℕ → Entry → Entry
fixed_entry [] index one = one
fixed_entry (fix ∷ more) index one = fixed_entry more index (if fix.entry == index then with_fix fix one else one)

-- an entry that is set up where it is a device for RPMsg, VIRTIO_ID_RPMSG 7: of the features that it offers VIRTIO_RPMSG_F_NS, bit 0, and the status ACKNOWLEDGE 1, DRIVER 2 and DRIVER_OK 4, 7 in all (VIRTIO 1.2, 2.1)
abbrev pub set_up : Entry → Entry
set_up (entry.Device device) =
    entry.Device (if device.id == 7 then record device { guest = bit_and device.features 1; status = 7 } else device)
set_up other = other

-- the entries of a patched table, of which the first has a number, by those of the table (own)
abbrev pub patched_from : List Fix → ℕ → List Entry → List Entry
patched_from fixes index [] = []
patched_from fixes index (one ∷ more) = set_up (fixed_entry fixes index one) ∷ patched_from fixes (index + 1) more

-- all entries of a patched table (own)
abbrev pub patched_entries : List Fix → List Entry → List Entry
patched_entries fixes entries = patched_from fixes 0 entries
