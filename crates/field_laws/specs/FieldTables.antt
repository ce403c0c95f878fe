-- The numbers and the names of a resource table that are within their types (own).
use Rattle.std.specs.Prelude.{◌<◌, ◌^◌}
use Rattle.resource_table.specs.declared.entries.Entry.{Entry}
use Rattle.resource_table.specs.declared.entries.Entry.TheVariants as entry
use Rattle.resource_table.specs.declared.entries.Ring.{Ring}
use Rattle.resource_table.specs.declared.entries.Vdev.{Vdev}
use Rattle.field_laws.specs.Fields.{IsChannelName}

pub record IsFieldRing (ring : Ring) : Type 0 where
  pub da : ring.da < 2 ^ 32
  pub align : ring.align < 2 ^ 64
  pub num : ring.num < 2 ^ 64
  pub notify : ring.notify < 2 ^ 64

pub record IsFieldDevice (device : Vdev) : Type 0 where
  pub id : device.id < 2 ^ 64
  pub guest : device.guest < 2 ^ 64
  pub status : device.status < 2 ^ 64
  pub first : IsFieldRing device.first
  pub second : IsFieldRing device.second

-- names have at most 31 bytes, none of which is zero, as those of channels
abbrev pub IsFieldEntry : Entry → Type 0
IsFieldEntry (entry.Carveout da pa len name) = (da < 2 ^ 32) × (pa < 2 ^ 32) × (len < 2 ^ 32) × IsChannelName name
IsFieldEntry (entry.Devmem da pa len name) = (da < 2 ^ 32) × (pa < 2 ^ 32) × (len < 2 ^ 32) × IsChannelName name
IsFieldEntry (entry.Trace da len name) = (da < 2 ^ 32) × (len < 2 ^ 32) × IsChannelName name
IsFieldEntry (entry.Device device) = IsFieldDevice device
IsFieldEntry (entry.Skipped kind) = kind < 2 ^ 64
