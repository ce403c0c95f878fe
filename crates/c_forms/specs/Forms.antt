-- The plain structs by which C is given what was read (own).
use Rattle.std.specs.Prelude.{ℕ, length, replicate, Option}
use Rattle.std.specs.Option.{unwrap_or}
use Rattle.rp_base.specs.Texts.{padded_name}
use Rattle.elf_image.specs.Segments.{SegmentAt}
use Rattle.resource_table.specs.declared.entries.Entry.{Entry}
use Rattle.resource_table.specs.declared.entries.Entry.TheVariants as entry
use Rattle.resource_table.specs.declared.entries.Ring.{Ring}
use Rattle.resource_table.specs.declared.entries.Vdev.{Vdev}
use Rattle.c_forms.specs.declared.TheConstants.{NOTHING}
use Rattle.c_forms.specs.declared.entries.CEntry.{CEntry}
use Rattle.c_forms.specs.declared.rings.CRing.{CRing}
use Rattle.c_forms.specs.declared.segments.CSegment.{CSegment}

-- a loaded segment (own)
abbrev pub segment_form : SegmentAt → CSegment
segment_form segment =
    record { index = segment.index; da = segment.da; file_len = length segment.file; memory_len = segment.memory_len }

-- a ring (own)
abbrev pub ring_form : Ring → CRing
ring_form ring = record { da = ring.da; align = ring.align; num = ring.num; notify = ring.notify; pa = ring.pa }

-- a ring that is not there (own)
abbrev pub no_ring : CRing
no_ring = record { da = 0; align = 0; num = 0; notify = 0; pa = 0 }

-- an entry of a type, of which nothing more is given (own)
abbrev pub blank : ℕ → CEntry
blank kind = record {
  kind = kind;
  da = 0;
  pa = 0;
  len = 0;
  at = NOTHING;
  name = replicate 32 0;
  id = 0;
  features = 0;
  guest = 0;
  status = 0;
  count = 0;
  first = no_ring;
  second = no_ring;
}

-- a device with its rings (own)
abbrev pub device_form : Vdev → CEntry
device_form device = record (blank 3) {
  id = device.id;
  features = device.features;
  guest = device.guest;
  status = device.status;
  count = device.count;
  first = ring_form device.first;
  second = ring_form device.second;
}

-- an entry by its type, RSC_CARVEOUT 0, RSC_DEVMEM 1, RSC_TRACE 2, RSC_VDEV 3 (enum fw_resource_type); the bytes of a trace are at a place, if anything holds them (own)
abbrev pub entry_form : Option ℕ → Entry → CEntry
entry_form place (entry.Carveout da pa len name) = record (blank 0) { da = da; pa = pa; len = len; name = padded_name name }
entry_form place (entry.Devmem da pa len name) = record (blank 1) { da = da; pa = pa; len = len; name = padded_name name }
entry_form place (entry.Trace da len name) =
    record (blank 2) { da = da; len = len; at = unwrap_or place NOTHING; name = padded_name name }
entry_form place (entry.Device device) = device_form device
entry_form place (entry.Skipped kind) = blank kind
