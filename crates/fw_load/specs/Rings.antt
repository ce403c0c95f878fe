-- The rings of the device for RPMsg, and the traces, that a patched table has (own).
use Rattle.std.specs.Prelude.{ℕ, ◌+◌, ◌*◌, ◌^◌, ◌≤◌, IfSome, ◌==◌, Bool, false, List, [], ◌∷◌, find, Option, Some, None, option_map, unwrap_or, if◌then◌else◌}
use Rattle.std.specs.Int.RustNames.{bit_and}
use Rattle.std.specs.List.{filter_map}
use Rattle.rp_base.specs.Limits.{ring_capacity}
use Rattle.rp_base.specs.declared.limits.TheConstants.{MESSAGE_MOST}
use Rattle.resource_table.specs.declared.entries.Entry.{Entry}
use Rattle.resource_table.specs.declared.entries.Entry.TheVariants as entry
use Rattle.resource_table.specs.declared.entries.Vdev.{Vdev}
use Rattle.resource_table.specs.Tables.{IsSoundRing}
use Rattle.memory_pool.specs.declared.blocks.Block.{Block}
use Rattle.memory_pool.specs.declared.blocks.Use.{Use}
use Rattle.memory_pool.specs.declared.blocks.Use.TheVariants as usage
use Rattle.fw_load.specs.declared.rings.RingPair.{RingPair}
use Rattle.fw_load.specs.declared.traces.TraceAt.{TraceAt}

-- whether a block is for the buffers of an entry (own)
abbrev pub is_buffers : ℕ → Use → Bool
is_buffers index (usage.Buffers entry) = entry == index
is_buffers index _ = false

-- the device address of the buffers of an entry, which are one block, and 0 where there are none (own)
abbrev pub buffers_at : ℕ → List Block → ℕ
buffers_at index placed =
    unwrap_or (option_map (λ (block : Block). block.da) (find (λ block. is_buffers index block.what) placed)) 0

-- the rings of a device, with the device address of its buffers, and whether it has the name service, VIRTIO_RPMSG_F_NS, bit 0 (virtio_rpmsg_bus.c)
abbrev pub pair_of : List Block → ℕ → Vdev → RingPair
pair_of placed index device = record {
  to_host = device.first;
  to_remote = device.second;
  base = buffers_at index placed;
  service = bit_and device.features 1 == 1;
}

-- a pair of rings whose sizes and alignments are ones that rings may have (own)
abbrev pub IsSoundPair : RingPair → Type 0
IsSoundPair rings = IsSoundRing rings.to_host × IsSoundRing rings.to_remote

-- the buffers of both lanes, of the bytes of the longest message each, end within the addresses of 32 bits (own)
abbrev pub HasBuffers : RingPair → Type 0
HasBuffers rings = rings.base + MESSAGE_MOST * (ring_capacity rings.to_host.num + ring_capacity rings.to_remote.num) ≤ 2 ^ 32

-- the rings of the first device for RPMsg, VIRTIO_ID_RPMSG 7, among entries of a patched table of which the first has a number (own)
abbrev pub pair_from : List Block → ℕ → List Entry → Option RingPair
pair_from placed index [] = None
pair_from placed index (entry.Device device ∷ more) =
    if device.id == 7 then Some (pair_of placed index device) else pair_from placed (index + 1) more
pair_from placed index (other ∷ more) = pair_from placed (index + 1) more

-- the trace of an entry, and where its bytes are in the core's memory: it has some, and one block of memory holds them (struct fw_rsc_trace)
abbrev pub trace_of : (ℕ → ℕ → Option ℕ) → Entry → Option TraceAt
trace_of at (entry.Trace da len name) = Some (record { at = if len == 0 then None else at da len; len = len })
trace_of at _ = None

-- the bytes of a trace that has a place lie in a memory of so many bytes (own)
abbrev pub IsTraceIn : ℕ → TraceAt → Type 0
IsTraceIn memory_len trace = IfSome trace.at (λ at. at + trace.len ≤ memory_len)

-- the traces of entries, in order (own)
abbrev pub traces_of : (ℕ → ℕ → Option ℕ) → List Entry → List TraceAt
traces_of at entries = filter_map (trace_of at) entries
