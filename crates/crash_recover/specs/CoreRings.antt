-- What a core shows of the rings of its link: they lie over the buffers that its load was given (own; VIRTIO 1.2 section 2.7 for their bytes).
use Rattle.std.specs.Prelude.{ℕ, ◌==◌, List, Option, option_map, option_and_then, if◌then◌else◌}
use Rattle.rp_base.specs.Limits.{ring_capacity}
use Rattle.resource_table.specs.declared.entries.Ring.{Ring}
use Rattle.fw_load.specs.declared.rings.RingPair.{RingPair}
use Rattle.link_bench.specs.Benches.{BenchState, LinkRings}
use Rattle.link_bench.specs.BenchRings.{lane_base, placed_bytes}
use Rattle.crash_recover.specs.Cores.{CoreState, loaded_rings}

-- the ring of a lane
abbrev pub ring_of_lane : RingPair → ℕ → Ring
ring_of_lane rings lane = if lane == 0 then rings.to_host else rings.to_remote

-- the bytes of a lane's ring over the buffers of a device, its used ring at a multiple of its alignment in the table
abbrev pub pair_bytes : LinkRings → ℕ → RingPair → List ℕ
pair_bytes words lane rings =
    placed_bytes words lane (lane_base rings.base (ring_capacity rings.to_host.num) lane) (ring_of_lane rings lane).align

-- the bytes of a lane's ring of the link of a core
abbrev pub core_ring : CoreState → ℕ → Option (List ℕ)
core_ring core lane =
    option_and_then (λ (bench : BenchState). option_map (pair_bytes bench.rings lane) (loaded_rings core.loaded)) core.bench
