-- What a bench shows of its rings (VIRTIO 1.2 section 2.7 for their bytes, else own).
use Rattle.std.specs.Prelude.{◌≡◌, ℕ, ◌+◌, ◌*◌, ◌==◌, List, Option, Some, None, if◌then◌else◌}
use Rattle.vring_layout.specs.declared.snapshots.Snapshot.{Snapshot}
use Rattle.vring_layout.specs.declared.snapshots.SnapshotFault.{SnapshotFault}
use Rattle.vring_layout.specs.declared.snapshots.SnapshotFault.TheVariants as snapshot_fault
use Rattle.vring_layout.specs.declared.words.RingWords.{RingWords}
use Rattle.vring_layout.specs.Rings.{ring_layout}
use Rattle.rp_base.specs.declared.limits.TheConstants.{MESSAGE_MOST}
use Rattle.channel_bus.specs.Sides.{EndState}
use Rattle.lane_model.specs.Lanes.{holder}
use Rattle.lane_model.specs.Links.{LinkState}
use Rattle.ring_core.specs.RingWords.{words_of}
use Rattle.link_bench.specs.Benches.{BenchState, LinkRings, link_in}

-- where the buffers of a lane begin: those of lane 0, so many of 512 bytes, at the base, and those of lane 1 after them
abbrev pub lane_base : ℕ → ℕ → ℕ → ℕ
lane_base base capacity lane = if lane == 0 then base else base + MESSAGE_MOST * capacity

-- the words of a lane's rings over buffers that begin at an address
abbrev pub lane_words : LinkRings → ℕ → ℕ → RingWords
lane_words rings lane at = if lane == 0 then words_of rings.to_host.rings at else words_of rings.to_remote.rings at

-- the bytes of a lane's ring over buffers that begin at an address, its used ring at a multiple of an alignment
abbrev pub placed_bytes : LinkRings → ℕ → ℕ → ℕ → List ℕ
placed_bytes rings lane at align = ring_layout align (lane_words rings lane at)

-- the bytes of a lane's ring of a link that no memory was given: its buffers from address 0 on, its used ring at a multiple of four
abbrev pub lane_bytes : LinkRings → ℕ → List ℕ
lane_bytes rings lane = placed_bytes rings lane (lane_base 0 rings.to_host.rings.sizes.capacity lane) 4

-- the first of two holders
abbrev pub first_holder : Option ℕ → Option ℕ → Option ℕ
first_holder (Some holder) later = Some holder
first_holder None later = later

-- who has the first turn of a link that is out: of lane 0's sender and receiver, then of lane 1's
abbrev pub turn_holder : LinkState EndState → Option ℕ
turn_holder link =
    first_holder (holder link.to_host.sender) (first_holder (holder link.to_host.receiver)
    (first_holder (holder link.to_remote.sender) (holder link.to_remote.receiver)))

-- the life of a link and the words of both its lanes, over buffers that begin at an address, so many of them on lane 0
abbrev pub snapshot_at : BenchState → ℕ → ℕ → Snapshot
snapshot_at bench base capacity = record {
  era = (link_in bench).era;
  to_host = lane_words bench.rings 0 (lane_base base capacity 0);
  to_remote = lane_words bench.rings 1 (lane_base base capacity 1);
}

-- the same of a link that no memory was given: its buffers from address 0 on
abbrev pub bench_snapshot : BenchState → Snapshot
bench_snapshot bench = snapshot_at bench 0 bench.rings.to_host.rings.sizes.capacity

-- why a link shows nothing: this caller has a turn that is to be free, or else memory ran out
abbrev pub IsSnapshotFault : Option ℕ → SnapshotFault → Type 0
IsSnapshotFault (Some holder) why = why ≡ snapshot_fault.StillTurn holder
IsSnapshotFault None why = why ≡ snapshot_fault.NoMemory
