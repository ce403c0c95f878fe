-- What `ring` writes: the bytes of a lane's ring as it lies in memory (VIRTIO 1.2 section 2.7), sixteen a line (own).
use Rattle.std.specs.Prelude.{ℕ, zero, suc, ◌+◌, ◌/◌, ◌==◌, List, [], ◌∷◌, ◌++◌, length, take, drop, Option, Some, None, if◌then◌else◌}
use Rattle.std.specs.List.{list_all}
use Rattle.journal.specs.declared.events.Event.{Event}
use Rattle.journal.specs.declared.events.Event.TheVariants as event
use Rattle.link_bench.specs.Benches.{BenchState, link_in}
use Rattle.link_bench.specs.BenchRings.{lane_bytes, turn_holder}

-- sixteen bytes, or what is left of the last, unless all are zero
abbrev pub row_events : List ℕ → ℕ → List ℕ → List Event
row_events name offset row = if list_all (λ byte. byte == 0) row then [] else event.Dump name offset row ∷ []

-- so many rows, the first of which lies at this offset
unfoldable pub dump_rows : ℕ → List ℕ → ℕ → List ℕ → List Event
dump_rows zero name offset bytes = []
dump_rows (suc more) name offset bytes = row_events name offset (take 16 bytes) ++ dump_rows more name (offset + 16) (drop 16 bytes)

-- how many rows these bytes have
abbrev pub row_count : List ℕ → ℕ
row_count bytes = (length bytes + 15) / 16

-- the bytes of a ring, and how many there are
abbrev pub ring_events : List ℕ → ℕ → List ℕ → List Event
ring_events name lane bytes = event.Ring name lane (length bytes) ∷ dump_rows (row_count bytes) name 0 bytes

-- the bytes of a ring of a link no turn of which is out
abbrev pub ring_events_unless : List ℕ → BenchState → ℕ → Option ℕ → List Event
ring_events_unless name bench lane (Some caller) = event.StillTurn name caller ∷ []
ring_events_unless name bench lane None = ring_events name lane (lane_bytes bench.rings lane)

-- `ring X LANE`
unfoldable pub bench_ring_events : List ℕ → BenchState → ℕ → List Event
bench_ring_events name bench lane = ring_events_unless name bench lane (turn_holder (link_in bench))
