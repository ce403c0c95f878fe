use Rattle.std.proofs.Common.{refl, arith}
use Rattle.link_bench.proofs.benches.Bench.ring_bytes.Goals as goal

pub vring_size-size-requires-clause-align : goal.vring_size-size-requires-clause-align
unfolding lib.Count.ones
vring_size-size-requires-clause-align c = (refl, omega arith, omega arith)

pub ring_bytes-requires-clause-align : goal.ring_bytes-requires-clause-align
unfolding lib.Count.ones
ring_bytes-requires-clause-align c = (refl, omega arith, omega arith)
