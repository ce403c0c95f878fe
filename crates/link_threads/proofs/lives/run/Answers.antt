use Rattle.std.proofs.Common.{arith, refl}
use Rattle.std.specs.Prelude.{IsTrue}
use Rattle.std.specs.Int.{is_power_of_two}
use Rattle.link_threads.proofs.lives.run.Goals as goal

power : IsTrue (is_power_of_two 4)
unfolding lib.Count.ones
power = refl

pub make-requires-clause-config : goal.make-requires-clause-config
make-requires-clause-config g c = record { to_host = (power, omega arith); to_remote = (power, omega arith); book = (omega arith, omega arith); first = omega arith; buffers = omega arith }

pub close-requires : goal.close-requires
close-requires g c = let q = c.in_ok-second.ensures.host.0 in record { seat = record { at_table = q.seat.at_table; told = q.seat.told }; one = q.rests.one; number = q.number; low = q.low }
