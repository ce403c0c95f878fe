use Rattle.std.proofs.Common.{arith, refl}
use Rattle.std.specs.Prelude.{IsTrue}
use Rattle.std.specs.Int.{is_power_of_two}
use Rattle.link_threads.proofs.small_links.small_config.Goals as goal

power : IsTrue (is_power_of_two 64)
unfolding lib.Count.ones
power = refl

pub returns : goal.returns
returns c = record { to_host = (power, omega arith); to_remote = (power, omega arith); book = (omega arith, omega arith); first = omega arith; buffers = omega arith }
