use Rattle.std.proofs.Common.{arith, refl}
use denote.Param.Send.{sendable}
use Rattle.std.proofs.Crossing.{crosses}
use Rattle.channel_bus.proofs.sides.Side.TheSendSync as side
use Rattle.split_ring.proofs.Crosses.{link_sync}
use Rattle.link_threads.proofs.Crosses.{actor_send}
use Rattle.std.specs.Prelude.{IsTrue}
use Rattle.std.specs.Int.{is_power_of_two}
use Rattle.link_threads.proofs.turns.run.Goals as goal

power : IsTrue (is_power_of_two 4)
unfolding lib.Count.ones
power = refl

pub make-requires-clause-config : goal.make-requires-clause-config
make-requires-clause-config g c = record { to_host = (power, omega arith); to_remote = (power, omega arith); book = (omega arith, omega arith); first = omega arith; buffers = omega arith }

pub map_vec-requires-sync-F : goal.map_vec-requires-sync-F
map_vec-requires-sync-F g c = λ κs below. let s = side.the_send in search (sendable, crosses, link_sync) depth 20

pub map_vec-requires-send-J : goal.map_vec-requires-send-J
map_vec-requires-send-J g c = λ κs below. search (sendable, actor_send)
