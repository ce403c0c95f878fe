use denote.Param.Send.{sendable}
use Rattle.std.proofs.Crossing.{crosses}
use Rattle.channel_bus.proofs.sides.Side.TheSendSync as side
use Rattle.split_ring.proofs.Crosses.{caller_send, link_sync}
use Rattle.storm_speed.proofs.links.work_all.Goals as goal

pub for_each_mut-requires-sync-F : goal.for_each_mut-requires-sync-F
for_each_mut-requires-sync-F g c = λ κs below. let s = side.the_send in let r = c.type_bounds.sync-R in search (sendable, crosses, link_sync) depth 20

pub for_each_mut-requires-send-T : goal.for_each_mut-requires-send-T
for_each_mut-requires-send-T g c = λ κs below. search (sendable, crosses, caller_send)
