use denote.Param.Send.{sendable}
use Rattle.std.proofs.Crossing.{crosses}
use Rattle.channel_bus.proofs.sides.Side.TheSendSync as side
use Rattle.split_ring.proofs.Crosses.{caller_send, link_sync}
use Rattle.link_threads.proofs.LifeCrosses.{taker_send}
use Rattle.link_threads.proofs.lives.first_life.Goals as goal

pub join-requires-send-F : goal.join-requires-send-F
join-requires-send-F g c κs within = let s = side.the_send in search (sendable, crosses, link_sync, caller_send) depth 30

pub join-requires-send-A : goal.join-requires-send-A
join-requires-send-A g c κs within = search (sendable, taker_send)
