-- The callers, the link and what was handed over may go to other threads.
use denote.Param.Send.{sendable}
use Rattle.std.proofs.Crossing.{crosses}
use Rattle.channel_bus.proofs.sides.Side.TheSendSync as side
use Rattle.split_ring.proofs.Crosses.{caller_send, link_sync}
use Rattle.rows.proofs.Crosses.{handed_send}
use Rattle.rows.proofs.goes_on.join.Goals as goal

pub join-handed-requires-send-F : goal.join-handed-requires-send-F
join-handed-requires-send-F g c κs within = let s = side.the_send in search (sendable, crosses, link_sync, caller_send, handed_send) depth 30
