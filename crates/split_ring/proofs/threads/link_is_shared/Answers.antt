use denote.Param.Send.{sendable}
use Rattle.split_ring.proofs.Crosses.{link_send, link_sync}
use Rattle.split_ring.proofs.threads.link_is_shared.Goals as goal

pub send-requires-send-T : goal.send-requires-send-T
send-requires-send-T g c = λ κs below. let s = c.type_bounds.send-D in search (sendable, link_send)

pub sync-requires-sync-T : goal.sync-requires-sync-T
sync-requires-sync-T g c = λ κs below. let s = c.type_bounds.send-D in search (sendable, link_sync)
