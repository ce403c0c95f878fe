use denote.Param.Send.{sendable}
use Rattle.split_ring.proofs.Crosses.{call_send}
use Rattle.split_ring.proofs.threads.call_is_send.Goals as goal

pub send-requires-send-T : goal.send-requires-send-T
send-requires-send-T g c = λ κs below. let s = c.type_bounds.send-D in search (sendable, call_send)
