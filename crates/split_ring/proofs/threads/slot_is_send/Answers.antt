use denote.Param.Send.{sendable}
use Rattle.split_ring.proofs.Crosses.{slot_send}
use Rattle.split_ring.proofs.threads.slot_is_send.Goals as goal

pub send-requires-send-T : goal.send-requires-send-T
send-requires-send-T c κs = search (sendable, slot_send)
