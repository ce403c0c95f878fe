use denote.Param.Send.{sendable}
use Rattle.split_ring.proofs.Crosses.{caller_send, manager_send}
use Rattle.split_ring.proofs.threads.caller_is_send.Goals as goal

pub send-requires-send-T : goal.send-requires-send-T
send-requires-send-T c κs = search (sendable, caller_send)

pub send-requires-2-send-T : goal.send-requires-2-send-T
send-requires-2-send-T c κs = search (sendable, manager_send)
