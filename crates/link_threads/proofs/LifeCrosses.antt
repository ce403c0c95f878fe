-- What the host's thread hands back may go to the other thread.
use denote.Param.Send.{IsSend, sendable}
use Rattle.std.proofs.Crossing.{crosses}
use Rattle.rp_base.proofs.messages.Message.TheSendSync as message
use Rattle.split_ring.proofs.Crosses.{caller_field_send}
use Rattle.link_threads.specs.contracts.lives.Taker as Taker
use Rattle.link_threads.specs.contracts.users.Found as Found

found_send : IsSend (Found.the_field).row
found_send = search (sendable, crosses, message.the_send) depth 100 fits 100000

pub taker_send : IsSend Taker.the_row
taker_send = search (sendable, crosses, caller_field_send, found_send) depth 100 fits 100000
