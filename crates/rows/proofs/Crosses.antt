-- What was handed over may go to other threads.
use denote.Param.Send.{IsSend, sendable}
use Rattle.std.proofs.Crossing.{crosses}
use Rattle.rp_base.proofs.messages.Message.TheSendSync as message
use Rattle.rows.specs.contracts.goes_on.Handed as Handed

pub handed_send : IsSend (Handed.the_field).row
handed_send = search (sendable, crosses, message.the_send) depth 100 fits 100000
