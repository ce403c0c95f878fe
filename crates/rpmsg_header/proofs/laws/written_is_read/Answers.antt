use Rattle.rpmsg_header.proofs.ReadBack.{source_read, destination_read, payload_read, whole_read}
use Rattle.rpmsg_header.proofs.laws.written_is_read.Goals as goal

pub returns : goal.returns
returns c = record { whole = whole_read; source = source_read; destination = destination_read; payload = payload_read }
