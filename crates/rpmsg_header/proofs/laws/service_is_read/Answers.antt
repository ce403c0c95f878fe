use Rattle.rpmsg_header.proofs.ReadBack.{service_read}
use Rattle.rpmsg_header.proofs.laws.service_is_read.Goals as goal

pub returns : goal.returns
returns c = service_read
