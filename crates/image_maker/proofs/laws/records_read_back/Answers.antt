use Rattle.image_maker.proofs.ReadRecords.{record_read}
use Rattle.image_maker.proofs.laws.records_read_back.Goals as goal

pub returns : goal.returns
returns c = record_read
