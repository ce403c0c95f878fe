use Rattle.remote_code.proofs.ReadBack.{record_of-record_bytes}
use Rattle.remote_code.proofs.laws.records_read_back.Goals as goal

pub returns-clause-read : goal.returns-clause-read
returns-clause-read c = record_of-record_bytes
