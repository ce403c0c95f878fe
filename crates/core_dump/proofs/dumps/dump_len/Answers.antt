use Rattle.std.proofs.Common.{arith}
use Rattle.core_dump.proofs.ReadBack.{dump_length}
use Rattle.core_dump.proofs.dumps.dump_len.Goals as goal

pub returns : goal.returns
returns c = λ entry. omega (arith, dump_length entry c.args.parts.now)
