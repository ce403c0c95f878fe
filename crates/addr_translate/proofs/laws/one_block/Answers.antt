use Rattle.addr_translate.specs.Mapped.{mapped_blocks}
use Rattle.addr_translate.proofs.Found.{one_holds}
use Rattle.addr_translate.proofs.Sound.{mapped_sound}
use Rattle.addr_translate.proofs.laws.one_block.Goals as goal

pub returns-clause-apart : goal.returns-clause-apart
returns-clause-apart c = λ regions placed sound good. (mapped_sound regions placed sound good).apart

pub returns-clause-one : goal.returns-clause-one
returns-clause-one c = λ regions placed sound good da len i j d some first second here there.
    one_holds (mapped_blocks regions placed) da len i j d (mapped_sound regions placed sound good).apart some first second here there
