use Rattle.limit_laws.proofs.SameRings.{same_are_equal, no_fault_where_equal}
use Rattle.limit_laws.proofs.changed_rings.Goals as goal

pub returns-clause-same : goal.returns-clause-same
returns-clause-same c = same_are_equal

pub returns-clause-fault : goal.returns-clause-fault
returns-clause-fault c = no_fault_where_equal
