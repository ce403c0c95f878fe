use Rattle.run_laws.proofs.RunsReached.{cores_in_order, links_in_order}
use Rattle.run_laws.proofs.laws.links_in_order.Goals as goal

pub returns : goal.returns
returns c = record { links = links_in_order; cores = cores_in_order }
