use Rattle.core_actors.proofs.ReadyActors.{host_begins, worker_begins}
use Rattle.core_laws.proofs.laws.actors_begin.Goals as goal

pub returns : goal.returns
returns c = record { host = host_begins; worker = worker_begins }
