use Rattle.std.proofs.Common.{ap}
use Rattle.lane_model.specs.declared.calls.Wish.TheVariants as wish
use Rattle.core_actors.specs.ActorSteps.{first_or_take}
use Rattle.drive_laws.proofs.TurnFacts.{host_goes_on, host_begins, worker_goes_on, worker_begins}
use Rattle.drive_laws.proofs.drives.calls.Goals as goal

pub returns : goal.returns
returns c = record {
  host_on = host_goes_on;
  host_first = λ core bench first later there silent calls. host_begins core bench first there silent (ap first_or_take calls);
  host_take = λ core bench there silent none. host_begins core bench wish.Take there silent (ap first_or_take none);
  worker_on = worker_goes_on;
  worker_first = worker_begins;
}
