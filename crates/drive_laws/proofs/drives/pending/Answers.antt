use Rattle.core_actors.specs.declared.actors.Actor.TheVariants as actor
use Rattle.crash_recover.specs.Drives.{with_turn_after}
use Rattle.drive_laws.proofs.StepFacts.{host_steps, worker_steps}
use Rattle.drive_laws.proofs.TurnFacts.{heard, host_queued, steps_queued}
use Rattle.drive_laws.proofs.drives.pending.Goals as goal

pub returns : goal.returns
returns c = record {
  host = host_queued;
  worker = λ core. (worker_steps (with_turn_after actor.Worker core)).calls;
  others = λ core. ((host_steps (with_turn_after actor.Host core) core.bench).worker_calls, (worker_steps (with_turn_after actor.Worker core)).host_calls);
  heard = heard;
  steps = steps_queued;
}
