-- The workers and the actors may go to other threads, since their callers may.
use denote.Param.Send.{IsSend, sendable}
use Rattle.std.proofs.Crossing.{crosses}
use Rattle.link_threads.specs.contracts.turns.Actor as Actor
use Rattle.link_threads.specs.contracts.workers.Worker as Worker
use Rattle.split_ring.proofs.Crosses.{caller_field_send}

pub worker_send : IsSend Worker.the_row
worker_send = search (sendable, crosses, caller_field_send) depth 100 fits 100000

pub actor_send : IsSend Actor.the_row
actor_send = search (sendable, crosses, caller_field_send) depth 100 fits 100000
