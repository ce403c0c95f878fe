-- The actors of a core: the drivers of its host and the worker of its remote (`struct rpmsg_driver` of Linux include/linux/rpmsg.h for the drivers; the rest is own).
use Rattle.std.specs.Prelude.{ℕ, Bool, false, List, [], ◌∷◌, ◌++◌, map}
use Rattle.lane_model.specs.declared.calls.Wish.{Wish}
use Rattle.host_driver.specs.Drivers.{Declared, DriversState, after_reset}
use Rattle.remote_core.specs.Workers.{WorkerState, new_worker}
use Rattle.core_actors.specs.declared.actors.Actor.{Actor}
use Rattle.core_actors.specs.declared.actors.Actor.TheVariants as actor
use Rattle.core_actors.specs.declared.actors.Actors.{Actors}

-- the actors of a core: its drivers, its worker, the calls that each of them is yet to make, whether the host actor is in a take that is not among them, and whose turn is next
pub record ActorsState : Type 0 where
  pub drivers : DriversState
  pub worker : WorkerState
  pub host_calls : List Wish
  pub worker_calls : List Wish
  pub is_taking : Bool
  pub next : Actor

-- what contracts see of the actors
abbrev pub actors_view : Actors → ActorsState
actors_view actors = record {
  drivers = actors.drivers;
  worker = actors.worker;
  host_calls = actors.host_calls.items;
  worker_calls = actors.worker_calls.items;
  is_taking = actors.is_taking;
  next = actors.next;
}

-- the actors of a core that was never booted
abbrev pub new_actors : List Declared → ActorsState
new_actors kinds = record {
  drivers = record { kinds = kinds; driven = [] };
  worker = new_worker 0;
  host_calls = [];
  worker_calls = [];
  is_taking = false;
  next = actor.Host;
}

-- the actors at the start of a life, whose worker has its first record at this device address: the drivers that are declared stay
abbrev pub fresh_actors : ActorsState → ℕ → ActorsState
fresh_actors actors entry = record {
  drivers = after_reset actors.drivers;
  worker = new_worker entry;
  host_calls = [];
  worker_calls = [];
  is_taking = false;
  next = actor.Host;
}

-- the actors with one driver more
abbrev pub with_driver : ActorsState → Declared → ActorsState
with_driver actors declared = record actors { drivers = record actors.drivers { kinds = actors.drivers.kinds ++ declared ∷ [] } }

-- the names of the declared drivers
abbrev pub driver_names : ActorsState → List (List ℕ)
driver_names actors = map (λ (declared : Declared). declared.0) actors.drivers.kinds

-- the one who is not this one
abbrev pub other_actor : Actor → Actor
other_actor actor.Host = actor.Worker
other_actor actor.Worker = actor.Host
