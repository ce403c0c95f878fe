-- The task of a worker and the turns that it takes (own).
use Rattle.std.specs.Prelude.{◌≡◌, ◌*◌, ◌<◌, ℕ, List, [], length, slice_index_or}
use Rattle.rp_base.specs.declared.kinds.End.{End}
use Rattle.rp_base.specs.declared.kinds.End.TheVariants as side
use Rattle.channel_bus.specs.declared.sides.Side.{Side}
use Rattle.link_words.specs.declared.rule.Event.{Event}
use Rattle.split_ring.specs.declared.callers.Caller.{Caller}
use Rattle.split_ring.specs.declared.callers.CallerId.{CallerId}
use Rattle.split_ring.specs.declared.links.SharedLink.{SharedLink}
use Rattle.storm_run.specs.declared.tasks.Task.{Task}
use Rattle.storm_run.specs.declared.workers.Found.{Found}
use Rattle.storm_run.specs.declared.workers.Found.TheVariants as found
use Rattle.storm_run.specs.Rounds.{HasFoundAll, HasSent, HasWorked, count_on}

-- how many messages are sent to this end in all
abbrev pub least_in : Task → End → ℕ
least_in task side.Host = task.by_remote
least_in task side.Remote = task.by_host

-- the task of these callers: each sends as many messages
abbrev pub IsTaskOf : Task → List Caller → Type 0
IsTaskOf task callers = (task.by_host ≡ task.count * count_on side.Host callers) × (task.by_remote ≡ task.count * count_on side.Remote callers)

-- what a take came to is what its entries say
abbrev pub IsFoundIn : Found → CallerId → List Event → Type 0
IsFoundIn found.Message who did = Unit {0}
IsFoundIn (found.Empty accepted) who did = HasFoundAll who accepted did
IsFoundIn found.Dead who did = Unit {0}

-- a worker has taken, and has given back what it took: it has sent nothing
pub record HasTurned (came_to : Found) (before after : Caller) : Type 0 where
  pub sent : HasSent [] before after
  pub found : IsFoundIn came_to before.id sent.did

-- each caller has done its work by this task
abbrev pub HaveWorked : SharedLink Side → Task → List Caller → List Caller → Type 0
HaveWorked link task before after = (i : ℕ) (d : Caller) → i < length before
    → HasWorked link task.count (least_in task (slice_index_or before i d).id.end) (slice_index_or before i d) (slice_index_or after i d)
