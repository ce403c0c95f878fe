-- Who makes a step of a drive.
use Rattle.std.proofs.Common.{◌≡◌, Bool, true, false, cond, ◌&&◌, ◌||◌, Option, Some, None, is_none, refl, sym, ap, ◌∙◌}
use Rattle.std.proofs.lemmas.Bool.{and_right, cond_both, true≢false}
use Rattle.link_bench.specs.Benches.{BenchState}
use Rattle.core_actors.specs.declared.actors.Actor.{Actor}
use Rattle.core_actors.specs.declared.actors.Actor.TheVariants as actor
use Rattle.core_actors.specs.declared.progress.DriveOutcome.TheVariants as driven
use Rattle.core_actors.specs.Actors.{ActorsState, other_actor}
use Rattle.core_actors.specs.ActorSteps.{host_is_idle, worker_is_idle}
use Rattle.crash_recover.specs.Cores.{CoreState}
use Rattle.crash_recover.specs.Drives.{DriveStep, actor_step, actor_to_step, drive_step, is_idle, is_idle_actor, step_or_rest, with_turn_after}

-- the step of this actor, or that of the other where this one has nothing to do
step_of : CoreState → Actor → Bool → DriveStep
step_of core next idle =
    let acting = cond idle (other_actor next) next in
    actor_step acting (with_turn_after acting core)

-- a step where the turn is the worker's
turned : CoreState → Actor → Bool → DriveStep
turned core next idle = cond idle (record { core = core; driven = driven.Idle }) (step_of core next (is_idle_actor core next))

-- the worker makes the step where it is its turn and it has something to do
pub worker_drives : (core : CoreState) → core.actors.next ≡ actor.Worker → is_idle_actor core actor.Worker ≡ false → drive_step core ≡ step_or_rest actor.Worker core
unfolding turned step_of
worker_drives core next busy =
    ap (λ (turn : Actor). turned core turn (is_idle core)) next
    ∙ ap (turned core actor.Worker) (and_right (is_idle_actor core actor.Host) (is_idle_actor core actor.Worker) busy)
    ∙ ap (step_of core actor.Worker) busy
    ∙ sym (ap (λ (idle : Bool). cond idle (record { core = core; driven = driven.Idle }) (actor_step actor.Worker (with_turn_after actor.Worker core))) busy)

-- ---- who has something to do

host_same : (actors : ActorsState) (next : Actor) (found : Option BenchState) → host_is_idle found (record actors { next = next }) ≡ host_is_idle found actors
host_same actors next None = refl
host_same actors next (Some bench) = refl

worker_same : (actors : ActorsState) (next : Actor) (found : Option BenchState) → worker_is_idle found (record actors { next = next }) ≡ worker_is_idle found actors
worker_same actors next None = refl
worker_same actors next (Some bench) = refl

-- whose turn is next doesn't matter to it
idle_same : (core : CoreState) (who next : Actor) → is_idle_actor (record core { actors = record core.actors { next = next } }) who ≡ is_idle_actor core who
idle_same core actor.Host next = host_same core.actors next core.bench
idle_same core actor.Worker next = ap (λ (b : Bool). is_none core.loaded || b) (worker_same core.actors next core.bench)

and_first : (one other : Bool) → (one && other) ≡ false → other ≡ true → one ≡ false
and_first false other none is = refl
and_first true other none is = absurd (true≢false (sym is ∙ none))

pub other_busy : (core : CoreState) (who : Actor) → is_idle core ≡ false → is_idle_actor core who ≡ true → is_idle_actor core (other_actor who) ≡ false
other_busy core actor.Host busy idle = sym (ap (λ (b : Bool). b && is_idle_actor core actor.Worker) idle) ∙ busy
other_busy core actor.Worker busy idle = and_first (is_idle_actor core actor.Host) (is_idle_actor core actor.Worker) busy idle

-- the actor that makes a step has something to do
pub acting_busy : (core : CoreState) → is_idle core ≡ false → is_idle_actor (with_turn_after (actor_to_step core) core) (actor_to_step core) ≡ false
acting_busy core busy =
    idle_same core (actor_to_step core) (other_actor (actor_to_step core))
    ∙ cond_both (is_idle_actor core core.actors.next) (other_actor core.actors.next) core.actors.next (λ (who : Actor). is_idle_actor core who ≡ false)
    (λ idle. other_busy core core.actors.next busy idle) (λ one. one)
