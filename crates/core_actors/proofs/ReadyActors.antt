-- A step of an actor leaves both actors ready for their next steps.
use Rattle.std.proofs.Common.{◌≡◌, ◌≢◌, ℕ, eqb, cond, Bool, true, false, not, List, ◌++◌, length, Option, Some, None, refl, sym, ap, subst, ◌∙◌, arith}
use Rattle.std.proofs.lemmas.Bool.{cond_both, false≢true, true≢false}
use Rattle.rp_base.specs.declared.kinds.End.TheVariants as side
use Rattle.lane_model.specs.declared.calls.Wish.{Wish}
use Rattle.lane_model.specs.Conditions.{MayStep}
use Rattle.lane_model.specs.Links.{lanes_of}
use Rattle.lane_model.specs.Soundness.{SoundLink}
use Rattle.link_bench.specs.declared.benches.BegunCall.{BegunCall}
use Rattle.link_bench.specs.declared.benches.Reach.{Reach}
use Rattle.link_bench.specs.declared.benches.Reach.TheVariants as reach
use Rattle.link_bench.specs.Benches.{BenchState, BenchWalk, advance_steps, advance_walk, begin_fault, begun_call_of, is_in_call, link_in, start_walk}
use Rattle.core_actors.specs.declared.actors.Actor.{Actor}
use Rattle.core_actors.specs.Actors.{ActorsState}
use Rattle.core_actors.specs.ActorEnds.{calls_after_end, end_answer, gives_of, message_of, sends_of, taken_number}
use Rattle.core_actors.specs.ActorSteps.{first_or_take, host_after_step, host_at_step_as, link_step, worker_after_step}
use Rattle.core_actors.specs.PendingCalls.{AreFitLanes, AreGivable, AreOwnUsed, AreReady, HasNoneBegun, IsReadyBench, give_numbers}
use Rattle.core_actors.proofs.PendingActors.{begins, calling, give_numbers_both, given_now, host_calls_left, linked, next_of_host, next_of_worker, none_behind, sends_nothing, worker_calls_left}
use Rattle.core_actors.proofs.PendingSteps.{ReachFollows, other_call, other_later, own_call, own_later}

-- ---- a step on the link

-- an actor in no call may do the first step of its next
abbrev pub MayBegin : BenchState → ℕ → List Wish → Type 0
MayBegin bench caller calls = is_in_call bench caller ≡ false → MayStep (link_in bench) caller (Some (first_or_take calls))

module _ (actors : ActorsState) (bench : BenchState) (sound : SoundLink (link_in bench)) (own : AreOwnUsed (link_in bench).callers) (ready : AreReady actors bench) where
  host_differs : ◌≢◌ {A = ℕ} 0 1
  host_differs is = absurd (omega (arith, is))

  worker_differs : ◌≢◌ {A = ℕ} 1 0
  worker_differs is = absurd (omega (arith, is))

  -- the lanes of the host actor after its own step, and after the worker's
  host_walk : MayBegin bench 0 actors.host_calls → (in_call : Bool) → is_in_call bench 0 ≡ in_call
      → let walk : BenchWalk = cond in_call (advance_walk bench 0 0 0) (start_walk bench 0 0 (first_or_take actors.host_calls)) in
      ReachFollows walk.reach (lanes_of (link_in walk.bench) side.Host) 0 (not (host_at_step_as in_call actors).is_taking) (host_at_step_as in_call actors).host_calls
  host_walk may true is =
      linked bench 0 (first_or_take actors.host_calls) (λ (walk : BenchWalk). ReachFollows walk.reach (lanes_of (link_in walk.bench) side.Host) 0 (not actors.is_taking) actors.host_calls) true ready.begun.host
      (λ _. own_later 0 side.Host (not actors.is_taking) actors.host_calls bench.rings own.host sound (calling bench 0 side.Host own.host ready.begun.host is) ready.calls.host)
      (λ no. absurd (true≢false no))
  host_walk may false is =
      linked bench 0 (first_or_take actors.host_calls) (λ (walk : BenchWalk). ReachFollows walk.reach (lanes_of (link_in walk.bench) side.Host) 0 (not (eqb (length actors.host_calls) 0)) actors.host_calls) false ready.begun.host
      (λ yes. absurd (false≢true yes))
      (λ _. own_call 0 side.Host (not (eqb (length actors.host_calls) 0)) actors.host_calls bench.rings own.host (link_in bench).era.inc (first_or_take actors.host_calls)
      (may is) (next_of_host actors.host_calls) ready.calls.host.sends
      (given_now bench 0 side.Host own.host (not actors.is_taking) actors.host_calls is ready.calls.host))

  worker_stays : MayBegin bench 0 actors.host_calls → (in_call : Bool) → is_in_call bench 0 ≡ in_call
      → let walk : BenchWalk = cond in_call (advance_walk bench 0 0 0) (start_walk bench 0 0 (first_or_take actors.host_calls)) in
      AreFitLanes (lanes_of (link_in walk.bench) side.Remote) 1 true actors.worker_calls
  worker_stays may in_call is =
      linked bench 0 (first_or_take actors.host_calls) (λ (walk : BenchWalk). AreFitLanes (lanes_of (link_in walk.bench) side.Remote) 1 true actors.worker_calls) in_call ready.begun.host
      (λ yes. other_later 0 1 side.Remote true actors.worker_calls host_differs 1 0 0 bench.rings (calling bench 0 side.Host own.host ready.begun.host (is ∙ yes)) ready.calls.worker)
      (λ no. other_call 0 1 side.Remote true actors.worker_calls host_differs 0 0 bench.rings (link_in bench).era.inc (first_or_take actors.host_calls) (may (is ∙ no)) ready.calls.worker)

  worker_walk : MayBegin bench 1 actors.worker_calls → (in_call : Bool) → is_in_call bench 1 ≡ in_call
      → let walk : BenchWalk = cond in_call (advance_walk bench 0 0 1) (start_walk bench 0 1 (first_or_take actors.worker_calls)) in
      ReachFollows walk.reach (lanes_of (link_in walk.bench) side.Remote) 1 true actors.worker_calls
  worker_walk may in_call is =
      linked bench 1 (first_or_take actors.worker_calls) (λ (walk : BenchWalk). ReachFollows walk.reach (lanes_of (link_in walk.bench) side.Remote) 1 true actors.worker_calls) in_call ready.begun.worker
      (λ yes. own_later 1 side.Remote true actors.worker_calls bench.rings own.remote sound (calling bench 1 side.Remote own.remote ready.begun.worker (is ∙ yes)) ready.calls.worker)
      (λ no. own_call 1 side.Remote true actors.worker_calls bench.rings own.remote (link_in bench).era.inc (first_or_take actors.worker_calls)
      (may (is ∙ no)) (next_of_worker actors.worker_calls) ready.calls.worker.sends
      (given_now bench 1 side.Remote own.remote true actors.worker_calls (is ∙ no) ready.calls.worker))

  host_stays : MayBegin bench 1 actors.worker_calls → (in_call : Bool) → is_in_call bench 1 ≡ in_call
      → let walk : BenchWalk = cond in_call (advance_walk bench 0 0 1) (start_walk bench 0 1 (first_or_take actors.worker_calls)) in
      AreFitLanes (lanes_of (link_in walk.bench) side.Host) 0 (not actors.is_taking) actors.host_calls
  host_stays may in_call is =
      linked bench 1 (first_or_take actors.worker_calls) (λ (walk : BenchWalk). AreFitLanes (lanes_of (link_in walk.bench) side.Host) 0 (not actors.is_taking) actors.host_calls) in_call ready.begun.worker
      (λ yes. other_later 1 0 side.Host (not actors.is_taking) actors.host_calls worker_differs 1 0 0 bench.rings (calling bench 1 side.Remote own.remote ready.begun.worker (is ∙ yes)) ready.calls.host)
      (λ no. other_call 1 0 side.Host (not actors.is_taking) actors.host_calls worker_differs 0 0 bench.rings (link_in bench).era.inc (first_or_take actors.worker_calls) (may (is ∙ no)) ready.calls.host)

-- the next call of an actor in no call may begin
pub host_begins : (actors : ActorsState) (bench : BenchState) → AreOwnUsed (link_in bench).callers → IsReadyBench actors bench → is_in_call bench 0 ≡ false
    → begin_fault bench 0 (first_or_take actors.host_calls) ≡ None
host_begins actors bench own ready none = begins bench 0 side.Host own.host (not actors.is_taking) actors.host_calls none ready.host

pub worker_begins : (actors : ActorsState) (bench : BenchState) → AreOwnUsed (link_in bench).callers → IsReadyBench actors bench → is_in_call bench 1 ≡ false
    → begin_fault bench 1 (first_or_take actors.worker_calls) ≡ None
worker_begins actors bench own ready none = begins bench 1 side.Remote own.remote true actors.worker_calls none ready.worker

-- ---- what the ends of calls leave of the calls

host_left : (came : Reach) (actors : ActorsState) (bench : BenchState) → ReachFollows came (lanes_of (link_in bench) side.Host) 0 (not actors.is_taking) actors.host_calls
    → AreFitLanes (lanes_of (link_in bench) side.Host) 0 (not (host_after_step actors bench came).is_taking) (host_after_step actors bench came).host_calls
host_left (reach.At step) actors bench follows = follows
host_left reach.Limit actors bench follows = absurd follows
host_left (reach.Ended ended) actors bench follows =
    let held = (link_in bench).to_host.lane.held in
    let first : List Wish = cond actors.is_taking actors.host_calls (calls_after_end ended actors.host_calls) in
    let back = gives_of (taken_number ended) in
    let sent = end_answer actors.drivers (message_of bench 0 ended) ended in
    let all : give_numbers ((first ++ back) ++ sends_of sent) ≡ give_numbers first ++ give_numbers back =
    give_numbers_both (first ++ back) (sends_of sent) ∙ ap (λ (numbers : List ℕ). give_numbers (first ++ back) ++ numbers) (sends_nothing sent) ∙ none_behind (give_numbers (first ++ back)) ∙ give_numbers_both first back in
    record {
      sends = follows.sends;
      receives = record {
        own = λ has. absurd (false≢true (sym follows.receives.left ∙ has));
        other = λ _. subst (AreGivable held 0) (sym all) (host_calls_left held 0 actors.is_taking actors.host_calls ended follows.receives.given follows.receives.named);
      };
    }

worker_left : (came : Reach) (actors : ActorsState) (bench : BenchState) → ReachFollows came (lanes_of (link_in bench) side.Remote) 1 true actors.worker_calls
    → AreFitLanes (lanes_of (link_in bench) side.Remote) 1 true (worker_after_step actors bench came).worker_calls
worker_left (reach.At step) actors bench follows = follows
worker_left reach.Limit actors bench follows = absurd follows
worker_left (reach.Ended ended) actors bench follows = record {
  sends = follows.sends;
  receives = record {
    own = λ has. absurd (false≢true (sym follows.receives.left ∙ has));
    other = λ _. worker_calls_left (link_in bench).to_remote.lane.held 1 actors.worker_calls ended follows.receives.given;
  };
}

-- a step of one actor leaves the calls of the other
worker_same : (came : Reach) (in_call : Bool) (actors : ActorsState) (bench : BenchState) → AreFitLanes (lanes_of (link_in bench) side.Remote) 1 true actors.worker_calls
    → AreFitLanes (lanes_of (link_in bench) side.Remote) 1 true (host_after_step (host_at_step_as in_call actors) bench came).worker_calls
worker_same (reach.At step) true actors bench are = are
worker_same (reach.At step) false actors bench are = are
worker_same (reach.Ended ended) true actors bench are = are
worker_same (reach.Ended ended) false actors bench are = are
worker_same reach.Limit true actors bench are = are
worker_same reach.Limit false actors bench are = are

host_same : (came : Reach) (actors : ActorsState) (bench : BenchState) → AreFitLanes (lanes_of (link_in bench) side.Host) 0 (not actors.is_taking) actors.host_calls
    → AreFitLanes (lanes_of (link_in bench) side.Host) 0 (not (worker_after_step actors bench came).is_taking) (worker_after_step actors bench came).host_calls
host_same (reach.At step) actors bench are = are
host_same (reach.Ended ended) actors bench are = are
host_same reach.Limit actors bench are = are

-- ---- the step of an actor

link_begun : (bench : BenchState) (caller : ℕ) (wanted : Wish) → begun_call_of bench caller ≡ None → HasNoneBegun bench → HasNoneBegun (link_step bench caller wanted).bench
link_begun bench caller wanted none is =
    cond_both (is_in_call bench caller) (advance_walk bench 0 0 caller) (start_walk bench 0 caller wanted) (λ (walk : BenchWalk). HasNoneBegun walk.bench)
    (λ _. subst (λ (found : Option BegunCall). HasNoneBegun (advance_steps bench 0 0 caller found).bench) (sym none) (record { host = is.host; worker = is.worker }))
    (λ _. record { host = is.host; worker = is.worker })

pub host_ready : (actors : ActorsState) (bench : BenchState) → SoundLink (link_in bench) → AreOwnUsed (link_in bench).callers → MayBegin bench 0 actors.host_calls → AreReady actors bench
    → let walk = link_step bench 0 (first_or_take actors.host_calls) in AreReady (host_after_step (host_at_step_as (is_in_call bench 0) actors) walk.bench walk.reach) walk.bench
host_ready actors bench sound own may ready =
    let walk = link_step bench 0 (first_or_take actors.host_calls) in
    record {
      begun = link_begun bench 0 (first_or_take actors.host_calls) ready.begun.host ready.begun;
      calls = record {
        host = host_left walk.reach (host_at_step_as (is_in_call bench 0) actors) walk.bench (host_walk actors bench sound own ready may (is_in_call bench 0) refl);
        worker = worker_same walk.reach (is_in_call bench 0) actors walk.bench (worker_stays actors bench sound own ready may (is_in_call bench 0) refl);
      };
    }

pub worker_ready : (actors : ActorsState) (bench : BenchState) → SoundLink (link_in bench) → AreOwnUsed (link_in bench).callers → MayBegin bench 1 actors.worker_calls → AreReady actors bench
    → let walk = link_step bench 1 (first_or_take actors.worker_calls) in AreReady (worker_after_step actors walk.bench walk.reach) walk.bench
worker_ready actors bench sound own may ready =
    let walk = link_step bench 1 (first_or_take actors.worker_calls) in
    record {
      begun = link_begun bench 1 (first_or_take actors.worker_calls) ready.begun.worker ready.begun;
      calls = record {
        host = host_same walk.reach actors walk.bench (host_stays actors bench sound own ready may (is_in_call bench 1) refl);
        worker = worker_left walk.reach actors walk.bench (worker_walk actors bench sound own ready may (is_in_call bench 1) refl);
      };
    }

-- ---- the same, by what the code's parts leave: `calls` are those of the actor as they are found, `before` is how the actors stand before the end of a call is seen, whoever's turn is next
module _ (actors before after : ActorsState) (turn : Actor) (bench left : BenchState) (came : Reach) (calls : List Wish) (sound : SoundLink (link_in bench)) (own : AreOwnUsed (link_in bench).callers) (ready : AreReady actors bench) where
  pub host_stands : calls ≡ actors.host_calls → MayBegin bench 0 calls → left ≡ (link_step bench 0 (first_or_take calls)).bench → came ≡ (link_step bench 0 (first_or_take calls)).reach
      → before ≡ host_at_step_as (is_in_call bench 0) (record actors { next = turn }) → after ≡ host_after_step before left came → AreReady after left
  host_stands same may left_is came_is before_is after_is =
      let turned : ActorsState = record actors { next = turn } in
      let walk : List Wish → BenchWalk = λ wished. link_step bench 0 (first_or_take wished) in
      let stands = host_ready turned bench sound own (subst (MayBegin bench 0) same may) (record { begun = ready.begun; calls = ready.calls }) in
      let left_at = left_is ∙ ap (λ (wished : List Wish). (walk wished).bench) same in
      let came_at = came_is ∙ ap (λ (wished : List Wish). (walk wished).reach) same in
      let at : BenchState → Reach → ActorsState → Type 0 = λ bench reach from. AreReady (host_after_step from bench reach) bench in
      let stood : ActorsState = host_at_step_as (is_in_call bench 0) turned in
      subst (λ (acted : ActorsState). AreReady acted left) (sym after_is)
      (subst (at left came) (sym before_is)
      (subst (λ (reach : Reach). at left reach stood) (sym came_at) (subst (λ (bench : BenchState). at bench (walk actors.host_calls).reach stood) (sym left_at) stands)))

  pub worker_stands : calls ≡ actors.worker_calls → MayBegin bench 1 calls → left ≡ (link_step bench 1 (first_or_take calls)).bench → came ≡ (link_step bench 1 (first_or_take calls)).reach
      → before ≡ record actors { next = turn } → after ≡ worker_after_step before left came → AreReady after left
  worker_stands same may left_is came_is before_is after_is =
      let turned : ActorsState = record actors { next = turn } in
      let walk : List Wish → BenchWalk = λ wished. link_step bench 1 (first_or_take wished) in
      let stands = worker_ready turned bench sound own (subst (MayBegin bench 1) same may) (record { begun = ready.begun; calls = ready.calls }) in
      let left_at = left_is ∙ ap (λ (wished : List Wish). (walk wished).bench) same in
      let came_at = came_is ∙ ap (λ (wished : List Wish). (walk wished).reach) same in
      let at : BenchState → Reach → ActorsState → Type 0 = λ bench reach from. AreReady (worker_after_step from bench reach) bench in
      subst (λ (acted : ActorsState). AreReady acted left) (sym after_is)
      (subst (at left came) (sym before_is)
      (subst (λ (reach : Reach). at left reach turned) (sym came_at) (subst (λ (bench : BenchState). at bench (walk actors.worker_calls).reach turned) (sym left_at) stands)))
