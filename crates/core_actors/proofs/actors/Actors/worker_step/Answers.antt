use Rattle.std.proofs.Common.{List, sym, ap, ◌∙◌}
use Rattle.lane_model.specs.declared.calls.Wish.{Wish}
use Rattle.link_bench.specs.Benches.{begin_fault}
use Rattle.core_actors.specs.Actors.{actors_view}
use Rattle.core_actors.specs.ActorSteps.{first_or_take}
use Rattle.core_actors.proofs.ReadyActors.{worker_begins, worker_stands}
use Rattle.core_actors.proofs.actors.Actors.worker_step.Goals as goal

pub link_step-requires-clause-begins : goal.link_step-requires-clause-begins
link_step-requires-clause-begins c none =
    let bench = c.args.bench.now in
    ap (λ (calls : List Wish). begin_fault bench 1 (first_or_take calls)) c.make_room.ensures.items
    ∙ worker_begins (actors_view c.args.self.now) bench c.requires.own c.requires.ready.calls (sym c.requires.calling ∙ none)

pub returns-clause-ready : goal.returns-clause-ready
returns-clause-ready c =
    worker_stands (actors_view c.args.self.now) _ _ _ c.args.bench.now _ _ _ c.link_step.ensures.sound c.requires.own c.requires.ready
    c.make_room.ensures.items (λ none. c.link_step.ensures.may (c.requires.calling ∙ none))
    c.link_step.ensures.bench c.link_step.ensures.reach (ap (λ (calls : List Wish). record (actors_view c.args.self.now) { worker_calls = calls; next = _ }) c.make_room.ensures.items) c.reach_worker.ensures
