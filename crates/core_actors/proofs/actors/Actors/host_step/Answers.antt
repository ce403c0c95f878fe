use Rattle.std.proofs.Common.{Bool, List, sym, ap, ◌∙◌}
use Rattle.lane_model.specs.declared.calls.Wish.{Wish}
use Rattle.link_bench.specs.Benches.{begin_fault}
use Rattle.core_actors.specs.Actors.{actors_view}
use Rattle.core_actors.specs.ActorSteps.{first_or_take, host_at_step_as}
use Rattle.core_actors.proofs.ReadyActors.{host_begins, host_stands}
use Rattle.core_actors.proofs.actors.Actors.host_step.Goals as goal

pub link_step-requires-clause-begins : goal.link_step-requires-clause-begins
link_step-requires-clause-begins c none =
    let bench = c.args.bench.now in
    ap (λ (calls : List Wish). begin_fault bench 0 (first_or_take calls)) (ap (λ calls. calls.items) c.begin_host.ensures.calls ∙ c.make_room.ensures.items)
    ∙ host_begins (actors_view c.args.self.now) bench c.requires.own c.requires.ready.calls (sym c.requires.calling ∙ none)

pub returns-clause-ready : goal.returns-clause-ready
returns-clause-ready c =
    host_stands (actors_view c.args.self.now) _ _ _ c.args.bench.now _ _ _ c.link_step.ensures.sound c.requires.own c.requires.ready
    (ap (λ calls. calls.items) c.begin_host.ensures.calls ∙ c.make_room.ensures.items) (λ none. c.link_step.ensures.may (c.requires.calling ∙ none))
    c.link_step.ensures.bench c.link_step.ensures.reach (c.begin_host.ensures.view
    ∙ ap (λ (calls : List Wish). host_at_step_as c.args.goes_on (record (actors_view c.args.self.now) { host_calls = calls; next = _ })) c.make_room.ensures.items
    ∙ ap (λ (in_call : Bool). host_at_step_as in_call (record (actors_view c.args.self.now) { next = _ })) c.requires.calling) c.reach_host.ensures
