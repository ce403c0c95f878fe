-- The parts behind a later step are those of the state that it leaves.
use Rattle.std.proofs.Common.{None, set}
use Rattle.managed_link.specs.Known.{LinkRings}
use Rattle.managed_link.specs.Managed.{IsManaged, ShowsViews}
use Rattle.managed_link.proofs.CallSteps.{MayTake, ends_answer, ends_answers, goes_answers, may_take, slot_left, step_whole}
use Rattle.managed_link.proofs.KnownStates.{at_known}
use Rattle.managed_link.proofs.NextSteps.{GoesOn, HasGoneOn, NextCall, last_managed, last_place, last_shows, last_takes, next_call, next_carried, next_managed, next_room, next_shows, next_small, next_takes, next_there}
use Rattle.managed_link.proofs.links.ManagedLink.next_step.Goals as goal
use Rattle.managed_link.proofs.links.ManagedLink.next_step.Goals.{After-advance_in-step, After-index_mut}

-- the caller may go on
may : (c : After-index_mut) → MayTake c.self.inside c.args.caller c.in-Some.side None
may c = may_take c.self.invariant c.end_of.ensures.end c.in-Some.is c.end_of.ensures.within (rw c.self.view_is c.requires)

-- with its call
abbrev Call : After-index_mut → NextCall
Call c = record { link = c.self.inside; number = c.args.caller; end = c.in-Some.side; place = c.from-place.result; carried = (next_call (may c)).0 }

goes : (c : After-index_mut) → GoesOn (Call c)
goes c = record { may = may c; at = c.from-place.ensures; there = (next_call (may c)).1 }

-- the step that was taken of it
takes : (c : After-advance_in-step) → HasGoneOn (Call c.before) c.advance_in-step.new.manager c.advance_in-step.result c.advance_in-step.new.slot
takes c = next_takes (goes c.before) _ c.index_mut.ensures.value c.advance_in-step.ensures

pub advance_in-step-requires-clause-call : goal.advance_in-step-requires-clause-call
advance_in-step-requires-clause-call c = let carried = next_carried (goes c) in (c.in-Some.side, _, next_there (goes c) _ c.index_mut.ensures.value, carried.0, carried.1)

pub learn_at-requires-clause-room : goal.learn_at-requires-clause-room
learn_at-requires-clause-room c = next_room (takes (goal.at.learn_at-requires-clause-room c).After-advance_in-step) c.in-At.field-0 c.in-At.is _ c.index.ensures

pub learn_at-requires-clause-accepted : goal.learn_at-requires-clause-accepted
learn_at-requires-clause-accepted c = (next_small (may (goal.at.learn_at-requires-clause-accepted c).After-index_mut)).0

pub learn_at-requires-clause-handed : goal.learn_at-requires-clause-handed
learn_at-requires-clause-handed c = (next_small (may (goal.at.learn_at-requires-clause-handed c).After-index_mut)).1

pub learn_at-requires-clause-returned : goal.learn_at-requires-clause-returned
learn_at-requires-clause-returned c = (next_small (may (goal.at.learn_at-requires-clause-returned c).After-index_mut)).2

pub invariant_of-self-inside : goal.invariant_of-self-inside
invariant_of-self-inside c = ((_, (takes (goal.at.invariant_of-self-inside c).After-advance_in-step).taken.stepped.state.known.copy), tt)

pub invariant_of-self : goal.invariant_of-self
invariant_of-self c =
    let t = takes (goal.at.invariant_of-self c).After-advance_in-step in let s = c.self.inside in let b = c.advance_in-step.new in let l = c.learn_at.new in let learnt = c.learn_at.ensures in
    at_known (λ (x : LinkRings). IsManaged s.shared b.manager (set s.calls.items c.from-place.result b.slot) l.host l.remote x × ShowsViews s.era l.to_host l.to_remote x) b.manager _ t.taken.stepped.state (
      next_managed t c.in-At.field-0 c.in-At.is _ c.index.ensures l.host l.remote learnt.listed learnt.among learnt.room learnt.beside,
      next_shows t c.in-At.field-0 c.in-At.is _ c.index.ensures l.to_host l.to_remote learnt.incoming learnt.outgoing,
    ) _ (assumption)

pub end_at-requires : goal.end_at-requires
end_at-requires c =
    let t = takes (goal.at.end_at-requires c).After-advance_in-step in let left = ends_answer t.taken c.in-Ended.is in
    (left.0, (_, slot_left t.taken _ c.index_mut-in-Ended.ensures.value, left.1), last_place t left.0 c.in-Ended.is left.1)

pub invariant_of-self-inside-in-Ended : goal.invariant_of-self-inside-in-Ended
invariant_of-self-inside-in-Ended c = ((_, (takes (goal.at.invariant_of-self-inside-in-Ended c).After-advance_in-step).taken.stepped.state.known.copy), tt)

pub invariant_of-self-in-Ended : goal.invariant_of-self-in-Ended
invariant_of-self-in-Ended c =
    let t = takes (goal.at.invariant_of-self-in-Ended c).After-advance_in-step in let s = c.self.inside in let b = c.advance_in-step.new in let d = c.end_at in let free = c.free_turns in let place = c.from-place.result in
    let left = ends_answer t.taken c.in-Ended.is in let there = slot_left t.taken _ c.index_mut-in-Ended.ensures.value in
    at_known (λ (x : LinkRings). IsManaged s.shared b.manager (set (set s.calls.items place b.slot) place d.new.slot) d.new.host d.new.remote x × ShowsViews s.era free.new.to_host free.new.to_remote x) b.manager _ t.taken.stepped.state (
      last_managed t left.0 c.in-Ended.is left.1 d.new.slot d.new.host d.new.remote d.ensures.free (d.ensures.hands left.0 (_, there, left.1)) d.ensures.room d.ensures.beside,
      last_shows t left.0 c.in-Ended.is left.1 free.new.to_host free.new.to_remote free.ensures.incoming free.ensures.outgoing,
    ) _ (assumption)

pub returns-in-At-clause-whole : goal.returns-in-At-clause-whole
returns-in-At-clause-whole c = step_whole (takes (goal.at.returns-in-At-clause-whole c).After-advance_in-step).taken _ _ c.self.view_is (assumption)

pub returns-in-At-clause-outcome : goal.returns-in-At-clause-outcome
returns-in-At-clause-outcome c = goes_answers (takes (goal.at.returns-in-At-clause-outcome c).After-advance_in-step).taken c.in-At.field-0 c.in-At.is _ _ c.self.view_is

pub returns-in-Ended-clause-whole : goal.returns-in-Ended-clause-whole
returns-in-Ended-clause-whole c = step_whole (takes (goal.at.returns-in-Ended-clause-whole c).After-advance_in-step).taken _ _ c.self.view_is (assumption)

pub returns-in-Ended-clause-outcome : goal.returns-in-Ended-clause-outcome
returns-in-Ended-clause-outcome c =
    let t = takes (goal.at.returns-in-Ended-clause-outcome c).After-advance_in-step in let left = ends_answer t.taken c.in-Ended.is in
    ends_answers t.taken left.0 c.in-Ended.is left.1 _ _ c.self.view_is (c.end_at.ensures.end left.0 (_, slot_left t.taken _ c.index_mut-in-Ended.ensures.value, left.1))

pub returns-in-Ended-clause-taken : goal.returns-in-Ended-clause-taken
returns-in-Ended-clause-taken c =
    let t = takes (goal.at.returns-in-Ended-clause-taken c).After-advance_in-step in let left = ends_answer t.taken c.in-Ended.is in
    last_takes t left.0 c.in-Ended.is left.1 _ _ c.self.view_is (c.end_at.ensures.end left.0 (_, slot_left t.taken _ c.index_mut-in-Ended.ensures.value, left.1)) (returns-in-Ended-clause-whole c)
