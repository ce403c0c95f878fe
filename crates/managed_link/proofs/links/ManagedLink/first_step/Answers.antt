-- The parts behind the first step are those of the state that it leaves.
use Rattle.std.proofs.Common.{set}
use Rattle.managed_link.specs.Known.{LinkRings, lists_of}
use Rattle.managed_link.specs.Managed.{IsManaged, ShowsViews, caller_id}
use Rattle.managed_link.proofs.CallSteps.{ends_answer, ends_answers, goes_answers, may_take, slot_left, step_whole}
use Rattle.managed_link.proofs.FirstSteps.{FirstCall, HasAsked, HasTakenStep, begun_managed, begun_shows, first_gives, first_put, first_ready, first_takes_step, refused_managed, refused_place, refused_shows}
use Rattle.managed_link.proofs.KnownStates.{at_known}
use Rattle.managed_link.proofs.TakenMessages.{first_takes}
use Rattle.managed_link.proofs.links.ManagedLink.first_step.Goals as goal
use Rattle.managed_link.proofs.links.ManagedLink.first_step.Goals.{After-advance_in-step, After-index_mut-2}

-- the call of the caller, with what stood before it and what it took
abbrev Call : After-index_mut-2 → FirstCall
Call c = record { link = c.self.inside; who = caller_id c.args.caller c.in-Some.side c.args.follows; wished = c.args.wished.now; place = c.from-place.result; given = c.ask_at.ensures.asking.0; put = c.ask_at.new.slot; host = c.ask_at.new.host; remote = c.ask_at.new.remote }

asks : (c : After-index_mut-2) → HasAsked (Call c)
asks c = let a = c.ask_at.ensures in record {
  begins = may_take c.self.invariant c.end_of.ensures.end c.in-Some.is c.end_of.ensures.within (rw c.self.view_is c.requires);
  at = c.from-place.ensures;
  asking = a.asking.1;
  taken = a.asking.2;
  beside = a.beside;
  room = a.room;
}

-- the step that was taken of it
takes : (c : After-advance_in-step) → HasTakenStep (Call c.before) c.advance_in-step.new.manager c.advance_in-step.result c.advance_in-step.new.slot
takes c = first_takes_step (asks c.before) _ c.index_mut-2.ensures.value c.advance_in-step.ensures

pub ask_at-requires : goal.ask_at-requires
ask_at-requires c = first_gives (may_take {s = c.self.inside} c.self.invariant c.end_of.ensures.end c.in-Some.is c.end_of.ensures.within (rw c.self.view_is c.requires))

pub advance_in-step-requires-clause-call : goal.advance_in-step-requires-clause-call
advance_in-step-requires-clause-call c = let ready = first_ready (asks c) in (c.in-Some.side, _, first_put (asks c) _ c.index_mut-2.ensures.value, ready.0, ready.1)

pub invariant_of-self-inside : goal.invariant_of-self-inside
invariant_of-self-inside c = ((_, (takes (goal.at.invariant_of-self-inside c).After-advance_in-step).taken.stepped.state.known.copy), tt)

pub invariant_of-self : goal.invariant_of-self
invariant_of-self c =
    let t = takes (goal.at.invariant_of-self c).After-advance_in-step in let s = c.self.inside in let a = c.ask_at.new in let b = c.advance_in-step.new in let mark = c.mark_turn in
    at_known (λ (x : LinkRings). IsManaged s.shared b.manager (set (set s.calls.items c.from-place.result a.slot) c.from-place.result b.slot) a.host a.remote x × ShowsViews s.era mark.new.to_host mark.new.to_remote x) b.manager _ t.taken.stepped.state (
      begun_managed t c.in-At.field-0 c.in-At.is,
      begun_shows t c.in-At.field-0 c.in-At.is mark.new.to_host mark.new.to_remote mark.ensures.incoming mark.ensures.outgoing,
    ) _ (assumption)

pub end_at-requires : goal.end_at-requires
end_at-requires c =
    let t = takes (goal.at.end_at-requires c).After-advance_in-step in let left = ends_answer t.taken c.in-Ended.is in
    (left.0, (_, slot_left t.taken _ c.index_mut-in-Ended.ensures.value, left.1), refused_place t left.0 c.in-Ended.is left.1)

pub invariant_of-self-inside-in-Ended : goal.invariant_of-self-inside-in-Ended
invariant_of-self-inside-in-Ended c = ((_, (takes (goal.at.invariant_of-self-inside-in-Ended c).After-advance_in-step).taken.stepped.state.known.copy), tt)

pub invariant_of-self-in-Ended : goal.invariant_of-self-in-Ended
invariant_of-self-in-Ended c =
    let t = takes (goal.at.invariant_of-self-in-Ended c).After-advance_in-step in let s = c.self.inside in let b = c.advance_in-step.new in let d = c.end_at in let place = c.from-place.result in
    let left = ends_answer t.taken c.in-Ended.is in let there = slot_left t.taken _ c.index_mut-in-Ended.ensures.value in
    at_known (λ (x : LinkRings). IsManaged s.shared b.manager (set (set (set s.calls.items place c.ask_at.new.slot) place b.slot) place d.new.slot) d.new.host d.new.remote x × ShowsViews s.era s.to_host s.to_remote x) b.manager _ t.taken.stepped.state (
      refused_managed t left.0 c.in-Ended.is left.1 d.new.slot d.new.host d.new.remote d.ensures.free (d.ensures.hands left.0 (_, there, left.1)) d.ensures.room d.ensures.beside,
      refused_shows t left.0 c.in-Ended.is left.1,
    ) _ (assumption)

pub returns-in-At-clause-whole : goal.returns-in-At-clause-whole
returns-in-At-clause-whole c = step_whole (takes (goal.at.returns-in-At-clause-whole c).After-advance_in-step).taken _ _ c.self.view_is (assumption)

pub returns-in-At-clause-outcome : goal.returns-in-At-clause-outcome
returns-in-At-clause-outcome c = goes_answers (takes (goal.at.returns-in-At-clause-outcome c).After-advance_in-step).taken c.in-At.field-0 c.in-At.is _ _ c.self.view_is

pub returns-in-Ended-clause-whole : goal.returns-in-Ended-clause-whole
returns-in-Ended-clause-whole c = step_whole (takes (goal.at.returns-in-Ended-clause-whole c).After-advance_in-step).taken _ _ c.self.view_is (assumption)

pub returns-in-Ended-clause-outcome : goal.returns-in-Ended-clause-outcome
returns-in-Ended-clause-outcome c =
    let t = takes (goal.at.returns-in-Ended-clause-outcome c).After-advance_in-step in let left = ends_answer t.taken c.in-Ended.is in
    ends_answers t.taken left.0 c.in-Ended.is left.1 _ _ c.self.view_is (c.end_at.ensures.end left.0 (_, slot_left t.taken _ c.index_mut-in-Ended.ensures.value, left.1))

pub returns-in-Ended-clause-taken : goal.returns-in-Ended-clause-taken
returns-in-Ended-clause-taken c = first_takes (lists_of c.args.self.now) c.args.caller c.args.follows c.args.wished.now c.advance_in-step.result c.end_at.result (returns-in-Ended-clause-whole c) (returns-in-Ended-clause-outcome c)
