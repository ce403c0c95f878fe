-- A whole take leaves the link managed, in the state behind its steps.
use Rattle.std.proofs.Common.{◌≡◌, Option, Some, Result, refl}
use Rattle.rp_base.specs.declared.kinds.End.{End}
use Rattle.rp_base.specs.declared.kinds.End.TheVariants as side
use Rattle.lane_model.specs.declared.calls.Wish.TheVariants as wish
use Rattle.lane_model.specs.Links.{end_of}
use Rattle.split_ring.specs.declared.takes.TakeFault.{TakeFault}
use Rattle.split_ring.specs.declared.takes.Taken.{Taken}
use Rattle.split_ring.specs.Calls.{take_answer}
use Rattle.split_ring.specs.Receives.{took}
use Rattle.managed_link.specs.Managed.{caller_id}
use Rattle.managed_link.proofs.WholeSteps.{HasCalled, WholeCall, called_ends, has_room, has_taken, is_taken, may_call, user_at}
use Rattle.managed_link.proofs.links.ManagedLink.take.Goals as goal
use Rattle.managed_link.proofs.links.ManagedLink.take.Goals.{After-take_by-taken}

-- the take of a caller of this end, and what the manager told of it
abbrev Took : After-take_by-taken → End → WholeCall
Took c e = record { link = c.self.inside; after = c.take_by-taken.new.manager; who = caller_id c.args.caller e c.args.follows; wished = wish.Take; steps = c.args.steps.now; counted = c.take_by-taken.new.steps }

-- what the caller had of it
abbrev Answer : After-take_by-taken → End → Result Taken TakeFault
Answer c e = took (caller_id c.args.caller e c.args.follows) c.take_by-taken.new.message c.take_by-taken.result

told : (c : After-take_by-taken) (e : End) (answered : Option End) (found : End) → answered ≡ end_of c.take_by-taken.new.manager.users c.args.caller → answered ≡ Some found → found ≡ e → HasCalled (Took c e) (take_answer (Answer c e))
told c e answered found is here at = let said = c.take_by-taken.ensures in let user = user_at c.self.inside.manager c.take_by-taken.new.manager c.args.caller answered found e said.manager.1 is here at in record {
  was = c.self.invariant;
  may = rw c.self.view_is c.requires.may;
  manager = said.manager;
  idle = said.caller e user;
  others = said.others;
  told = said.state e user c.self.inside.known.0 c.self.invariant.0.state;
}

pub take_by-taken-requires-clause-caller : goal.take_by-taken-requires-clause-caller
take_by-taken-requires-clause-caller c = may_call c.self.inside c.args.caller wish.Take c.self.invariant (rw c.self.view_is c.requires.may) c.args.follows

pub took_end-requires-clause-room : goal.took_end-requires-clause-room
took_end-requires-clause-room c = has_room _ (told (goal.at.took_end-requires-clause-room c).After-take_by-taken side.Host _ _ c.end_of.ensures.end c.in-Some-Host.is c.in-Some-Host.field-0-is)

pub invariant_of-self-inside : goal.invariant_of-self-inside
invariant_of-self-inside c = ((_, (told (goal.at.invariant_of-self-inside c).After-take_by-taken side.Host _ _ c.end_of.ensures.end c.in-Some-Host.is c.in-Some-Host.field-0-is).told.2.state.known.copy), tt)

pub invariant_of-self : goal.invariant_of-self
invariant_of-self c = is_taken _ c.took_end.new.hands c.self.inside.remote c.took_end.new.incoming c.self.inside.to_remote (told (goal.at.invariant_of-self c).After-take_by-taken side.Host _ _ c.end_of.ensures.end c.in-Some-Host.is c.in-Some-Host.field-0-is) c.took_end.ensures.hands c.took_end.ensures.room refl c.took_end.ensures.incoming refl _ (assumption)

pub returns-in-Some-Host-clause-whole : goal.returns-in-Some-Host-clause-whole
returns-in-Some-Host-clause-whole c = called_ends (told (goal.at.returns-in-Some-Host-clause-whole c).After-take_by-taken side.Host _ _ c.end_of.ensures.end c.in-Some-Host.is c.in-Some-Host.field-0-is) c.args.self.now _ c.took_end.result c.self.view_is (assumption) c.took_end.ensures.end

pub took_end-requires-in-Some-Remote-clause-room : goal.took_end-requires-in-Some-Remote-clause-room
took_end-requires-in-Some-Remote-clause-room c = has_room _ (told (goal.at.took_end-requires-in-Some-Remote-clause-room c).After-take_by-taken side.Remote _ _ c.end_of.ensures.end c.in-Some-Remote.is c.in-Some-Remote.field-0-is)

pub invariant_of-self-inside-in-Some-Remote : goal.invariant_of-self-inside-in-Some-Remote
invariant_of-self-inside-in-Some-Remote c = ((_, (told (goal.at.invariant_of-self-inside-in-Some-Remote c).After-take_by-taken side.Remote _ _ c.end_of.ensures.end c.in-Some-Remote.is c.in-Some-Remote.field-0-is).told.2.state.known.copy), tt)

pub invariant_of-self-in-Some-Remote : goal.invariant_of-self-in-Some-Remote
invariant_of-self-in-Some-Remote c = is_taken _ c.self.inside.host c.took_end-in-Some-Remote.new.hands c.self.inside.to_host c.took_end-in-Some-Remote.new.incoming (told (goal.at.invariant_of-self-in-Some-Remote c).After-take_by-taken side.Remote _ _ c.end_of.ensures.end c.in-Some-Remote.is c.in-Some-Remote.field-0-is) c.took_end-in-Some-Remote.ensures.hands c.took_end-in-Some-Remote.ensures.room refl c.took_end-in-Some-Remote.ensures.incoming refl _ (assumption)

pub returns-in-Some-Remote-clause-whole : goal.returns-in-Some-Remote-clause-whole
returns-in-Some-Remote-clause-whole c = called_ends (told (goal.at.returns-in-Some-Remote-clause-whole c).After-take_by-taken side.Remote _ _ c.end_of.ensures.end c.in-Some-Remote.is c.in-Some-Remote.field-0-is) c.args.self.now _ c.took_end-in-Some-Remote.result c.self.view_is (assumption) c.took_end-in-Some-Remote.ensures.end

pub returns-in-Some-Host-clause-taken : goal.returns-in-Some-Host-clause-taken
returns-in-Some-Host-clause-taken c = has_taken _ _ _ _ _ (told (goal.at.returns-in-Some-Host-clause-taken c).After-take_by-taken side.Host _ _ c.end_of.ensures.end c.in-Some-Host.is c.in-Some-Host.field-0-is) c.took_end.ensures.end (returns-in-Some-Host-clause-whole c).2 (assumption)

pub returns-in-Some-Remote-clause-taken : goal.returns-in-Some-Remote-clause-taken
returns-in-Some-Remote-clause-taken c = has_taken _ _ _ _ _ (told (goal.at.returns-in-Some-Remote-clause-taken c).After-take_by-taken side.Remote _ _ c.end_of.ensures.end c.in-Some-Remote.is c.in-Some-Remote.field-0-is) c.took_end-in-Some-Remote.ensures.end (returns-in-Some-Remote-clause-whole c).2 (assumption)
