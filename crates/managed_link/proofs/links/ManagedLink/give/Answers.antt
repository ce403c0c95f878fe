-- A whole give leaves the link managed, in the state behind its steps.
use Rattle.std.proofs.Common.{◌≡◌, [], Option, Some, Result, ℕ, refl}
use Rattle.rp_base.specs.declared.kinds.End.{End}
use Rattle.rp_base.specs.declared.kinds.End.TheVariants as side
use Rattle.lane_model.specs.declared.calls.Wish.TheVariants as wish
use Rattle.lane_model.specs.HeldBuffers.{HeldBuffer}
use Rattle.lane_model.specs.Links.{end_of}
use Rattle.split_ring.specs.declared.gives.GiveBusy.{GiveBusy}
use Rattle.split_ring.specs.Calls.{give_answer}
use Rattle.split_ring.specs.Receives.{given_of}
use Rattle.managed_link.specs.Managed.{caller_id}
use Rattle.managed_link.proofs.TakenMessages.{give_takes}
use Rattle.managed_link.proofs.WholeGives.{is_given, may_give}
use Rattle.managed_link.proofs.WholeSteps.{HasCalled, WholeCall, called_ends, user_at}
use Rattle.managed_link.proofs.links.ManagedLink.give.Goals as goal
use Rattle.managed_link.proofs.links.ManagedLink.give.Goals.{After-give_by-given}

-- the give of a caller of this end, and what the manager told of it, whatever buffer of this number it gave
abbrev Gave : After-give_by-given → End → WholeCall
Gave c e = record { link = c.self.inside; after = c.give_by-given.new.manager; who = caller_id c.args.caller e c.args.follows; wished = wish.Give c.args.number; steps = c.args.steps.now; counted = c.give_by-given.new.steps }

abbrev Given : After-give_by-given → HeldBuffer
Given c = record { lane = 0; caller = c.args.caller; number = c.args.number; buffer = 0; message = [] }

abbrev Answer : After-give_by-given → Result ℕ GiveBusy
Answer c = given_of (Given c) c.give_by-given.result

told : (c : After-give_by-given) (e : End) (answered : Option End) (found : End) → answered ≡ end_of c.give_by-given.new.manager.users c.args.caller → answered ≡ Some found → found ≡ e → HasCalled (Gave c e) (give_answer (Answer c))
told c e answered found is here at = let said = c.give_by-given.ensures in let user = user_at c.self.inside.manager c.give_by-given.new.manager c.args.caller answered found e said.manager.1 is here at in record {
  was = c.self.invariant;
  may = rw c.self.view_is c.requires.may;
  manager = said.manager;
  idle = said.caller e user;
  others = said.others;
  told = said.state (Given c) refl e user c.self.inside.known.0 c.self.invariant.0.state;
}

pub give_by-given-requires-clause-caller : goal.give_by-given-requires-clause-caller
give_by-given-requires-clause-caller c = may_give c.self.inside c.args.caller c.args.number c.self.invariant (rw c.self.view_is c.requires.may) c.args.follows

pub invariant_of-self-inside : goal.invariant_of-self-inside
invariant_of-self-inside c = ((_, (told (goal.at.invariant_of-self-inside c).After-give_by-given side.Host _ _ c.end_of.ensures.end c.in-Some-Host.is c.in-Some-Host.field-0-is).told.2.state.known.copy), tt)

pub invariant_of-self : goal.invariant_of-self
invariant_of-self c = is_given _ c.gave_end.result c.gave_end.new.hands c.self.inside.remote c.gave_end.new.incoming c.self.inside.to_remote (told (goal.at.invariant_of-self c).After-give_by-given side.Host _ _ c.end_of.ensures.end c.in-Some-Host.is c.in-Some-Host.field-0-is) (c.gave_end.ensures.end (Given (goal.at.invariant_of-self c).After-give_by-given)) c.gave_end.ensures.listed c.gave_end.ensures.some c.gave_end.ensures.room refl c.gave_end.ensures.incoming refl _ (assumption)

pub returns-in-Some-Host-clause-whole : goal.returns-in-Some-Host-clause-whole
returns-in-Some-Host-clause-whole c = called_ends (told (goal.at.returns-in-Some-Host-clause-whole c).After-give_by-given side.Host _ _ c.end_of.ensures.end c.in-Some-Host.is c.in-Some-Host.field-0-is) c.args.self.now _ c.gave_end.result c.self.view_is (assumption) (c.gave_end.ensures.end (Given (goal.at.returns-in-Some-Host-clause-whole c).After-give_by-given))

pub returns-in-Some-Host-clause-taken : goal.returns-in-Some-Host-clause-taken
returns-in-Some-Host-clause-taken c = give_takes _ _ _ _ _ _ _ (Answer (goal.at.returns-in-Some-Host-clause-taken c).After-give_by-given) (c.gave_end.ensures.end (Given (goal.at.returns-in-Some-Host-clause-taken c).After-give_by-given)) (returns-in-Some-Host-clause-whole c).2

pub invariant_of-self-inside-in-Some-Remote : goal.invariant_of-self-inside-in-Some-Remote
invariant_of-self-inside-in-Some-Remote c = ((_, (told (goal.at.invariant_of-self-inside-in-Some-Remote c).After-give_by-given side.Remote _ _ c.end_of.ensures.end c.in-Some-Remote.is c.in-Some-Remote.field-0-is).told.2.state.known.copy), tt)

pub invariant_of-self-in-Some-Remote : goal.invariant_of-self-in-Some-Remote
invariant_of-self-in-Some-Remote c = is_given _ c.gave_end-in-Some-Remote.result c.self.inside.host c.gave_end-in-Some-Remote.new.hands c.self.inside.to_host c.gave_end-in-Some-Remote.new.incoming (told (goal.at.invariant_of-self-in-Some-Remote c).After-give_by-given side.Remote _ _ c.end_of.ensures.end c.in-Some-Remote.is c.in-Some-Remote.field-0-is) (c.gave_end-in-Some-Remote.ensures.end (Given (goal.at.invariant_of-self-in-Some-Remote c).After-give_by-given)) c.gave_end-in-Some-Remote.ensures.listed c.gave_end-in-Some-Remote.ensures.some c.gave_end-in-Some-Remote.ensures.room refl c.gave_end-in-Some-Remote.ensures.incoming refl _ (assumption)

pub returns-in-Some-Remote-clause-whole : goal.returns-in-Some-Remote-clause-whole
returns-in-Some-Remote-clause-whole c = called_ends (told (goal.at.returns-in-Some-Remote-clause-whole c).After-give_by-given side.Remote _ _ c.end_of.ensures.end c.in-Some-Remote.is c.in-Some-Remote.field-0-is) c.args.self.now _ c.gave_end-in-Some-Remote.result c.self.view_is (assumption) (c.gave_end-in-Some-Remote.ensures.end (Given (goal.at.returns-in-Some-Remote-clause-whole c).After-give_by-given))

pub returns-in-Some-Remote-clause-taken : goal.returns-in-Some-Remote-clause-taken
returns-in-Some-Remote-clause-taken c = give_takes _ _ _ _ _ _ _ (Answer (goal.at.returns-in-Some-Remote-clause-taken c).After-give_by-given) (c.gave_end-in-Some-Remote.ensures.end (Given (goal.at.returns-in-Some-Remote-clause-taken c).After-give_by-given)) (returns-in-Some-Remote-clause-whole c).2
