-- A whole send leaves the link managed, in the state behind its steps.
use Rattle.std.proofs.Common.{◌≡◌, Option, Some, refl}
use Rattle.rp_base.specs.declared.kinds.End.{End}
use Rattle.rp_base.specs.declared.kinds.End.TheVariants as side
use Rattle.lane_model.specs.declared.calls.Wish.TheVariants as wish
use Rattle.lane_model.specs.Links.{end_of}
use Rattle.split_ring.specs.Calls.{send_answer}
use Rattle.managed_link.specs.Managed.{caller_id}
use Rattle.managed_link.proofs.TakenMessages.{send_takes}
use Rattle.managed_link.proofs.WholeSteps.{HasCalled, WholeCall, called_ends, is_sent, may_call, user_at}
use Rattle.managed_link.proofs.links.ManagedLink.send.Goals as goal
use Rattle.managed_link.proofs.links.ManagedLink.send.Goals.{After-send_by-sent}

-- the send of a caller of this end, and what the manager told of it
abbrev Sent : After-send_by-sent → End → WholeCall
Sent c e = record { link = c.self.inside; after = c.send_by-sent.new.manager; who = caller_id c.args.caller e c.args.follows; wished = wish.Send c.args.message.now; steps = c.args.steps.now; counted = c.send_by-sent.new.steps }

told : (c : After-send_by-sent) (e : End) (answered : Option End) (found : End) → answered ≡ end_of c.send_by-sent.new.manager.users c.args.caller → answered ≡ Some found → found ≡ e → HasCalled (Sent c e) (send_answer c.send_by-sent.result)
told c e answered found is here at = let said = c.send_by-sent.ensures in let user = user_at c.self.inside.manager c.send_by-sent.new.manager c.args.caller answered found e said.manager.1 is here at in record {
  was = c.self.invariant;
  may = rw c.self.view_is c.requires.may;
  manager = said.manager;
  idle = said.caller e user;
  others = said.others;
  told = said.state e user c.self.inside.known.0 c.self.invariant.0.state;
}

pub send_by-sent-requires-clause-caller : goal.send_by-sent-requires-clause-caller
send_by-sent-requires-clause-caller c = may_call c.self.inside c.args.caller (wish.Send c.args.message.now) c.self.invariant (rw c.self.view_is c.requires.may) c.args.follows

pub invariant_of-self-inside : goal.invariant_of-self-inside
invariant_of-self-inside c = ((_, (told (goal.at.invariant_of-self-inside c).After-send_by-sent side.Host _ _ c.end_of.ensures.end c.in-Some-Host.is c.in-Some-Host.field-0-is).told.2.state.known.copy), tt)

pub invariant_of-self : goal.invariant_of-self
invariant_of-self c = is_sent c.send_by-sent.result c.self.inside.to_host c.sent_end.new.outgoing (told (goal.at.invariant_of-self c).After-send_by-sent side.Host _ _ c.end_of.ensures.end c.in-Some-Host.is c.in-Some-Host.field-0-is) refl c.sent_end.ensures.outgoing _ (assumption)

pub returns-in-Some-Host-clause-whole : goal.returns-in-Some-Host-clause-whole
returns-in-Some-Host-clause-whole c = called_ends (told (goal.at.returns-in-Some-Host-clause-whole c).After-send_by-sent side.Host _ _ c.end_of.ensures.end c.in-Some-Host.is c.in-Some-Host.field-0-is) c.args.self.now _ c.sent_end.result c.self.view_is (assumption) c.sent_end.ensures.end

pub invariant_of-self-inside-in-Some-Remote : goal.invariant_of-self-inside-in-Some-Remote
invariant_of-self-inside-in-Some-Remote c = ((_, (told (goal.at.invariant_of-self-inside-in-Some-Remote c).After-send_by-sent side.Remote _ _ c.end_of.ensures.end c.in-Some-Remote.is c.in-Some-Remote.field-0-is).told.2.state.known.copy), tt)

pub invariant_of-self-in-Some-Remote : goal.invariant_of-self-in-Some-Remote
invariant_of-self-in-Some-Remote c = is_sent c.send_by-sent.result c.sent_end-in-Some-Remote.new.outgoing c.self.inside.to_remote (told (goal.at.invariant_of-self-in-Some-Remote c).After-send_by-sent side.Remote _ _ c.end_of.ensures.end c.in-Some-Remote.is c.in-Some-Remote.field-0-is) refl c.sent_end-in-Some-Remote.ensures.outgoing _ (assumption)

pub returns-in-Some-Remote-clause-whole : goal.returns-in-Some-Remote-clause-whole
returns-in-Some-Remote-clause-whole c = called_ends (told (goal.at.returns-in-Some-Remote-clause-whole c).After-send_by-sent side.Remote _ _ c.end_of.ensures.end c.in-Some-Remote.is c.in-Some-Remote.field-0-is) c.args.self.now _ c.sent_end-in-Some-Remote.result c.self.view_is (assumption) c.sent_end-in-Some-Remote.ensures.end

pub returns-in-Some-Host-clause-taken : goal.returns-in-Some-Host-clause-taken
returns-in-Some-Host-clause-taken c = send_takes _ _ _ _ _ _ _ c.send_by-sent.result c.sent_end.ensures.end (returns-in-Some-Host-clause-whole c).2

pub returns-in-Some-Remote-clause-taken : goal.returns-in-Some-Remote-clause-taken
returns-in-Some-Remote-clause-taken c = send_takes _ _ _ _ _ _ _ c.send_by-sent.result c.sent_end-in-Some-Remote.ensures.end (returns-in-Some-Remote-clause-whole c).2
