-- The manager knows the state with the caller that it made.
use Rattle.std.proofs.Common.{◌≡◌, Option, sym, ap, subst, ◌∙◌}
use Rattle.lane_model.specs.Links.{free_number}
use Rattle.split_ring.specs.Callers.{IsStateOf}
use Rattle.managed_link.specs.EndCodes.{end_coded}
use Rattle.managed_link.specs.Known.{LinkRings}
use Rattle.managed_link.specs.Managed.{IsManaged, ShowsViews}
use Rattle.managed_link.proofs.KnownStates.{at_known, state_one}
use Rattle.managed_link.proofs.NewCallers.{enlisted, managed_enlisted}
use Rattle.managed_link.proofs.links.ManagedLink.caller.Goals as goal
use Rattle.managed_link.proofs.links.ManagedLink.caller.Goals.{After-enlist}

-- the number is the least that is free in the state
free_in : (c : After-enlist) → c.enlist.result ≡ free_number c.self.inside.known.0.callers
free_in c = c.enlist.ensures.number ∙ ap free_number c.self.invariant.0.state.users

knows : (c : After-enlist) → IsStateOf end_coded c.enlist.new.manager (enlisted c.self.inside.known.0 c.args.end (free_number c.self.inside.known.0.callers))
knows c = c.enlist.ensures.state c.self.inside.known.0 c.self.invariant.0.state

pub invariant_of-self-inside : goal.invariant_of-self-inside
invariant_of-self-inside c = ((_, (knows c).known.copy), tt)

pub invariant_of-self : goal.invariant_of-self
invariant_of-self c =
    let s = c.self.inside in let m = s.known.0 in let after = c.enlist.new.manager in let made = (goal.at.invariant_of-self c).After-enlist in let free = free_in made in
    at_known (λ (x : LinkRings). IsManaged s.shared after s.calls.items s.host s.remote x × ShowsViews s.era s.to_host s.to_remote x) after (enlisted m c.args.end (free_number m.callers)) (knows made) (
      subst (λ (k : Option _). IsManaged s.shared after s.calls.items s.host s.remote (enlisted m c.args.end k)) free
          (managed_enlisted s.shared s.manager after s.calls.items s.host s.remote m c.args.end c.enlist.ensures.others c.self.invariant.0 c.enlist.result free c.enlist.ensures.manager
          (subst (λ (k : Option _). IsStateOf end_coded after (enlisted m c.args.end k)) (sym free) (knows made)) c.enlist.ensures.carried),
      record { era_is = c.self.invariant.1.era_is; host_is = c.self.invariant.1.host_is; remote_is = c.self.invariant.1.remote_is; receivers = c.self.invariant.1.receivers },
    ) _ (assumption)

pub returns-clause-left : goal.returns-clause-left
returns-clause-left c =
    let m = c.self.inside.known.0 in
    state_one c.enlist.new.manager (enlisted m c.args.end (free_number m.callers)) _ (knows (goal.at.returns-clause-left c).After-enlist) (assumption) ∙ ap (λ (x : LinkRings). enlisted x c.args.end (free_number x.callers)) c.self.view_is
