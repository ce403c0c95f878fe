-- Who has the receiver's turn of the lane to an end is a caller of that end.
use Rattle.std.proofs.Common.{◌≡◌, Some, sym, subst}
use Rattle.std.specs.Prelude.{IfSome}
use Rattle.rp_base.specs.declared.kinds.End.{End}
use Rattle.rp_base.specs.declared.kinds.End.TheVariants as side
use Rattle.lane_model.specs.Links.{end_of}
use Rattle.managed_link.specs.Known.{LinkRings}
use Rattle.managed_link.proofs.CallersTurns.{receiver_user}
use Rattle.managed_link.proofs.links.ManagedLink.receiver_holder.Goals as goal

pub returns-in-Host-clause-user : goal.returns-in-Host-clause-user
returns-in-Host-clause-user c = let s = c.self.inside in let m = s.known.0 in let shows = c.self.invariant.1 in
    subst (λ (e : End). IfSome s.to_host.receiver (λ caller. end_of c.args.self.now.callers caller ≡ Some e)) (sym c.in-Host.is)
    (subst (λ (x : LinkRings). IfSome s.to_host.receiver (λ caller. end_of x.callers caller ≡ Some side.Host)) c.self.view_is (receiver_user s.to_host m.callers side.Host m.to_host.lane shows.host_is c.self.invariant.0.sound.to_host.receiver shows.receivers.0))

pub returns-in-Remote-clause-user : goal.returns-in-Remote-clause-user
returns-in-Remote-clause-user c = let s = c.self.inside in let m = s.known.0 in let shows = c.self.invariant.1 in
    subst (λ (e : End). IfSome s.to_remote.receiver (λ caller. end_of c.args.self.now.callers caller ≡ Some e)) (sym c.in-Remote.is)
    (subst (λ (x : LinkRings). IfSome s.to_remote.receiver (λ caller. end_of x.callers caller ≡ Some side.Remote)) c.self.view_is (receiver_user s.to_remote m.callers side.Remote m.to_remote.lane shows.remote_is c.self.invariant.0.sound.to_remote.receiver shows.receivers.1))
