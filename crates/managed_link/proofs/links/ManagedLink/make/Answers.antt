-- The manager of a new link knows its state.
use Rattle.std.proofs.Common.{◌≤◌, arith, true, refl, sym, subst, vec_capacity}
use Rattle.rp_base.specs.Limits.{ring_capacity}
use Rattle.ring_core.specs.RingLinks.{opened_ring_link}
use Rattle.managed_link.specs.declared.views.LaneView.{LaneView}
use Rattle.managed_link.specs.Known.{LinkRings}
use Rattle.managed_link.specs.Managed.{IsManaged, IsOfCaller, ShowsViews}
use Rattle.managed_link.proofs.KnownStates.{at_known, state_one}
use Rattle.managed_link.proofs.NewLinks.{managed_new}
use Rattle.managed_link.proofs.links.ManagedLink.make.Goals as goal

pub invariant_of-result-2 : goal.invariant_of-result-2
invariant_of-result-2 c =
    let shared = c.in_ok-shared.shared in let manager = c.in_ok-shared.manager in let m = opened_ring_link c.args.config c.args.host c.args.remote in
    let calls = c.in_ok-calls.calls.items in let host = c.in_ok-to_host.to_host in let remote = c.in_ok-to_remote.to_remote in
    let host_room : ring_capacity c.args.config.num0 ≤ vec_capacity host = omega (arith, c.in_ok-to_host.ensures.capacity, c.from.ensures, c.ring_capacity.ensures.capacity) in
    let remote_room : ring_capacity c.args.config.num1 ≤ vec_capacity remote = omega (arith, c.in_ok-to_remote.ensures.capacity, c.from-2.ensures, c.ring_capacity-2.ensures.capacity) in
    at_known (λ (x : LinkRings). IsManaged shared manager calls host remote x × ShowsViews (record { inc = c.args.config.first; is_live = true }) c.new.result c.new-2.result x) manager m c.in_ok-shared.ensures.state (
      managed_new shared manager calls host remote c.args.config c.args.host c.args.remote c.requires.config c.in_ok-shared.ensures.manager c.in_ok-shared.ensures.state c.in_ok-calls.ensures
          (c.in_ok-to_host.ensures.items, host_room) (c.in_ok-to_remote.ensures.items, remote_room),
      record { era_is = refl; host_is = c.new.ensures; remote_is = c.new-2.ensures; receivers = (subst (λ (v : LaneView). IsOfCaller v.receiver) (sym c.new.ensures) tt, subst (λ (v : LaneView). IsOfCaller v.receiver) (sym c.new-2.ensures) tt) },
    ) _ (assumption)

pub returns : goal.returns
returns c = state_one c.in_ok-shared.manager (opened_ring_link c.args.config c.args.host c.args.remote) _ c.in_ok-shared.ensures.state (assumption)
