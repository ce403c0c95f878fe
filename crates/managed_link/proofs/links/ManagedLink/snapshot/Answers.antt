-- A snapshot leaves the state.
use Rattle.std.proofs.Common.{Result, Ok, Err, ◌∙◌}
use Rattle.std.specs.Prelude.{IfOk}
use Rattle.vring_layout.specs.declared.snapshots.Snapshot.{Snapshot}
use Rattle.vring_layout.specs.declared.snapshots.SnapshotFault.{SnapshotFault}
use Rattle.channel_bus.specs.Sides.{side_meaning}
use Rattle.link_words.specs.declared.rule.View.{View}
use Rattle.split_ring.specs.Snapshots.{IsFound}
use Rattle.managed_link.specs.EndCodes.{end_coded}
use Rattle.managed_link.specs.Managed.{IsWholeRing}
use Rattle.managed_link.proofs.KnownStates.{state_one}
use Rattle.managed_link.proofs.SameStates.{stays_as_known}
use Rattle.managed_link.proofs.links.ManagedLink.snapshot.Goals as goal

-- the words that the manager found are those of whole rings
whole_rings : (v : View) (said : Result Snapshot SnapshotFault) → IfOk said (IsFound end_coded side_meaning v) → IfOk said (λ snapshot. IsWholeRing snapshot.to_host × IsWholeRing snapshot.to_remote)
whole_rings v (Ok snapshot) found = ((found.to_host.sized.0, found.to_host.sized.1, found.to_host.long.0, found.to_host.long.1), (found.to_remote.sized.0, found.to_remote.sized.1, found.to_remote.long.0, found.to_remote.long.1))
whole_rings v (Err why) found = tt

pub invariant_of-self : goal.invariant_of-self
invariant_of-self c =
    let s = c.self.inside in let shown = c.snapshot.ensures in
    stays_as_known s.shared s.manager _ s.era s.to_host s.to_remote s.calls.items s.host s.remote s.known.0 shown.manager.0 (shown.state s.known.0 c.self.invariant.0.state).0 shown.others c.self.invariant _ (assumption)

pub returns-clause-same : goal.returns-clause-same
returns-clause-same c =
    let m = c.self.inside.known.0 in state_one c.snapshot.new.manager m _ (c.snapshot.ensures.state m c.self.invariant.0.state).0 (assumption) ∙ c.self.view_is

pub returns-clause-sized : goal.returns-clause-sized
returns-clause-sized c = whole_rings c.self.inside.manager.seat.me.0 c.snapshot.result c.snapshot.ensures.words
