use Rattle.std.proofs.Common.{refl}
use Rattle.rp_base.specs.declared.kinds.End.TheVariants as side
use Rattle.link_words.specs.Reopens.{both_sides}
use Rattle.link_words.specs.Sides.{no_sides}
use Rattle.split_ring.specs.Gathers.{lane_slots}
use Rattle.split_ring.specs.States.{lane_left}
use Rattle.split_ring.proofs.links.SharedLink.put_lanes.Goals as goal

pub put_lane-requires-2-clause-manager : goal.put_lane-requires-2-clause-manager
put_lane-requires-2-clause-manager g c =
    let q = c.requires.manager in let a = both_sides c.args.host.sender c.args.host.receiver in let b = both_sides c.args.remote.sender c.args.remote.receiver in
    (q.0, a, no_sides, q.1, c.put_lane.ensures.put q.0 a b (lane_slots side.Host q.1) q.2, refl)

pub returns-clause-state : goal.returns-clause-state
returns-clause-state g c = λ m knows. c.put_lane-2.ensures.state (lane_left g.D.Desk.meaning m side.Remote) (c.put_lane.ensures.state m knows)
