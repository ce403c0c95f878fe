use Rattle.std.proofs.Common.{sym, ap, subst, arith}
use Rattle.lane_model.specs.declared.states.LaneState.{LaneState}
use Rattle.ring_core.specs.declared.states.RingState.{RingState}
use Rattle.lane_model.specs.Conditions.{IsFitWork}
use Rattle.ring_core.specs.RingLanes.{state_of}
use Rattle.ring_core.proofs.Inside.{inside_after}
use Rattle.ring_core.proofs.Sound.{receive_begun_sound}
use Rattle.ring_core.proofs.ring_lanes.RingLaneLaneForm.begin_receive.Goals as goal

pub invariant_of-self : goal.invariant_of-self
invariant_of-self g c =
    let old = state_of c.self.inside in
    inside_after _ _ _ c.self.invariant
    (ap (λ (x : LaneState g.row.D.Denot). record old { lane = x }) c.begin_receive.ensures.left)
    (receive_begun_sound g.D.Desk.meaning old c.args.caller c.args.follows c.args.first c.requires.first (subst (λ (s : RingState g.row.D.Denot). IsFitWork c.args.first s.lane.lane c.args.caller) (sym c.self.view_is) c.requires.fit) c.self.invariant.sound) (omega arith) (omega arith)
