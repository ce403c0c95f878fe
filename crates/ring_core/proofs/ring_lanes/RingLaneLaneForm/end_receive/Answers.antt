use Rattle.std.proofs.Common.{◌++◌, ℕ, List, ap, ap₂, ◌∙◌, arith}
use Rattle.lane_model.specs.declared.states.LaneState.{LaneState}
use Rattle.ring_core.specs.declared.states.Hand.{Hand}
use Rattle.ring_core.specs.declared.states.Rings.{Rings}
use Rattle.ring_core.specs.RingSteps.{buffers_of}
use Rattle.ring_core.specs.RingLanes.{state_of}
use Rattle.ring_core.proofs.Inside.{inside_after}
use Rattle.ring_core.proofs.Reclaims.{receive_ended_sound}
use Rattle.ring_core.proofs.ring_lanes.RingLaneLaneForm.end_receive.Goals as goal

pub invariant_of-self : goal.invariant_of-self
invariant_of-self g c =
    let old = state_of c.self.inside in
    let rings = old.rings in
    let aside = c.put_aside.ensures.items ∙ ap (λ (hands : List Hand). rings.aside ++ buffers_of hands c.args.caller) c.deref.ensures.value in
    let left = ap₂ (λ (hands : List Hand) (set_aside : List ℕ). record rings { hands = hands; aside = set_aside }) c.remove_hands.ensures.rest aside in
    inside_after _ _ _ c.self.invariant
    (ap₂ (λ (x : LaneState g.row.D.Denot) (y : Rings). record { lane = x; rings = y }) c.end_receive.ensures left)
    (receive_ended_sound g.D.Desk.meaning old c.args.caller c.self.invariant.sound) (omega (arith, c.remove_hands.ensures.room)) (omega (arith, c.put_aside.ensures.room))
