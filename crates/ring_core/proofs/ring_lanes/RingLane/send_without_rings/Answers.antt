use Rattle.std.proofs.Common.{◌≡◌, ℕ, length, true, sym, ap, ap₂, ◌∙◌, subst, arith}
use Rattle.lane_model.specs.declared.states.LaneState.{LaneState}
use Rattle.ring_core.specs.declared.states.Rings.{Rings}
use Rattle.ring_core.specs.declared.states.RingState.{RingState}
use Rattle.ring_core.specs.RingSteps.{ring_form, by_call, send_leaves}
use Rattle.lane_model.specs.Lanes.{has_call}
use Rattle.ring_core.specs.RingLanes.{state_of}
use Rattle.ring_core.proofs.Inside.{inside_after}
use Rattle.ring_core.proofs.Sound.{sent_on_sound}
use Rattle.ring_core.proofs.ring_lanes.RingLane.send_without_rings.Goals as goal

pub advance_send-requires : goal.advance_send-requires
advance_send-requires g c = subst (λ (s : RingState g.row.D.Denot). (caller : ℕ) × (has_call s.lane.sender caller ≡ true)) (sym c.self.view_is) c.requires.calling

pub invariant_of-self : goal.invariant_of-self
invariant_of-self g c =
    let old = state_of c.self.inside in
    let rings : by_call old.lane.sender old.rings (λ caller call. let s = old in send_leaves s.rings (length s.lane.lane.accepted) call.message call.stage) ≡ old.rings =
    subst (λ (s : RingState g.row.D.Denot). by_call s.lane.sender s.rings (λ caller call. send_leaves s.rings (length s.lane.lane.accepted) call.message call.stage) ≡ s.rings) (sym c.self.view_is) c.requires.rings in
    inside_after _ _ _ c.self.invariant
    (ap₂ (λ (x : LaneState g.row.D.Denot) (y : Rings). record { lane = x; rings = y }) c.advance_send.ensures.left (sym rings))
    (sent_on_sound g.D.Desk.meaning old c.args.era c.self.invariant.sound) (omega arith) (omega arith)

pub returns-clause-left : goal.returns-clause-left
returns-clause-left g c =
    let old = state_of c.self.inside in
    let rings : by_call old.lane.sender old.rings (λ caller call. let s = old in send_leaves s.rings (length s.lane.lane.accepted) call.message call.stage) ≡ old.rings =
    subst (λ (s : RingState g.row.D.Denot). by_call s.lane.sender s.rings (λ caller call. send_leaves s.rings (length s.lane.lane.accepted) call.message call.stage) ≡ s.rings) (sym c.self.view_is) c.requires.rings in
    ap₂ (λ (x : LaneState g.row.D.Denot) (y : Rings). record { lane = x; rings = y }) c.advance_send.ensures.left (sym rings)
    ∙ ap (λ s. (ring_form g.D.Desk.meaning).sent_on s c.args.era) c.self.view_is
