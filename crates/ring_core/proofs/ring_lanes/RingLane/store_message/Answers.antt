use Rattle.std.proofs.Common.{◌≡◌, ◌%◌, ℕ, Some, List, length, set, ap, ap₂, ◌∙◌, arith}
use Rattle.lane_model.specs.declared.stages.SendStage.TheVariants as send_stage
use Rattle.vring_layout.specs.declared.words.UsedWord.{UsedWord}
use Rattle.ring_core.specs.declared.states.RingState.{RingState}
use Rattle.ring_core.specs.Rings.{entry_length}
use Rattle.ring_core.specs.RingSteps.{ring_form}
use Rattle.ring_core.specs.RingLanes.{state_of, stage_of}
use Rattle.ring_core.proofs.Inside.{inside_after, sent_at, sending_at, message_is, sending_within}
use Rattle.ring_core.proofs.Sound.{sent_on_sound}
use Rattle.ring_core.proofs.ring_lanes.RingLane.store_message.Goals as goal

pub advance_send-requires : goal.advance_send-requires
advance_send-requires g c =
    let at : stage_of c.self.inside.lane.sender ≡ Some (send_stage.Buffer) = ap (λ (s : RingState g.row.D.Denot). stage_of s.lane.sender) c.self.view_is ∙ c.requires in
    sending_at _ _ at

pub invariant_of-self : goal.invariant_of-self
invariant_of-self g c =
    let old = state_of c.self.inside in
    let at : stage_of old.lane.sender ≡ Some (send_stage.Buffer) = ap (λ (s : RingState g.row.D.Denot). stage_of s.lane.sender) c.self.view_is ∙ c.requires in
    let message = message_is old.lane.sender send_stage.Buffer c.outgoing-message.result.now at c.outgoing-message.ensures.sent in
    let filled = c.fill.ensures ∙ ap (set old.rings.buffers old.rings.sending) message in
    let entry = ap (λ n. record { id = old.rings.sending; len = n }) (c.entry_length-len.ensures ∙ ap (λ (m : List ℕ). entry_length old.rings.sizes (length m)) message) in
    let stored = c.store_at.ensures ∙ ap₂ (λ (n : ℕ) (e : UsedWord). set old.rings.forward (n % old.rings.sizes.entries) e) c.accepted-accepted.ensures.count entry in
    inside_after _ _ _ c.self.invariant
    (sent_at _ g.D.Desk.meaning old c.args.era _ _ (send_stage.Buffer) at c.advance_send.ensures.left (ap₂ (λ (b : List (List ℕ)) (f : List UsedWord). record old.rings { buffers = b; forward = f }) filled stored))
    (sent_on_sound g.D.Desk.meaning old c.args.era c.self.invariant.sound) (omega arith) (omega arith)

pub returns-clause-left : goal.returns-clause-left
returns-clause-left g c =
    let old = state_of c.self.inside in
    let at : stage_of old.lane.sender ≡ Some (send_stage.Buffer) = ap (λ (s : RingState g.row.D.Denot). stage_of s.lane.sender) c.self.view_is ∙ c.requires in
    let message = message_is old.lane.sender send_stage.Buffer c.outgoing-message.result.now at c.outgoing-message.ensures.sent in
    let filled = c.fill.ensures ∙ ap (set old.rings.buffers old.rings.sending) message in
    let entry = ap (λ n. record { id = old.rings.sending; len = n }) (c.entry_length-len.ensures ∙ ap (λ (m : List ℕ). entry_length old.rings.sizes (length m)) message) in
    let stored = c.store_at.ensures ∙ ap₂ (λ (n : ℕ) (e : UsedWord). set old.rings.forward (n % old.rings.sizes.entries) e) c.accepted-accepted.ensures.count entry in
    sent_at _ g.D.Desk.meaning old c.args.era _ _ (send_stage.Buffer) at c.advance_send.ensures.left (ap₂ (λ (b : List (List ℕ)) (f : List UsedWord). record old.rings { buffers = b; forward = f }) filled stored)
    ∙ ap (λ s. (ring_form g.D.Desk.meaning).sent_on s c.args.era) c.self.view_is

pub fill-requires : goal.fill-requires
fill-requires g c =
    let old = state_of c.self.inside in
    let at : stage_of old.lane.sender ≡ Some send_stage.Buffer = ap (λ (s : RingState g.row.D.Denot). stage_of s.lane.sender) c.self.view_is ∙ c.requires in
    sending_within old c.self.invariant.sound at
