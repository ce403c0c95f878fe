use Rattle.std.proofs.Common.{◌≡◌, ◌+◌, ◌%◌, ◌<◌, ◌++◌, ℕ, List, length, set, ap, ap₂, sym, ◌∙◌, arith, rules}
use Rattle.std.proofs.lemmas.Bool.{eqb-false}
use Rattle.lane_model.specs.declared.states.LaneState.{LaneState}
use Rattle.lane_model.specs.Sends.{with_accepted}
use Rattle.lane_model.specs.AtOnce.{SendsAtOnce}
use Rattle.vring_layout.specs.declared.words.UsedWord.{UsedWord}
use Rattle.ring_core.specs.declared.states.Rings.{Rings}
use Rattle.ring_core.specs.declared.states.RingState.{RingState}
use Rattle.ring_core.specs.Rings.{entry_length, source_buffer}
use Rattle.ring_core.specs.RingSteps.{next_index}
use Rattle.ring_core.specs.RingLanes.{state_of}
use Rattle.ring_core.proofs.Inside.{inside_after}
use Rattle.ring_core.proofs.Owned.{source-below}
use Rattle.ring_core.proofs.AtOnce.{ring_sent, after_send_sound}
use Rattle.ring_core.proofs.ring_lanes.RingLaneLaneForm.send_at_once.Goals as goal

pub index_mut-message-requires : goal.index_mut-message-requires
index_mut-message-requires g c =
    let old = state_of c.self.inside in
    let sound = c.self.invariant.sound in
    let sized = sound.sized in
    let counted = sound.counted in
    let lane = old.lane.lane in
    let rings = old.rings in
    let may : SendsAtOnce old.lane = c.if-not-sends_at_once.ensures.may in
    let apart = eqb-false _ _ may.room in
    let some : length lane.accepted < lane.returned + rings.sizes.capacity = omega (arith, apart, counted.out, sized.lane) in
    let below = source-below rings.sizes (length lane.accepted) (length lane.takers) lane.returned rings.forward rings.returns rings.hands rings.aside sound.owned some in
    let is : c.source-buffer.result ≡ source_buffer rings.sizes.entries rings.sizes.own rings.returns (length lane.accepted) =
    c.source-buffer.ensures ∙ sym (ap (λ (s : RingState g.row.D.Denot). source_buffer s.rings.sizes.entries s.rings.sizes.own s.rings.returns (length s.lane.lane.accepted)) c.self.view_is) in
    let within : c.source-buffer.result < length c.self.inside.buffers.items = omega (arith, is, below, sized.buffers_long) in
    search rules

pub invariant_of-self : goal.invariant_of-self
invariant_of-self g c =
    let old = state_of c.self.inside in
    let rings = old.rings in
    let may : SendsAtOnce old.lane = c.if-not-sends_at_once.ensures.may in
    let message : List ℕ = c.args.head.now ++ c.args.body.now in
    let accepted = length old.lane.lane.accepted in
    let buffer = c.source-buffer.result in
    let source : buffer ≡ source_buffer rings.sizes.entries rings.sizes.own rings.returns accepted =
    c.source-buffer.ensures ∙ sym (ap (λ (s : RingState g.row.D.Denot). source_buffer s.rings.sizes.entries s.rings.sizes.own s.rings.returns (length s.lane.lane.accepted)) c.self.view_is) in
    let lane = c.accept_at_once.ensures ∙ ap (λ (m : List ℕ). record old.lane { lane = with_accepted old.lane.lane c.args.caller m }) c.set.ensures in
    let made : ℕ → List ℕ → List UsedWord → Rings = λ b m f. record rings { sending = b; buffers = set rings.buffers b m; forward = f; forward_index = next_index rings.forward_index } in
    let stored : ℕ → ℕ → ℕ → List UsedWord = λ n b l. set rings.forward (n % rings.sizes.entries) (record { id = b; len = l }) in
    let forward = c.store_at.ensures ∙ ap₂ (λ (n l : ℕ). stored n buffer l) c.accepted-number.ensures.count c.entry_length.ensures in
    let left = ap (made buffer c.set.new.self) forward
    ∙ ap (λ (m : List ℕ). made buffer m (stored accepted buffer (entry_length rings.sizes (length m)))) c.set.ensures
    ∙ ap (λ (b : ℕ). made b message (stored accepted b (entry_length rings.sizes (length message)))) source in
    inside_after _ _ _ c.self.invariant
    (ap₂ (λ (x : LaneState g.row.D.Denot) (y : Rings). record { lane = x; rings = y }) lane left ∙ ring_sent _ g.D.Desk.meaning old c.args._era c.args.caller message may c.requires.live)
    (after_send_sound g.D.Desk.meaning old c.args._era c.args.caller message c.self.invariant.sound) (omega arith) (omega arith)
