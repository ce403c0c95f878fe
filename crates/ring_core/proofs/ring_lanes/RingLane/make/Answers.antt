use Rattle.std.proofs.Common.{◌≡◌, ◌-◌, ℕ, List, [], replicate, sym, ap, ap₂, ◌∙◌, subst, arith}
use Rattle.std.proofs.lemmas.List.{length-replicate}
use Rattle.lane_model.specs.Crashes.{opened_lane}
use Rattle.lane_model.specs.declared.states.LaneState.{LaneState}
use Rattle.vring_layout.specs.declared.words.UsedWord.{UsedWord}
use Rattle.ring_core.specs.declared.states.Hand.{Hand}
use Rattle.ring_core.specs.declared.states.RingState.{RingState}
use Rattle.ring_core.specs.Rings.{opened_rings, return_count}
use Rattle.ring_core.specs.SoundRings.{IsSoundRings}
use Rattle.ring_core.proofs.Opened.{opened_rings_sound, sizes_sized}
use Rattle.ring_core.proofs.ring_lanes.RingLane.make.Goals as goal

pub invariant_of-result : goal.invariant_of-result
invariant_of-result g c =
    let sizes = c.ring_sizes-sizes.result in
    let buffers : List (List ℕ) = replicate sizes.capacity [] in
    let is = c.ring_sizes-sizes.ensures in
    let sized = sizes_sized c.args.entries c.args.device_sends sizes is c.requires.entries in
    let sound = opened_rings_sound sizes buffers c.args.book c.args.desk sized.0 sized.1 sized.2 sized.3 sized.4 sized.5 sized.6 (length-replicate sizes.capacity []) c.requires.book in
    let target : RingState g.row.D.Denot = record { lane = opened_lane sizes.capacity c.args.book c.args.desk; rings = opened_rings sizes buffers } in
    let lane = c.in_ok-make.ensures in
    let forward = c.in_ok-empty_ring.ensures in
    let returns = c.in_ok-stocked_returns.ensures in
    let filled = c.in_ok-empty_buffers.ensures in
    let hands = c.in_ok-with_capacity.ensures.items in
    let aside = c.in_ok-with_capacity-2.ensures.items in
    let build : LaneState g.row.D.Denot → List UsedWord → List UsedWord → List Hand → List ℕ → List (List ℕ) → ℕ → RingState g.row.D.Denot = λ l f r h a b i. record {
      lane = l;
      rings = record { sizes = sizes; forward_index = 0; return_index = i; forward = f; returns = r; sending = 0; taking = 0; hands = h; aside = a; buffers = b };
    } in
    let index : sizes.capacity - sizes.own ≡ return_count sizes 0 = omega arith in
    let opened = target.lane in
    let rings = target.rings in
    let at = sizes.capacity - sizes.own in
    let same : build c.in_ok-make.field-0 c.in_ok-empty_ring.field-0.items c.in_ok-stocked_returns.field-0.items c.in_ok-with_capacity.field-0.items c.in_ok-with_capacity-2.field-0.items c.in_ok-empty_buffers.field-0.items at ≡ target =
    ap₂ (λ l f. build l f c.in_ok-stocked_returns.field-0.items c.in_ok-with_capacity.field-0.items c.in_ok-with_capacity-2.field-0.items c.in_ok-empty_buffers.field-0.items at) lane forward
    ∙ ap₂ (λ r h. build opened rings.forward r h c.in_ok-with_capacity-2.field-0.items c.in_ok-empty_buffers.field-0.items at) returns hands
    ∙ ap₂ (λ a b. build opened rings.forward rings.returns [] a b at) aside filled
    ∙ ap (λ i. build opened rings.forward rings.returns [] [] rings.buffers i) index in
    record {
      sound = subst IsSoundRings (sym same) sound;
      hands_room = omega (arith, c.in_ok-with_capacity.ensures.capacity);
      aside_room = omega (arith, c.in_ok-with_capacity-2.ensures.capacity);
    }
