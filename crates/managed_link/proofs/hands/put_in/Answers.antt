use Rattle.std.proofs.Common.{◌∙◌, Option, ap, arith, slice_set}
use Rattle.lane_model.specs.HeldBuffers.{HeldBuffer}
use Rattle.managed_link.proofs.HandLists.{hand_read, place_in}
use Rattle.managed_link.proofs.hands.put_in.Goals as goal

pub index_mut-requires : goal.index_mut-requires
index_mut-requires c =
    let within = place_in _ _ c.number.result c.caller.result c.place_of-place.result c.deref.ensures.value c.place_of-place.ensures in
    omega (arith, within, c.args.hands.now.ok.0)

pub returns-clause-here : goal.returns-clause-here
returns-clause-here c =
    let read = c.index_mut.result.now in
    let at = hand_read _ _ c.number.result c.caller.result c.place_of-place.result read c.deref.ensures.value c.place_of-place.ensures c.index_mut.ensures.value in (
      c.place_of-place.result,
      read,
      record { here = at.here; numbered = at.numbered ∙ c.number.ensures; by_caller = at.by_caller ∙ c.caller.ensures },
      ap (λ (held : Option HeldBuffer). slice_set c.args.hands.now.items c.place_of-place.result (record read { held = held })) c.put.ensures,
    )
