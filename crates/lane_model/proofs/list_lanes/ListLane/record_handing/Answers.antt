use Rattle.std.proofs.Common.{rules, arith, length, ◌<◌, ◌≡◌}
use Rattle.lane_model.specs.declared.calls.CallEnd.TheVariants as call_end
use Rattle.lane_model.specs.ListLanes.{state_of}
use Rattle.lane_model.proofs.SoundLanes.{handed_sound}
use Rattle.lane_model.proofs.list_lanes.ListLane.record_handing.Goals as goal

pub invariant_of-self : goal.invariant_of-self
invariant_of-self g c =
    let old = state_of c.self.inside in
    let waits : length old.lane.takers < length old.lane.accepted = rw (← c.self.view_is) at c.requires in
    let number : c.len-number.result ≡ length old.lane.takers = search rules in
    record {
      sound = rw (c.push_reserved.ensures.items, c.push_reserved-2.ensures.items, number) (handed_sound old c.args.caller old.desk (call_end.Took (length old.lane.takers) c.args.verdict) c.self.invariant.sound waits);
      capacity = c.self.invariant.capacity;
      outgoing = c.self.invariant.outgoing;
      takers_room = omega (arith, c.push_reserved.ensures.capacity, c.self.invariant.takers_room);
      held_room = omega (arith, c.push_reserved-2.ensures.capacity, c.self.invariant.held_room);
    }
