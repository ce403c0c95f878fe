use Rattle.std.proofs.Common.{arith, IsTrue}
use Rattle.lane_model.specs.ListLanes.{state_of}
use Rattle.lane_model.specs.Lanes.{holds}
use Rattle.lane_model.specs.declared.calls.CallEnd.TheVariants as call_end
use Rattle.lane_model.proofs.SoundLanes.{returned_sound}
use Rattle.lane_model.proofs.list_lanes.ListLane.record_return.Goals as goal

pub invariant_of-self : goal.invariant_of-self
invariant_of-self g c =
    let old = state_of c.self.inside in
    let has : IsTrue (holds old.lane.held c.args.number c.args.caller) = rw (← c.self.view_is) at c.requires in
    record {
      sound = rw c.remove_holding.ensures.rest (returned_sound old c.args.caller c.args.number (call_end.Gave c.args.number) c.self.invariant.sound has);
      capacity = c.self.invariant.capacity;
      outgoing = c.self.invariant.outgoing;
      takers_room = c.self.invariant.takers_room;
      held_room = omega (arith, c.remove_holding.ensures.room, c.self.invariant.held_room);
    }
