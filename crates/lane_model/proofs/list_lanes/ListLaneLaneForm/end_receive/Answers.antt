use Rattle.std.proofs.Common.{arith}
use Rattle.lane_model.specs.ListLanes.{state_of}
use Rattle.lane_model.proofs.CrashSteps.{receive_ended_sound}
use Rattle.lane_model.proofs.list_lanes.ListLaneLaneForm.end_receive.Goals as goal

pub invariant_of-self : goal.invariant_of-self
invariant_of-self g c =
    let old = state_of c.self.inside in
    record {
      sound = rw (c.remove_holdings.ensures.rest, c.ended_turn-self-inside.ensures) (receive_ended_sound old c.args.caller c.self.invariant.sound);
      capacity = c.self.invariant.capacity;
      outgoing = c.self.invariant.outgoing;
      takers_room = c.self.invariant.takers_room;
      held_room = omega (arith, c.remove_holdings.ensures.room, c.self.invariant.held_room);
    }
