use Rattle.std.proofs.Common.{arith, IsTrue, sym, subst, None, ◌≡◌}
use Rattle.lane_model.specs.ListLanes.{state_of}
use Rattle.lane_model.specs.Lanes.{holds, holder}
use Rattle.lane_model.specs.declared.calls.CallEnd.TheVariants as call_end
use Rattle.lane_model.specs.declared.stages.Turn.{Turn}
use Rattle.lane_model.specs.declared.stages.Turn.TheVariants as turn
use Rattle.lane_model.specs.declared.stages.Receiving.{Receiving}
use Rattle.lane_model.specs.Receives.{with_returned}
use Rattle.lane_model.specs.Conditions.{IsFitReceiver}
use Rattle.lane_model.proofs.SoundLanes.{returned_sound, receiver_changed}
use Rattle.lane_model.proofs.AtOnce.{free_is}
use Rattle.lane_model.proofs.list_lanes.ListLane.return_at_once.Goals as goal

pub invariant_of-self : goal.invariant_of-self
invariant_of-self g c =
    let old = state_of c.self.inside in
    let has : IsTrue (holds old.lane.held c.args.number c.args.caller) = rw (← c.self.view_is) at c.requires.held in
    let free : holder old.receiver ≡ None = rw (← c.self.view_is) at c.requires.may in
    let after = with_returned old.lane c.args.number c.args.caller in
    let fit : IsFitReceiver old.receiver after = subst (λ (now : Turn Receiving). IsFitReceiver now after) (sym (free_is old.receiver free)) tt in
    let returned = returned_sound old c.args.caller c.args.number (call_end.Gave c.args.number) c.self.invariant.sound has in
    record {
      sound = rw c.remove_holding.ensures.rest
          (receiver_changed (record old { lane = after; receiver = turn.Leaving c.args.caller (call_end.Gave c.args.number) }) old.receiver old.desk returned fit);
      capacity = c.self.invariant.capacity;
      outgoing = c.self.invariant.outgoing;
      takers_room = c.self.invariant.takers_room;
      held_room = omega (arith, c.remove_holding.ensures.room, c.self.invariant.held_room);
    }
