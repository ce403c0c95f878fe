use Rattle.std.proofs.Common.{rules, arith, length, sym, subst, ◌<◌, ◌≡◌}
use Rattle.std.proofs.lemmas.Bool.{eqb-false}
use Rattle.lane_model.specs.declared.calls.CallEnd.TheVariants as call_end
use Rattle.lane_model.specs.declared.stages.Turn.{Turn}
use Rattle.lane_model.specs.declared.stages.Turn.TheVariants as turn
use Rattle.lane_model.specs.declared.stages.Receiving.{Receiving}
use Rattle.lane_model.specs.Receives.{with_handed}
use Rattle.lane_model.specs.Conditions.{IsFitReceiver}
use Rattle.lane_model.specs.ListLanes.{state_of}
use Rattle.lane_model.specs.AtOnce.{TakesAtOnce}
use Rattle.lane_model.proofs.SoundLanes.{handed_sound, receiver_changed}
use Rattle.lane_model.proofs.AtOnce.{free_is}
use Rattle.lane_model.proofs.list_lanes.ListLane.hand_at_once.Goals as goal

pub invariant_of-self : goal.invariant_of-self
invariant_of-self g c =
    let old = state_of c.self.inside in
    let may : TakesAtOnce old = rw (← c.self.view_is) at c.requires.may in
    let apart = eqb-false _ _ may.some in
    let waits : length old.lane.takers < length old.lane.accepted = omega (arith, apart, c.self.invariant.sound.handed) in
    let number : c.len-number.result ≡ length old.lane.takers = search rules in
    let fit : IsFitReceiver old.receiver (with_handed old.lane c.args.caller) = subst (λ (now : Turn Receiving). IsFitReceiver now (with_handed old.lane c.args.caller)) (sym (free_is old.receiver may.free)) tt in
    let handed = handed_sound old c.args.caller c.deliver.new.self (call_end.Gave 0) c.self.invariant.sound waits in
    record {
      sound = rw (c.push_reserved.ensures.items, c.push_reserved-2.ensures.items, number)
          (receiver_changed (record old { lane = with_handed old.lane c.args.caller; receiver = turn.Leaving c.args.caller (call_end.Gave 0); desk = c.deliver.new.self }) old.receiver c.deliver.new.self handed fit);
      capacity = c.self.invariant.capacity;
      outgoing = c.self.invariant.outgoing;
      takers_room = omega (arith, c.push_reserved.ensures.capacity, c.self.invariant.takers_room);
      held_room = omega (arith, c.push_reserved-2.ensures.capacity, c.self.invariant.held_room);
    }
