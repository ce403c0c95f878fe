-- What the manager's turns do to the state of a link that it knows, and what it finds with them (own).
use Rattle.std.specs.Prelude.{◌≡◌, ℕ, map, Option}
use Rattle.std.specs.Option.{option_or}
use Rattle.rp_base.specs.declared.kinds.End.{End}
use Rattle.rp_base.specs.declared.kinds.End.TheVariants as side
use Rattle.lane_model.specs.declared.lane_links.LaneLink.{LaneLink}
use Rattle.lane_model.specs.declared.recoveries.LaneTurn.TheVariants as lane_turn
use Rattle.lane_model.specs.declared.stages.Turn.TheVariants as turn
use Rattle.lane_model.specs.Crashes.{turn_out}
use Rattle.lane_model.specs.Desks.{DeskMeaning}
use Rattle.ring_core.specs.declared.states.RingState.{RingState}
use Rattle.ring_core.specs.RingSteps.{holding_of}
use Rattle.link_words.specs.declared.rule.ReceiverSide.{ReceiverSide}
use Rattle.link_words.specs.declared.rule.SenderSide.{SenderSide}
use Rattle.link_words.specs.Deeds.{ManagerTakes, ManagerLeaves, after_deed}
use Rattle.link_words.specs.Words.{sender_side}

module _ {D : Type 0} (meaning : DeskMeaning D) where
  -- the manager takes both turns of a lane, the sender's first, or leaves them, the sender's last
  abbrev pub lane_taken : LaneLink (RingState D) → End → LaneLink (RingState D)
  lane_taken m lane = after_deed meaning (after_deed meaning m (ManagerTakes lane_turn.Sender lane)) (ManagerTakes lane_turn.Receiver lane)

  abbrev pub lane_left : LaneLink (RingState D) → End → LaneLink (RingState D)
  lane_left m lane = after_deed meaning (after_deed meaning m (ManagerLeaves lane_turn.Receiver lane)) (ManagerLeaves lane_turn.Sender lane)

  -- those of both lanes
  abbrev pub all_taken : LaneLink (RingState D) → LaneLink (RingState D)
  all_taken m = lane_taken (lane_taken m side.Host) side.Remote

  abbrev pub all_left : LaneLink (RingState D) → LaneLink (RingState D)
  all_left m = lane_left (lane_left m side.Remote) side.Host

-- who has the first turn of a link that is out: of the lane to the host, the sender's first, then of the other
abbrev pub turns_out : {D : Type 0} → LaneLink (RingState D) → Option ℕ
turns_out m = option_or (turn_out m.to_host.lane) (turn_out m.to_remote.lane)

-- both turns of a lane are free, and these are the side states that go with them
pub record AreSidesOf {D : Type 0} (s : RingState D) (x : SenderSide) (y : ReceiverSide) : Type 0 where
  pub sender_free : s.lane.sender ≡ turn.Free
  pub receiver_free : s.lane.receiver ≡ turn.Free
  pub sender : x ≡ sender_side s
  pub takers : y.takers ≡ s.lane.lane.takers
  pub held : map holding_of y.hands ≡ s.lane.lane.held
