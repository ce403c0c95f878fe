-- What the part on turns reads of a link: who has each turn, what goes with the turn, and the buffers that are out (own).
use Rattle.link_words.specs.declared.codes.DeskTables.{DeskTables}
use Rattle.link_words.specs.PlacedDesks.{PlacedDesk}
use base.Stored.{Coded}
use Rattle.std.specs.Prelude.{◌≡◌, ℕ, Bool, true, false, List, length, Option}
use Rattle.rp_base.specs.declared.kinds.End.{End}
use Rattle.rp_base.specs.declared.kinds.End.TheVariants as side
use Rattle.rp_base.specs.declared.kinds.Era.{Era}
use Rattle.lane_model.specs.declared.lane_links.LaneLink.{LaneLink}
use Rattle.lane_model.specs.declared.states.Holding.{Holding}
use Rattle.lane_model.specs.declared.stages.Turn.{Turn}
use Rattle.lane_model.specs.declared.stages.Turn.TheVariants as turn
use Rattle.lane_model.specs.declared.stages.Sending.{Sending}
use Rattle.lane_model.specs.declared.stages.Receiving.{Receiving}
use Rattle.lane_model.specs.Lanes.{message_at}
use Rattle.ring_core.specs.declared.states.RingState.{RingState}
use Rattle.link_words.specs.declared.rule.SenderSide.{SenderSide}
use Rattle.link_words.specs.declared.rule.ReceiverSide.{ReceiverSide}
use Rattle.link_words.specs.Words.{lane_to, sender_side, receiver_side}

-- the turn is the manager's
abbrev pub is_manager : {C : Type 0} → Turn C → Bool
is_manager turn.Free = false
is_manager (turn.Taken caller call) = false
is_manager (turn.Leaving caller end) = false
is_manager turn.Manager = true

-- of one lane: its two turns, the side state that goes with each, the buffer that a send and that a take has out, who holds what,
-- and the message that is handed over next
pub record LaneTurns : Type 0 where
  pub sender : Turn Sending
  pub receiver : Turn Receiving
  pub sender_side : SenderSide
  pub receiver_side : ReceiverSide
  pub sending : ℕ
  pub taking : ℕ
  pub held : List Holding
  pub next : List ℕ

abbrev pub turns_of : {B : Type 0} {kc : Coded B} {kz : DeskTables} → RingState (PlacedDesk kc kz) → LaneTurns
turns_of s = record {
  sender = s.lane.sender;
  receiver = s.lane.receiver;
  sender_side = sender_side s;
  receiver_side = receiver_side s;
  sending = s.rings.sending;
  taking = s.rings.taking;
  held = s.lane.lane.held;
  next = message_at s.lane.lane.accepted (length s.lane.lane.takers);
}

-- of a link: its era, the end of each caller in use, and the turns of the lane to each end
pub record LinkTurns : Type 0 where
  pub era : Era
  pub callers : List (Option End)
  pub lanes : End → LaneTurns

abbrev pub turns_in : {B : Type 0} {kc : Coded B} {kz : DeskTables} → LaneLink (RingState (PlacedDesk kc kz)) → LinkTurns
turns_in m = record { era = m.era; callers = m.callers; lanes = λ e. turns_of (lane_to m e) }

-- the four turns are the manager's
pub record HasFourTurns (sender : End → Turn Sending) (receiver : End → Turn Receiving) : Type 0 where
  pub host_sender : sender side.Host ≡ turn.Manager
  pub host_receiver : receiver side.Host ≡ turn.Manager
  pub remote_sender : sender side.Remote ≡ turn.Manager
  pub remote_receiver : receiver side.Remote ≡ turn.Manager
