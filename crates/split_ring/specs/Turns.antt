-- A call that has taken its turn, and one whose end is settled (own).
use Rattle.std.specs.Prelude.{◌≤◌, ℕ, List, [], ◌∷◌}
use Rattle.rp_base.specs.declared.kinds.End.{End}
use Rattle.rp_base.specs.declared.limits.TheConstants.{BOOK_MOST}
use Rattle.lane_model.specs.declared.calls.CallEnd.{CallEnd}
use Rattle.lane_model.specs.declared.calls.Wish.{Wish}
use Rattle.lane_model.specs.declared.calls.Wish.TheVariants as wish
use Rattle.lane_model.specs.declared.recoveries.LaneTurn.{LaneTurn}
use Rattle.lane_model.specs.declared.recoveries.LaneTurn.TheVariants as lane_turn
use Rattle.lane_model.specs.declared.stages.SendStage.TheVariants as stage
use Rattle.lane_model.specs.declared.stages.Turn.TheVariants as turn
use Rattle.lane_model.specs.declared.stages.Work.{Work}
use Rattle.link_words.specs.declared.rule.Call.{Call}
use Rattle.link_words.specs.declared.rule.Call.TheVariants.{Sends, Receives}
use Rattle.link_words.specs.declared.rule.ReceiverSide.{ReceiverSide}
use Rattle.link_words.specs.declared.rule.SenderSide.{SenderSide}
use Rattle.link_words.specs.declared.rule.Slot.{Slot}
use Rattle.link_words.specs.declared.rule.Slot.TheVariants.{Sender, Receiver}
use Rattle.link_words.specs.Calls.{SeatState}
use Rattle.link_words.specs.Steps.{first_work}
use Rattle.link_words.specs.Words.{other, sender_slot, receiver_slot}
use Rattle.split_ring.specs.Seats.{IsAt}
use Rattle.split_ring.specs.declared.callers.CallerId.{CallerId}

-- the call of a caller that has the receiver's turn for this work, with this side state, buffer and message
abbrev pub receive_call : CallerId → Work → ReceiverSide → ℕ → List ℕ → Call
receive_call who work x buffer message = Receives who.end (turn.Taken who.number (record { follows = who.follows; work = work })) x buffer message

-- its side state is out
abbrev pub receive_slots : CallerId → ReceiverSide → List (ℕ × Slot)
receive_slots who x = (receiver_slot who.end, Receiver x) ∷ []

-- a send has the sender's turn, and a side state is out
abbrev pub HasSender : CallerId → List ℕ → SeatState → Type 0
HasSender who message me = (x : SenderSide) × (x.accepted ≤ BOOK_MOST)
    × IsAt me (Sends (other who.end) (turn.Taken who.number (record { follows = who.follows; message = message; stage = stage.Turn })) x 0) ((sender_slot (other who.end), Sender x) ∷ [])

-- a call has the receiver's turn for this work, and a side state is out
abbrev pub HasReceiver : CallerId → Work → SeatState → Type 0
HasReceiver who work me = (x : ReceiverSide) × (x.handed ≤ BOOK_MOST) × (x.returned ≤ BOOK_MOST) × IsAt me (receive_call who work x 0 []) (receive_slots who x)

-- a caller has the turn that it needs for what it wishes
abbrev pub HasBegun : CallerId → Wish → SeatState → Type 0
HasBegun who (wish.Send message) me = HasSender who message me
HasBegun who wish.Take me = HasReceiver who (first_work wish.Take) me
HasBegun who (wish.Give number) me = HasReceiver who (first_work (wish.Give number)) me
HasBegun who (wish.Bind address) me = HasReceiver who (first_work (wish.Bind address)) me
HasBegun who (wish.Unbind address) me = HasReceiver who (first_work (wish.Unbind address)) me

-- the end of a call with this turn of this lane is settled, which is this one, and its side state is out
abbrev pub IsLeaving : LaneTurn → End → CallEnd → SeatState → Type 0
IsLeaving lane_turn.Sender lane ended me = (caller : ℕ) × (x : SenderSide) × (buffer : ℕ)
    × IsAt me (Sends lane (turn.Leaving caller ended) x buffer) ((sender_slot lane, Sender x) ∷ [])
IsLeaving lane_turn.Receiver lane ended me = (caller : ℕ) × (x : ReceiverSide) × (buffer : ℕ) × (message : List ℕ)
    × IsAt me (Receives lane (turn.Leaving caller ended) x buffer message) ((receiver_slot lane, Receiver x) ∷ [])

-- the same, whatever the end is
abbrev pub MayLeave : LaneTurn → End → SeatState → Type 0
MayLeave t lane me = (ended : CallEnd) × IsLeaving t lane ended me

-- the end of who has this turn of this lane
abbrev pub end_with : LaneTurn → End → End
end_with lane_turn.Sender lane = other lane
end_with lane_turn.Receiver lane = lane
