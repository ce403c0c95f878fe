-- The words and the slots of a link, as functions of the state of the ring form (own; what an index and an entry say is that of a split
-- virtqueue, VIRTIO 1.2 sections 2.7.6 and 2.7.8).
use Rattle.std.specs.Prelude.{ℕ, zero, suc, ◌+◌, ◌*◌, ◌%◌, ◌≤◌, if◌then◌else◌, List, [], ◌∷◌, ◌++◌, map, length}
use mathlib.Core.Option.{Option, some, none}
use Rattle.rp_base.specs.declared.limits.TheConstants.{RING_MOST}
use Rattle.rp_base.specs.declared.kinds.Era.{Era}
use Rattle.rp_base.specs.declared.kinds.End.{End}
use Rattle.rp_base.specs.declared.kinds.End.TheVariants as side
use Rattle.vring_layout.specs.declared.words.UsedWord.{UsedWord}
use Rattle.lane_model.specs.declared.lane_links.LaneLink.{LaneLink}
use Rattle.lane_model.specs.declared.stages.Turn.{Turn}
use Rattle.lane_model.specs.declared.stages.Turn.TheVariants as turn
use Rattle.lane_model.specs.declared.stages.Sending.{Sending}
use Rattle.ring_core.specs.declared.states.RingSizes.{RingSizes}
use Rattle.ring_core.specs.declared.states.RingState.{RingState}
use Rattle.link_words.specs.declared.rule.LinkSizes.{LinkSizes}
use Rattle.link_words.specs.declared.rule.Ring.{Ring}
use Rattle.link_words.specs.declared.rule.Ring.TheVariants as ring
use Rattle.link_words.specs.declared.rule.Slot.{Slot}
use Rattle.link_words.specs.declared.rule.Slot.TheVariants.{Sender, Receiver}
use Rattle.link_words.specs.declared.rule.SenderSide.{SenderSide}
use Rattle.link_words.specs.declared.rule.ReceiverSide.{ReceiverSide}
use Rattle.link_words.specs.declared.codes.DeskTables.{DeskTables}
use Rattle.link_words.specs.PlacedDesks.{PlacedDesk, right_to}
use base.Stored.{Coded}

-- the other end
abbrev pub other : End → End
other side.Host = side.Remote
other side.Remote = side.Host

-- the lane that leads to an end
abbrev pub lane_to : {L : Type 0} → LaneLink L → End → L
lane_to m side.Host = m.to_host
lane_to m side.Remote = m.to_remote

-- the link with another lane to this end
abbrev pub with_lane : {L : Type 0} → LaneLink L → End → L → LaneLink L
with_lane m side.Host s = record m { to_host = s }
with_lane m side.Remote s = record m { to_remote = s }

-- a turn: 0 where it is free, else its holder's number and 1
abbrev pub turn_word : {C : Type 0} → Turn C → ℕ
turn_word turn.Free = 0
turn_word (turn.Taken caller call) = suc caller
turn_word (turn.Leaving caller end) = suc caller
turn_word turn.Manager = 65

-- an era: twice its incarnation, and 1 more where it is live
abbrev pub era_word : Era → ℕ
era_word era = era.inc * 2 + (if era.is_live then 1 else 0)

-- an entry: the buffer's number in the low half, the length in the high one
abbrev pub entry_word : UsedWord → ℕ
entry_word entry = entry.id + entry.len * 4294967296

-- what a lane shows in the words
pub record LaneWords : Type 0 where
  pub sender : ℕ
  pub receiver : ℕ
  pub forward_index : ℕ
  pub return_index : ℕ
  pub forward : List UsedWord
  pub returns : List UsedWord

-- those of a lane of the ring form
abbrev pub lane_words : {D : Type 0} → RingState D → LaneWords
lane_words s = record {
  sender = turn_word s.lane.sender;
  receiver = turn_word s.lane.receiver;
  forward_index = s.rings.forward_index;
  return_index = s.rings.return_index;
  forward = s.rings.forward;
  returns = s.rings.returns;
}

-- the entries of a lane, and then more
abbrev pub entry_words_before : LaneWords → List ℕ → List ℕ
entry_words_before a more = map entry_word a.forward ++ (map entry_word a.returns ++ more)

-- what a reopening resets
abbrev pub reset_block : LaneWords → LaneWords → List ℕ
reset_block a b = a.forward_index ∷ a.return_index ∷ b.forward_index ∷ b.return_index ∷ entry_words_before a (entry_words_before b [])

-- words that a reopening has reset up to the p-th
abbrev pub reset_first : ℕ → List ℕ → List ℕ → List ℕ
reset_first zero fresh old = old
reset_first (suc p) [] old = old
reset_first (suc p) (f ∷ fs) [] = []
reset_first (suc p) (f ∷ fs) (o ∷ os) = f ∷ reset_first p fs os

-- all words: the idle one, the era, the turns, and what a reopening resets, of which it has reset so many
abbrev pub words_from : ℕ → List ℕ → ℕ → LaneWords → LaneWords → List ℕ
words_from p fresh era a b = 0 ∷ era ∷ a.sender ∷ a.receiver ∷ b.sender ∷ b.receiver ∷ reset_first p fresh (reset_block a b)

-- this lane and the other one, where nothing is reset
abbrev pub words_at : End → ℕ → LaneWords → LaneWords → List ℕ
words_at side.Host era a b = words_from 0 [] era a b
words_at side.Remote era a b = words_from 0 [] era b a

-- a side state is at home where its turn is free
abbrev pub home_if : {C : Type 0} → Turn C → Slot → Option Slot
home_if turn.Free x = some x
home_if (turn.Taken caller call) x = none
home_if (turn.Leaving caller end) x = none
home_if turn.Manager x = none

-- what of a lane is at home
pub record LaneHomes : Type 0 where
  pub sender : Option Slot
  pub receiver : Option Slot
  pub shelf : List (Option Slot)

-- all slots: the four side states, in the order of the turns, then the buffers
abbrev pub homes_from : LaneHomes → LaneHomes → List (Option Slot)
homes_from a b = a.sender ∷ a.receiver ∷ b.sender ∷ b.receiver ∷ (a.shelf ++ b.shelf)

-- this lane and the other one
abbrev pub homes_at : End → LaneHomes → LaneHomes → List (Option Slot)
homes_at side.Host a b = homes_from a b
homes_at side.Remote a b = homes_from b a

-- the slots of the buffers
pub record Shelves : Type 0 where
  pub host : List (Option Slot)
  pub remote : List (Option Slot)

-- of the lane to an end
abbrev pub shelf_to : Shelves → End → List (Option Slot)
shelf_to sh side.Host = sh.host
shelf_to sh side.Remote = sh.remote

-- with other slots of the lane to this end
abbrev pub with_shelf : Shelves → End → List (Option Slot) → Shelves
with_shelf sh side.Host l = record sh { host = l }
with_shelf sh side.Remote l = record sh { remote = l }

module _ {D : Type 0} where
  -- what goes with the sender's turn of a lane
  abbrev pub sender_side : RingState D → SenderSide
  sender_side s = record { accepted = length s.lane.lane.accepted; entries = s.lane.lane.accepted; room = s.lane.lane.book }

  -- the words of a link, of which a reopening has reset so many
  abbrev pub words_of : ℕ → List ℕ → LaneLink (RingState D) → List ℕ
  words_of p fresh m = words_from p fresh (era_word m.era) (lane_words m.to_host) (lane_words m.to_remote)

module _ {B : Type 0} {kc : Coded B} {kz : DeskTables} where
  -- what goes with the receiver's turn of a lane
  abbrev pub receiver_side : RingState (PlacedDesk kc kz) → ReceiverSide
  receiver_side s = record { handed = length s.lane.lane.takers; takers = s.lane.lane.takers; room = s.lane.lane.book; returned = s.lane.lane.returned; hands = s.rings.hands; desk = right_to s.lane.desk }

  -- the slots of a lane that are at home
  abbrev pub lane_homes : RingState (PlacedDesk kc kz) → List (Option Slot) → LaneHomes
  lane_homes s shelf = record {
    sender = home_if s.lane.sender (Sender (sender_side s));
    receiver = home_if s.lane.receiver (Receiver (receiver_side s));
    shelf = shelf;
  }

  -- the slots of a link
  abbrev pub homes_of : LaneLink (RingState (PlacedDesk kc kz)) → Shelves → List (Option Slot)
  homes_of m sh = homes_from (lane_homes m.to_host sh.host) (lane_homes m.to_remote sh.remote)

-- the sizes of the lane to an end
abbrev pub sizes_at : LinkSizes → End → RingSizes
sizes_at z side.Host = z.to_host
sizes_at z side.Remote = z.to_remote

-- where the words and slots of a lane are
abbrev pub sender_word : End → ℕ
sender_word side.Host = 2
sender_word side.Remote = 4

abbrev pub forward_word : End → ℕ
forward_word side.Host = 6
forward_word side.Remote = 8

abbrev pub return_word : End → ℕ
return_word side.Host = 7
return_word side.Remote = 9

abbrev pub receiver_word : End → ℕ
receiver_word side.Host = 3
receiver_word side.Remote = 5

-- how many entries are before those of a lane
abbrev pub entries_before : LinkSizes → End → ℕ
entries_before z side.Host = 0
entries_before z side.Remote = z.to_host.entries + z.to_host.entries

-- how many entries of a lane are before those of one of its rings
abbrev pub ring_before : RingSizes → Ring → ℕ
ring_before sizes ring.Forward = 0
ring_before sizes ring.Return = sizes.entries

-- the word of the entry of this count in a ring of a lane
abbrev pub entry_number : LinkSizes → End → Ring → ℕ → ℕ
entry_number z lane ring count = 10 + (entries_before z lane + (ring_before (sizes_at z lane) ring + count % (sizes_at z lane).entries))

abbrev pub sender_slot : End → ℕ
sender_slot side.Host = 0
sender_slot side.Remote = 2

abbrev pub receiver_slot : End → ℕ
receiver_slot side.Host = 1
receiver_slot side.Remote = 3

-- the slot of a buffer, where so many buffers lead to the host
abbrev pub buffer_slot : ℕ → End → ℕ → ℕ
buffer_slot first side.Host id = suc (suc (suc (suc id)))
buffer_slot first side.Remote id = suc (suc (suc (suc (first + id))))

-- the lane, with the sender's turn written out
abbrev pub with_turn : {D : Type 0} → RingState D → Turn Sending → RingState D
with_turn s t = record s { lane = record s.lane { sender = t } }

-- how many words the table of a link has at least, with the idle ones
abbrev pub words_in : LinkSizes → ℕ
words_in z = 160 + 16 * (z.to_host.entries + z.to_remote.entries)

-- the rings have entries, at most as many as a ring may have
pub record IsSized (z : LinkSizes) : Type 0 where
  pub to_host : (1 ≤ z.to_host.entries) × (z.to_host.entries ≤ RING_MOST)
  pub to_remote : (1 ≤ z.to_remote.entries) × (z.to_remote.entries ≤ RING_MOST)
