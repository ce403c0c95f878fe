-- The words of a link as the manager finds them, one load after the other, while it has the four turns (own).
use Rattle.std.specs.Prelude.{◌≡◌, ◌<◌, ◌*◌, ◌%◌, ℕ, Bool, true, false, not, length, slice_index, slice_index_or}
use Rattle.rp_base.specs.declared.limits.TheConstants.{MESSAGE_MOST}
use base.Stored.{Coded}
use Rattle.rp_base.specs.declared.kinds.End.{End}
use Rattle.rp_base.specs.declared.kinds.End.TheVariants as side
use Rattle.rp_base.specs.Limits.{IsRingSize, ring_capacity}
use Rattle.lane_model.specs.declared.lane_links.LaneLink.{LaneLink}
use Rattle.lane_model.specs.Desks.{DeskMeaning}
use Rattle.ring_core.specs.declared.states.RingState.{RingState}
use Rattle.ring_core.specs.Rings.{entry_of}
use Rattle.ring_core.specs.RingWords.{device_sends, entry_in, index_of}
use Rattle.vring_layout.specs.declared.snapshots.Snapshot.{Snapshot}
use Rattle.vring_layout.specs.declared.snapshots.SnapshotFault.{SnapshotFault}
use Rattle.vring_layout.specs.declared.snapshots.SnapshotFault.TheVariants as snapshot_fault
use Rattle.vring_layout.specs.declared.words.RingWords.{RingWords}
use Rattle.vring_layout.specs.declared.words.UsedWord.{UsedWord}
use Rattle.link_words.specs.declared.rule.ReceiverSide.{ReceiverSide}
use Rattle.link_words.specs.declared.rule.Ring.{Ring}
use Rattle.link_words.specs.declared.rule.Ring.TheVariants as ring
use Rattle.link_words.specs.declared.rule.SenderSide.{SenderSide}
use Rattle.link_words.specs.declared.rule.View.{View}
use Rattle.link_words.specs.Calls.{SeatState}
use Rattle.link_words.specs.Deeds.{Nothing}
use Rattle.link_words.specs.Looks.{FitsWords}
use Rattle.link_words.specs.PlacedDesks.{PlacedDesk}
use Rattle.link_words.specs.Reopens.{ManagerDoes}
use Rattle.link_words.specs.Words.{forward_word, lane_to, return_word, sizes_at}
use Rattle.split_ring.specs.Gathers.{IsHolderIn}
use Rattle.split_ring.specs.Reopens.{HasAll}

-- the return ring or the forward ring, and the word of its index
abbrev pub ring_if : Bool → Ring
ring_if true = ring.Return
ring_if false = ring.Forward

abbrev pub index_word : End → Bool → ℕ
index_word lane true = return_word lane
index_word lane false = forward_word lane

-- the index of a ring of a lane, and an entry
abbrev pub HasIndex : {D : Type 0} → End → Bool → ℕ → LaneLink (RingState D) → Type 0
HasIndex lane returns index m = index ≡ index_of (lane_to m lane).rings returns

abbrev pub HasEntry : {D : Type 0} → End → Bool → ℕ → UsedWord → LaneLink (RingState D) → Type 0
HasEntry lane returns place entry m = entry ≡ entry_in (lane_to m lane).rings returns place

-- the number of a buffer in an entry of 16 bits
abbrev pub HasNumber : {D : Type 0} → End → Bool → ℕ → ℕ → LaneLink (RingState D) → Type 0
HasNumber lane returns place number m = number ≡ (entry_in (lane_to m lane).rings returns place).id % 65536

module _ {D : Type 0} (coded : Coded D) (meaning : DeskMeaning D) where
  -- a load of the manager, which changes nothing, found this of the link: of a sound state, in which the manager was in its call and which fits the words
  -- of its table. Where the manager knows the state of the link, it is that one
  abbrev pub FindsIn : (me : SeatState) → (LaneLink (RingState (PlacedDesk coded me.0.sizes.desks)) → Type 0) → Type 0
  FindsIn me Holds = ManagerDoes coded meaning me (λ before after. FitsWords me.0.sizes before × Holds before) Nothing me

  -- these words of a lane whose buffers begin at this address were found so, each by a load
  pub record IsLaneFound (me : SeatState) (lane : End) (address : ℕ) (words : RingWords) : Type 0 where
    pub num : words.num ≡ (sizes_at me.0.sizes lane).entries
    pub capacity : words.capacity ≡ (sizes_at me.0.sizes lane).capacity
    pub sized : IsRingSize words.num × (words.capacity ≡ ring_capacity words.num)
    pub base : words.base ≡ address
    pub device_writes : words.device_writes ≡ device_sends (sizes_at me.0.sizes lane)
    pub avail_idx : FindsIn me (HasIndex lane words.device_writes words.avail_idx)
    pub used_idx : FindsIn me (HasIndex lane (not words.device_writes) words.used_idx)
    pub long : (length words.avail ≡ words.num) × (length words.used ≡ words.num)
    pub avail : (k : ℕ) → k < words.num → FindsIn me (HasNumber lane words.device_writes k (slice_index words.avail k))
    pub used : (k : ℕ) → k < words.num → FindsIn me (HasEntry lane (not words.device_writes) k (slice_index_or words.used k (entry_of 0)))

  -- and so were the era and both lanes, by a manager of this view that had the four turns
  pub record IsFound (v : View) (snapshot : Snapshot) : Type 0 where
    pub me : SeatState
    pub host_sender : SenderSide
    pub host_receiver : ReceiverSide
    pub remote_sender : SenderSide
    pub remote_receiver : ReceiverSide
    pub all : HasAll v host_sender host_receiver remote_sender remote_receiver me
    pub era : FindsIn me (λ m. m.era ≡ snapshot.era)
    pub to_host : IsLaneFound me side.Host 0 snapshot.to_host
    pub to_remote : IsLaneFound me side.Remote (MESSAGE_MOST * v.sizes.to_host.capacity) snapshot.to_remote

-- a turn that is another's is that of a caller in use, or the manager's by the seat of a caller in use
abbrev pub IsRefusedIn : View → SnapshotFault → Type 0
IsRefusedIn v (snapshot_fault.StillTurn holder) = IsHolderIn v holder
IsRefusedIn v snapshot_fault.NoMemory = Unit {0}
