-- What the manager's calls answer and leave of a link whose state it knows (own).
use Rattle.std.specs.Prelude.{◌≡◌, ◌⊎◌, ◌*◌, ℕ, Option, Result, Vec, Ok, Err, Some, None}
use Rattle.rp_base.specs.declared.limits.TheConstants.{MESSAGE_MOST}
use base.Stored.{Coded}
use Rattle.std.specs.declared.alloc.Global.{Global}
use Rattle.lane_model.specs.declared.calls.Answer.{Answer}
use Rattle.lane_model.specs.declared.calls.Wish.{Wish}
use Rattle.lane_model.specs.declared.lane_links.LaneLink.{LaneLink}
use Rattle.lane_model.specs.declared.recoveries.Books.{Books}
use Rattle.lane_model.specs.declared.recoveries.ReclaimByFault.{ReclaimByFault}
use Rattle.lane_model.specs.declared.recoveries.ReclaimRefusal.{ReclaimRefusal}
use Rattle.lane_model.specs.declared.recoveries.ReopenFault.{ReopenFault}
use Rattle.lane_model.specs.declared.recoveries.ReopenFault.TheVariants as fault
use Rattle.lane_model.specs.AtOnce.{FormEndsIn}
use Rattle.lane_model.specs.Desks.{DeskMeaning}
use Rattle.lane_model.specs.HeldBuffers.{HeldBuffer}
use Rattle.lane_model.specs.Links.{link_of}
use Rattle.lane_model.specs.Recoveries.{handed_back, link_after_reclaim, link_after_reopen, link_reopen_refusal, link_reclaim_refusal}
use Rattle.ring_core.specs.declared.states.RingState.{RingState}
use Rattle.ring_core.specs.RingSteps.{ring_form}
use Rattle.ring_core.specs.RingWords.{words_of}
use Rattle.vring_layout.specs.declared.snapshots.Snapshot.{Snapshot}
use Rattle.vring_layout.specs.declared.snapshots.SnapshotFault.{SnapshotFault}
use Rattle.vring_layout.specs.declared.snapshots.SnapshotFault.TheVariants as snapshot_fault
use Rattle.link_words.specs.Histories.{books_of}
use Rattle.link_words.specs.Words.{lane_to}
use Rattle.split_ring.specs.declared.callers.Manager.{Manager}
use Rattle.split_ring.specs.declared.calls.RingCall.{RingCall}
use Rattle.split_ring.specs.declared.callers.CallerId.{CallerId}
use Rattle.split_ring.specs.Callers.{IsStateOf}
use Rattle.split_ring.specs.Calls.{call_end}
use Rattle.split_ring.specs.Handed.{Settles}
use Rattle.split_ring.specs.Reopens.{AreTold}
use Rattle.split_ring.specs.States.{turns_out}

-- a reopening of a link in this state has this answer, and leaves its manager so: the books are those of the incarnation that was closed, and the state
-- that after a reopening; a refusal that isn't out of memory is the one that the state gives, and leaves it
abbrev pub ReopensState : {D : Type 0} → Coded D → DeskMeaning D → LaneLink (RingState D) → Result Books ReopenFault → Manager → Type 0
ReopensState coded meaning m (Ok books) after = (link_reopen_refusal (link_of (ring_form meaning) m) ≡ None) × (books.inc ≡ m.era.inc) × AreTold books (λ e. books_of (lane_to m e))
    × IsStateOf coded after (link_after_reopen (ring_form meaning) m)
ReopensState coded meaning m (Err why) after = ((why ≡ fault.NoMemory) ⊎ (link_reopen_refusal (link_of (ring_form meaning) m) ≡ Some why)) × IsStateOf coded after m

-- the end of this caller has this answer, and leaves the manager so: nothing refuses it, and the state is that after a reclaim; or it is refused for what the state gives,
-- and leaves it
abbrev pub EndsState : {D : Type 0} → Coded D → DeskMeaning D → LaneLink (RingState D) → ℕ → Result (Unit {0}) ReclaimRefusal → Manager → Type 0
EndsState coded meaning m caller (Ok done) after = (link_reclaim_refusal (link_of (ring_form meaning) m) caller ≡ None) × IsStateOf coded after (link_after_reclaim (ring_form meaning) m caller)
EndsState coded meaning m caller (Err why) after = (link_reclaim_refusal (link_of (ring_form meaning) m) caller ≡ Some why) × IsStateOf coded after m

-- a reclaim of this caller, with its call and its buffers, has this answer, and leaves the manager so: as its end does, and a refusal hands back call and buffers
abbrev pub ReclaimsState : {D : Type 0} → Coded D → DeskMeaning D → LaneLink (RingState D) → ℕ → Option (RingCall D) → Vec HeldBuffer Global → Result (Unit {0}) (ReclaimByFault (RingCall D)) → Manager → Type 0
ReclaimsState coded meaning m caller call held (Ok done) after = EndsState coded meaning m caller (Ok done) after
ReclaimsState coded meaning m caller call held (Err fault) after = (why : ReclaimRefusal) × EndsState coded meaning m caller (Err why) after × (fault ≡ handed_back call held why)

-- a whole call of this caller, which wishes this, ends with this answer and so many steps after its first, and leaves the manager so: the state is that after these steps,
-- and the lanes are those after the one that settled the answer
pub record CallsState {D : Type 0} (coded : Coded D) (meaning : DeskMeaning D) (m : LaneLink (RingState D)) (who : CallerId) (wished : Wish) (behind : ℕ) (said : Answer) (after : Manager) : Type 0 where
  pub left : LaneLink (RingState D)
  pub ends : FormEndsIn behind (ring_form meaning) meaning m who.number who.follows (Some wished) left (call_end said)
  pub settles : Settles who said m left
  pub state : IsStateOf coded after left

-- the era and the words of a link in this state, with its buffers from address 0 on, 512 bytes each, those of the lane to the host first
abbrev pub snapshot_of : {D : Type 0} → LaneLink (RingState D) → Snapshot
snapshot_of m = record { era = m.era; to_host = words_of m.to_host.rings 0; to_remote = words_of m.to_remote.rings (MESSAGE_MOST * m.to_host.rings.sizes.capacity) }

-- a snapshot of a link in this state has this answer
abbrev pub ShowsState : {D : Type 0} → LaneLink (RingState D) → Result Snapshot SnapshotFault → Type 0
ShowsState m (Ok snapshot) = (turns_out m ≡ None) × (snapshot ≡ snapshot_of m)
ShowsState m (Err (snapshot_fault.StillTurn holder)) = turns_out m ≡ Some holder
ShowsState m (Err snapshot_fault.NoMemory) = turns_out m ≡ None
