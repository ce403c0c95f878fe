-- A whole call of a caller that the manager carries, by the caller's number: what its run told at the manager's seat is told of the manager.
use Rattle.std.proofs.Common.{◌≡◌, ◌≢◌, ℕ, [], refl, sym, ◌∙◌, subst}
use Rattle.std.specs.Prelude.{Some}
use base.Stored.{Coded}
use Rattle.rp_base.specs.declared.kinds.End.{End}
use Rattle.lane_model.specs.declared.calls.Answer.{Answer}
use Rattle.lane_model.specs.declared.calls.Wish.{Wish}
use Rattle.lane_model.specs.declared.lane_links.LaneLink.{LaneLink}
use Rattle.lane_model.specs.Desks.{DeskMeaning}
use Rattle.lane_model.specs.HeldBuffers.{HeldBuffer}
use Rattle.lane_model.specs.Links.{end_of}
use Rattle.ring_core.specs.declared.states.RingState.{RingState}
use Rattle.link_words.specs.declared.rule.Call.TheVariants.{Rests}
use Rattle.split_ring.specs.declared.callers.CallerId.{CallerId}
use Rattle.split_ring.specs.declared.callers.Manager.{Manager}
use Rattle.split_ring.specs.CallPhases.{Phase}
use Rattle.split_ring.specs.CallPhases as phase
use Rattle.split_ring.specs.declared.links.SharedLink.{SharedLink}
use Rattle.split_ring.specs.Callers.{IsManagerOf, IsStateOf}
use Rattle.split_ring.specs.Carried.{CarriesIdle, Keeps, carried_seat}
use Rattle.split_ring.specs.Focus.{IsOrderlySeat, LeavesOthers, seat_of}
use Rattle.split_ring.specs.ManagerCalls.{CallsState}
use Rattle.split_ring.specs.Receives.{IsHeldBy}
use Rattle.split_ring.specs.Runs.{RunsCall}
use Rattle.split_ring.specs.Seats.{IsAt}
use Rattle.split_ring.proofs.CarriedLinks.{caller_id, carried_call, carried_is}
use Rattle.split_ring.proofs.Runs.{calls_state, carrier_behind, idle_behind, others_behind}

-- a buffer that is in the hands of the caller of a number that the manager carries
module _ (before : Manager) (n inc : ℕ) (who : CallerId) (is : (who.number ≡ n) × (end_of before.users n ≡ Some who.end) × (who.follows ≡ inc)) where
  pub carried_held : (held : HeldBuffer) (e : End) → end_of before.users n ≡ Some e → IsHeldBy (caller_id n e inc) held (carried_seat (caller_id n e inc) phase.Ended before) → IsHeldBy who held (seat_of who.number before.seat.me)
  carried_held held e user h = subst (λ (w : CallerId). IsHeldBy w held (seat_of w.number before.seat.me)) (sym (carried_is before n inc who is e user)) (record { lane = h.lane; caller = h.caller; numbered = h.numbered })

-- it carries that caller in no call
pub carried_idle : {D : Type 0} (link : SharedLink D) (before : Manager) (n inc : ℕ) (who : CallerId) → (who.number ≡ n) × (end_of before.users n ≡ Some who.end) × (who.follows ≡ inc) → (e : End) → CarriesIdle link before (caller_id n e inc) → CarriesIdle link before who
carried_idle link before n inc who is = carried_call before n inc who is link phase.Ended

-- and a whole call of it left the manager's seat so
pub record HasCalled {D : Type 0} (link : SharedLink D) (before after : Manager) (who : CallerId) : Type 0 where
  pub carrier : IsManagerOf link before
  pub carries : CarriesIdle link before who
  pub leaves : LeavesOthers who.number before.seat.me after.seat.me
  pub seat : IsOrderlySeat link.table.shared.table_id link.sizes after.seat.table_id after.seat.me
  pub rests : IsAt (seat_of who.number after.seat.me) (Rests who.end) []
  pub out : after.out ≡ before.out
  pub users : after.users ≡ before.users

module _ {D : Type 0} (link : SharedLink D) (before after : Manager) (who : CallerId) (h : HasCalled link before after who) where
  pub called_manager : IsManagerOf link after
  called_manager = carrier_behind link who before h.carrier h.carries after.seat.me h.leaves h.seat.order h.rests after refl h.out h.users h.seat.at_table

  called_idle : CarriesIdle link after who
  called_idle = idle_behind link who before h.carrier h.carries after.seat.me h.leaves h.seat.order h.rests after refl h.out h.users

  pub called_others : (n : ℕ) (other : CallerId) (p : Phase) → who.number ≡ n → other.number ≢ n → Keeps link before after other p
  called_others n other p is apart = others_behind link who before h.carrier h.carries after.seat.me h.leaves h.seat.order h.rests after refl h.out h.users other p (λ same. apart (same ∙ is))

  -- by the number of the caller
  module _ (n inc : ℕ) (is : (who.number ≡ n) × (end_of before.users n ≡ Some who.end) × (who.follows ≡ inc)) (end : End) (user : end_of before.users n ≡ Some end) where
    pub called_caller : CarriesIdle link after (caller_id n end inc)
    called_caller = subst (CarriesIdle link after) (carried_is before n inc who is end user) called_idle

    pub called_state : (coded : Coded D) (meaning : DeskMeaning D) (m : LaneLink (RingState D)) (w : Wish) (behind : ℕ) (said : Answer) → IsStateOf coded before m → RunsCall coded meaning who m w behind said after.seat.me → CallsState coded meaning m (caller_id n end inc) w behind said after
    called_state coded meaning m w behind said known run = subst (λ (c : CallerId). CallsState coded meaning m c w behind said after) (carried_is before n inc who is end user) (calls_state coded meaning who m w behind said before after known h.users run)
