-- A call of a caller by its steps, by the state that its seat knows. `run_begins` and `run_on` bring it on, one step at a time; `whole_sender` and `whole_receiver` put its first step
-- and its leave to these, and `whole_refused` is of a call whose turn was another's. `idle_seat` to `calls_state` are of the manager that carries its caller: no slot is turned for a
-- whole call, since none is out with the caller before it and behind it.
use Rattle.std.proofs.Common.{◌≡◌, ◌≢◌, ◌+◌, ◌-◌, ℕ, zero, suc, List, [], ◌∷◌, refl, sym, ap, ◌∙◌, arith}
use Rattle.std.specs.Prelude.{Some, None, slice_index, slice_set}
use base.Stored.{Coded}
use Rattle.lane_model.specs.declared.calls.Answer.{Answer}
use Rattle.lane_model.specs.declared.calls.Ask.{Ask}
use Rattle.lane_model.specs.declared.calls.Ask.TheVariants as ask
use Rattle.lane_model.specs.declared.calls.CallEnd.{CallEnd}
use Rattle.lane_model.specs.declared.calls.Outcome.TheVariants as outcome
use Rattle.lane_model.specs.declared.calls.Progress.TheVariants as progress
use Rattle.lane_model.specs.declared.calls.Wish.{Wish}
use Rattle.lane_model.specs.declared.lane_links.LaneLink.{LaneLink}
use Rattle.lane_model.specs.Answers.{busy_answer, wish_of}
use Rattle.lane_model.specs.AtOnce.{FormEndsIn}
use Rattle.lane_model.specs.Desks.{DeskMeaning}
use Rattle.lane_model.specs.Links.{form_step}
use Rattle.ring_core.specs.declared.states.RingState.{RingState}
use Rattle.ring_core.specs.RingSteps.{ring_form}
use Rattle.link_words.specs.declared.rule.Call.TheVariants.{Rests}
use Rattle.link_words.specs.declared.rule.LinkSizes.{LinkSizes}
use Rattle.link_words.specs.Calls.{SeatState}
use Rattle.link_words.specs.Deeds.{Deed, Steps, after_deed}
use Rattle.link_words.specs.Orderly.{IsOrderly}
use Rattle.link_words.specs.PlacedLinks.{KnowsState}
use Rattle.split_ring.specs.declared.callers.CallerId.{CallerId}
use Rattle.split_ring.specs.declared.callers.Manager.{Manager}
use Rattle.split_ring.specs.CallPhases.{Phase}
use Rattle.split_ring.specs.CallPhases as phase
use Rattle.split_ring.specs.declared.links.SharedLink.{SharedLink}
use Rattle.split_ring.specs.Callers.{IsManagerOf, IsStateOf}
use Rattle.split_ring.specs.Calls.{IsInPhase, call_end}
use Rattle.split_ring.specs.Carried.{CarriesIdle, Keeps, carried_seat, out_before, turned_by, turned_to}
use Rattle.split_ring.specs.Focus.{IsOrderlySeat, LeavesOthers, StepsAlone, behind, count_of, front, seat_of}
use Rattle.split_ring.specs.Handed.{LeavesLanes, Settles, StepsLanes}
use Rattle.split_ring.specs.ManagerCalls.{CallsState}
use Rattle.split_ring.specs.Phases.{IsEndOf, IsUnderWay, IsUnsettled, KeepsBuffer, holder_for, side_of, slots_in, steps_in}
use Rattle.split_ring.specs.Runs.{GoesOnTo, HasRun, RunsCall}
use Rattle.split_ring.specs.Seats.{IsAt, IsCaller}
use Rattle.split_ring.specs.Turns.{HasBegun}
use Rattle.split_ring.proofs.CarriedEnds.{turned_home}
use Rattle.split_ring.proofs.CarriedLinks.{HasGone, carrier_after, moved, others_after, out_after, seat_after, seat_turned, steps_kept, turned_again}
use Rattle.split_ring.proofs.CarriedSteps.{count_there}
use Rattle.split_ring.proofs.Carrying.{phase_at, side_low}
use Rattle.split_ring.proofs.Outcomes.{first_begun, first_refused, later_said, receive_left, rests_user, send_left}
use Rattle.split_ring.proofs.StepLanes.{ChangesNothing, begun_lanes, first_lanes, leaves_then, receiver_left, sender_left, settles_from, settles_still, settles_then}
use Rattle.split_ring.proofs.Turning.{before_grows}

-- a call in a phase in which it has done steps goes on, and its end is not settled
goes_on_in : (p : Phase) → steps_in p ≢ 0 → IsUnderWay p × IsUnsettled p × ((s : Answer) → IsEndOf p s → ⊥)
goes_on_in (phase.Asked asked) on = absurd (on refl)
goes_on_in (phase.LeavesSender said) on = absurd (on refl)
goes_on_in (phase.LeavesReceiver said) on = absurd (on refl)
goes_on_in phase.Ended on = absurd (on refl)
goes_on_in p on = (tt, tt, λ s none. none)

-- and keeps the buffer that it gives back
keeps_in : (p : Phase) → steps_in p ≢ 0 → KeepsBuffer p p
keeps_in (phase.Asked asked) on = absurd (on refl)
keeps_in (phase.LeavesSender said) on = absurd (on refl)
keeps_in (phase.LeavesReceiver said) on = absurd (on refl)
keeps_in phase.Ended on = absurd (on refl)
keeps_in p on = refl

-- a call that was refused its turn changes nothing
busy_still : (h : ℕ) (asked : Ask) → ChangesNothing (call_end (busy_answer h (Some asked)))
busy_still h (ask.Give held) = tt
busy_still h asked = tt

module _ {D : Type 0} where
  -- the lanes of a call that goes on are as they were
  lanes_in : (who : CallerId) (p : Phase) (a b : LaneLink (RingState D)) → IsUnsettled p → StepsLanes who p a b → LeavesLanes a b
  lanes_in who (phase.LeavesSender said) a b unsettled s = absurd unsettled
  lanes_in who (phase.LeavesReceiver said) a b unsettled s = absurd unsettled
  lanes_in who p a b unsettled s = s

  lanes_behind : (who : CallerId) (p : Phase) (a b c : LaneLink (RingState D)) → LeavesLanes a b → StepsLanes who p b c → StepsLanes who p a c
  lanes_behind who (phase.LeavesSender said) a b c left s = settles_from a b c who said left s
  lanes_behind who (phase.LeavesReceiver said) a b c left s = settles_from a b c who said left s
  lanes_behind who p a b c left s = leaves_then a b c left s

  module _ (meaning : DeskMeaning D) (n : ℕ) where
    -- one step more
    goes_further : (k number : ℕ) (m left : LaneLink (RingState D)) → GoesOnTo k meaning m n left → outcome.At number ≡ (form_step (ring_form meaning) meaning left n 0 None).outcome → GoesOnTo (suc k) meaning m n (form_step (ring_form meaning) meaning left n 0 None).state
    unfolding GoesOnTo
    goes_further zero number m left same said = (
      number,
      ap (λ (x : LaneLink (RingState D)). (form_step (ring_form meaning) meaning x n 0 None).outcome) (sym same) ∙ sym said,
      ap (λ (x : LaneLink (RingState D)). (form_step (ring_form meaning) meaning x n 0 None).state) same,
    )
    goes_further (suc k) number m left g said = (g.0, g.1, goes_further k number (form_step (ring_form meaning) meaning m n 0 None).state left g.2 said)

    goes_nowhere : (m : LaneLink (RingState D)) → GoesOnTo 0 meaning m n m
    unfolding GoesOnTo
    goes_nowhere m = refl

    -- and the last one
    goes_home : (k : ℕ) (m left : LaneLink (RingState D)) (end : CallEnd) → GoesOnTo k meaning m n left → outcome.Ended end ≡ (form_step (ring_form meaning) meaning left n 0 None).outcome
        → FormEndsIn k (ring_form meaning) meaning m n 0 None (form_step (ring_form meaning) meaning left n 0 None).state end
    unfolding GoesOnTo FormEndsIn
    goes_home zero m left end same said = (
      ap (λ (x : LaneLink (RingState D)). (form_step (ring_form meaning) meaning x n 0 None).outcome) (sym same) ∙ sym said,
      ap (λ (x : LaneLink (RingState D)). (form_step (ring_form meaning) meaning x n 0 None).state) (sym same),
    )
    goes_home (suc k) m left end g said = (g.0, g.1, goes_home k (form_step (ring_form meaning) meaning m n 0 None).state left end g.2 said)

    whole_ends : (k f : ℕ) (w : Wish) (m left : LaneLink (RingState D)) (end : CallEnd) → outcome.At 1 ≡ (form_step (ring_form meaning) meaning m n f (Some w)).outcome
        → FormEndsIn k (ring_form meaning) meaning (form_step (ring_form meaning) meaning m n f (Some w)).state n 0 None left end → FormEndsIn (suc k) (ring_form meaning) meaning m n f (Some w) left end
    unfolding FormEndsIn
    whole_ends k f w m left end said rest = (1, sym said, rest)

    at_once : (f : ℕ) (w : Wish) (m : LaneLink (RingState D)) (end : CallEnd) → outcome.Ended end ≡ (form_step (ring_form meaning) meaning m n f (Some w)).outcome → FormEndsIn 0 (ring_form meaning) meaning m n f (Some w) (form_step (ring_form meaning) meaning m n f (Some w)).state end
    unfolding FormEndsIn
    at_once f w m end said = (sym said, refl)

module _ {D : Type 0} (coded : Coded D) (meaning : DeskMeaning D) (z : LinkSizes) (who : CallerId) where
  -- the deed of each step behind the first one
  abbrev pub Later : Deed
  Later = Steps who.number 0 None

  -- a call that has its turn has done no step behind the first one
  pub run_begins : (p : Phase) (m : LaneLink (RingState D)) (a : SeatState) → steps_in p ≢ 0 → IsInPhase z who p (seat_of who.number a) → KnowsState coded a.0 m → HasRun coded meaning who z 0 p m a
  run_begins p m a on at known =
      record { stands = at; left = m; goes = goes_nowhere meaning who.number m; lanes = begun_lanes m m who p (goes_on_in p on).1 (record { to_host = refl; to_remote = refl }); known = known; users = refl }

  -- one step more: where the call stands behind it, and what it does to the lanes
  pub run_on : (k : ℕ) (p p' : Phase) (m : LaneLink (RingState D)) (a b : SeatState) → steps_in p ≢ 0 → HasRun coded meaning who z k p m a → StepsAlone coded meaning who.number Later a b → IsInPhase z who p' (seat_of who.number b)
      → ((left : LaneLink (RingState D)) → KnowsState coded a.0 left → StepsLanes who p' left (after_deed meaning left Later)) → HasRun coded meaning who z (suc k) p' m b
  run_on k p p' m a b on run alone at lanes = let goes = goes_on_in p on in record {
    stands = at;
    left = after_deed meaning run.left Later;
    goes = goes_further meaning who.number k (steps_in p + 1) m run.left run.goes
        (later_said coded meaning who.number 0 a run.left (alone.calls run.left run.known).0 (alone.sound run.left run.known) z who p (progress.At (steps_in p + 1)) p run.stands (refl, refl, goes.0, goes.1, keeps_in p on) (on, goes.2));
    lanes = lanes_behind who p' m run.left (after_deed meaning run.left Later) (lanes_in who p m run.left goes.1 run.lanes) (lanes run.left run.known);
    known = alone.knows run.left run.known;
    users = steps_kept meaning run.left who.number 0 None ∙ run.users;
  }

  module _ (m : LaneLink (RingState D)) (w : Wish) (a b : SeatState) (first : StepsAlone coded meaning who.number (Steps who.number who.follows (Some w)) a b) (known : KnowsState coded a.0 m) (rests : IsAt (seat_of who.number a) (Rests who.end) []) where
    -- the state behind the first step
    abbrev pub Begun : LaneLink (RingState D)
    Begun = after_deed meaning m (Steps who.number who.follows (Some w))

    -- the call that has its turn ends with the leave
    whole_by : (k : ℕ) (said : Answer) (c d : SeatState) (left : LaneLink (RingState D)) → HasBegun who w (seat_of who.number b) → GoesOnTo k meaning Begun who.number left → Settles who said Begun left → KnowsState coded c.0 left → left.callers ≡ Begun.callers
        → StepsAlone coded meaning who.number Later c d → outcome.Ended (call_end said) ≡ (form_step (ring_form meaning) meaning left who.number 0 None).outcome → LeavesLanes left (after_deed meaning left Later) → RunsCall coded meaning who m w (suc k) said d
    whole_by k said c d left begun goes settles knows users last ended lanes = record {
      left = after_deed meaning left Later;
      ends = whole_ends meaning who.number k who.follows w m (after_deed meaning left Later) (call_end said) (first_begun coded meaning who a b m rests (first.calls m known).0 w begun (first.calls m known).1)
          (goes_home meaning who.number k Begun left (call_end said) goes ended);
      settles = settles_from m Begun (after_deed meaning left Later) who said (first_lanes coded meaning m who.number who.follows w) (settles_then Begun left (after_deed meaning left Later) who said settles lanes);
      known = last.knows left knows;
      users = steps_kept meaning left who.number 0 None ∙ (users ∙ steps_kept meaning m who.number who.follows (Some w));
    }

    pub whole_sender : (k : ℕ) (said : Answer) (c d : SeatState) → HasBegun who w (seat_of who.number b) → HasRun coded meaning who z k (phase.LeavesSender said) Begun c → StepsAlone coded meaning who.number Later c d → RunsCall coded meaning who m w (suc k) said d
    whole_sender k said c d begun run last = whole_by k said c d run.left begun run.goes run.lanes run.known run.users last
        (send_left coded meaning who.number 0 c run.left (last.calls run.left run.known).0 (last.sound run.left run.known) z who said run.stands) (sender_left coded meaning z who c d run.left last run.known said run.stands)

    pub whole_receiver : (k : ℕ) (said : Answer) (c d : SeatState) → HasBegun who w (seat_of who.number b) → HasRun coded meaning who z k (phase.LeavesReceiver said) Begun c → StepsAlone coded meaning who.number Later c d → RunsCall coded meaning who m w (suc k) said d
    whole_receiver k said c d begun run last = whole_by k said c d run.left begun run.goes run.lanes run.known run.users last
        (receive_left coded meaning who.number 0 c run.left (last.calls run.left run.known).0 (last.sound run.left run.known) z who said run.stands) (receiver_left coded meaning z who c d run.left last run.known said run.stands)

  -- a call that was refused its turn has ended with its first step
  pub whole_refused : (m : LaneLink (RingState D)) (asked : Ask) (h : ℕ) (a b : SeatState) → StepsAlone coded meaning who.number (Steps who.number who.follows (Some (wish_of asked))) a b → KnowsState coded a.0 m → IsAt (seat_of who.number a) (Rests who.end) []
      → holder_for who.end (wish_of asked) m ≡ Some h → RunsCall coded meaning who m (wish_of asked) 0 (busy_answer h (Some asked)) b
  whole_refused m asked h a b first known rests met = let w = wish_of asked in let said = busy_answer h (Some asked) in let left = after_deed meaning m (Steps who.number who.follows (Some w)) in record {
    left = left;
    ends = at_once meaning who.number who.follows w m (call_end said) (first_refused coded meaning m who.end who.number who.follows asked h (rests_user coded meaning who.number who.end a m rests (first.calls m known).0) met);
    settles = settles_still m left who said (busy_still h asked) (first_lanes coded meaning m who.number who.follows w);
    known = first.knows m known;
    users = steps_kept meaning m who.number who.follows (Some w);
  }

-- the count of a side state, set to what it is
set_same : (i : ℕ) (cs : List ℕ) → slice_set cs i (slice_index cs i) ≡ cs
set_same i [] = refl
set_same zero (c ∷ cs) = refl
set_same (suc i) (c ∷ cs) = ap (λ (l : List ℕ). c ∷ l) (set_same i cs)

-- a caller that a manager carries, and which is in no call: nothing is out with it, and the slots of the others may stand as they are
module _ {D : Type 0} (link : SharedLink D) (who : CallerId) (before : Manager) (carrier : IsManagerOf link before) (carries : CarriesIdle link before who) where
  none_was : count_of who.number before.seat.me ≡ 0
  none_was = count_there who.number (seat_turned who phase.Ended before) who phase.Ended (phase_at link.sizes who phase.Ended (carried_seat who phase.Ended before) carries.stands)

  pub idle_seat : IsOrderlySeat link.table.shared.table_id link.sizes before.seat.table_id before.seat.me
  idle_seat = record { at_table = carrier.at_table; told = carrier.told; order = carrier.order }

  pub idle_caller : IsCaller link.table.shared.table_id link.sizes who before.seat.table_id (seat_of who.number before.seat.me)
  idle_caller = record {
    seat = record { at_table = carrier.at_table; told = carrier.told };
    rests = record { one = carries.stands.one; in_call = carries.stands.in_call; out = ap (λ (k : ℕ). front k before.seat.me.1) none_was };
    number = carries.number;
    low = carries.low;
  }

  -- and behind a whole call
  module _ (b : SeatState) (leaves : LeavesOthers who.number before.seat.me b) (order : IsOrderly b.0) (rests : IsAt (seat_of who.number b) (Rests who.end) []) where
    none_now : count_of who.number b ≡ 0
    none_now = count_there who.number b who phase.Ended (phase_at link.sizes who phase.Ended (seat_of who.number b) rests)

    slots_still : b.1 ≡ before.seat.me.1
    slots_still = ap (λ (k : ℕ). behind k b.1) (sym none_now) ∙ (leaves.others ∙ ap (λ (k : ℕ). behind k before.seat.me.1) none_was)

    abbrev Behind : SeatState
    Behind = (b.0, (seat_turned who phase.Ended before).1)

    gone : HasGone link who phase.Ended phase.Ended before Behind
    gone = record {
      carrier = carrier;
      carries = carries;
      leaves = record { change = leaves.change; view = leaves.view; here = leaves.here; others = ap (λ (k : ℕ). behind k (seat_turned who phase.Ended before).1) (none_now ∙ sym none_was) };
      order = order;
      next = record { one = rests.one; in_call = rests.in_call; out = ap (λ (k : ℕ). front k (seat_turned who phase.Ended before).1) none_now };
      same = λ more. absurd (more refl);
    }

    out_still : before.out ≡ out_after link who phase.Ended phase.Ended before Behind gone
    out_still = let at = side_of who.end phase.Ended in let same : slice_index before.out at + slots_in phase.Ended - slots_in phase.Ended ≡ slice_index before.out at = omega arith in
        sym (ap (slice_set before.out at) same ∙ set_same at before.out)

    seat_still : b ≡ seat_after link who phase.Ended phase.Ended before Behind gone
    seat_still =
        let at = side_of who.end phase.Ended in let xs = before.seat.me.1 in let base = out_before at before.out in let out = out_after link who phase.Ended phase.Ended before Behind gone in let rest = out_before 4 out - base in
        let grows = before_grows at 4 before.out (let low = side_low who.end phase.Ended in omega (arith, low)) in let all = carrier.blocks.all in let same = ap (out_before 4) out_still in
        let home : turned_by rest (turned_to at before.out xs) ≡ xs = turned_home base rest xs (omega (arith, grows, all)) (omega (arith, grows, all, same)) in
        (λ i. (b.0, (slots_still ∙ sym home) i)) ∙ turned_again link who phase.Ended phase.Ended before Behind gone rest (b.0, turned_by rest (turned_to at before.out xs)) refl refl

    -- the manager behind it
    module _ (after : Manager) (seat : after.seat.me ≡ b) (out : after.out ≡ before.out) (users : after.users ≡ before.users) where
      pub carrier_behind : after.seat.table_id ≡ link.table.shared.table_id → IsManagerOf link after
      carrier_behind table = carrier_after link who phase.Ended phase.Ended before Behind gone after (seat ∙ seat_still) (out ∙ out_still) users table

      pub idle_behind : CarriesIdle link after who
      idle_behind = moved link who phase.Ended phase.Ended before Behind gone after (seat ∙ seat_still) (out ∙ out_still) users

      pub others_behind : (other : CallerId) (p : Phase) → other.number ≢ who.number → Keeps link before after other p
      others_behind = others_after link who phase.Ended phase.Ended before Behind gone after (seat ∙ seat_still) (out ∙ out_still) users

-- what a whole call told of the state that its seat knows, it tells of the manager's
pub calls_state : {D : Type 0} (coded : Coded D) (meaning : DeskMeaning D) (who : CallerId) (m : LaneLink (RingState D)) (w : Wish) (behind : ℕ) (said : Answer) (before after : Manager) → IsStateOf coded before m → after.users ≡ before.users
    → RunsCall coded meaning who m w behind said after.seat.me → CallsState coded meaning m who w behind said after
calls_state coded meaning who m w behind said before after is users run = record {
  left = run.left;
  ends = run.ends;
  settles = run.settles;
  state = record { known = run.known; users = users ∙ (is.users ∙ sym run.users) };
}
