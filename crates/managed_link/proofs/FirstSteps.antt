-- The first step of a call of a managed link: the caller has the turn that it needs, or another has it, and the call ends.
use Rattle.std.proofs.Common.{◌≡◌, ℕ, map, set, true, [], Option, Some, None, refl, sym, ap, subst, ◌∙◌}
use Rattle.std.specs.Prelude.{IfSome, MatchOption, Vec, get_or, vec_capacity}
use Rattle.std.specs.declared.alloc.Global.{Global}
use Rattle.std.proofs.lemmas.List.{get_or-set_same}
use Rattle.rp_base.specs.declared.kinds.End.{End}
use Rattle.lane_model.specs.declared.calls.Answer.{Answer}
use Rattle.lane_model.specs.declared.calls.Ask.{Ask}
use Rattle.lane_model.specs.declared.calls.Progress.TheVariants as progress
use Rattle.lane_model.specs.declared.calls.Step.{Step}
use Rattle.lane_model.specs.declared.calls.Step.TheVariants as step
use Rattle.lane_model.specs.declared.calls.Wish.{Wish}
use Rattle.lane_model.specs.Answers.{given_back}
use Rattle.lane_model.specs.HeldBuffers.{HeldBuffer}
use Rattle.lane_model.specs.Lanes.{holds}
use Rattle.lane_model.specs.Links.{form_step}
use Rattle.channel_bus.specs.Sides.{side_meaning}
use Rattle.link_words.specs.Words.{other}
use Rattle.split_ring.specs.declared.callers.CallerId.{CallerId}
use Rattle.split_ring.specs.declared.callers.Manager.{Manager}
use Rattle.split_ring.specs.CallPhases as phase
use Rattle.split_ring.specs.Calls.{call_end}
use Rattle.split_ring.specs.Carried.{Carries, MayAdvanceBy, carried_seat}
use Rattle.split_ring.specs.Phases.{IsUnderWay, answer_in, phase_behind, progress_of}
use Rattle.split_ring.proofs.CarriedMakes.{begins_carried}
use Rattle.split_ring.proofs.CarriedStates.{known_of}
use Rattle.managed_link.specs.declared.call_slots.CarriedCall.{CarriedCall}
use Rattle.managed_link.specs.declared.hands.Hand.{Hand}
use Rattle.managed_link.specs.declared.links.ManagedLink.TheInside.{Inside}
use Rattle.managed_link.specs.declared.views.LaneView.{LaneView}
use Rattle.managed_link.specs.EndCodes.{end_coded}
use Rattle.managed_link.specs.Hands.{IsPutIn, IsTakenOut, holding_of}
use Rattle.managed_link.specs.Known.{LinkRings, on_rings}
use Rattle.managed_link.specs.Managed.{IsManaged, ShowsViews, call_of}
use Rattle.managed_link.specs.Settles.{CanGive}
use Rattle.split_ring.specs.Stages.{answer_buffer}
use Rattle.managed_link.specs.Steps.{HasStepped, IsAsking, incoming_begun, of_end, outgoing_begun}
use Rattle.managed_link.proofs.Advances.{first_stepped, first_wished}
use Rattle.managed_link.proofs.CallSlots.{slot_freed}
use Rattle.managed_link.proofs.CallSteps.{Advances, CallStep, HasTaken, MayTake, call_advanced, ends_managed, ends_over, ends_says, goes_managed, goes_on, goes_out, goes_says, hands_before, others_same, others_set, slot_within, slots_kept, step_shows, steps_call, turn_before, view_before}
use Rattle.managed_link.proofs.CallersTurns.{incoming_first, outgoing_first, same_receiver}
use Rattle.managed_link.proofs.StepGives.{begun_hands, can_give, own_ask, refused_hands, refused_held}
use Rattle.managed_link.proofs.StepHands.{out_with}
use Rattle.managed_link.proofs.StepManaged.{may_begin}
use Rattle.managed_link.proofs.StepTurns.{IsFirstStep, first_turns, lanes_at}
use Rattle.managed_link.proofs.WholeSteps.{idle_at, resting, rests_out}

-- a call of a caller in its slot: what it gives back, the slot, and the hands of both ends behind that
pub record FirstCall : Type 0 where
  pub link : Inside
  pub who : CallerId
  pub wished : Wish
  pub place : ℕ
  pub given : Option HeldBuffer
  pub put : Option CarriedCall
  pub host : Vec Hand Global
  pub remote : Vec Hand Global

-- the hands of the caller's end before its call, and with what was taken out
abbrev pub own_hands : FirstCall → Vec Hand Global
own_hands k = of_end k.who.end k.link.host k.link.remote

abbrev pub asked_hands : FirstCall → Vec Hand Global
asked_hands k = of_end k.who.end k.host k.remote

-- the state behind its first step
abbrev pub first_left : FirstCall → LinkRings
first_left k = (form_step on_rings side_meaning k.link.known.0 k.who.number k.who.follows (Some k.wished)).state

-- the call has begun, and what it gives back is out of the hands
pub record HasAsked (k : FirstCall) : Type 0 where
  pub begins : MayTake k.link k.who.number k.who.end (Some k.wished)
  pub at : k.place ≡ k.who.number
  pub asking : IsAsking k.who.follows k.wished k.given k.put
  pub taken : MatchOption k.given ((asked_hands k).items ≡ (own_hands k).items) (λ held. IsTakenOut held.number k.who.number (Some held) (own_hands k).items (asked_hands k).items)
  pub beside : of_end (other k.who.end) k.host k.remote ≡ of_end (other k.who.end) k.link.host k.link.remote
  pub room : vec_capacity (asked_hands k) ≡ vec_capacity (own_hands k)

-- the step that was taken of it, and the slot behind it
abbrev pub first_step : FirstCall → Ask → Manager → Step → Option CarriedCall → CallStep
first_step k asked after done left = record {
  link = k.link;
  who = k.who;
  place = k.place;
  calls = set k.link.calls.items k.place k.put;
  before = phase.Asked asked;
  follows = k.who.follows;
  wished = Some k.wished;
  after = after;
  done = done;
  slot = left;
}

pub record HasTakenStep (k : FirstCall) (after : Manager) (done : Step) (left : Option CarriedCall) : Type 0 where
  pub asked : HasAsked k
  pub taken : HasTaken (first_step k asked.asking.asked after done left)

module _ {s : Inside} {n : ℕ} {end : End} {wished : Wish} (b : MayTake s n end (Some wished)) where
  first_rests : call_of s.calls.items n ≡ None
  first_rests = resting s n wished b.was b.may end b.user

  first_out : out_with s.calls.items n ≡ []
  first_out = rests_out s n wished b.was b.may end b.user

  pub first_gives : CanGive (of_end end s.host s.remote).items n wished
  first_gives = can_give s.known.0 end s.calls.items (of_end end s.host s.remote) n wished (hands_before b end) first_out (may_begin s.known.0 n end wished b.user b.may).1

module _ {k : FirstCall} (a : HasAsked k) where
  abbrev pub Began : CarriedCall
  Began = record { follows = k.who.follows; call = a.asking.call }

  asked_out : MatchOption (given_back a.asking.asked) ((asked_hands k).items ≡ (own_hands k).items) (λ held. IsTakenOut held.number k.who.number (Some held) (own_hands k).items (asked_hands k).items)
  asked_out = subst (λ given. MatchOption given ((asked_hands k).items ≡ (own_hands k).items) (λ held. IsTakenOut held.number k.who.number (Some held) (own_hands k).items (asked_hands k).items)) (sym a.asking.gives) a.taken

  -- the manager carries the call, which has not ended
  pub first_ready : MayAdvanceBy k.link.shared k.link.manager k.who a.asking.call
  first_ready = let b = a.begins in let idle = idle_at k.link k.who.number k.wished b.was b.may k.who.end b.user k.who.follows in subst (λ p. Carries k.link.shared k.link.manager k.who p × IsUnderWay p) (sym a.asking.asks) (
    begins_carried k.link.shared k.link.manager k.who a.asking.asked idle
        (own_ask k.who k.link.known.0 k.link.calls.items (own_hands k) (asked_hands k) a.asking.asked (carried_seat k.who phase.Ended k.link.manager) (hands_before a.begins k.who.end)
        (known_of end_coded k.link.shared k.link.manager k.link.known.0 k.who phase.Ended a.begins.was.0.manages a.begins.was.0.state idle).2 asked_out),
    tt,
  )

  -- it is there, where its slot is read
  pub first_put : (read : Option CarriedCall) → read ≡ get_or (set k.link.calls.items k.place k.put) k.place read → read ≡ Some Began
  first_put read is = is ∙ (get_or-set_same k.link.calls.items k.place k.put read (slot_within a.begins k.link.calls.items a.at refl) ∙ a.asking.here)

  -- and the step that was taken of what was read there is one of it
  pub first_takes_step : (read : Option CarriedCall) {after : Manager} {done : Step} {left : Option CarriedCall} → read ≡ get_or (set k.link.calls.items k.place k.put) k.place read → Advances k.link k.who.number read after done left → HasTakenStep k after done left
  first_takes_step read {after} {done} {left} is takes = let b = call_advanced a.begins Began (first_put read is) takes in record {
    asked = a;
    taken = record {
      may = a.begins;
      at = a.at;
      others = others_set k.put a.at others_same;
      call = b.call;
      here = b.here;
      stepped = first_stepped k.link.shared k.link.manager after k.who a.asking.call.phase (progress_of done b.call.phase) (phase_behind done b.call.phase) k.link.known.0 a.asking.asked k.wished a.asking.asks a.asking.same b.stepped;
      told = b.told ∙ ap (λ (o : Option Wish). (form_step on_rings side_meaning k.link.known.0 k.who.number k.who.follows o).outcome) (first_wished a.asking.call.phase a.asking.asked k.wished a.asking.asks a.asking.same);
    };
  }

module _ {k : FirstCall} {after : Manager} {done : Step} {left : Option CarriedCall} (t : HasTakenStep k after done left) where
  abbrev s : Inside
  s = k.link

  abbrev m : LinkRings
  m = k.link.known.0

  abbrev e : End
  e = k.who.end

  abbrev asked : Ask
  asked = t.asked.asking.asked

  abbrev b : MayTake k.link k.who.number k.who.end (Some k.wished)
  b = t.asked.begins

  abbrev g : HasTaken (first_step k t.asked.asking.asked after done left)
  g = t.taken

  first : IsFirstStep k.who.number k.wished (form_step on_rings side_meaning m k.who.number k.who.follows (Some k.wished)).outcome (lanes_at m k.who.end) (lanes_at (first_left k) k.who.end)
  first = first_turns m e k.who.number k.who.follows k.wished b.user

  -- the call is begun
  module _ (number : ℕ) (goes : done ≡ step.At number) where
    pub begun_managed : IsManaged k.link.shared after (set (set k.link.calls.items k.place k.put) k.place left) k.host k.remote (first_left k)
    begun_managed = let on = goes_on g number goes in goes_managed g number goes k.host k.remote (first.calls number (goes_says g number goes))
        (begun_hands k.who m (first_left k) s.calls.items (set (set s.calls.items k.place k.put) k.place left) (steps_call g (slots_kept g)) (own_hands k) (asked_hands k) (hands_before b e) (first_out b)
        asked g.call.phase (asked_out t.asked) (goes_out g number goes) on.lanes first.incoming_lane on.next.4 t.asked.room) t.asked.beside

    pub begun_shows : (to_host' to_remote' : LaneView) → of_end k.who.end to_host' to_remote' ≡ incoming_begun k.wished k.who.number (of_end k.who.end k.link.to_host k.link.to_remote)
        → of_end (other k.who.end) to_host' to_remote' ≡ outgoing_begun k.wished k.who.number (of_end (other k.who.end) k.link.to_host k.link.to_remote) → ShowsViews k.link.era to_host' to_remote' (first_left k)
    begun_shows to_host' to_remote' incoming outgoing = let inwards = of_end e s.to_host s.to_remote in let outwards = of_end (other e) s.to_host s.to_remote in
        step_shows g to_host' to_remote'
        (incoming ∙ (ap (incoming_begun k.wished k.who.number) (view_before b e) ∙ sym (first.incoming number (goes_says g number goes))))
        (outgoing ∙ (ap (outgoing_begun k.wished k.who.number) (view_before b (other e)) ∙ sym (first.outgoing number (goes_says g number goes))))
        (same_receiver (incoming_begun k.wished k.who.number inwards) (of_end e to_host' to_remote') (ap (λ (v : LaneView). v.receiver) incoming) (incoming_first k.wished k.who.number inwards b.low (turn_before b e)))
        (same_receiver outwards (of_end (other e) to_host' to_remote') (ap (λ (v : LaneView). v.receiver) outgoing ∙ outgoing_first k.wished k.who.number outwards) (turn_before b (other e)))

  -- the call ends: another has the turn
  module _ (answer : Answer) (ends : done ≡ step.Ended) (settled : answer_in t.taken.call.phase ≡ Some answer) where
    over : HasStepped s.shared s.manager after k.who (phase.Asked asked) (progress.Done answer) phase.Ended m (first_left k)
    over = ends_over g answer ends settled

    pub refused_place : IfSome (answer_buffer answer) (λ held. holds (map holding_of (asked_hands k).items) held.number held.caller ≡ true)
    refused_place = refused_held k.who m (first_left k) s.calls.items (steps_call g others_same) (own_hands k) (asked_hands k) (asked_hands k) (hands_before b e) (first_out b) asked answer over.next.1.0 over.next.1.1 (asked_out t.asked)

    pub refused_managed : (rest : Option CarriedCall) (host' remote' : Vec Hand Global) → rest ≡ None
        → MatchOption (answer_buffer answer) ((of_end k.who.end host' remote').items ≡ (asked_hands k).items) (λ held. IsPutIn held (asked_hands k).items (of_end k.who.end host' remote').items)
        → vec_capacity (of_end k.who.end host' remote') ≡ vec_capacity (asked_hands k) → of_end (other k.who.end) host' remote' ≡ of_end (other k.who.end) k.host k.remote
        → IsManaged k.link.shared after (set (set (set k.link.calls.items k.place k.put) k.place left) k.place rest) host' remote' (first_left k)
    refused_managed rest host' remote' free back room beside = subst (λ l. IsManaged s.shared after l host' remote' (first_left k))
        (sym ((λ i. set (set (set s.calls.items (g.at i) k.put) (g.at i) left) (g.at i) (free i)) ∙ slot_freed s.calls.items k.who.number k.put left (first_rests b)))
        (ends_managed g answer ends settled host' remote' others_same (first_rests b)
        (refused_hands k.who m (first_left k) s.calls.items (steps_call g others_same) (own_hands k) (asked_hands k) (of_end e host' remote') (hands_before b e) (first_out b) asked answer over.next.1.0 over.next.1.1 (asked_out t.asked) back first.incoming_lane (room ∙ t.asked.room))
        (beside ∙ t.asked.beside))

    pub refused_shows : ShowsViews k.link.era k.link.to_host k.link.to_remote (first_left k)
    refused_shows = let said = ends_says g answer ends settled in step_shows g s.to_host s.to_remote (view_before b e ∙ sym (first.incoming_refused (call_end answer) said)) (view_before b (other e) ∙ sym (first.outgoing_refused (call_end answer) said)) (turn_before b e) (turn_before b (other e))
