-- A later step of a call of a managed link: the call goes on, and may settle how it ends, or it ends.
use Rattle.std.proofs.Common.{◌≡◌, ℕ, ◌<◌, ◌^◌, length, map, set, true, List, Option, Some, None, refl, sym, ap, subst, ◌∙◌, arith}
use Rattle.std.specs.Prelude.{IfSome, MatchOption, Vec, get_or, vec_capacity}
use Rattle.std.specs.Option.{is_some, option_map}
use Rattle.std.specs.declared.alloc.Global.{Global}
use Rattle.rp_base.specs.declared.kinds.End.{End}
use Rattle.rp_base.specs.declared.kinds.End.TheVariants as side
use Rattle.lane_model.specs.declared.calls.Answer.{Answer}
use Rattle.lane_model.specs.declared.calls.CallEnd.{CallEnd}
use Rattle.lane_model.specs.declared.calls.Progress.TheVariants as progress
use Rattle.lane_model.specs.declared.calls.Step.{Step}
use Rattle.lane_model.specs.declared.calls.Step.TheVariants as step
use Rattle.lane_model.specs.declared.calls.Wish.{Wish}
use Rattle.lane_model.specs.Lanes.{holder, holds}
use Rattle.lane_model.specs.Links.{form_step}
use Rattle.lane_model.specs.Soundness.{SoundLink}
use Rattle.channel_bus.specs.Sides.{side_meaning}
use Rattle.link_words.specs.Words.{lane_to, other}
use Rattle.split_ring.specs.declared.callers.CallerId.{CallerId}
use Rattle.split_ring.specs.declared.callers.Manager.{Manager}
use Rattle.split_ring.specs.CallPhases.{Phase}
use Rattle.split_ring.specs.CallPhases as phase
use Rattle.split_ring.specs.Calls.{call_end}
use Rattle.split_ring.specs.Carried.{Carries}
use Rattle.split_ring.specs.Handed.{StepsLanes}
use Rattle.split_ring.specs.Phases.{IsEndOf, IsUnderWay, answer_in, phase_behind, progress_of, settled_end}
use Rattle.split_ring.specs.Reclaims.{buffer_in, phase_of, taken_buffer}
use Rattle.managed_link.specs.declared.call_slots.CarriedCall.{CarriedCall}
use Rattle.managed_link.specs.declared.hands.Hand.{Hand}
use Rattle.managed_link.specs.declared.links.ManagedLink.TheInside.{Inside}
use Rattle.managed_link.specs.declared.views.LaneView.{LaneView}
use Rattle.managed_link.specs.Hands.{AreSome, IsPutIn, holding_of}
use Rattle.managed_link.specs.Known.{LinkRings, lists_of, on_rings}
use Rattle.managed_link.specs.Managed.{AreHandsOf, IsBegun, IsCarriedIn, IsLimited, IsManaged, IsOfCaller, IsOwnAnswer, ShowsViews, call_of, caller_id}
use Rattle.managed_link.specs.Settles.{HasRoomFor}
use Rattle.split_ring.specs.Stages.{answer_buffer}
use Rattle.managed_link.specs.Steps.{HasStepped, hands_learnt, held_learnt, incoming_learnt, of_end, outgoing_learnt, settled_in}
use Rattle.managed_link.specs.Taken.{HoldsStepTaken, HoldsTaken}
use Rattle.managed_link.specs.Views.{if_other}
use Rattle.managed_link.proofs.Advances.{later_stepped, later_wished}
use Rattle.managed_link.proofs.CallSteps.{Advances, CallStep, HasTaken, MayTake, call_advanced, ends_managed, ends_over, ends_says, goes_managed, goes_on, goes_out, goes_says, hands_before, others_same, others_set, slot_left, slot_set, slot_within, slots_kept, sound_left, step_shows, steps_call, turn_before, view_before}
use Rattle.managed_link.proofs.CallersTurns.{incoming_later, others_turn, outgoing_later, same_receiver}
use Rattle.managed_link.proofs.Calling.{call_read, calling_is}
use Rattle.managed_link.proofs.StepBooks.{lane_sound, same_lane}
use Rattle.managed_link.proofs.StepGives.{ended_held, ended_hands}
use Rattle.managed_link.proofs.StepHands.{out_with}
use Rattle.managed_link.proofs.StepManaged.{alone_at, may_go_on, settled_room}
use Rattle.managed_link.proofs.StepSettles.{incoming_known, later_hands, outgoing_known, view_from}
use Rattle.managed_link.proofs.StepTurns.{IsLaterStep, lanes_at, later_turns}
use Rattle.managed_link.proofs.TakenMessages.{ended_behind, holds_answer}

some_call : {X : Type 0} (o : Option X) → is_some o ≡ true → (x : X) × (o ≡ Some x)
some_call None is = absurd (cc)
some_call (Some x) is = (x, refl)

-- what an ended call answers was settled, and the buffer that it was handed is out with it
ended_answer : (who : CallerId) (m : LinkRings) (p : Phase) (said : Answer) → IsBegun who m p → IsEndOf p said → IsOwnAnswer who m said × (buffer_in p ≡ taken_buffer said)
ended_answer who m (phase.Asked asked) said begun is = absurd begun
ended_answer who m (phase.LeavesSender settled) said begun is = (subst (IsOwnAnswer who m) (sym is) begun, ap taken_buffer (sym is))
ended_answer who m (phase.LeavesReceiver settled) said begun is = (subst (IsOwnAnswer who m) (sym is) begun, ap taken_buffer (sym is))
ended_answer who m (phase.Sends stage c message) said begun is = absurd is
ended_answer who m (phase.Takes stage c buffer) said begun is = absurd is
ended_answer who m (phase.Gives stage held returned) said begun is = absurd is
ended_answer who m (phase.Asks asked) said begun is = absurd is
ended_answer who m phase.Ended said begun is = absurd is

-- the counts of a lane are small
small : (m : LinkRings) (d : End) → SoundLink (lists_of m) → IsLimited (lane_to m d).lane.lane → (length (lane_to m d).lane.lane.accepted < 2 ^ 60) × (length (lane_to m d).lane.lane.takers < 2 ^ 60) × ((lane_to m d).lane.lane.returned < 2 ^ 60)
small m d sound limits = let lane = (lane_sound m sound d).lane in let within = lane.within in let handed = lane.handed in let counts = lane.counts in let most = limits.book in
    (omega (arith, within, most), omega (arith, within, most, handed), omega (arith, within, most, handed, counts))

room_in : (who : CallerId) (m m' : LinkRings) (calls : List (Option CarriedCall)) (hands : Vec Hand Global) (p : Phase) → StepsLanes who p m m' → SoundLink (lists_of m') → AreHandsOf m who.end calls hands → IfSome (settled_end p) (λ ended. HasRoomFor ended hands)
room_in who m m' calls hands (phase.LeavesSender said) s sound of = settled_room who m m' calls hands said s sound of
room_in who m m' calls hands (phase.LeavesReceiver said) s sound of = settled_room who m m' calls hands said s sound of
room_in who m m' calls hands p s sound of = tt

-- a later step of a caller's call: the link before it, the caller, where its slot is, and the call that is in it
pub record NextCall : Type 0 where
  pub link : Inside
  pub number : ℕ
  pub end : End
  pub place : ℕ
  pub carried : CarriedCall

-- its caller, and the hands of that caller's end
abbrev pub caller_in : NextCall → CallerId
caller_in k = caller_id k.number k.end k.carried.follows

abbrev pub held_hands : NextCall → Vec Hand Global
held_hands k = of_end k.end k.link.host k.link.remote

-- the state behind its step
abbrev pub next_left : NextCall → LinkRings
next_left k = (form_step on_rings side_meaning k.link.known.0 k.number 0 None).state

-- the caller may go on with the call
pub record GoesOn (k : NextCall) : Type 0 where
  pub may : MayTake k.link k.number k.end None
  pub at : k.place ≡ k.number
  pub there : call_of k.link.calls.items k.number ≡ Some k.carried

-- the step that was taken of it, and the slot behind it
abbrev pub next_step : NextCall → Manager → Step → Option CarriedCall → CallStep
next_step k after done left = record {
  link = k.link;
  who = caller_in k;
  place = k.place;
  calls = k.link.calls.items;
  before = k.carried.call.phase;
  follows = 0;
  wished = None;
  after = after;
  done = done;
  slot = left;
}

pub record HasGoneOn (k : NextCall) (after : Manager) (done : Step) (left : Option CarriedCall) : Type 0 where
  pub goes : GoesOn k
  pub taken : HasTaken (next_step k after done left)

module _ {s : Inside} {n : ℕ} {end : End} (b : MayTake s n end None) where
  -- the caller's call is carried
  pub next_call : (c : CarriedCall) × (call_of s.calls.items n ≡ Some c)
  next_call = some_call (call_of s.calls.items n) (sym (calling_is s.shared s.manager s.calls.items s.host s.remote s.known.0 n b.was.0) ∙ (may_go_on s.known.0 n end b.user b.may).0)

  limits_of : (d : End) → IsLimited (lane_to s.known.0 d).lane.lane
  limits_of side.Host = b.was.0.limits.0
  limits_of side.Remote = b.was.0.limits.1

  -- the counts are small
  pub next_small : ((of_end (other end) s.to_host s.to_remote).accepted < 2 ^ 60) × ((of_end end s.to_host s.to_remote).handed < 2 ^ 60) × ((of_end end s.to_host s.to_remote).returned < 2 ^ 60)
  next_small = let here = small s.known.0 end b.was.0.sound (limits_of end) in let there = small s.known.0 (other end) b.was.0.sound (limits_of (other end)) in (
    subst (λ (v : LaneView). v.accepted < 2 ^ 60) (sym (view_before b (other end))) there.0,
    subst (λ (v : LaneView). v.handed < 2 ^ 60) (sym (view_before b end)) here.1,
    subst (λ (v : LaneView). v.returned < 2 ^ 60) (sym (view_before b end)) here.2,
  )

module _ {k : NextCall} (g : GoesOn k) where
  -- the manager carries it, and it has begun
  pub next_carried : Carries k.link.shared k.link.manager (caller_in k) k.carried.call.phase × IsUnderWay k.carried.call.phase × IsBegun (caller_in k) k.link.known.0 k.carried.call.phase
  next_carried = subst (IsCarriedIn k.link.shared k.link.manager k.link.known.0 k.number k.end) g.there (g.may.was.0.callers k.number k.end g.may.user)

  was_out : out_with k.link.calls.items k.number ≡ buffer_in k.carried.call.phase
  was_out = ap (λ (o : Option CarriedCall). buffer_in (phase_of (option_map (λ (c : CarriedCall). c.call) o))) g.there

  -- it is there, where its slot is read
  pub next_there : (read : Option CarriedCall) → read ≡ get_or k.link.calls.items k.place read → read ≡ Some k.carried
  next_there read is = sym (call_read k.link.calls.items k.link.calls.items k.number k.place read refl g.at (slot_within g.may k.link.calls.items g.at refl) is) ∙ g.there

  -- and the step that was taken of what was read there is one of it
  pub next_takes : (read : Option CarriedCall) {after : Manager} {done : Step} {left : Option CarriedCall} → read ≡ get_or k.link.calls.items k.place read → Advances k.link k.number read after done left → HasGoneOn k after done left
  next_takes read {after} {done} {left} is takes = let a = call_advanced g.may k.carried (next_there read is) takes in record {
    goes = g;
    taken = record {
      may = g.may;
      at = g.at;
      others = others_same;
      call = a.call;
      here = a.here;
      stepped = later_stepped k.link.shared k.link.manager after (caller_in k) k.carried.call.phase (progress_of done a.call.phase) (phase_behind done a.call.phase) k.link.known.0 next_carried.2 a.stepped;
      told = a.told ∙ ap (λ (o : Option Wish). (form_step on_rings side_meaning k.link.known.0 k.number k.carried.follows o).outcome) (later_wished (caller_in k) k.link.known.0 k.carried.call.phase next_carried.2);
    };
  }

module _ {k : NextCall} {after : Manager} {done : Step} {left : Option CarriedCall} (t : HasGoneOn k after done left) where
  abbrev s : Inside
  s = k.link

  abbrev m : LinkRings
  m = k.link.known.0

  abbrev e : End
  e = k.end

  abbrev b : MayTake k.link k.number k.end None
  b = t.goes.may

  abbrev g : HasTaken (next_step k after done left)
  g = t.taken

  later : IsLaterStep k.number (form_step on_rings side_meaning m k.number 0 None).outcome (lanes_at m k.end) (lanes_at (next_left k) k.end)
  later = let low = b.low in later_turns m e k.number 0 b.user (λ same. omega (arith, low, same)) (may_go_on m k.number e b.user b.may).1 (alone_at m k.number b.was.0.sound e)

  -- the call goes on, and is read in its slot
  module _ (number : ℕ) (goes : done ≡ step.At number) (read : Option CarriedCall) (is : read ≡ get_or (set k.link.calls.items k.place left) k.place read) where
    on : HasStepped s.shared s.manager after (caller_in k) k.carried.call.phase (progress.At number) t.taken.call.phase m (next_left k)
    on = goes_on g number goes

    settled : settled_in read ≡ settled_end t.taken.call.phase
    settled = ap settled_in (slot_left g read is)

    pub next_room : IfSome (settled_in read) (λ ended. HasRoomFor ended (held_hands k))
    next_room = subst (λ (o : Option CallEnd). IfSome o (λ ended. HasRoomFor ended (held_hands k))) (sym settled) (room_in (caller_in k) m (next_left k) s.calls.items (held_hands k) g.call.phase on.lanes (sound_left g) (hands_before b e))

    pub next_managed : (host' remote' : Vec Hand Global) → map holding_of (of_end k.end host' remote').items ≡ held_learnt (settled_in read) k.number (map holding_of (held_hands k).items)
        → AreSome (hands_learnt (settled_in read) k.number (held_hands k).items) (of_end k.end host' remote').items → vec_capacity (of_end k.end host' remote') ≡ vec_capacity (held_hands k)
        → of_end (other k.end) host' remote' ≡ of_end (other k.end) k.link.host k.link.remote → IsManaged k.link.shared after (set k.link.calls.items k.place left) host' remote' (next_left k)
    next_managed host' remote' listed among room beside = goes_managed g number goes host' remote' (later.calls number (goes_says g number goes))
        (later_hands (caller_in k) m (next_left k) s.calls.items (set s.calls.items k.place left) (steps_call g (slots_kept g)) k.carried.call.phase (held_hands k) (of_end e host' remote') (hands_before b e) (was_out t.goes) on.next.3 g.call.phase (goes_out g number goes) on.lanes on.on.1 on.next.4
        (listed ∙ ap (λ (o : Option CallEnd). held_learnt o k.number (map holding_of (held_hands k).items)) settled)
        (subst (λ (o : Option CallEnd). AreSome (hands_learnt o k.number (held_hands k).items) (of_end e host' remote').items) settled among) room) beside

    pub next_shows : (to_host' to_remote' : LaneView) → of_end k.end to_host' to_remote' ≡ incoming_learnt (settled_in read) (of_end k.end k.link.to_host k.link.to_remote)
        → of_end (other k.end) to_host' to_remote' ≡ outgoing_learnt (settled_in read) (of_end (other k.end) k.link.to_host k.link.to_remote) → ShowsViews k.link.era to_host' to_remote' (next_left k)
    next_shows to_host' to_remote' incoming outgoing = let inwards = of_end e s.to_host s.to_remote in let outwards = of_end (other e) s.to_host s.to_remote in
        step_shows g to_host' to_remote'
        (incoming ∙ ((λ i. incoming_learnt (settled i) (view_before b e i)) ∙ sym (incoming_known (caller_in k) g.call.phase m (next_left k) on.lanes (ap holder later.sender_beside) (later.receiver_stays number (goes_says g number goes)))))
        (outgoing ∙ ((λ i. outgoing_learnt (settled i) (view_before b (other e) i)) ∙ sym (outgoing_known (caller_in k) g.call.phase m (next_left k) on.lanes (later.sender_stays number (goes_says g number goes)) (ap holder later.receiver_beside))))
        (same_receiver inwards (of_end e to_host' to_remote') (ap (λ (v : LaneView). v.receiver) incoming ∙ incoming_later (settled_in read) inwards) (turn_before b e))
        (same_receiver outwards (of_end (other e) to_host' to_remote') (ap (λ (v : LaneView). v.receiver) outgoing ∙ outgoing_later (settled_in read) outwards) (turn_before b (other e)))

  -- the call ends with what was settled
  module _ (answered : Answer) (ends : done ≡ step.Ended) (settled : answer_in t.taken.call.phase ≡ Some answered) where
    over : HasStepped s.shared s.manager after (caller_in k) k.carried.call.phase (progress.Done answered) phase.Ended m (next_left k)
    over = ends_over g answered ends settled

    own : IsOwnAnswer (caller_in k) m answered × (buffer_in k.carried.call.phase ≡ taken_buffer answered)
    own = ended_answer (caller_in k) m k.carried.call.phase answered (next_carried t.goes).2 over.next.1

    pub last_place : IfSome (answer_buffer answered) (λ held. holds (map holding_of (held_hands k).items) held.number held.caller ≡ true)
    last_place = ended_held (caller_in k) m s.calls.items (held_hands k) answered (hands_before b e) own.0

    pub last_takes : {behind : LinkRings} (old : LinkRings) (ended : CallEnd) → k.link.known.0 ≡ old → ended ≡ call_end answered → behind ≡ (form_step on_rings side_meaning old k.number 0 None).state → HoldsStepTaken (lists_of behind) k.number done ended
    last_takes old ended was is leaves = ended_behind (λ (x : LinkRings). (form_step on_rings side_meaning x k.number 0 None).state) m old k.number done ended ends leaves was
        (subst (HoldsTaken (lists_of (next_left k)) k.number) (sym is) (holds_answer s.shared after (caller_in k) (next_left k) g.stepped.manages g.stepped.state over.on m answered own.0 (same_lane m (next_left k) over.lanes e)))

    pub last_managed : (rest : Option CarriedCall) (host' remote' : Vec Hand Global) → rest ≡ None
        → MatchOption (answer_buffer answered) ((of_end k.end host' remote').items ≡ (held_hands k).items) (λ held. IsPutIn held (held_hands k).items (of_end k.end host' remote').items)
        → vec_capacity (of_end k.end host' remote') ≡ vec_capacity (held_hands k) → of_end (other k.end) host' remote' ≡ of_end (other k.end) k.link.host k.link.remote
        → IsManaged k.link.shared after (set (set k.link.calls.items k.place left) k.place rest) host' remote' (next_left k)
    last_managed rest host' remote' free put room beside = let kept = others_set rest g.at (slots_kept g) in
        ends_managed g answered ends settled host' remote' kept (slot_set b (set s.calls.items k.place left) rest g.at (slots_kept g).same ∙ free)
        (ended_hands (caller_in k) m (next_left k) s.calls.items (set (set s.calls.items k.place left) k.place rest) (steps_call g kept) (held_hands k) (of_end e host' remote') (hands_before b e) answered own.0 (was_out t.goes ∙ own.1) put (same_lane m (next_left k) over.lanes e) room) beside

    pub last_shows : (to_host' to_remote' : LaneView) → of_end k.end to_host' to_remote' ≡ record (of_end k.end k.link.to_host k.link.to_remote) { receiver = if_other (of_end k.end k.link.to_host k.link.to_remote).receiver k.number }
        → of_end (other k.end) to_host' to_remote' ≡ record (of_end (other k.end) k.link.to_host k.link.to_remote) { sender = if_other (of_end (other k.end) k.link.to_host k.link.to_remote).sender k.number }
        → ShowsViews k.link.era to_host' to_remote' (next_left k)
    last_shows to_host' to_remote' incoming outgoing = let said = ends_says g answered ends settled in let lanes = same_lane m (next_left k) over.lanes in step_shows g to_host' to_remote'
        (incoming ∙ (ap (λ (v : LaneView). record v { receiver = if_other v.receiver k.number }) (view_before b e)
        ∙ sym (λ i. view_from (lanes e i) (ap holder later.sender_beside i) (later.receiver_left (call_end answered) said i))))
        (outgoing ∙ (ap (λ (v : LaneView). record v { sender = if_other v.sender k.number }) (view_before b (other e))
        ∙ sym (λ i. view_from (lanes (other e) i) (later.sender_left (call_end answered) said i) (ap holder later.receiver_beside i))))
        (subst IsOfCaller (sym (ap (λ (v : LaneView). v.receiver) incoming)) (others_turn (of_end e s.to_host s.to_remote).receiver k.number (turn_before b e)))
        (same_receiver (of_end (other e) s.to_host s.to_remote) (of_end (other e) to_host' to_remote') (ap (λ (v : LaneView). v.receiver) outgoing) (turn_before b (other e)))
