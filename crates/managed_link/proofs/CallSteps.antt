-- A step of the call of a caller of a managed link, its first or a later one: what it keeps, and what follows where the call goes on and where it ends.
use Rattle.std.proofs.Common.{◌≡◌, ◌≢◌, ℕ, ◌<◌, length, set, true, List, Option, Some, None, refl, sym, ap, subst, ◌∙◌, length-set, arith}
use Rattle.std.specs.Prelude.{IfSome, Vec, get_or}
use Rattle.std.specs.Option.{option_map}
use Rattle.std.specs.declared.alloc.Global.{Global}
use Rattle.std.proofs.lemmas.List.{get_or-set_same}
use Rattle.rp_base.specs.declared.kinds.End.{End}
use Rattle.lane_model.specs.declared.calls.Answer.{Answer}
use Rattle.lane_model.specs.declared.calls.CallEnd.{CallEnd}
use Rattle.lane_model.specs.declared.calls.Outcome.{Outcome}
use Rattle.lane_model.specs.declared.calls.Outcome.TheVariants as outcome
use Rattle.lane_model.specs.declared.calls.Progress.TheVariants as progress
use Rattle.lane_model.specs.declared.calls.Step.{Step}
use Rattle.lane_model.specs.declared.calls.Step.TheVariants as step
use Rattle.lane_model.specs.declared.calls.Wish.{Wish}
use Rattle.lane_model.specs.Answers.{outcome_of}
use Rattle.lane_model.specs.Conditions.{MayStep}
use Rattle.lane_model.specs.Links.{caller_step, end_of, form_step}
use Rattle.lane_model.specs.Soundness.{SoundLink}
use Rattle.channel_bus.specs.Sides.{EndState, side_meaning}
use Rattle.link_words.specs.Words.{lane_to, other}
use Rattle.split_ring.specs.declared.callers.CallerId.{CallerId}
use Rattle.split_ring.specs.declared.callers.Manager.{Manager}
use Rattle.split_ring.specs.CallPhases.{Phase}
use Rattle.split_ring.specs.CallPhases as phase
use Rattle.split_ring.specs.declared.calls.RingCall.{RingCall}
use Rattle.split_ring.specs.Callers.{IsStateOf}
use Rattle.split_ring.specs.Calls.{call_end}
use Rattle.split_ring.specs.Phases.{answer_in, phase_behind, outcome_said, progress_of}
use Rattle.split_ring.specs.Reclaims.{buffer_in, phase_of}
use Rattle.managed_link.specs.declared.call_slots.CarriedCall.{CarriedCall}
use Rattle.managed_link.specs.declared.hands.Hand.{Hand}
use Rattle.managed_link.specs.declared.links.ManagedLink.TheInside.{Inside}
use Rattle.managed_link.specs.declared.views.LaneView.{LaneView}
use Rattle.managed_link.specs.EndCodes.{end_coded}
use Rattle.managed_link.specs.Known.{IsKnown, LinkRings, lists_of, on_rings}
use Rattle.managed_link.specs.Managed.{AreHandsOf, IsBegun, IsCarriedIn, IsManaged, IsOfCaller, ShowsViews, call_of, caller_id, view_of}
use Rattle.managed_link.specs.Steps.{AdvancesCall, HasStepped, of_end}
use Rattle.managed_link.proofs.Advances.{answer_left, ends_outcome, ends_stepped, ends_told, goes_outcome, goes_stepped, goes_told, outcome_on_lists}
use Rattle.managed_link.proofs.CallSlots.{call_beside, call_set}
use Rattle.managed_link.proofs.KnownStates.{state_behind}
use Rattle.managed_link.proofs.StepBooks.{BooksGrow, books_grow}
use Rattle.managed_link.proofs.StepHands.{StepsCall, hands_beside, out_with}
use Rattle.managed_link.proofs.StepManaged.{hands_at, idle_still, managed_after, not_asked, sound_after, turn_at, view_at, views_after}
use Rattle.managed_link.proofs.StepSettles.{has_begun}
use Rattle.managed_link.proofs.StepTurns.{in_call, lanes_at, same_era, same_users}
use Rattle.managed_link.proofs.WholeSteps.{IsLink}

-- what the manager's step of a call tells that was read in the slot of this caller
abbrev pub Advances : Inside → ℕ → Option CarriedCall → Manager → Step → Option CarriedCall → Type 0
Advances s n read after done left = (end : End) (carried : CarriedCall) (m : LinkRings) → end_of s.manager.users n ≡ Some end → read ≡ Some carried → IsStateOf end_coded s.manager m
    → AdvancesCall s.shared s.manager (caller_id n end carried.follows) carried.call.phase m done after left

-- a caller of this end of a managed link may take this step
pub record MayTake (s : Inside) (n : ℕ) (end : End) (wished : Option Wish) : Type 0 where
  pub was : IsLink s
  pub user : end_of s.known.0.callers n ≡ Some end
  pub low : n < 64
  pub may : MayStep (lists_of s.known.0) n wished

-- so it is of the caller that the manager finds at this end
pub may_take : {s : Inside} {answered : Option End} {n : ℕ} {end : End} {wished : Option Wish} → IsLink s → answered ≡ end_of s.manager.users n → answered ≡ Some end → IfSome answered (λ found. n < 64) → MayStep (lists_of s.known.0) n wished → MayTake s n end wished
may_take {s} {answered} {n} {end} {wished} was is here within may = record {
  was = was;
  user = ap (λ (users : List (Option End)). end_of users n) (sym was.0.state.users) ∙ (sym is ∙ here);
  low = subst (λ (o : Option End). IfSome o (λ found. n < 64)) here within;
  may = may;
}

module _ {s : Inside} {n : ℕ} {end : End} {wished : Option Wish} (b : MayTake s n end wished) where
  -- the hands and the views of both ends before it
  pub hands_before : (d : End) → AreHandsOf s.known.0 d s.calls.items (of_end d s.host s.remote)
  hands_before = hands_at s.shared s.manager s.calls.items s.host s.remote s.known.0 b.was.0

  pub view_before : (d : End) → of_end d s.to_host s.to_remote ≡ view_of (lane_to s.known.0 d).lane
  view_before = view_at s.era s.to_host s.to_remote s.known.0 b.was.1

  pub turn_before : (d : End) → IsOfCaller (of_end d s.to_host s.to_remote).receiver
  turn_before = turn_at s.era s.to_host s.to_remote s.known.0 b.was.1

  -- its slot is among them, whatever was put into them
  pub slot_within : {place : ℕ} (calls : List (Option CarriedCall)) → place ≡ n → length calls ≡ length s.calls.items → place < length calls
  slot_within calls at same = let low = b.low in let slots = b.was.0.slots in omega (arith, at, same, low, slots)

  pub slot_set : {place : ℕ} (calls : List (Option CarriedCall)) (call : Option CarriedCall) → place ≡ n → length calls ≡ length s.calls.items → call_of (set calls place call) n ≡ call
  slot_set {place} calls call at same = ap (call_of (set calls place call)) (sym at) ∙ call_set calls place call (slot_within calls at same)

  -- what such a step tells of the call that was there
  pub call_advanced : {read : Option CarriedCall} {after : Manager} {done : Step} {left : Option CarriedCall} (carried : CarriedCall) → read ≡ Some carried → Advances s n read after done left
      → AdvancesCall s.shared s.manager (caller_id n end carried.follows) carried.call.phase s.known.0 done after left
  call_advanced carried here takes = takes end carried s.known.0 (ap (λ (users : List (Option End)). end_of users n) b.was.0.state.users ∙ b.user) here b.was.0.state

-- the calls of the other callers are as they were
pub record KeepsOthers (n : ℕ) (calls calls' : List (Option CarriedCall)) : Type 0 where
  pub same : length calls' ≡ length calls
  pub beside : (k : ℕ) → n ≢ k → call_of calls' k ≡ call_of calls k

pub others_same : {n : ℕ} {calls : List (Option CarriedCall)} → KeepsOthers n calls calls
others_same = record { same = refl; beside = λ k apart. refl }

pub others_set : {n place : ℕ} {calls calls' : List (Option CarriedCall)} (call : Option CarriedCall) → place ≡ n → KeepsOthers n calls calls' → KeepsOthers n calls (set calls' place call)
others_set {n} {place} {calls} {calls'} call at kept = record {
  same = length-set calls' place call ∙ kept.same;
  beside = λ k apart. call_beside calls' place k call (λ is. apart (sym at ∙ is)) ∙ kept.beside k apart;
}

-- a step of a call: the link before it, the slots with its call, the phase that the call is in, what the link does, and what the manager and the slot are left as
pub record CallStep : Type 0 where
  pub link : Inside
  pub who : CallerId
  pub place : ℕ
  pub calls : List (Option CarriedCall)
  pub before : Phase
  pub follows : ℕ
  pub wished : Option Wish
  pub after : Manager
  pub done : Step
  pub slot : Option CarriedCall

-- what the step says, the state behind it, and the slots
abbrev pub step_says : CallStep → Outcome
step_says k = (form_step on_rings side_meaning k.link.known.0 k.who.number k.follows k.wished).outcome

abbrev pub step_left : CallStep → LinkRings
step_left k = (form_step on_rings side_meaning k.link.known.0 k.who.number k.follows k.wished).state

abbrev pub slots_left : CallStep → List (Option CarriedCall)
slots_left k = set k.calls k.place k.slot

-- it was taken
pub record HasTaken (k : CallStep) : Type 0 where
  pub may : MayTake k.link k.who.number k.who.end k.wished
  pub at : k.place ≡ k.who.number
  pub others : KeepsOthers k.who.number k.link.calls.items k.calls
  pub call : RingCall EndState
  pub here : k.slot ≡ Some (record { follows = k.who.follows; call = call })
  pub stepped : HasStepped k.link.shared k.link.manager k.after k.who k.before (progress_of k.done call.phase) (phase_behind k.done call.phase) k.link.known.0 (step_left k)
  pub told : outcome_said (progress_of k.done call.phase) ≡ step_says k

module _ {k : CallStep} (t : HasTaken k) where
  abbrev s : Inside
  s = k.link

  abbrev m : LinkRings
  m = k.link.known.0

  abbrev n : ℕ
  n = k.who.number

  abbrev e : End
  e = k.who.end

  abbrev p : Phase
  p = t.call.phase

  pub sound_left : SoundLink (lists_of (step_left k))
  sound_left = sound_after m n k.follows k.wished t.may.was.0.sound t.may.may

  grow : BooksGrow k.who m (step_left k)
  grow = books_grow k.who (phase_behind k.done p) m (step_left k) t.stepped.lanes

  pub steps_call : {calls' : List (Option CarriedCall)} → KeepsOthers k.who.number k.link.calls.items calls' → StepsCall k.who k.link.known.0 (step_left k) k.link.calls.items calls'
  steps_call kept = record { user = t.may.user; sound = t.may.was.0.sound; grow = grow; beside = kept.beside }

  -- the parts of the link behind it, whatever became of the call
  pub step_managed : {calls' : List (Option CarriedCall)} (host' remote' : Vec Hand Global) → KeepsOthers k.who.number k.link.calls.items calls' → IsCarriedIn k.link.shared k.after (step_left k) k.who.number k.who.end (call_of calls' k.who.number)
      → AreHandsOf (step_left k) k.who.end calls' (of_end k.who.end host' remote') → of_end (other k.who.end) host' remote' ≡ of_end (other k.who.end) k.link.host k.link.remote → IsManaged k.link.shared k.after calls' host' remote' (step_left k)
  step_managed {calls'} host' remote' kept mine hands beside = managed_after s.shared s.manager k.after s.calls.items calls' s.host s.remote k.who m (step_left k) t.may.was.0 (record {
    user = t.may.user;
    users = same_users m n k.follows k.wished;
    manages = t.stepped.manages;
    state = t.stepped.state;
    sound = sound_left;
    grow = grow;
    others = t.stepped.others;
    same = kept.same;
    beside = kept.beside;
    mine = mine;
  }) host' remote' hands (subst (AreHandsOf (step_left k) (other e) calls') (sym beside) (hands_beside k.who m (step_left k) s.calls.items calls' (steps_call kept) (of_end (other e) s.host s.remote) (hands_before t.may (other e))))

  pub step_shows : (to_host' to_remote' : LaneView) → of_end k.who.end to_host' to_remote' ≡ view_of (lane_to (step_left k) k.who.end).lane → of_end (other k.who.end) to_host' to_remote' ≡ view_of (lane_to (step_left k) (other k.who.end)).lane
      → IsOfCaller (of_end k.who.end to_host' to_remote').receiver → IsOfCaller (of_end (other k.who.end) to_host' to_remote').receiver → ShowsViews k.link.era to_host' to_remote' (step_left k)
  step_shows to_host' to_remote' = views_after s.era to_host' to_remote' e (step_left k) (t.may.was.1.era_is ∙ sym (same_era m n k.follows k.wished))

  -- the state behind it is the step's, whatever the state before is called
  pub step_whole : (old x : LinkRings) → k.link.known.0 ≡ old → IsKnown k.after x → x ≡ (form_step on_rings side_meaning old k.who.number k.follows k.wished).state
  step_whole old x = state_behind (λ (y : LinkRings). (form_step on_rings side_meaning y n k.follows k.wished).state) k.after m old x t.stepped.state

  says_same : (old : LinkRings) → k.link.known.0 ≡ old → (caller_step side_meaning (lists_of k.link.known.0) k.who.number k.follows k.wished).outcome ≡ (caller_step side_meaning (lists_of old) k.who.number k.follows k.wished).outcome
  says_same old = ap (λ (y : LinkRings). (caller_step side_meaning (lists_of y) n k.follows k.wished).outcome)

  -- the call is there, where its slot is read
  pub slot_left : (read : Option CarriedCall) → read ≡ get_or (set k.calls k.place k.slot) k.place read → read ≡ Some (record { follows = k.who.follows; call = t.call })
  slot_left read is = is ∙ (get_or-set_same k.calls k.place k.slot read (slot_within t.may k.calls t.at t.others.same) ∙ t.here)

  slot_mine : call_of (slots_left k) k.who.number ≡ Some (record { follows = k.who.follows; call = t.call })
  slot_mine = slot_set t.may k.calls k.slot t.at t.others.same ∙ t.here

  pub slots_kept : KeepsOthers k.who.number k.link.calls.items (slots_left k)
  slots_kept = others_set k.slot t.at t.others

  -- the call goes on
  module _ (number : ℕ) (goes : k.done ≡ step.At number) where
    pub goes_says : step_says k ≡ outcome.At number
    goes_says = sym t.told ∙ goes_told k.done p number goes

    pub goes_on : HasStepped k.link.shared k.link.manager k.after k.who k.before (progress.At number) t.call.phase k.link.known.0 (step_left k)
    goes_on = goes_stepped s.shared s.manager k.after k.who k.before k.done p m (step_left k) t.stepped number goes

    begun : in_call k.who.number (lanes_at (step_left k) k.who.end) ≡ true → IsBegun k.who (step_left k) t.call.phase
    begun calls = has_begun k.who k.before p m (step_left k) goes_on.lanes sound_left goes_on.next.4 (not_asked s.shared k.after (step_left k) k.who p goes_on.manages goes_on.state goes_on.on.0 calls)

    pub goes_out : out_with (slots_left k) k.who.number ≡ buffer_in t.call.phase
    goes_out = ap (λ (o : Option CarriedCall). buffer_in (phase_of (option_map (λ (c : CarriedCall). c.call) o))) slot_mine

    pub goes_managed : (host' remote' : Vec Hand Global) → in_call k.who.number (lanes_at (step_left k) k.who.end) ≡ true → AreHandsOf (step_left k) k.who.end (slots_left k) (of_end k.who.end host' remote')
        → of_end (other k.who.end) host' remote' ≡ of_end (other k.who.end) k.link.host k.link.remote → IsManaged k.link.shared k.after (set k.calls k.place k.slot) host' remote' (step_left k)
    goes_managed host' remote' calls = step_managed host' remote' slots_kept (subst (IsCarriedIn s.shared k.after (step_left k) n e) (sym slot_mine) (goes_on.on.0, goes_on.on.1, begun calls))

    pub goes_answers : (old : LinkRings) (ended : CallEnd) → k.link.known.0 ≡ old → outcome_of k.done ended ≡ (caller_step side_meaning (lists_of old) k.who.number k.follows k.wished).outcome
    goes_answers old ended was = goes_outcome k.done ended number goes ∙ (outcome_on_lists m n k.follows k.wished (outcome.At number) (sym goes_says) ∙ says_same old was)

  pub ends_answer : k.done ≡ step.Ended → (answered : Answer) × (answer_in t.call.phase ≡ Some answered)
  ends_answer ends = answer_left s.shared k.after k.who k.done p ends t.stepped.on

  -- the call ends
  module _ (answered : Answer) (ends : k.done ≡ step.Ended) (settled : answer_in t.call.phase ≡ Some answered) where
    pub ends_says : step_says k ≡ outcome.Ended (call_end answered)
    ends_says = sym t.told ∙ ends_told k.done p answered ends settled

    pub ends_over : HasStepped k.link.shared k.link.manager k.after k.who k.before (progress.Done answered) phase.Ended k.link.known.0 (step_left k)
    ends_over = ends_stepped s.shared s.manager k.after k.who k.before k.done p m (step_left k) t.stepped answered ends settled

    pub ends_managed : {calls' : List (Option CarriedCall)} (host' remote' : Vec Hand Global) → KeepsOthers k.who.number k.link.calls.items calls' → call_of calls' k.who.number ≡ None → AreHandsOf (step_left k) k.who.end calls' (of_end k.who.end host' remote')
        → of_end (other k.who.end) host' remote' ≡ of_end (other k.who.end) k.link.host k.link.remote → IsManaged k.link.shared k.after calls' host' remote' (step_left k)
    ends_managed host' remote' kept none = step_managed host' remote' kept (subst (IsCarriedIn s.shared k.after (step_left k) n e) (sym none) (λ f. idle_still s.shared k.after n e k.who.follows f ends_over.on))

    pub ends_answers : (old : LinkRings) (ended : CallEnd) → k.link.known.0 ≡ old → ended ≡ call_end answered → outcome_of k.done ended ≡ (caller_step side_meaning (lists_of old) k.who.number k.follows k.wished).outcome
    ends_answers old ended was is = ends_outcome k.done ended ends ∙ (ap outcome.Ended is ∙ (outcome_on_lists m n k.follows k.wished (outcome.Ended (call_end answered)) (sym ends_says) ∙ says_same old was))
