-- The parts of a managed link behind a step of a caller: each caller is in its call or in none, and all that stands beside follows.
use Rattle.std.proofs.Common.{◌≡◌, ◌≢◌, ⊎_elim, ℕ, ◌+◌, ◌≤◌, ◌<◌, ◌||◌, ◌&&◌, not, length, Bool, true, false, List, Option, Some, None, sym, ap, subst, ◌∙◌, length-append, arith}
use Rattle.std.specs.Prelude.{Vec, vec_capacity}
use Rattle.std.specs.Option.{option_map_or}
use Rattle.std.specs.declared.alloc.Global.{Global}
use Rattle.std.proofs.lemmas.Bool.{false≢true, cases_eq}
use Rattle.std.proofs.lemmas.List.{length-map}
use Rattle.std.proofs.lemmas.Option.{none-some, same_Some}
use Rattle.rp_base.specs.declared.kinds.End.{End}
use Rattle.rp_base.specs.declared.kinds.End.TheVariants as side
use Rattle.rp_base.specs.declared.kinds.Era.{Era}
use Rattle.rp_base.specs.declared.limits.TheConstants.{BOOK_MOST, CAPACITY_MOST}
use Rattle.lane_model.specs.declared.calls.Answer.{Answer}
use Rattle.lane_model.specs.declared.calls.Answer.TheVariants as answer
use Rattle.lane_model.specs.declared.calls.Ask.{Ask}
use Rattle.lane_model.specs.declared.calls.Wish.{Wish}
use Rattle.lane_model.specs.declared.states.Lane.{Lane}
use Rattle.lane_model.specs.Conditions.{IsFitWish, MayEndStep, MayLanesStep, MayStep, is_calling, is_in_call}
use Rattle.lane_model.specs.Lanes.{has_call}
use Rattle.lane_model.specs.Links.{end_of, form_step, lanes_of}
use Rattle.lane_model.specs.Soundness.{SoundLink}
use Rattle.lane_model.proofs.FormSteps.{step_agrees}
use Rattle.lane_laws.proofs.RingMoves.{is_ring_form}
use Rattle.lane_laws.proofs.SoundKept.{step_sound}
use Rattle.channel_bus.specs.Sides.{EndState, side_meaning}
use Rattle.link_words.specs.Words.{lane_to, other}
use Rattle.split_ring.specs.declared.callers.CallerId.{CallerId}
use Rattle.split_ring.specs.declared.callers.Manager.{Manager}
use Rattle.split_ring.specs.CallPhases.{Phase}
use Rattle.split_ring.specs.CallPhases as phase
use Rattle.split_ring.specs.declared.links.SharedLink.{SharedLink}
use Rattle.split_ring.specs.Callers.{IsManagerOf, IsStateOf}
use Rattle.split_ring.specs.Calls.{call_end}
use Rattle.split_ring.specs.Carried.{Carries, CarriesIdle, Keeps}
use Rattle.split_ring.specs.Handed.{Settles}
use Rattle.split_ring.specs.Reclaims.{is_turn, lacks_receiver, turn_in}
use Rattle.split_ring.proofs.CarriedStates.{known_of}
use Rattle.managed_link.specs.declared.call_slots.CarriedCall.{CarriedCall}
use Rattle.managed_link.specs.declared.hands.Hand.{Hand}
use Rattle.managed_link.specs.declared.views.LaneView.{LaneView}
use Rattle.managed_link.specs.EndCodes.{end_coded}
use Rattle.managed_link.specs.Hands.{holding_of}
use Rattle.managed_link.specs.Known.{LinkRings, lists_of, on_rings}
use Rattle.managed_link.specs.Managed.{AreHandsOf, IsCarriedIn, IsLimited, IsManaged, IsOfCaller, ShowsViews, call_of, caller_id, view_of}
use Rattle.managed_link.specs.Settles.{HasRoomFor}
use Rattle.managed_link.specs.Steps.{of_end}
use Rattle.managed_link.proofs.StepBooks.{BooksGrow, begun_stays, both_lanes, lane_sound}
use Rattle.managed_link.proofs.StepTurns.{in_call, lanes_at}

-- a step keeps the link sound
pub sound_after : (m : LinkRings) (caller follows : ℕ) (wished : Option Wish) → SoundLink (lists_of m) → MayStep (lists_of m) caller wished → SoundLink (lists_of (form_step on_rings side_meaning m caller follows wished).state)
sound_after m caller follows wished sound may =
    subst (λ link. SoundLink link) (sym (step_agrees on_rings side_meaning (is_ring_form side_meaning) m caller follows wished)) (step_sound side_meaning (lists_of m) caller follows wished sound may)

-- a caller whose call has a turn is in a call that has begun
no_turn : (b : Bool) → b ≡ false → b ≡ true → ⊥
no_turn b is has = false≢true (sym is ∙ has)

pub not_asked : (link : SharedLink EndState) (manager : Manager) (m : LinkRings) (who : CallerId) (p : Phase) → IsManagerOf link manager → IsStateOf end_coded manager m → Carries link manager who p → in_call who.number (lanes_at m who.end) ≡ true
    → (asked : Ask) → p ≡ phase.Asked asked → ⊥
not_asked link manager m who p of state carries calls asked is =
    let known = known_of end_coded link manager m who p of state carries in
    let sends : has_call (lane_to m (other who.end)).lane.sender who.number ≡ false = known.0 ∙ ap (λ (q : Phase). is_turn (turn_in q) && lacks_receiver (turn_in q)) is in
    let receives : has_call (lane_to m who.end).lane.receiver who.number ≡ false = known.1 ∙ ap (λ (q : Phase). not (lacks_receiver (turn_in q))) is in
    no_turn (in_call who.number (lanes_at m who.end)) (λ i. sends i || receives i) calls

-- the callers behind a step of this one, which is in its call still, or in none
pub record IsStepped (shared : SharedLink EndState) (manager manager' : Manager) (calls calls' : List (Option CarriedCall)) (who : CallerId) (m m' : LinkRings) : Type 0 where
  pub user : end_of m.callers who.number ≡ Some who.end
  pub users : m'.callers ≡ m.callers
  pub manages : IsManagerOf shared manager'
  pub state : IsStateOf end_coded manager' m'
  pub sound : SoundLink (lists_of m')
  pub grow : BooksGrow who m m'
  pub others : (theirs : CallerId) (p : Phase) → theirs.number ≢ who.number → Keeps shared manager manager' theirs p
  pub same : length calls' ≡ length calls
  pub beside : (n : ℕ) → who.number ≢ n → call_of calls' n ≡ call_of calls n
  pub mine : IsCarriedIn shared manager' m' who.number who.end (call_of calls' who.number)

module _ (shared : SharedLink EndState) (manager manager' : Manager) (calls calls' : List (Option CarriedCall)) (host remote : Vec Hand Global) (who : CallerId) (m m' : LinkRings)
    (old : IsManaged shared manager calls host remote m) (s : IsStepped shared manager manager' calls calls' who m m') where
  carried_beside : (n : ℕ) (end : End) (call : Option CarriedCall) → n ≢ who.number → IsCarriedIn shared manager m n end call → IsCarriedIn shared manager' m' n end call
  carried_beside n end None apart carried = λ follows. (s.others (caller_id n end follows) phase.Ended apart (carried follows)).0
  carried_beside n end (Some c) apart carried = let theirs = caller_id n end c.follows in
      ((s.others theirs c.call.phase apart carried.0).0, carried.1, begun_stays who theirs m m' c.call.phase s.grow old.sound (λ is. apart (sym is)) carried.2)

  carried_after : (n : ℕ) (end : End) → end_of m'.callers n ≡ Some end → IsCarriedIn shared manager' m' n end (call_of calls' n)
  carried_after n end user' = let user : end_of m.callers n ≡ Some end = ap (λ callers. end_of callers n) (sym s.users) ∙ user' in
      ⊎_elim (λ (mine : n ≡ who.number). let ends : who.end ≡ end = same_Some who.end end (sym s.user ∙ (ap (end_of m.callers) (sym mine) ∙ user)) in
      subst (λ k. IsCarriedIn shared manager' m' k end (call_of calls' k)) (sym mine) (subst (λ e. IsCarriedIn shared manager' m' who.number e (call_of calls' who.number)) ends s.mine))
      (λ (theirs : n ≡ who.number → ⊥). subst (IsCarriedIn shared manager' m' n end) (sym (s.beside n (λ is. theirs (sym is)))) (carried_beside n end (call_of calls n) theirs (old.callers n end user)))
      (cases_eq n who.number)

  idle_after : (n : ℕ) → end_of m'.callers n ≡ None → call_of calls' n ≡ None
  idle_after n none = let unused : end_of m.callers n ≡ None = ap (λ callers. end_of callers n) (sym s.users) ∙ none in
      ⊎_elim (λ (mine : n ≡ who.number). absurd (none-some who.end (sym unused ∙ (ap (end_of m.callers) mine ∙ s.user))))
      (λ (theirs : n ≡ who.number → ⊥). s.beside n (λ is. theirs (sym is)) ∙ old.idle n unused) (cases_eq n who.number)

  limited : (d : End) → IsLimited (lane_to m d).lane.lane → IsLimited (lane_to m' d).lane.lane
  limited d old_limits = record {
    buffers = subst (λ k. k ≤ CAPACITY_MOST) (sym (s.grow.lanes d).capacity) old_limits.buffers;
    book = subst (λ k. k ≤ BOOK_MOST) (sym (s.grow.lanes d).book) old_limits.book;
  }

  pub managed_after : (host' remote' : Vec Hand Global) → AreHandsOf m' who.end calls' (of_end who.end host' remote') → AreHandsOf m' (other who.end) calls' (of_end (other who.end) host' remote') → IsManaged shared manager' calls' host' remote' m'
  managed_after host' remote' mine theirs = let hands = both_lanes (λ d. AreHandsOf m' d calls' (of_end d host' remote')) who.end mine theirs in record {
    manages = s.manages;
    state = s.state;
    sound = s.sound;
    limits = (limited side.Host old.limits.0, limited side.Remote old.limits.1);
    slots = s.same ∙ old.slots;
    callers = carried_after;
    idle = idle_after;
    to_host = hands side.Host;
    to_remote = hands side.Remote;
  }

pub views_after : (era : Era) (to_host to_remote : LaneView) (end : End) (m : LinkRings) → era ≡ m.era → of_end end to_host to_remote ≡ view_of (lane_to m end).lane → of_end (other end) to_host to_remote ≡ view_of (lane_to m (other end)).lane
    → IsOfCaller (of_end end to_host to_remote).receiver → IsOfCaller (of_end (other end) to_host to_remote).receiver → ShowsViews era to_host to_remote m
views_after era to_host to_remote end m same mine theirs own beside = let views = both_lanes (λ d. of_end d to_host to_remote ≡ view_of (lane_to m d).lane) end mine theirs in let turns = both_lanes (λ d. IsOfCaller (of_end d to_host to_remote).receiver) end own beside in
    record { era_is = same; host_is = views side.Host; remote_is = views side.Remote; receivers = (turns side.Host, turns side.Remote) }

-- a caller in no call is in none, whichever incarnation its next call follows
pub idle_still : (shared : SharedLink EndState) (manager : Manager) (n : ℕ) (end : End) (follows other_follows : ℕ) → CarriesIdle shared manager (caller_id n end follows) → CarriesIdle shared manager (caller_id n end other_follows)
idle_still shared manager n end follows other_follows c = record { user = c.user; low = c.low; number = c.number; counted = c.counted; stands = c.stands }

-- a caller of this end that may begin a call is in none, and its wish fits
pub may_begin : (m : LinkRings) (caller : ℕ) (end : End) (wished : Wish) → end_of m.callers caller ≡ Some end → MayStep (lists_of m) caller (Some wished)
    → (is_calling (lists_of m) caller ≡ false) × IsFitWish wished (lane_to m end).lane.lane.held caller × (in_call caller (lanes_at m end) ≡ false)
may_begin m caller end wished user may = by end (subst (λ o. MayEndStep (lists_of m) o caller (Some wished)) user may.may) (ap (λ o. option_map_or (λ e. is_in_call (lanes_of (lists_of m) e) caller) o false) user)
  where
    by : (e : End) → MayLanesStep (lanes_of (lists_of m) e) caller (Some wished) → is_calling (lists_of m) caller ≡ is_in_call (lanes_of (lists_of m) e) caller
        → (is_calling (lists_of m) caller ≡ false) × IsFitWish wished (lane_to m e).lane.lane.held caller × (in_call caller (lanes_at m e) ≡ false)
    by side.Host fit is = (is ∙ fit.0, fit.1, fit.0)
    by side.Remote fit is = (is ∙ fit.0, fit.1, fit.0)

-- the hands and the view of each end
pub hands_at : (shared : SharedLink EndState) (manager : Manager) (calls : List (Option CarriedCall)) (host remote : Vec Hand Global) (m : LinkRings) → IsManaged shared manager calls host remote m → (end : End) → AreHandsOf m end calls (of_end end host remote)
hands_at shared manager calls host remote m managed side.Host = managed.to_host
hands_at shared manager calls host remote m managed side.Remote = managed.to_remote

pub view_at : (era : Era) (to_host to_remote : LaneView) (m : LinkRings) → ShowsViews era to_host to_remote m → (end : End) → of_end end to_host to_remote ≡ view_of (lane_to m end).lane
view_at era to_host to_remote m shows side.Host = shows.host_is
view_at era to_host to_remote m shows side.Remote = shows.remote_is

pub turn_at : (era : Era) (to_host to_remote : LaneView) (m : LinkRings) → ShowsViews era to_host to_remote m → (end : End) → IsOfCaller (of_end end to_host to_remote).receiver
turn_at era to_host to_remote m shows side.Host = shows.receivers.0
turn_at era to_host to_remote m shows side.Remote = shows.receivers.1

-- a caller of this end that may go on is in a call
pub may_go_on : (m : LinkRings) (caller : ℕ) (end : End) → end_of m.callers caller ≡ Some end → MayStep (lists_of m) caller None → (is_calling (lists_of m) caller ≡ true) × (in_call caller (lanes_at m end) ≡ true)
may_go_on m caller end user may = by end (subst (λ o. MayEndStep (lists_of m) o caller None) user may.may) (ap (λ o. option_map_or (λ e. is_in_call (lanes_of (lists_of m) e) caller) o false) user)
  where
    by : (e : End) → MayLanesStep (lanes_of (lists_of m) e) caller None → is_calling (lists_of m) caller ≡ is_in_call (lanes_of (lists_of m) e) caller → (is_calling (lists_of m) caller ≡ true) × (in_call caller (lanes_at m e) ≡ true)
    by side.Host calls is = (is ∙ calls, calls)
    by side.Remote calls is = (is ∙ calls, calls)

pub alone_at : (m : LinkRings) (caller : ℕ) → SoundLink (lists_of m) → (end : End) → has_call (lane_to m (other end)).lane.sender caller ≡ true → has_call (lane_to m end).lane.receiver caller ≡ false
alone_at m caller sound side.Host = sound.hosts caller
alone_at m caller sound side.Remote = sound.remotes caller

-- there is room for one more in hand, where one more is held behind the step
room_after : (m m' : LinkRings) (d : End) (calls : List (Option CarriedCall)) (hands : Vec Hand Global) → SoundLink (lists_of m') → AreHandsOf m d calls hands → (lane_to m' d).lane.lane.capacity ≡ (lane_to m d).lane.lane.capacity
    → length (lane_to m' d).lane.lane.held ≡ length (lane_to m d).lane.lane.held + 1 → length hands.items < vec_capacity hands
room_after m m' d calls hands sound of capacity more = let lane = (lane_sound m' sound d).lane in let counts = lane.counts in let handed = lane.handed in let out = lane.out in let room = of.room in
    let listed = sym (length-map hands.items holding_of) ∙ ap length of.listed in omega (arith, counts, handed, out, room, listed, capacity, more)

pub settled_room : (who : CallerId) (m m' : LinkRings) (calls : List (Option CarriedCall)) (hands : Vec Hand Global) (said : Answer) → Settles who said m m' → SoundLink (lists_of m') → AreHandsOf m who.end calls hands → HasRoomFor (call_end said) hands
settled_room who m m' calls hands (answer.Took held verdict) s sound of =
    room_after m m' who.end calls hands sound of (ap (λ (l : Lane). l.capacity) s.incoming) (ap (λ (l : Lane). length l.held) s.incoming ∙ length-append (lane_to m who.end).lane.lane.held _)
settled_room who m m' calls hands said s sound of = tt
