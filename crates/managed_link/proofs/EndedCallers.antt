-- A managed link without one of its callers.
use Rattle.std.proofs.Common.{◌≡◌, ◌≢◌, ◌⊎◌, ◌≤◌, ◌<◌, ◌||◌, ◌==◌, ℕ, zero, suc, Bool, true, false, cond, List, [], ◌∷◌, length, get_or, map, slice_set, length-set, Option, Some, None, Vec, vec_capacity, Result, Ok, Err, refl, sym, ap, subst, ◌∙◌, inl, inr, arith}
use mathlib.Core.Option.{some}
use lib.ListN.{get_elem?}
use Rattle.std.specs.Prelude.{slice_get, option_and_then}
use Rattle.std.specs.Option.{option_map}
use Rattle.std.specs.declared.alloc.Global.{Global}
use Rattle.std.proofs.lemmas.Bool.{cases_eq, cond_both, false≢true, ne_eqb}
use Rattle.std.proofs.lemmas.Option.{none-some, same_Some, slice_get_read}
use Rattle.rp_base.specs.declared.kinds.End.{End}
use Rattle.rp_base.specs.declared.kinds.End.TheVariants as side
use Rattle.rp_base.specs.declared.kinds.Era.{Era}
use Rattle.lane_model.specs.declared.recoveries.ReclaimRefusal.{ReclaimRefusal}
use Rattle.lane_model.specs.declared.recoveries.ReclaimRefusal.TheVariants as reclaim_refusal
use Rattle.lane_model.specs.declared.stages.Turn.{Turn}
use Rattle.lane_model.specs.declared.stages.Turn.TheVariants as turn
use Rattle.lane_model.specs.declared.states.Holding.{Holding}
use Rattle.lane_model.specs.declared.states.LaneState.{LaneState}
use Rattle.lane_model.specs.Crashes.{after_receive_end, after_send_end, ended_turn, has_held, held_by_others, needed_holder}
use Rattle.lane_model.specs.Forms.{list_form}
use Rattle.lane_model.specs.Lanes.{holder, holds}
use Rattle.lane_model.specs.Links.{LinkState, end_of, lanes_of}
use Rattle.lane_model.specs.Recoveries.{link_after_reclaim, link_reclaim_refusal, without_caller}
use Rattle.lane_model.specs.Soundness.{AreUsers, IsUser, SoundLink}
use Rattle.lane_model.proofs.CrashSteps.{others_still_hold}
use Rattle.lane_laws.proofs.CrashLaws.{host_is_not, reclaim_sound, remote_is_not}
use Rattle.channel_bus.specs.Sides.{EndState, side_meaning}
use Rattle.link_words.specs.Histories.{hands_of}
use Rattle.link_words.specs.Passes.{HasNumber}
use Rattle.link_words.specs.Words.{lane_to, other}
use Rattle.split_ring.specs.declared.callers.CallerId.{CallerId}
use Rattle.split_ring.specs.declared.callers.Manager.{Manager}
use Rattle.split_ring.specs.CallPhases.{Phase}
use Rattle.split_ring.specs.declared.calls.RingCall.{RingCall}
use Rattle.split_ring.specs.declared.links.SharedLink.{SharedLink}
use Rattle.split_ring.specs.Callers.{IsManagerOf, IsStateOf}
use Rattle.split_ring.specs.Carried.{Carries, Keeps, carried_seat}
use Rattle.split_ring.specs.ManagerCalls.{EndsState}
use Rattle.split_ring.specs.PartsOf.{TellsHands}
use Rattle.split_ring.specs.Reclaims.{phase_of}
use Rattle.split_ring.proofs.CarriedStates.{known_of}
use Rattle.managed_link.specs.declared.call_slots.CarriedCall.{CarriedCall}
use Rattle.managed_link.specs.declared.hands.Hand.{Hand}
use Rattle.managed_link.specs.declared.views.LaneView.{LaneView}
use Rattle.managed_link.specs.EndCodes.{end_coded}
use Rattle.managed_link.specs.Hands.{AreOthers, holding_of}
use Rattle.managed_link.specs.Known.{LinkRings, lists_of, on_rings}
use Rattle.managed_link.specs.Managed.{AreHandsOf, IsCarriedIn, IsLimited, IsManaged, IsOfCaller, ShowsViews, call_of, caller_id, view_of}
use Rattle.managed_link.specs.Views.{if_other}
use Rattle.managed_link.proofs.CallersTurns.{others_turn}
use Rattle.managed_link.proofs.SameLanes.{HasSameBook, carried_kept, hand_kept, hands_kept}

-- what the manager asks to end a caller of this number, whose call is this one
abbrev MayRetire : SharedLink EndState → Manager → ℕ → Option (RingCall EndState) → Bool → Type 0
MayRetire shared manager n call is_holding = (who : CallerId) × (who.number ≡ n) × Carries shared manager who (phase_of call) × TellsHands is_holding (carried_seat who (phase_of call) manager)

-- a slot that is emptied has nothing, and another what it had
slot_same : {A : Type 0} (slots : List (Option A)) (n : ℕ) → option_and_then (λ (found : Option A). found) (slice_get (slice_set slots n None) n) ≡ None
slot_same [] n = refl
slot_same (s ∷ ss) zero = refl
slot_same (s ∷ ss) (suc n) = slot_same ss n

slot_other : {A : Type 0} (slots : List (Option A)) (gone n : ℕ) → gone ≢ n
    → option_and_then (λ (found : Option A). found) (slice_get (slice_set slots gone None) n) ≡ option_and_then (λ (found : Option A). found) (slice_get slots n)
slot_other [] gone n differ = refl
slot_other (s ∷ ss) zero zero differ = absurd (differ refl)
slot_other (s ∷ ss) zero (suc n) differ = refl
slot_other (s ∷ ss) (suc gone) zero differ = refl
slot_other (s ∷ ss) (suc gone) (suc n) differ = slot_other ss gone n (λ same. differ (ap suc same))

-- what a caller holds has a number, or it holds nothing
some_number : (held : List Holding) (n : ℕ) → has_held held n ≡ true → (number : ℕ) × HasNumber (hands_of n held) number
some_number [] n has = absurd (false≢true has)
some_number (h ∷ hs) n has = at (h.caller == n) (λ rest. some_number hs n rest) has
  where
    at : (b : Bool) → (has_held hs n ≡ true → (number : ℕ) × HasNumber (hands_of n hs) number) → (b || has_held hs n) ≡ true → (number : ℕ) × HasNumber (cond b (h.number ∷ hands_of n hs) (hands_of n hs)) number
    at true rest has = (h.number, (0, refl))
    at false rest has = rest has

no_number : (held : List Holding) (n : ℕ) → has_held held n ≡ false → hands_of n held ≡ []
no_number [] n none = refl
no_number (h ∷ hs) n none = at (h.caller == n) (λ rest. no_number hs n rest) none
  where
    at : (b : Bool) → (has_held hs n ≡ false → hands_of n hs ≡ []) → (b || has_held hs n) ≡ false → cond b (h.number ∷ hands_of n hs) (hands_of n hs) ≡ []
    at true rest none = absurd (false≢true (sym none))
    at false rest none = rest none

tells_hands : (shared : SharedLink EndState) (manager : Manager) (m : LinkRings) (who : CallerId) (p : Phase) (is_holding : Bool) → IsManagerOf shared manager → IsStateOf end_coded manager m → Carries shared manager who p
    → is_holding ≡ has_held (lane_to m who.end).lane.lane.held who.number → TellsHands is_holding (carried_seat who p manager)
tells_hands shared manager m who p is_holding manages state carries is = let held = (lane_to m who.end).lane.lane.held in let hands = (known_of end_coded shared manager m who p manages state carries).2 in record {
  some = λ has. subst (λ (own : List ℕ). (number : ℕ) × HasNumber own number) hands (some_number held who.number (sym is ∙ has));
  none = λ none. sym hands ∙ no_number held who.number (sym is ∙ none);
}

-- what the end of a caller asks, in its call or in none
retires : (shared : SharedLink EndState) (manager : Manager) (m : LinkRings) (n : ℕ) (end : End) (found : Option CarriedCall) (is_holding : Bool)
    → IsManagerOf shared manager → IsStateOf end_coded manager m → IsCarriedIn shared manager m n end found → is_holding ≡ has_held (lane_to m end).lane.lane.held n → MayRetire shared manager n (option_map (λ (c : CarriedCall). c.call) found) is_holding
retires shared manager m n end None is_holding manages state carried is = let who = caller_id n end 0 in (who, refl, carried 0, tells_hands shared manager m who _ is_holding manages state (carried 0) is)
retires shared manager m n end (Some c) is_holding manages state carried is = let who = caller_id n end c.follows in (who, refl, carried.0, tells_hands shared manager m who c.call.phase is_holding manages state carried.0 is)

pub may_retire : (shared : SharedLink EndState) (manager : Manager) (calls : List (Option CarriedCall)) (host remote : Vec Hand Global) (m : LinkRings) (caller : ℕ) (end : End) (found : Option CarriedCall) (call : Option (RingCall EndState)) (is_holding : Bool)
    → IsManaged shared manager calls host remote m → Some end ≡ end_of manager.users caller → found ≡ call_of calls caller → call ≡ option_map (λ (c : CarriedCall). c.call) found → is_holding ≡ has_held (lane_to m end).lane.lane.held caller
    → MayRetire shared manager caller call is_holding
may_retire shared manager calls host remote m caller end found call is_holding managed user found_is call_is holding_is =
    subst (λ (x : Option (RingCall EndState)). MayRetire shared manager caller x is_holding) (sym (call_is ∙ ap (option_map (λ (c : CarriedCall). c.call)) found_is))
    (retires shared manager m caller end (call_of calls caller) is_holding managed.manages managed.state (managed.callers caller end (ap (λ (us : List (Option End)). end_of us caller) (sym managed.state.users) ∙ sym user)) holding_is)

-- the call that stands in the slot of a caller
pub call_at : (calls : List (Option CarriedCall)) (caller slot : ℕ) (found : Option CarriedCall) → length calls ≡ 64 → caller < 64 → slot ≡ caller → found ≡ get_or calls slot found → found ≡ call_of calls caller
call_at calls caller slot found slots low same is =
    sym (ap (option_and_then (λ (x : Option CarriedCall). x)) (slice_get_read calls 64 caller found (sym slots) low (is ∙ ap (λ (k : ℕ). get_or calls k found) same)))

-- whether it has something in hand, by the hands of the callers of its end
pub holding_at : (m : LinkRings) (end at : End) (calls : List (Option CarriedCall)) (hands : Vec Hand Global) (items : List Hand) (caller : ℕ) (is_holding : Bool)
    → at ≡ end → AreHandsOf m end calls hands → items ≡ hands.items → is_holding ≡ has_held (map holding_of items) caller → is_holding ≡ has_held (lane_to m at).lane.lane.held caller
holding_at m end at calls hands items caller is_holding same are items_are is =
    is ∙ (ap (λ (xs : List Hand). has_held (map holding_of xs) caller) items_are ∙ (ap (λ (held : List Holding). has_held held caller) are.listed ∙ ap (λ (e : End). has_held (lane_to m e).lane.lane.held caller) (sym same)))

-- nothing refuses it, so the state is that behind a reclaim
pub state_ended : (m : LinkRings) (caller : ℕ) (said : Result (Unit {0}) ReclaimRefusal) (after : Manager) → link_reclaim_refusal (lists_of m) caller ≡ None
    → EndsState end_coded side_meaning m caller said after → IsStateOf end_coded after (link_after_reclaim on_rings m caller)
state_ended m caller (Ok done) after clear ends = ends.1
state_ended m caller (Err why) after clear ends = absurd (none-some why (sym clear ∙ ends.0))

-- the manager ended this caller of this end, whom nothing kept from it, and keeps the others
pub record HasEnded (shared : SharedLink EndState) (before after : Manager) (m : LinkRings) (caller : ℕ) (end : End) : Type 0 where
  pub user : end_of m.callers caller ≡ Some end
  pub low : caller < 64
  pub clear : link_reclaim_refusal (lists_of m) caller ≡ None
  pub manages : IsManagerOf shared after
  pub state : IsStateOf end_coded after (link_after_reclaim on_rings m caller)
  pub others : (who : CallerId) (p : Phase) → who.number ≢ caller → Keeps shared before after who p

pub has_ended : (shared : SharedLink EndState) (before after : Manager) (calls : List (Option CarriedCall)) (host remote : Vec Hand Global) (m : LinkRings) (caller : ℕ) (end at : End) (said : Result (Unit {0}) ReclaimRefusal)
    → IsManaged shared before calls host remote m → at ≡ end → Some at ≡ end_of before.users caller → caller < 64 → link_reclaim_refusal (lists_of m) caller ≡ None → IsManagerOf shared after
    → EndsState end_coded side_meaning m caller said after → ((who : CallerId) (p : Phase) → who.number ≢ caller → Keeps shared before after who p) → HasEnded shared before after m caller end
has_ended shared before after calls host remote m caller end at said managed same user low clear manages ends others = record {
  user = ap (λ (us : List (Option End)). end_of us caller) (sym managed.state.users) ∙ (sym user ∙ ap (λ (e : End). Some e) same);
  low = low;
  clear = clear;
  manages = manages;
  state = state_ended m caller said after clear ends;
  others = others;
}

-- what is dropped from the hands of an end
pub record DropsHands (caller : ℕ) (before after : Vec Hand Global) : Type 0 where
  pub listed : map holding_of after.items ≡ held_by_others (map holding_of before.items) caller
  pub others : AreOthers caller before.items after.items
  pub room : vec_capacity after ≡ vec_capacity before

closed_by : (link : LinkState EndState) (caller : ℕ) → link_reclaim_refusal link caller ≡ None → link.era.is_live ≡ false
closed_by link caller clear =
    let busy : Option ReclaimRefusal = option_map reclaim_refusal.Busy (option_and_then (λ (end : End). needed_holder (lanes_of link end).incoming caller) (end_of link.callers caller)) in
    cond_both link.era.is_live (Some (reclaim_refusal.StillOpen link.era)) busy (λ (why : Option ReclaimRefusal). why ≡ None → link.era.is_live ≡ false) (λ _ none. absurd (none-some (reclaim_refusal.StillOpen link.era) (sym none))) (λ shut _. shut) clear

users_at : (callers : List (Option End)) (end : End) (hands : List Hand) → AreUsers callers end (map holding_of hands) → (place : ℕ) (hand : Hand) → get_elem? hands place ≡ some hand → IsUser callers end hand.caller
users_at callers end [] users place hand here = absurd (cc)
users_at callers end (h ∷ hs) users zero hand here = let same : h ≡ hand = cc in subst (λ (x : Hand). IsUser callers end x.caller) same users.0
users_at callers end (h ∷ hs) users (suc place) hand here = users_at callers end hs users.1 place hand here

other_end : (end : End) → Some end ≡ Some (other end) → ⊥
other_end side.Host same = host_is_not (same_Some side.Host side.Remote same)
other_end side.Remote same = remote_is_not (same_Some side.Remote side.Host same)

-- the holder of a turn, without this caller
holder_cond : {C : Type 0} (b : Bool) (caller : ℕ) (now : Turn C) → holder now ≡ Some caller → cond b None (Some caller) ≡ holder (cond b turn.Free now)
holder_cond true caller now is = refl
holder_cond false caller now is = sym is

holder_ended : {C : Type 0} (now : Turn C) (n : ℕ) → n < 64 → if_other (holder now) n ≡ holder (ended_turn now n)
holder_ended turn.Free n low = refl
holder_ended (turn.Taken caller call) n low = holder_cond (caller == n) caller (turn.Taken caller call) refl
holder_ended (turn.Leaving caller end) n low = holder_cond (caller == n) caller (turn.Leaving caller end) refl
holder_ended turn.Manager n low = rw (ne_eqb 64 n (λ same. omega arith)) refl

incoming_view : (view : LaneView) (state : LaneState EndState) (n : ℕ) → n < 64 → view ≡ view_of state → record view { receiver = if_other view.receiver n } ≡ view_of (after_receive_end state n)
incoming_view view state n low is = ap (λ (v : LaneView). record v { receiver = if_other v.receiver n }) is ∙ (λ i. record (view_of state) { receiver = holder_ended state.receiver n low i })

outgoing_view : (view : LaneView) (state : LaneState EndState) (n : ℕ) → n < 64 → view ≡ view_of state → record view { sender = if_other view.sender n } ≡ view_of (after_send_end state n)
outgoing_view view state n low is = ap (λ (v : LaneView). record v { sender = if_other v.sender n }) is ∙ (λ i. record (view_of state) { sender = holder_ended state.sender n low i })

module _ (m : LinkRings) (caller : ℕ) where
  -- the link without this caller of this end
  abbrev link_without : End → LinkRings
  link_without end = without_caller on_rings m (Some end) caller

  at_without : (P : LinkRings → Type 0) (end : End) → end_of m.callers caller ≡ Some end → P (link_without end) → P (link_after_reclaim on_rings m caller)
  at_without P end user holds = subst (λ (found : Option End). P (without_caller on_rings m found caller)) (sym user) holds

  same_book : (end e : End) → HasSameBook m (link_without end) e
  same_book side.Host side.Host = refl
  same_book side.Host side.Remote = refl
  same_book side.Remote side.Host = refl
  same_book side.Remote side.Remote = refl

  -- another holds what it held
  others_hold : (end e : End) (n number : ℕ) → (n ≡ caller → ⊥) → holds (lane_to m e).lane.lane.held number n ≡ true → holds (lane_to (link_without end) e).lane.lane.held number n ≡ true
  others_hold side.Host side.Host n number differ has = others_still_hold m.to_host.lane.lane.held caller number n (ne_eqb n caller differ) has
  others_hold side.Host side.Remote n number differ has = has
  others_hold side.Remote side.Host n number differ has = has
  others_hold side.Remote side.Remote n number differ has = others_still_hold m.to_remote.lane.lane.held caller number n (ne_eqb n caller differ) has

  limits_without : (end : End) → IsLimited m.to_host.lane.lane × IsLimited m.to_remote.lane.lane → IsLimited (link_without end).to_host.lane.lane × IsLimited (link_without end).to_remote.lane.lane
  limits_without side.Host limits = (record { buffers = limits.0.buffers; book = limits.0.book }, limits.1)
  limits_without side.Remote limits = (limits.0, record { buffers = limits.1.buffers; book = limits.1.book })

  incoming_held : (end : End) → (lane_to (link_without end) end).lane.lane.held ≡ held_by_others (lane_to m end).lane.lane.held caller
  incoming_held side.Host = refl
  incoming_held side.Remote = refl

  incoming_room : (end : End) → (lane_to (link_without end) end).lane.lane.capacity ≡ (lane_to m end).lane.lane.capacity
  incoming_room side.Host = refl
  incoming_room side.Remote = refl

  outgoing_lists : (end : End) → (lane_to (link_without end) (other end)).lane.lane ≡ (lane_to m (other end)).lane.lane
  outgoing_lists side.Host = refl
  outgoing_lists side.Remote = refl

  same_lists : (end : End) → without_caller (list_form side_meaning) (lists_of m) (Some end) caller ≡ lists_of (link_without end)
  same_lists side.Host = refl
  same_lists side.Remote = refl

  sound_without : (end : End) → end_of m.callers caller ≡ Some end → m.era.is_live ≡ false → SoundLink (lists_of m) → SoundLink (lists_of (link_without end))
  sound_without end user shut sound = subst (λ (link : LinkState EndState). SoundLink link) (ap (λ (found : Option End). without_caller (list_form side_meaning) (lists_of m) found caller) user ∙ same_lists end)
      (reclaim_sound side_meaning (lists_of m) caller shut sound)

  users_of : (end : End) → SoundLink (lists_of m) → AreUsers m.callers end (lane_to m end).lane.lane.held
  users_of side.Host sound = sound.to_host.users
  users_of side.Remote sound = sound.to_remote.users

  -- the buffers in the hands of the callers of its end, and of the other
  incoming_hands : (end : End) (calls : List (Option CarriedCall)) (before after : Vec Hand Global) → DropsHands caller before after → AreHandsOf m end calls before → AreHandsOf (link_without end) end (slice_set calls caller None) after
  incoming_hands end calls before after drops are = record {
    listed = drops.listed ∙ (ap (λ (held : List Holding). held_by_others held caller) are.listed ∙ sym (incoming_held end));
    room = subst (λ (n : ℕ). n ≤ vec_capacity after) (sym (incoming_room end)) (subst (λ (n : ℕ). (lane_to m end).lane.lane.capacity ≤ n) (sym drops.room) are.room);
    own = λ place hand here. let was = drops.others place hand here in
        hand_kept m (link_without end) end calls (slice_set calls caller None) hand hand.held (same_book end end) (slot_other calls caller hand.caller (λ same. was.0 (sym same))) (are.own was.1.0 hand was.1.1);
  }

  outgoing_hands : (end : End) (calls : List (Option CarriedCall)) (hands : Vec Hand Global) → end_of m.callers caller ≡ Some end → SoundLink (lists_of m)
      → AreHandsOf m (other end) calls hands → AreHandsOf (link_without end) (other end) (slice_set calls caller None) hands
  outgoing_hands end calls hands user sound are =
      let users : AreUsers m.callers (other end) (map holding_of hands.items) = subst (λ (held : List Holding). AreUsers m.callers (other end) held) (sym are.listed) (users_of (other end) sound) in
      hands_kept m (link_without end) (other end) calls (slice_set calls caller None) hands (outgoing_lists end) (λ place hand here. slot_other calls caller hand.caller (λ same.
      other_end end (sym user ∙ (ap (λ (n : ℕ). end_of m.callers n) same ∙ users_at m.callers (other end) hands.items users place hand here)))) are

  module _ (shared : SharedLink EndState) (before after : Manager) (calls : List (Option CarriedCall)) (host remote : Vec Hand Global) (managed : IsManaged shared before calls host remote m) where
    abbrev calls_without : List (Option CarriedCall)
    calls_without = slice_set calls caller None

    others_carried : (end : End) → HasEnded shared before after m caller end → (n : ℕ) (e : End) → end_of (slice_set m.callers caller None) n ≡ Some e → IsCarriedIn shared after (link_without end) n e (call_of calls_without n)
    others_carried end ended n e user = at (cases_eq caller n)
      where
        at : (caller ≡ n) ⊎ (caller ≡ n → ⊥) → IsCarriedIn shared after (link_without end) n e (call_of calls_without n)
        at (inl same) = absurd (none-some e (sym (ap (λ (k : ℕ). end_of (slice_set m.callers k None) n) same ∙ slot_same m.callers n) ∙ user))
        at (inr differ) = subst (λ (found : Option CarriedCall). IsCarriedIn shared after (link_without end) n e found) (sym (slot_other calls caller n differ))
            (carried_kept shared before after m (link_without end) n e (call_of calls n) (λ follows p. ended.others (caller_id n e follows) p (λ same. differ (sym same)))
            (record { book = same_book end e; held = λ number has. others_hold end e n number (λ same. differ (sym same)) has })
            (managed.callers n e (sym (slot_other m.callers caller n differ) ∙ user)))

    others_idle : (n : ℕ) → end_of (slice_set m.callers caller None) n ≡ None → call_of calls_without n ≡ None
    others_idle n free = at (cases_eq caller n)
      where
        at : (caller ≡ n) ⊎ (caller ≡ n → ⊥) → call_of calls_without n ≡ None
        at (inl same) = ap (λ (k : ℕ). call_of (slice_set calls k None) n) same ∙ slot_same calls n
        at (inr differ) = slot_other calls caller n differ ∙ managed.idle n (sym (slot_other m.callers caller n differ) ∙ free)

    -- it is managed, whose hands are these
    managed_without : (end : End) (host' remote' : Vec Hand Global) → HasEnded shared before after m caller end → AreHandsOf (link_without end) side.Host calls_without host' → AreHandsOf (link_without end) side.Remote calls_without remote'
        → IsManaged shared after calls_without host' remote' (link_without end)
    managed_without end host' remote' ended to_host to_remote = record {
      manages = ended.manages;
      state = subst (λ (found : Option End). IsStateOf end_coded after (without_caller on_rings m found caller)) ended.user ended.state;
      sound = sound_without end ended.user (closed_by (lists_of m) caller ended.clear) managed.sound;
      limits = limits_without end managed.limits;
      slots = length-set calls caller None ∙ managed.slots;
      callers = others_carried end ended;
      idle = others_idle;
      to_host = to_host;
      to_remote = to_remote;
    }

    pub managed_host : (calls' : List (Option CarriedCall)) (host' : Vec Hand Global) → calls' ≡ calls_without → HasEnded shared before after m caller side.Host → DropsHands caller host host'
        → IsManaged shared after calls' host' remote (link_after_reclaim on_rings m caller)
    managed_host calls' host' calls_are ended drops = at_without (λ (x : LinkRings). IsManaged shared after calls' host' remote x) side.Host ended.user
        (subst (λ (cs : List (Option CarriedCall)). IsManaged shared after cs host' remote (link_without side.Host)) (sym calls_are)
        (managed_without side.Host host' remote ended (incoming_hands side.Host calls host host' drops managed.to_host) (outgoing_hands side.Host calls remote ended.user managed.sound managed.to_remote)))

    pub managed_remote : (calls' : List (Option CarriedCall)) (remote' : Vec Hand Global) → calls' ≡ calls_without → HasEnded shared before after m caller side.Remote → DropsHands caller remote remote'
        → IsManaged shared after calls' host remote' (link_after_reclaim on_rings m caller)
    managed_remote calls' remote' calls_are ended drops = at_without (λ (x : LinkRings). IsManaged shared after calls' host remote' x) side.Remote ended.user
        (subst (λ (cs : List (Option CarriedCall)). IsManaged shared after cs host remote' (link_without side.Remote)) (sym calls_are)
        (managed_without side.Remote host remote' ended (outgoing_hands side.Remote calls host ended.user managed.sound managed.to_host) (incoming_hands side.Remote calls remote remote' drops managed.to_remote)))

  module _ (era : Era) (to_host to_remote : LaneView) (low : caller < 64) (shows : ShowsViews era to_host to_remote m) where
    pub shows_host : (in' out' : LaneView) → end_of m.callers caller ≡ Some side.Host → in' ≡ record to_host { receiver = if_other to_host.receiver caller } → out' ≡ record to_remote { sender = if_other to_remote.sender caller }
        → ShowsViews era in' out' (link_after_reclaim on_rings m caller)
    shows_host in' out' user in_is out_is = at_without (λ (x : LinkRings). ShowsViews era in' out' x) side.Host user (record {
      era_is = shows.era_is;
      host_is = in_is ∙ incoming_view to_host m.to_host.lane caller low shows.host_is;
      remote_is = out_is ∙ outgoing_view to_remote m.to_remote.lane caller low shows.remote_is;
      receivers = (subst (λ (v : LaneView). IsOfCaller v.receiver) (sym in_is) (others_turn to_host.receiver caller shows.receivers.0), subst (λ (v : LaneView). IsOfCaller v.receiver) (sym out_is) shows.receivers.1);
    })

    pub shows_remote : (in' out' : LaneView) → end_of m.callers caller ≡ Some side.Remote → in' ≡ record to_remote { receiver = if_other to_remote.receiver caller } → out' ≡ record to_host { sender = if_other to_host.sender caller }
        → ShowsViews era out' in' (link_after_reclaim on_rings m caller)
    shows_remote in' out' user in_is out_is = at_without (λ (x : LinkRings). ShowsViews era out' in' x) side.Remote user (record {
      era_is = shows.era_is;
      host_is = out_is ∙ outgoing_view to_host m.to_host.lane caller low shows.host_is;
      remote_is = in_is ∙ incoming_view to_remote m.to_remote.lane caller low shows.remote_is;
      receivers = (subst (λ (v : LaneView). IsOfCaller v.receiver) (sym out_is) shows.receivers.0, subst (λ (v : LaneView). IsOfCaller v.receiver) (sym in_is) (others_turn to_remote.receiver caller shows.receivers.1));
    })
