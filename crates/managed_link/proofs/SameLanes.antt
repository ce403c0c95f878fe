-- A managed link whose lists stay as they are, and whose callers do, is managed as before.
use Rattle.std.proofs.Common.{◌≡◌, ◌≤◌, ℕ, List, true, Option, Some, None, Vec, vec_capacity, refl, sym, ap, subst, ◌∙◌}
use mathlib.Core.Option.{some}
use lib.ListN.{get_elem?}
use Rattle.std.specs.Option.{option_map}
use Rattle.std.specs.declared.alloc.Global.{Global}
use Rattle.rp_base.specs.declared.kinds.End.{End}
use Rattle.rp_base.specs.declared.kinds.End.TheVariants as side
use Rattle.lane_model.specs.declared.calls.Answer.{Answer}
use Rattle.lane_model.specs.declared.calls.Answer.TheVariants as answer
use Rattle.lane_model.specs.declared.states.BookEntry.{BookEntry}
use Rattle.lane_model.specs.declared.states.Lane.{Lane}
use Rattle.lane_model.specs.HeldBuffers.{HeldBuffer}
use Rattle.lane_model.specs.Lanes.{holds, message_at}
use Rattle.lane_model.specs.Links.{end_of}
use Rattle.lane_model.specs.Soundness.{SoundLink}
use Rattle.channel_bus.specs.Sides.{EndState}
use Rattle.link_words.specs.Passes.{HasNumber}
use Rattle.link_words.specs.Words.{lane_to}
use Rattle.split_ring.specs.declared.callers.CallerId.{CallerId}
use Rattle.split_ring.specs.declared.callers.Manager.{Manager}
use Rattle.split_ring.specs.CallPhases.{Phase}
use Rattle.split_ring.specs.CallPhases as phase
use Rattle.split_ring.specs.declared.links.SharedLink.{SharedLink}
use Rattle.split_ring.specs.Callers.{IsManagerOf, IsStateOf}
use Rattle.split_ring.specs.Carried.{Keeps}
use Rattle.split_ring.specs.Handed.{IsOwnBuffer, LeavesLanes}
use Rattle.split_ring.specs.Reclaims.{buffer_in, phase_of}
use Rattle.managed_link.specs.declared.call_slots.CarriedCall.{CarriedCall}
use Rattle.managed_link.specs.declared.hands.Hand.{Hand}
use Rattle.managed_link.specs.EndCodes.{end_coded}
use Rattle.managed_link.specs.Known.{LinkRings, lists_of}
use Rattle.managed_link.specs.Managed.{AreHandsOf, IsBegun, IsCarriedIn, IsHandOf, IsLimited, IsManaged, IsOwnAnswer, call_of, caller_id}

-- the lane to an end has the same book
abbrev pub HasSameBook : LinkRings → LinkRings → End → Type 0
HasSameBook m m' end = (lane_to m' end).lane.lane.accepted ≡ (lane_to m end).lane.lane.accepted

own_kept : (who : CallerId) (m m' : LinkRings) (held : HeldBuffer) → HasSameBook m m' who.end → IsOwnBuffer who m held → IsOwnBuffer who m' held
own_kept who m m' held same own = record { lane = own.lane; caller = own.caller; message = own.message ∙ ap (λ (book : List BookEntry). message_at book held.number) (sym same) }

-- and this caller holds there what it held
pub record KeepsOwn (m m' : LinkRings) (end : End) (n : ℕ) : Type 0 where
  pub book : HasSameBook m m' end
  pub held : (number : ℕ) → holds (lane_to m end).lane.lane.held number n ≡ true → holds (lane_to m' end).lane.lane.held number n ≡ true

answer_kept : (who : CallerId) (m m' : LinkRings) (said : Answer) → KeepsOwn m m' who.end who.number → IsOwnAnswer who m said → IsOwnAnswer who m' said
answer_kept who m m' (answer.Took held verdict) kept own = (own_kept who m m' held kept.book own.0, kept.held held.number own.1)
answer_kept who m m' said kept own = own

begun_kept : (who : CallerId) (m m' : LinkRings) (p : Phase) → KeepsOwn m m' who.end who.number → IsBegun who m p → IsBegun who m' p
begun_kept who m m' (phase.LeavesSender said) kept begun = answer_kept who m m' said kept begun
begun_kept who m m' (phase.LeavesReceiver said) kept begun = answer_kept who m m' said kept begun
begun_kept who m m' other kept begun = begun

-- a caller is carried in its call as before
pub carried_kept : (shared : SharedLink EndState) (before after : Manager) (m m' : LinkRings) (n : ℕ) (end : End) (call : Option CarriedCall)
    → ((follows : ℕ) (p : Phase) → Keeps shared before after (caller_id n end follows) p) → KeepsOwn m m' end n → IsCarriedIn shared before m n end call → IsCarriedIn shared after m' n end call
carried_kept shared before after m m' n end None keeps kept carried = λ follows. (keeps follows phase.Ended (carried follows)).0
carried_kept shared before after m m' n end (Some c) keeps kept carried =
    ((keeps c.follows c.call.phase carried.0).0, carried.1, begun_kept (caller_id n end c.follows) m m' c.call.phase kept carried.2)

-- a buffer in hand whose caller is in the same call is where it was
pub hand_kept : (m m' : LinkRings) (end : End) (calls calls' : List (Option CarriedCall)) (hand : Hand) (held : Option HeldBuffer)
    → HasSameBook m m' end → call_of calls' hand.caller ≡ call_of calls hand.caller → IsHandOf m end calls hand held → IsHandOf m' end calls' hand held
hand_kept m m' end calls calls' hand (Some held) same call own = (own_kept (caller_id hand.caller end 0) m m' held same own.0, own.1)
hand_kept m m' end calls calls' hand None same call own =
    subst (λ (found : Option CarriedCall). HasNumber (buffer_in (phase_of (option_map (λ (c : CarriedCall). c.call) found))) hand.number) (sym call) own

-- each buffer in these hands has its caller in the same call
abbrev pub AreInSameCalls : List (Option CarriedCall) → List (Option CarriedCall) → List Hand → Type 0
AreInSameCalls calls calls' hands = (place : ℕ) (hand : Hand) → get_elem? hands place ≡ some hand → call_of calls' hand.caller ≡ call_of calls hand.caller

pub hands_kept : (m m' : LinkRings) (end : End) (calls calls' : List (Option CarriedCall)) (hands : Vec Hand Global)
    → (lane_to m' end).lane.lane ≡ (lane_to m end).lane.lane → AreInSameCalls calls calls' hands.items → AreHandsOf m end calls hands → AreHandsOf m' end calls' hands
hands_kept m m' end calls calls' hands same in_calls are = record {
  listed = are.listed ∙ ap (λ (lane : Lane). lane.held) (sym same);
  room = subst (λ (lane : Lane). lane.capacity ≤ vec_capacity hands) (sym same) are.room;
  own = λ place hand here. hand_kept m m' end calls calls' hand hand.held (ap (λ (lane : Lane). lane.accepted) same) (in_calls place hand here) (are.own place hand here);
}

-- the lists of the lane to each end
lists_kept : (m m' : LinkRings) (end : End) → LeavesLanes m m' → (lane_to m' end).lane.lane ≡ (lane_to m end).lane.lane
lists_kept m m' side.Host leaves = leaves.to_host
lists_kept m m' side.Remote leaves = leaves.to_remote

own_stays : (m m' : LinkRings) (end : End) (n : ℕ) → LeavesLanes m m' → KeepsOwn m m' end n
own_stays m m' end n leaves = let same = lists_kept m m' end leaves in record {
  book = ap (λ (lane : Lane). lane.accepted) same;
  held = λ number has. ap (λ (lane : Lane). holds lane.held number n) same ∙ has;
}

-- the link is managed as before, in a state with the same lists and callers
pub managed_kept : (shared : SharedLink EndState) (before after : Manager) (calls : List (Option CarriedCall)) (host remote : Vec Hand Global) (m m' : LinkRings)
    → IsManagerOf shared after → IsStateOf end_coded after m' → SoundLink (lists_of m') → LeavesLanes m m' → m'.callers ≡ m.callers → ((who : CallerId) (p : Phase) → Keeps shared before after who p)
    → IsManaged shared before calls host remote m → IsManaged shared after calls host remote m'
managed_kept shared before after calls host remote m m' manages state sound leaves users keeps managed = record {
  manages = manages;
  state = state;
  sound = sound;
  limits = (subst (λ (lane : Lane). IsLimited lane) (sym leaves.to_host) managed.limits.0, subst (λ (lane : Lane). IsLimited lane) (sym leaves.to_remote) managed.limits.1);
  slots = managed.slots;
  callers = λ n end user. carried_kept shared before after m m' n end (call_of calls n) (λ follows p. keeps (caller_id n end follows) p) (own_stays m m' end n leaves)
      (managed.callers n end (ap (λ (us : List (Option End)). end_of us n) (sym users) ∙ user));
  idle = λ n free. managed.idle n (ap (λ (us : List (Option End)). end_of us n) (sym users) ∙ free);
  to_host = hands_kept m m' side.Host calls calls host leaves.to_host (λ place hand here. refl) managed.to_host;
  to_remote = hands_kept m m' side.Remote calls calls remote leaves.to_remote (λ place hand here. refl) managed.to_remote;
}
