-- A managed link behind a reopening: with no turn out no caller is in a call, and nothing is in hand.
use Rattle.std.proofs.Common.{◌≡◌, ◌⊎◌, ◌≤◌, ◌-◌, ◌^◌, ◌==◌, ◌&&◌, not, ℕ, true, false, if◌then◌else◌, List, [], ◌∷◌, map, Option, Some, None, Vec, vec_capacity, refl, sym, subst, ◌∙◌, inl, inr}
use Rattle.std.proofs.lemmas.Bool.{false≢true}
use Rattle.std.proofs.lemmas.Option.{none-some}
use Rattle.std.specs.Option.{option_map, option_or}
use Rattle.std.specs.declared.alloc.Global.{Global}
use Rattle.rp_base.specs.declared.kinds.End.{End}
use Rattle.rp_base.specs.declared.kinds.End.TheVariants as side
use Rattle.lane_model.specs.declared.recoveries.ReopenFault.{ReopenFault}
use Rattle.lane_model.specs.declared.recoveries.ReopenFault.TheVariants as reopen_fault
use Rattle.lane_model.specs.declared.stages.SendStage.{SendStage}
use Rattle.lane_model.specs.declared.stages.SendStage.TheVariants as stage
use Rattle.lane_model.specs.declared.stages.TakeStage.{TakeStage}
use Rattle.lane_model.specs.declared.stages.TakeStage.TheVariants as take_stage
use Rattle.lane_model.specs.declared.stages.Turn.{Turn}
use Rattle.lane_model.specs.declared.stages.Turn.TheVariants as turn
use Rattle.lane_model.specs.declared.states.Holding.{Holding}
use Rattle.lane_model.specs.Crashes.{least_held, turn_out}
use Rattle.lane_model.specs.Lanes.{has_call, holder}
use Rattle.lane_model.specs.Recoveries.{link_after_reopen, link_reopen_refusal}
use Rattle.lane_model.proofs.CrashMay.{reopen_unheld}
use Rattle.lane_laws.proofs.CrashLaws.{reopen_sound}
use Rattle.channel_bus.specs.Sides.{EndState, side_meaning}
use Rattle.link_words.specs.Words.{lane_to, other}
use Rattle.split_ring.specs.declared.callers.CallerId.{CallerId}
use Rattle.split_ring.specs.declared.callers.Manager.{Manager}
use Rattle.split_ring.specs.CallPhases.{Phase}
use Rattle.split_ring.specs.CallPhases as phase
use Rattle.split_ring.specs.declared.links.SharedLink.{SharedLink}
use Rattle.split_ring.specs.Callers.{IsManagerOf, IsStateOf}
use Rattle.split_ring.specs.Carried.{Keeps}
use Rattle.split_ring.specs.Phases.{IsUnderWay}
use Rattle.split_ring.specs.Reclaims.{is_turn, lacks_receiver, send_turn, take_turn, turn_in}
use Rattle.split_ring.proofs.CarriedStates.{known_of}
use Rattle.managed_link.specs.declared.call_slots.CarriedCall.{CarriedCall}
use Rattle.managed_link.specs.declared.hands.Hand.{Hand}
use Rattle.managed_link.specs.EndCodes.{end_coded}
use Rattle.managed_link.specs.Hands.{holding_of}
use Rattle.managed_link.specs.Known.{LinkRings, lists_of, on_rings}
use Rattle.managed_link.specs.Managed.{AreHandsOf, IsBegun, IsCarriedIn, IsManaged, call_of, caller_id}

neither : {A : Type 0} (one other : Option A) → option_or one other ≡ None → (one ≡ None) × (other ≡ None)
neither None other none = (refl, none)
neither (Some x) other none = absurd (none-some x (sym none))

map_none : {A B : Type 0} (f : A → B) (one : Option A) → option_map f one ≡ None → one ≡ None
map_none f None none = refl
map_none f (Some x) none = absurd (none-some (f x) (sym none))

-- where nothing refuses a reopening that fails, memory is wanting
pub only_memory : (refusal : Option ReopenFault) (why : ReopenFault) → refusal ≡ None → (why ≡ reopen_fault.NoMemory) ⊎ (refusal ≡ Some why) → why ≡ reopen_fault.NoMemory
only_memory refusal why clear (inl wanting) = wanting
only_memory refusal why clear (inr is) = absurd (none-some why (sym clear ∙ is))

-- nobody has a turn of the lane to this end
record IsFreeLane (m : LinkRings) (end : End) : Type 0 where
  sender : holder (lane_to m end).lane.sender ≡ None
  receiver : holder (lane_to m end).lane.receiver ≡ None

all_free : (m : LinkRings) → link_reopen_refusal (lists_of m) ≡ None → (end : End) → IsFreeLane m end
all_free m clear end =
    let link = lists_of m in
    let live : Option ReopenFault = if link.era.is_live then Some (reopen_fault.StillOpen link.era) else None in
    let turned : Option ReopenFault = option_map reopen_fault.StillTurn (option_or (turn_out link.to_host) (turn_out link.to_remote)) in
    let least : Option Holding = option_or (least_held link.to_host.lane.held) (least_held link.to_remote.lane.held) in
    let rest : Option ReopenFault = option_or (option_map (λ (h : Holding). reopen_fault.StillHeld h.caller h.number) least) (if link.era.inc == 2 ^ 32 - 1 then Some reopen_fault.IncarnationsSpent else None) in
    let first = neither {A = ReopenFault} live (option_or turned rest) clear in let second = neither {A = ReopenFault} turned rest first.1 in
    let both = neither {A = ℕ} (turn_out link.to_host) (turn_out link.to_remote) (map_none {A = ℕ} {B = ReopenFault} reopen_fault.StillTurn (option_or (turn_out link.to_host) (turn_out link.to_remote)) second.0) in
    at end both.0 both.1
  where
    at : (e : End) → turn_out m.to_host.lane ≡ None → turn_out m.to_remote.lane ≡ None → IsFreeLane m e
    at side.Host host remote = let two = neither {A = ℕ} (holder m.to_host.lane.sender) (holder m.to_host.lane.receiver) host in record { sender = two.0; receiver = two.1 }
    at side.Remote host remote = let two = neither {A = ℕ} (holder m.to_remote.lane.sender) (holder m.to_remote.lane.receiver) remote in record { sender = two.0; receiver = two.1 }

no_call : {C : Type 0} (now : Turn C) (n : ℕ) → holder now ≡ None → has_call now n ≡ false
no_call turn.Free n none = refl
no_call (turn.Taken caller call) n none = absurd (none-some caller (sym none))
no_call (turn.Leaving caller end) n none = absurd (none-some caller (sym none))
no_call turn.Manager n none = refl

-- a call has a turn once it has done its first step: the sender's, or the receiver's
send_has : (s : SendStage) → (is_turn (send_turn s) && lacks_receiver (send_turn s)) ≡ true
send_has stage.Turn = refl
send_has stage.Era = refl
send_has stage.Look = refl
send_has stage.Buffer = refl
send_has stage.Entry = refl

take_has : (s : TakeStage) → not (lacks_receiver (take_turn s)) ≡ true
take_has take_stage.Turn = refl
take_has take_stage.Era = refl
take_has take_stage.Look = refl
take_has take_stage.Buffer = refl

has_one : (who : CallerId) (m : LinkRings) (p : Phase) → IsUnderWay p → IsBegun who m p → (is_turn (turn_in p) && lacks_receiver (turn_in p)) ≡ false → not (lacks_receiver (turn_in p)) ≡ false → ⊥
has_one who m (phase.Asked asked) under begun sends receives = begun
has_one who m (phase.Sends s c message) under begun sends receives = false≢true (sym sends ∙ send_has s)
has_one who m (phase.Takes s c buffer) under begun sends receives = false≢true (sym receives ∙ take_has s)
has_one who m (phase.Gives s given returned) under begun sends receives = false≢true (sym receives)
has_one who m (phase.Asks asked) under begun sends receives = false≢true (sym receives)
has_one who m (phase.LeavesSender said) under begun sends receives = false≢true (sym sends)
has_one who m (phase.LeavesReceiver said) under begun sends receives = false≢true (sym receives)
has_one who m phase.Ended under begun sends receives = under

-- so it has none where none is out, and is in no call
in_no_call : (shared : SharedLink EndState) (manager : Manager) (m : LinkRings) (n : ℕ) (end : End) (call : Option CarriedCall)
    → IsManagerOf shared manager → IsStateOf end_coded manager m → ((e : End) → IsFreeLane m e) → IsCarriedIn shared manager m n end call → call ≡ None
in_no_call shared manager m n end None manages state free carried = refl
in_no_call shared manager m n end (Some c) manages state free carried =
    let who = caller_id n end c.follows in let p = c.call.phase in let known = known_of end_coded shared manager m who p manages state carried.0 in
    absurd (has_one who m p carried.1 carried.2
    (sym known.0 ∙ no_call (lane_to m (other end)).lane.sender n (free (other end)).sender) (sym known.1 ∙ no_call (lane_to m end).lane.receiver n (free end).receiver))

-- a caller in no call is carried in none
idle_kept : (shared : SharedLink EndState) (before after : Manager) (m m' : LinkRings) (n : ℕ) (end : End) (call : Option CarriedCall)
    → ((who : CallerId) (p : Phase) → Keeps shared before after who p) → call ≡ None → IsCarriedIn shared before m n end call → IsCarriedIn shared after m' n end call
idle_kept shared before after m m' n end None keeps none carried = λ follows. (keeps (caller_id n end follows) phase.Ended (carried follows)).0
idle_kept shared before after m m' n end (Some c) keeps none carried = absurd (none-some c (sym none))

none_in_hand : (hands : List Hand) → map holding_of hands ≡ [] → hands ≡ []
none_in_hand [] none = refl
none_in_hand (h ∷ hs) none = absurd (cc)

-- nothing is held of either lane, before and after
empty_hands : (m m' : LinkRings) (end : End) (calls : List (Option CarriedCall)) (hands : Vec Hand Global)
    → (lane_to m end).lane.lane.held ≡ [] → (lane_to m' end).lane.lane.held ≡ [] → (lane_to m' end).lane.lane.capacity ≡ (lane_to m end).lane.lane.capacity → AreHandsOf m end calls hands → AreHandsOf m' end calls hands
empty_hands m m' end calls hands was is same are = let none = none_in_hand hands.items (are.listed ∙ was) in record {
  listed = are.listed ∙ (was ∙ sym is);
  room = subst (λ (n : ℕ). n ≤ vec_capacity hands) (sym same) are.room;
  own = λ place hand here. absurd (cc);
}

-- the link is managed in its next incarnation
pub managed_reopened : (shared : SharedLink EndState) (before after : Manager) (calls : List (Option CarriedCall)) (host remote : Vec Hand Global) (m : LinkRings)
    → link_reopen_refusal (lists_of m) ≡ None → IsManagerOf shared after → IsStateOf end_coded after (link_after_reopen on_rings m) → ((who : CallerId) (p : Phase) → Keeps shared before after who p)
    → IsManaged shared before calls host remote m → IsManaged shared after calls host remote (link_after_reopen on_rings m)
managed_reopened shared before after calls host remote m clear manages state keeps managed = let free = all_free m clear in let none = reopen_unheld (lists_of m) clear in let m' = link_after_reopen on_rings m in record {
  manages = manages;
  state = state;
  sound = reopen_sound side_meaning (lists_of m);
  limits = (record { buffers = managed.limits.0.buffers; book = managed.limits.0.book }, record { buffers = managed.limits.1.buffers; book = managed.limits.1.book });
  slots = managed.slots;
  callers = λ n end user. let was = managed.callers n end user in idle_kept shared before after m m' n end (call_of calls n) keeps (in_no_call shared before m n end (call_of calls n) managed.manages managed.state free was) was;
  idle = managed.idle;
  to_host = empty_hands m m' side.Host calls host none.0 refl refl managed.to_host;
  to_remote = empty_hands m m' side.Remote calls remote none.1 refl refl managed.to_remote;
}
