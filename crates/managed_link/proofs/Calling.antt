-- Who is in a call, in the state that the manager knows: those whose calls it carries.
use Rattle.std.proofs.Common.{◌≡◌, ◌<◌, ◌≤◌, ◌||◌, ◌&&◌, not, ℕ, Bool, true, false, List, Option, Some, None, Vec, length, get_or, refl, sym, ap, ◌∙◌}
use Rattle.std.proofs.lemmas.Option.{slice_get_past, slice_get_read}
use Rattle.std.specs.Option.{is_some, option_and_then, option_map_or}
use Rattle.std.specs.declared.alloc.Global.{Global}
use Rattle.rp_base.specs.declared.kinds.End.{End}
use Rattle.rp_base.specs.declared.kinds.End.TheVariants as side
use Rattle.lane_model.specs.declared.stages.SendStage.TheVariants as stage
use Rattle.lane_model.specs.declared.stages.TakeStage.TheVariants as take_stage
use Rattle.lane_model.specs.Conditions.{is_calling, is_in_call}
use Rattle.lane_model.specs.Links.{end_of, lanes_of}
use Rattle.channel_bus.specs.Sides.{EndState}
use Rattle.split_ring.specs.declared.callers.CallerId.{CallerId}
use Rattle.split_ring.specs.declared.callers.Manager.{Manager}
use Rattle.split_ring.specs.CallPhases.{Phase}
use Rattle.split_ring.specs.CallPhases as phase
use Rattle.split_ring.specs.declared.links.SharedLink.{SharedLink}
use Rattle.split_ring.specs.Callers.{IsManagerOf, IsStateOf}
use Rattle.split_ring.specs.Carried.{Carries}
use Rattle.split_ring.specs.Phases.{IsUnderWay}
use Rattle.split_ring.specs.Reclaims.{is_turn, lacks_receiver, turn_in}
use Rattle.split_ring.proofs.CarriedStates.{known_of}
use Rattle.managed_link.specs.declared.call_slots.CarriedCall.{CarriedCall}
use Rattle.managed_link.specs.declared.hands.Hand.{Hand}
use Rattle.managed_link.specs.EndCodes.{end_coded}
use Rattle.managed_link.specs.Known.{LinkRings, lists_of}
use Rattle.managed_link.specs.Managed.{IsBegun, IsCarriedIn, IsManaged, call_of, caller_id}

-- whether a call in this phase has the sender's turn, or the receiver's
abbrev has_turn : Phase → Bool
has_turn p = (is_turn (turn_in p) && lacks_receiver (turn_in p)) || not (lacks_receiver (turn_in p))

-- a call that is begun and under way has one
begun_has : (who : CallerId) (m : LinkRings) (p : Phase) → IsUnderWay p → IsBegun who m p → has_turn p ≡ true
begun_has who m (phase.Asked asked) under begun = absurd begun
begun_has who m (phase.Sends stage.Turn c message) under begun = refl
begun_has who m (phase.Sends stage.Era c message) under begun = refl
begun_has who m (phase.Sends stage.Look c message) under begun = refl
begun_has who m (phase.Sends stage.Buffer c message) under begun = refl
begun_has who m (phase.Sends stage.Entry c message) under begun = refl
begun_has who m (phase.Takes take_stage.Turn c buffer) under begun = refl
begun_has who m (phase.Takes take_stage.Era c buffer) under begun = refl
begun_has who m (phase.Takes take_stage.Look c buffer) under begun = refl
begun_has who m (phase.Takes take_stage.Buffer c buffer) under begun = refl
begun_has who m (phase.Gives s held returned) under begun = refl
begun_has who m (phase.Asks asked) under begun = refl
begun_has who m (phase.LeavesSender said) under begun = refl
begun_has who m (phase.LeavesReceiver said) under begun = refl
begun_has who m phase.Ended under begun = absurd under

either_is : {a b x y : Bool} → a ≡ x → b ≡ y → (a || b) ≡ (x || y)
either_is {a} {b} {x} {y} first second = ap (λ c. c || b) first ∙ ap (λ c. x || c) second

module _ (shared : SharedLink EndState) (manager : Manager) (m : LinkRings) (manages : IsManagerOf shared manager) (state : IsStateOf end_coded manager m) where
  -- a caller that is carried in this phase has a turn where the phase has one
  carried_has : (n : ℕ) (end : End) (follows : ℕ) (p : Phase) → Carries shared manager (caller_id n end follows) p → is_in_call (lanes_of (lists_of m) end) n ≡ has_turn p
  carried_has n side.Host follows p carried = let told = known_of end_coded shared manager m (caller_id n side.Host follows) p manages state carried in either_is told.0 told.1
  carried_has n side.Remote follows p carried = let told = known_of end_coded shared manager m (caller_id n side.Remote follows) p manages state carried in either_is told.0 told.1

  pub in_call : (n : ℕ) (end : End) (call : Option CarriedCall) → IsCarriedIn shared manager m n end call → is_in_call (lanes_of (lists_of m) end) n ≡ is_some call
  in_call n end None carried = carried_has n end 0 phase.Ended (carried 0)
  in_call n end (Some c) carried = carried_has n end c.follows c.call.phase carried.0 ∙ begun_has (caller_id n end c.follows) m c.call.phase carried.1 carried.2

-- who is in a call is whose call is carried
pub calling_is : (shared : SharedLink EndState) (manager : Manager) (calls : List (Option CarriedCall)) (host remote : Vec Hand Global) (m : LinkRings) (n : ℕ) → IsManaged shared manager calls host remote m
    → is_calling (lists_of m) n ≡ is_some (call_of calls n)
calling_is shared manager calls host remote m n managed = at (end_of m.callers n) refl
  where
    at : (used : Option End) → end_of m.callers n ≡ used → option_map_or (λ end. is_in_call (lanes_of (lists_of m) end) n) used false ≡ is_some (call_of calls n)
    at None free = sym (ap is_some (managed.idle n free))
    at (Some end) user = in_call shared manager m managed.manages managed.state n end (call_of calls n) (managed.callers n end user)

-- what is read at a caller's number is the call that it is in
pub call_read : (calls seen : List (Option CarriedCall)) (caller place : ℕ) (read : Option CarriedCall) → seen ≡ calls → place ≡ caller → place < length seen → read ≡ get_or seen place read → call_of calls caller ≡ read
call_read calls seen caller place read same at within is = rw (← same, ← at) (ap (option_and_then (λ found. found)) (slice_get_read seen (length seen) place read refl within is))

pub none_read : (calls seen : List (Option CarriedCall)) (caller place : ℕ) → seen ≡ calls → place ≡ caller → length seen ≤ place → call_of calls caller ≡ None
none_read calls seen caller place same at past = rw (← same, ← at) (ap (option_and_then (λ found. found)) (slice_get_past seen place past))

-- a caller that is in no call has none that is carried
none_of : {X : Type 0} (found : Option X) → is_some found ≡ false → found ≡ None
none_of None is = refl
none_of (Some x) is = absurd (cc)

pub rests_in : (shared : SharedLink EndState) (manager : Manager) (calls : List (Option CarriedCall)) (host remote : Vec Hand Global) (m : LinkRings) (n : ℕ) → IsManaged shared manager calls host remote m
    → is_calling (lists_of m) n ≡ false → call_of calls n ≡ None
rests_in shared manager calls host remote m n managed rests = none_of (call_of calls n) (sym (calling_is shared manager calls host remote m n managed) ∙ rests)
