-- What comes of an act: whose numbers its answer names, and of which call it tells.
use Rattle.std.proofs.Common.{◌≡◌, ◌⊎◌, ℕ, ◌≤◌, Bool, true, false, nat_le, nat_lt, cond, List, [], ◌∷◌, length, Option, Some, None, IfSome, is_some, option_map, Ok, Err, refl, inl, inr}
use Rattle.std.specs.Option.{option_or}
use Rattle.std.proofs.lemmas.Bool.{cond_both}
use Rattle.rp_base.specs.declared.kinds.End.{End}
use Rattle.rp_base.specs.declared.kinds.End.TheVariants as side
use Rattle.rp_base.specs.declared.limits.TheConstants.{PAYLOAD_MOST}
use Rattle.lane_model.specs.declared.calls.Wish.{Wish}
use Rattle.lane_model.specs.Conditions.{is_holding}
use Rattle.lane_model.specs.Links.{end_of, free_number}
use Rattle.lane_model.specs.Recoveries.{link_reclaim_refusal}
use Rattle.link_bench.specs.declared.acts.ActAnswer.{ActAnswer}
use Rattle.link_bench.specs.declared.acts.ActAnswer.TheVariants as answer
use Rattle.link_bench.specs.declared.acts.CallWish.{CallWish}
use Rattle.link_bench.specs.declared.acts.CallWish.TheVariants as call
use Rattle.link_bench.specs.declared.acts.How.{How}
use Rattle.link_bench.specs.declared.acts.LinkAct.{LinkAct}
use Rattle.link_bench.specs.declared.acts.LinkAct.TheVariants as act
use Rattle.link_bench.specs.declared.benches.BenchFault.{BenchFault}
use Rattle.link_bench.specs.declared.benches.BenchFault.TheVariants as fault
use Rattle.link_bench.specs.declared.benches.Reach.{Reach}
use Rattle.link_bench.specs.declared.turns.TurnEnd.{TurnEnd}
use Rattle.link_bench.specs.declared.turns.TurnEnd.TheVariants as turn_end
use Rattle.link_bench.specs.ActParts.{ActPart, Advances, Calls, Sees}
use Rattle.link_bench.specs.Acts.{first_refusal, misfit, own_caller, own_in, pump_refusal, side_refusal}
use Rattle.link_bench.specs.BenchCrashes.{reclaim_end}
use Rattle.link_bench.specs.Benches.{BenchState, advance_fault, advance_walk, call_walk, caller_fault, calling_fault, is_in_call, link_in, used_fault}
use Rattle.link_bench.specs.Turns.{reach_number}
use Rattle.link_bench.specs.Watchers.{Seeing}
use Rattle.link_bench.proofs.ActParts.{Does, MayPart}

-- ---- what an answer names

-- an act is for this caller
abbrev pub IsCallerOf : LinkAct (List ℕ) → ℕ → Type 0
IsCallerOf (act.Caller end) caller = ⊥
IsCallerOf (act.Call asked made wanted) caller = asked ≡ caller
IsCallerOf (act.Step asked more) caller = asked ≡ caller
IsCallerOf (act.Pump sender receiver count) caller = (sender ≡ caller) ⊎ (receiver ≡ caller)
IsCallerOf (act.Reclaim asked) caller = asked ≡ caller

-- this number is the length of what an act sends, or that of the message that it gives back
abbrev pub IsNamed : LinkAct (List ℕ) → ℕ → Type 0
IsNamed (act.Call caller made (call.Send source destination payload)) number = length payload ≡ number
IsNamed (act.Call caller made (call.Give given)) number = given ≡ number
IsNamed other number = ⊥

-- an act makes no more turns than these
abbrev pub AreTurnsOf : LinkAct (List ℕ) → ℕ → Type 0
AreTurnsOf (act.Pump sender receiver count) done = done ≤ count
AreTurnsOf other done = ⊥

-- a fault that names a number names one of these
abbrev pub IsFaultOf : (ℕ → Type 0) → BenchFault → Type 0
IsFaultOf Is (fault.NotHeld number) = Is number
IsFaultOf Is other = Unit {0}

-- ---- which call an answer tells of

-- these parts are one call or steps of one, of which the watcher sees how far it came
pub data Reaches (own : ℕ) (Fits : Wish → Type 0) (bench : BenchState) : List ActPart → BenchState → ℕ → Reach → Type 0 where
  OfCall : (steps caller : ℕ) (wanted : Wish) → MayPart own Fits bench (Calls steps caller wanted)
      → Reaches own Fits bench (Calls steps caller wanted ∷ Sees caller (call_walk bench steps caller wanted).reach ∷ []) (call_walk bench steps caller wanted).bench caller
      (call_walk bench steps caller wanted).reach
  OfSteps : (more steps caller : ℕ) → MayPart own Fits bench (Advances more steps caller)
      → Reaches own Fits bench (Advances more steps caller ∷ Sees caller (advance_walk bench more steps caller).reach ∷ []) (advance_walk bench more steps caller).bench caller
      (advance_walk bench more steps caller).reach

-- a whole call of a caller came so far, on a bench to which parts lead
pub data Came {W : Type 0} (sees : Seeing W) (own : ℕ) (Fits : Wish → Type 0) (start : BenchState) (first : W) : ℕ → Reach → Type 0 where
  CameBy : {front : List ActPart} {at : BenchState} {seer : W} → Does sees own Fits start first front at seer → (steps caller : ℕ) (wanted : Wish) → MayPart own Fits at (Calls steps caller wanted)
      → Came sees own Fits start first caller (call_walk at steps caller wanted).reach

-- calls of turns came so far
module _ (Comes : ℕ → Reach → Type 0) where
  -- one of a caller has this number
  abbrev pub HasNumber : ℕ → ℕ → Type 0
  HasNumber caller number = (came : Reach) × Comes caller came × (reach_number caller came ≡ Ok number)

  -- the turns of these callers end so: with a fault, or with a call that has no number
  abbrev pub EndsTurns : (ℕ → Type 0) → TurnEnd → Type 0
  EndsTurns Is turn_end.Whole = Unit {0}
  EndsTurns Is (turn_end.Fault caller why) = Is caller × IsFaultOf (HasNumber caller) why
  EndsTurns Is (turn_end.Reached caller came) = Is caller × Comes caller came × (reach_number caller came ≡ Err (turn_end.Reached caller came))

-- ---- answers

module _ {W : Type 0} (sees : Seeing W) (own : ℕ) (Fits : Wish → Type 0) (bench : BenchState) (watcher : W) where
  -- this may come of an act, whose parts leave this bench
  abbrev pub IsAnswer : LinkAct (List ℕ) → List ActPart → BenchState → ActAnswer → Type 0
  IsAnswer asked parts left (answer.Caller number end) = free_number (link_in bench).callers ≡ Some number
  IsAnswer asked parts left answer.CallersFull = Unit {0}
  IsAnswer asked parts left (answer.Refused caller why) = IsCallerOf asked caller × IsFaultOf (IsNamed asked) why
  IsAnswer asked parts left (answer.TooLong caller len) = IsCallerOf asked caller × IsNamed asked len
  IsAnswer asked parts left (answer.WrongSide caller) = IsCallerOf asked caller
  IsAnswer asked parts left (answer.Begun caller) = IsCallerOf asked caller
  IsAnswer asked parts left (answer.Reached caller came) = IsCallerOf asked caller × Reaches own Fits bench parts left caller came
  IsAnswer asked parts left (answer.Pumped done ended) = AreTurnsOf asked done × EndsTurns (Came sees own Fits bench watcher) (IsCallerOf asked) ended
  IsAnswer asked parts left (answer.Reclaimed caller came) = IsCallerOf asked caller × (came ≡ reclaim_end (link_reclaim_refusal (link_in bench) caller))

-- ---- faults that name no number

module _ (Is : ℕ → Type 0) where
  abbrev pub AreFaultsOf : Option BenchFault → Type 0
  AreFaultsOf why = IfSome why (IsFaultOf Is)

  used_names : (found : Option End) → AreFaultsOf (used_fault found)
  used_names None = tt
  used_names (Some end) = tt

  calling_names : (in_call : Bool) → AreFaultsOf (calling_fault in_call)
  calling_names true = tt
  calling_names false = tt

  pub ready_names : (found : Option End) (in_call : Bool) → AreFaultsOf (caller_fault found in_call)
  ready_names None in_call = tt
  ready_names (Some end) in_call = calling_names in_call

  pub advance_names : (found : Option End) (in_call : Bool) → AreFaultsOf (advance_fault found in_call)
  advance_names None in_call = tt
  advance_names (Some end) true = tt
  advance_names (Some end) false = tt

-- ---- refusals

module _ {W : Type 0} (sees : Seeing W) (own : ℕ) (Fits : Wish → Type 0) (bench : BenchState) (watcher : W) where
  -- they may come of an act, which does nothing then
  abbrev pub AreRefusals : LinkAct (List ℕ) → Option ActAnswer → Type 0
  AreRefusals asked told = IfSome told (IsAnswer sees own Fits bench watcher asked [] bench)

  refused : (asked : LinkAct (List ℕ)) (caller : ℕ) (why : Option BenchFault) → IsCallerOf asked caller → AreFaultsOf (IsNamed asked) why → AreRefusals asked (option_map (answer.Refused caller) why)
  refused asked caller None one names = tt
  refused asked caller (Some why) one names = (one, names)

  first_of_both : (asked : LinkAct (List ℕ)) (first later : Option ActAnswer) → AreRefusals asked first → AreRefusals asked later → AreRefusals asked (first_refusal first later)
  first_of_both asked None later is rest = rest
  first_of_both asked (Some told) later is rest = is

  pub misfit_told : (caller : ℕ) (made : How) (wanted : CallWish (List ℕ)) → AreRefusals (act.Call caller made wanted) (misfit bench caller wanted)
  misfit_told caller made (call.Send source destination payload) =
      cond_both (nat_le (length payload) PAYLOAD_MOST) None (Some (answer.TooLong caller (length payload))) (AreRefusals (act.Call caller made (call.Send source destination payload)))
      (λ _. tt) (λ _. (refl, refl))
  misfit_told caller made (call.Raw message) = tt
  misfit_told caller made call.Take = tt
  misfit_told caller made (call.Give number) =
      cond_both (is_holding (link_in bench) caller number) None (Some (answer.Refused caller (fault.NotHeld number))) (AreRefusals (act.Call caller made (call.Give number)))
      (λ _. tt) (λ _. (refl, refl))
  misfit_told caller made (call.Bind address) = tt
  misfit_told caller made (call.Unbind address) = tt

  module _ (sender receiver count : ℕ) where
    abbrev Pumps : LinkAct (List ℕ)
    Pumps = act.Pump sender receiver count

    side_told : (one other : Option End) → AreRefusals Pumps (side_refusal one other receiver)
    side_told (Some side.Host) (Some side.Host) = inr refl
    side_told (Some side.Remote) (Some side.Remote) = inr refl
    side_told one other = tt

    pub pump_told : AreRefusals Pumps (pump_refusal bench sender receiver)
    unfolding pump_refusal
    pump_told =
        let one = end_of (link_in bench).callers sender in
        let other = end_of (link_in bench).callers receiver in
        let Is = IsNamed Pumps in
        first_of_both Pumps _ _ (refused Pumps sender (used_fault one) (inl refl) (used_names Is one))
        (first_of_both Pumps _ _ (refused Pumps receiver (used_fault other) (inr refl) (used_names Is other))
        (first_of_both Pumps _ _ (refused Pumps sender (calling_fault (is_in_call bench sender)) (inl refl) (calling_names Is (is_in_call bench sender)))
        (first_of_both Pumps _ _ (refused Pumps receiver (calling_fault (is_in_call bench receiver)) (inr refl) (calling_names Is (is_in_call bench receiver)))
        (side_told one other))))

-- ---- a link's own callers

own_told : (own caller : ℕ) → IfSome (own_caller own caller) (λ one. caller ≡ one)
own_told own caller = cond_both (nat_lt caller own) (Some caller) None (λ (found : Option ℕ). IfSome found (λ one. caller ≡ one)) (λ _. refl) (λ _. tt)

of_pump : (sender receiver : ℕ) (first : Option ℕ) (in_use : Bool) (later : Option ℕ) → IfSome first (λ one. sender ≡ one) → IfSome later (λ one. receiver ≡ one)
    → IfSome (option_or first (cond in_use later None)) (λ one. (sender ≡ one) ⊎ (receiver ≡ one))
of_pump sender receiver (Some one) in_use later is rest = inl is
of_pump sender receiver None true (Some one) is rest = inr rest
of_pump sender receiver None true None is rest = tt
of_pump sender receiver None false later is rest = tt

-- one for which an act asks something is a caller of that act
pub own_is : (own : ℕ) (bench : BenchState) (asked : LinkAct (List ℕ)) → IfSome (own_in bench own asked) (IsCallerOf asked)
own_is own bench (act.Caller end) = tt
own_is own bench (act.Call caller made wanted) = own_told own caller
own_is own bench (act.Step caller more) = own_told own caller
own_is own bench (act.Pump sender receiver count) =
    of_pump sender receiver (own_caller own sender) (is_some (end_of (link_in bench).callers sender)) (own_caller own receiver) (own_told own sender) (own_told own receiver)
own_is own bench (act.Reclaim caller) = own_told own caller
