-- The next call of an actor of a core may always begin.
use Rattle.std.proofs.Common.{◌≡◌, ◌≢◌, ℕ, suc, eqb, cond, Bool, true, false, not, IsTrue, ◌||◌, List, [], ◌∷◌, ◌++◌, length, drop, Option, Some, None, is_some, refl, sym, ap, subst, ◌∙◌, arith}
use Rattle.std.specs.Option.{option_map_or, option_or}
use Rattle.std.proofs.lemmas.Bool.{eq-eqb, false≢true, ne_eqb, or_parts}
use Rattle.rp_base.specs.declared.kinds.End.{End}
use Rattle.lane_model.specs.declared.calls.CallEnd.{CallEnd}
use Rattle.lane_model.specs.declared.calls.CallEnd.TheVariants as end
use Rattle.lane_model.specs.declared.calls.Wish.{Wish}
use Rattle.lane_model.specs.declared.calls.Wish.TheVariants as wish
use Rattle.lane_model.specs.declared.states.Holding.{Holding}
use Rattle.lane_model.specs.Conditions.{MayEndStep, MayStep, is_calling, is_holding, is_in_call as is_in_call_on}
use Rattle.lane_model.specs.Lanes.{has_call, holds}
use Rattle.lane_model.specs.Links.{end_of, lanes_of}
use Rattle.link_bench.specs.declared.benches.BegunCall.{BegunCall}
use Rattle.link_bench.specs.declared.benches.BenchFault.{BenchFault}
use Rattle.link_bench.specs.declared.benches.BenchFault.TheVariants as fault
use Rattle.link_bench.specs.Benches.{BenchState, BenchWalk, advance_steps, advance_walk, begin_fault, begun_call_of, bench_walk, caller_fault, calling_fault, is_in_call, later_steps, link_in, on_rings, start_walk, wish_fault}
use Rattle.core_actors.specs.ActorEnds.{calls_after_end, gives_of, sends_of, taken_number}
use Rattle.core_actors.specs.ActorSteps.{first_or_take}
use Rattle.core_actors.specs.PendingCalls.{AreFitLanes, AreGivable, IsNamedEnd, give_numbers_after, give_numbers, is_among}
use Rattle.core_actors.proofs.PendingSteps.{IsNext}

-- ---- lists of calls

pub give_numbers_both : (one other : List Wish) → give_numbers (one ++ other) ≡ give_numbers one ++ give_numbers other
give_numbers_both [] other = refl
give_numbers_both (wish.Send message ∷ later) other = give_numbers_both later other
give_numbers_both (wish.Take ∷ later) other = give_numbers_both later other
give_numbers_both (wish.Give number ∷ later) other = ap (λ (numbers : List ℕ). number ∷ numbers) (give_numbers_both later other)
give_numbers_both (wish.Bind address ∷ later) other = give_numbers_both later other
give_numbers_both (wish.Unbind address ∷ later) other = give_numbers_both later other

pub none_behind : (numbers : List ℕ) → numbers ++ [] ≡ numbers
none_behind [] = refl
none_behind (number ∷ later) = ap (λ (numbers : List ℕ). number ∷ numbers) (none_behind later)

module _ (held : List Holding) (caller : ℕ) where
  givable_drop : (calls : List Wish) → AreGivable held caller (give_numbers calls) → AreGivable held caller (give_numbers (drop 1 calls))
  givable_drop [] are = tt
  givable_drop (wish.Send message ∷ later) are = are
  givable_drop (wish.Take ∷ later) are = are
  givable_drop (wish.Give number ∷ later) are = are.2
  givable_drop (wish.Bind address ∷ later) are = are
  givable_drop (wish.Unbind address ∷ later) are = are

  among_drop : (calls : List Wish) (number : ℕ) → is_among (give_numbers calls) number ≡ false → is_among (give_numbers (drop 1 calls)) number ≡ false
  among_drop [] number none = refl
  among_drop (wish.Send message ∷ later) number none = none
  among_drop (wish.Take ∷ later) number none = none
  among_drop (wish.Give other ∷ later) number none = (or_parts (eqb other number) (is_among (give_numbers later) number) none).1
  among_drop (wish.Bind address ∷ later) number none = none
  among_drop (wish.Unbind address ∷ later) number none = none

  none_more : (numbers : List ℕ) (number other : ℕ) → is_among numbers other ≡ false → number ≢ other → is_among (numbers ++ number ∷ []) other ≡ false
  none_more [] number other none differ = ap (λ (b : Bool). b || false) (ne_eqb number other differ)
  none_more (first ∷ later) number other none differ =
      let parts = or_parts (eqb first other) (is_among later other) none in
      ap (λ (b : Bool). b || is_among (later ++ number ∷ []) other) parts.0 ∙ none_more later number other parts.1 differ

  -- a number more behind the others
  givable_behind : (numbers : List ℕ) (number : ℕ) → IsTrue (holds held number caller) → is_among numbers number ≡ false → AreGivable held caller numbers
      → AreGivable held caller (numbers ++ number ∷ [])
  givable_behind [] number has none are = (has, refl, tt)
  givable_behind (first ∷ later) number has none are =
      let parts = or_parts (eqb first number) (is_among later number) none in (
        are.0,
        none_more later number first are.1 (λ is. absurd (false≢true (sym parts.0 ∙ eq-eqb first number (sym is)))),
        givable_behind later number has parts.1 are.2,
      )

  -- the wish that an actor begins with is one that it may have
  first_held : (bench : BenchState) (calls : List Wish) → ((number : ℕ) → IsTrue (holds held number caller) → is_holding (link_in bench) caller number ≡ true)
      → AreGivable held caller (give_numbers calls) → wish_fault bench caller (first_or_take calls) ≡ None
  first_held bench [] each are = refl
  first_held bench (wish.Send message ∷ later) each are = refl
  first_held bench (wish.Take ∷ later) each are = refl
  first_held bench (wish.Give number ∷ later) each are = ap (λ (has : Bool). cond has None (Some (fault.NotHeld number))) (each number are.0)
  first_held bench (wish.Bind address ∷ later) each are = refl
  first_held bench (wish.Unbind address ∷ later) each are = refl

  plain : (taking : Bool) (calls left : List Wish) → AreGivable held caller (give_numbers calls) → AreGivable held caller (give_numbers left)
      → AreGivable held caller (give_numbers (cond taking calls left) ++ [])
  plain true calls left are rest = subst (AreGivable held caller) (sym (none_behind (give_numbers calls))) are
  plain false calls left are rest = subst (AreGivable held caller) (sym (none_behind (give_numbers left))) rest

  -- what a host actor's calls give back once its call has ended
  pub host_calls_left : (taking : Bool) (calls : List Wish) (ended : CallEnd) → AreGivable held caller (give_numbers_after ended calls) → IsNamedEnd ended (not taking)
      → AreGivable held caller (give_numbers (cond taking calls (calls_after_end ended calls)) ++ give_numbers (gives_of (taken_number ended)))
  host_calls_left true calls (end.Took number judged) are named = givable_behind (give_numbers calls) number are.0 are.1 are.2
  host_calls_left false calls (end.Took number judged) are named =
      givable_behind (give_numbers (drop 1 calls)) number are.0 (among_drop calls number are.1) (givable_drop calls are.2)
  host_calls_left true calls (end.Gave number) are named = absurd (false≢true named)
  host_calls_left false calls (end.Gave number) are named = subst (AreGivable held caller) (sym (none_behind (give_numbers (drop 1 calls)))) are
  host_calls_left taking calls (end.Sent number) are named = plain taking calls (drop 1 calls) are (givable_drop calls are)
  host_calls_left taking calls (end.Bound endpoint) are named = plain taking calls (drop 1 calls) are (givable_drop calls are)
  host_calls_left taking calls (end.Unbound endpoint) are named = plain taking calls (drop 1 calls) are (givable_drop calls are)
  host_calls_left taking calls (end.Busy other) are named = plain taking calls calls are are
  host_calls_left taking calls (end.Dead era) are named = plain taking calls (drop 1 calls) are (givable_drop calls are)
  host_calls_left taking calls (end.NoBuffer accepted returned) are named = plain taking calls calls are are
  host_calls_left taking calls (end.BookFull accepted) are named = plain taking calls (drop 1 calls) are (givable_drop calls are)
  host_calls_left taking calls (end.Empty accepted) are named = plain taking calls calls are are
  host_calls_left taking calls (end.Refused why) are named = plain taking calls (drop 1 calls) are (givable_drop calls are)

  -- and what the worker's give back, whose gives come first
  pub worker_calls_left : (calls : List Wish) (ended : CallEnd) → AreGivable held caller (give_numbers_after ended calls) → AreGivable held caller (give_numbers (gives_of (taken_number ended) ++ calls_after_end ended calls))
  worker_calls_left calls (end.Took number judged) are = (are.0, among_drop calls number are.1, givable_drop calls are.2)
  worker_calls_left calls (end.Gave number) are = are
  worker_calls_left calls (end.Sent number) are = givable_drop calls are
  worker_calls_left calls (end.Bound endpoint) are = givable_drop calls are
  worker_calls_left calls (end.Unbound endpoint) are = givable_drop calls are
  worker_calls_left calls (end.Busy other) are = are
  worker_calls_left calls (end.Dead era) are = givable_drop calls are
  worker_calls_left calls (end.NoBuffer accepted returned) are = are
  worker_calls_left calls (end.BookFull accepted) are = givable_drop calls are
  worker_calls_left calls (end.Empty accepted) are = are
  worker_calls_left calls (end.Refused why) are = givable_drop calls are

pub sends_nothing : (message : Option (List ℕ)) → give_numbers (sends_of message) ≡ []
sends_nothing None = refl
sends_nothing (Some message) = refl

-- ---- where a step of an actor begins

-- an actor's caller, in use on its end, and what its calls give back
module _ (bench : BenchState) (caller : ℕ) (end : End) (user : end_of (link_in bench).callers caller ≡ Some end) where
  -- a caller that is in no call has no call on its lanes
  pub silent : is_in_call bench caller ≡ false → is_in_call_on (lanes_of (link_in bench) end) caller ≡ false
  silent none =
      let parts = or_parts (is_some (begun_call_of bench caller)) (is_calling (link_in bench) caller) none in
      subst (λ (found : Option End). option_map_or (λ end. is_in_call_on (lanes_of (link_in bench) end) caller) found false ≡ false) user parts.1

  -- one that has begun no call, and is in one, has it on its lanes
  pub calling : begun_call_of bench caller ≡ None → is_in_call bench caller ≡ true → MayStep (link_in bench) caller None
  calling none is =
      let on_link = sym (ap (λ (found : Option BegunCall). is_some found || is_calling (link_in bench) caller) none) ∙ is in
      let on_lanes = subst (λ (found : Option End). option_map_or (λ end. is_in_call_on (lanes_of (link_in bench) end) caller) found false ≡ true) user on_link in
      record { may = subst (λ (found : Option End). MayEndStep (link_in bench) found caller None) (sym user) on_lanes }

  pub given_now : (is_first : Bool) (calls : List Wish) → is_in_call bench caller ≡ false → AreFitLanes (lanes_of (link_in bench) end) caller is_first calls
      → AreGivable (lanes_of (link_in bench) end).incoming.lane.held caller (give_numbers calls)
  given_now is_first calls none are = are.receives.other (or_parts (has_call (lanes_of (link_in bench) end).outgoing.sender caller) _ (silent none)).1

  -- the next call may begin
  pub begins : (is_first : Bool) (calls : List Wish) → is_in_call bench caller ≡ false → AreFitLanes (lanes_of (link_in bench) end) caller is_first calls
      → begin_fault bench caller (first_or_take calls) ≡ None
  begins is_first calls none are =
      let ready : caller_fault (end_of (link_in bench).callers caller) (is_in_call bench caller) ≡ None = ap (λ (found : Option End). caller_fault found (is_in_call bench caller)) user ∙ ap calling_fault none in
      let wished = first_held (lanes_of (link_in bench) end).incoming.lane.held caller bench calls
      (λ number has. ap (λ (found : Option End). option_map_or (λ end. holds (lanes_of (link_in bench) end).incoming.lane.held number caller) found false) user ∙ has)
      (given_now is_first calls none are) in
      ap (λ (why : Option BenchFault). option_or why (wish_fault bench caller (first_or_take calls))) ready ∙ wished

-- what holds of each way of a step on the link holds of the step
pub linked : (bench : BenchState) (caller : ℕ) (wanted : Wish) (P : BenchWalk → Type 0) (in_call : Bool) → begun_call_of bench caller ≡ None
    → (in_call ≡ true → P (bench_walk bench (later_steps on_rings 1 0 0 bench.rings caller))) → (in_call ≡ false → P (start_walk bench 0 caller wanted))
    → P (cond in_call (advance_walk bench 0 0 caller) (start_walk bench 0 caller wanted))
linked bench caller wanted P true none later first = subst (λ (found : Option BegunCall). P (advance_steps bench 0 0 caller found)) (sym none) (later refl)
linked bench caller wanted P false none later first = first refl

pub next_of_host : (calls : List Wish) → IsNext (first_or_take calls) (not (eqb (length calls) 0)) calls
next_of_host [] = tt
next_of_host (wish.Send message ∷ later) = tt
next_of_host (wish.Take ∷ later) = tt
next_of_host (wish.Give number ∷ later) = (ap not (ne_eqb (suc (length later)) 0 (λ is. absurd (omega (arith, is)))), refl)
next_of_host (wish.Bind address ∷ later) = tt
next_of_host (wish.Unbind address ∷ later) = tt

pub next_of_worker : (calls : List Wish) → IsNext (first_or_take calls) true calls
next_of_worker [] = tt
next_of_worker (wish.Send message ∷ later) = tt
next_of_worker (wish.Take ∷ later) = tt
next_of_worker (wish.Give number ∷ later) = (refl, refl)
next_of_worker (wish.Bind address ∷ later) = tt
next_of_worker (wish.Unbind address ∷ later) = tt
