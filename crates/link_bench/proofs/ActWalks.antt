-- The walk over what an act of callers does: its parts lead to what it leaves, and its answer is told of them.
use Rattle.std.proofs.Common.{◌≡◌, ◌⊎◌, ◌≤◌, ℕ, zero, suc, ◌+◌, Bool, true, false, cond, ltb, List, [], ◌∷◌, ◌++◌, Option, Some, None, IfSome, is_some, option_map, Result, Ok, Err, refl, ap, subst, ◌∙◌, inl, inr, arith}
use Rattle.std.specs.Option.{option_or}
use Rattle.std.proofs.lemmas.Bool.{ltb-false}
use Rattle.rp_base.specs.declared.kinds.End.{End}
use Rattle.lane_model.specs.declared.calls.CallEnd.TheVariants as ended
use Rattle.lane_model.specs.declared.calls.Wish.{Wish}
use Rattle.lane_model.specs.declared.calls.Wish.TheVariants as wish
use Rattle.lane_model.specs.Conditions.{is_holding}
use Rattle.lane_model.specs.Links.{end_of, free_number}
use Rattle.lane_model.specs.Recoveries.{link_reclaim_refusal}
use Rattle.link_bench.specs.declared.acts.ActAnswer.{ActAnswer}
use Rattle.link_bench.specs.declared.acts.ActAnswer.TheVariants as answer
use Rattle.link_bench.specs.declared.acts.CallWish.{CallWish}
use Rattle.link_bench.specs.declared.acts.CallWish.TheVariants as call
use Rattle.link_bench.specs.declared.acts.How.{How}
use Rattle.link_bench.specs.declared.acts.How.TheVariants as how
use Rattle.link_bench.specs.declared.acts.LinkAct.{LinkAct}
use Rattle.link_bench.specs.declared.acts.LinkAct.TheVariants as act
use Rattle.link_bench.specs.declared.benches.BenchFault.{BenchFault}
use Rattle.link_bench.specs.declared.benches.BenchFault.TheVariants as fault
use Rattle.link_bench.specs.declared.benches.Reach.{Reach}
use Rattle.link_bench.specs.declared.benches.Reach.TheVariants as reach
use Rattle.link_bench.specs.declared.turns.TurnEnd.{TurnEnd}
use Rattle.link_bench.specs.ActParts.{ActPart, Advances, Calls, Joins, Sees, act_parts, free_parts, made_parts, one_parts, parts_behind, parts_unless, pump_parts, take_parts, turn_parts}
use Rattle.link_bench.specs.Acts.{ActResult, answer_of_reclaim, call_act, caller_act, first_refusal, free_act, link_act, made_call, misfit, own_caller, own_in, pump_act, pump_refusal, step_act, turns_act, unless_own, unless_refused, walk_act, wish_of}
use Rattle.link_bench.specs.BenchCrashes.{reclaim_answer}
use Rattle.link_bench.specs.Benches.{BenchState, advance_fault, advance_walk, begin_fault, call_walk, is_in_call, link_in, ready_fault, step_fault, used_fault, wish_fault, with_new_caller}
use Rattle.link_bench.specs.Turns.{PumpResult, TurnCall, Turns, call_unless, give_turn, is_whole, one_turn, pump_turns, reach_number, take_turn, then_more, turn_call, turn_end_of, turn_message}
use Rattle.link_bench.specs.Watchers.{Seeing, watcher_after}
use Rattle.link_bench.proofs.ActAnswers.{AreFaultsOf, AreRefusals, Came, CameBy, EndsTurns, HasNumber, IsAnswer, IsCallerOf, IsNamed, OfCall, OfSteps, advance_names, misfit_told, own_is, pump_told, ready_names}
use Rattle.link_bench.proofs.ActParts.{Does, Done, KeptByParts, MayPart, Then, does_kept, does_then}
use Rattle.link_bench.proofs.BegunCalls.{held_from, some_fault}

-- ---- what a refusal that there isn't says

in_call_at : (found : Option End) (in_call : Bool) → advance_fault found in_call ≡ None → in_call ≡ true
in_call_at None in_call none = absurd (some_fault _ none)
in_call_at (Some end) true none = refl
in_call_at (Some end) false none = absurd (some_fault _ none)

none_refused : (caller : ℕ) (why : Option BenchFault) → option_map (answer.Refused caller) why ≡ None → why ≡ None
none_refused caller None none = refl
none_refused caller (Some why) none = absurd (some_fault _ none)

none_first : (first later : Option ActAnswer) → first_refusal first later ≡ None → first ≡ None
none_first None later none = refl
none_first (Some told) later none = absurd (some_fault _ none)

in_use : (found : Option End) → used_fault found ≡ None → is_some found ≡ true
in_use None none = absurd (some_fault _ none)
in_use (Some end) none = refl

fits : (bench : BenchState) (caller : ℕ) (wanted : CallWish (List ℕ)) → misfit bench caller wanted ≡ None → wish_fault bench caller (wish_of wanted) ≡ None
fits bench caller (call.Send source destination payload) none = refl
fits bench caller (call.Raw message) none = refl
fits bench caller call.Take none = refl
fits bench caller (call.Give number) none =
    ap (λ (b : Bool). cond b None (Some (fault.NotHeld number))) (held_from (is_holding (link_in bench) caller number) (answer.Refused caller (fault.NotHeld number)) none)
fits bench caller (call.Bind address) none = refl
fits bench caller (call.Unbind address) none = refl

-- a caller that isn't the link's own
other_at : (own caller : ℕ) (below : Bool) → ltb caller own ≡ below → cond below (Some caller) None ≡ None → own ≤ caller
other_at own caller true is none = absurd (some_fault _ none)
other_at own caller false is none = ltb-false _ _ is

other_caller : (own caller : ℕ) → own_caller own caller ≡ None → own ≤ caller
other_caller own caller none = other_at own caller (ltb caller own) refl none

none_or : (one other : Option ℕ) → option_or one other ≡ None → (one ≡ None) × (other ≡ None)
none_or None other none = (refl, none)
none_or (Some one) other none = absurd (some_fault _ none)

-- a pump that nothing refuses has a sender in use
sender_in_use : (bench : BenchState) (sender receiver : ℕ) → pump_refusal bench sender receiver ≡ None → is_some (end_of (link_in bench).callers sender) ≡ true
unfolding pump_refusal
sender_in_use bench sender receiver none = in_use (end_of (link_in bench).callers sender) (none_refused sender _ (none_first _ _ none))

-- ---- what is known of calls

-- this is known of what the calls of an act wish
abbrev pub FitCalls : (Wish → Type 0) → LinkAct (List ℕ) → Type 0
FitCalls Fits (act.Caller end) = Unit {0}
FitCalls Fits (act.Call caller made wanted) = (bench : BenchState) → misfit bench caller wanted ≡ None → Fits (wish_of wanted)
FitCalls Fits (act.Step caller more) = Unit {0}
FitCalls Fits (act.Pump sender receiver count) = (number : ℕ) → Fits (wish.Send (turn_message number)) × Fits wish.Take × Fits (wish.Give number)
FitCalls Fits (act.Reclaim caller) = Unit {0}

-- nothing is asked of what a call wishes
abbrev pub AnyWish : Wish → Type 0
AnyWish wanted = Unit {0}

pub any_calls : (asked : LinkAct (List ℕ)) → FitCalls AnyWish asked
any_calls (act.Caller end) = tt
any_calls (act.Call caller made wanted) = λ bench none. tt
any_calls (act.Step caller more) = tt
any_calls (act.Pump sender receiver count) = λ number. (tt, tt, tt)
any_calls (act.Reclaim caller) = tt

-- ---- turns

module _ {W : Type 0} (sees : Seeing W) (own : ℕ) (Fits : Wish → Type 0) (start : BenchState) (first : W) where
  -- parts lead from the beginning of an act to this
  abbrev From : BenchState → W → Type 0
  From bench watcher = (front : List ActPart) × Does sees own Fits start first front bench watcher

  behind : {bench left : BenchState} {watcher seen : W} {parts : List ActPart} → From bench watcher → Does sees own Fits bench watcher parts left seen → From left seen
  behind from does = (_, does_then sees own Fits from.1 does)

  abbrev Comes : ℕ → Reach → Type 0
  Comes = Came sees own Fits start first

  -- the number of what a call is to give back is that of an earlier call
  abbrev IsNumbered : ℕ → Wish → Type 0
  IsNumbered caller (wish.Give number) = HasNumber Comes caller number
  IsNumbered caller other = Unit {0}

  wish_names : (bench : BenchState) (caller : ℕ) (wanted : Wish) → IsNumbered caller wanted → AreFaultsOf (HasNumber Comes caller) (wish_fault bench caller wanted)
  wish_names bench caller (wish.Give number) numbered =
      elim (is_holding (link_in bench) caller number) as (λ b. AreFaultsOf (HasNumber Comes caller) (cond b None (Some (fault.NotHeld number)))) [ true ↦ tt | false ↦ numbered ]
  wish_names bench caller other numbered = tt

  either_names : (Is : ℕ → Type 0) (one other : Option BenchFault) → AreFaultsOf Is one → AreFaultsOf Is other → AreFaultsOf Is (option_or one other)
  either_names Is None other first later = later
  either_names Is (Some why) other first later = first

  -- turns of two callers that are none of the link's own, whose calls fit
  module _ (sender receiver : ℕ) (sends : own ≤ sender) (receives : own ≤ receiver)
      (fit : (number : ℕ) → Fits (wish.Send (turn_message number)) × Fits wish.Take × Fits (wish.Give number)) where
    abbrev IsEither : ℕ → Type 0
    IsEither caller = (sender ≡ caller) ⊎ (receiver ≡ caller)

    abbrev Ends : TurnEnd → Type 0
    Ends = EndsTurns Comes IsEither

    abbrev Numbers : ℕ → Result ℕ TurnEnd → Type 0
    Numbers caller (Ok number) = HasNumber Comes caller number
    Numbers caller (Err came) = Ends came

    reach_numbers : (caller : ℕ) (came : Reach) → IsEither caller → Comes caller came → Numbers caller (reach_number caller came)
    reach_numbers caller (reach.Ended (ended.Sent number)) one comes = (_, comes, refl)
    reach_numbers caller (reach.Ended (ended.Took number judged)) one comes = (_, comes, refl)
    reach_numbers caller (reach.Ended (ended.Gave number)) one comes = (_, comes, refl)
    reach_numbers caller (reach.Ended other) one comes = (one, comes, refl)
    reach_numbers caller (reach.At step) one comes = (one, comes, refl)
    reach_numbers caller reach.Limit one comes = (one, comes, refl)

    -- parts lead to what a call of a turn leaves
    record Called (bench : BenchState) (watcher : W) (caller : ℕ) (parts : List ActPart) (done : TurnCall) : Type 0 where
      pub does : Does sees own Fits bench watcher parts done.bench watcher
      pub number : Numbers caller done.number

    -- and to what turns leave
    record Turned (bench : BenchState) (watcher : W) (parts : List ActPart) (turns : Turns W) : Type 0 where
      pub does : Does sees own Fits bench watcher parts turns.bench turns.watcher
      pub ended : Ends turns.ended

    tested : (bench : BenchState) (watcher : W) (steps caller : ℕ) (wanted : Wish) (why : Option BenchFault) → begin_fault bench caller wanted ≡ why → IsEither caller → own ≤ caller → Fits wanted
        → AreFaultsOf (HasNumber Comes caller) why → From bench watcher → Called bench watcher caller (parts_unless why (Calls steps caller wanted ∷ [])) (call_unless bench steps caller wanted why)
    tested bench watcher steps caller wanted (Some why) found one other fits names from = record { does = Done; number = (one, names) }
    tested bench watcher steps caller wanted None ready one other fits names from = record {
      does = Then (other, ready, fits) Done;
      number = reach_numbers caller (call_walk bench steps caller wanted).reach one (CameBy from.1 steps caller wanted (other, ready, fits));
    }

    called : (bench : BenchState) (watcher : W) (steps caller : ℕ) (wanted : Wish) → IsEither caller → own ≤ caller → Fits wanted → IsNumbered caller wanted → From bench watcher
        → Called bench watcher caller (turn_parts bench steps caller wanted) (turn_call bench steps caller wanted)
    unfolding turn_call
    called bench watcher steps caller wanted one other fits numbered from =
        tested bench watcher steps caller wanted (begin_fault bench caller wanted) refl one other fits
        (either_names (HasNumber Comes caller) (ready_fault bench caller) (wish_fault bench caller wanted)
        (ready_names (HasNumber Comes caller) (end_of (link_in bench).callers caller) (is_in_call bench caller)) (wish_names bench caller wanted numbered))
        from

    turned_behind : (bench : BenchState) (watcher : W) (caller : ℕ) (parts : List ActPart) (done : TurnCall) (number : Result ℕ TurnEnd) (later : ℕ → List ActPart) (more : ℕ → Turns W)
        → Does sees own Fits bench watcher parts done.bench watcher → Numbers caller number → ((number : ℕ) → HasNumber Comes caller number → Turned done.bench watcher (later number) (more number))
        → Turned bench watcher (parts ++ parts_behind number later) (then_more watcher done number more)
    turned_behind bench watcher caller parts done (Ok number) later more does has rest =
        let next = rest number has in record { does = does_then sees own Fits does next.does; ended = next.ended }
    turned_behind bench watcher caller parts done (Err came) later more does has rest = record { does = does_then sees own Fits does Done; ended = has }

    number_ends : (caller : ℕ) (number : Result ℕ TurnEnd) → Numbers caller number → Ends (turn_end_of number)
    number_ends caller (Ok number) has = tt
    number_ends caller (Err came) has = has

    take_turned : (bench : BenchState) (watcher : W) (steps : ℕ) → From bench watcher → Turned bench watcher (take_parts receiver bench steps) (take_turn sees receiver bench watcher steps)
    unfolding take_turn take_parts
    take_turned bench watcher steps from =
        let taken = turn_call bench steps receiver wish.Take in
        let came = (call_walk bench steps receiver wish.Take).reach in
        let seer = watcher_after sees taken.bench receiver came watcher in
        let left = called bench watcher steps receiver wish.Take (inr refl) receives (fit 0).1 tt from in
        turned_behind bench watcher receiver (turn_parts bench steps receiver wish.Take) taken taken.number
        (λ number. Sees receiver came ∷ turn_parts taken.bench taken.steps receiver (wish.Give number)) (give_turn seer receiver taken.bench taken.steps) left.does left.number
        (λ number has.
        let given = called taken.bench seer taken.steps receiver (wish.Give number) (inr refl) receives (fit number).2 has (behind (behind from left.does) (Then {part = Sees receiver came} tt Done)) in
        record { does = Then tt given.does; ended = number_ends receiver (turn_call taken.bench taken.steps receiver (wish.Give number)).number given.number })

    one_turned : (number : ℕ) (bench : BenchState) (watcher : W) (steps : ℕ) → From bench watcher
        → Turned bench watcher (one_parts sender receiver number bench steps) (one_turn sees sender receiver number bench watcher steps)
    unfolding one_turn one_parts
    one_turned number bench watcher steps from =
        let sent = turn_call bench steps sender (wish.Send (turn_message number)) in
        let left = called bench watcher steps sender (wish.Send (turn_message number)) (inl refl) sends (fit number).0 tt from in
        turned_behind bench watcher sender (turn_parts bench steps sender (wish.Send (turn_message number))) sent sent.number
        (λ _. take_parts receiver sent.bench sent.steps) (λ _. take_turn sees receiver sent.bench watcher sent.steps) left.does left.number
        (λ _ has. take_turned sent.bench watcher sent.steps (behind from left.does))

    record HasPumped (bench : BenchState) (watcher : W) (most : ℕ) (parts : List ActPart) (pumped : PumpResult W) : Type 0 where
      pub turned : Turned bench watcher parts pumped.turns
      pub done : pumped.done ≤ most

    pumped : (count done : ℕ) (bench : BenchState) (watcher : W) (steps : ℕ) → From bench watcher
        → HasPumped bench watcher (done + count) (pump_parts sees count done sender receiver bench watcher steps) (pump_turns sees count done sender receiver bench watcher steps)
    unfolding pump_turns pump_parts
    pumped zero done bench watcher steps from = record { turned = record { does = Done; ended = tt }; done = omega arith }
    pumped (suc more) done bench watcher steps from =
        let turn = one_turn sees sender receiver done bench watcher steps in
        let left = one_turned done bench watcher steps from in
        let rest = pumped more (done + 1) turn.bench turn.watcher turn.steps (behind from left.does) in
        let few = rest.done in
        elim (is_whole turn.ended) as (λ b. HasPumped bench watcher (done + suc more)
        (one_parts sender receiver done bench steps ++ cond b (pump_parts sees more (done + 1) sender receiver turn.bench turn.watcher turn.steps) [])
        (cond b (pump_turns sees more (done + 1) sender receiver turn.bench turn.watcher turn.steps) (record { turns = turn; done = done }))) [
          | true ↦ record { turned = record { does = does_then sees own Fits left.does rest.turned.does; ended = rest.turned.ended }; done = omega (arith, few) }
          | false ↦ record { turned = record { does = does_then sees own Fits left.does Done; ended = left.ended }; done = omega arith }
        ]

-- ---- acts

module _ {W : Type 0} (sees : Seeing W) (own : ℕ) (Fits : Wish → Type 0) (bench : BenchState) (watcher : W) (steps : ℕ) where
  -- parts lead to what an act leaves, and its answer may come of it
  pub record HasDone (asked : LinkAct (List ℕ)) (parts : List ActPart) (acted : ActResult W) : Type 0 where
    pub does : Does sees own Fits bench watcher parts acted.bench acted.watcher
    pub answer : IsAnswer sees own Fits bench watcher asked parts acted.bench acted.answer

  unless_done : (asked : LinkAct (List ℕ)) (told : Option ActAnswer) (parts : List ActPart) (acted : ActResult W) → AreRefusals sees own Fits bench watcher asked told
      → (told ≡ None → HasDone asked parts acted) → HasDone asked (parts_unless told parts) (unless_refused bench watcher steps told acted)
  unless_done asked None parts acted is rest = rest refl
  unless_done asked (Some told) parts acted is rest = record { does = Done; answer = is }

  unless_fault : (asked : LinkAct (List ℕ)) (caller : ℕ) (why : Option BenchFault) (parts : List ActPart) (acted : ActResult W) → IsCallerOf asked caller → AreFaultsOf (IsNamed asked) why
      → (why ≡ None → HasDone asked parts acted) → HasDone asked (parts_unless why parts) (unless_refused bench watcher steps (option_map (answer.Refused caller) why) acted)
  unless_fault asked caller None parts acted one names rest = rest refl
  unless_fault asked caller (Some why) parts acted one names rest = record { does = Done; answer = (one, names) }

  made_done : (caller : ℕ) (made : How) (wanted : CallWish (List ℕ)) → MayPart own Fits bench (Calls steps caller (wish_of wanted))
      → HasDone (act.Call caller made wanted) (made_parts bench steps caller made (wish_of wanted)) (made_call sees bench watcher steps caller made (wish_of wanted))
  made_done caller how.Whole wanted may = record { does = Then may (Then tt Done); answer = (refl, OfCall steps caller (wish_of wanted) may) }
  made_done caller how.Begun wanted may = record { does = Then may Done; answer = refl }

  call_done : (caller : ℕ) (made : How) (wanted : CallWish (List ℕ)) → own ≤ caller → FitCalls Fits (act.Call caller made wanted)
      → HasDone (act.Call caller made wanted) (free_parts sees bench watcher steps (act.Call caller made wanted)) (call_act sees bench watcher steps caller made wanted)
  unfolding call_act
  call_done caller made wanted other fit =
      let asked = act.Call caller made wanted in
      unless_fault asked caller (ready_fault bench caller) _ _ refl (ready_names (IsNamed asked) (end_of (link_in bench).callers caller) (is_in_call bench caller))
      (λ ready. unless_done asked (misfit bench caller wanted) (made_parts bench steps caller made (wish_of wanted)) (made_call sees bench watcher steps caller made (wish_of wanted))
      (misfit_told sees own Fits bench watcher caller made wanted)
      (λ none. made_done caller made wanted (other, ap (λ (why : Option BenchFault). option_or why (wish_fault bench caller (wish_of wanted))) ready ∙ fits bench caller wanted none, fit bench none)))

  step_done : (caller more : ℕ) → own ≤ caller → HasDone (act.Step caller more) (free_parts sees bench watcher steps (act.Step caller more)) (step_act sees bench watcher steps caller more)
  unfolding step_act
  step_done caller more other =
      let asked = act.Step caller more in
      let found = end_of (link_in bench).callers caller in
      unless_fault asked caller (step_fault bench caller) (Advances more steps caller ∷ Sees caller (advance_walk bench more steps caller).reach ∷ []) (walk_act sees watcher caller (advance_walk bench more steps caller))
      refl (advance_names (IsNamed asked) found (is_in_call bench caller))
      (λ none. let may : MayPart own Fits bench (Advances more steps caller) = (other, in_call_at found (is_in_call bench caller) none) in record { does = Then may (Then tt Done); answer = (refl, OfSteps more steps caller may) })

  pump_done : (sender receiver count : ℕ) → own_in bench own (act.Pump sender receiver count) ≡ None → FitCalls Fits (act.Pump sender receiver count)
      → HasDone (act.Pump sender receiver count) (free_parts sees bench watcher steps (act.Pump sender receiver count)) (pump_act sees bench watcher steps sender receiver count)
  unfolding pump_act
  pump_done sender receiver count none fit =
      let both = none_or (own_caller own sender) _ none in
      unless_done (act.Pump sender receiver count) (pump_refusal bench sender receiver) (pump_parts sees count 0 sender receiver bench watcher steps)
      (turns_act (pump_turns sees count 0 sender receiver bench watcher steps)) (pump_told sees own Fits bench watcher sender receiver count)
      (λ may.
      let receives = other_caller own receiver (subst (λ (b : Bool). cond b (own_caller own receiver) None ≡ None) (sender_in_use bench sender receiver may) both.1) in
      let left = pumped sees own Fits bench watcher sender receiver (other_caller own sender both.0) receives fit count 0 bench watcher steps ([], Done) in
      let few = left.done in
      record { does = left.turned.does; answer = (omega (arith, few), left.turned.ended) })

  joined_at : (end : End) (found : Option ℕ) → free_number (link_in bench).callers ≡ found
      → Does sees own Fits bench watcher (Joins end ∷ []) (with_new_caller bench end found) watcher → HasDone (act.Caller end) (Joins end ∷ []) (caller_act bench watcher steps end found)
  joined_at end None found does = record { does = does; answer = tt }
  joined_at end (Some number) found does = record { does = does; answer = found }

  reclaim_told : (caller : ℕ) (parts : List ActPart) (left : BenchState) (found : Option End)
      → IsAnswer sees own Fits bench watcher (act.Reclaim caller) parts left (answer_of_reclaim caller (reclaim_answer found (link_reclaim_refusal (link_in bench) caller)))
  reclaim_told caller parts left None = (refl, tt)
  reclaim_told caller parts left (Some end) = (refl, refl)

  free_done : (asked : LinkAct (List ℕ)) → FitCalls Fits asked → own_in bench own asked ≡ None → HasDone asked (free_parts sees bench watcher steps asked) (free_act sees bench watcher steps asked)
  free_done (act.Caller end) fit none = joined_at end (free_number (link_in bench).callers) refl (Then tt Done)
  free_done (act.Call caller made wanted) fit none = call_done caller made wanted (other_caller own caller none) fit
  free_done (act.Step caller more) fit none = step_done caller more (other_caller own caller none)
  free_done (act.Pump sender receiver count) fit none = pump_done sender receiver count none fit
  free_done (act.Reclaim caller) fit none = record {
    does = Then (other_caller own caller none) Done;
    answer = reclaim_told caller _ _ (end_of (link_in bench).callers caller);
  }

  own_done : (asked : LinkAct (List ℕ)) (found : Option ℕ) (parts : List ActPart) (acted : ActResult W) → IfSome found (IsCallerOf asked) → (found ≡ None → HasDone asked parts acted)
      → HasDone asked (parts_unless found parts) (unless_own bench watcher steps found acted)
  own_done asked None parts acted one rest = rest refl
  own_done asked (Some caller) parts acted one rest = record { does = Done; answer = (one, tt) }

  -- an act
  pub act_done : (asked : LinkAct (List ℕ)) → FitCalls Fits asked → HasDone asked (act_parts sees own bench watcher steps asked) (link_act sees own bench watcher steps asked)
  unfolding link_act act_parts
  act_done asked fit =
      own_done asked (own_in bench own asked) (free_parts sees bench watcher steps asked) (free_act sees bench watcher steps asked) (own_is own bench asked) (λ none. free_done asked fit none)

  -- an act keeps what each part keeps
  pub act_kept : (P : BenchState → W → Type 0) → KeptByParts sees own Fits P → (asked : LinkAct (List ℕ)) → FitCalls Fits asked → P bench watcher
      → let acted = link_act sees own bench watcher steps asked in P acted.bench acted.watcher
  act_kept P keep asked fit is = does_kept sees own Fits P keep (act_done asked fit).does is
