-- What a call tells of a take is what its command words.
use Rattle.std.proofs.Common.{◌≡◌, ℕ, false, List, [], ◌∷◌, Option, Some, None, option_map, unwrap_or, slice_get, refl, sym, ap, subst, ◌∙◌}
use Rattle.std.specs.Result.{is_ok}
use Rattle.std.proofs.lemmas.Bool.{true≢false}
use Rattle.std.proofs.lemmas.List.{append-nil}
use Rattle.rp_base.specs.declared.kinds.End.{End}
use Rattle.rp_base.specs.declared.kinds.End.TheVariants as side
use Rattle.rp_base.specs.declared.kinds.Verdict.{Verdict}
use Rattle.lane_model.specs.declared.calls.CallEnd.TheVariants as ended
use Rattle.lane_model.specs.declared.calls.Outcome.TheVariants as outcome
use Rattle.lane_model.specs.declared.calls.Wish.{Wish}
use Rattle.lane_model.specs.declared.states.BookEntry.{BookEntry}
use Rattle.lane_model.specs.declared.recoveries.ReclaimRefusal.{ReclaimRefusal}
use Rattle.lane_model.specs.Links.{LinkState, end_of, free_number}
use Rattle.lane_model.specs.Recoveries.{link_reclaim_refusal}
use Rattle.lane_laws.specs.Handings.{Handing, handing_of}
use Rattle.lane_laws.specs.Takes.{step_takes}
use Rattle.channel_bus.specs.Sides.{EndState}
use Rattle.link_bench.specs.declared.acts.ActAnswer.{ActAnswer}
use Rattle.link_bench.specs.declared.acts.ActAnswer.TheVariants as answer
use Rattle.link_bench.specs.declared.acts.How.{How}
use Rattle.link_bench.specs.declared.acts.How.TheVariants as how
use Rattle.link_bench.specs.declared.acts.LinkAct.{LinkAct}
use Rattle.link_bench.specs.declared.acts.LinkAct.TheVariants as act
use Rattle.link_bench.specs.declared.benches.BenchFault.{BenchFault}
use Rattle.link_bench.specs.declared.benches.BegunCall.{BegunCall}
use Rattle.link_bench.specs.declared.benches.Reach.{Reach}
use Rattle.link_bench.specs.declared.benches.Reach.TheVariants as reach
use Rattle.link_bench.specs.declared.turns.TurnEnd.{TurnEnd}
use Rattle.link_bench.specs.declared.turns.TurnEnd.TheVariants as turn_end
use Rattle.link_bench.specs.ActParts.{ActPart, act_parts, free_parts, made_parts, parts_unless}
use Rattle.link_bench.specs.Acts.{ActResult, IsFitAct, call_act, free_act, link_act, made_call, misfit, own_in, pump_act, pump_refusal, step_act, unless_own, unless_refused, wish_of}
use Rattle.link_bench.specs.Benches.{BenchState, IsSendable, advance_steps, begun_call_of, link_in, message_for, ready_fault, step_fault}
use Rattle.link_bench.specs.Watchers.{Seeing}
use Rattle.link_bench.proofs.ActAnswers.{Came, EndsTurns, IsAnswer, IsCallerOf, OfCall, OfSteps, Reaches}
use Rattle.link_bench.proofs.ActWalks.{AnyWish, act_done, any_calls}
use Rattle.link_bench.proofs.BegunCalls.{begin_may}
use Rattle.core_laws.specs.BenchMoves.{IsReachedBench}
use Rattle.link_bench.proofs.SendableActs.{calls_sendable}
use Rattle.link_commands.specs.CallEvents.{end_event, took_event}
use Rattle.act_laws.specs.Deeds.{Deeds, act_deeds, advance_deeds, caller_deeds, deeds_then, no_deeds, parts_deeds, reach_takes, reclaim_deeds}
use Rattle.act_laws.proofs.ReachedActs.{may_act}
use Rattle.way_laws.specs.WordedTakes.{ComesFromOpening, IsWordedTake, is_of_calls}
use Rattle.way_laws.proofs.BookedTakes.{IsOneTake, ReachTakesOne, advance_once, begin_once}

-- ---- the line of a take

took_line : (name : List ℕ) (caller number : ℕ) (judged : Verdict) (found : Option BookEntry) (handing : Handing) → handing_of found number judged ≡ handing ∷ []
    → took_event name caller number (unwrap_or (option_map (λ (entry : BookEntry). entry.message) found) []) judged ≡ took_event name caller handing.sent.number handing.sent.message handing.verdict
took_line name caller number judged None handing told = absurd (cc)
took_line name caller number judged (Some entry) handing told =
    let same : record { sent = record { number = number; sender = entry.caller; message = entry.message }; verdict = judged } ≡ handing = cc in
    ap (λ (h : Handing). took_event name caller h.sent.number h.sent.message h.verdict) same

module _ (name : List ℕ) (link : LinkState EndState) (caller number : ℕ) (judged : Verdict) (handing : Handing) where
  abbrev AtEnd : End → Option End → Type 0
  AtEnd end found =
      step_takes found end (record { state = link; outcome = outcome.Ended (ended.Took number judged) }) ≡ handing ∷ []
      → took_event name caller number (message_for link found number) judged ≡ took_event name caller handing.sent.number handing.sent.message handing.verdict

  at_end : (end : End) → AtEnd end (Some end)
  at_end side.Host told = took_line name caller number judged (slice_get link.to_host.lane.accepted number) handing told
  at_end side.Remote told = took_line name caller number judged (slice_get link.to_remote.lane.accepted number) handing told

  -- the line of a take is that of the handing that it tells
  pub take_worded : (end : End) → end_of link.callers caller ≡ Some end → reach_takes link caller (reach.Ended (ended.Took number judged)) end ≡ handing ∷ []
      → end_event name link caller (ended.Took number judged) ≡ took_event name caller handing.sent.number handing.sent.message handing.verdict
  take_worded end found told = subst (AtEnd end) (sym found) (at_end end) told

-- takes that are what a call tells, which took a message and is told of one handing
pub once_worded : (takes : End → List Handing) (left : LinkState EndState) (caller number : ℕ) (judged : Verdict) → IsOneTake left caller number judged
    → ((end : End) → takes end ≡ reach_takes left caller (reach.Ended (ended.Took number judged)) end) → IsWordedTake takes left caller number judged
once_worded takes left caller number judged one tells = record {
  end = one.end;
  handing = one.handing;
  is_at = one.is_at;
  told = tells one.end ∙ one.told;
  none_else = λ other differ. tells other ∙ one.none_else other differ;
  line = λ name. take_worded name left caller number judged one.handing one.end one.is_at one.told;
}

-- ---- what an act answers

-- deeds tell of takes what a call tells that came so far
abbrev IsToldBy : LinkState EndState → ℕ → Reach → Deeds → Type 0
IsToldBy link caller came deeds = (end : End) → deeds.takes end ≡ reach_takes link caller came end

-- and where the call took a message, they tell one handing, whose line is that of the call
abbrev pub IsWordedReach : LinkState EndState → ℕ → Reach → Deeds → Type 0
IsWordedReach link caller (reach.Ended (ended.Took number judged)) deeds = IsWordedTake deeds.takes link caller number judged
IsWordedReach link caller other deeds = Unit {0}

pub reach_worded : (link : LinkState EndState) (caller : ℕ) (came : Reach) (deeds : Deeds) → ReachTakesOne link caller came → IsToldBy link caller came deeds → IsWordedReach link caller came deeds
reach_worded link caller (reach.Ended (ended.Took number judged)) deeds one tells = once_worded deeds.takes link caller number judged one tells
reach_worded link caller other deeds one tells = tt

-- turns that end with no take: a take of a turn has a number, and the turn goes on
abbrev pub IsNoTakeEnd : TurnEnd → Type 0
IsNoTakeEnd (turn_end.Reached caller (reach.Ended (ended.Took number judged))) = ⊥
IsNoTakeEnd other = Unit {0}

-- an act that answers how far a call came tells what that call tells, and turns that it tells of end with no take
abbrev pub IsWordedAnswer : LinkState EndState → Deeds → ActAnswer → Type 0
IsWordedAnswer link deeds (answer.Reached caller came) = IsWordedReach link caller came deeds
IsWordedAnswer link deeds (answer.Pumped done came) = IsNoTakeEnd came
IsWordedAnswer link deeds other = Unit {0}

-- ---- calls of an act

advance_told : (bench : BenchState) (more steps caller : ℕ) (found : Option BegunCall)
    → IsToldBy (link_in (advance_steps bench more steps caller found).bench) caller (advance_steps bench more steps caller found).reach (advance_deeds bench more steps caller found)
advance_told bench more steps caller None end = refl
advance_told bench more steps caller (Some begun) end = refl

module _ (own : ℕ) (Fits : Wish → Type 0) (bench : BenchState) where
  -- parts that are one call or steps of one
  reaches_told : {parts : List ActPart} {left : BenchState} {caller : ℕ} {came : Reach} → Reaches own Fits bench parts left caller came → IsToldBy (link_in left) caller came (parts_deeds bench parts)
  reaches_told (OfCall steps caller wanted may) end = append-nil _
  reaches_told (OfSteps more steps caller may) end = append-nil _ ∙ advance_told bench more steps caller (begun_call_of bench caller) end

reaches_once : (own : ℕ) (bench : BenchState) {parts : List ActPart} {left : BenchState} {caller : ℕ} {came : Reach} → IsReachedBench bench → ComesFromOpening (link_in bench)
    → Reaches own IsSendable bench parts left caller came → ReachTakesOne (link_in left) caller came
reaches_once own bench reached comes (OfCall steps caller wanted may) = begin_once bench comes 6 steps caller wanted (begin_may bench caller wanted may.2 may.1)
reaches_once own bench reached comes (OfSteps more steps caller may) =
    advance_once bench comes more steps caller (begun_call_of bench caller) ((may_act bench reached).go caller may.1)

turns_end : (Comes : ℕ → Reach → Type 0) (Is : ℕ → Type 0) (came : TurnEnd) → EndsTurns Comes Is came → IsNoTakeEnd came
turns_end Comes Is (turn_end.Reached caller (reach.Ended (ended.Took number judged))) told = absurd (true≢false (ap is_ok told.2))
turns_end Comes Is other told = tt

-- ---- acts that answer of no call

module _ {W : Type 0} (sees : Seeing W) (bench : BenchState) (watcher : W) (steps : ℕ) where
  -- where this is answered, which tells of no call, these parts tell of no take
  abbrev TellsNone : ActAnswer → List ActPart → Type 0
  TellsNone told parts = is_of_calls told ≡ false → (end : End) → (parts_deeds bench parts).takes end ≡ []

  unless_refused_none : (why : Option ActAnswer) (acted : ActResult W) (parts : List ActPart) → TellsNone acted.answer parts
      → TellsNone (unless_refused bench watcher steps why acted).answer (parts_unless why parts)
  unless_refused_none None acted parts none = none
  unless_refused_none (Some told) acted parts none = λ _ end. refl

  unless_fault_none : (caller : ℕ) (why : Option BenchFault) (acted : ActResult W) (parts : List ActPart) → TellsNone acted.answer parts
      → TellsNone (unless_refused bench watcher steps (option_map (answer.Refused caller) why) acted).answer (parts_unless why parts)
  unless_fault_none caller None acted parts none = none
  unless_fault_none caller (Some why) acted parts none = λ _ end. refl

  made_none : (caller : ℕ) (made : How) (wanted : Wish) → TellsNone (made_call sees bench watcher steps caller made wanted).answer (made_parts bench steps caller made wanted)
  made_none caller how.Whole wanted = λ none. absurd (true≢false none)
  made_none caller how.Begun wanted = λ _ end. refl

  joined_none : (at : End) (number : Option ℕ) (end : End) → (deeds_then (caller_deeds at number) no_deeds).takes end ≡ []
  joined_none at None end = refl
  joined_none at (Some number) end = refl

  reclaimed_none : (caller : ℕ) (found : Option End) (why : Option ReclaimRefusal) (end : End) → (deeds_then (reclaim_deeds caller found why) no_deeds).takes end ≡ []
  reclaimed_none caller None why end = refl
  reclaimed_none caller (Some at) None end = refl
  reclaimed_none caller (Some at) (Some why) end = refl

  free_none : (asked : LinkAct (List ℕ)) → TellsNone (free_act sees bench watcher steps asked).answer (free_parts sees bench watcher steps asked)
  unfolding call_act step_act pump_act
  free_none (act.Caller at) = λ _. joined_none at (free_number (link_in bench).callers)
  free_none (act.Call caller made wanted) =
      unless_fault_none caller (ready_fault bench caller) _ _ (unless_refused_none (misfit bench caller wanted) _ _ (made_none caller made (wish_of wanted)))
  free_none (act.Step caller more) = unless_fault_none caller (step_fault bench caller) _ _ (λ none. absurd (true≢false none))
  free_none (act.Pump sender receiver count) = unless_refused_none (pump_refusal bench sender receiver) _ _ (λ none. absurd (true≢false none))
  free_none (act.Reclaim caller) = λ _. reclaimed_none caller (end_of (link_in bench).callers caller) (link_reclaim_refusal (link_in bench) caller)

  unless_own_none : (found : Option ℕ) (asked : LinkAct (List ℕ))
      → TellsNone (unless_own bench watcher steps found (free_act sees bench watcher steps asked)).answer (parts_unless found (free_parts sees bench watcher steps asked))
  unless_own_none None asked = free_none asked
  unless_own_none (Some caller) asked = λ _ end. refl

  -- an act that answers neither how far a call came nor how turns ended tells of no take
  pub act_none : (own : ℕ) (asked : LinkAct (List ℕ)) → is_of_calls (link_act sees own bench watcher steps asked).answer ≡ false → (end : End)
      → (act_deeds sees own bench watcher steps asked).takes end ≡ []
  unfolding act_deeds act_parts link_act
  act_none own asked = unless_own_none (own_in bench own asked) asked

-- ---- acts

module _ {W : Type 0} (sees : Seeing W) (bench : BenchState) (watcher : W) (steps : ℕ) where
  -- turns that an act answers of end with no take
  pub pump_ends : (own : ℕ) (asked : LinkAct (List ℕ)) (done : ℕ) (came : TurnEnd) → (link_act sees own bench watcher steps asked).answer ≡ answer.Pumped done came → IsNoTakeEnd came
  pump_ends own asked done came is =
      let comes = subst (IsAnswer sees own AnyWish bench watcher asked (act_parts sees own bench watcher steps asked) (link_act sees own bench watcher steps asked).bench) is
      (act_done sees own AnyWish bench watcher steps asked (any_calls asked)).answer in
      turns_end (Came sees own AnyWish bench watcher) (IsCallerOf asked) came comes.1

  -- what an act tells of takes that answers how far a call came
  pub act_tells : (own : ℕ) (asked : LinkAct (List ℕ)) (caller : ℕ) (came : Reach) → (link_act sees own bench watcher steps asked).answer ≡ answer.Reached caller came → (end : End)
      → (act_deeds sees own bench watcher steps asked).takes end ≡ reach_takes (link_in (link_act sees own bench watcher steps asked).bench) caller came end
  unfolding act_deeds
  act_tells own asked caller came is =
      let comes = subst (IsAnswer sees own AnyWish bench watcher asked (act_parts sees own bench watcher steps asked) (link_act sees own bench watcher steps asked).bench) is
      (act_done sees own AnyWish bench watcher steps asked (any_calls asked)).answer in
      reaches_told own AnyWish bench comes.1

  module _ (reached : IsReachedBench bench) (comes : ComesFromOpening (link_in bench)) where
    answer_told : (own : ℕ) (asked : LinkAct (List ℕ)) (parts : List ActPart) (left : BenchState) (told : ActAnswer) → IsAnswer sees own IsSendable bench watcher asked parts left told
        → IsWordedAnswer (link_in left) (parts_deeds bench parts) told
    answer_told own asked parts left (answer.Reached caller came) is =
        reach_worded (link_in left) caller came (parts_deeds bench parts) (reaches_once own bench reached comes is.1) (reaches_told own IsSendable bench is.1)
    answer_told own asked parts left (answer.Pumped done came) is = turns_end (Came sees own IsSendable bench watcher) (IsCallerOf asked) came is.1
    answer_told own asked parts left other is = tt

    -- an act that answers that a call took a message tells of one handing, whose line is that of the call, and its turns end with no take
    pub answer_worded : (own : ℕ) (asked : LinkAct (List ℕ)) → IsFitAct asked → let acted = link_act sees own bench watcher steps asked in
        IsWordedAnswer (link_in acted.bench) (act_deeds sees own bench watcher steps asked) acted.answer
    unfolding act_deeds
    answer_worded own asked fit =
        let acted = link_act sees own bench watcher steps asked in
        answer_told own asked (act_parts sees own bench watcher steps asked) acted.bench acted.answer (act_done sees own IsSendable bench watcher steps asked (calls_sendable asked fit)).answer

    pub act_worded : (own : ℕ) (asked : LinkAct (List ℕ)) → IsFitAct asked → (caller number : ℕ) (judged : Verdict)
        → (link_act sees own bench watcher steps asked).answer ≡ answer.Reached caller (reach.Ended (ended.Took number judged))
        → IsWordedTake (act_deeds sees own bench watcher steps asked).takes (link_in (link_act sees own bench watcher steps asked).bench) caller number judged
    act_worded own asked fit caller number judged is =
        let acted = link_act sees own bench watcher steps asked in
        subst (IsWordedAnswer (link_in acted.bench) (act_deeds sees own bench watcher steps asked)) is (answer_worded own asked fit)
