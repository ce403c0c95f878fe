-- What comes of an act on a link has its numbers and bytes within their types, and so has the link that it leaves.
use Rattle.std.proofs.Common.{◌≡◌, ℕ, ◌<◌, ◌≤◌, ◌^◌, ◌&&◌, ◌||◌, eqb, Bool, true, false, cond, ltb, List, [], ◌∷◌, length, Option, Some, None, IfSome, is_some, option_map, Result, Ok, Err, refl, sym, ap, subst, inl, inr, arith}
use Rattle.std.specs.List.{position_or_len}
use Rattle.std.specs.Prelude.{is_none}
use Rattle.std.specs.Option.{option_and_then}
use Rattle.std.proofs.lemmas.Option.{same_Some}
use Rattle.std.proofs.lemmas.Bool.{cond_both, eqb-true, ltb-true, true≢false}
use Rattle.rp_base.specs.declared.kinds.End.{End}
use Rattle.rp_base.specs.declared.kinds.End.TheVariants as side
use Rattle.byteorder.specs.Endian.{little_bytes}
use Rattle.lane_model.specs.declared.calls.CallEnd.TheVariants as end
use Rattle.lane_model.specs.declared.calls.Wish.{Wish}
use Rattle.lane_model.specs.declared.calls.Wish.TheVariants as wish
use Rattle.lane_model.specs.declared.recoveries.ReclaimRefusal.{ReclaimRefusal}
use Rattle.lane_model.specs.declared.recoveries.ReclaimRefusal.TheVariants as refusal
use Rattle.lane_model.specs.declared.states.Holding.{Holding}
use Rattle.lane_model.specs.declared.states.LaneState.{LaneState}
use Rattle.lane_model.specs.declared.stages.Turn.{Turn}
use Rattle.lane_model.specs.Conditions.{MayEndStep}
use Rattle.lane_model.specs.Crashes.{has_held, needed_holder, other_holder}
use Rattle.lane_model.specs.Lanes.{has_call, holder, holds}
use Rattle.lane_model.specs.Links.{LinkState, end_of, free_number, lanes_of}
use Rattle.lane_model.specs.Recoveries.{link_reclaim_refusal}
use Rattle.lane_model.specs.Soundness.{AreHandedOnce, IsSoundTurn, SoundLink}
use Rattle.channel_bus.specs.Sides.{EndState}
use Rattle.link_bench.specs.declared.acts.ActAnswer.{ActAnswer}
use Rattle.link_bench.specs.declared.acts.ActAnswer.TheVariants as answer
use Rattle.link_bench.specs.declared.acts.CallWish.{CallWish}
use Rattle.link_bench.specs.declared.acts.CallWish.TheVariants as call
use Rattle.link_bench.specs.declared.acts.LinkAct.{LinkAct}
use Rattle.link_bench.specs.declared.acts.LinkAct.TheVariants as act
use Rattle.link_bench.specs.declared.benches.BenchFault.{BenchFault}
use Rattle.link_bench.specs.declared.benches.BenchFault.TheVariants as fault
use Rattle.link_bench.specs.declared.benches.Reach.{Reach}
use Rattle.link_bench.specs.declared.benches.Reach.TheVariants as reach
use Rattle.link_bench.specs.declared.turns.TurnEnd.{TurnEnd}
use Rattle.link_bench.specs.declared.turns.TurnEnd.TheVariants as turn_end
use Rattle.link_bench.specs.ActParts.{ActPart, Advances, Begins, Calls, Joins, Reclaims, Sees, act_parts}
use Rattle.link_bench.specs.Acts.{IsFitAct, link_act, wish_of}
use Rattle.link_bench.specs.BenchCrashes.{reclaim_end}
use Rattle.link_bench.specs.Benches.{BenchState, IsSendable, begin_fault, call_walk, link_in}
use Rattle.link_bench.specs.Turns.{reach_number, turn_message}
use Rattle.link_bench.specs.Watchers.{Seeing}
use Rattle.link_bench.proofs.ActAnswers.{AreTurnsOf, Came, CameBy, EndsTurns, HasNumber, IsAnswer, IsCallerOf, IsFaultOf, IsNamed, OfCall, OfSteps, Reaches}
use Rattle.link_bench.proofs.ActParts.{KeptByParts, does_kept}
use Rattle.link_bench.proofs.ActWalks.{FitCalls, act_done, act_kept}
use Rattle.link_bench.proofs.BegunCalls.{begin_may}
use Rattle.link_bench.proofs.SendableActs.{calls_sendable}
use Rattle.core_laws.specs.BenchMoves.{IsReachedBench}
use Rattle.core_laws.proofs.BenchMoves.{advanced, begun_reached, called, enlisted, reclaim_tried}
use Rattle.core_laws.proofs.CrashReclaims.{reached_sound}
use Rattle.field_laws.specs.Fields.{AreBytes, IsFieldLink, IsFieldWish}
use Rattle.field_laws.specs.FieldBenches.{IsFieldAct, IsFieldActResult, IsFieldBench, IsFieldBenchFault, IsFieldCall, IsFieldReach, IsFieldReclaim, IsFieldTurnEnd}
use Rattle.field_laws.proofs.Benches.{advance_fields, begun_fields, call_fields, caller_fields, tried_fields}
use Rattle.field_laws.proofs.Bytes.{message_bytes, number_bytes}
use Rattle.field_laws.proofs.Lanes.{counts_small}
use Rattle.field_laws.proofs.Steps.{holder_small}

-- ---- what a give names

held_at : (h : Holding) (hs : List Holding) (handed number caller : ℕ) (same : Bool) → eqb h.number number ≡ same → h.number < handed → (holds hs number caller ≡ true → number < handed)
    → ((same && eqb h.caller caller) || holds hs number caller) ≡ true → number < handed
held_at h hs handed number caller true is here rest found = let equal = eqb-true h.number number is in omega (arith, here, equal)
held_at h hs handed number caller false is here rest found = rest found

held_small : (held : List Holding) (handed number caller : ℕ) → AreHandedOnce handed held → holds held number caller ≡ true → number < handed
held_small [] handed number caller once found = absurd (true≢false (sym found))
held_small (h ∷ hs) handed number caller once found =
    held_at h hs handed number caller (eqb h.number number) refl once.1 (λ there. held_small hs handed number caller once.2 there) found

given_at : (link : LinkState EndState) (found : Option End) (caller number : ℕ) → SoundLink link → IsFieldLink link → MayEndStep link found caller (Some (wish.Give number)) → number < 2 ^ 64
given_at link (Some side.Host) caller number sound is may =
    let handed = (counts_small link.to_host sound.to_host.lane is.to_host).takers in
    let less = held_small link.to_host.lane.held (length link.to_host.lane.takers) number caller sound.to_host.lane.holdings may.1 in
    omega (arith, handed, less)
given_at link (Some side.Remote) caller number sound is may =
    let handed = (counts_small link.to_remote sound.to_remote.lane is.to_remote).takers in
    let less = held_small link.to_remote.lane.held (length link.to_remote.lane.takers) number caller sound.to_remote.lane.holdings may.1 in
    omega (arith, handed, less)
given_at link None caller number sound is may = absurd may

-- what is known of a wish before it may begin: a give may name any number
abbrev pub IsFieldOrGive : Wish → Type 0
IsFieldOrGive (wish.Send message) = AreBytes message
IsFieldOrGive wish.Take = Unit {0}
IsFieldOrGive (wish.Give number) = Unit {0}
IsFieldOrGive (wish.Bind address) = address < 2 ^ 32
IsFieldOrGive (wish.Unbind address) = address < 2 ^ 32

-- a message that fits, of bytes
abbrev pub IsFit : Wish → Type 0
IsFit wanted = IsSendable wanted × IsFieldOrGive wanted

-- a bench that is reached, and whose fields are within their types
pub record HoldsBench (bench : BenchState) : Type 0 where
  pub reached : IsReachedBench bench
  pub fields : IsFieldBench bench

pub ready_wish : (bench : BenchState) (caller : ℕ) (wanted : Wish) → HoldsBench bench → begin_fault bench caller wanted ≡ None → IsFit wanted → IsFieldWish wanted
ready_wish bench caller (wish.Send message) is ready fit = fit.1
ready_wish bench caller wish.Take is ready fit = tt
ready_wish bench caller (wish.Give number) is ready fit =
    given_at (link_in bench) (end_of (link_in bench).callers caller) caller number (reached_sound (link_in bench) is.reached.link) is.fields.link (begin_may bench caller (wish.Give number) fit.0 ready).may
ready_wish bench caller (wish.Bind address) is ready fit = fit.1
ready_wish bench caller (wish.Unbind address) is ready fit = fit.1

-- ---- what an act wishes

wish_fields : (wanted : CallWish (List ℕ)) → IsFieldCall wanted → IsFieldOrGive (wish_of wanted)
wish_fields (call.Send source destination payload) is = message_bytes source destination payload is.1
wish_fields (call.Raw message) is = is
wish_fields call.Take is = tt
wish_fields (call.Give number) is = tt
wish_fields (call.Bind address) is = is
wish_fields (call.Unbind address) is = is

turn_bytes : (number : ℕ) → AreBytes (turn_message number)
turn_bytes number = message_bytes 0 1024 (little_bytes 4 number) (number_bytes 4 number)

pub fit_calls : (asked : LinkAct (List ℕ)) → IsFitAct asked → IsFieldAct asked → FitCalls IsFit asked
fit_calls (act.Caller end) fit is = tt
fit_calls (act.Call caller made wanted) fit is = λ bench none. (calls_sendable (act.Call caller made wanted) fit bench none, wish_fields wanted is)
fit_calls (act.Step caller more) fit is = tt
fit_calls (act.Pump sender receiver count) fit is =
    λ number. let sends = calls_sendable (act.Pump sender receiver count) fit number in ((sends.0, turn_bytes number), (tt, tt), (tt, tt))
fit_calls (act.Reclaim caller) fit is = tt

-- a number that is free is one of the callers'
position_at : (place len : ℕ) (below : Bool) (number : ℕ) → ltb place len ≡ below → cond below (Some place) None ≡ Some number → number < len
position_at place len true number less is = let same = same_Some place number is in let within = ltb-true place len less in omega (arith, same, within)
position_at place len false number less is = absurd (true≢false (sym (ap is_some is)))

position_within : (callers : List (Option End)) (number : ℕ) → free_number callers ≡ Some number → number < length callers
position_within callers number is = position_at (position_or_len (λ found. is_none found) callers) (length callers) (ltb (position_or_len (λ found. is_none found) callers) (length callers)) number refl is

-- ---- reclaims

abbrev IsNumber : ℕ → Type 0
IsNumber number = number < 2 ^ 64

wider : (found : Option ℕ) → IfSome found (λ held. held ≤ 64) → IfSome found IsNumber
wider None is = tt
wider (Some held) is = omega (arith, is)

other_small : {C : Type 0} (now : Turn C) (caller : ℕ) → IfSome (holder now) (λ held. held ≤ 64) → IfSome (other_holder now caller) IsNumber
other_small now caller is = cond_both (has_call now caller) None (holder now) (λ (found : Option ℕ). IfSome found IsNumber) (λ _. tt) (λ _. wider (holder now) is)

needed_small : (state : LaneState EndState) (callers : List (Option End)) (receives : End) (caller : ℕ) → length callers ≡ 64 → IsSoundTurn callers receives state.receiver → IfSome (needed_holder state caller) IsNumber
needed_small state callers receives caller len sound =
    cond_both (has_held state.lane.held caller) (other_holder state.receiver caller) None (λ (found : Option ℕ). IfSome found IsNumber)
    (λ _. other_small state.receiver caller (holder_small callers receives state.receiver len sound)) (λ _. tt)

abbrev pub IsFieldRefusal : ReclaimRefusal → Type 0
IsFieldRefusal (refusal.StillOpen era) = era.inc < 2 ^ 32
IsFieldRefusal (refusal.Busy held) = held < 2 ^ 64

busy_fields : (found : Option ℕ) → IfSome found IsNumber → IfSome (option_map refusal.Busy found) IsFieldRefusal
busy_fields None is = tt
busy_fields (Some held) is = is

needed_at : (link : LinkState EndState) (found : Option End) (caller : ℕ) → SoundLink link → IsFieldLink link
    → IfSome (option_and_then (λ end. needed_holder (lanes_of link end).incoming caller) found) IsNumber
needed_at link None caller sound is = tt
needed_at link (Some side.Host) caller sound is = needed_small link.to_host link.callers side.Host caller is.callers sound.to_host.receiver
needed_at link (Some side.Remote) caller sound is = needed_small link.to_remote link.callers side.Remote caller is.callers sound.to_remote.receiver

pub refusal_fields : (link : LinkState EndState) (caller : ℕ) → SoundLink link → IsFieldLink link → IfSome (link_reclaim_refusal link caller) IsFieldRefusal
refusal_fields link caller sound is =
    cond_both link.era.is_live (Some (refusal.StillOpen link.era)) (option_map refusal.Busy (option_and_then (λ end. needed_holder (lanes_of link end).incoming caller) (end_of link.callers caller)))
    (λ (found : Option ReclaimRefusal). IfSome found IsFieldRefusal) (λ _. is.inc)
    (λ _. busy_fields (option_and_then (λ end. needed_holder (lanes_of link end).incoming caller) (end_of link.callers caller)) (needed_at link (end_of link.callers caller) caller sound is))

reclaim_fields : (why : Option ReclaimRefusal) → IfSome why IsFieldRefusal → IsFieldReclaim (reclaim_end why)
reclaim_fields None is = tt
reclaim_fields (Some (refusal.StillOpen era)) is = is
reclaim_fields (Some (refusal.Busy held)) is = is

-- ---- what calls leave of a bench that is reached

pub call_holds : (bench : BenchState) (steps caller : ℕ) (wanted : Wish) → HoldsBench bench → begin_fault bench caller wanted ≡ None → IsFit wanted → HoldsBench (call_walk bench steps caller wanted).bench
call_holds bench steps caller wanted is ready fit = record {
  reached = called bench 6 steps caller wanted is.reached ready fit.0;
  fields = (call_fields bench steps caller wanted ready fit.0 (ready_wish bench caller wanted is ready fit) is.reached is.fields).bench;
}

pub call_reach : (bench : BenchState) (steps caller : ℕ) (wanted : Wish) → HoldsBench bench → begin_fault bench caller wanted ≡ None → IsFit wanted → IsFieldReach (call_walk bench steps caller wanted).reach
call_reach bench steps caller wanted is ready fit = (call_fields bench steps caller wanted ready fit.0 (ready_wish bench caller wanted is ready fit) is.reached is.fields).reach

-- ---- what acts leave of a link that nobody watches

pub part_holds : {W : Type 0} (sees : Seeing W) (own : ℕ) → KeptByParts sees own IsFit (λ bench watcher. HoldsBench bench)
part_holds sees own bench watcher (Joins end) may is = record { reached = enlisted bench end is.reached; fields = caller_fields bench end (free_number (link_in bench).callers) is.fields }
part_holds sees own bench watcher (Begins caller wanted) may is = record {
  reached = begun_reached bench caller (record { follows = (link_in bench).era.inc; wish = wanted }) is.reached may.1 may.2.0;
  fields = begun_fields bench caller wanted (ready_wish bench caller wanted is may.1 may.2) is.fields;
}
part_holds sees own bench watcher (Calls steps caller wanted) may is = call_holds bench steps caller wanted is may.1 may.2
part_holds sees own bench watcher (Advances more steps caller) may is =
    record { reached = advanced bench more steps caller is.reached may.1; fields = (advance_fields bench more steps caller may.1 is.reached is.fields).bench }
part_holds sees own bench watcher (Sees caller came) may is = is
part_holds sees own bench watcher (Reclaims caller) may is =
    record { reached = reclaim_tried bench caller is.reached; fields = tried_fields bench caller (link_reclaim_refusal (link_in bench) caller) is.fields }

pub act_holds : {W : Type 0} (sees : Seeing W) (own : ℕ) (bench : BenchState) (watcher : W) (steps : ℕ) (asked : LinkAct (List ℕ)) → IsFitAct asked → IsFieldAct asked → HoldsBench bench
    → HoldsBench (link_act sees own bench watcher steps asked).bench
act_holds sees own bench watcher steps asked fit fields is =
    act_kept sees own IsFit bench watcher steps (λ bench watcher. HoldsBench bench) (part_holds sees own) asked (fit_calls asked fit fields) is

-- ---- what an answer names

caller_small : (asked : LinkAct (List ℕ)) (caller : ℕ) → IsFitAct asked → IsCallerOf asked caller → caller < 2 ^ 64
caller_small (act.Caller end) caller fit one = absurd one
caller_small (act.Call asked made wanted) caller fit one = let small = fit.0 in omega (arith, small, one)
caller_small (act.Step asked more) caller fit one = let small = fit.0 in omega (arith, small, one)
caller_small (act.Pump sender receiver count) caller fit (inl one) = let small = fit.0 in omega (arith, small, one)
caller_small (act.Pump sender receiver count) caller fit (inr one) = let small = fit.1 in omega (arith, small, one)
caller_small (act.Reclaim asked) caller fit one = omega (arith, fit, one)

named_small : (asked : LinkAct (List ℕ)) (number : ℕ) → IsFieldAct asked → IsNamed asked number → number < 2 ^ 64
named_small (act.Call caller made (call.Send source destination payload)) number fields one = let small = fields.0 in omega (arith, small, one)
named_small (act.Call caller made (call.Give given)) number fields one = omega (arith, fields, one)
named_small other number fields one = absurd one

turns_small : (asked : LinkAct (List ℕ)) (done : ℕ) → IsFitAct asked → AreTurnsOf asked done → done < 2 ^ 64
turns_small (act.Pump sender receiver count) done fit few = let most = fit.2 in omega (arith, most, few)
turns_small other done fit few = absurd few

fault_fields : (Is : ℕ → Type 0) (why : BenchFault) → IsFaultOf Is why → ((number : ℕ) → Is number → number < 2 ^ 64) → IsFieldBenchFault why
fault_fields Is (fault.NotHeld number) is small = small number is
fault_fields Is other is small = tt

abbrev IsFieldNumber : Result ℕ TurnEnd → Type 0
IsFieldNumber (Ok number) = number < 2 ^ 64
IsFieldNumber (Err came) = Unit {0}

number_fields : (caller : ℕ) (came : Reach) → IsFieldReach came → IsFieldNumber (reach_number caller came)
number_fields caller (reach.Ended (end.Sent number)) is = is
number_fields caller (reach.Ended (end.Took number judged)) is = is.0
number_fields caller (reach.Ended (end.Gave number)) is = is
number_fields caller (reach.Ended other) is = tt
number_fields caller (reach.At step) is = tt
number_fields caller reach.Limit is = tt

-- ---- how far calls came

module _ {W : Type 0} (sees : Seeing W) (own : ℕ) (bench : BenchState) (watcher : W) (is : HoldsBench bench) where
  reaches_fields : {parts : List ActPart} {left : BenchState} {caller : ℕ} {came : Reach} → Reaches own IsFit bench parts left caller came → IsFieldReach came
  reaches_fields (OfCall steps caller wanted may) = call_reach bench steps caller wanted is may.1 may.2
  reaches_fields (OfSteps more steps caller may) = (advance_fields bench more steps caller may.1 is.reached is.fields).reach

  abbrev Comes : ℕ → Reach → Type 0
  Comes = Came sees own IsFit bench watcher

  came_fields : {caller : ℕ} {came : Reach} → Comes caller came → IsFieldReach came
  came_fields (CameBy {at = at} does steps caller wanted may) =
      call_reach at steps caller wanted (does_kept sees own IsFit (λ bench watcher. HoldsBench bench) (part_holds sees own) does is) may.1 may.2

  -- ---- an act

  module _ (asked : LinkAct (List ℕ)) (fit : IsFitAct asked) (fields : IsFieldAct asked) where
    turn_fields : (ended : TurnEnd) → EndsTurns Comes (IsCallerOf asked) ended → IsFieldTurnEnd ended
    turn_fields turn_end.Whole told = tt
    turn_fields (turn_end.Fault caller why) told = (
      caller_small asked caller fit told.0,
      fault_fields (HasNumber Comes caller) why told.1 (λ number has. subst IsFieldNumber has.2 (number_fields caller has.0 (came_fields has.1))),
    )
    turn_fields (turn_end.Reached caller came) told = (caller_small asked caller fit told.0, came_fields told.1)

    answer_fields : (parts : List ActPart) (left : BenchState) (told : ActAnswer) → IsAnswer sees own IsFit bench watcher asked parts left told → IsFieldActResult told
    answer_fields parts left (answer.Caller number end) free =
        let less = position_within (link_in bench).callers number free in let len = is.fields.link.callers in omega (arith, less, len)
    answer_fields parts left answer.CallersFull comes = tt
    answer_fields parts left (answer.Refused caller why) comes = (caller_small asked caller fit comes.0, fault_fields (IsNamed asked) why comes.1 (λ number one. named_small asked number fields one))
    answer_fields parts left (answer.TooLong caller len) comes = (caller_small asked caller fit comes.0, named_small asked len fields comes.1)
    answer_fields parts left (answer.WrongSide receiver) one = caller_small asked receiver fit one
    answer_fields parts left (answer.Begun caller) one = caller_small asked caller fit one
    answer_fields parts left (answer.Reached caller came) comes = (caller_small asked caller fit comes.0, reaches_fields comes.1)
    answer_fields parts left (answer.Pumped done ended) comes = (turns_small asked done fit comes.0, turn_fields ended comes.1)
    answer_fields parts left (answer.Reclaimed caller came) comes = (
      caller_small asked caller fit comes.0,
      subst IsFieldReclaim (sym comes.1)
          (reclaim_fields (link_reclaim_refusal (link_in bench) caller) (refusal_fields (link_in bench) caller (reached_sound (link_in bench) is.reached.link) is.fields.link)),
    )

-- what an act answers
pub act_told : {W : Type 0} (sees : Seeing W) (own : ℕ) (bench : BenchState) (watcher : W) (steps : ℕ) (asked : LinkAct (List ℕ)) → IsFitAct asked → IsFieldAct asked → HoldsBench bench
    → IsFieldActResult (link_act sees own bench watcher steps asked).answer
act_told sees own bench watcher steps asked fit fields is =
    let acted = link_act sees own bench watcher steps asked in
    answer_fields sees own bench watcher is asked fit fields (act_parts sees own bench watcher steps asked) acted.bench acted.answer
    (act_done sees own IsFit bench watcher steps asked (fit_calls asked fit fields)).answer
