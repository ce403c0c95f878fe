-- What is done on a link for its callers, what it leaves, and what comes of it (own).
use Rattle.std.specs.Prelude.{◌≡◌, ℕ, ◌<◌, ◌≤◌, nat_le, nat_lt, List, length, Option, Some, None, is_some, option_map, Result, Ok, Err, if◌then◌else◌}
use Rattle.std.specs.Option.{option_or}
use Rattle.rp_base.specs.declared.kinds.End.{End}
use Rattle.rp_base.specs.declared.kinds.End.TheVariants as side
use Rattle.rp_base.specs.declared.limits.TheConstants.{CALLERS_MOST, MESSAGE_MOST, PAYLOAD_MOST, STEPS_MOST}
use Rattle.rpmsg_header.specs.Headers.{header_bytes}
use Rattle.lane_model.specs.declared.calls.Wish.{Wish}
use Rattle.lane_model.specs.declared.calls.Wish.TheVariants as wish
use Rattle.lane_model.specs.Links.{LinkState, end_of, free_number}
use Rattle.lane_model.specs.Conditions.{is_holding}
use Rattle.lane_model.specs.Recoveries.{link_reclaim_refusal}
use Rattle.channel_bus.specs.Sides.{EndState}
use Rattle.link_bench.specs.declared.acts.How.{How}
use Rattle.link_bench.specs.declared.acts.How.TheVariants as how
use Rattle.link_bench.specs.declared.acts.CallWish.{CallWish}
use Rattle.link_bench.specs.declared.acts.CallWish.TheVariants as call
use Rattle.link_bench.specs.declared.acts.LinkAct.{LinkAct}
use Rattle.link_bench.specs.declared.acts.LinkAct.TheVariants as act
use Rattle.link_bench.specs.declared.acts.ActAnswer.{ActAnswer}
use Rattle.link_bench.specs.declared.acts.ActAnswer.TheVariants as answer
use Rattle.link_bench.specs.declared.benches.BenchFault.{BenchFault}
use Rattle.link_bench.specs.declared.benches.BenchFault.TheVariants as fault
use Rattle.link_bench.specs.declared.bench_crashes.Reclaim.{Reclaim}
use Rattle.link_bench.specs.Benches.{BenchState, BenchWalk, HoldsReachTaken, advance_walk, calling_fault, call_walk, is_in_call, link_in, ready_fault, step_fault, used_fault, with_begun_call, with_new_caller}
use Rattle.link_bench.specs.BenchCrashes.{reclaim_answer, reclaim_leaves}
use Rattle.link_bench.specs.Turns.{HoldsEndTaken, IsCutPump, PumpResult, pump_turns}
use Rattle.link_bench.specs.Watchers.{Seeing, watcher_after}

-- what a call wishes, with the bytes that it names in place of what code has of them
abbrev pub bare_wish : {P : Type 0} → (P → List ℕ) → CallWish P → CallWish (List ℕ)
bare_wish bytes (call.Send source destination payload) = call.Send source destination (bytes payload)
bare_wish bytes (call.Raw message) = call.Raw (bytes message)
bare_wish bytes call.Take = call.Take
bare_wish bytes (call.Give number) = call.Give number
bare_wish bytes (call.Bind address) = call.Bind address
bare_wish bytes (call.Unbind address) = call.Unbind address

-- an act with the bytes that it names
abbrev pub bare_act : {P : Type 0} → (P → List ℕ) → LinkAct P → LinkAct (List ℕ)
bare_act bytes (act.Caller end) = act.Caller end
bare_act bytes (act.Call caller made wanted) = act.Call caller made (bare_wish bytes wanted)
bare_act bytes (act.Step caller more) = act.Step caller more
bare_act bytes (act.Pump sender receiver count) = act.Pump sender receiver count
bare_act bytes (act.Reclaim caller) = act.Reclaim caller

-- a message that is sent as it is fits a buffer
abbrev pub IsFitWish : CallWish (List ℕ) → Type 0
IsFitWish (call.Raw message) = length message ≤ MESSAGE_MOST
IsFitWish other = Unit {0}

-- an act of callers that a link may have, of no more steps and turns than a run has steps
abbrev pub IsFitAct : LinkAct (List ℕ) → Type 0
IsFitAct (act.Caller end) = Unit {0}
IsFitAct (act.Call caller made wanted) = (caller < CALLERS_MOST) × IsFitWish wanted
IsFitAct (act.Step caller more) = (caller < CALLERS_MOST) × (more < STEPS_MOST)
IsFitAct (act.Pump sender receiver count) = (sender < CALLERS_MOST) × (receiver < CALLERS_MOST) × (count ≤ STEPS_MOST)
IsFitAct (act.Reclaim caller) = caller < CALLERS_MOST

-- what an act leaves of the bench and of who watches its link, the steps of the run until then, and what comes of it
pub record ActResult (W : Type 0) : Type 0 where
  pub bench : BenchState
  pub watcher : W
  pub steps : ℕ
  pub answer : ActAnswer

-- an act left and answered this
pub record HasActResult {W : Type 0} (acted : ActResult W) (left : BenchState) (seen : W) (counted : ℕ) (told : ActAnswer) : Type 0 where
  pub bench : left ≡ acted.bench
  pub watcher : seen ≡ acted.watcher
  pub steps : counted ≡ acted.steps
  pub answer : told ≡ acted.answer

-- an act on this bench that ends early, because memory ran out, leaves that bench and this of who watches its link: a pump, what a pump of so many of its turns leaves, or of fewer; any other act, what was there
abbrev pub IsCutAct : {W : Type 0} → (LinkAct (List ℕ) → ActResult W) → LinkAct (List ℕ) → BenchState → W → BenchState → W → Type 0
IsCutAct leaves (act.Pump sender receiver count) bench watcher left seen =
    IsCutPump (λ done. (leaves (act.Pump sender receiver done)).bench) (λ done. (leaves (act.Pump sender receiver done)).watcher) count left seen
IsCutAct leaves other bench watcher left seen = (left ≡ bench) × (seen ≡ watcher)

-- where an answer says of a call that was handed a message, the call's caller holds its buffer and is in no call
abbrev pub HoldsAnswerTaken : LinkState EndState → ActAnswer → Type 0
HoldsAnswerTaken link (answer.Caller caller end) = Unit {0}
HoldsAnswerTaken link answer.CallersFull = Unit {0}
HoldsAnswerTaken link (answer.Refused caller why) = Unit {0}
HoldsAnswerTaken link (answer.TooLong caller len) = Unit {0}
HoldsAnswerTaken link (answer.WrongSide caller) = Unit {0}
HoldsAnswerTaken link (answer.Begun caller) = Unit {0}
HoldsAnswerTaken link (answer.Reached caller reached) = HoldsReachTaken link caller reached
HoldsAnswerTaken link (answer.Pumped done ended) = HoldsEndTaken link ended
HoldsAnswerTaken link (answer.Reclaimed caller came) = Unit {0}

-- an answer, and no step
abbrev pub answers : {W : Type 0} → BenchState → W → ℕ → ActAnswer → ActResult W
answers bench watcher steps told = record { bench = bench; watcher = watcher; steps = steps; answer = told }

-- a refusal, or what an act does
abbrev pub unless_refused : {W : Type 0} → BenchState → W → ℕ → Option ActAnswer → ActResult W → ActResult W
unless_refused bench watcher steps None acted = acted
unless_refused bench watcher steps (Some told) acted = answers bench watcher steps told

-- a call came so far, and the watcher sees its end
abbrev pub walk_act : {W : Type 0} → Seeing W → W → ℕ → BenchWalk → ActResult W
walk_act sees watcher caller walk = record {
  bench = walk.bench;
  watcher = watcher_after sees walk.bench caller walk.reach watcher;
  steps = walk.steps;
  answer = answer.Reached caller walk.reach;
}

-- what a call wishes of a link
abbrev pub wish_of : CallWish (List ℕ) → Wish
wish_of (call.Send source destination payload) = wish.Send (header_bytes source destination payload)
wish_of (call.Raw message) = wish.Send message
wish_of call.Take = wish.Take
wish_of (call.Give number) = wish.Give number
wish_of (call.Bind address) = wish.Bind address
wish_of (call.Unbind address) = wish.Unbind address

-- why a caller that is in use and in no call can't make this one: its payload doesn't fit a buffer, or it doesn't hold what it is to give back
abbrev pub misfit : BenchState → ℕ → CallWish (List ℕ) → Option ActAnswer
misfit bench caller (call.Send source destination payload) =
    if nat_le (length payload) PAYLOAD_MOST then None else Some (answer.TooLong caller (length payload))
misfit bench caller (call.Give number) = if is_holding (link_in bench) caller number then None else Some (answer.Refused caller (fault.NotHeld number))
misfit bench caller other = None

-- a call is made whole, or is begun, and follows the incarnation that the link is in
abbrev pub made_call : {W : Type 0} → Seeing W → BenchState → W → ℕ → ℕ → How → Wish → ActResult W
made_call sees bench watcher steps caller how.Whole wanted = walk_act sees watcher caller (call_walk bench steps caller wanted)
made_call sees bench watcher steps caller how.Begun wanted =
    answers (with_begun_call bench caller (Some (record { follows = (link_in bench).era.inc; wish = wanted }))) watcher steps (answer.Begun caller)

-- a call of a caller
unfoldable pub call_act : {W : Type 0} → Seeing W → BenchState → W → ℕ → ℕ → How → CallWish (List ℕ) → ActResult W
call_act sees bench watcher steps caller made wanted =
    unless_refused bench watcher steps (option_map (answer.Refused caller) (ready_fault bench caller))
    (unless_refused bench watcher steps (misfit bench caller wanted) (made_call sees bench watcher steps caller made (wish_of wanted)))

-- one step of the call that a caller is in, and so many more
unfoldable pub step_act : {W : Type 0} → Seeing W → BenchState → W → ℕ → ℕ → ℕ → ActResult W
step_act sees bench watcher steps caller more =
    unless_refused bench watcher steps (option_map (answer.Refused caller) (step_fault bench caller)) (walk_act sees watcher caller (advance_walk bench more steps caller))

-- what so many turns do
abbrev pub turns_act : {W : Type 0} → PumpResult W → ActResult W
turns_act turns = record { bench = turns.turns.bench; watcher = turns.turns.watcher; steps = turns.turns.steps; answer = answer.Pumped turns.done turns.turns.ended }

-- the first of two refusals
abbrev pub first_refusal : Option ActAnswer → Option ActAnswer → Option ActAnswer
first_refusal (Some told) later = Some told
first_refusal None later = later

-- two callers on one end
abbrev pub side_refusal : Option End → Option End → ℕ → Option ActAnswer
side_refusal (Some side.Host) (Some side.Host) receiver = Some (answer.WrongSide receiver)
side_refusal (Some side.Remote) (Some side.Remote) receiver = Some (answer.WrongSide receiver)
side_refusal one other receiver = None

-- why two callers make no turns, if they don't: both are in use, neither is in a call, and they are on two ends
unfoldable pub pump_refusal : BenchState → ℕ → ℕ → Option ActAnswer
pump_refusal bench sender receiver =
    first_refusal (option_map (answer.Refused sender) (used_fault (end_of (link_in bench).callers sender)))
    (first_refusal (option_map (answer.Refused receiver) (used_fault (end_of (link_in bench).callers receiver)))
    (first_refusal (option_map (answer.Refused sender) (calling_fault (is_in_call bench sender)))
    (first_refusal (option_map (answer.Refused receiver) (calling_fault (is_in_call bench receiver)))
    (side_refusal (end_of (link_in bench).callers sender) (end_of (link_in bench).callers receiver) receiver))))

-- so many turns of two callers
unfoldable pub pump_act : {W : Type 0} → Seeing W → BenchState → W → ℕ → ℕ → ℕ → ℕ → ActResult W
pump_act sees bench watcher steps sender receiver count =
    unless_refused bench watcher steps (pump_refusal bench sender receiver) (turns_act (pump_turns sees count 0 sender receiver bench watcher steps))

-- how a reclaim ended
abbrev pub answer_of_reclaim : ℕ → Result Reclaim BenchFault → ActAnswer
answer_of_reclaim caller (Ok came) = answer.Reclaimed caller came
answer_of_reclaim caller (Err why) = answer.Refused caller why

-- a reclaim of a caller
abbrev pub reclaim_act : {W : Type 0} → BenchState → W → ℕ → ℕ → ActResult W
reclaim_act bench watcher steps caller =
    let why = link_reclaim_refusal (link_in bench) caller in
    answers (reclaim_leaves bench caller why) watcher steps (answer_of_reclaim caller (reclaim_answer (end_of (link_in bench).callers caller) why))

-- a new caller at an end, under the least free number
abbrev pub caller_act : {W : Type 0} → BenchState → W → ℕ → End → Option ℕ → ActResult W
caller_act bench watcher steps end None = answers bench watcher steps answer.CallersFull
caller_act bench watcher steps end (Some number) = answers (with_new_caller bench end (Some number)) watcher steps (answer.Caller number end)

-- an act of callers that are no actor's own
abbrev pub free_act : {W : Type 0} → Seeing W → BenchState → W → ℕ → LinkAct (List ℕ) → ActResult W
free_act sees bench watcher steps (act.Caller end) = caller_act bench watcher steps end (free_number (link_in bench).callers)
free_act sees bench watcher steps (act.Call caller made wanted) = call_act sees bench watcher steps caller made wanted
free_act sees bench watcher steps (act.Step caller more) = step_act sees bench watcher steps caller more
free_act sees bench watcher steps (act.Pump sender receiver count) = pump_act sees bench watcher steps sender receiver count
free_act sees bench watcher steps (act.Reclaim caller) = reclaim_act bench watcher steps caller

-- a caller below the number of a link's own
abbrev pub own_caller : ℕ → ℕ → Option ℕ
own_caller own caller = if nat_lt caller own then Some caller else None

-- a link's own caller for which an act asks something; that a sender isn't in use is written before anything of the receiver
abbrev pub own_in : BenchState → ℕ → LinkAct (List ℕ) → Option ℕ
own_in bench own (act.Caller end) = None
own_in bench own (act.Call caller made wanted) = own_caller own caller
own_in bench own (act.Step caller more) = own_caller own caller
own_in bench own (act.Pump sender receiver count) =
    option_or (own_caller own sender) (if is_some (end_of (link_in bench).callers sender) then own_caller own receiver else None)
own_in bench own (act.Reclaim caller) = own_caller own caller

-- an act on a link with so many own callers, the first ones, which are not there to others
abbrev pub unless_own : {W : Type 0} → BenchState → W → ℕ → Option ℕ → ActResult W → ActResult W
unless_own bench watcher steps (Some caller) acted = answers bench watcher steps (answer.Refused caller fault.NoCaller)
unless_own bench watcher steps None acted = acted

unfoldable pub link_act : {W : Type 0} → Seeing W → ℕ → BenchState → W → ℕ → LinkAct (List ℕ) → ActResult W
link_act sees own bench watcher steps act = unless_own bench watcher steps (own_in bench own act) (free_act sees bench watcher steps act)
