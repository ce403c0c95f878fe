-- Turns of a send, its take and its give (own).
use Rattle.std.specs.Prelude.{◌≡◌, ℕ, zero, suc, ◌+◌, ◌≤◌, Bool, true, false, List, Option, Some, None, Result, Ok, Err, if◌then◌else◌}
use Rattle.byteorder.specs.Endian.{little_bytes}
use Rattle.rpmsg_header.specs.Headers.{header_bytes}
use Rattle.lane_model.specs.declared.calls.Wish.{Wish}
use Rattle.lane_model.specs.declared.calls.Wish.TheVariants as wish
use Rattle.lane_model.specs.declared.calls.CallEnd.TheVariants as end
use Rattle.lane_model.specs.Links.{LinkState}
use Rattle.channel_bus.specs.Sides.{EndState}
use Rattle.link_bench.specs.declared.benches.BenchFault.{BenchFault}
use Rattle.link_bench.specs.declared.benches.Reach.{Reach}
use Rattle.link_bench.specs.declared.benches.Reach.TheVariants as reach
use Rattle.link_bench.specs.declared.turns.TurnEnd.{TurnEnd}
use Rattle.link_bench.specs.declared.turns.TurnEnd.TheVariants as turn_end
use Rattle.link_bench.specs.Benches.{BenchState, HoldsReachTaken, call_walk, begin_fault}
use Rattle.link_bench.specs.Watchers.{Seeing, watcher_after}

-- what a call of a turn leaves: the bench, the steps of the run until then, and the number of its message, or how the turn ends with it
pub record TurnCall : Type 0 where
  pub bench : BenchState
  pub steps : ℕ
  pub number : Result ℕ TurnEnd

-- a call that ended well has a number: of the message that was accepted, handed over or given back
abbrev pub reach_number : ℕ → Reach → Result ℕ TurnEnd
reach_number caller (reach.Ended (end.Sent number)) = Ok number
reach_number caller (reach.Ended (end.Took number judged)) = Ok number
reach_number caller (reach.Ended (end.Gave number)) = Ok number
reach_number caller (reach.Ended ended) = Err (turn_end.Reached caller (reach.Ended ended))
reach_number caller (reach.At step) = Err (turn_end.Reached caller (reach.At step))
reach_number caller reach.Limit = Err (turn_end.Reached caller reach.Limit)

-- a call of a turn, with the tests that each call has
abbrev pub call_unless : BenchState → ℕ → ℕ → Wish → Option BenchFault → TurnCall
call_unless bench steps caller wanted (Some why) = record { bench = bench; steps = steps; number = Err (turn_end.Fault caller why) }
call_unless bench steps caller wanted None =
    let walk = call_walk bench steps caller wanted in
    record { bench = walk.bench; steps = walk.steps; number = reach_number caller walk.reach }

unfoldable pub turn_call : BenchState → ℕ → ℕ → Wish → TurnCall
turn_call bench steps caller wanted = call_unless bench steps caller wanted (begin_fault bench caller wanted)

-- what turns leave: the bench, who watches its link, the steps of the run until then, and how the last one ended
pub record Turns (W : Type 0) : Type 0 where
  pub bench : BenchState
  pub watcher : W
  pub steps : ℕ
  pub ended : TurnEnd

-- what follows a call of a turn
abbrev pub then_more : {W : Type 0} → W → TurnCall → Result ℕ TurnEnd → (ℕ → Turns W) → Turns W
then_more watcher call (Ok number) more = more number
then_more watcher call (Err ended) more = record { bench = call.bench; watcher = watcher; steps = call.steps; ended = ended }

-- how a turn ended whose last call has a number or doesn't
abbrev pub turn_end_of : Result ℕ TurnEnd → TurnEnd
turn_end_of (Ok number) = turn_end.Whole
turn_end_of (Err ended) = ended

-- the give of the message of this number ends the turn
abbrev pub give_turn : {W : Type 0} → W → ℕ → BenchState → ℕ → ℕ → Turns W
give_turn watcher receiver bench steps number =
    let given = turn_call bench steps receiver (wish.Give number) in
    record { bench = given.bench; watcher = watcher; steps = given.steps; ended = turn_end_of given.number }

-- the take, of which the watcher sees the end, and the give of what it took
unfoldable pub take_turn : {W : Type 0} → Seeing W → ℕ → BenchState → W → ℕ → Turns W
take_turn sees receiver bench watcher steps =
    let taken = turn_call bench steps receiver wish.Take in
    then_more watcher taken taken.number
    (give_turn (watcher_after sees taken.bench receiver (call_walk bench steps receiver wish.Take).reach watcher) receiver taken.bench taken.steps)

-- the message of a turn: its number in four bytes, from address 0 to 1024
abbrev pub turn_message : ℕ → List ℕ
turn_message number = header_bytes 0 1024 (little_bytes 4 number)

-- a turn: the send of its number, then the take and the give
unfoldable pub one_turn : {W : Type 0} → Seeing W → ℕ → ℕ → ℕ → BenchState → W → ℕ → Turns W
one_turn sees sender receiver number bench watcher steps =
    let sent = turn_call bench steps sender (wish.Send (turn_message number)) in
    then_more watcher sent sent.number (λ _. take_turn sees receiver sent.bench watcher sent.steps)

-- how far the turns came: how many were done, and what they leave
pub record PumpResult (W : Type 0) : Type 0 where
  pub turns : Turns W
  pub done : ℕ

-- a turn that is whole
abbrev pub is_whole : TurnEnd → Bool
is_whole turn_end.Whole = true
is_whole (turn_end.Fault caller why) = false
is_whole (turn_end.Reached caller reached) = false

-- so many turns, from the one of number `done` on: they go on after a whole one
unfoldable pub pump_turns : {W : Type 0} → Seeing W → ℕ → ℕ → ℕ → ℕ → BenchState → W → ℕ → PumpResult W
pump_turns sees zero done sender receiver bench watcher steps =
    record { turns = record { bench = bench; watcher = watcher; steps = steps; ended = turn_end.Whole }; done = done }
pump_turns sees (suc more) done sender receiver bench watcher steps =
    let turn = one_turn sees sender receiver done bench watcher steps in
    if is_whole turn.ended then pump_turns sees more (done + 1) sender receiver turn.bench turn.watcher turn.steps
    else record { turns = turn; done = done }

-- turns that end early, because memory ran out, leave this bench and this of who watches its link: both are what so many of the turns leave of them, or fewer
pub record IsCutPump {W : Type 0} (benches : ℕ → BenchState) (watchers : ℕ → W) (count : ℕ) (left : BenchState) (seen : W) : Type 0 where
  pub done : ℕ
  pub most : done ≤ count
  pub bench : left ≡ benches done
  pub watcher : seen ≡ watchers done

-- where a turn ended with a call that was handed a message, the call's caller holds its buffer and is in no call
abbrev pub HoldsEndTaken : LinkState EndState → TurnEnd → Type 0
HoldsEndTaken link turn_end.Whole = Unit {0}
HoldsEndTaken link (turn_end.Fault caller why) = Unit {0}
HoldsEndTaken link (turn_end.Reached caller reached) = HoldsReachTaken link caller reached

-- how a call of a turn ended, as code has it: a number, or the end of the turn beside it
abbrev pub number_of : Option ℕ → TurnEnd → Result ℕ TurnEnd
number_of (Some number) ended = Ok number
number_of None ended = Err ended
