-- The numbers and the bytes of a bench that are within their types, and of what its calls reach (own).
use Rattle.std.specs.Prelude.{◌<◌, ◌^◌, ℕ, List, length, Option, IfSome, All}
use Rattle.link_bench.specs.declared.acts.ActAnswer.{ActAnswer}
use Rattle.link_bench.specs.declared.acts.ActAnswer.TheVariants as answer
use Rattle.link_bench.specs.declared.acts.CallWish.{CallWish}
use Rattle.link_bench.specs.declared.acts.CallWish.TheVariants as call
use Rattle.link_bench.specs.declared.acts.LinkAct.{LinkAct}
use Rattle.link_bench.specs.declared.acts.LinkAct.TheVariants as act
use Rattle.link_bench.specs.declared.bench_crashes.Reclaim.{Reclaim}
use Rattle.link_bench.specs.declared.bench_crashes.Reclaim.TheVariants as reclaim
use Rattle.link_bench.specs.declared.benches.BenchFault.{BenchFault}
use Rattle.link_bench.specs.declared.benches.BenchFault.TheVariants as fault
use Rattle.link_bench.specs.declared.turns.TurnEnd.{TurnEnd}
use Rattle.link_bench.specs.declared.turns.TurnEnd.TheVariants as turn_end
use Rattle.link_bench.specs.declared.benches.BegunCall.{BegunCall}
use Rattle.link_bench.specs.declared.benches.Reach.{Reach}
use Rattle.link_bench.specs.declared.benches.Reach.TheVariants as reach
use Rattle.link_bench.specs.Benches.{BenchState, link_in}
use Rattle.field_laws.specs.Fields.{AreBytes, IsFieldEnd, IsFieldLink, IsFieldWish}

-- the call that a caller has begun, if it has
abbrev pub IsFieldBegun : Option BegunCall → Type 0
IsFieldBegun found = IfSome found (λ (call : BegunCall). IsFieldWish call.wish)

pub record IsFieldBench (bench : BenchState) : Type 0 where
  pub link : IsFieldLink (link_in bench)
  pub begun : All IsFieldBegun bench.begun

abbrev pub IsFieldReach : Reach → Type 0
IsFieldReach (reach.At step) = step < 2 ^ 64
IsFieldReach (reach.Ended ended) = IsFieldEnd ended
IsFieldReach reach.Limit = Unit {0}

abbrev pub IsFieldBenchFault : BenchFault → Type 0
IsFieldBenchFault fault.NoCaller = Unit {0}
IsFieldBenchFault fault.InCall = Unit {0}
IsFieldBenchFault fault.NoCall = Unit {0}
IsFieldBenchFault (fault.NotHeld number) = number < 2 ^ 64

abbrev pub IsFieldTurnEnd : TurnEnd → Type 0
IsFieldTurnEnd turn_end.Whole = Unit {0}
IsFieldTurnEnd (turn_end.Fault caller why) = (caller < 2 ^ 64) × IsFieldBenchFault why
IsFieldTurnEnd (turn_end.Reached caller came) = (caller < 2 ^ 64) × IsFieldReach came

abbrev pub IsFieldReclaim : Reclaim → Type 0
IsFieldReclaim reclaim.Done = Unit {0}
IsFieldReclaim (reclaim.StillOpen era) = era.inc < 2 ^ 32
IsFieldReclaim (reclaim.Busy holder) = holder < 2 ^ 64

-- what comes of an act
abbrev pub IsFieldActResult : ActAnswer → Type 0
IsFieldActResult (answer.Caller number end) = number < 2 ^ 64
IsFieldActResult answer.CallersFull = Unit {0}
IsFieldActResult (answer.Refused caller why) = (caller < 2 ^ 64) × IsFieldBenchFault why
IsFieldActResult (answer.TooLong caller len) = (caller < 2 ^ 64) × (len < 2 ^ 64)
IsFieldActResult (answer.WrongSide receiver) = receiver < 2 ^ 64
IsFieldActResult (answer.Begun caller) = caller < 2 ^ 64
IsFieldActResult (answer.Reached caller came) = (caller < 2 ^ 64) × IsFieldReach came
IsFieldActResult (answer.Pumped done ended) = (done < 2 ^ 64) × IsFieldTurnEnd ended
IsFieldActResult (answer.Reclaimed caller came) = (caller < 2 ^ 64) × IsFieldReclaim came

-- what a call of an act wishes
abbrev pub IsFieldCall : CallWish (List ℕ) → Type 0
IsFieldCall (call.Send source destination payload) = (length payload < 2 ^ 64) × AreBytes payload
IsFieldCall (call.Raw message) = AreBytes message
IsFieldCall call.Take = Unit {0}
IsFieldCall (call.Give number) = number < 2 ^ 64
IsFieldCall (call.Bind address) = address < 2 ^ 32
IsFieldCall (call.Unbind address) = address < 2 ^ 32

-- an act whose messages are bytes, and whose numbers are within their types
abbrev pub IsFieldAct : LinkAct (List ℕ) → Type 0
IsFieldAct (act.Caller end) = Unit {0}
IsFieldAct (act.Call caller made wanted) = IsFieldCall wanted
IsFieldAct (act.Step caller more) = Unit {0}
IsFieldAct (act.Pump sender receiver count) = Unit {0}
IsFieldAct (act.Reclaim caller) = Unit {0}
