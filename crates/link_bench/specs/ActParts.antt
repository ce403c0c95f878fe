-- What an act of callers does on its bench, one part after the other (own).
use Rattle.std.specs.Prelude.{ℕ, zero, suc, ◌+◌, List, [], ◌∷◌, ◌++◌, Option, Some, None, Result, Ok, Err, if◌then◌else◌}
use Rattle.rp_base.specs.declared.kinds.End.{End}
use Rattle.lane_model.specs.declared.calls.Wish.{Wish}
use Rattle.lane_model.specs.declared.calls.Wish.TheVariants as wish
use Rattle.lane_model.specs.Links.{free_number}
use Rattle.lane_model.specs.Recoveries.{link_reclaim_refusal}
use Rattle.link_bench.specs.declared.acts.How.{How}
use Rattle.link_bench.specs.declared.acts.How.TheVariants as how
use Rattle.link_bench.specs.declared.acts.LinkAct.{LinkAct}
use Rattle.link_bench.specs.declared.acts.LinkAct.TheVariants as act
use Rattle.link_bench.specs.declared.benches.Reach.{Reach}
use Rattle.link_bench.specs.declared.turns.TurnEnd.{TurnEnd}
use Rattle.link_bench.specs.Acts.{misfit, own_in, pump_refusal, wish_of}
use Rattle.link_bench.specs.BenchCrashes.{reclaim_leaves}
use Rattle.link_bench.specs.Benches.{BenchState, advance_walk, begin_fault, call_walk, link_in, ready_fault, step_fault, with_begun_call, with_new_caller}
use Rattle.link_bench.specs.Turns.{is_whole, one_turn, turn_call, turn_message}
use Rattle.link_bench.specs.Watchers.{Seeing, watcher_after}

pub data ActPart : Type 0 where
  -- a caller is made at this end, where a number is free
  Joins : End → ActPart
  -- this caller begins a call, and no step of it is done
  Begins : ℕ → Wish → ActPart
  -- after so many steps of the run, this caller makes a whole call
  Calls : ℕ → ℕ → Wish → ActPart
  -- so many steps and one of the call that this caller is in, after so many steps of the run
  Advances : ℕ → ℕ → ℕ → ActPart
  -- who watches the link sees how far a call of this caller came
  Sees : ℕ → Reach → ActPart
  -- this caller is reclaimed, where nothing refuses it
  Reclaims : ℕ → ActPart

-- what a part leaves of the bench
abbrev pub bench_after : BenchState → ActPart → BenchState
bench_after bench (Joins end) = with_new_caller bench end (free_number (link_in bench).callers)
bench_after bench (Begins caller wanted) = with_begun_call bench caller (Some (record { follows = (link_in bench).era.inc; wish = wanted }))
bench_after bench (Calls steps caller wanted) = (call_walk bench steps caller wanted).bench
bench_after bench (Advances more steps caller) = (advance_walk bench more steps caller).bench
bench_after bench (Sees caller came) = bench
bench_after bench (Reclaims caller) = reclaim_leaves bench caller (link_reclaim_refusal (link_in bench) caller)

-- and of who watches its link
abbrev pub watcher_after_part : {W : Type 0} → Seeing W → BenchState → W → ActPart → W
watcher_after_part sees bench watcher (Sees caller came) = watcher_after sees bench caller came watcher
watcher_after_part sees bench watcher other = watcher

-- nothing is done where something refuses
abbrev pub parts_unless : {X : Type 0} → Option X → List ActPart → List ActPart
parts_unless None parts = parts
parts_unless (Some why) parts = []

-- ---- calls

-- a call that is made whole, of which the watcher sees the end, or is begun
abbrev pub made_parts : BenchState → ℕ → ℕ → How → Wish → List ActPart
made_parts bench steps caller how.Whole wanted = Calls steps caller wanted ∷ Sees caller (call_walk bench steps caller wanted).reach ∷ []
made_parts bench steps caller how.Begun wanted = Begins caller wanted ∷ []

-- ---- turns

-- a call of a turn
abbrev pub turn_parts : BenchState → ℕ → ℕ → Wish → List ActPart
turn_parts bench steps caller wanted = parts_unless (begin_fault bench caller wanted) (Calls steps caller wanted ∷ [])

-- what is done after a call of a turn that has a number
abbrev pub parts_behind : Result ℕ TurnEnd → (ℕ → List ActPart) → List ActPart
parts_behind (Ok number) later = later number
parts_behind (Err ended) later = []

-- the take of a turn, of which the watcher sees the end, and the give of what it took
unfoldable pub take_parts : ℕ → BenchState → ℕ → List ActPart
take_parts receiver bench steps =
    let taken = turn_call bench steps receiver wish.Take in
    turn_parts bench steps receiver wish.Take
    ++ parts_behind taken.number (λ number. Sees receiver (call_walk bench steps receiver wish.Take).reach ∷ turn_parts taken.bench taken.steps receiver (wish.Give number))

-- a turn: its send, then the take and the give
unfoldable pub one_parts : ℕ → ℕ → ℕ → BenchState → ℕ → List ActPart
one_parts sender receiver number bench steps =
    let sent = turn_call bench steps sender (wish.Send (turn_message number)) in
    turn_parts bench steps sender (wish.Send (turn_message number)) ++ parts_behind sent.number (λ _. take_parts receiver sent.bench sent.steps)

-- so many turns: they go on after a whole one
unfoldable pub pump_parts : {W : Type 0} → Seeing W → ℕ → ℕ → ℕ → ℕ → BenchState → W → ℕ → List ActPart
pump_parts sees zero done sender receiver bench watcher steps = []
pump_parts sees (suc more) done sender receiver bench watcher steps =
    let turn = one_turn sees sender receiver done bench watcher steps in
    one_parts sender receiver done bench steps ++ (if is_whole turn.ended then pump_parts sees more (done + 1) sender receiver turn.bench turn.watcher turn.steps else [])

-- ---- acts

-- an act of callers that are no actor's own
abbrev pub free_parts : {W : Type 0} → Seeing W → BenchState → W → ℕ → LinkAct (List ℕ) → List ActPart
free_parts sees bench watcher steps (act.Caller end) = Joins end ∷ []
free_parts sees bench watcher steps (act.Call caller made wanted) =
    parts_unless (ready_fault bench caller) (parts_unless (misfit bench caller wanted) (made_parts bench steps caller made (wish_of wanted)))
free_parts sees bench watcher steps (act.Step caller more) =
    parts_unless (step_fault bench caller) (Advances more steps caller ∷ Sees caller (advance_walk bench more steps caller).reach ∷ [])
free_parts sees bench watcher steps (act.Pump sender receiver count) =
    parts_unless (pump_refusal bench sender receiver) (pump_parts sees count 0 sender receiver bench watcher steps)
free_parts sees bench watcher steps (act.Reclaim caller) = Reclaims caller ∷ []

-- an act on a link with so many own callers, for whom nothing is done
unfoldable pub act_parts : {W : Type 0} → Seeing W → ℕ → BenchState → W → ℕ → LinkAct (List ℕ) → List ActPart
act_parts sees own bench watcher steps asked = parts_unless (own_in bench own asked) (free_parts sees bench watcher steps asked)
