-- What an act does of the link of a bench, and tells of takes: its own moves, and the handings of which takers are told (own).
use Rattle.std.specs.Prelude.{ℕ, zero, suc, ◌-◌, List, [], ◌∷◌, ◌++◌, replicate, Option, Some, None}
use Rattle.rp_base.specs.declared.kinds.End.{End}
use Rattle.lane_model.specs.declared.calls.Outcome.TheVariants as outcome
use Rattle.lane_model.specs.declared.calls.Wish.{Wish}
use Rattle.lane_model.specs.declared.recoveries.ReclaimRefusal.{ReclaimRefusal}
use Rattle.lane_model.specs.Links.{LinkState, end_of, free_number}
use Rattle.lane_model.specs.Recoveries.{link_reclaim_refusal}
use Rattle.lane_laws.specs.Handings.{Handing}
use Rattle.lane_laws.specs.Moves.{Move, Enlist, Step, Reclaim}
use Rattle.lane_laws.specs.Takes.{step_takes}
use Rattle.channel_bus.specs.Sides.{EndState}
use Rattle.link_bench.specs.declared.acts.LinkAct.{LinkAct}
use Rattle.link_bench.specs.declared.benches.BegunCall.{BegunCall}
use Rattle.link_bench.specs.declared.benches.Reach.{Reach}
use Rattle.link_bench.specs.declared.benches.Reach.TheVariants as reach
use Rattle.link_bench.specs.ActParts.{ActPart, Advances, Begins, Calls, Joins, Reclaims, Sees, act_parts, bench_after}
use Rattle.link_bench.specs.Benches.{BenchState, BenchWalk, advance_steps, begun_call_of, call_walk, link_in}
use Rattle.link_bench.specs.Watchers.{Seeing}

-- the moves that were made, in their order, and the handings of which takers were told at each end
pub record Deeds : Type 0 where
  pub moves : List Move
  pub takes : End → List Handing

abbrev pub no_deeds : Deeds
no_deeds = record { moves = []; takes = λ end. [] }

-- a move that tells nothing
abbrev pub one_move : Move → Deeds
one_move move = record { moves = move ∷ []; takes = λ end. [] }

abbrev pub deeds_then : Deeds → Deeds → Deeds
deeds_then one other = record { moves = one.moves ++ other.moves; takes = λ end. one.takes end ++ other.takes end }

-- so many later steps of the call of a caller
abbrev pub later_moves : ℕ → ℕ → List Move
later_moves count caller = replicate count (Step caller 0 None)

-- so many steps of a call of a caller, the first of which has what is wished
abbrev pub call_moves : ℕ → ℕ → ℕ → Wish → List Move
call_moves zero caller follows wanted = []
call_moves (suc more) caller follows wanted = Step caller follows (Some wanted) ∷ later_moves more caller

-- what is told at an end by a call of a caller that came so far on the link that it left: the handing where it ended as a take
abbrev pub reach_takes : LinkState EndState → ℕ → Reach → End → List Handing
reach_takes link caller (reach.At step) end = []
reach_takes link caller (reach.Ended ended) end = step_takes (end_of link.callers caller) end (record { state = link; outcome = outcome.Ended ended })
reach_takes link caller reach.Limit end = []

-- these moves, and what a call tells that came so far
abbrev pub walk_deeds : ℕ → BenchWalk → List Move → Deeds
walk_deeds caller walk moves = record { moves = moves; takes = reach_takes (link_in walk.bench) caller walk.reach }

-- a whole call: as many steps as the run counts for it
abbrev pub whole_deeds : BenchState → ℕ → ℕ → Wish → Deeds
whole_deeds bench steps caller wanted =
    let walk = call_walk bench steps caller wanted in
    walk_deeds caller walk (call_moves (walk.steps - steps) caller (link_in bench).era.inc wanted)

-- steps of the call that a caller is in, from its first step or from where it is
abbrev pub advance_deeds : BenchState → ℕ → ℕ → ℕ → Option BegunCall → Deeds
advance_deeds bench more steps caller (Some call) =
    let walk = advance_steps bench more steps caller (Some call) in
    walk_deeds caller walk (call_moves (walk.steps - steps) caller call.follows call.wish)
advance_deeds bench more steps caller None =
    let walk = advance_steps bench more steps caller None in
    walk_deeds caller walk (later_moves (walk.steps - steps) caller)

-- a new caller at an end, where a number is free
abbrev pub caller_deeds : End → Option ℕ → Deeds
caller_deeds end (Some number) = one_move (Enlist end)
caller_deeds end None = no_deeds

-- the reclaim of a caller in use, which nothing refuses
abbrev pub reclaim_deeds : ℕ → Option End → Option ReclaimRefusal → Deeds
reclaim_deeds caller (Some end) None = one_move (Reclaim caller)
reclaim_deeds caller (Some end) (Some why) = no_deeds
reclaim_deeds caller None why = no_deeds

-- a part of an act
abbrev pub part_deeds : BenchState → ActPart → Deeds
part_deeds bench (Joins end) = caller_deeds end (free_number (link_in bench).callers)
part_deeds bench (Begins caller wanted) = no_deeds
part_deeds bench (Calls steps caller wanted) = whole_deeds bench steps caller wanted
part_deeds bench (Advances more steps caller) = advance_deeds bench more steps caller (begun_call_of bench caller)
part_deeds bench (Sees caller came) = no_deeds
part_deeds bench (Reclaims caller) = reclaim_deeds caller (end_of (link_in bench).callers caller) (link_reclaim_refusal (link_in bench) caller)

-- parts, one after the other
abbrev pub parts_deeds : BenchState → List ActPart → Deeds
parts_deeds bench [] = no_deeds
parts_deeds bench (part ∷ parts) = deeds_then (part_deeds bench part) (parts_deeds (bench_after bench part) parts)

-- an act on a link with so many own callers, for whom nothing is done
unfoldable pub act_deeds : {W : Type 0} → Seeing W → ℕ → BenchState → W → ℕ → LinkAct (List ℕ) → Deeds
act_deeds sees own bench watcher steps asked = parts_deeds bench (act_parts sees own bench watcher steps asked)
