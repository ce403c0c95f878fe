-- What takers are told at an end of a link, against what is handed over there (own).
use Rattle.std.specs.Prelude.{◌≡◌, Bool, true, false, List, [], ◌∷◌, ◌++◌, slice_get, Option, Some, if◌then◌else◌}
use Rattle.rp_base.specs.declared.kinds.End.{End}
use Rattle.rp_base.specs.declared.kinds.End.TheVariants as side
use Rattle.lane_model.specs.declared.states.BookEntry.{BookEntry}
use Rattle.lane_model.specs.declared.calls.CallEnd.TheVariants as call_end
use Rattle.lane_model.specs.declared.calls.Outcome.{Outcome}
use Rattle.lane_model.specs.declared.calls.Outcome.TheVariants as outcome
use Rattle.lane_model.specs.Desks.{DeskMeaning}
use Rattle.lane_model.specs.Lanes.{Stepped}
use Rattle.lane_model.specs.Links.{LinkState, end_of, caller_step}
use Rattle.lane_laws.specs.Handings.{Handing, handing_of, told_handing}
use Rattle.lane_laws.specs.Moves.{Move, Step, link_after_move, lane_to, Recorded, handings_to}
use Rattle.lane_laws.specs.Ways.{Way}

-- the handing of which a caller is told where its call ends so, by the book of the lane to it
abbrev pub outcome_handing : List BookEntry → Outcome → List Handing
outcome_handing book (outcome.Ended (call_end.Took number judged)) = handing_of (slice_get book number) number judged
outcome_handing book other = []

-- a caller is on this end
abbrev pub is_at : Option End → End → Bool
is_at (Some side.Host) side.Host = true
is_at (Some side.Remote) side.Remote = true
is_at other end = false

-- what a step of a caller that is found on an end tells at this end
abbrev pub step_takes : {D : Type 0} → Option End → End → Stepped (LinkState D) → List Handing
step_takes found end step = if is_at found end then outcome_handing (lane_to step.state end).lane.accepted step.outcome else []

-- what a move tells at this end: only a step tells anything
abbrev pub move_takes : {D : Type 0} → DeskMeaning D → LinkState D → Move → End → List Handing
move_takes desk link (Step caller follows wished) end = step_takes (end_of link.callers caller) end (caller_step desk link caller follows wished)
move_takes desk link other end = []

-- what is told at this end by moves from a link on, in their order
abbrev pub moves_takes : {D : Type 0} → DeskMeaning D → LinkState D → List Move → End → List Handing
moves_takes desk link [] end = []
moves_takes desk link (move ∷ moves) end = move_takes desk link move end ++ moves_takes desk (link_after_move desk link move) moves end

-- what is told at this end on a way
abbrev pub way_takes : {D : Type 0} → DeskMeaning D → Way D → End → List Handing
way_takes desk way end = moves_takes desk way.start way.moves end

-- what a taker at this end that is in its last step is yet to tell
abbrev pub left_to_tell : {D : Type 0} → LinkState D → End → List Handing
left_to_tell link end = told_handing (lane_to link end).lane.accepted (lane_to link end).receiver

-- what was told at an end, against what was handed over there
pub data IsTold {D : Type 0} (end : End) (now : Recorded D) (told : List Handing) : Type 0 where
  -- all but what a taker is yet to tell
  Level : handings_to now end ≡ told ++ left_to_tell now.link end → IsTold end now told
  -- in a closed incarnation, all but the last, whose taker was reclaimed before it told
  Lost : (lost : Handing) → now.link.era.is_live ≡ false → left_to_tell now.link end ≡ [] → handings_to now end ≡ told ++ lost ∷ [] → IsTold end now told
