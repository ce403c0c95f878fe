-- The way of a link over rings from its making on, over all its incarnations (own).
use Rattle.std.specs.Prelude.{List, [], ◌∷◌}
use Rattle.lane_model.specs.declared.calls.LinkConfig.{LinkConfig}
use Rattle.lane_model.specs.declared.lane_links.LaneLink.{LaneLink}
use Rattle.lane_model.specs.Conditions.{IsConfig}
use Rattle.lane_model.specs.Desks.{DeskMeaning}
use Rattle.lane_model.specs.Links.{link_of}
use Rattle.lane_model.specs.Recoveries.{link_after_reopen}
use Rattle.ring_core.specs.declared.states.RingState.{RingState}
use Rattle.ring_core.specs.RingLinks.{opened_ring_link}
use Rattle.ring_core.specs.RingSteps.{ring_form}
use Rattle.lane_laws.specs.FormMoves.{form_moves}
use Rattle.lane_laws.specs.Moves.{Move, MayMoves}
use Rattle.lane_laws.specs.Ways.{AreWholeMoves}

-- how a link was made, the moves of each incarnation that is over, and the moves since
pub record RingWay (D : Type 0) : Type 0 where
  pub config : LinkConfig
  pub host : D
  pub remote : D
  pub lives : List (List Move)
  pub moves : List Move

-- the link after whole incarnations, each with the reopening after it
abbrev pub after_lives : {D : Type 0} → DeskMeaning D → LaneLink (RingState D) → List (List Move) → LaneLink (RingState D)
after_lives desk link [] = link
after_lives desk link (moves ∷ lives) = after_lives desk (link_after_reopen (ring_form desk) (form_moves (ring_form desk) desk link moves)) lives

-- the link at the start of its incarnation, and as it is now
abbrev pub ring_start : {D : Type 0} → DeskMeaning D → RingWay D → LaneLink (RingState D)
ring_start desk way = after_lives desk (opened_ring_link way.config way.host way.remote) way.lives

abbrev pub ring_link_of : {D : Type 0} → DeskMeaning D → RingWay D → LaneLink (RingState D)
ring_link_of desk way = form_moves (ring_form desk) desk (ring_start desk way) way.moves

-- whole moves, each of which may be made where the ones before it have been
abbrev pub MayLive : {D : Type 0} → DeskMeaning D → LaneLink (RingState D) → List Move → Type 0
MayLive desk link moves = AreWholeMoves moves × MayMoves desk (link_of (ring_form desk) link) moves

abbrev pub MayLives : {D : Type 0} → DeskMeaning D → LaneLink (RingState D) → List (List Move) → Type 0
MayLives desk link [] = Unit {0}
MayLives desk link (moves ∷ lives) =
    MayLive desk link moves × MayLives desk (link_after_reopen (ring_form desk) (form_moves (ring_form desk) desk link moves)) lives

-- a way by what may befall a link
pub record IsRingWay {D : Type 0} (desk : DeskMeaning D) (way : RingWay D) : Type 0 where
  pub config : IsConfig way.config
  pub lives : MayLives desk (opened_ring_link way.config way.host way.remote) way.lives
  pub moves : MayLive desk (ring_start desk way) way.moves
