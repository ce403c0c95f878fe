-- The way of a link: where it was last opened, and the moves since (own).
use Rattle.std.specs.Prelude.{◌≡◌, List, [], ◌∷◌, ◌++◌}
use Rattle.rp_base.specs.declared.kinds.End.{End}
use Rattle.rp_base.specs.declared.kinds.BoundEndpoint.{BoundEndpoint}
use Rattle.lane_model.specs.Desks.{DeskMeaning, IsBound}
use Rattle.lane_model.specs.Links.{LinkState}
use Rattle.lane_laws.specs.Moves.{Move, Enlist, Step, Close, Reclaim, Part, Take, Leave, link_after_move, lane_to, MayMoves, Recorded, no_handings, after_moves, IsNewLink, IsEmptyLane}

-- a link at the start of an incarnation, both of whose lanes are empty
pub record IsOpened {D : Type 0} (desk : DeskMeaning D) (link : LinkState D) : Type 0 where
  pub new : IsNewLink desk link
  pub to_host : IsEmptyLane link.to_host
  pub to_remote : IsEmptyLane link.to_remote

-- where a link was last opened, and the moves since, in their order
pub record Way (D : Type 0) : Type 0 where
  pub start : LinkState D
  pub moves : List Move

-- a way with these moves after its own
abbrev pub way_on : {D : Type 0} → Way D → List Move → Way D
way_on way more = record way { moves = way.moves ++ more }

-- the link after moves, one after the other
abbrev pub link_after_moves : {D : Type 0} → DeskMeaning D → LinkState D → List Move → LinkState D
link_after_moves desk link [] = link
link_after_moves desk link (move ∷ moves) = link_after_moves desk (link_after_move desk link move) moves

-- the link that a way leads to
abbrev pub link_of_way : {D : Type 0} → DeskMeaning D → Way D → LinkState D
link_of_way desk way = link_after_moves desk way.start way.moves

-- that link, with what it has handed over on the way
abbrev pub history : {D : Type 0} → DeskMeaning D → Way D → Recorded D
history desk way = after_moves desk (no_handings way.start) way.moves

-- a move that is done at once: no part of a reclaim, and no turn that the manager takes or leaves
abbrev pub IsWholeMove : Move → Type 0
IsWholeMove (Enlist new) = Unit {0}
IsWholeMove (Step caller follows wished) = Unit {0}
IsWholeMove (Close inc) = Unit {0}
IsWholeMove (Reclaim caller) = Unit {0}
IsWholeMove (Part end caller which) = ⊥
IsWholeMove (Take end which) = ⊥
IsWholeMove (Leave end which) = ⊥

abbrev pub AreWholeMoves : List Move → Type 0
AreWholeMoves [] = Unit {0}
AreWholeMoves (move ∷ moves) = IsWholeMove move × AreWholeMoves moves

-- a way from an opening on, by moves each of which might be made
pub record IsWay {D : Type 0} (desk : DeskMeaning D) (way : Way D) : Type 0 where
  pub opened : IsOpened desk way.start
  pub whole : AreWholeMoves way.moves
  pub may : MayMoves desk way.start way.moves

-- after some of the moves of a way this endpoint of this end was bound
pub record WasBoundOnWay {D : Type 0} (desk : DeskMeaning D) (way : Way D) (end : End) (bound : BoundEndpoint) : Type 0 where
  pub before : List Move
  pub since : List Move
  pub parts : way.moves ≡ before ++ since
  pub bound_then : IsBound desk (lane_to (link_after_moves desk way.start before) end).desk bound
