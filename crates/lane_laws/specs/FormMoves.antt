-- The moves of a link whose lanes are kept in any form (own).
use Rattle.std.specs.Prelude.{List, [], ◌∷◌}
use Rattle.lane_model.specs.declared.lane_links.LaneLink.{LaneLink}
use Rattle.lane_model.specs.Desks.{DeskMeaning}
use Rattle.lane_model.specs.Forms.{FormMeaning}
use Rattle.lane_model.specs.Links.{form_step, with_caller, free_number}
use Rattle.lane_model.specs.Recoveries.{link_after_close, link_after_reclaim}
use Rattle.lane_laws.specs.Moves.{Move, Enlist, Step, Close, Reclaim, Part, Take, Leave}

-- the link after a move; a form makes whole moves alone, so a part of a reclaim and a turn of the manager leave it as it was
abbrev pub form_move : {L D : Type 0} → FormMeaning L D → DeskMeaning D → LaneLink L → Move → LaneLink L
form_move form desk link (Enlist new) = record link { callers = with_caller link.callers new (free_number link.callers) }
form_move form desk link (Step caller follows wished) = (form_step form desk link caller follows wished).state
form_move form desk link (Close inc) = link_after_close link inc
form_move form desk link (Reclaim caller) = link_after_reclaim form link caller
form_move form desk link (Part end caller which) = link
form_move form desk link (Take end which) = link
form_move form desk link (Leave end which) = link

-- the link after moves, one after the other
abbrev pub form_moves : {L D : Type 0} → FormMeaning L D → DeskMeaning D → LaneLink L → List Move → LaneLink L
form_moves form desk link [] = link
form_moves form desk link (move ∷ moves) = form_moves form desk (form_move form desk link move) moves
