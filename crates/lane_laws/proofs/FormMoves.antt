-- Whole moves of a link in any form leave what they leave on the lists that the form stands for.
use Rattle.std.proofs.Common.{◌≡◌, ℕ, Bool, true, false, cond, Option, Some, None, List, [], ◌∷◌, refl, ap, ◌∙◌}
use Rattle.rp_base.specs.declared.kinds.Era.{Era}
use Rattle.rp_base.specs.declared.kinds.End.{End}
use Rattle.rp_base.specs.declared.kinds.End.TheVariants as side
use Rattle.lane_model.specs.declared.lane_links.LaneLink.{LaneLink}
use Rattle.lane_model.specs.Desks.{DeskMeaning}
use Rattle.lane_model.specs.Lanes.{is_live_in}
use Rattle.lane_model.specs.Forms.{FormMeaning, IsForm, list_form}
use Rattle.lane_model.specs.Links.{LinkState, link_of, end_of}
use Rattle.lane_model.specs.Recoveries.{without_caller}
use Rattle.lane_model.proofs.FormSteps.{step_agrees}
use Rattle.lane_laws.specs.Moves.{Move, Enlist, Step, Close, Reclaim, Part, Take, Leave, link_after_move}
use Rattle.lane_laws.specs.Ways.{link_after_moves, IsWholeMove, AreWholeMoves}
use Rattle.lane_laws.specs.FormMoves.{form_move, form_moves}

reclaim_agrees : {L D : Type 0} (form : FormMeaning L D) (desk : DeskMeaning D) → IsForm form desk → (link : LaneLink L) (found : Option End) (caller : ℕ)
    → link_of form (without_caller form link found caller) ≡ without_caller (list_form desk) (link_of form link) found caller
reclaim_agrees form desk is link (Some side.Host) caller = rw (is.after_send_end link.to_remote caller, is.after_receive_end link.to_host caller) refl
reclaim_agrees form desk is link (Some side.Remote) caller = rw (is.after_send_end link.to_host caller, is.after_receive_end link.to_remote caller) refl
reclaim_agrees form desk is link None caller = refl

close_agrees : {L D : Type 0} (form : FormMeaning L D) (link : LaneLink L) (live : Bool) (era : Era)
    → link_of form (cond live (record link { era = era }) link) ≡ cond live (record (link_of form link) { era = era }) (link_of form link)
close_agrees form link true era = refl
close_agrees form link false era = refl

pub move_agrees : {L D : Type 0} (form : FormMeaning L D) (desk : DeskMeaning D) → IsForm form desk → (link : LaneLink L) (move : Move) → IsWholeMove move
    → link_of form (form_move form desk link move) ≡ link_after_move desk (link_of form link) move
move_agrees form desk is link (Enlist new) whole = refl
move_agrees form desk is link (Step caller follows wished) whole = step_agrees form desk is link caller follows wished
move_agrees form desk is link (Close inc) whole = close_agrees form link (is_live_in link.era inc) (record { inc = inc; is_live = false })
move_agrees form desk is link (Reclaim caller) whole = reclaim_agrees form desk is link (end_of link.callers caller) caller
move_agrees form desk is link (Part end caller which) whole = absurd whole
move_agrees form desk is link (Take end which) whole = absurd whole
move_agrees form desk is link (Leave end which) whole = absurd whole

pub moves_agree : {L D : Type 0} (form : FormMeaning L D) (desk : DeskMeaning D) → IsForm form desk → (link : LaneLink L) (moves : List Move) → AreWholeMoves moves
    → link_of form (form_moves form desk link moves) ≡ link_after_moves desk (link_of form link) moves
moves_agree form desk is link [] whole = refl
moves_agree {L} {D} form desk is link (move ∷ moves) whole =
    moves_agree form desk is (form_move form desk link move) moves whole.1
    ∙ ap (λ (left : LinkState D). link_after_moves desk left moves) (move_agrees form desk is link move whole.0)
