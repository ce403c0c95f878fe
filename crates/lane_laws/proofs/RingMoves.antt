-- Whole moves keep the rings of a link sound.
use Rattle.std.proofs.Common.{List, [], ◌∷◌, refl, sym, subst}
use Rattle.lane_model.specs.declared.lane_links.LaneLink.{LaneLink}
use Rattle.lane_model.specs.Desks.{DeskMeaning}
use Rattle.lane_model.specs.Forms.{IsForm}
use Rattle.lane_model.specs.Links.{LinkState, link_of}
use Rattle.ring_core.specs.declared.states.RingState.{RingState}
use Rattle.ring_core.specs.RingSteps.{ring_form}
use Rattle.lane_laws.specs.Moves.{Move, Enlist, Step, Close, Reclaim, Part, Take, Leave, MayMove, MayMoves}
use Rattle.lane_laws.specs.Ways.{IsWholeMove, AreWholeMoves}
use Rattle.lane_laws.specs.FormMoves.{form_move, form_moves}
use Rattle.lane_laws.specs.SoundRingLinks.{HasSoundRings}
use Rattle.lane_laws.proofs.FormMoves.{move_agrees}
use Rattle.lane_laws.proofs.RingLinks.{link_kept, close_kept, reclaim_kept}

-- the form over rings is a form
pub is_ring_form : {D : Type 0} (desk : DeskMeaning D) → IsForm (ring_form desk) desk
is_ring_form desk = record {
  after_send_start = λ lane caller follows message. refl;
  after_receive_start = λ lane caller follows first. refl;
  sent_on = λ lane era. refl;
  received_on = λ lane era. refl;
  after_send_end = λ lane caller. refl;
  after_receive_end = λ lane caller. refl;
  link_after_reopen = λ lane. refl;
}

move_kept : {D : Type 0} (desk : DeskMeaning D) (link : LaneLink (RingState D)) (move : Move) → IsWholeMove move → HasSoundRings link → MayMove (link_of (ring_form desk) link) move
    → HasSoundRings (form_move (ring_form desk) desk link move)
move_kept desk link (Enlist new) whole sound may = record { to_host = sound.to_host; to_remote = sound.to_remote }
move_kept desk link (Step caller follows wished) whole sound may = link_kept desk caller follows link wished sound may
move_kept desk link (Close inc) whole sound may = close_kept link inc sound
move_kept desk link (Reclaim caller) whole sound may = reclaim_kept desk link caller sound
move_kept desk link (Part end caller which) whole sound may = absurd whole
move_kept desk link (Take end which) whole sound may = absurd whole
move_kept desk link (Leave end which) whole sound may = absurd whole

pub moves_kept : {D : Type 0} (desk : DeskMeaning D) (link : LaneLink (RingState D)) (moves : List Move) → AreWholeMoves moves → HasSoundRings link
    → MayMoves desk (link_of (ring_form desk) link) moves → HasSoundRings (form_moves (ring_form desk) desk link moves)
moves_kept desk link [] whole sound may = sound
moves_kept {D} desk link (move ∷ moves) whole sound may =
    moves_kept desk (form_move (ring_form desk) desk link move) moves whole.1 (move_kept desk link move whole.0 sound may.0)
    (subst (λ (left : LinkState D). MayMoves desk left moves) (sym (move_agrees (ring_form desk) desk (is_ring_form desk) link move whole.0)) may.1)
