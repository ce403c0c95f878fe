-- However a link over rings went on from its making, its rings and its lists are sound.
use Rattle.std.proofs.Common.{◌∙◌, List, [], ◌∷◌, sym, subst}
use Rattle.lane_model.specs.declared.lane_links.LaneLink.{LaneLink}
use Rattle.lane_model.specs.Desks.{DeskMeaning}
use Rattle.lane_model.specs.Links.{LinkState, link_of}
use Rattle.lane_model.specs.Recoveries.{link_after_reopen}
use Rattle.lane_model.specs.Soundness.{SoundLink}
use Rattle.ring_core.specs.declared.states.RingState.{RingState}
use Rattle.ring_core.specs.RingLinks.{opened_ring_link}
use Rattle.ring_core.specs.RingSteps.{ring_form}
use Rattle.lane_laws.specs.FormMoves.{form_moves}
use Rattle.lane_laws.specs.Moves.{Move, no_handings}
use Rattle.lane_laws.specs.RingWays.{RingWay, after_lives, ring_link_of, MayLive, MayLives, IsRingWay}
use Rattle.lane_laws.specs.SoundRingLinks.{HasSoundRings}
use Rattle.lane_laws.proofs.CrashLaws.{reopen_sound}
use Rattle.lane_laws.proofs.FormMoves.{moves_agree}
use Rattle.lane_laws.proofs.LinkRuns.{moves_sound}
use Rattle.lane_laws.proofs.RingLinks.{opened_link_sound, reopen_kept}
use Rattle.lane_laws.proofs.RingMoves.{is_ring_form, moves_kept}
use Rattle.lane_laws.proofs.SoundKept.{opened_sound}
use Rattle.lane_laws.proofs.WayFacts.{after_moves_link}

-- a link whose rings are sound, and the lists that they stand for
pub record IsSoundOver {D : Type 0} (desk : DeskMeaning D) (link : LaneLink (RingState D)) : Type 0 where
  pub rings : HasSoundRings link
  pub lists : SoundLink (link_of (ring_form desk) link)

moves_over : {D : Type 0} (desk : DeskMeaning D) (link : LaneLink (RingState D)) (moves : List Move) → IsSoundOver desk link → MayLive desk link moves
    → IsSoundOver desk (form_moves (ring_form desk) desk link moves)
moves_over {D} desk link moves sound may =
    let lists = link_of (ring_form desk) link in
    record {
      rings = moves_kept desk link moves may.0 sound.rings may.1;
      lists = subst (λ (left : LinkState D). SoundLink left)
          (after_moves_link desk (no_handings lists) moves ∙ sym (moves_agree (ring_form desk) desk (is_ring_form desk) link moves may.0))
          (moves_sound desk (no_handings lists) moves sound.lists may.1);
    }

lives_over : {D : Type 0} (desk : DeskMeaning D) (link : LaneLink (RingState D)) (lives : List (List Move)) → IsSoundOver desk link → MayLives desk link lives
    → IsSoundOver desk (after_lives desk link lives)
lives_over desk link [] sound may = sound
lives_over desk link (moves ∷ lives) sound may =
    let over = form_moves (ring_form desk) desk link moves in
    lives_over desk (link_after_reopen (ring_form desk) over) lives
    (record { rings = reopen_kept desk over (moves_over desk link moves sound may.0).rings; lists = reopen_sound desk (link_of (ring_form desk) over) }) may.1

pub way_over : {D : Type 0} (desk : DeskMeaning D) (way : RingWay D) → IsRingWay desk way → IsSoundOver desk (ring_link_of desk way)
way_over desk way is =
    let made = opened_ring_link way.config way.host way.remote in
    let new : IsSoundOver desk made = record { rings = opened_link_sound way.config way.host way.remote is.config; lists = opened_sound way.config way.host way.remote } in
    moves_over desk (after_lives desk made way.lives) way.moves (lives_over desk made way.lives new is.lives) is.moves
