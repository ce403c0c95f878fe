-- A link whose rings are sound (own).
use Rattle.lane_model.specs.declared.lane_links.LaneLink.{LaneLink}
use Rattle.ring_core.specs.declared.states.RingState.{RingState}
use Rattle.ring_core.specs.SoundRings.{IsSoundRings}

-- both lanes have sound rings
pub record HasSoundRings {D : Type 0} (link : LaneLink (RingState D)) : Type 0 where
  pub to_host : IsSoundRings link.to_host
  pub to_remote : IsSoundRings link.to_remote
