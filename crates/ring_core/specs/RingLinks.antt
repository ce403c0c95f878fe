-- A link whose lanes are rings (own).
use Rattle.std.specs.Prelude.{ℕ, true, false, Bool, [], replicate}
use Rattle.rp_base.specs.Limits.{ring_capacity}
use Rattle.lane_model.specs.declared.calls.LinkConfig.{LinkConfig}
use Rattle.lane_model.specs.declared.lane_links.LaneLink.{LaneLink}
use Rattle.lane_model.specs.Crashes.{opened_lane}
use Rattle.lane_model.specs.Links.{opened}
use Rattle.ring_core.specs.declared.states.RingState.{RingState}
use Rattle.ring_core.specs.Rings.{sizes_of, opened_rings}

-- a new lane of rings, with empty buffers
abbrev pub opened_ring_lane : {D : Type 0} → ℕ → Bool → ℕ → D → RingState D
opened_ring_lane entries device_sends book desk = record {
  lane = opened_lane (ring_capacity entries) book desk;
  rings = opened_rings (sizes_of entries device_sends) (replicate (ring_capacity entries) []);
}

-- a new link: the device, which is the remote, sends on lane 0, and the driver, which is the host, on lane 1
abbrev pub opened_ring_link : {D : Type 0} → LinkConfig → D → D → LaneLink (RingState D)
opened_ring_link config host remote =
    opened config.first (opened_ring_lane config.num0 true config.book host) (opened_ring_lane config.num1 false config.book remote)
