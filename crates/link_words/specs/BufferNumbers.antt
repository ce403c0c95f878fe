-- The numbers of buffers in the rings of a link: each has 32 bits, as an entry has room for (VIRTIO 1.2 section 2.7.8).
use Rattle.std.specs.Prelude.{◌<◌, ◌^◌}
use Rattle.std.specs.List.{All}
use Rattle.lane_model.specs.declared.lane_links.LaneLink.{LaneLink}
use Rattle.ring_core.specs.declared.states.Rings.{Rings}
use Rattle.ring_core.specs.declared.states.RingState.{RingState}

-- of a lane: those of the sender's own list, of the entries, of what is in hand, and of what a call has out
pub record HasShortNumbers (rings : Rings) : Type 0 where
  pub own : (rings.sizes.own < 2 ^ 32) × (rings.sizes.capacity < 2 ^ 32)
  pub forward : All (λ entry. entry.id < 2 ^ 32) rings.forward
  pub returns : All (λ entry. entry.id < 2 ^ 32) rings.returns
  pub in_hand : All (λ hand. hand.buffer < 2 ^ 32) rings.hands
  pub out : (rings.sending < 2 ^ 32) × (rings.taking < 2 ^ 32)

-- of both lanes
pub record AreNumbersShort {D : Type 0} (m : LaneLink (RingState D)) : Type 0 where
  pub to_host : HasShortNumbers m.to_host.rings
  pub to_remote : HasShortNumbers m.to_remote.rings
