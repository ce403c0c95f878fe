-- A link whose desks lie in their places, and the manager who knows its state (own).
use Rattle.std.specs.Prelude.{◌≡◌, [], Some}
use base.Stored.{Coded}
use Rattle.rp_base.specs.declared.kinds.End.{End}
use Rattle.rp_base.specs.declared.kinds.End.TheVariants as side
use Rattle.lane_model.specs.declared.lane_links.LaneLink.{LaneLink}
use Rattle.ring_core.specs.declared.states.RingState.{RingState}
use Rattle.link_words.specs.declared.codes.DeskTables.{DeskTables}
use Rattle.link_words.specs.declared.rule.View.{View}
use Rattle.link_words.specs.Codes.{copied}
use Rattle.link_words.specs.Passes.{Manages}
use Rattle.link_words.specs.PlacedDesks.{PlacedDesk, placed_coded}

module _ {D : Type 0} (coded : Coded D) (tables : DeskTables) where
  -- the desk of this end
  abbrev pub placed : End → D → PlacedDesk coded tables
  placed end desk = record { desk = desk; end = end }

  -- the lane to this end, and the link
  abbrev pub placed_lane : End → RingState D → RingState (PlacedDesk coded tables)
  placed_lane end s = record { lane = record { lane = s.lane.lane; sender = s.lane.sender; receiver = s.lane.receiver; desk = placed end s.lane.desk }; rings = s.rings }

  abbrev pub placed_link : LaneLink (RingState D) → LaneLink (RingState (PlacedDesk coded tables))
  placed_link m = record { era = m.era; to_host = placed_lane side.Host m.to_host; to_remote = placed_lane side.Remote m.to_remote; callers = m.callers }

-- the manager carries every caller, and by its copy the link's state is this one
pub record KnowsState {D : Type 0} (coded : Coded D) (v : View) (m : LaneLink (RingState D)) : Type 0 where
  pub manages : Manages v
  pub carries : v.out ≡ []
  pub copy : v.copy ≡ Some (copied (placed_coded coded v.sizes.desks) (placed_link coded v.sizes.desks m))

-- the view is that of the same manager, whose callers are where they were
pub record IsSameCarrier (v w : View) : Type 0 where
  pub manages : Manages w
  pub out : w.out ≡ v.out
  pub sizes : w.sizes ≡ v.sizes
