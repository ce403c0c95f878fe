-- What befalls a link whose incarnation is closed (own).
use Rattle.std.specs.Prelude.{◌≡◌, false}
use Rattle.lane_model.specs.Links.{LinkState}
use Rattle.lane_laws.specs.Moves.{HandsNone}
use Rattle.channel_bus.specs.Sides.{EndState}

-- a link is closed still, and nothing was handed over on either lane
pub record StaysClosed (before after : LinkState EndState) : Type 0 where
  pub closed : after.era.is_live ≡ false
  pub hands : HandsNone before after
