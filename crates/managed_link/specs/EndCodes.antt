-- How the logic stores an end of a link: by the code of its type (own).
use base.Stored.{Coded}
use Rattle.channel_bus.specs.Sides.{EndState}
use Rattle.channel_bus.specs.declared.sides.Side.{the_code}

abbrev pub end_coded : Coded EndState
end_coded = the_code
