use Rattle.std.proofs.Common.{[]}
use Rattle.memory_pool.specs.Wanted.{in_order, wanted_from}
use Rattle.memory_pool.proofs.Sound.{placed_sound, nothing_sound}
use Rattle.memory_pool.proofs.WantedSound.{wanted_sound, order_sound}
use Rattle.memory_pool.proofs.laws.placed_apart.Goals as goal

pub returns : goal.returns
returns c = λ regions entries blocks sound good is.
    placed_sound regions [] (in_order (wanted_from 0 entries)) blocks sound (nothing_sound regions) (order_sound (wanted_from 0 entries) (wanted_sound 0 entries good)) is
