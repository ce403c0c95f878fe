use Rattle.std.proofs.Common.{[]}
use Rattle.std.specs.List.{All}
use Rattle.memory_pool.specs.OrderedBlocks.{IsSoundWanted}
use Rattle.memory_pool.proofs.Sound.{placed_sound, nothing_sound}
use Rattle.memory_pool.proofs.WantedSound.{order_sound}
use Rattle.memory_pool.proofs.placement.place.Goals as goal

pub place_all-requires-clause-wanted : goal.place_all-requires-clause-wanted
place_all-requires-clause-wanted c =
    let all : All IsSoundWanted c.deref.result.now = rw c.deref.ensures.value c.in_ok-wanted_of.ensures.sound in
    rw (c.deref-2.ensures.value, c.in_ok-wanted.ensures) (order_sound c.deref.result.now all)

pub returns-clause-sound : goal.returns-clause-sound
returns-clause-sound c =
    let all : All IsSoundWanted c.deref.result.now = rw c.deref.ensures.value c.in_ok-wanted_of.ensures.sound in
    let ordered : All IsSoundWanted c.deref-2.result.now = rw (c.deref-2.ensures.value, c.in_ok-wanted.ensures) (order_sound c.deref.result.now all) in
    placed_sound c.args.regions.now [] c.deref-2.result.now c.in_ok-blocks.blocks.items c.as_slice.ensures.sound (nothing_sound c.args.regions.now) ordered (rw c.as_slice.ensures.regions at c.in_ok-blocks.ensures.placed)
