use Rattle.std.proofs.Common.{arith}
use Rattle.resource_table.proofs.Sound.{sound_table, sound_fix}
use Rattle.resource_table.proofs.fixes.write_fix.Goals as goal

pub entry_start-start-requires : goal.entry_start-start-requires
entry_start-start-requires c =
    let sound = sound_table c.args.bytes.now c.requires.good in
    let fix = sound_fix c.args.bytes.now c.args.fix sound c.requires.fix in
    omega (arith, fix.among, sound.header.offsets)

pub write_ring-requires : goal.write_ring-requires
write_ring-requires c =
    let sound = sound_table c.args.bytes.now c.requires.good in
    let room = (sound_fix c.args.bytes.now c.args.fix sound c.requires.fix).room.ring c.if-fix.true in
    omega (arith, room, c.requires.same, c.ring_start.ensures, c.entry_start-start.ensures.start)

pub write_carveout-requires : goal.write_carveout-requires
write_carveout-requires c =
    let sound = sound_table c.args.bytes.now c.requires.good in
    let room = (sound_fix c.args.bytes.now c.args.fix sound c.requires.fix).room.carveout c.if-fix.false in
    omega (arith, room, c.requires.same, c.entry_start-start.ensures.start)
