use Rattle.std.proofs.Common.{arith, sym, ◌∙◌}
use Rattle.resource_table.specs.Entries.{type_at, start_of}
use Rattle.resource_table.proofs.Sound.{sound_table}
use Rattle.resource_table.proofs.Writes.{rpmsg_is_device}
use Rattle.resource_table.proofs.fixes.write_if_rpmsg.Goals as goal

pub is_rpmsg-requires-clause-offset : goal.is_rpmsg-requires-clause-offset
is_rpmsg-requires-clause-offset c =
    let sound = sound_table c.args.bytes.now c.requires.good in
    omega (arith, c.requires.among, sound.header.offsets)

pub is_rpmsg-requires-clause-fixed : goal.is_rpmsg-requires-clause-fixed
is_rpmsg-requires-clause-fixed c = ((sound_table c.args.bytes.now c.requires.good).entry c.args.index c.requires.among).fixed

pub u32_at-requires : goal.u32_at-requires
u32_at-requires c =
    let bytes = c.args.bytes.now in
    let start = start_of bytes c.args.index in
    let fixed = ((sound_table bytes c.requires.good).entry c.args.index c.requires.among).fixed in
    let size = rpmsg_is_device (type_at bytes start) bytes start (sym c.is_rpmsg.ensures ∙ c.if-is_rpmsg.true) in
    omega (arith, fixed, size, c.entry_start-start.ensures.start)

pub write_device-requires : goal.write_device-requires
write_device-requires c =
    let bytes = c.args.bytes.now in
    let start = start_of bytes c.args.index in
    let fixed = ((sound_table bytes c.requires.good).entry c.args.index c.requires.among).fixed in
    let size = rpmsg_is_device (type_at bytes start) bytes start (sym c.is_rpmsg.ensures ∙ c.if-is_rpmsg.true) in
    omega (arith, fixed, size, c.entry_start-start.ensures.start, c.requires.same)
