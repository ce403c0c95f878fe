use Rattle.std.proofs.Common.{◌+◌, drop, Some, ap, sym, ◌∙◌}
use Rattle.resource_table.specs.Entries.{entries_of}
use Rattle.resource_table.specs.declared.entries.Entry.TheVariants as entry
use Rattle.memory_pool.proofs.Steps.{drop_get}
use Rattle.fw_load.specs.Rings.{pair_from}
use Rattle.fw_load.proofs.Steps.{pair_here, pair_later, pair_skip, pair_sound}
use Rattle.fw_load.proofs.rings.ring_pair.Goals as goal
use Rattle.fw_load.proofs.rings.ring_pair.Goals.{in-Device+else-device-eq-RPMSG, in_default}

pub returns-then-device-eq-RPMSG-clause-sound : goal.returns-then-device-eq-RPMSG-clause-sound
returns-then-device-eq-RPMSG-clause-sound c =
    rw c.pair_of.ensures (pair_sound c.args.blocks.now c.loop-index.index c.in-Device.device c.in-Device.ensures.sound c.if-device-eq-RPMSG.true)

pub returns-then-device-eq-RPMSG-clause-rings : goal.returns-then-device-eq-RPMSG-clause-rings
returns-then-device-eq-RPMSG-clause-rings c =
    let entries = entries_of c.args.table.now in
    let blocks = c.args.blocks.now in
    let index = c.loop-index.index in
    let device = c.in-Device.device in
    let left = drop_get entries index (entry.Device device) c.in-Device.ensures.entry in
    ap Some c.pair_of.ensures ∙ sym (pair_here blocks index device (drop (index + 1) entries) c.if-device-eq-RPMSG.true) ∙ ap (pair_from blocks index) (sym left) ∙ c.loop-index.invariant

pub loop-index-preserved : goal.loop-index-preserved
loop-index-preserved c =
    let entries = entries_of c.args.table.now in
    let blocks = c.args.blocks.now in
    let index = c.loop-index.index in
    elim c.match-entry.branch [
      | in-Device+else-device-eq-RPMSG w ↦
          let device = w.in-Device.device in
          let left = drop_get entries index (entry.Device device) w.in-Device.ensures.entry in
          sym (pair_later blocks index device (drop (index + 1) entries) w.if-device-eq-RPMSG.false) ∙ ap (pair_from blocks index) (sym left) ∙ c.loop-index.invariant
      | in_default w ↦
          let left = drop_get entries index c.entry.result c.entry.ensures.entry in
          sym (pair_skip blocks index c.entry.result (drop (index + 1) entries) (λ device is. w.in_default.not-Device device is)) ∙ ap (pair_from blocks index) (sym left) ∙ c.loop-index.invariant
    ]
