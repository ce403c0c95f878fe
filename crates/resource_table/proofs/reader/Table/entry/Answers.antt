use Rattle.std.proofs.Common.{sym, ap, ◌∙◌, arith, length, subst, Some, slice_get, ◌<◌}
use Rattle.resource_table.specs.Entries.{entries_of, entry_at}
use Rattle.resource_table.proofs.Sound.{entry_of_good}
use Rattle.resource_table.specs.Tables.{IsSoundEntry}
use Rattle.resource_table.proofs.Devices.{sound_entry}
use Rattle.resource_table.proofs.reader.Table.entry.Goals as goal

pub entry_start-requires : goal.entry_start-requires
entry_start-requires c =
    (entry_of_good c.self.inside.bytes.now c.args.index c.self.invariant (subst (λ bytes. c.args.index < length (entries_of bytes)) (sym c.self.view_is) c.requires)).offset

pub read_entry-requires-clause-kind : goal.read_entry-requires-clause-kind
read_entry-requires-clause-kind c =
    let entry = entry_of_good c.self.inside.bytes.now c.args.index c.self.invariant (subst (λ bytes. c.args.index < length (entries_of bytes)) (sym c.self.view_is) c.requires) in
    omega (arith, entry.kind, c.entry_start.ensures.start)

pub read_entry-requires-clause-whole : goal.read_entry-requires-clause-whole
read_entry-requires-clause-whole c =
    let entry = entry_of_good c.self.inside.bytes.now c.args.index c.self.invariant (subst (λ bytes. c.args.index < length (entries_of bytes)) (sym c.self.view_is) c.requires) in
    rw c.entry_start.ensures.start entry.whole

pub returns-clause-entry : goal.returns-clause-entry
returns-clause-entry c =
    let bytes = c.self.inside.bytes.now in
    let entry = entry_of_good bytes c.args.index c.self.invariant (subst (λ b. c.args.index < length (entries_of b)) (sym c.self.view_is) c.requires) in
    ap (λ b. slice_get (entries_of b) c.args.index) (sym c.self.view_is)
    ∙ entry.is ∙ ap Some (ap (entry_at bytes) (sym c.entry_start.ensures.start) ∙ sym c.read_entry.ensures)

pub returns-clause-sound : goal.returns-clause-sound
returns-clause-sound c =
    let bytes = c.self.inside.bytes.now in
    let sound = sound_entry bytes c.args.index c.self.invariant (subst (λ b. c.args.index < length (entries_of b)) (sym c.self.view_is) c.requires) in
    subst IsSoundEntry (ap (entry_at bytes) (sym c.entry_start.ensures.start) ∙ sym c.read_entry.ensures) sound
