use Rattle.std.proofs.Common.{sym, ap, ◌∙◌, length}
use Rattle.resource_table.specs.Entries.{entries_of}
use Rattle.resource_table.proofs.Sound.{length-entries_of}
use Rattle.resource_table.proofs.reader.Table.len.Goals as goal

pub returns-clause-entries : goal.returns-clause-entries
returns-clause-entries c =
    c.entry_count.ensures ∙ sym (length-entries_of c.self.inside.bytes.now) ∙ ap (λ bytes. length (entries_of bytes)) c.self.view_is
