use Rattle.std.proofs.Common.{◌+◌, ◌++◌, drop, ap, ◌∙◌}
use Rattle.std.proofs.lemmas.List.Elements.{All-append}
use Rattle.resource_table.specs.Entries.{entries_of}
use Rattle.memory_pool.specs.Wanted.{wanted_by, wanted_from}
use Rattle.memory_pool.specs.OrderedBlocks.{IsSoundWanted}
use Rattle.memory_pool.proofs.Steps.{wanted_more}
use Rattle.memory_pool.proofs.WantedSound.{entry_sound}
use Rattle.memory_pool.proofs.wanted.wanted_of.Goals as goal

pub loop-index-preserved : goal.loop-index-preserved
loop-index-preserved c =
    let entries = entries_of c.args.table.now in
    let index = c.loop-index.index in
    let all = c.loop-index.all.items in
    record {
      wanted =
          ap (λ front. front ++ wanted_from (index + 1) (drop (index + 1) entries)) c.in_ok-push_wanted.ensures
          ∙ wanted_more all entries index c.entry.result c.entry.ensures.entry
          ∙ c.loop-index.invariant.wanted;
      sound = rw c.in_ok-push_wanted.ensures (All-append IsSoundWanted all (wanted_by index c.entry.result) c.loop-index.invariant.sound (entry_sound index c.entry.result c.entry.ensures.sound));
    }
