use Rattle.std.proofs.Common.{◌≤◌, [], ◌∷◌, length, arith, ap, length-append}
use Rattle.std.proofs.lemmas.List.Elements.{All-push}
use Rattle.resource_table.specs.Entries.{entries_of}
use Rattle.fw_load.specs.Tables.{rings_before}
use Rattle.fw_load.proofs.Steps.{before_more, numbers_more}
use Rattle.fw_load.proofs.fixes.ring_numbers.Goals as goal

pub loop-index-preserved : goal.loop-index-preserved
loop-index-preserved c =
    let entries = entries_of c.args.table.now in
    let numbers = c.loop-index.numbers.items in
    let next = c.loop-index.next in
    let kept = c.loop-index.invariant in
    record {
      all = omega (arith, ap length c.in_ok-push.ensures.items, length-append numbers (next ∷ []), kept.all);
      each = numbers_more numbers c.push.new.self.items next c.loop-index.index (rings_before entries) c.in_ok-push.ensures.items kept.all kept.each kept.next;
      next = omega (arith, kept.next, c.ring_count-next.ensures.rings, before_more entries c.loop-index.index c.entry.result c.entry.ensures.entry);
      few = omega arith;
      small = rw c.in_ok-push.ensures.items (All-push (λ number. number ≤ 65536) numbers next kept.small (omega arith));
    }
