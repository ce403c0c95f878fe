use Rattle.std.proofs.Common.{ap, ◌∙◌}
use Rattle.atomic_table.specs.Table.{turned}
use Rattle.link_words.specs.Calls.{SeatState}
use Rattle.split_ring.proofs.Turning.{turned_last}
use Rattle.split_ring.proofs.slots.turn_by.Goals as goal

-- one more is turned
pub loop-preserved : goal.loop-preserved
loop-preserved c =
    let told = c.turn.ensures in let was = c.loop.invariant in
    (told.0 ∙ was.0, told.1 ∙ was.1, told.2 ∙ (ap (λ (s : SeatState). (s.0, turned s.1)) was.2 ∙ (λ i. (c.args.seat.now.me.0, turned_last c.loop.counter c.args.seat.now.me.1 i))))
