use Rattle.std.proofs.Common.{◌≡◌, [], ◌++◌, replicate}
use Rattle.link_words.specs.declared.rule.Slot.TheVariants.{Buffer}
use Rattle.split_ring.proofs.layouts.push_buffers.Given as goal

-- the buffers appended so far
abbrev pub invariant-loop : goal.invariant-loop
invariant-loop l = l.slots.items ≡ l.fn.slots.items ++ replicate l.counter (Buffer [])
