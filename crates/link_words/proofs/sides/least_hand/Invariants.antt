use Rattle.std.proofs.Common.{◌≡◌, take}
use Rattle.link_words.specs.Reopens.{least_hand}
use Rattle.link_words.proofs.sides.least_hand.Given as goal

abbrev pub invariant-loop-hand : goal.invariant-loop-hand
invariant-loop-hand l = l.least ≡ least_hand (take l.hand-index l.hands)
