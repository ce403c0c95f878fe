use Rattle.std.proofs.Common.{◌≡◌, ◌++◌, take}
use Rattle.std.specs.List.{flat_map}
use Rattle.svg_text.specs.Printing.{attribute}
use Rattle.svg_text.proofs.printing.push_attributes.Given as goal

-- the attributes so far
abbrev pub invariant-loop-name : goal.invariant-loop-name
invariant-loop-name l = l.out.items ≡ l.fn.out.items ++ flat_map (λ place. attribute place.0.now place.1) (take l.name-index l.places)
