-- Lines of lists of events.
use Rattle.std.proofs.Common.{◌≡◌, ◌∷◌, List, [], ◌++◌, refl, sym, ap, ◌∙◌, append_assoc}
use Rattle.journal.specs.declared.events.Event.{Event}
use Rattle.journal.specs.Lines.{line, transcript}

-- the lines of two lists of events
pub transcript-append : (first second : List Event) → transcript (first ++ second) ≡ transcript first ++ transcript second
transcript-append [] second = refl
transcript-append (event ∷ more) second =
    ap (λ rest. line event ++ rest) (transcript-append more second) ∙ sym (append_assoc (line event) (transcript more) (transcript second))
