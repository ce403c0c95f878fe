-- The events whose lines a text is, and the first line that is none's (own).
use Rattle.std.specs.Prelude.{◌≡◌, ℕ, ◌+◌, List, ◌∷◌, ◌++◌, map, length, All}
use Rattle.journal.specs.Lines.{line}
use Rattle.journal.specs.Reading.{IsWritten}
use Rattle.journal.specs.declared.events.Event.{Event}

-- each line is that of its event, whose names, numbers and payloads are of their kinds
pub record AreLines (lines : List (List ℕ)) (events : List Event) : Type 0 where
  pub are : lines ≡ map line events
  pub written : All IsWritten events

-- the line of this number, from 1, is no event's, and those before it are events'
pub record IsFirstOther (lines : List (List ℕ)) (number : ℕ) : Type 0 where
  pub events : List Event
  pub written : All IsWritten events
  pub other : List ℕ
  pub more : List (List ℕ)
  pub split : lines ≡ map line events ++ other ∷ more
  pub place : number ≡ length events + 1
  pub none : (event : Event) → IsWritten event → line event ≡ other → ⊥
