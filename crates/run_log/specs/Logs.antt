-- What a run keeps beside its links and cores (own).
use Rattle.std.specs.Prelude.{◌≡◌, ℕ, ◌<◌, List, ◌++◌, length, Option}
use Rattle.std.specs.Io.KnownBytes.{Appends}
use Rattle.journal.specs.declared.events.Event.{Event}
use Rattle.journal.specs.Lines.{transcript}
use Rattle.run_log.specs.declared.logs.TheConstants.{PIECE}

-- the lines that wait to be handed on, and how many steps were done
pub record LogState : Type 0 where
  pub lines : List ℕ
  pub steps : ℕ

-- these events are written, and no step is counted
abbrev pub Keeps : LogState → LogState → List Event → Type 0
Keeps before after told = after ≡ record before { lines = before.lines ++ transcript told }

-- less than a piece is kept
abbrev pub KeepsLess : LogState → Type 0
KeepsLess log = length log.lines < PIECE

-- where told: what was handed on meanwhile, and what is kept now, are what was kept before and these bytes
pub record Hands (written : Option (List ℕ)) (kept : List ℕ) (now : Option (List ℕ)) (left bytes : List ℕ) : Type 0 where
  pub handed : List ℕ
  pub appended : Appends written now handed
  pub rest : handed ++ left ≡ kept ++ bytes
