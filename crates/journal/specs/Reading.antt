-- The event that a line is (own).
use Rattle.std.specs.Prelude.{ℕ, ◌<◌, ◌^◌, List, Option, option_map, find}
use Rattle.word_kinds.specs.Rows.{fit, row_read, AreGood}
use Rattle.journal.specs.declared.events.Event.{Event}
use Rattle.journal.specs.declared.events.Event.TheVariants as event
use Rattle.journal.specs.Lines.{words_of}
use Rattle.journal.specs.Forms.{forms, kinds, event_in}

-- an era whose incarnation has 32 bits
abbrev pub HasEra : Event → Type 0
HasEra (event.Dead x c era) = era.inc < 2 ^ 32
HasEra (event.Already x era) = era.inc < 2 ^ 32
HasEra e = Unit {0}

-- an event whose names, numbers and payloads are of their kinds
abbrev pub IsWritten : Event → Type 0
IsWritten e = AreGood (words_of e) × HasEra e

-- the event that texts say: that of the first form that they fit
abbrev pub event_of : List (List ℕ) → Option Event
event_of texts = option_map (λ form. event_in form (row_read (kinds form) texts)) (find (λ form. fit (kinds form) texts) forms)
