-- Whom a line of a transcript is about, and what of it a chart shows by more than its text (own).
use Rattle.std.specs.Prelude.{true, false, List, ◌∷◌, Option, Some, None, option_map}
use Rattle.word_kinds.specs.Texts.{Word, Name, Number}
use Rattle.journal.specs.Lines.{words_of}
use Rattle.journal.specs.declared.events.Event.{Event}
use Rattle.journal.specs.declared.events.Event.TheVariants as event
use Rattle.chart.specs.declared.marks.Teller.{Teller}
use Rattle.chart.specs.declared.marks.Said.{Said}
use Rattle.chart.specs.declared.marks.Deed.{Deed}
use Rattle.chart.specs.declared.marks.Deed.TheVariants as deed

-- a line begins with the name of its link or core; where a number follows, that is its caller's
abbrev pub teller_in : List Word → Option Teller
teller_in (Name name ∷ Number caller ∷ more) = Some (record { name = name; caller = Some caller })
teller_in (Name name ∷ more) = Some (record { name = name; caller = None })
teller_in words = None

-- whom an event is about; the words after the name in a line about a resource table begin with none that is a number
abbrev pub teller_of : Event → Option Teller
teller_of (event.Table x entry) = Some (record { name = x; caller = None })
teller_of e = teller_in (words_of e)

-- openings, closes, crashes, callers, and the two ends of a message
abbrev pub deed_of : Event → Deed
deed_of (event.Open x inc) = deed.Opens inc
deed_of (event.Running x inc) = deed.Opens inc
deed_of (event.Attached x inc) = deed.Opens inc
deed_of (event.Closed x inc) = deed.Closes
deed_of (event.Crashed x kind) = deed.Crashes
deed_of (event.Caller x caller end) = deed.Joins caller end
deed_of (event.Sent x caller number) = deed.Sent number
deed_of (event.TookFromTo x caller number source endpoint payload) = deed.Took number false
deed_of (event.TookFromDropped x caller number source destination payload) = deed.Took number true
deed_of (event.TookMalformed x caller number) = deed.Took number false
deed_of (event.TookNs x caller number what channel address) = deed.Took number false
deed_of (event.TookNsMalformed x caller number) = deed.Took number false
deed_of e = deed.Other

-- what an event says of a link or a core
abbrev pub said_by : Event → Option Said
said_by e = option_map (λ teller. record { teller = teller; deed = deed_of e }) (teller_of e)
