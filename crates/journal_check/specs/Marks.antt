-- What lines say that the rules speak of, and of which link or core (own). Lists of what was said before are newest first.
use Rattle.std.specs.Prelude.{ℕ, if◌then◌else◌, bytes_eq, List, Option, Some, None}
use Rattle.std.specs.List.{filter_map}
use Rattle.journal.specs.declared.events.Event.{Event}
use Rattle.journal.specs.declared.events.Event.TheVariants as event
use Rattle.journal_check.specs.declared.readings.Reading.{Reading}
use Rattle.journal_check.specs.declared.readings.Reading.TheVariants as reading
use Rattle.journal_check.specs.declared.marks.Fate.TheVariants as fate
use Rattle.journal_check.specs.declared.marks.Mark.{Mark}
use Rattle.journal_check.specs.declared.marks.What.{What}
use Rattle.journal_check.specs.declared.marks.What.TheVariants as what

abbrev pub mark : List ℕ → What → Option Mark
mark name what = Some (record { name = name; what = what })

-- what an event says, if a rule speaks of it. A name is that of a core from its line `offline` on; an incarnation begins with the line
-- `open` of a link, or the line `running` or `attached` of a core
abbrev pub mark_of : Event → Option Mark
mark_of (event.Offline x) = mark x what.Core
mark_of (event.Open x inc) = mark x (what.Opens inc)
mark_of (event.Running x inc) = mark x (what.Opens inc)
mark_of (event.Attached x inc) = mark x (what.Opens inc)
mark_of (event.Closed x inc) = mark x (what.Closes inc)
mark_of (event.Caller x c end) = mark x (what.Caller c end)
mark_of (event.Sent x c k) = mark x (what.Sent c k)
mark_of (event.TookFromTo x c k source endpoint payload) = mark x (what.Took c k (fate.To endpoint))
mark_of (event.TookFromDropped x c k source destination payload) = mark x (what.Took c k (fate.Dropped destination))
mark_of (event.TookMalformed x c k) = mark x (what.Took c k fate.Other)
mark_of (event.TookNs x c k kind channel address) = mark x (what.Took c k fate.Other)
mark_of (event.TookNsMalformed x c k) = mark x (what.Took c k fate.Other)
mark_of (event.Bound x c endpoint) = mark x (what.Bound c endpoint)
mark_of (event.Unbound x c endpoint) = mark x (what.Unbound c endpoint)
mark_of other = None

abbrev pub mark_in : Reading → Option Mark
mark_in (reading.Event e) = mark_of e
mark_in (reading.Ending n) = None
mark_in reading.Nothing = None

-- what a mark says of a name
abbrev pub about : List ℕ → Option Mark → Option What
about name None = None
about name (Some said) = if bytes_eq said.name name then Some said.what else None

-- what lines say of a name. The rules speak of lines of one name alone
abbrev pub past_of : List ℕ → List Reading → List What
past_of name readings = filter_map (λ reading. about name (mark_in reading)) readings
