-- The row of each line of a transcript (own). `past` is what this line and the earlier ones say of links and cores, the newest first.
use Rattle.std.specs.Prelude.{◌≡◌, ℕ, ◌+◌, ◌-◌, Bool, true, false, ◌==◌, if◌then◌else◌, List, [], ◌∷◌, length, take, drop, position, Option, Some, None, unwrap_or}
use Rattle.std.specs.List.{cons_option}
use Rattle.indexmap.specs.IndexMap.{get}
use Rattle.rp_base.specs.declared.kinds.End.{End}
use Rattle.rp_base.specs.declared.kinds.End.TheVariants as end
use Rattle.journal.specs.Lines.{line}
use Rattle.journal.specs.declared.events.Event.{Event}
use Rattle.journal_check.specs.Entries.{last_of}
use Rattle.chart.specs.declared.keys.Side.{Side}
use Rattle.chart.specs.declared.keys.Side.TheVariants as side
use Rattle.chart.specs.declared.keys.Lifeline.{Lifeline}
use Rattle.chart.specs.declared.keys.Caller.{Caller}
use Rattle.chart.specs.declared.keys.ArrowEnd.{ArrowEnd}
use Rattle.chart.specs.declared.marks.Said.{Said}
use Rattle.chart.specs.declared.marks.Teller.{Teller}
use Rattle.chart.specs.declared.marks.Deed.{Deed}
use Rattle.chart.specs.declared.marks.Deed.TheVariants as deed
use Rattle.chart.specs.declared.rows.Mark.{Mark}
use Rattle.chart.specs.declared.rows.Mark.TheVariants as mark
use Rattle.chart.specs.declared.rows.Stand.TheVariants as stand
use Rattle.chart.specs.declared.rows.Row.{Row}
use Rattle.chart.specs.declared.rows.Walk.{Walk}
use Rattle.chart.specs.Keys.{is_same_name, is_same_caller}
use Rattle.chart.specs.Marks.{said_by}

-- the incarnation of a link or core is that of the last line by which one began, and 0 before any
abbrev pub opened_in : Bool → Deed → Option ℕ
opened_in is_same (deed.Opens inc) = if is_same then Some inc else None
opened_in is_same _ = None

abbrev pub opened_by : List ℕ → Said → Option ℕ
opened_by name said = opened_in (is_same_name said.teller.name name) said.deed

abbrev pub incarnation : List ℕ → List Said → ℕ
incarnation name past = unwrap_or (last_of (opened_by name) past) 0

-- the end of a caller is that of the last line by which it was made; of one that no line made, the caller 0 is the host's, as with a core
abbrev pub joined_in : (ℕ → Bool) → Deed → Option End
joined_in is_same (deed.Joins number end) = if is_same number then Some end else None
joined_in is_same _ = None

abbrev pub joined_by : Caller → Said → Option End
joined_by caller said = joined_in (λ number. is_same_caller (record { name = said.teller.name; number = number }) caller) said.deed

abbrev pub end_of : List ℕ → ℕ → List Said → End
end_of name number past =
    unwrap_or (last_of (joined_by (record { name = name; number = number })) past) (if number == 0 then end.Host else end.Remote)

-- the callers of the host send on lane 1 and take on lane 0, those of the remote the other way
abbrev pub lane_of : End → Bool → ℕ
lane_of end.Host true = 1
lane_of end.Host false = 0
lane_of end.Remote true = 0
lane_of end.Remote false = 1

abbrev pub side_of : End → Side
side_of end.Host = side.Host
side_of end.Remote = side.Remote

-- the lifeline of a link or a core itself, and of a caller
abbrev pub own : List ℕ → Lifeline
own name = record { name = name; side = side.Own; caller = 0 }

abbrev pub of_caller : List ℕ → ℕ → End → Lifeline
of_caller name number end = record { name = name; side = side_of end; caller = number }

-- a line is on the lifeline of its caller, also the line that makes it, and else on that of its link or core
abbrev pub lifeline_in : List ℕ → Deed → Option ℕ → List Said → Lifeline
lifeline_in name (deed.Joins number end) caller past = of_caller name number end
lifeline_in name _ (Some number) past = of_caller name number (end_of name number past)
lifeline_in name _ None past = own name

abbrev pub lifeline_of : Said → List Said → Lifeline
lifeline_of said past = lifeline_in said.teller.name said.deed said.teller.caller past

-- an end of the arrow of a message: its link or core, the incarnation of that, its lane, and its number
abbrev pub arrow_end : Said → ℕ → Bool → List Said → ArrowEnd
arrow_end said number is_sent past =
    let name = said.teller.name in
    record {
      message = record {
        name = name;
        incarnation = incarnation name past;
        lane = lane_of (end_of name (unwrap_or said.teller.caller 0) past) is_sent;
        number = number;
      };
      is_sent = is_sent;
    }

-- a sent line is the one end of the arrow of its message, a took line the other
abbrev pub mark_in : Said → Deed → List Said → Mark
mark_in said (deed.Opens inc) past = mark.Opening
mark_in said deed.Closes past = mark.Closing
mark_in said deed.Crashes past = mark.Crash
mark_in said (deed.Joins number end) past = mark.Note
mark_in said (deed.Sent number) past = mark.Arrow (arrow_end said number true past) false
mark_in said (deed.Took number is_dropped) past = mark.Arrow (arrow_end said number false past) is_dropped
mark_in said deed.Other past = mark.Note

abbrev pub mark_of : Said → List Said → Mark
mark_of said past = mark_in said said.deed past

-- what comes after the first space
abbrev pub behind : List ℕ → Option ℕ → List ℕ
behind text (Some place) = drop (place + 1) text
behind text None = []

abbrev pub behind_space : List ℕ → List ℕ
behind_space text = behind text (position (λ byte. byte == 32) text)

-- what a line says after its link or core and its caller, where it is about these
abbrev pub shown_at : Option ℕ → List ℕ → List ℕ
shown_at None text = behind_space text
shown_at (Some caller) text = behind_space (behind_space text)

abbrev pub shown_of : Option Teller → List ℕ → List ℕ
shown_of None text = text
shown_of (Some teller) text = shown_at teller.caller text

-- the same of a line with its line feed
abbrev pub label_of : Option Teller → List ℕ → List ℕ
label_of teller line = shown_of teller (take (length line - 1) line)

abbrev pub row_in : Option Said → List Said → List ℕ → Row
row_in None past line = record { stand = stand.Aside; label = label_of None line }
row_in (Some said) past line = record { stand = stand.At (lifeline_of said past) (mark_of said past); label = label_of (Some said.teller) line }

-- the row of an event, whose line `past` has too
abbrev pub row_at : List Said → Event → Row
row_at past event = row_in (said_by event) past (line event)

-- a row for each event, in order
abbrev pub rows_from : List Said → List Event → List Row
rows_from past [] = []
rows_from past (event ∷ more) = row_at (cons_option (said_by event) past) event ∷ rows_from (cons_option (said_by event) past) more

abbrev pub rows_of : List Event → List Row
rows_of events = rows_from [] events

-- the tables keep what was last said
pub record IsWalk (past : List Said) (walk : Walk) : Type 0 where
  pub ends : (caller : Caller) → get is_same_caller walk.ends caller ≡ last_of (joined_by caller) past
  pub lives : (name : List ℕ) → get is_same_name walk.lives name ≡ last_of (opened_by name) past
