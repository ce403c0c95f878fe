-- What rproc-chart writes, and how it ends (own).
use Rattle.std.specs.Prelude.{◌≡◌, ℕ, ◌+◌, ◌<◌, List, [], ◌∷◌, ◌++◌, length, take, codes, Option, Some, None}
use Rattle.std.specs.Fmt.{decimal}
use Rattle.std.specs.Io.KnownBytes.{Appends}
use Rattle.journal.specs.declared.events.Event.{Event}
use Rattle.journal_check.specs.Lines.{lines_of}
use Rattle.journal_check.specs.declared.limits.TheConstants.{TRANSCRIPT_MOST}
use Rattle.chart.specs.declared.limits.TheConstants.{LINES_MOST}
use Rattle.chart.specs.Readings.{AreLines, IsFirstOther}
use Rattle.chart.specs.Rows.{rows_of}
use Rattle.chart.specs.Orders.{IsTooWide, lifelines_of}
use Rattle.chart.specs.Charts.{places_of}
use Rattle.chart_picture.specs.Measures.{width_of, height_of}
use Rattle.chart_picture.specs.Drawings.{shapes_of}
use Rattle.svg_text.specs.Printing.{svg_of}
use Rattle.rproc_chart.specs.declared.program.Output.{Output}
use Rattle.rproc_chart.specs.declared.statuses.Status.{Status}
use Rattle.rproc_chart.specs.declared.statuses.Status.TheVariants as ended

-- the number with which the process ends: that of rproc
abbrev pub status_number : Status → ℕ
status_number ended.Done = 0
status_number ended.Unsound = 1
status_number ended.ReadFault = 3
status_number ended.WriteFault = 4
status_number ended.NoMemory = 5
status_number ended.Refused = 6

-- the SVG of the chart of a run with these events
unfoldable pub chart_text : List Event → List ℕ
chart_text events =
    let rows = rows_of events in
    let lifelines = lifelines_of rows in
    svg_of (width_of (length lifelines)) (height_of (length rows)) (shapes_of lifelines rows (places_of lifelines rows))

-- the line that names the first line that is none of a transcript
abbrev pub refusal_line : ℕ → List ℕ
refusal_line number = codes "* no line of a transcript: " ++ decimal number ++ 10 ∷ []

-- of the events of a run: their chart, or a refusal where that would be too wide
pub data IsChartOutput (events : List Event) : List ℕ → Status → Type 0 where
  chart : IsChartOutput events (chart_text events) ended.Done
  wide : IsTooWide (rows_of events) → IsChartOutput events (codes "* refused 0 lifelines" ++ 10 ∷ []) ended.Refused

-- of the bytes of a text: the chart of the events whose lines they are; the number of the first line that is no event's; or a refusal where
-- there are too many bytes or lines
pub data IsOutput (bytes : List ℕ) : List ℕ → Status → Type 0 where
  read : (events : List Event) (text : List ℕ) (status : Status) → AreLines (lines_of bytes) events → IsChartOutput events text status → IsOutput bytes text status
  other : (number : ℕ) → IsFirstOther (lines_of bytes) number → IsOutput bytes (refusal_line number) ended.Unsound
  long : LINES_MOST < length (lines_of bytes) → IsOutput bytes (codes "* refused 0 lines" ++ 10 ∷ []) ended.Refused
  large : TRANSCRIPT_MOST < length bytes → IsOutput bytes (codes "* refused 0 size" ++ 10 ∷ []) ended.Refused

-- of what a source had left: its bytes, or the first of them where there are too many; where the source doesn't say, some bytes
abbrev pub OfSource : Option (List ℕ) → (List ℕ → Type 0) → Type 0
OfSource None P = (bytes : List ℕ) × P bytes
OfSource (Some left) P = P (take (TRANSCRIPT_MOST + 1) left)

-- this text, and this end
pub record IsTold (output : Output) (text : List ℕ) (status : Status) : Type 0 where
  pub says : output.text.items ≡ text
  pub ends : output.status ≡ status

-- the ends where an output is written in whole
abbrev pub IsFinal : Status → Type 0
IsFinal ended.Done = Unit {0}
IsFinal ended.Unsound = Unit {0}
IsFinal ended.Refused = Unit {0}
IsFinal ended.ReadFault = ⊥
IsFinal ended.WriteFault = ⊥
IsFinal ended.NoMemory = ⊥

-- the output of a text is written, and told by the end
pub record WritesAll (status : Status) (left old new : Option (List ℕ)) : Type 0 where
  pub text : List ℕ
  pub is : OfSource left (λ bytes. IsOutput bytes text status)
  pub whole : Appends old new text

-- what is written, by the end
abbrev pub WritesOutput : Status → Option (List ℕ) → Option (List ℕ) → Option (List ℕ) → Type 0
WritesOutput ended.Done left old new = WritesAll ended.Done left old new
WritesOutput ended.Unsound left old new = WritesAll ended.Unsound left old new
WritesOutput ended.Refused left old new = WritesAll ended.Refused left old new
WritesOutput ended.ReadFault left old new = Appends old new (codes "* read fault" ++ 10 ∷ [])
WritesOutput ended.WriteFault left old new = Unit {0}
WritesOutput ended.NoMemory left old new = Unit {0}
