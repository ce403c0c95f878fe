-- What is written, by what is to be written and how its writing ended.
use Rattle.std.proofs.Common.{◌≡◌, ◌≢◌, ◌≤◌, ℕ, ◌+◌, List, [], length, Option, Some, None, sym, ap, ◌∙◌, subst}
use Rattle.std.specs.Prelude.{Result, Ok, Err, IfOk}
use Rattle.std.specs.Io.KnownBytes.{Appends}
use Rattle.rp_io.specs.Contents.{IsFrontOf}
use Rattle.journal.specs.declared.events.Event.{Event}
use Rattle.journal_check.specs.Lines.{lines_of}
use Rattle.chart.specs.Readings.{AreLines}
use Rattle.journal_check.specs.declared.limits.TheConstants.{TRANSCRIPT_MOST}
use Rattle.chart.specs.declared.joins.Place.{Place}
use Rattle.chart.specs.declared.keys.Lifeline.{Lifeline}
use Rattle.chart.specs.declared.rows.Row.{Row}
use Rattle.chart.specs.Charts.{places_of}
use Rattle.chart.specs.Orders.{lifelines_of}
use Rattle.chart.specs.Rows.{rows_of}
use Rattle.chart.proofs.RowFacts.{rows_len}
use Rattle.chart_picture.specs.Drawings.{shapes_of}
use Rattle.chart_picture.specs.Measures.{height_of, width_of}
use Rattle.svg_text.specs.declared.pictures.Shape.{Shape}
use Rattle.svg_text.specs.Printing.{svg_of}
use Rattle.rproc_chart.specs.declared.program.Output.{Output}
use Rattle.rproc_chart.specs.declared.statuses.Status.{Status}
use Rattle.rproc_chart.specs.declared.statuses.Status.TheVariants as ended
use Rattle.rproc_chart.specs.Outputs.{IsChartOutput, IsFinal, IsOutput, IsTold, OfSource, WritesAll, WritesOutput, chart_text, chart, wide, read, other, long, large}

-- an output that is told
pub as_told : {E : Type 0} (P : List ℕ → Status → Type 0) (text : List ℕ) (status : Status) (result : Result Output E) → P text status → IfOk result (λ output. IsTold output text status)
    → IfOk result (λ output. P output.text.items output.status)
as_told P text status (Ok output) is told = subst (λ t. P t output.status) (sym told.says) (subst (P text) (sym told.ends) is)
as_told P text status (Err error) is told = tt

-- an output of the events of a text
pub of_events : {E : Type 0} (bytes : List ℕ) (events : List Event) (result : Result Output E) → AreLines (lines_of bytes) events → IfOk result (λ output. IsChartOutput events output.text.items output.status)
    → IfOk result (λ output. IsOutput bytes output.text.items output.status)
of_events bytes events (Ok output) are is = read events output.text.items output.status are is
of_events bytes events (Err error) are is = tt

-- an output ends the program
chart_final : (events : List Event) (text : List ℕ) (status : Status) → IsChartOutput events text status → IsFinal status
chart_final events text status chart = tt
chart_final events text status (wide many) = tt

pub final : (bytes text : List ℕ) (status : Status) → IsOutput bytes text status → IsFinal status
final bytes text status (read events t s are is) = chart_final events text status is
final bytes text status (other number is) = tt
final bytes text status (long many) = tt
final bytes text status (large many) = tt

-- an output of what was read is one of the source
pub of_source : (left : Option (List ℕ)) (bytes : List ℕ) (P : List ℕ → Type 0) → IsFrontOf left (TRANSCRIPT_MOST + 1) bytes → P bytes → OfSource left P
of_source None bytes P front is = (bytes, is)
of_source (Some left) bytes P front is = subst P front is

not_read : (status : Status) → ended.ReadFault ≡ status → IsFinal status → ⊥
not_read status is final = subst IsFinal (sym is) final

not_starved : (status : Status) → ended.NoMemory ≡ status → IsFinal status → ⊥
not_starved status is final = subst IsFinal (sym is) final

all_written : (status last : Status) (left old new : Option (List ℕ)) (text : List ℕ) → OfSource left (λ bytes. IsOutput bytes text last) → (status ≡ last) × Appends old new text → WritesAll status left old new
all_written status last left old new text is done = record { text = text; is = subst (λ s. OfSource left (λ bytes. IsOutput bytes text s)) (sym done.0) is; whole = done.1 }

pub written : (status last : Status) (left old new : Option (List ℕ)) (text : List ℕ) → IsFinal last → OfSource left (λ bytes. IsOutput bytes text last)
    → (status ≢ ended.WriteFault → (status ≡ last) × Appends old new text) → WritesOutput status left old new
written ended.Done last left old new text final is done = all_written ended.Done last left old new text is (done (λ e. absurd (cc)))
written ended.Unsound last left old new text final is done = all_written ended.Unsound last left old new text is (done (λ e. absurd (cc)))
written ended.Refused last left old new text final is done = all_written ended.Refused last left old new text is (done (λ e. absurd (cc)))
written ended.ReadFault last left old new text final is done = absurd (not_read last (done (λ e. absurd (cc))).0 final)
written ended.NoMemory last left old new text final is done = absurd (not_starved last (done (λ e. absurd (cc))).0 final)
written ended.WriteFault last left old new text final is done = tt

-- the text of the picture of a chart
pub drawn : (events : List Event) (width height : ℕ) (shapes : List Shape) (text : List ℕ) (lifelines : List Lifeline) (rows : List Row) (places : List Place) → text ≡ svg_of width height shapes
    → width ≡ width_of (length lifelines) → height ≡ height_of (length rows) → shapes ≡ shapes_of lifelines rows places
    → lifelines ≡ lifelines_of (rows_of events) → rows ≡ rows_of events → places ≡ places_of (lifelines_of (rows_of events)) (rows_of events) → IsChartOutput events text ended.Done
unfolding chart_text
drawn events width height shapes text lifelines rows places says wide_is high_is shapes_are lifelines_are rows_are places_are =
    let w = wide_is ∙ ap (λ ls. width_of (length ls)) lifelines_are in
    let h = high_is ∙ ap (λ rs. height_of (length rs)) rows_are in
    let s : shapes ≡ shapes_of (lifelines_of (rows_of events)) (rows_of events) (places_of (lifelines_of (rows_of events)) (rows_of events)) =
    shapes_are ∙ (λ i. shapes_of (lifelines_are i) (rows_are i) (places_are i)) in
    subst (λ t. IsChartOutput events t ended.Done) (sym (says ∙ (λ i. svg_of (w i) (h i) (s i)))) chart

pub few_rows : (events : List Event) (rows : List Row) (most : ℕ) → rows ≡ rows_of events → length events ≤ most → length rows ≤ most
few_rows events rows most are few = subst (λ n. n ≤ most) (sym (ap length are ∙ rows_len [] events)) few
