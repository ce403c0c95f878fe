-- What is written of a core's state, its resource table, its traces and its memory (own).
use Rattle.std.specs.Prelude.{ℕ, nat_lt, List, [], ◌∷◌, map, Option, Some, None, if◌then◌else◌}
use Rattle.rp_base.specs.Texts.{text_before_zero}
use Rattle.journal.specs.declared.events.Event.{Event}
use Rattle.journal.specs.declared.events.Event.TheVariants as event
use Rattle.journal.specs.declared.tables.TableLine.{TableLine}
use Rattle.crash_recover.specs.Cores.{CoreState, LoadState, core_memory, core_trace}
use Rattle.image_report.specs.TableRows.{table_rows}
use Rattle.link_commands.specs.declared.acts.CoreView.{CoreView}
use Rattle.link_commands.specs.declared.acts.CoreView.TheVariants as view

-- `state X`
abbrev pub state_event : List ℕ → CoreState → Event
state_event name core = event.State name core.life.state core.life.users core.life.incarnation

-- a line of a table
abbrev pub table_event : List ℕ → TableLine → Event
table_event name row = event.Table name row

-- the lines of a table, or that there is none
abbrev pub loaded_table_events : List ℕ → Option LoadState → List Event
loaded_table_events name None = event.NotLoaded name ∷ []
loaded_table_events name (Some loaded) = map (table_event name) (table_rows loaded.table loaded.traces)

-- `table X`
unfoldable pub table_events : List ℕ → CoreState → List Event
table_events name core = loaded_table_events name core.loaded

-- the bytes of the trace of a number, of which a table has fewer than 65,536
abbrev pub trace_bytes : CoreState → ℕ → Option (List ℕ)
trace_bytes core index = if nat_lt index 65536 then core_trace core index else None

-- the text of a trace, which ends before the first zero, or that there is none
abbrev pub shown_trace_event : List ℕ → ℕ → Option (List ℕ) → Event
shown_trace_event name index None = event.NoTrace name index
shown_trace_event name index (Some bytes) = event.Trace name index (text_before_zero bytes)

-- `trace X INDEX`
unfoldable pub trace_event : List ℕ → CoreState → ℕ → Event
trace_event name core index = shown_trace_event name index (trace_bytes core index)

-- bytes of memory, or that they are not all in one block
abbrev pub shown_memory_event : List ℕ → ℕ → ℕ → Option (List ℕ) → Event
shown_memory_event name da len None = event.Unmapped name da len
shown_memory_event name da len (Some bytes) = event.Mem name da bytes

-- `mem X DA LEN`
unfoldable pub memory_event : List ℕ → CoreState → ℕ → ℕ → Event
memory_event name core da len = shown_memory_event name da len (core_memory core da len)

-- what a core shows, and stays as it is
abbrev pub core_view_events : List ℕ → CoreState → CoreView → List Event
core_view_events name core view.State = state_event name core ∷ []
core_view_events name core view.Table = table_events name core
core_view_events name core (view.Trace index) = trace_event name core index ∷ []
core_view_events name core (view.Mem da len) = memory_event name core da len ∷ []
