-- The lines about a resource table as it was patched (own).
use Rattle.std.specs.Prelude.{ℕ, ◌+◌, Bool, false, List, [], ◌∷◌, ◌++◌, take, drop, slice_get, Option, Some, None, is_some, if◌then◌else◌}
use Rattle.resource_table.specs.declared.entries.Entry.{Entry}
use Rattle.resource_table.specs.declared.entries.Entry.TheVariants as entry
use Rattle.resource_table.specs.declared.entries.Ring.{Ring}
use Rattle.resource_table.specs.declared.entries.Vdev.{Vdev}
use Rattle.resource_table.specs.Entries.{entries_of}
use Rattle.fw_load.specs.declared.traces.TraceAt.{TraceAt}
use Rattle.journal.specs.declared.tables.TableLine.{TableLine}
use Rattle.journal.specs.declared.tables.TableLine.TheVariants as row

-- the line of a ring of the device that is this entry
abbrev pub ring_row : ℕ → ℕ → Ring → TableLine
ring_row index number ring = row.Vring index number ring.da ring.align ring.num ring.notify

-- the line of a device, then those of its rings, of which it has at most two
abbrev pub device_rows : ℕ → Vdev → List TableLine
device_rows index device =
    row.Vdev index device.id device.guest device.status
    ∷ take device.count (ring_row index 0 device.first ∷ ring_row index 1 device.second ∷ [])

-- some block of memory holds a trace
abbrev pub is_available : Option TraceAt → Bool
is_available None = false
is_available (Some trace) = is_some trace.at

-- the line of a trace
abbrev pub trace_row : ℕ → ℕ → ℕ → List ℕ → Bool → TableLine
trace_row index da len name available =
    if available then row.Trace index da len name else row.TraceUnavailable index da len name

-- the lines of an entry, whose trace, if it is one, is available or not
abbrev pub entry_rows : ℕ → Entry → Bool → List TableLine
entry_rows index (entry.Carveout da pa len name) available = row.Carveout index da pa len name ∷ []
entry_rows index (entry.Devmem da pa len name) available = row.Devmem index da pa len name ∷ []
entry_rows index (entry.Trace da len name) available = trace_row index da len name available ∷ []
entry_rows index (entry.Device device) available = device_rows index device
entry_rows index (entry.Skipped kind) available = row.Skipped index kind ∷ []

-- the traces after those of an entry
abbrev pub traces_behind : Entry → List TraceAt → List TraceAt
traces_behind (entry.Trace da len name) traces = drop 1 traces
traces_behind _ traces = traces

-- the lines of entries, the first of which has this number, whose traces are these in order
unfoldable pub rows_from : ℕ → List Entry → List TraceAt → List TableLine
rows_from index [] traces = []
rows_from index (first ∷ more) traces = entry_rows index first (is_available (slice_get traces 0)) ++ rows_from (index + 1) more (traces_behind first traces)

-- the lines of a table, by its entries, of which there are none where there is no table
abbrev pub table_rows : List ℕ → List TraceAt → List TableLine
table_rows table traces = rows_from 0 (entries_of table) traces
