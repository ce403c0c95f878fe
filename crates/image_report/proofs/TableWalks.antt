-- The lines of a table, entry by entry.
use Rattle.std.proofs.Common.{◌≡◌, ℕ, zero, suc, ◌+◌, ◌≤◌, List, [], ◌∷◌, ◌++◌, length, drop, Option, Some, None, is_some, slice_get, refl, sym, ap, ◌∙◌, append_assoc, append-nil, arith}
use Rattle.std.proofs.lemmas.Bool.{false≢true}
use Rattle.std.proofs.Math.ListN.{drop_of_length-le}
use Rattle.resource_table.specs.declared.entries.Entry.{Entry}
use Rattle.fw_load.specs.declared.traces.TraceAt.{TraceAt}
use Rattle.journal.specs.declared.tables.TableLine.{TableLine}
use Rattle.image_report.specs.TableRows.{entry_rows, is_available, rows_from, traces_behind}

some_same : {A : Type 0} {x y : A} → Some x ≡ Some y → x ≡ y
some_same {A} {x} is = ap (λ o. content o) is
  where
    content : Option A → A
    content None = x
    content (Some z) = z

-- the entry of this number stands in front of what is left
front : (entries : List Entry) (index : ℕ) (entry : Entry) → slice_get entries index ≡ Some entry → drop index entries ≡ entry ∷ drop (suc index) entries
front [] index entry is = absurd (false≢true (ap is_some is))
front (first ∷ more) zero entry is = ap (λ (e : Entry). e ∷ more) (some_same is)
front (first ∷ more) (suc index) entry is = front more index entry is

pub rows_none : (index : ℕ) (traces : List TraceAt) → rows_from index [] traces ≡ []
unfolding rows_from
rows_none index traces = refl

rows_one : (index : ℕ) (first : Entry) (more : List Entry) (traces : List TraceAt)
    → rows_from index (first ∷ more) traces ≡ entry_rows index first (is_available (slice_get traces 0)) ++ rows_from (index + 1) more (traces_behind first traces)
unfolding rows_from
rows_one index first more traces = refl

-- the lines of an entry, behind those so far and in front of those that are left
pub rows_more : (entries : List Entry) (traces left rest : List TraceAt) (index : ℕ) (entry : Entry) (rows now : List TableLine) → slice_get entries index ≡ Some entry
    → now ≡ rows ++ entry_rows index entry (is_available (slice_get left 0)) → rest ≡ traces_behind entry left
    → rows ++ rows_from index (drop index entries) left ≡ rows_from 0 entries traces
    → now ++ rows_from (index + 1) (drop (index + 1) entries) rest ≡ rows_from 0 entries traces
rows_more entries traces left rest index entry rows now is made behind all =
    let here = entry_rows index entry (is_available (slice_get left 0)) in
    let step : index + 1 ≡ suc index = omega arith in
    ap (λ (t : List TableLine). t ++ rows_from (index + 1) (drop (index + 1) entries) rest) made
    ∙ append_assoc rows here (rows_from (index + 1) (drop (index + 1) entries) rest)
    ∙ ap (λ (t : List TableLine). rows ++ t)
    (ap (λ (n : ℕ). here ++ rows_from (index + 1) (drop n entries) rest) step
    ∙ ap (λ (t : List TraceAt). here ++ rows_from (index + 1) (drop (suc index) entries) t) behind
    ∙ sym (rows_one index entry (drop (suc index) entries) left)
    ∙ ap (λ (e : List Entry). rows_from index e left) (sym (front entries index entry is)))
    ∙ all

-- behind the last entry there is no line
pub rows_end : (entries : List Entry) (traces left : List TraceAt) (index : ℕ) (rows : List TableLine) → length entries ≤ index
    → rows ++ rows_from index (drop index entries) left ≡ rows_from 0 entries traces → rows ≡ rows_from 0 entries traces
rows_end entries traces left index rows past all =
    sym (append-nil rows)
    ∙ ap (λ (t : List TableLine). rows ++ t) (sym (ap (λ (e : List Entry). rows_from index e left) (drop_of_length-le entries past) ∙ rows_none index left))
    ∙ all
