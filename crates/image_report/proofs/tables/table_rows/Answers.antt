use Rattle.std.proofs.Common.{◌≡◌, ℕ, ◌≤◌, Bool, List, [], ◌++◌, length, sym, ap, ◌∙◌, subst}
use Rattle.resource_table.specs.declared.entries.Entry.{Entry}
use Rattle.resource_table.specs.Entries.{entries_of}
use Rattle.image_report.specs.TableRows.{entry_rows, rows_from}
use Rattle.fw_load.specs.Tables.{entries_in}
use Rattle.image_report.proofs.TableWalks.{rows_end, rows_more, rows_none}
use Rattle.image_report.proofs.tables.table_rows.Goals as goal

pub loop-index-preserved : goal.loop-index-preserved
loop-index-preserved c =
    rows_more (entries_of c.in-Some.table) c.args.traces.now c.loop-index.left.now c.traces_behind-left.result.now c.loop-index.index c.entry-entry.result c.loop-index.rows.items c.push_entry.new.rows.items
    c.entry-entry.ensures.entry
    (c.in_ok-push_entry.ensures ∙ ap (λ (available : Bool). c.loop-index.rows.items ++ entry_rows c.loop-index.index c.entry-entry.result available) c.is_available.ensures) c.traces_behind-left.ensures c.loop-index.invariant

pub returns : goal.returns
returns c =
    let entries = entries_of c.in-Some.table in
    let past : length entries ≤ c.loop-index.index = subst (λ (n : ℕ). n ≤ c.loop-index.index) c.len-index-end.ensures.entries c.loop-index-test.false in
    rows_end entries c.args.traces.now c.loop-index.left.now c.loop-index.index c.loop-index.rows.items past c.loop-index.invariant
    ∙ ap (λ (table : List ℕ). rows_from 0 (entries_of table) c.args.traces.now) c.in-Some.ensures.table

pub returns-in_default : goal.returns-in_default
returns-in_default c =
    let none : [] ≡ entries_of c.args.table.now = sym (ap entries_in c.in_default.is) ∙ c.table.ensures.entries in
    c.new-rows.ensures.items ∙ sym (rows_none 0 c.args.traces.now) ∙ ap (λ (entries : List Entry). rows_from 0 entries c.args.traces.now) none
