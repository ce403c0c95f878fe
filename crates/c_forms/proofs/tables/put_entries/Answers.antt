use Rattle.std.proofs.Common.{◌≡◌, None, ℕ, ◌+◌, ◌<◌, ◌≤◌, drop, length, map, set, sym, subst, arith}
use Rattle.std.proofs.lemmas.List.{length-map}
use Rattle.resource_table.specs.Entries.{entries_of}
use Rattle.c_forms.specs.Forms.{entry_form}
use Rattle.c_forms.specs.declared.entries.CEntry.{CEntry}
use Rattle.c_forms.proofs.Puts.{IsPut, mapped_left, put_all, put_more}
use Rattle.c_forms.proofs.tables.put_entries.Goals as goal

pub loop-index-preserved : goal.loop-index-preserved
loop-index-preserved c =
    let form = entry_form None in
    let entries = entries_of c.args.table.now in
    let told = map form entries in
    let array = c.loop-index.array in
    let was = c.args.array.now in
    let index = c.loop-index.index in
    let entry = c.entry.result in
    let at : c.from-place.result ≡ index = c.from-place.ensures in
    let below : index < length was = omega (arith, c.loop-index.invariant.room, c.if-place-array.false) in
    let next = put_more told array was index (form entry) (map form (drop (index + 1) entries)) (mapped_left form entries index entry c.entry.ensures.entry) c.loop-index.auto.array below c.loop-index.invariant in
    subst (λ (place : ℕ). IsPut told (set array place c.of.result) was (index + 1)) (sym at)
    (subst (λ (one : CEntry). IsPut told (set array index one) was (index + 1)) (sym c.of.ensures) next)

pub returns-clause-entries : goal.returns-clause-entries
returns-clause-entries c =
    let entries = entries_of c.args.table.now in
    let told = map (entry_form None) entries in
    let past : length told ≤ c.loop-index.index = omega (arith, length-map entries (entry_form None), c.loop-index-test.false, c.len-index-end.ensures.entries) in
    put_all told c.loop-index.array c.args.array.now c.loop-index.index past c.loop-index.invariant
