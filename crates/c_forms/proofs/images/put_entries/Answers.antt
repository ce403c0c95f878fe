use Rattle.std.proofs.Common.{◌≡◌, ℕ, ◌+◌, ◌<◌, Option, drop, length, map, set, sym, ap, ◌∙◌, subst, arith}
use Rattle.resource_table.specs.Entries.{entries_of}
use Rattle.addr_translate.specs.Maps.{place_at}
use Rattle.c_forms.specs.Forms.{entry_form}
use Rattle.c_forms.specs.Loads.{placed_form}
use Rattle.c_forms.specs.declared.entries.CEntry.{CEntry}
use Rattle.c_forms.proofs.Puts.{IsPut, mapped_left, put_more}
use Rattle.c_forms.proofs.images.put_entries.Goals as goal

pub loop-index-preserved : goal.loop-index-preserved
loop-index-preserved c =
    let form = placed_form (place_at c.args.places.now) in
    let entries = entries_of c.in-Ok.table in
    let told = map form entries in
    let array = c.loop-index.array in
    let was = c.args.array.now in
    let index = c.loop-index.index in
    let entry = c.entry-entry.result in
    let same : c.of.result ≡ form entry = c.of.ensures ∙ ap (λ (place : Option ℕ). entry_form place entry) c.trace_place.ensures in
    let at : c.from-place.result ≡ index = c.from-place.ensures in
    let below : index < length was = omega (arith, c.loop-index.invariant.room, c.if-place-array.false) in
    let next = put_more told array was index (form entry) (map form (drop (index + 1) entries)) (mapped_left form entries index entry c.entry-entry.ensures.entry) c.loop-index.auto.array below c.loop-index.invariant in
    subst (λ (place : ℕ). IsPut told (set array place c.of.result) was (index + 1)) (sym at)
    (subst (λ (one : CEntry). IsPut told (set array index one) was (index + 1)) (sym same) next)
