use Rattle.std.proofs.Common.{◌≡◌, ◌+◌, ◌*◌, arith, ap, ◌∙◌, subst, length, refl, sym}
use Rattle.link_words.specs.PlacedDesks.{placed_coded, placed_meaning}
use Rattle.vring_layout.specs.declared.words.UsedWord.{UsedWord}
use Rattle.ring_core.specs.declared.states.RingSizes.{RingSizes}
use Rattle.ring_core.specs.RingSteps.{held_buffer}
use Rattle.ring_core.specs.Rings.{entry_length}
use Rattle.lane_model.specs.declared.stages.SendStage.TheVariants as stage
use Rattle.link_words.specs.declared.rule.Ring.TheVariants as ring
use Rattle.link_words.specs.Layouts.{place_in}
use Rattle.link_words.specs.Steps.{sizes_by, MayStoreEntry, GiveStoresEntry, SendStoresEntry}
use Rattle.link_words.specs.Words.{entry_number, IsSized}
use Rattle.link_words.proofs.Apart.{entry_low}
use Rattle.link_words.proofs.Told.{by_store, send_stores_entry, give_stores_entry, send_sizes}
use Rattle.link_words.proofs.stores.store_entry.Goals as goal

pub store-requires : goal.store-requires
store-requires g c =
    let me = c.args.seat.now.me in let z = c.args.table.now.key in let wide = c.requires.table.1 in
    let s = subst (λ u. MayStoreEntry u c.args.lane c.args.count c.args.entry me) c.in-Forward.is c.requires.call in
    let is = c.entry_place-word.ensures ∙ (λ i. place_in (entry_number ((c.requires.sizes.0 ∙ sym c.requires.table.2) i) c.args.lane (c.in-Forward.is i) c.args.count)) in
    let there = c.entry_place-word.ensures ∙ (λ i. place_in (entry_number (c.requires.sizes.0 i) c.args.lane (c.in-Forward.is i) c.args.count)) in
    let low = entry_low z c.args.lane ring.Forward c.args.count (subst IsSized c.requires.sizes.0 c.requires.sizes.1) in
    let new : c.args.entry.id + c.args.entry.len * 4294967296 ≡ s.at.buffer + entry_length (sizes_by me) (length s.at.message) * 4294967296 = ap (λ (u : UsedWord). u.id + u.len * 4294967296) s.entry in
    let sized = ap (λ (x : RingSizes). s.at.buffer + entry_length x (length s.at.message) * 4294967296) (send_sizes me.0.sizes me c.args.lane stage.Buffer s.at refl) in
    (c.requires.table.0, omega (arith, wide, there, low), by_store g.row.D.coded g.D.Desk.meaning c.args.table.now.key _ _ c.args.seat.now.me _ _ (SendStoresEntry c.args.seat.now.me) c.requires.table.2 (send_stores_entry (placed_coded g.row.D.coded c.args.seat.now.me.0.sizes.desks) (placed_meaning g.row.D.coded c.args.seat.now.me.0.sizes.desks g.D.Desk.meaning) c.args.seat.now.me.0.sizes _ _ me c.args.lane s.at c.args.count _ _ is s.count (new ∙ sized)))

pub store-requires-in-Return : goal.store-requires-in-Return
store-requires-in-Return g c =
    let me = c.args.seat.now.me in let z = c.args.table.now.key in let wide = c.requires.table.1 in
    let s = subst (λ u. MayStoreEntry u c.args.lane c.args.count c.args.entry me) c.in-Return.is c.requires.call in
    let is = c.entry_place-word.ensures ∙ (λ i. place_in (entry_number ((c.requires.sizes.0 ∙ sym c.requires.table.2) i) c.args.lane (c.in-Return.is i) c.args.count)) in
    let there = c.entry_place-word.ensures ∙ (λ i. place_in (entry_number (c.requires.sizes.0 i) c.args.lane (c.in-Return.is i) c.args.count)) in
    let low = entry_low z c.args.lane ring.Return c.args.count (subst IsSized c.requires.sizes.0 c.requires.sizes.1) in
    let new : c.args.entry.id + c.args.entry.len * 4294967296 ≡ held_buffer s.at.side.hands s.given + 0 * 4294967296 = ap (λ (u : UsedWord). u.id + u.len * 4294967296) s.entry in
    (c.requires.table.0, omega (arith, wide, there, low), by_store g.row.D.coded g.D.Desk.meaning c.args.table.now.key _ _ c.args.seat.now.me _ _ (GiveStoresEntry c.args.seat.now.me) c.requires.table.2 (give_stores_entry (placed_coded g.row.D.coded c.args.seat.now.me.0.sizes.desks) (placed_meaning g.row.D.coded c.args.seat.now.me.0.sizes.desks g.D.Desk.meaning) c.args.seat.now.me.0.sizes _ _ me c.args.lane s.given s.at c.args.count _ _ is refl s.count new))
