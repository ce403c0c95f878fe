use Rattle.std.proofs.Common.{◌≡◌, List, [], ◌∷◌, length, get_or, length-append, sym, ap, ◌∙◌, subst, arith}
use Rattle.ring_core.specs.declared.states.RingSizes.{RingSizes}
use Rattle.ring_core.specs.Rings.{entry_of}
use Rattle.vring_layout.specs.declared.words.UsedWord.{UsedWord}
use Rattle.link_words.specs.Calls.{SeatState}
use Rattle.link_words.specs.Deeds.{Nothing}
use Rattle.link_words.specs.Layouts.{place_in}
use Rattle.link_words.specs.Looks.{SeesWord}
use Rattle.link_words.specs.Reopens.{ManagerDoes, MayGather}
use Rattle.link_words.specs.Words.{entry_number, sizes_at}
use Rattle.link_words.proofs.Apart.{entry_low}
use Rattle.split_ring.specs.Snapshots.{FindsIn, HasEntry}
use Rattle.split_ring.proofs.Finding.{finds_entry, more_found}
use Rattle.split_ring.proofs.links.SharedLink.find_ring.Goals as goal

pub look_for_manager-word-requires-clause-place : goal.look_for_manager-word-requires-clause-place
look_for_manager-word-requires-clause-place g c =
    let z = c.args.self.now.sizes in let at = c.entry_place-at.ensures in let low = entry_low z c.args.lane c.ring_if-ring.result c.from.result c.args.self.now.fits.sized in let wide = c.args.self.now.fits.wide in
    (omega (arith, at, low, wide), (entry_number z c.args.lane c.ring_if-ring.result c.from.result, at))

pub look_for_manager-word-requires-clause-manager : goal.look_for_manager-word-requires-clause-manager
look_for_manager-word-requires-clause-manager g c = subst MayGather (sym c.loop-place.invariant.2) c.requires.manager

pub loop-place-preserved : goal.loop-place-preserved
loop-place-preserved g c =
    let inv = c.loop-place.invariant in let s = c.look_for_manager-word in let me = c.args.seat.now.me in let me' = s.new.manager.me in let n = s.result in let place = c.loop-place.place in let lane = c.args.lane in let returns = c.args.returns in
    let coded = g.row.D.coded in let meaning = g.D.Desk.meaning in let xs = c.loop-place.entries.items in let x = c.entry_in.result in let told = c.requires.seat.told in
    let size : c.sizes_of-count.result.entries ≡ (sizes_at me.0.sizes lane).entries = ap (λ (k : RingSizes). k.entries) c.sizes_of-count.ensures.sizes ∙ ap (λ z. (sizes_at z lane).entries) (sym told) in
    let test = c.loop-place-test.true in
    let at : c.entry_place-at.result ≡ place_in (entry_number me.0.sizes lane _ place) = c.entry_place-at.ensures ∙ (λ i. place_in (entry_number (sym told i) lane (c.ring_if-ring.ensures i) (c.from.ensures i))) in
    let now = finds_entry coded meaning me me' lane returns place c.entry_place-at.result n x (omega (arith, test, size)) at (s.ensures.told ∙ inv.2) c.entry_in.ensures (subst (λ (k : SeatState). ManagerDoes coded meaning k (SeesWord k.0.sizes c.entry_place-at.result n) Nothing me') inv.2 s.ensures.step) in
    let items = c.in_ok-push.ensures.items in let long = length-append xs (x ∷ []) in let was = inv.3 in (
      record { at_table = s.ensures.same.0 ∙ inv.0.at_table; told = ap (λ (k : SeatState). k.0.sizes) s.ensures.told ∙ inv.0.told },
      s.ensures.same.0 ∙ inv.1,
      s.ensures.told ∙ inv.2,
      ap (λ (l : List UsedWord). length l) items ∙ omega (arith, long, was),
      λ k low. subst (λ (l : List UsedWord). FindsIn coded meaning me (HasEntry lane returns k (get_or l k (entry_of 0)))) (sym items) (more_found coded meaning me lane returns place xs x was inv.4 now k low),
    )

pub returns-clause-found : goal.returns-clause-found
returns-clause-found g c = λ k low. let inv = c.loop-place.invariant in let test = c.loop-place-test.false in let size = ap (λ (s : RingSizes). s.entries) c.sizes_of-count.ensures.sizes in
    inv.4 k (omega (arith, low, test, size))

pub returns-clause-long : goal.returns-clause-long
returns-clause-long g c = let inv = c.loop-place.invariant.3 in let test = c.loop-place-test.false in let end = c.loop-place.auto.place-end in let size = ap (λ (s : RingSizes). s.entries) c.sizes_of-count.ensures.sizes in
    omega (arith, inv, test, end, size)
