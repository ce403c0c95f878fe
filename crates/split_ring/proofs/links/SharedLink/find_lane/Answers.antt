use Rattle.std.proofs.Common.{◌≡◌, ◌<◌, ◌%◌, ℕ, not, List, map, length, get_or, sym, ap, ◌∙◌, subst}
use Rattle.rp_base.specs.Limits.{IsRingSize, ring_capacity}
use Rattle.ring_core.specs.declared.states.RingSizes.{RingSizes}
use Rattle.ring_core.specs.Rings.{entry_of}
use Rattle.ring_core.specs.RingWords.{device_sends}
use Rattle.vring_layout.specs.declared.words.UsedWord.{UsedWord}
use Rattle.link_words.specs.declared.rule.LinkSizes.{LinkSizes}
use Rattle.link_words.specs.Calls.{SeatState}
use Rattle.link_words.specs.Words.{sizes_at}
use Rattle.split_ring.specs.Snapshots.{FindsIn, HasEntry, HasIndex}
use Rattle.split_ring.proofs.Finding.{lane_found}
use Rattle.split_ring.proofs.links.SharedLink.find_lane.Goals as goal

pub returns-clause-found : goal.returns-clause-found
returns-clause-found g c =
    let coded = g.row.D.coded in let meaning = g.D.Desk.meaning in let me = c.args.seat.now.me in let lane = c.args.lane in let sizes = c.sizes_of-sizes.result in
    let me1 = c.find_index-avail_idx.new.seat.me in let me2 = c.find_index-used_idx.new.seat.me in let me3 = c.find_ring.new.seat.me in
    let one : me1 ≡ me = c.find_index-avail_idx.ensures.same.1 in let two : me2 ≡ me = c.find_index-used_idx.ensures.same.1 ∙ one in let three : me3 ≡ me = c.find_ring.ensures.same.1 ∙ two in
    let is : sizes ≡ sizes_at me.0.sizes lane = c.sizes_of-sizes.ensures.sizes ∙ ap (λ (z : LinkSizes). sizes_at z lane) (sym c.requires.seat.told) in
    let low : (k : ℕ) → k < sizes.entries → k < (sizes_at c.args.self.now.sizes lane).entries = λ k near. subst (λ (s : RingSizes). k < s.entries) c.sizes_of-sizes.ensures.sizes near in
    let size = ap (λ (s : RingSizes). s.entries) (sym c.sizes_of-sizes.ensures.sizes) in
    let used = c.of-used.result in let same : used ≡ c.in_ok-filled.filled.items = c.of-used.ensures in
    lane_found coded meaning me lane c.args.base sizes c.find_index-avail_idx.result c.find_index-used_idx.result c.of-avail.result c.in_ok-available.available.items used is
    (subst (λ (s : RingSizes). IsRingSize s.entries × (s.capacity ≡ ring_capacity s.entries)) (sym c.sizes_of-sizes.ensures.sizes) c.find_index-avail_idx.ensures.sized)
    c.find_index-avail_idx.ensures.found
    (subst (λ (k : SeatState). FindsIn coded meaning k (HasIndex lane (not (device_sends sizes)) c.find_index-used_idx.result)) one c.find_index-used_idx.ensures.found)
    (c.in_ok-available.ensures.long ∙ size)
    (ap (λ (l : List UsedWord). length l) same ∙ (c.in_ok-filled.ensures.long ∙ size))
    (c.of-avail.ensures ∙ (c.in_ok-numbers_in.ensures ∙ ap (λ (l : List UsedWord). map (λ (x : UsedWord). x.id % 65536) l) c.deref.ensures.value))
    (λ k near. subst (λ (s : SeatState). FindsIn coded meaning s (HasEntry lane (device_sends sizes) k (get_or c.in_ok-available.available.items k (entry_of 0)))) two (c.in_ok-available.ensures.found k (low k near)))
    (λ k near. subst (λ (t : SeatState × List UsedWord). FindsIn coded meaning t.0 (HasEntry lane (not (device_sends sizes)) k (get_or t.1 k (entry_of 0)))) (λ i. (three i, sym same i)) (c.in_ok-filled.ensures.found k (low k near)))
