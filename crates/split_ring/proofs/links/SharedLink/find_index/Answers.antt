use Rattle.std.proofs.Common.{◌≡◌, subst, arith}
use Rattle.rp_base.specs.Limits.{IsRingSize, ring_capacity}
use Rattle.link_words.specs.declared.rule.LinkSizes.{LinkSizes}
use Rattle.link_words.specs.Words.{sizes_at}
use Rattle.split_ring.specs.Snapshots.{index_word}
use Rattle.split_ring.proofs.Finding.{finds_index, finds_sized, index_low}
use Rattle.split_ring.proofs.links.SharedLink.find_index.Goals as goal

pub look_for_manager-word-requires-clause-place : goal.look_for_manager-word-requires-clause-place
look_for_manager-word-requires-clause-place g c =
    let at = c.index_place.ensures in let low = index_low c.args.lane c.args.returns in let wide = c.args.self.now.fits.wide in
    (omega (arith, at, low, wide), (index_word c.args.lane c.args.returns, at))

pub returns-clause-found : goal.returns-clause-found
returns-clause-found g c = let s = c.look_for_manager-word in
    finds_index g.row.D.coded g.D.Desk.meaning c.args.seat.now.me s.new.manager.me c.args.lane c.args.returns c.index_place.result s.result c.index_place.ensures s.ensures.told s.ensures.step

pub returns-clause-sized : goal.returns-clause-sized
returns-clause-sized g c = let s = c.look_for_manager-word in let me = c.args.seat.now.me in let lane = c.args.lane in
    subst (λ (z : LinkSizes). IsRingSize (sizes_at z lane).entries × ((sizes_at z lane).capacity ≡ ring_capacity (sizes_at z lane).entries)) c.requires.seat.told
    (finds_sized g.row.D.coded g.D.Desk.meaning me lane (finds_index g.row.D.coded g.D.Desk.meaning me s.new.manager.me lane c.args.returns c.index_place.result s.result c.index_place.ensures s.ensures.told s.ensures.step))
