use Rattle.std.proofs.Common.{ℕ, ◌+◌, ◌%◌, arith, ap}
use Rattle.link_words.specs.Words.{sizes_at, entries_before, ring_before}
use Rattle.link_words.proofs.Apart.{entry_place_is}
use Rattle.link_words.proofs.places.entry_place.Goals as goal

pub returns : goal.returns
returns c =
    let z = c.args.sizes.now in let n = c.args.count % (sizes_at z c.args.lane).entries in let before = c.entries_before-before.ensures.before in
    let place = ap (λ (k : ℕ). c.args.count % k) c.entries_in.ensures.entries in
    let is = entry_place_is (entries_before z c.args.lane + (ring_before (sizes_at z c.args.lane) c.args.ring + n)) in omega (arith, before, place, is)
