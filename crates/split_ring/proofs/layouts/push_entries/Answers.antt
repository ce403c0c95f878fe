use Rattle.std.proofs.Common.{ℕ, ◌-◌, List, ◌++◌, replicate, ap, ◌∙◌}
use Rattle.std.specs.List.{range_with_len}
use Rattle.link_words.specs.Layouts.{words_apart}
use Rattle.split_ring.proofs.Apart.{three_apart}
use Rattle.split_ring.proofs.layouts.push_entries.Goals as goal

pub returns : goal.returns
returns c =
    let s = c.args.sizes.now in let old = c.args.words.now.items in let stocked = s.capacity - s.own in
    c.in_ok-push_blanks-2.ensures ∙ ((λ i. (c.in_ok-push_numbers.ensures i) ++ words_apart 0 (replicate (s.entries - c.from.ensures i) 0))
    ∙ (ap (λ (l : List ℕ). (l ++ words_apart 0 (range_with_len s.own stocked)) ++ words_apart 0 (replicate (s.entries - stocked) 0)) c.in_ok-push_blanks.ensures
    ∙ three_apart old (replicate s.entries 0) (range_with_len s.own stocked) (replicate (s.entries - stocked) 0)))
