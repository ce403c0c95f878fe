use Rattle.std.proofs.Common.{ℕ, List, ◌++◌, ap, ◌∙◌}
use Rattle.link_words.specs.Layouts.{words_apart}
use Rattle.split_ring.specs.Openings.{opened_entries}
use Rattle.split_ring.proofs.Apart.{words_whole}
use Rattle.split_ring.proofs.layouts.new_words.Goals as goal

pub returns : goal.returns
returns c =
    let z = c.args.sizes.now in
    c.in_ok-push_entries-2.ensures ∙ (ap (λ (l : List ℕ). l ++ words_apart 0 (opened_entries z.to_remote)) (c.in_ok-push_entries.ensures ∙ ap (λ (l : List ℕ). l ++ words_apart 0 (opened_entries z.to_host)) (c.in_ok-words.ensures.items ∙ c.first_words.ensures))
    ∙ words_whole z (opened_entries z.to_host) (opened_entries z.to_remote))
