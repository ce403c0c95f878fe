use Rattle.std.proofs.Common.{◌≡◌, not, Option, None, Some, refl, ◌∙◌, rules, tests}
use Rattle.std.specs.Option.{option_map}
use Rattle.std.proofs.lemmas.Iterator.{YieldsList-from_map, YieldsList-from_slice}
use Rattle.std.proofs.lemmas.Iterator.Consumers.{YieldsList-at, YieldsList-from_chain, YieldsList-from_filter, nth_from_yields_List}
use Rattle.memory_pool.specs.Places.{is_window}
use Rattle.memory_pool.specs.Regions.{is_pool}
use Rattle.memory_pool.specs.declared.blocks.Block.{Block}
use Rattle.memory_pool.specs.declared.regions.Region.{Region}
use Rattle.crash_recover.proofs.core_parts.nth_range.Goals as goal

itself : {X : Type 0} (found : Option X) → found ≡ option_map (λ x. x) found
itself None = refl
itself (Some x) = refl

pub returns : goal.returns
returns c =
    itself c.nth.result
    ∙ nth_from_yields_List c.nth.result c.nth.new.self c.args.index c.nth.ensures.ran
    (YieldsList-from_chain
    (YieldsList-at c.chain.ensures.first
    (YieldsList-from_map _ (λ (region : Region). (region.da, region.len))
    (YieldsList-at c.map-always.ensures.source
    (YieldsList-from_filter _ (λ (region : Region). not (is_pool region)) (YieldsList-at c.filter.ensures.source (YieldsList-from_slice c.args.regions.now cc)) c.filter.ensures.closure
    (λ x b q k. search (rules, tests))))
    c.map-always.ensures.closure (λ x r q k. search rules)))
    (YieldsList-at c.chain.ensures.second
    (YieldsList-from_map _ (λ (block : Block). (block.da, block.len))
    (YieldsList-at c.map-others.ensures.source
    (YieldsList-from_filter _ (λ (block : Block). not (is_window block)) (YieldsList-at c.filter-2.ensures.source (YieldsList-from_slice c.args.placed.now cc)) c.filter-2.ensures.closure
    (λ x b q k. search (rules, tests))))
    c.map-others.ensures.closure (λ x r q k. search rules)))
    c.chain.ensures.first_done c.chain.ensures.second_done)
