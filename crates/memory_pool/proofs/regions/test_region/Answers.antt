use Rattle.std.proofs.Common.{arith, rules, tests, sym, ◌∙◌, leb, length}
use Rattle.std.specs.List.{list_any}
use Rattle.std.proofs.lemmas.Bool.{lt-leb}
use Rattle.std.proofs.lemmas.Iterator.{YieldsList-from_slice}
use Rattle.std.proofs.lemmas.Iterator.Search.{any_from_yields_List}
use Rattle.memory_pool.specs.Regions.{has_wrong_range, regions_meet}
use Rattle.memory_pool.specs.declared.TheConstants.{REGIONS_MOST}
use Rattle.memory_pool.specs.declared.faults.RegionFault.TheVariants as fault
use Rattle.memory_pool.proofs.RegionsSound.{none_fails}
use Rattle.memory_pool.proofs.regions.test_region.Goals as goal

pub returns : goal.returns
returns c =
    let regions = c.args.regions.now in
    let region = c.args.region.now in
    let any = any_from_yields_List (regions_meet region) _ _ c.any.result c.any.ensures.ran (YieldsList-from_slice regions cc) (λ x b q k. search (rules, tests)) in
    none_fails (leb REGIONS_MOST (length regions)) (has_wrong_range regions region) (list_any (regions_meet region) regions) fault.RegionsFull fault.RegionRange fault.RegionOverlap
    (lt-leb REGIONS_MOST (length regions) (omega arith)) (sym c.if-has_wrong_range.ensures) (sym any ∙ c.if-any.false)
