use Rattle.std.proofs.Common.{◌≡◌, refl, arith, rules, ◌∙◌}
use Rattle.std.proofs.lemmas.List.Sorted.{IsNonDecreasingBy-from_sort_by_key}
use Rattle.memory_pool.specs.Regions.{memory_len}
use Rattle.addr_translate.specs.Mapped.{mapped_blocks}
use Rattle.addr_translate.proofs.Sound.{mapped_sound, permuted_sound}
use Rattle.addr_translate.proofs.maps.Map.of.Goals as goal

pub invariant_of-result : goal.invariant_of-result
invariant_of-result c =
    let regions = c.args.regions.now in
    let placed = c.args.placed.now.blocks.items in
    let ordered = c.sort_unstable_by_key.new.self.items in
    let is : c.in_ok-mapped.mapped.items ≡ mapped_blocks regions placed = c.in_ok-mapped.ensures ∙ rw (c.as_slice.ensures.regions, c.deref.ensures.value) refl in
    let moved = rw is at c.sort_unstable_by_key.ensures.permutation in
    record {
      sound = rw c.memory_len-memory_len.ensures.bytes (permuted_sound (mapped_blocks regions placed) ordered (memory_len regions) moved (mapped_sound regions placed c.as_slice.ensures.sound c.requires));
      small = omega arith;
      ordered = IsNonDecreasingBy-from_sort_by_key (λ block. block.da) ordered c.sort_unstable_by_key.ensures.sorted (λ a r q k. search rules);
    }

pub returns : goal.returns
returns c =
    let regions = c.args.regions.now in
    let placed = c.args.placed.now.blocks.items in
    let is : c.in_ok-mapped.mapped.items ≡ mapped_blocks regions placed = c.in_ok-mapped.ensures ∙ rw (c.as_slice.ensures.regions, c.deref.ensures.value) refl in
    record { same = rw is at c.sort_unstable_by_key.ensures.permutation; memory = c.memory_len-memory_len.ensures.bytes }
