use Rattle.std.proofs.Common.{◌-◌, Some, arith, rules, leb, ap, sym, ◌∙◌}
use Rattle.std.specs.Option.{option_map}
use Rattle.std.specs.List.Sorted.{IsNonDecreasingBy}
use Rattle.std.proofs.lemmas.List.{get_or_default}
use Rattle.std.proofs.lemmas.List.Sorted.{IsPartitionPoint-from_clause, IsPartitionedBy-leb}
use Rattle.std.proofs.lemmas.Option.{IfSome_then}
use Rattle.memory_pool.proofs.Meets.{within_ends}
use Rattle.addr_translate.specs.Maps.{Mapping, holds, place_in, translate}
use Rattle.addr_translate.proofs.Found.{found, missed}
use Rattle.addr_translate.proofs.maps.Map.translate.Goals as goal

pub returns-then-behind-eq0-clause-place : goal.returns-then-behind-eq0-clause-place
returns-then-behind-eq0-clause-place c =
    let da = c.args.da in
    let len = c.args.len in
    let starts : IsNonDecreasingBy (λ one. one.da) c.deref.result.now = rw c.deref.ensures.value c.self.invariant.ordered in
    let parted = IsPartitionedBy-leb (λ one. one.da) c.deref.result.now da starts in
    let point = IsPartitionPoint-from_clause (λ one. leb one.da da) c.deref.result.now c.partition_point-behind.result c.partition_point-behind.ensures.partitioned parted (λ a r q k. search rules) in
    let none = missed c.self.inside.mapped.items c.self.inside.memory_len da len c.partition_point-behind.result c.self.invariant c.requires (rw c.deref.ensures.value at point) (omega arith) (λ d some. absurd (omega arith)) in
    ap (option_map (place_in da)) (sym none) ∙ ap (λ (map : Mapping). translate map da len) c.self.view_is

pub place_of-requires-clause-memory : goal.place_of-requires-clause-memory
place_of-requires-clause-memory c =
    let block = c.index-block.result.now in
    let ends = within_ends c.args.da c.args.len block.da block.len (sym c.if-holds.ensures) in
    let inside = c.self.invariant.sound.inside (c.partition_point-behind.result - 1) block (omega arith) in
    IfSome_then block.at (rw (← c.index-block.ensures) at inside) (λ at fits. omega (arith, ends.0, ends.1, c.self.invariant.small))

pub returns-then-holds-clause-place : goal.returns-then-holds-clause-place
returns-then-holds-clause-place c =
    let da = c.args.da in
    let len = c.args.len in
    let block = c.index-block.result.now in
    let last = c.partition_point-behind.result - 1 in
    let is = found c.self.inside.mapped.items da len last block c.self.invariant.sound.apart c.requires (omega arith) (ap (holds da len) (sym c.index-block.ensures) ∙ sym c.if-holds.ensures) in
    ap Some (c.place_of.ensures ∙ ap (place_in da) c.index-block.ensures) ∙ ap (option_map (place_in da)) (sym is) ∙ ap (λ (map : Mapping). translate map da len) c.self.view_is

pub returns-else-holds-clause-place : goal.returns-else-holds-clause-place
returns-else-holds-clause-place c =
    let da = c.args.da in
    let len = c.args.len in
    let mapped = c.self.inside.mapped.items in
    let last = c.partition_point-behind.result - 1 in
    let starts : IsNonDecreasingBy (λ one. one.da) c.deref.result.now = rw c.deref.ensures.value c.self.invariant.ordered in
    let parted = IsPartitionedBy-leb (λ one. one.da) c.deref.result.now da starts in
    let point = IsPartitionPoint-from_clause (λ one. leb one.da da) c.deref.result.now c.partition_point-behind.result c.partition_point-behind.ensures.partitioned parted (λ a r q k. search rules) in
    let none = missed mapped c.self.inside.memory_len da len c.partition_point-behind.result c.self.invariant c.requires (rw c.deref.ensures.value at point) (omega arith)
    (λ d some. ap (holds da len) (get_or_default mapped last d c.index-block.result.now (omega arith) ∙ sym c.index-block.ensures) ∙ sym c.if-holds.ensures) in
    ap (option_map (place_in da)) (sym none) ∙ ap (λ (map : Mapping). translate map da len) c.self.view_is
