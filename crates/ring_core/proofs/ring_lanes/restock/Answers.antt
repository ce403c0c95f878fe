use Rattle.std.proofs.Common.{◌≡◌, ◌+◌, ◌-◌, ◌<◌, ℕ, List, ◌++◌, ◌∷◌, [], length, map, sym, ap, ap₂, ◌∙◌, vec_capacity, replicate, arith, rules}
use Rattle.std.specs.List.{range_with_len}
use Rattle.std.proofs.lemmas.List.FromFn.{map-range_with_len_more, length-map-range_with_len}
use Rattle.vring_layout.specs.declared.words.UsedWord.{UsedWord}
use Rattle.ring_core.specs.Rings.{entry_of}
use Rattle.ring_core.proofs.ring_lanes.restock.Goals as goal

pub loop-id-preserved : goal.loop-id-preserved
loop-id-preserved c =
    let own = c.args.sizes.own in
    let count : c.loop-id.id - own + 1 ≡ c.loop-id.id + 1 - own = omega arith in
    let at : own + (c.loop-id.id - own) ≡ c.loop-id.id = omega arith in
    record {
      stored = c.push_reserved.ensures.items ∙ ap₂ (λ (xs : List UsedWord) (e : UsedWord). xs ++ e ∷ []) c.loop-id.invariant.stored (c.ring_entry.ensures ∙ ap entry_of c.from.ensures)
          ∙ sym (map-range_with_len_more entry_of own (c.loop-id.id - own) c.loop-id.id at) ∙ ap (λ n. map entry_of (range_with_len own n)) count;
      from = omega arith;
      room = omega (arith, c.push_reserved.ensures.capacity, c.loop-id.invariant.room);
    }

pub push_reserved-requires : goal.push_reserved-requires
push_reserved-requires c =
    let own = c.args.sizes.own in
    let long : length c.loop-id.returns.items ≡ c.loop-id.id - own = ap length c.loop-id.invariant.stored ∙ length-map-range_with_len entry_of own (c.loop-id.id - own) in
    let less : length c.loop-id.returns.items < vec_capacity c.loop-id.returns =
    omega (arith, long, c.loop-id.invariant.room, c.loop-id.invariant.from, c.requires.room, c.requires.fits, c.requires.own, c.loop-id-test.true) in
    search rules

pub fill_up-requires : goal.fill_up-requires
fill_up-requires c =
    let own = c.args.sizes.own in
    let end : c.loop-id.id ≡ c.args.sizes.capacity = omega (arith, c.loop-id.auto.id-end) in
    let long : length c.loop-id.returns.items ≡ c.loop-id.id - own = ap length c.loop-id.invariant.stored ∙ length-map-range_with_len entry_of own (c.loop-id.id - own) in
    omega (arith, long, end, c.from-2.ensures, c.loop-id.invariant.room, c.requires.room, c.requires.fits, c.requires.own)

pub returns : goal.returns
returns c =
    let own = c.args.sizes.own in
    let stocked = c.args.sizes.capacity - own in
    let end : c.loop-id.id ≡ c.args.sizes.capacity = omega (arith, c.loop-id.auto.id-end) in
    let stored : c.loop-id.returns.items ≡ map entry_of (range_with_len own stocked) = c.loop-id.invariant.stored ∙ ap (λ n. map entry_of (range_with_len own (n - own))) end in
    record {
      items = c.fill_up.ensures.items
          ∙ ap₂ (λ (xs : List UsedWord) (n : ℕ). xs ++ replicate n (entry_of 0)) stored (ap (λ n. c.args.sizes.entries - n) c.from-2.ensures);
    }
