use Rattle.std.proofs.Common.{ap, ◌∙◌, Bool, Option, length, map, not, arith}
use Rattle.std.proofs.lemmas.List.Sums.{length-filter, count_by-le-length}
use Rattle.rp_base.specs.declared.kinds.Endpoint.{Endpoint}
use Rattle.indexmap.specs.IndexMap.{spare}
use Rattle.name_service.specs.Channels.{Key, is_same_key, without}
use Rattle.name_service.specs.Tables.{channel_of}
use Rattle.name_service.proofs.Entries.{without_is}
use Rattle.name_service.proofs.channels.Channels.remove.Goals as goal

pub invariant_of-self : goal.invariant_of-self
invariant_of-self c =
    let entries = c.self.inside.channels.entries in
    let stays : Key × Option Endpoint → Bool = λ entry. not (is_same_key c.args.key.now entry.0) in
    let fewer = count_by-le-length stays entries in
    let moved = ap length c.move_others.ensures.entries ∙ length-filter stays entries in
    let first = c.swap.ensures.x_after in
    let second = c.swap.ensures.y_after in (
      omega (arith, ap (λ t. length t.entries) first, moved, fewer, c.self.invariant.0),
      omega (arith, ap (λ t. length t.entries) first, ap (λ t. spare t) first, c.move_others.ensures.spare, c.self.invariant.3),
      c.clear.ensures.empty,
      omega (arith, ap (λ t. length t.entries) second, ap (λ t. spare t) second, c.clear.ensures.capacity, c.self.invariant.1),
    )

pub returns : goal.returns
returns c =
    ap (λ t. map channel_of t.entries) c.swap.ensures.x_after
    ∙ ap (map channel_of) c.move_others.ensures.entries
    ∙ without_is c.args.key.now c.self.inside.channels.entries
    ∙ ap (without c.args.key.now) c.self.view_is
