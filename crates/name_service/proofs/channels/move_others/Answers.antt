use Rattle.std.proofs.Common.{◌≡◌, ◌++◌, ◌∷◌, [], Bool, Option, OnOk, not, length, map, filter, ap, sym, ◌∙◌, subst, arith}
use Rattle.std.specs.Map.Iter.{deref_pair}
use Rattle.std.proofs.lemmas.List.{map-append, length_push}
use Rattle.std.proofs.lemmas.Map.Iter.{rest_more, rest_so_far}
use Rattle.rp_base.specs.declared.kinds.Endpoint.{Endpoint}
use Rattle.indexmap.specs.IndexMap.{insert_entry, spare}
use Rattle.name_service.specs.Channels.{Key, is_same_key}
use Rattle.name_service.proofs.Moves.{appended, moved_more, room_left}
use Rattle.name_service.proofs.channels.move_others.Goals as goal

pub unwrap-requires : goal.unwrap-requires
unwrap-requires c =
    let all = c.args.channels.now.entries in
    let done = map deref_pair c.loop-key.yielded in
    let entry : Key × Option Endpoint = (c.in-Some.key.now, c.in-Some.endpoint.now) in
    let keeps : Key × Option Endpoint → Bool = λ e. not (is_same_key c.args.gone.now e.0) in
    let gives = c.into_iter-key-iterator.ensures.into_iter_gives in
    let parts : all ≡ done ++ entry ∷ c.next.new.self = sym gives.0 ∙ rest_so_far deref_pair _ _ _ c.loop-key.yielded_by ∙ ap (λ t. done ++ t) (rest_more deref_pair _ _ _ _ c.in-Some.is c.next.ensures.steps) in
    c.insert.ensures.succeeds (room_left keeps all c.loop-key.into.entries done entry c.next.new.self (spare c.args.into.now) (spare c.loop-key.into) parts c.loop-key.invariant.moved c.requires.room c.loop-key.invariant.spare)

pub loop-key-preserved-then-ne : goal.loop-key-preserved-then-ne
loop-key-preserved-then-ne c =
    let all = c.args.channels.now.entries in
    let done = map deref_pair c.loop-key.yielded in
    let entry : Key × Option Endpoint = (c.in-Some.key.now, c.in-Some.endpoint.now) in
    let keeps : Key × Option Endpoint → Bool = λ e. not (is_same_key c.args.gone.now e.0) in
    let gives = c.into_iter-key-iterator.ensures.into_iter_gives in
    let parts : all ≡ done ++ entry ∷ c.next.new.self = sym gives.0 ∙ rest_so_far deref_pair _ _ _ c.loop-key.yielded_by ∙ ap (λ t. done ++ t) (rest_more deref_pair _ _ _ _ c.in-Some.is c.next.ensures.steps) in
    let made = c.insert.new.self.entries ≡ insert_entry is_same_key c.loop-key.into.entries entry.0 entry.1 in
    let inserted : made = subst (λ r. OnOk r made) c.unwrap.ensures c.insert.ensures.entries in
    let behind = inserted ∙ appended c.loop-key.into keeps all done entry c.next.new.self parts gives.4 c.loop-key.invariant.moved in
    let stays = sym c.ne.ensures ∙ c.if-ne.true in
    record {
      moved = behind ∙ moved_more keeps c.loop-key.into.entries done entry c.loop-key.invariant.moved stays ∙ ap (filter keeps) (sym (map-append deref_pair c.loop-key.yielded (_ ∷ [])));
      spare = omega (arith, ap length behind, length_push c.loop-key.into.entries entry, c.insert.ensures.spare, c.loop-key.invariant.spare);
    }
