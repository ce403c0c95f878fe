use Rattle.std.proofs.Common.{◌≡◌, ◌+◌, ◌≤◌, length, map, filter, not}
use Rattle.std.specs.Map.Iter.{deref_pair}
use Rattle.indexmap.specs.IndexMap.{spare}
use Rattle.name_service.specs.Channels.{is_same_key}
use Rattle.name_service.proofs.channels.move_others.Given as goal

abbrev pub invariant-loop-key : goal.invariant-loop-key
invariant-loop-key l =
    record {
      moved : l.into.entries ≡ filter (λ entry. not (is_same_key l.gone entry.0)) (map deref_pair l.yielded);
      spare : spare l.initial.into ≤ length l.into.entries + spare l.into;
    }
