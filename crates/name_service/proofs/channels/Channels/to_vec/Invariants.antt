use Rattle.std.proofs.Common.{◌≡◌, map}
use Rattle.std.specs.Map.Iter.{deref_pair}
use Rattle.name_service.specs.Tables.{channel_of}
use Rattle.name_service.proofs.channels.Channels.to_vec.Given as goal

-- what is copied are the channels so far
abbrev pub invariant-loop-key : goal.invariant-loop-key
invariant-loop-key l = l.copied.items ≡ map channel_of (map deref_pair l.yielded)
