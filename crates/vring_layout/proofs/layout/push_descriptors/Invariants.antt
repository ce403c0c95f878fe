use Rattle.std.proofs.Common.{◌≡◌, ◌+◌, ◌*◌, ◌++◌}
use Rattle.std.specs.List.{flat_map, range_with_len}
use Rattle.rp_base.specs.declared.limits.TheConstants.{MESSAGE_MOST}
use Rattle.vring_layout.specs.Rings.{descriptor_bytes}
use Rattle.vring_layout.proofs.layout.push_descriptors.Given as goal

-- the descriptors so far
abbrev pub invariant-loop-i : goal.invariant-loop-i
invariant-loop-i l =
    l.bytes.items ≡ l.fn.bytes.items ++ flat_map (λ k. descriptor_bytes (l.words.base + MESSAGE_MOST * k) l.words.device_writes) (range_with_len 0 l.i)
