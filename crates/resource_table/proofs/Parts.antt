-- The sizes of entries.
use Rattle.std.proofs.Common.{◌≤◌, arith}
use Rattle.resource_table.specs.Tables.{fixed_size}
use Rattle.resource_table.specs.declared.kinds.ResourceType.{ResourceType}
use Rattle.resource_table.specs.declared.kinds.ResourceType.TheVariants as type

-- every entry has a type
pub fixed_size_least : (kind : ResourceType) → 4 ≤ fixed_size kind
fixed_size_least type.Carveout = omega arith
fixed_size_least type.Devmem = omega arith
fixed_size_least type.Trace = omega arith
fixed_size_least type.Vdev = omega arith
fixed_size_least type.Other = omega arith
