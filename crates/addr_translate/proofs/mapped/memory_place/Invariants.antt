use Rattle.std.proofs.Common.{◌≡◌, ◌+◌, drop}
use Rattle.memory_pool.specs.Regions.{memory_len}
use Rattle.addr_translate.specs.Mapped.{memory_place}
use Rattle.addr_translate.proofs.mapped.memory_place.Given as goal

-- the regions that are left decide, from the end of those so far on
abbrev pub invariant-loop-region : goal.invariant-loop-region
invariant-loop-region l = record {
  decides : memory_place l.base (drop l.region-index l.regions) l.da l.len ≡ memory_place 0 l.regions l.da l.len;
  small : l.base + memory_len (drop l.region-index l.regions) ≡ memory_len l.regions;
}
