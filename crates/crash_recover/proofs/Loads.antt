-- What a load leaves: a sound placement, and rings over which a link may be made.
use Rattle.std.proofs.Common.{◌≡◌, ℕ, ◌≤◌, List, Option, None, Some, IfSome, arith, ap, leb, ◌∙◌}
use Rattle.std.specs.Option.{is_some}
use Rattle.std.specs.Int.{is_power_of_two}
use Rattle.std.proofs.lemmas.Bool.{leb-true}
use Rattle.rp_base.specs.Limits.{IsRingSize, ring_capacity}
use Rattle.rp_base.specs.declared.limits.TheConstants.{BOOK_MOST, RING_MOST}
use Rattle.resource_table.specs.Tables.{IsSoundRing}
use Rattle.resource_table.specs.declared.entries.Ring.{Ring}
use Rattle.resource_table.proofs.Sound.{both_true}
use Rattle.memory_pool.specs.declared.regions.Region.{Region}
use Rattle.fw_load.specs.Loading.{IsLoaded, load_fault}
use Rattle.fw_load.specs.Memory.{memory_at}
use Rattle.fw_load.specs.Rings.{IsSoundPair}
use Rattle.fw_load.specs.declared.loading.Loaded.{Loaded}
use Rattle.fw_load.specs.declared.rings.RingPair.{RingPair}
use Rattle.lane_model.specs.Conditions.{IsConfig}
use Rattle.crash_recover.specs.CoreBoots.{config_of}
use Rattle.crash_recover.specs.Cores.{IsSoundLoad}
use Rattle.crash_recover.proofs.PlacedCounts.{loads_few}

-- what a load leaves is sound
pub load_sound : (image : List ℕ) (regions : List Region) (loaded : Loaded) → load_fault image regions ≡ None → IsLoaded image regions loaded → IsSoundLoad regions loaded
load_sound image regions loaded loads is =
    let placed = loads_few image regions loaded.placed.blocks.items loads is.placed in
    record {
      placed = is.held;
      map = is.map;
      length = is.length;
      traces = is.inside;
      rings = is.sound;
      buffers = is.buffers;
      few = placed.0;
      entry = ap (λ entry. is_some (memory_at regions loaded.placed.blocks.items entry 16)) is.entry ∙ placed.1;
    }

capacity_most : (entries : ℕ) → ring_capacity entries ≤ 256
capacity_most entries = omega arith

ring_is_sized : (ring : Ring) → IsSoundRing ring → IsRingSize ring.num
ring_is_sized ring sound =
    let parts = both_true (is_power_of_two ring.num) (leb ring.num RING_MOST) sound.size in
    (parts.0, leb-true ring.num RING_MOST parts.1)

-- the link of a core over sound rings may be made
pub pair_config : (rings : RingPair) (book first : ℕ) → IsSoundPair rings → 1 ≤ book → book ≤ BOOK_MOST → 1 ≤ first → IsConfig (config_of rings book first)
pair_config rings book first pair some most begun = record {
  to_host = ring_is_sized rings.to_host pair.0;
  to_remote = ring_is_sized rings.to_remote pair.1;
  book = (some, most);
  first = begun;
  buffers = omega (arith, capacity_most rings.to_host.num, capacity_most rings.to_remote.num);
}

-- the same of rings that may be none
pub rings_config : (rings : Option RingPair) (book first : ℕ) → IfSome rings IsSoundPair → 1 ≤ book → book ≤ BOOK_MOST → 1 ≤ first
    → IfSome rings (λ rings. IsConfig (config_of rings book first))
rings_config None book first pair some most begun = tt
rings_config (Some rings) book first pair some most begun = pair_config rings book first pair some most begun
