-- The bytes of a ring are few.
use Rattle.std.proofs.Common.{◌≡◌, ℕ, ◌-◌, ◌%◌, ◌≤◌, ◌^◌, ◌==◌, ◌&&◌, Bool, true, false, length, ◌∙◌, arith}
use Rattle.std.specs.Prelude.{nat_le}
use Rattle.std.specs.Int.{is_power_of_two}
use Rattle.std.proofs.lemmas.Bool.{cond_both, leb-true}
use Rattle.std.proofs.lemmas.List.{length-map}
use Rattle.std.proofs.Math.Nat.{mod-le}
use Rattle.rp_base.specs.declared.limits.TheConstants.{RING_MOST}
use Rattle.rp_base.specs.Limits.{ring_capacity}
use Rattle.resource_table.specs.declared.entries.Ring.{Ring}
use Rattle.resource_table.specs.Tables.{IsSoundRing}
use Rattle.resource_table.proofs.Sound.{both_true}
use Rattle.fw_load.specs.declared.rings.RingPair.{RingPair}
use Rattle.fw_load.specs.Rings.{IsSoundPair}
use Rattle.vring_layout.specs.declared.words.RingWords.{RingWords}
use Rattle.vring_layout.specs.Rings.{ring_layout}
use Rattle.vring_layout.specs.Sizes.{available_end}
use Rattle.vring_layout.proofs.Lengths.{length-ring_layout}
use Rattle.lane_laws.specs.SoundRingLinks.{HasSoundRings}
use Rattle.ring_core.specs.declared.states.RingState.{RingState}
use Rattle.ring_core.specs.declared.states.Rings.{Rings}
use Rattle.ring_core.specs.RingWords.{device_sends, ring_of, words_of}
use Rattle.ring_core.specs.SoundRings.{IsSoundRings}
use Rattle.channel_bus.specs.Sides.{EndState}
use Rattle.link_bench.specs.Benches.{LinkRings}
use Rattle.link_bench.specs.BenchRings.{lane_base, lane_bytes, lane_words}
use Rattle.crash_recover.specs.CoreRings.{pair_bytes, ring_of_lane}

ring_few : (align : ℕ) (words : RingWords) → align ≤ 65536 → words.num ≤ RING_MOST → words.capacity ≤ words.num → length words.avail ≡ words.num → length words.used ≡ words.num
    → length (ring_layout align words) ≤ 2 ^ 32
ring_few align words small most within avail used =
    let is = length-ring_layout align words within avail used in
    let gap = mod-le (align - available_end words.num % align) align in
    omega (arith, is, gap, small, most)

ring_long : (rings : Rings) (is_returns : Bool) → length rings.forward ≡ rings.sizes.entries → length rings.returns ≡ rings.sizes.entries → length (ring_of rings is_returns) ≡ rings.sizes.entries
ring_long rings true forward returns = returns
ring_long rings false forward returns = forward

words_few : (align base : ℕ) (state : RingState EndState) → align ≤ 65536 → IsSoundRings state → length (ring_layout align (words_of state.rings base)) ≤ 2 ^ 32
words_few align base state small sound =
    let sized = sound.sized in
    let rings = state.rings in
    let sends = device_sends rings.sizes in
    ring_few align (words_of rings base) small sized.ring sized.fits
    (length-map (ring_of rings sends) _ ∙ ring_long rings sends sized.forward_long sized.returns_long) (ring_long rings _ sized.forward_long sized.returns_long)

lane_few : (align base lane : ℕ) (rings : LinkRings) → align ≤ 65536 → HasSoundRings rings → length (ring_layout align (lane_words rings lane base)) ≤ 2 ^ 32
lane_few align base lane rings small sound =
    cond_both (lane == 0) (words_of rings.to_host.rings base) (words_of rings.to_remote.rings base) (λ words. length (ring_layout align words) ≤ 2 ^ 32)
    (λ _. words_few align base rings.to_host small sound.to_host) (λ _. words_few align base rings.to_remote small sound.to_remote)

-- the bytes of a lane's ring of a link without memory
pub bytes_few : (rings : LinkRings) (lane : ℕ) → HasSoundRings rings → length (lane_bytes rings lane) ≤ 2 ^ 32
bytes_few rings lane sound = lane_few 4 (lane_base 0 rings.to_host.rings.sizes.capacity lane) lane rings (omega arith) sound

align_small : (ring : Ring) → IsSoundRing ring → ring.align ≤ 65536
align_small ring sound =
    let parts = both_true (is_power_of_two ring.align && nat_le 4 ring.align) (nat_le ring.align 65536) sound.align in
    leb-true ring.align 65536 parts.1

-- those of a lane's ring of a core's link
pub pair_few : (rings : LinkRings) (lane : ℕ) (pair : RingPair) → HasSoundRings rings → IsSoundPair pair → length (pair_bytes rings lane pair) ≤ 2 ^ 32
pair_few rings lane pair sound fit =
    let small = cond_both (lane == 0) pair.to_host pair.to_remote (λ (ring : Ring). ring.align ≤ 65536) (λ _. align_small pair.to_host fit.0) (λ _. align_small pair.to_remote fit.1) in
    lane_few (ring_of_lane pair lane).align (lane_base pair.base (ring_capacity pair.to_host.num) lane) lane rings small sound
