-- A new incarnation: each buffer stands among the coming sends, and nothing is in the forward ring, in hand or aside.
use Rattle.std.proofs.Common.{◌≡◌, ℕ, min, zero, suc, ◌+◌, ◌-◌, ◌<◌, ◌≤◌, Bool, true, false, IsTrue, cond, List, length, map, get_or, sym, refl, ap, subst, ◌∙◌, inl, inr, arith, length-append, mod-eq_of_lt}
use Rattle.std.proofs.lemmas.Bool.{cases_lt, cases_order, ne_eqb, eq-eqb, false≢true}
use Rattle.std.proofs.lemmas.List.{get_or_append_left, length-replicate}
use Rattle.std.proofs.lemmas.List.FromFn.{length-map-range_with_len, get_or-map-range_with_len}
use Rattle.std.specs.List.{range_with_len}
use Rattle.std.specs.Int.{is_power_of_two}
use Rattle.lane_model.specs.Crashes.{opened_lane}
use Rattle.vring_layout.specs.declared.words.UsedWord.{UsedWord}
use Rattle.ring_core.specs.declared.states.RingSizes.{RingSizes}
use Rattle.ring_core.specs.Rings.{source_buffer, return_count, entry_of, opened_returns, opened_rings, sizes_of}
use Rattle.rp_base.specs.Limits.{IsRingSize, ring_capacity}
use Rattle.ring_core.specs.Owners.{once_below, times_between}
use Rattle.ring_core.specs.SoundRings.{IsSoundRings}
use Rattle.ring_core.proofs.Windows.{times_last, times_agree}
use Rattle.ring_core.proofs.Hands.{once_yes, once_no, once_under, once_above}
use Rattle.ring_core.proofs.Owned.{source-early, source-late}

-- the numbers below a bound count once each
times_below : (id n : ℕ) → times_between (λ k. k) id 0 n ≡ once_below id n
times_below id zero = sym (once_above id 0 (omega arith))
times_below id (suc n) =
    let rest = times_below id n in
    let last = times_last (λ k. k) id 0 n n (omega arith) in
    elim (cases_order id n) [
      | inl here ↦
          let now = once_under id (suc n) (omega arith) in
          let before = once_above id n (omega arith) in
          let one = once_yes n id (eq-eqb n id (sym here)) in
          omega arith
      | inr (inl below) ↦
          let now = once_under id (suc n) (omega arith) in
          let before = once_under id n below in
          let none = once_no n id (ne_eqb n id (omega arith)) in
          omega arith
      | inr (inr above) ↦
          let now = once_above id (suc n) (omega arith) in
          let before = once_above id n (omega arith) in
          let none = once_no n id (ne_eqb n id (omega arith)) in
          omega arith
    ]

-- send k of an incarnation takes buffer k first
opened_source : (sizes : RingSizes) → sizes.capacity ≤ sizes.entries → sizes.own ≤ sizes.capacity → (k : ℕ) → k < sizes.capacity
    → source_buffer sizes.entries sizes.own (opened_returns sizes) k ≡ k
opened_source sizes fits own k below = elim (cases_lt k sizes.own) [
  | inl early ↦ source-early sizes.entries sizes.own (opened_returns sizes) k early
  | inr late ↦
      let stocked = sizes.capacity - sizes.own in
      let there : k - sizes.own < stocked = omega arith in
      let long : length (map entry_of (range_with_len sizes.own stocked)) ≡ stocked = length-map-range_with_len entry_of sizes.own stocked in
      source-late sizes.entries sizes.own (opened_returns sizes) k late
      ∙ ap (λ i. (get_or (opened_returns sizes) i (entry_of 0)).id) (mod-eq_of_lt {n = k - sizes.own} {m = sizes.entries} (omega arith))
      ∙ ap (λ (word : UsedWord). word.id) (get_or_append_left (map entry_of (range_with_len sizes.own stocked)) _ (entry_of 0) (k - sizes.own) (omega arith)
      ∙ get_or-map-range_with_len entry_of sizes.own stocked (k - sizes.own) k (entry_of 0) there (omega arith))
]

-- new rings, over the buffers of a lane that is sized
pub opened_rings_sound : {D : Type 0} (sizes : RingSizes) (buffers : List (List ℕ)) (book : ℕ) (desk : D)
    → IsRingSize sizes.entries → sizes.capacity ≡ ring_capacity sizes.entries → 1 ≤ sizes.capacity → sizes.capacity ≤ 256 → sizes.capacity ≤ sizes.entries → sizes.entries ≤ 32768
    → sizes.own ≤ sizes.capacity → length buffers ≡ sizes.capacity → book ≤ 262144
    → IsSoundRings (record { lane = opened_lane sizes.capacity book desk; rings = opened_rings sizes buffers })
opened_rings_sound sizes buffers book desk size count some most fits ring own long book_most = record {
  sized = record {
    size = size;
    count = count;
    some = some;
    most = most;
    fits = fits;
    ring = ring;
    own = own;
    buffers_long = long;
    lane = refl;
    forward_long = length-replicate sizes.entries (entry_of 0);
    returns_long =
        let stocked = length-map-range_with_len entry_of sizes.own (sizes.capacity - sizes.own) in
        let rest = length-replicate (sizes.entries - (sizes.capacity - sizes.own)) (entry_of 0) in
        length-append (map entry_of (range_with_len sizes.own (sizes.capacity - sizes.own))) _ ∙ omega arith;
  };
  counted = record { back = refl; behind = omega arith; out = omega arith; within = omega arith; most = book_most };
  forward_index = refl;
  return_index = sym (mod-eq_of_lt {n = return_count sizes 0} {m = 65536} (omega arith));
  owned = record {
    times = λ id.
        let agree = times_agree (source_buffer sizes.entries sizes.own (opened_returns sizes)) (λ k. k) id 0 (sizes.capacity + 0 - 0) (λ k low high. opened_source sizes fits own k (omega arith)) in
        let all : times_between (λ k. k) id 0 (sizes.capacity + 0 - 0) ≡ times_between (λ k. k) id 0 sizes.capacity = ap (times_between (λ k. k) id 0) {x = sizes.capacity + 0 - 0} {y = sizes.capacity} (omega arith) in
        let below = times_below id sizes.capacity in
        omega arith;
  };
  apart = record { times = λ number. omega arith };
  holdings = refl;
  filled = record { message = λ number low high. absurd (omega arith) };
  room = tt;
  fit = tt;
  source = tt;
  work = tt;
}

-- the driver's sends have as many buffers of their own as there are, the device's none
own-le : (device_sends : Bool) (capacity : ℕ) → cond device_sends 0 capacity ≤ capacity
own-le true capacity = omega arith
own-le false capacity = omega arith

-- zero is no power of two
some_power : (n : ℕ) → IsTrue (is_power_of_two n) → 1 ≤ n
unfolding lib.Count.ones
some_power zero power = let wrong : false ≡ true = power in absurd (false≢true wrong)
some_power (suc n) power = omega arith

-- the sizes of a lane whose rings have so many entries
pub sizes_sized : (entries : ℕ) (device_sends : Bool) (sizes : RingSizes) → sizes ≡ sizes_of entries device_sends → IsRingSize entries
    → IsRingSize sizes.entries × (sizes.capacity ≡ ring_capacity sizes.entries) × (1 ≤ sizes.capacity) × (sizes.capacity ≤ 256) × (sizes.capacity ≤ sizes.entries) × (sizes.entries ≤ 32768)
    × (sizes.own ≤ sizes.capacity)
sizes_sized entries device_sends sizes is ring =
    let e : sizes.entries ≡ entries = ap (λ (s : RingSizes). s.entries) is in
    let c : sizes.capacity ≡ min entries 256 = ap (λ (s : RingSizes). s.capacity) is in
    let o : sizes.own ≤ sizes.capacity = rw is (own-le device_sends (ring_capacity entries)) in
    let some : 1 ≤ entries = some_power entries ring.0 in
    (subst IsRingSize (sym e) ring, c ∙ ap ring_capacity (sym e), omega arith, omega arith, omega arith, omega (arith, ring.1), o)
