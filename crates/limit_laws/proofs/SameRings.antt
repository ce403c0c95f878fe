-- Rings that are found to be the same are equal, and equal ones are found to be the same.
use Rattle.std.proofs.Common.{◌≡◌, Bool, true, false, cond, Option, Some, None, refl, sym, ap, subst}
use Rattle.std.specs.Prelude.{◌↔◌}
use Rattle.std.specs.Cmp.{nat_eq_equiv}
use Rattle.std.specs.Cmp.Derive.{both_true}
use Rattle.std.proofs.lemmas.Bool.{eqb-true}
use Rattle.resource_table.proofs.Sound.{both_true as parts_true}
use Rattle.resource_table.specs.declared.entries.Ring.{Ring}
use Rattle.fw_load.specs.declared.rings.RingPair.{RingPair}
use Rattle.crash_recover.specs.declared.core_faults.StartFault.TheVariants as start_fault
use Rattle.crash_recover.specs.CoreRecoveries.{rings_fault, same_ring, same_service, same_pair, same_rings}
use Rattle.crash_recover.specs.Cores.{CoreState, LoadState, loaded_rings}

ring_is : (a b : Ring) → same_ring a b ≡ true → a ≡ b
ring_is a b same =
    let last = parts_true _ _ same in
    let fourth = parts_true _ _ last.0 in
    let third = parts_true _ _ fourth.0 in
    let first = parts_true _ _ third.0 in
    let da = eqb-true a.da b.da first.0 in
    let align = eqb-true a.align b.align first.1 in
    let num = eqb-true a.num b.num third.1 in
    let notify = eqb-true a.notify b.notify fourth.1 in
    let pa = eqb-true a.pa b.pa last.1 in
    λ i. record { da = da i; align = align i; num = num i; notify = notify i; pa = pa i }

service_is : (a b : Bool) → same_service a b ≡ true → a ≡ b
service_is true b same = sym same
service_is false true same = same
service_is false false same = refl

pair_is : (a b : RingPair) → same_pair a b ≡ true → a ≡ b
pair_is a b same =
    let last = parts_true _ _ same in
    let third = parts_true _ _ last.0 in
    let first = parts_true _ _ third.0 in
    let to_host = ring_is a.to_host b.to_host first.0 in
    let to_remote = ring_is a.to_remote b.to_remote first.1 in
    let base = eqb-true a.base b.base third.1 in
    let service = service_is a.service b.service last.1 in
    λ i. record { to_host = to_host i; to_remote = to_remote i; base = base i; service = service i }

rings_are : (a b : Option RingPair) → same_rings a b ≡ true → a ≡ b
rings_are (Some a) (Some b) same = ap Some (pair_is a b same)
rings_are (Some a) None same = absurd (cc)
rings_are None (Some b) same = absurd (cc)
rings_are None None same = refl

ring_itself : (a : Ring) → same_ring a a ≡ true
ring_itself a =
    both_true (both_true (both_true (both_true (nat_eq_equiv.refl a.da) (nat_eq_equiv.refl a.align)) (nat_eq_equiv.refl a.num)) (nat_eq_equiv.refl a.notify)) (nat_eq_equiv.refl a.pa)

service_itself : (a : Bool) → same_service a a ≡ true
service_itself true = refl
service_itself false = refl

itself : (a : Option RingPair) → same_rings a a ≡ true
itself None = refl
itself (Some a) = both_true (both_true (both_true (ring_itself a.to_host) (ring_itself a.to_remote)) (nat_eq_equiv.refl a.base)) (service_itself a.service)

pub same_are_equal : (a b : Option RingPair) → same_rings a b ≡ true ↔ a ≡ b
same_are_equal a b = (rings_are a b, λ same. subst (λ other. same_rings a other ≡ true) same (itself a))

found_same : (test : Bool) → cond test None (Some start_fault.RingsChanged) ≡ None → test ≡ true
found_same true none = refl
found_same false none = absurd (cc)

pub no_fault_where_equal : (core : CoreState) (given : LoadState) → rings_fault core given ≡ None ↔ loaded_rings core.loaded ≡ given.rings
no_fault_where_equal core given = (
  λ none. rings_are _ _ (found_same (same_rings (loaded_rings core.loaded) given.rings) none),
  λ same. ap (λ test. cond test None (Some start_fault.RingsChanged)) (subst (λ other. same_rings (loaded_rings core.loaded) other ≡ true) same (itself (loaded_rings core.loaded))),
)
