use Rattle.std.proofs.Common.{◌≡◌, true, false, length, rules, arith, ap, ◌∙◌, sym, subst}
use Rattle.std.specs.List.Sorted.{IsPartitionPoint}
use Rattle.std.proofs.lemmas.List.Sorted.{IsPartitionPoint-from_clause}
use Rattle.host_driver.specs.Drivers.{is_before, IsAscending}
use Rattle.host_driver.specs.declared.driven.DrivenEndpoint.{DrivenEndpoint}
use Rattle.host_driver.proofs.Places.{is_parted, place_is}
use Rattle.host_driver.proofs.drivers.Drivers.place.Goals as goal

pub returns : goal.returns
returns c =
    let endpoint = c.args.endpoint in
    let place = c.partition_point.result in
    let same = ap (λ d. d.driven) c.self.view_is in
    let parted = IsPartitionPoint-from_clause (λ (one : DrivenEndpoint). is_before one.endpoint endpoint) c.deref.result.now place c.partition_point.ensures.partitioned
    (is_parted endpoint c.deref.result.now (subst IsAscending (sym c.deref.ensures.value) c.self.invariant.0)) (λ a r q k. search rules) in
    let items = c.deref.ensures.value ∙ same in
    place_is endpoint c.args.self.now.driven place (omega (arith, c.partition_point.ensures.bound, ap length items)) (subst (λ xs. IsPartitionPoint (λ one. is_before one.endpoint endpoint ≡ true) (λ one. is_before one.endpoint endpoint ≡ false) xs place) items parted)
