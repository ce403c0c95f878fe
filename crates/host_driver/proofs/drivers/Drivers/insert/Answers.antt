use Rattle.std.proofs.Common.{◌≡◌, ◌≤◌, length, insert, is_ok, cond, arith, ap, ◌∙◌, sym, subst}
use Rattle.std.specs.List.{prefix_len}
use Rattle.std.proofs.lemmas.List.Edits.{length-insert}
use Rattle.std.proofs.lemmas.List.Sums.{prefix_len-le-length}
use Rattle.host_driver.specs.Drivers.{is_before, IsAscending}
use Rattle.host_driver.specs.declared.driven.DrivenEndpoint.{DrivenEndpoint}
use Rattle.host_driver.proofs.Places.{IsAbsent, is_place, ascending-insert}
use Rattle.host_driver.proofs.drivers.Drivers.insert.Goals as goal

pub insert-requires : goal.insert-requires
insert-requires c =
    let same = ap (λ d. d.driven) c.self.view_is in
    omega (arith, c.place-place.ensures, prefix_len-le-length (λ (one : DrivenEndpoint). is_before one.endpoint c.args.one.endpoint) c.args.self.now.driven, ap length same)

pub invariant_of-self : goal.invariant_of-self
invariant_of-self c =
    let same = ap (λ d. d.driven) c.self.view_is in
    let items = c.self.inside.driven.items in
    let one = c.args.one in
    let place = c.place-place.result in
    let absent = subst (IsAbsent one.endpoint) (sym same) c.requires.absent in
    let is = c.place-place.ensures ∙ ap (prefix_len (λ (other : DrivenEndpoint). is_before other.endpoint one.endpoint)) (sym same) in
    let within : place ≤ length items = omega (arith, is, prefix_len-le-length (λ (other : DrivenEndpoint). is_before other.endpoint one.endpoint) items) in
    let added : c.insert.new.self.items ≡ insert items place one = c.insert.ensures.items ∙ ap (λ r. cond (is_ok r) (insert items place one) items) c.unwrap.ensures in (
      subst IsAscending (sym added) (ascending-insert one items place c.self.invariant.0 (is_place one.endpoint items place within absent c.self.invariant.0 is)),
      omega (arith, ap length added, ap length same, c.requires.room, length-insert items place one within),
      omega (arith, c.self.invariant.2, c.insert.ensures.capacity),
    )
