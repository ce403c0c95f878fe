use Rattle.std.proofs.Common.{◌≡◌, Bool, true, false, not, length, arith, ap, sym, subst, refl}
use Rattle.std.proofs.lemmas.List.Elements.{filter_passes}
use Rattle.std.proofs.lemmas.List.Sums.{length-filter, count_by-le-length}
use Rattle.host_driver.specs.Drivers.{drives}
use Rattle.host_driver.specs.declared.driven.DrivenEndpoint.{DrivenEndpoint}
use Rattle.host_driver.proofs.Places.{IsAbsent}
use Rattle.host_driver.proofs.drivers.Drivers.created.Goals as goal

pub insert-requires-clause-room : goal.insert-requires-clause-room
insert-requires-clause-room c =
    let others : DrivenEndpoint → Bool = λ one. not (drives c.args.endpoint one) in
    let left = ap (λ d. length d.driven) c.destroyed.ensures.left in
    omega (arith, c.in_ok-kind.ensures.room, left, length-filter others c.args.self.now.driven, count_by-le-length others c.args.self.now.driven)

fails : (b : Bool) → not b ≡ true → b ≡ false
fails true e = absurd cc
fails false e = refl

pub insert-requires-clause-absent : goal.insert-requires-clause-absent
insert-requires-clause-absent c =
    let others : DrivenEndpoint → Bool = λ one. not (drives c.args.endpoint one) in
    subst (λ driven. IsAbsent c.args.endpoint driven) (sym (ap (λ d. d.driven) c.destroyed.ensures.left)) (λ k d lt. fails _ (filter_passes others c.args.self.now.driven k d lt))
