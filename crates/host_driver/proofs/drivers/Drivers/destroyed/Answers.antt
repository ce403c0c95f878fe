use Rattle.std.proofs.Common.{List, remove, ap, ◌∙◌, sym, subst}
use Rattle.host_driver.specs.Drivers.{DriversState, IsAscending}
use Rattle.host_driver.specs.declared.driven.DrivenEndpoint.{DrivenEndpoint}
use Rattle.host_driver.proofs.Places.{absent_stays, there_goes}
use Rattle.host_driver.proofs.drivers.Drivers.destroyed.Goals as goal

pub returns-in-Some-clause-left : goal.returns-in-Some-clause-left
returns-in-Some-clause-left c =
    let same = ap (λ d. d.driven) c.self.view_is in
    let place = c.in-Some.place in
    let gone = there_goes c.args.endpoint c.args.self.now.driven place (subst IsAscending same c.self.invariant.0) c.in-Some.ensures.found.0 c.in-Some.ensures.found.1 in
    let left : List DrivenEndpoint → DriversState → DriversState = λ driven drivers. record { kinds = drivers.kinds; driven = driven } in
    ap (λ driven. left driven (record { kinds = c.self.inside.kinds.items; driven = c.self.inside.driven.items })) (c.remove.ensures.items ∙ ap (λ xs. remove xs place) same ∙ sym gone)
    ∙ ap (left _) c.self.view_is

pub returns-in_default-clause-left : goal.returns-in_default-clause-left
returns-in_default-clause-left c =
    let now = c.args.self.now in
    sym (ap (λ driven. record { kinds = now.kinds; driven = driven }) (absent_stays c.args.endpoint now.driven c.in_default.ensures.absent))
