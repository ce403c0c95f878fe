use Rattle.std.proofs.Common.{◌≡◌, ℕ, List, set, get_or, ap, ◌∙◌, sym, subst}
use Rattle.std.specs.Option.{option_and_then}
use Rattle.host_driver.specs.Drivers.{DriversState, IsAscending, with_delivery, reply_to}
use Rattle.host_driver.specs.declared.driven.DrivenEndpoint.{DrivenEndpoint}
use Rattle.host_driver.proofs.Places.{absent_is_none, absent_is_unchanged, there_is_found, there_is_changed}
use Rattle.host_driver.proofs.drivers.Drivers.reply.Goals as goal

pub returns-in_default-clause-sent : goal.returns-in_default-clause-sent
returns-in_default-clause-sent c =
    let none = absent_is_none c.args.endpoint c.args.self.now.driven c.in_default.ensures.absent in
    sym (ap (option_and_then (λ one. reply_to one.kind (with_delivery one) c.args.message.now)) none)

pub returns-in_default-clause-left : goal.returns-in_default-clause-left
returns-in_default-clause-left c =
    let now = c.args.self.now in
    sym (ap (λ driven. record { kinds = now.kinds; driven = driven }) (absent_is_unchanged with_delivery c.args.endpoint now.driven c.in_default.ensures.absent))

pub returns-clause-sent : goal.returns-clause-sent
returns-clause-sent c =
    let driven = c.args.self.now.driven in
    let message = c.args.message.now in
    let same = ap (λ d. d.driven) c.self.view_is in
    let place = c.in-Some.place in
    let read = c.index_mut-one.result.now in
    let found = there_is_found c.args.endpoint driven place read (subst IsAscending same c.self.invariant.0) c.in-Some.ensures.found.0 c.in-Some.ensures.found.1 in
    let here : read ≡ get_or driven place read = c.index_mut-one.ensures.value ∙ ap (λ xs. get_or xs place read) same in
    c.reply.ensures
    ∙ ap (λ (count : ℕ). reply_to read.kind (record read { deliveries = count }) message) c.saturating_add-one.ensures
    ∙ ap (λ (one : DrivenEndpoint). reply_to one.kind (with_delivery one) message) here
    ∙ sym (ap (option_and_then (λ one. reply_to one.kind (with_delivery one) message)) found)

pub returns-clause-left : goal.returns-clause-left
returns-clause-left c =
    let driven = c.args.self.now.driven in
    let items = c.self.inside.driven.items in
    let same = ap (λ d. d.driven) c.self.view_is in
    let place = c.in-Some.place in
    let read = c.index_mut-one.result.now in
    let changed = there_is_changed with_delivery c.args.endpoint driven place read (subst IsAscending same c.self.invariant.0) c.in-Some.ensures.found.0 c.in-Some.ensures.found.1 in
    let here : read ≡ get_or driven place read = c.index_mut-one.ensures.value ∙ ap (λ xs. get_or xs place read) same in
    let written : set items place (record read { deliveries = c.saturating_add-one.result }) ≡ set driven place (with_delivery (get_or driven place read)) =
    ap (λ (count : ℕ). set items place (record read { deliveries = count })) c.saturating_add-one.ensures
    ∙ ap (λ xs. set xs place (with_delivery read)) same
    ∙ ap (λ (one : DrivenEndpoint). set driven place (with_delivery one)) here in
    let left : List DrivenEndpoint → DriversState → DriversState = λ one drivers. record { kinds = drivers.kinds; driven = one } in
    ap (λ one. left one (record { kinds = c.self.inside.kinds.items; driven = items })) (written ∙ sym changed)
    ∙ ap (left _) c.self.view_is
