use Rattle.std.proofs.Common.{◌≡◌, ap, ◌∙◌, sym, subst, Option, Some, None, Result, Ok, Err, option_map, ok_or, get_or, remove}
use Rattle.rp_base.specs.declared.kinds.BoundEndpoint.{BoundEndpoint}
use Rattle.rp_base.specs.declared.kinds.BindFault.{BindFault}
use Rattle.rp_base.specs.declared.kinds.BindFault.TheVariants.{NotBound}
use Rattle.endpoint_map.specs.Bindings.{Bindings, IsAscending, endpoint_of, after_unbind}
use Rattle.endpoint_map.proofs.Places.{found_at, found_nowhere, without_is, without_none}
use Rattle.endpoint_map.proofs.endpoints.Endpoints.unbind.Goals as goal

pub returns-in-Ok-clause-answer : goal.returns-in-Ok-clause-answer
returns-in-Ok-clause-answer c =
    let same = ap (λ b. b.bound) c.self.view_is in
    let place = c.in-Ok.place in
    let read = c.remove.result in
    let found = found_at c.args.self.now c.args.address place read (subst IsAscending same c.self.invariant.0) c.in-Ok.ensures.found.0 c.in-Ok.ensures.found.1 in
    let here : read ≡ get_or c.args.self.now.bound place read = c.remove.ensures.value ∙ ap (λ xs. get_or xs place read) same in
    ap (λ b. Ok (endpoint_of b)) here ∙ sym (ap (λ o. ok_or (option_map endpoint_of o) (NotBound c.args.address)) found)

pub returns-in-Ok-clause-left : goal.returns-in-Ok-clause-left
returns-in-Ok-clause-left c =
    let same = ap (λ b. b.bound) c.self.view_is in
    let place = c.in-Ok.place in
    let rest = without_is c.args.address c.args.self.now.bound place (subst IsAscending same c.self.invariant.0) c.in-Ok.ensures.found.0 c.in-Ok.ensures.found.1 in
    let bound = c.remove.ensures.items ∙ ap (λ xs. remove xs place) same ∙ sym rest in
    let left : Bindings → Bindings = λ before. record { bound = (after_unbind c.args.self.now c.args.address).bound; count = before.count } in
    ap (λ xs. record { bound = xs; count = c.self.inside.bindings }) bound ∙ ap left c.self.view_is

pub returns-in-Err-clause-answer : goal.returns-in-Err-clause-answer
returns-in-Err-clause-answer c =
    sym (ap (λ o. ok_or (option_map endpoint_of o) (NotBound c.args.address)) (found_nowhere c.args.self.now c.args.address _ c.in-Err.ensures.absent))

pub returns-in-Err-clause-left : goal.returns-in-Err-clause-left
returns-in-Err-clause-left c =
    let now = c.args.self.now in
    sym (ap (λ xs. record { bound = xs; count = now.count }) (without_none c.args.address now.bound _ c.in-Err.ensures.absent))
