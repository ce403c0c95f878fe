use Rattle.std.proofs.Common.{◌≡◌, ap, ◌∙◌, sym, subst, Option, Some, option_map, get_or}
use Rattle.rp_base.specs.declared.kinds.BoundEndpoint.{BoundEndpoint}
use Rattle.rp_base.specs.declared.kinds.Endpoint.{Endpoint}
use Rattle.endpoint_map.specs.Bindings.{IsAscending, endpoint_of}
use Rattle.endpoint_map.proofs.Places.{found_at, found_nowhere}
use Rattle.endpoint_map.proofs.endpoints.Endpoints.at.Goals as goal

pub returns-in-Ok : goal.returns-in-Ok
returns-in-Ok c =
    let same = ap (λ b. b.bound) c.self.view_is in
    let place = c.in-Ok.place in
    let read = c.index.result.now in
    let found = found_at c.args.self.now c.args.address place read (subst IsAscending same c.self.invariant.0) c.in-Ok.ensures.found.0 c.in-Ok.ensures.found.1 in
    let here : read ≡ get_or c.args.self.now.bound place read = c.index.ensures ∙ ap (λ xs. get_or xs place read) same in
    ap (λ b. Some (endpoint_of b)) here ∙ sym (ap (option_map endpoint_of) found)

pub returns-in-Err : goal.returns-in-Err
returns-in-Err c = sym (ap (option_map endpoint_of) (found_nowhere c.args.self.now c.args.address _ c.in-Err.ensures.absent))
