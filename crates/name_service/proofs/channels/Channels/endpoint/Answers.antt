use Rattle.std.proofs.Common.{Option, ap, ◌∙◌, option_and_then}
use Rattle.rp_base.specs.declared.kinds.Endpoint.{Endpoint}
use Rattle.name_service.specs.Channels.{Key, endpoint_at}
use Rattle.name_service.proofs.Entries.{endpoint_is}
use Rattle.name_service.proofs.channels.Channels.endpoint.Goals as goal

pub returns-in-Some : goal.returns-in-Some
returns-in-Some c =
    let key : Key = (c.args.name.now, c.args.address) in
    ap (option_and_then (λ (endpoint : Option Endpoint). endpoint)) c.in-Some.ensures.value ∙ endpoint_is key c.self.inside.channels.entries ∙ ap (endpoint_at key) c.self.view_is

pub returns-in-None : goal.returns-in-None
returns-in-None c =
    let key : Key = (c.args.name.now, c.args.address) in
    ap (option_and_then (λ (endpoint : Option Endpoint). endpoint)) c.in-None.ensures.value ∙ endpoint_is key c.self.inside.channels.entries ∙ ap (endpoint_at key) c.self.view_is
