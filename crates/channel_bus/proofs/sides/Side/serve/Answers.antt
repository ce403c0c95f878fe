use Rattle.std.proofs.Common.{◌≡◌, List, Option, Some, ap, sym, ◌∙◌}
use Rattle.rp_base.specs.declared.kinds.Endpoint.{Endpoint}
use Rattle.rpmsg_header.specs.Services.{service_of}
use Rattle.name_service.specs.declared.channels.Channel.{Channel}
use Rattle.name_service.specs.Channels.{key_in, kind_of, with_endpoint}
use Rattle.name_service.specs.Channels.{after_service as channels_after}
use Rattle.channel_bus.specs.Sides.{EndState, endpoint_for, endpoint_of_channel, endpoint_in_verdict, without_endpoint, bindings_after_create}
use Rattle.channel_bus.proofs.Served.{served, verdict_is, left_is, quiet_none, quiet_left, created_left, destroyed_left}
use Rattle.channel_bus.proofs.sides.Side.serve.Goals as goal
use Rattle.channel_bus.proofs.sides.Side.serve.Goals.{in-Created, in-Destroyed+in-Some-bound, in-Destroyed+in_default-bound, in-Duplicate}

pub returns-clause-verdict : goal.returns-clause-verdict
returns-clause-verdict c =
    let side : EndState = c.args.self.now in
    let ns = c.in-Some.ns in
    let number = c.args.number in
    let told : service_of c.args.payload.now ≡ Some ns = sym c.ns_read.ensures ∙ c.in-Some.is in
    let does : c.apply-kind.result ≡ kind_of side.channels ns = c.apply-kind.ensures.kind ∙ ap (λ (s : EndState). kind_of s.channels ns) c.self.view_is in
    verdict_is side number ns (service_of c.args.payload.now) c.apply-kind.result c.match-kind.endpoint told does (elim c.match-kind.branch [
      | in-Created w ↦ w.endpoint-is ∙ w.bind_for-made.ensures.endpoint ∙ ap (λ (s : EndState). endpoint_for s number ns) c.self.view_is ∙ ap (endpoint_in_verdict side number ns) (sym w.in-Created.is)
      | in-Destroyed+in-Some-bound w ↦ w.endpoint-is ∙ sym w.in-Some-bound.is ∙ c.endpoint_of_channel-bound.ensures ∙ ap (endpoint_in_verdict side number ns) (sym w.in-Destroyed.is)
      | in-Destroyed+in_default-bound w ↦ w.endpoint-is ∙ c.endpoint_of_channel-bound.ensures ∙ ap (endpoint_in_verdict side number ns) (sym w.in-Destroyed.is)
      | in-Duplicate w ↦ w.endpoint-is ∙ quiet_none side number ns c.apply-kind.result w.in-Duplicate.is
    ])

pub returns-clause-left : goal.returns-clause-left
returns-clause-left c =
    let side : EndState = c.args.self.now in
    let was : EndState = record { has_service = c.self.inside.has_service; drivers = c.self.inside.drivers.items; bindings = c.self.inside.endpoints; channels = c.self.inside.channels } in
    let seen : was ≡ side = c.self.view_is in
    let ns = c.in-Some.ns in
    let number = c.args.number in
    let kind = c.apply-kind.result in
    let told : service_of c.args.payload.now ≡ Some ns = sym c.ns_read.ensures ∙ c.in-Some.is in
    let does : kind ≡ kind_of side.channels ns = c.apply-kind.ensures.kind ∙ ap (λ (s : EndState). kind_of s.channels ns) seen in
    let goes : c.endpoint_of_channel-bound.result ≡ endpoint_of_channel was ns = c.endpoint_of_channel-bound.ensures ∙ ap (λ (s : EndState). endpoint_of_channel s ns) (sym seen) in
    let over : served was number ns kind ≡ served side number ns kind = ap (λ (s : EndState). served s number ns kind) seen in
    left_is side number ns (service_of c.args.payload.now) kind c.match-kind.self told does (elim c.match-kind.branch [
      | in-Created w ↦
          let made : EndState = record was { bindings = bindings_after_create was number ns; channels = c.apply-kind.new.self } in
          let mid : record { has_service = w.self-in-Created.inside.has_service; drivers = w.self-in-Created.inside.drivers.items; bindings = w.self-in-Created.inside.endpoints; channels = w.self-in-Created.inside.channels } ≡ made
          = w.self-in-Created.view_is ∙ w.bind_for-made.ensures.left in
          let named : w.set.new.self ≡ with_endpoint (key_in ns) (endpoint_for was number ns) (channels_after was.channels ns)
          = w.set.ensures
          ∙ ap (λ (l : List Channel). with_endpoint (key_in ns) w.bind_for-made.result l) (ap (λ (s : EndState). s.channels) mid ∙ c.apply-kind.ensures.left)
          ∙ ap (λ (e : Option Endpoint). with_endpoint (key_in ns) e (channels_after was.channels ns)) w.bind_for-made.ensures.endpoint in
          w.self-is
          ∙ ap (λ (s : EndState). record s { channels = w.set.new.self }) mid
          ∙ created_left was number ns kind w.set.new.self w.in-Created.is named
          ∙ over
      | in-Destroyed+in-Some-bound w ↦
          w.self-is
          ∙ destroyed_left was number ns kind (Some w.in-Some-bound.endpoint) w.unbind.new.self c.apply-kind.new.self w.in-Destroyed.is (sym w.in-Some-bound.is ∙ goes) w.unbind.ensures.left c.apply-kind.ensures.left
          ∙ over
      | in-Destroyed+in_default-bound w ↦
          w.self-is
          ∙ destroyed_left was number ns kind c.endpoint_of_channel-bound.result was.bindings c.apply-kind.new.self w.in-Destroyed.is goes (ap (without_endpoint was.bindings) (sym w.in_default-bound.is)) c.apply-kind.ensures.left
          ∙ over
      | in-Duplicate w ↦
          w.self-is
          ∙ ap (λ (l : List Channel). record was { channels = l }) c.apply-kind.ensures.left
          ∙ quiet_left was number ns kind w.in-Duplicate.is
          ∙ over
    ])
