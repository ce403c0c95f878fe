use Rattle.std.proofs.Common.{◌≡◌, ℕ, List, [], ◌∷◌, ◌++◌, false, refl, sym, ap, ◌∙◌}
use Rattle.link_commands.specs.NamedLinks.{NamedLink}
use Rattle.link_bench.specs.Benches.{BenchState, new_bench_of}
use Rattle.channel_bus.specs.Sides.{EndState}
use Rattle.command_run.specs.Runs.{ObjectsState, new_end}
use Rattle.command_run.proofs.Placing.{made_run}
use Rattle.command_run.proofs.objects.Objects.make_link.Goals as goal

pub returns : goal.returns
returns c =
    let bench = new_bench_of c.args.config (new_end c.args.has_service) (new_end false) in
    let host : c.in_ok-host.host ≡ new_end c.args.has_service =
    c.in_ok-host.ensures ∙ ap (λ (drivers : List (List ℕ)). record (new_end c.args.has_service) { drivers = drivers }) c.new.ensures.items in
    let remote : c.in_ok-remote.remote ≡ new_end false = c.in_ok-remote.ensures ∙ ap (λ (drivers : List (List ℕ)). record (new_end false) { drivers = drivers }) c.new-3.ensures.items in
    made_run (record { objects = c.args.self.now; steps = c.args.log.now.steps })
    (record { links = c.push.new.self.items; cores = c.self.inside.cores.items; images = c.self.inside.images.items; is_quiet = c.self.inside.is_quiet }) c.args.log.now c.tell-2.new.self
    c.args.name c.args.config c.args.has_service
    (sym c.is_full.ensures ∙ c.if-is_full.false)
    (ap (λ (links : List NamedLink). record { links = links; cores = c.self.inside.cores.items; images = c.self.inside.images.items; is_quiet = c.self.inside.is_quiet })
    (c.in_ok-push.ensures.items
    ∙ ap (λ (made : BenchState). c.self.inside.links.items ++ record { name = c.args.name; bench = made } ∷ [])
    (c.in_ok-bench.ensures ∙ ap (λ (end : EndState). new_bench_of c.args.config end c.in_ok-remote.remote) host ∙ ap (λ (end : EndState). new_bench_of c.args.config (new_end c.args.has_service) end) remote))
    ∙ ap (λ (objects : ObjectsState). record objects { links = objects.links ++ record { name = c.args.name; bench = bench } ∷ [] }) c.self.view_is)
    refl c.in_ok-tell-2.ensures.told
