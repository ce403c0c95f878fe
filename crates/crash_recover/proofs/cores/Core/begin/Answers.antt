use Rattle.std.proofs.Common.{Some, sym, ◌∙◌, arith}
use Rattle.std.proofs.lemmas.Bool.{ltb-false}
use Rattle.link_bench.specs.Benches.{BenchState, link_in}
use Rattle.core_actors.specs.Actors.{actors_view}
use Rattle.crash_recover.specs.CoreCallers.{bench_with_call}
use Rattle.crash_recover.specs.KeptCores.{IsKeptBench, IsReadyLink}
use Rattle.crash_recover.proofs.ReadyCores.{begins_ready}
use Rattle.crash_recover.proofs.SoundCores.{did_if, sound_linked}
use Rattle.crash_recover.proofs.cores.Core.begin.Goals as goal

pub invariant_of-self : goal.invariant_of-self
invariant_of-self c =
    let inside = c.self.inside in
    let state = inside.life.state in
    let actors = actors_view inside.actors in
    let bench = c.in-Some.bench in
    let left = bench_with_call bench c.args.caller c.args.wished in
    let other = ltb-false c.args.caller 2 (sym c.is_own.ensures ∙ c.if-is_own.false) in
    sound_linked inside.regions inside.book inside.life inside.image inside.loaded bench c.begin.new.self inside.bench actors actors c.in-Some.is c.self.invariant
    (λ kept. did_if (IsKeptBench inside.life) bench left c.begin.new.self c.begin.result c.begin.ensures.begun c.begin.ensures.refused kept kept)
    (λ _ ready. did_if (λ (bench : BenchState). IsReadyLink state actors (Some bench)) bench left c.begin.new.self c.begin.result c.begin.ensures.begun c.begin.ensures.refused
    (begins_ready state actors bench c.args.caller (record { follows = (link_in bench).era.inc; wish = c.args.wished }) (omega (arith, other)) ready) ready)
