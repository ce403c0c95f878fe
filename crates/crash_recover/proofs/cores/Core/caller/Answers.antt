use Rattle.std.proofs.Common.{ℕ, Option, Some, sym, subst}
use Rattle.lane_model.specs.Links.{free_number}
use Rattle.link_bench.specs.declared.acts.LinkAct.TheVariants as act
use Rattle.link_bench.specs.Benches.{BenchState, link_in}
use Rattle.core_actors.specs.Actors.{actors_view}
use Rattle.crash_recover.specs.CoreActs.{HasCoreActResult, core_act}
use Rattle.crash_recover.specs.CoreCallers.{caller_answer}
use Rattle.crash_recover.specs.Cores.{CoreState}
use Rattle.crash_recover.specs.KeptCores.{IsKeptBench, IsReadyLink}
use Rattle.crash_recover.specs.contracts.cores.Core.{the_view}
use Rattle.crash_recover.proofs.CoreActs.{caller_acted}
use Rattle.crash_recover.proofs.KeptBenches.{caller_kept}
use Rattle.crash_recover.proofs.ReadyCores.{joined_ready}
use Rattle.crash_recover.proofs.SoundCores.{sound_linked}
use Rattle.crash_recover.proofs.cores.Core.caller.Goals as goal

pub invariant_of-self : goal.invariant_of-self
invariant_of-self c =
    let inside = c.self.inside in
    let actors = actors_view inside.actors in
    sound_linked inside.regions inside.book inside.life inside.image inside.loaded c.in-Some.bench c.caller.new.self inside.bench actors actors c.in-Some.is c.self.invariant
    (λ kept. subst (IsKeptBench inside.life) (sym c.caller.ensures.left) (caller_kept inside.life c.in-Some.bench c.args.end kept))
    (λ _ ready. subst (λ (bench : BenchState). IsReadyLink inside.life.state actors (Some bench)) (sym c.caller.ensures.left) (joined_ready inside.life.state actors c.in-Some.bench c.args.end ready))

pub returns-clause-acted : goal.returns-clause-acted
returns-clause-acted c =
    let core = the_view c.self.inside in
    let bench = c.in-Some.bench in
    let end = c.args.end in
    let number = free_number (link_in bench).callers in
    subst (λ (core : CoreState). HasCoreActResult (core_act core 0 (act.Caller end)) (record (the_view c.self.inside) { bench = Some c.caller.new.self }) 0 (Some (caller_answer end c.caller.result))) c.self.view_is
    (subst (λ (told : Option ℕ). HasCoreActResult (core_act core 0 (act.Caller end)) (record core { bench = Some c.caller.new.self }) 0 (Some (caller_answer end told))) (sym c.caller.ensures.number)
    (subst (λ (left : BenchState). HasCoreActResult (core_act core 0 (act.Caller end)) (record core { bench = Some left }) 0 (Some (caller_answer end number))) (sym c.caller.ensures.left)
    (caller_acted core bench c.in-Some.is end)))
