use Rattle.std.proofs.Common.{Some, Result, sym, subst, ◌∙◌, arith}
use Rattle.std.proofs.lemmas.Bool.{ltb-false}
use Rattle.lane_model.specs.Links.{end_of}
use Rattle.lane_model.specs.Recoveries.{link_reclaim_refusal}
use Rattle.link_bench.specs.declared.acts.ActAnswer.TheVariants as answer
use Rattle.link_bench.specs.declared.acts.LinkAct.TheVariants as act
use Rattle.link_bench.specs.declared.bench_crashes.Reclaim.{Reclaim}
use Rattle.link_bench.specs.declared.benches.BenchFault.{BenchFault}
use Rattle.link_bench.specs.declared.benches.BenchFault.TheVariants as fault
use Rattle.link_bench.specs.Acts.{answer_of_reclaim}
use Rattle.link_bench.specs.BenchCrashes.{reclaim_answer}
use Rattle.link_bench.specs.Benches.{BenchState, link_in}
use Rattle.core_actors.specs.Actors.{actors_view}
use Rattle.crash_recover.specs.CoreActs.{HasCoreActResult, core_act}
use Rattle.crash_recover.specs.Cores.{CoreState}
use Rattle.crash_recover.specs.KeptCores.{IsKeptBench, IsReadyLink}
use Rattle.crash_recover.specs.contracts.cores.Core.{the_view}
use Rattle.crash_recover.proofs.CoreActs.{own_reclaim, reclaim_acted}
use Rattle.crash_recover.proofs.KeptBenches.{reclaim_kept}
use Rattle.crash_recover.proofs.ReadyCores.{reclaims_ready}
use Rattle.crash_recover.proofs.SoundCores.{sound_linked}
use Rattle.crash_recover.proofs.cores.Core.reclaim.Goals as goal

pub invariant_of-self-2 : goal.invariant_of-self-2
invariant_of-self-2 c =
    let inside = c.self.inside in
    let actors = actors_view inside.actors in
    let other = ltb-false c.args.caller 2 (sym c.is_own.ensures ∙ c.if-is_own.false) in
    sound_linked inside.regions inside.book inside.life inside.image inside.loaded c.in-Some.bench c.reclaim.new.self inside.bench actors actors c.in-Some.is c.self.invariant
    (λ kept. subst (IsKeptBench inside.life) (sym c.reclaim.ensures.left) (reclaim_kept inside.life c.in-Some.bench c.args.caller (omega (arith, other)) kept))
    (λ _ ready. subst (λ (bench : BenchState). IsReadyLink inside.life.state actors (Some bench)) (sym c.reclaim.ensures.left)
    (reclaims_ready inside.life.state actors c.in-Some.bench c.args.caller (omega (arith, other)) ready))

pub returns-then-is_own-clause-acted : goal.returns-then-is_own-clause-acted
returns-then-is_own-clause-acted c =
    let caller = c.args.caller in
    subst (λ (core : CoreState). HasCoreActResult (core_act core 0 (act.Reclaim caller)) (record (the_view c.self.inside) { bench = Some c.in-Some.bench }) 0 (Some (answer.Refused caller fault.NoCaller))) c.self.view_is
    (own_reclaim (the_view c.self.inside) c.in-Some.bench c.in-Some.is caller (sym c.is_own.ensures ∙ c.if-is_own.true))

pub returns-clause-acted : goal.returns-clause-acted
returns-clause-acted c =
    let core = the_view c.self.inside in
    let bench = c.in-Some.bench in
    let caller = c.args.caller in
    let why = link_reclaim_refusal (link_in bench) caller in
    let told = reclaim_answer (end_of (link_in bench).callers caller) why in
    subst (λ (core : CoreState). HasCoreActResult (core_act core 0 (act.Reclaim caller)) (record (the_view c.self.inside) { bench = Some c.reclaim.new.self }) 0 (Some (answer_of_reclaim caller c.reclaim.result))) c.self.view_is
    (subst (λ (told : Result Reclaim BenchFault). HasCoreActResult (core_act core 0 (act.Reclaim caller)) (record core { bench = Some c.reclaim.new.self }) 0 (Some (answer_of_reclaim caller told))) (sym c.reclaim.ensures.answer)
    (subst (λ (left : BenchState). HasCoreActResult (core_act core 0 (act.Reclaim caller)) (record core { bench = Some left }) 0 (Some (answer_of_reclaim caller told))) (sym c.reclaim.ensures.left)
    (reclaim_acted core bench c.in-Some.is caller (sym c.is_own.ensures ∙ c.if-is_own.false))))
