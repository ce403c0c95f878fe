use Rattle.std.proofs.Common.{Some, sym, subst}
use Rattle.link_bench.specs.Acts.{bare_act, link_act}
use Rattle.link_bench.specs.Benches.{BenchState}
use Rattle.link_bench.proofs.Cuts.{cut_kept, on_err}
use Rattle.core_actors.specs.ActorEnds.{actors_after_end}
use Rattle.core_actors.specs.Actors.{ActorsState, actors_view}
use Rattle.crash_recover.specs.KeptCores.{IsKeptBench, IsReadyLink}
use Rattle.crash_recover.specs.contracts.cores.Core.{the_view}
use Rattle.crash_recover.proofs.CoreActs.{cut_on_core}
use Rattle.crash_recover.proofs.KeptBenches.{act_keeps}
use Rattle.crash_recover.proofs.ReadyCores.{act_ready}
use Rattle.crash_recover.proofs.SoundCores.{sound_linked}
use Rattle.crash_recover.proofs.cores.Core.act.Goals as goal

pub invariant_of-self-in_err-answer : goal.invariant_of-self-in_err-answer
invariant_of-self-in_err-answer c =
    let inside = c.self.inside in
    let actors = actors_view inside.actors in
    let bench = c.in-Some.bench in
    let asked = bare_act (λ bytes. bytes.now) c.args.act.now in
    let left = c.act.new.self in
    let seen = actors_view c.act.new.watcher in
    let cut = c.in_err-answer.ensures.cut in
    let leaves = link_act actors_after_end 2 bench actors c.args.steps.now in
    sound_linked inside.regions inside.book inside.life inside.image inside.loaded bench left inside.bench actors seen c.in-Some.is c.self.invariant
    (λ kept. cut_kept (λ (left : BenchState) (seen : ActorsState). IsKeptBench inside.life left) leaves asked bench actors left seen c.requires.fit kept
    (λ other fit. act_keeps inside.life bench actors c.args.steps.now other kept) cut)
    (λ _ ready. cut_kept (λ (left : BenchState) (seen : ActorsState). IsReadyLink inside.life.state seen (Some left)) leaves asked bench actors left seen c.requires.fit ready
    (λ other fit. act_ready inside.life.state actors bench c.args.steps.now other fit c.show_sound.ensures.fit ready) cut)

pub invariant_of-self-2 : goal.invariant_of-self-2
invariant_of-self-2 c =
    let inside = c.self.inside in
    let actors = actors_view inside.actors in
    let bench = c.in-Some.bench in
    let asked = bare_act (λ bytes. bytes.now) c.args.act.now in
    let done = link_act actors_after_end 2 bench actors c.args.steps.now asked in
    let acted = c.in_ok-answer.ensures.acted in
    sound_linked inside.regions inside.book inside.life inside.image inside.loaded bench c.act.new.self inside.bench actors (actors_view c.act.new.watcher) c.in-Some.is c.self.invariant
    (λ kept. subst (IsKeptBench inside.life) (sym acted.bench) (act_keeps inside.life bench actors c.args.steps.now asked kept))
    (λ _ ready. subst (λ (seen : ActorsState). IsReadyLink inside.life.state seen (Some c.act.new.self)) (sym acted.watcher)
    (subst (λ (left : BenchState). IsReadyLink inside.life.state done.watcher (Some left)) (sym acted.bench)
    (act_ready inside.life.state actors bench c.args.steps.now asked c.requires.fit c.show_sound.ensures.fit ready)))

pub returns-in_err-answer-clause-cut : goal.returns-in_err-answer-clause-cut
returns-in_err-answer-clause-cut c =
    let inside = c.self.inside in
    let asked = bare_act (λ bytes. bytes.now) c.args.act.now in
    on_err c.from_residual.result (rw (← c.self.view_is)
    (cut_on_core (the_view inside) c.in-Some.bench c.args.steps.now asked c.act.new.self (actors_view c.act.new.watcher) c.in-Some.is c.in_err-answer.ensures.cut))
