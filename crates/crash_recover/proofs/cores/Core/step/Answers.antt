use Rattle.std.proofs.Common.{Option, IfSome, sym, subst, ◌∙◌}
use Rattle.link_bench.specs.declared.acts.ActAnswer.{ActAnswer}
use Rattle.link_bench.specs.Acts.{HoldsAnswerTaken}
use Rattle.link_bench.specs.Benches.{BenchState, link_in}
use Rattle.crash_recover.proofs.CoreActs.{reaches_so, reaches_some, step_answers}
use Rattle.crash_recover.proofs.cores.Core.step.Goals as goal

pub unreachable-requires : goal.unreachable-requires
unreachable-requires c =
    let has = step_answers c.args.self.now c.args.caller c.requires (sym c.step_fault.ensures.fault ∙ c.in_default.is) in
    reaches_some _ c.args.caller has c.in_ok-reach.field-0 c.in_ok-reach.ensures.reach c.in-None.is

pub returns-clause-reach : goal.returns-clause-reach
returns-clause-reach c =
    let has = step_answers c.args.self.now c.args.caller c.requires (sym c.step_fault.ensures.fault ∙ c.in_default.is) in
    reaches_so _ c.args.caller has c.in_ok-reach.field-0 c.in_ok-reach.ensures.reach c.in-Some-2.reach c.in-Some-2.is

pub returns-clause-taken : goal.returns-clause-taken
returns-clause-taken c =
    let has = step_answers c.args.self.now c.args.caller c.requires (sym c.step_fault.ensures.fault ∙ c.in_default.is) in
    subst (λ (found : Option ActAnswer). IfSome found (λ (told : ActAnswer). IfSome c.act_step.new.self.bench (λ (bench : BenchState). HoldsAnswerTaken (link_in bench) told)))
    (reaches_so _ c.args.caller has c.in_ok-reach.field-0 c.in_ok-reach.ensures.reach c.in-Some-2.reach c.in-Some-2.is) c.in_ok-reach.ensures.taken
