use Rattle.std.proofs.Common.{subst}
use Rattle.lane_model.specs.declared.calls.Progress.{Progress}
use Rattle.split_ring.specs.Carried.{CarriesOn}
use Rattle.link_threads.proofs.carried.finish.Goals as goal

pub loop-init : goal.loop-init
loop-init c = (c.requires.manager, c.requires.call, λ who p differs carries. carries)

pub advance_by-requires-clause-manager : goal.advance_by-requires-clause-manager
advance_by-requires-clause-manager c = c.loop.invariant.0

pub advance_by-requires-clause-call : goal.advance_by-requires-clause-call
advance_by-requires-clause-call c = c.loop.invariant.1

pub returns-in-Done-clause-others : goal.returns-in-Done-clause-others
returns-in-Done-clause-others c = λ who p differs carries. (c.advance_by.ensures.others who p differs (c.loop.invariant.2 who p differs carries)).0

pub loop-preserved : goal.loop-preserved
loop-preserved c =
    let end = c.loop.invariant.1.0 in let before = c.loop.invariant.1.1 in
    let on = subst (λ (said : Progress). CarriesOn c.args.link.now c.advance_by.new.manager (record { number = c.args.caller; end = end; follows = 1 }) c.advance_by.new.call.phase said) c.in-At.is (c.advance_by.ensures.call end before.user) in (
      c.advance_by.ensures.manager.0,
      (end, on.0, on.1),
      λ who p differs carries. (c.advance_by.ensures.others who p differs (c.loop.invariant.2 who p differs carries)).0,
    )

pub returns-clause-manager : goal.returns-clause-manager
returns-clause-manager c = c.loop.invariant.0

pub returns-clause-others : goal.returns-clause-others
returns-clause-others c = c.loop.invariant.2
