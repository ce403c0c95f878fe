use Rattle.std.proofs.Common.{◌∙◌}
use Rattle.link_threads.proofs.Takes.{grown_then}
use Rattle.link_threads.proofs.users.give_back.Goals as goal

pub returns-in-Ok-clause-grown : goal.returns-in-Ok-clause-grown
returns-in-Ok-clause-grown g c =
    grown_then c.args.caller.now c.loop.caller c.try_give.new.caller c.try_give.ensures.walk.walk c.loop.invariant.grown c.try_give.ensures.walk.done.own

pub loop-preserved : goal.loop-preserved
loop-preserved g c = record {
  after = (c.try_give.ensures.caller.0 ∙ c.loop.invariant.after.0, c.try_give.ensures.caller.1);
  holds = c.in-Err.ensures.held;
  grown = grown_then c.args.caller.now c.loop.caller c.try_give.new.caller c.try_give.ensures.walk.walk c.loop.invariant.grown c.try_give.ensures.walk.done.own;
}
