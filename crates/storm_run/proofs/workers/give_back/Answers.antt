use Rattle.std.proofs.Common.{[], ◌∷◌, sym, ap, ◌∙◌}
use Rattle.lane_model.specs.HeldBuffers.{HeldBuffer}
use Rattle.storm_run.proofs.Moves.{none_sent, sent_then, gave}
use Rattle.storm_run.proofs.workers.give_back.Goals as goal

pub loop-init : goal.loop-init
loop-init g c = record { rests = c.requires.caller; holds = c.requires.held; alone = c.requires.alone; sent = none_sent c.args.caller.now }

pub returns-in-Ok-clause-sent : goal.returns-in-Ok-clause-sent
returns-in-Ok-clause-sent g c =
    sent_then [] [] c.args.caller.now c.loop.caller c.try_give.new.caller c.loop.invariant.sent (gave _ _ c.loop.held c.try_give.result c.loop.caller c.try_give.new.caller c.try_give.ensures.caller.0 c.try_give.ensures.walk)

pub loop-preserved : goal.loop-preserved
loop-preserved g c = record {
  rests = c.try_give.ensures.caller.1;
  holds = c.in-Err.ensures.held;
  alone = c.in-Err.ensures.walk.done.in_hand ∙ (c.loop.invariant.alone ∙ ap (λ (held : HeldBuffer). held.number ∷ []) (sym c.in-Err.ensures.walk.is.1));
  sent = sent_then [] [] c.args.caller.now c.loop.caller c.try_give.new.caller c.loop.invariant.sent (gave _ _ c.loop.held c.try_give.result c.loop.caller c.try_give.new.caller c.try_give.ensures.caller.0 c.try_give.ensures.walk);
}
