use Rattle.std.proofs.Common.{[], ap, ◌∙◌, Err}
use Rattle.split_ring.specs.declared.takes.TakeFault.{TakeFault}
use Rattle.storm_run.proofs.Moves.{sent_then, took, found_empty}
use Rattle.storm_run.proofs.workers.take_next.Goals as goal

pub returns-in-Ok-clause-turned : goal.returns-in-Ok-clause-turned
returns-in-Ok-clause-turned g c = record {
  sent = sent_then [] [] c.args.caller.now c.take.new.caller c.give_back.new.caller (took _ _ c.take.result c.args.caller.now c.take.new.caller c.take.ensures.caller.0 c.take.ensures.walks) c.give_back.ensures.sent;
  found = tt;
}

pub returns-in-Err-Empty-clause-turned : goal.returns-in-Err-Empty-clause-turned
returns-in-Err-Empty-clause-turned g c = found_empty _ _ c.in-Err-Empty.accepted (Err c.in-Err-Empty.field-0) c.args.caller.now c.take.new.caller (ap (λ (f : TakeFault). Err f) c.in-Err-Empty.field-0-is) c.take.ensures.caller.0 c.in-Err-Empty.ensures.walks

pub returns-in-Err-Dead : goal.returns-in-Err-Dead
returns-in-Err-Dead g c = record {
  free = record { rests = c.take.ensures.caller.1; holds_nothing = c.in-Err-Dead.ensures.walks.done.in_hand ∙ c.requires.holds_nothing };
  turned = record { sent = took _ _ c.take.result c.args.caller.now c.take.new.caller c.take.ensures.caller.0 c.take.ensures.walks; found = tt };
}
