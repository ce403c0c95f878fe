use Rattle.std.proofs.Common.{subst₂}
use Rattle.split_ring.specs.declared.callers.Caller.{Caller}
use Rattle.storm_run.specs.Rounds.{HasWorked}
use Rattle.storm_run.specs.Tasks.{least_in}
use denote.Param.Send.{sendable}
use Rattle.std.proofs.Crossing.{crosses}
use Rattle.channel_bus.proofs.sides.Side.TheSendSync as side
use Rattle.split_ring.proofs.Crosses.{caller_send, link_sync}
use Rattle.storm_run.proofs.rounds.work_all.Goals as goal

pub for_each_mut-requires-sync-F : goal.for_each_mut-requires-sync-F
for_each_mut-requires-sync-F g c = λ κs below. let s = side.the_send in let r = c.type_bounds.sync-R in let t = c.type_bounds.sync-G in search (sendable, crosses, link_sync) depth 20

pub for_each_mut-requires-send-T : goal.for_each_mut-requires-send-T
for_each_mut-requires-send-T g c = λ κs below. search (sendable, crosses, caller_send)

pub returns : goal.returns
returns g c = λ i d below.
    let changed = (c.for_each_mut.ensures i d below).1 in
    subst₂ (λ (a b : Caller). HasWorked c.args.link.now c.args.task.count (least_in c.args.task a.id.end) a b) changed.argument_is changed.left changed.call
