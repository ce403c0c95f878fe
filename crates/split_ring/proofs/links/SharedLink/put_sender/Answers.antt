use Rattle.lane_model.specs.declared.recoveries.LaneTurn.TheVariants as lane_turn
use Rattle.link_words.specs.declared.rule.Slot.TheVariants.{Sender}
use Rattle.split_ring.proofs.ManagerSteps.{frees_from}
use Rattle.split_ring.proofs.Gathering.{leave_sender, put_sender_is}
use Rattle.split_ring.proofs.links.SharedLink.put_sender.Goals as goal

pub leave_for_manager-requires-clause-manager : goal.leave_for_manager-requires-clause-manager
leave_for_manager-requires-clause-manager g c =
    let q = c.requires.manager in
    leave_sender c.args.lane q.0 q.1 q.2 q.3 c.args.side c.sender_slot.result c.args.seat.now.me c.exchange.new.seat.me q.4 q.5 c.sender_slot.ensures c.exchange.ensures.3

pub returns-clause-put : goal.returns-clause-put
returns-clause-put g c = put_sender_is c.args.lane c.sender_slot.result (Sender c.args.side) c.args.seat.now.me c.exchange.new.seat.me c.leave_for_manager.new.manager.me c.exchange.ensures.3 c.leave_for_manager.ensures.told

pub returns-clause-step : goal.returns-clause-step
returns-clause-step g c = frees_from g.row.D.coded g.D.Desk.meaning lane_turn.Sender c.args.lane _ c.args.seat.now.me c.exchange.new.seat.me c.leave_for_manager.new.manager.me c.exchange.ensures.3 c.leave_for_manager.ensures.step
