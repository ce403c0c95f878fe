use Rattle.std.proofs.Common.{◌∷◌, ap}
use Rattle.link_words.specs.declared.rule.LaneSides.{LaneSides}
use Rattle.link_words.specs.declared.rule.Slot.TheVariants.{Empty}
use Rattle.link_words.specs.Words.{sender_slot}
use Rattle.split_ring.proofs.Gathering.{sender_left, puts_both}
use Rattle.split_ring.proofs.StateSteps.{leaves_lane}
use Rattle.split_ring.proofs.links.SharedLink.put_lane.Goals as goal

pub put_receiver-requires-clause-manager : goal.put_receiver-requires-clause-manager
put_receiver-requires-clause-manager g c = let q = c.requires.manager in
    (q.0, q.1, q.2, (sender_slot c.args.lane, Empty) ∷ q.3, q.4, ap (λ (s : LaneSides). s.receiver) q.5)

pub put_sender-requires-clause-manager : goal.put_sender-requires-clause-manager
put_sender-requires-clause-manager g c = let q = c.requires.manager in
    sender_left c.args.lane c.args.states.sender c.args.states.receiver c.args.seat.now.me c.put_receiver.new.seat.me q.0 q.1 q.2 q.3 q.4 q.5 c.put_receiver.ensures.put

pub returns-clause-put : goal.returns-clause-put
returns-clause-put g c = puts_both c.args.lane c.args.seat.now.me c.put_receiver.new.seat.me c.put_sender.new.seat.me c.put_receiver.ensures.put c.put_sender.ensures.put

pub returns-clause-state : goal.returns-clause-state
returns-clause-state g c = λ m knows. let q = c.requires.manager in
    leaves_lane g.row.D.coded g.D.Desk.meaning c.args.lane q.0 q.1 q.2 q.3 c.args.seat.now.me c.put_receiver.new.seat.me c.put_sender.new.seat.me m q.4 c.put_receiver.ensures.put c.put_receiver.ensures.step c.put_sender.ensures.put c.put_sender.ensures.step knows
