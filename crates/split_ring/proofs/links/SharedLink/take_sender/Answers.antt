use Rattle.std.proofs.Common.{◌≡◌, ◌+◌, ◌-◌, ◌∙◌, subst, sym, arith}
use Rattle.lane_model.specs.declared.recoveries.LaneTurn.TheVariants as lane_turn
use Rattle.link_words.specs.Calls.{SeatState}
use Rattle.link_words.specs.Orderly.{IsOrderly}
use Rattle.link_words.specs.Words.{other, sender_slot}
use Rattle.link_words.specs.declared.rule.Slot.TheVariants.{Sender}
use Rattle.split_ring.proofs.ManagerSteps.{finds_to}
use Rattle.split_ring.proofs.Gathering.{holder_in, sender_out, lent_at, took_sender, meets}
use Rattle.link_words.specs.Parts.{has_sender_for_manager}
use Rattle.link_words.specs.Reopens.{manager_call}
use Rattle.split_ring.proofs.links.SharedLink.take_sender.Goals as goal

pub exchange-requires : goal.exchange-requires
exchange-requires g c =
    let me = c.args.seat.now.me in let me1 = c.take_for_manager-found.new.manager.me in let x = sender_out c.args.lane c.take_for_manager-found.result me me1 c.if-found-eq0.true c.take_for_manager-found.ensures.told in
    (c.take_for_manager-found.ensures.same.0 ∙ c.requires.seat.at_table, (Sender x.0, lent_at (sender_slot c.args.lane) c.sender_slot.result (Sender x.0) me1.1 me.1 x.1 c.sender_slot.ensures))

pub returns-then-found-eq0-clause-taken : goal.returns-then-found-eq0-clause-taken
returns-then-found-eq0-clause-taken g c =
    let me = c.args.seat.now.me in let me1 = c.take_for_manager-found.new.manager.me in let me2 = c.exchange.new.seat.me in
    took_sender c.args.lane c.take_for_manager-found.result c.sender_slot.result c.exchange.result c.sender_of.result me me1 me2 c.if-found-eq0.true c.take_for_manager-found.ensures.told c.sender_slot.ensures c.exchange.ensures.2 c.exchange.ensures.3 c.sender_of.ensures

pub returns-else-found-eq0-clause-met : goal.returns-else-found-eq0-clause-met
returns-else-found-eq0-clause-met g c =
    let me = c.args.seat.now.me in let me1 = c.take_for_manager-found.new.manager.me in let n = c.take_for_manager-found.result in let busy = c.if-found-eq0.false in let is : n ≡ n - 1 + 1 = omega arith in
    meets g.row.D.coded g.D.Desk.meaning lane_turn.Sender c.args.lane n (n - 1) me me1 (c.take_for_manager-found.ensures.told.1 busy) is c.take_for_manager-found.ensures.step

pub returns-else-found-eq0-clause-holder : goal.returns-else-found-eq0-clause-holder
returns-else-found-eq0-clause-holder g c = let me = c.args.seat.now.me in
    holder_in me.0 (has_sender_for_manager c.args.lane (manager_call me)) (other c.args.lane) c.take_for_manager-found.result (c.take_for_manager-found.ensures.told.3 c.if-found-eq0.false)

pub returns-then-found-eq0-clause-step : goal.returns-then-found-eq0-clause-step
returns-then-found-eq0-clause-step g c =
    finds_to g.row.D.coded g.D.Desk.meaning lane_turn.Sender c.args.lane c.take_for_manager-found.result c.args.seat.now.me c.take_for_manager-found.new.manager.me c.exchange.new.seat.me _ c.if-found-eq0.true c.exchange.ensures.3 c.take_for_manager-found.ensures.step

pub returns-then-found-eq0-clause-order : goal.returns-then-found-eq0-clause-order
returns-then-found-eq0-clause-order g c = subst (λ (s : SeatState). IsOrderly s.0) (sym c.exchange.ensures.3) c.take_for_manager-found.ensures.order
