use Rattle.std.proofs.Common.{sym, ◌∙◌}
use Rattle.split_ring.proofs.CloseSteps.{closed_now, closed_already}
use Rattle.split_ring.proofs.links.SharedLink.close_once.Goals as goal

pub returns-then-is_live_in-clause-closed : goal.returns-then-is_live_in-clause-closed
returns-then-is_live_in-clause-closed g c =
    closed_now g.row.D.coded g.D.Desk.meaning c.args.closer c.args.inc c.close_era.result c.args.seat.now.me c.close_era.new.seat.me c.era_of-found.result c.close_era.ensures.told c.era_of-found.ensures c.close_era.ensures.step
    (sym c.is_live_in.ensures ∙ c.if-is_live_in.true)

pub returns-else-is_live_in-clause-closed : goal.returns-else-is_live_in-clause-closed
returns-else-is_live_in-clause-closed g c =
    closed_already g.row.D.coded g.D.Desk.meaning c.args.closer c.args.inc c.close_era.result c.args.seat.now.me c.close_era.new.seat.me c.era_of-found.result c.close_era.ensures.told c.era_of-found.ensures c.close_era.ensures.step
    (sym c.is_live_in.ensures ∙ c.if-is_live_in.false)
