use Rattle.std.proofs.Common.{ap, ◌∙◌}
use Rattle.rp_base.specs.declared.kinds.Era.{Era}
use Rattle.split_ring.proofs.Reopened.{era_known}
use Rattle.split_ring.proofs.links.SharedLink.find_closed.Goals as goal

pub returns-then-era-clause-live : goal.returns-then-era-clause-live
returns-then-era-clause-live g c = λ m knows. let s = c.learn_era in
    let is = era_known g.row.D.coded g.D.Desk.meaning c.args.seat.now.me s.new.manager.me s.result c.era_of-era.result m s.ensures.told s.ensures.found c.era_of-era.ensures knows in (is, ap (λ (e : Era). e.is_live) is ∙ c.if-era.true)

pub returns-else-era-clause-shut : goal.returns-else-era-clause-shut
returns-else-era-clause-shut g c = λ m knows. let s = c.learn_era in let found = c.era_of-era.result in
    era_known g.row.D.coded g.D.Desk.meaning c.args.seat.now.me s.new.manager.me s.result found m s.ensures.told s.ensures.found c.era_of-era.ensures knows ∙ (λ i. record { inc = found.inc; is_live = c.if-era.false i })
