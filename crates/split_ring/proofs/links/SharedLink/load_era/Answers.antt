use Rattle.std.proofs.Common.{ap, ◌∙◌}
use Rattle.link_words.specs.declared.rule.View.{View}
use Rattle.link_words.specs.Steps.{HasWord}
use Rattle.split_ring.proofs.AloneSteps.{may_load_era, era_done}
use Rattle.split_ring.proofs.links.SharedLink.load_era.Goals as goal

pub load_era-requires-clause-call : goal.load_era-requires-clause-call
load_era-requires-clause-call g c = may_load_era c.args.number c.args.seat.now.me c.args.seat.now.me c.requires.seat.order c.args.era c.requires.call

pub returns-clause-seat : goal.returns-clause-seat
returns-clause-seat g c =
    let me = c.args.seat.now.me in let me' = c.load_era.new.seat.me in
    let all = era_done g.row.D.coded g.D.Desk.meaning c.args.number me me' c.requires.seat.order c.args.era c.load_era.result (HasWord 16 c.load_era.result) c.requires.call c.load_era.ensures.told c.load_era.ensures.step in
    record { at_table = c.load_era.ensures.same.0 ∙ c.requires.seat.at_table; told = ap (λ (v : View). v.sizes) all.2.leaves.view ∙ c.requires.seat.told; order = c.load_era.ensures.order }

pub returns-clause-told : goal.returns-clause-told
returns-clause-told g c =
    let me = c.args.seat.now.me in let me' = c.load_era.new.seat.me in
    (era_done g.row.D.coded g.D.Desk.meaning c.args.number me me' c.requires.seat.order c.args.era c.load_era.result (HasWord 16 c.load_era.result) c.requires.call c.load_era.ensures.told c.load_era.ensures.step).0

pub returns-clause-step : goal.returns-clause-step
returns-clause-step g c =
    let me = c.args.seat.now.me in let me' = c.load_era.new.seat.me in
    (era_done g.row.D.coded g.D.Desk.meaning c.args.number me me' c.requires.seat.order c.args.era c.load_era.result (HasWord 16 c.load_era.result) c.requires.call c.load_era.ensures.told c.load_era.ensures.step).1

pub returns-clause-alone : goal.returns-clause-alone
returns-clause-alone g c =
    let me = c.args.seat.now.me in let me' = c.load_era.new.seat.me in
    (era_done g.row.D.coded g.D.Desk.meaning c.args.number me me' c.requires.seat.order c.args.era c.load_era.result (HasWord 16 c.load_era.result) c.requires.call c.load_era.ensures.told c.load_era.ensures.step).2
