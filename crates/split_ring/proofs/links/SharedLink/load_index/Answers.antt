use Rattle.std.proofs.Common.{ap, ◌∙◌}
use Rattle.link_words.specs.declared.rule.View.{View}
use Rattle.link_words.specs.Layouts.{place_in}
use Rattle.link_words.specs.Steps.{HasWord, index_number}
use Rattle.split_ring.proofs.AloneSteps.{may_load_index, index_done}
use Rattle.split_ring.proofs.links.SharedLink.load_index.Goals as goal

pub load_index-requires-clause-call : goal.load_index-requires-clause-call
load_index-requires-clause-call g c = may_load_index c.args.number c.args.seat.now.me c.args.seat.now.me c.requires.seat.order c.args.index c.args.lane c.requires.call

pub returns-clause-seat : goal.returns-clause-seat
returns-clause-seat g c =
    let me = c.args.seat.now.me in let me' = c.load_index.new.seat.me in
    let all = index_done g.row.D.coded g.D.Desk.meaning c.args.number me me' c.requires.seat.order c.args.index c.load_index.result c.args.lane (HasWord (place_in (index_number c.args.index c.args.lane)) c.load_index.result) c.requires.call c.load_index.ensures.told c.load_index.ensures.step in
    record { at_table = c.load_index.ensures.same.0 ∙ c.requires.seat.at_table; told = ap (λ (v : View). v.sizes) all.2.leaves.view ∙ c.requires.seat.told; order = c.load_index.ensures.order }

pub returns-clause-told : goal.returns-clause-told
returns-clause-told g c =
    let me = c.args.seat.now.me in let me' = c.load_index.new.seat.me in
    (index_done g.row.D.coded g.D.Desk.meaning c.args.number me me' c.requires.seat.order c.args.index c.load_index.result c.args.lane (HasWord (place_in (index_number c.args.index c.args.lane)) c.load_index.result) c.requires.call c.load_index.ensures.told c.load_index.ensures.step).0

pub returns-clause-step : goal.returns-clause-step
returns-clause-step g c =
    let me = c.args.seat.now.me in let me' = c.load_index.new.seat.me in
    (index_done g.row.D.coded g.D.Desk.meaning c.args.number me me' c.requires.seat.order c.args.index c.load_index.result c.args.lane (HasWord (place_in (index_number c.args.index c.args.lane)) c.load_index.result) c.requires.call c.load_index.ensures.told c.load_index.ensures.step).1

pub returns-clause-alone : goal.returns-clause-alone
returns-clause-alone g c =
    let me = c.args.seat.now.me in let me' = c.load_index.new.seat.me in
    (index_done g.row.D.coded g.D.Desk.meaning c.args.number me me' c.requires.seat.order c.args.index c.load_index.result c.args.lane (HasWord (place_in (index_number c.args.index c.args.lane)) c.load_index.result) c.requires.call c.load_index.ensures.told c.load_index.ensures.step).2
