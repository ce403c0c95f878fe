use Rattle.std.proofs.Common.{ap, ◌∙◌, ◌%◌}
use Rattle.link_words.specs.declared.rule.View.{View}
use Rattle.link_words.specs.Layouts.{place_in}
use Rattle.link_words.specs.Steps.{StoresWord, ring_index}
use Rattle.split_ring.proofs.AloneSteps.{may_publish, published_done}
use Rattle.split_ring.proofs.links.SharedLink.publish_index.Goals as goal

pub publish_index-requires-clause-call : goal.publish_index-requires-clause-call
publish_index-requires-clause-call g c = may_publish c.args.number c.args.seat.now.me c.args.seat.now.me c.requires.seat.order c.args.ring c.args.lane c.args.count c.requires.call

pub returns-clause-seat : goal.returns-clause-seat
returns-clause-seat g c =
    let me = c.args.seat.now.me in let me' = c.publish_index.new.seat.me in
    let all = published_done g.row.D.coded g.D.Desk.meaning c.args.number me me' c.requires.seat.order c.args.ring c.args.lane c.args.count (StoresWord (place_in (ring_index c.args.ring c.args.lane)) (c.args.count % 65536)) c.requires.call c.publish_index.ensures.told c.publish_index.ensures.step in
    record { at_table = c.publish_index.ensures.same.0 ∙ c.requires.seat.at_table; told = ap (λ (v : View). v.sizes) all.2.leaves.view ∙ c.requires.seat.told; order = c.publish_index.ensures.order }

pub returns-clause-told : goal.returns-clause-told
returns-clause-told g c =
    let me = c.args.seat.now.me in let me' = c.publish_index.new.seat.me in
    (published_done g.row.D.coded g.D.Desk.meaning c.args.number me me' c.requires.seat.order c.args.ring c.args.lane c.args.count (StoresWord (place_in (ring_index c.args.ring c.args.lane)) (c.args.count % 65536)) c.requires.call c.publish_index.ensures.told c.publish_index.ensures.step).0

pub returns-clause-step : goal.returns-clause-step
returns-clause-step g c =
    let me = c.args.seat.now.me in let me' = c.publish_index.new.seat.me in
    (published_done g.row.D.coded g.D.Desk.meaning c.args.number me me' c.requires.seat.order c.args.ring c.args.lane c.args.count (StoresWord (place_in (ring_index c.args.ring c.args.lane)) (c.args.count % 65536)) c.requires.call c.publish_index.ensures.told c.publish_index.ensures.step).1

pub returns-clause-alone : goal.returns-clause-alone
returns-clause-alone g c =
    let me = c.args.seat.now.me in let me' = c.publish_index.new.seat.me in
    (published_done g.row.D.coded g.D.Desk.meaning c.args.number me me' c.requires.seat.order c.args.ring c.args.lane c.args.count (StoresWord (place_in (ring_index c.args.ring c.args.lane)) (c.args.count % 65536)) c.requires.call c.publish_index.ensures.told c.publish_index.ensures.step).2
