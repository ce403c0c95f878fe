use Rattle.std.proofs.Common.{ap, ◌∙◌}
use Rattle.link_words.specs.declared.rule.View.{View}
use Rattle.link_words.specs.Layouts.{place_in}
use Rattle.link_words.specs.Steps.{HasWord}
use Rattle.link_words.specs.Words.{entry_number}
use Rattle.split_ring.proofs.AloneSteps.{may_load_entry, entry_done}
use Rattle.split_ring.proofs.links.SharedLink.load_entry.Goals as goal

pub load_entry-requires-clause-call : goal.load_entry-requires-clause-call
load_entry-requires-clause-call g c = may_load_entry c.args.number c.args.seat.now.me c.args.seat.now.me c.requires.seat.order c.args.ring c.args.lane c.args.count c.requires.call

pub returns-clause-seat : goal.returns-clause-seat
returns-clause-seat g c =
    let me = c.args.seat.now.me in let me' = c.load_entry.new.seat.me in
    let all = entry_done g.row.D.coded g.D.Desk.meaning c.args.number me me' c.requires.seat.order c.args.ring c.load_entry.result c.args.lane c.args.count (HasWord (place_in (entry_number c.args.self.now.sizes c.args.lane c.args.ring c.args.count)) c.load_entry.result) c.requires.call c.load_entry.ensures.told c.load_entry.ensures.step in
    record { at_table = c.load_entry.ensures.same.0 ∙ c.requires.seat.at_table; told = ap (λ (v : View). v.sizes) all.2.leaves.view ∙ c.requires.seat.told; order = c.load_entry.ensures.order }

pub returns-clause-told : goal.returns-clause-told
returns-clause-told g c =
    let me = c.args.seat.now.me in let me' = c.load_entry.new.seat.me in
    (entry_done g.row.D.coded g.D.Desk.meaning c.args.number me me' c.requires.seat.order c.args.ring c.load_entry.result c.args.lane c.args.count (HasWord (place_in (entry_number c.args.self.now.sizes c.args.lane c.args.ring c.args.count)) c.load_entry.result) c.requires.call c.load_entry.ensures.told c.load_entry.ensures.step).0

pub returns-clause-step : goal.returns-clause-step
returns-clause-step g c =
    let me = c.args.seat.now.me in let me' = c.load_entry.new.seat.me in
    (entry_done g.row.D.coded g.D.Desk.meaning c.args.number me me' c.requires.seat.order c.args.ring c.load_entry.result c.args.lane c.args.count (HasWord (place_in (entry_number c.args.self.now.sizes c.args.lane c.args.ring c.args.count)) c.load_entry.result) c.requires.call c.load_entry.ensures.told c.load_entry.ensures.step).1

pub returns-clause-alone : goal.returns-clause-alone
returns-clause-alone g c =
    let me = c.args.seat.now.me in let me' = c.load_entry.new.seat.me in
    (entry_done g.row.D.coded g.D.Desk.meaning c.args.number me me' c.requires.seat.order c.args.ring c.load_entry.result c.args.lane c.args.count (HasWord (place_in (entry_number c.args.self.now.sizes c.args.lane c.args.ring c.args.count)) c.load_entry.result) c.requires.call c.load_entry.ensures.told c.load_entry.ensures.step).2
