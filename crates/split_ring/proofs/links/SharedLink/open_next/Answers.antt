use Rattle.std.proofs.Common.{ℕ, List, [], length, refl, sym, ap, ◌∙◌}
use Rattle.link_words.specs.Calls.{SeatState}
use Rattle.link_words.specs.Deeds.{Opens, after_deed}
use Rattle.link_words.specs.Fresh.{fresh_of}
use Rattle.link_words.specs.Reopens.{both_sides, opened_sides, books_by}
use Rattle.link_words.specs.Sides.{sides_at}
use Rattle.split_ring.specs.Reopens.{all_slots, next_view}
use Rattle.split_ring.proofs.Reopened.{carried_on, known_opened, still_known}
use Rattle.split_ring.proofs.Reopening.{may_begin, has_begun, was_reset, may_open, has_opened, has_next}
use Rattle.split_ring.proofs.links.SharedLink.open_next.Goals as goal

pub begin_reopening-requires-clause-manager : goal.begin_reopening-requires-clause-manager
begin_reopening-requires-clause-manager g c = let q = c.requires.manager in
    may_begin q.0 c.args.host.sender c.args.remote.sender c.args.host.receiver c.args.remote.receiver c.args.seat.now.me q.1 c.requires.none.0 c.requires.none.1

pub reset_words-requires-clause-manager : goal.reset_words-requires-clause-manager
reset_words-requires-clause-manager g c =
    let q = c.requires.manager in let x = c.args.host.sender in let y = c.args.host.receiver in let u = c.args.remote.sender in let w = c.args.remote.receiver in let me = c.args.seat.now.me in let me1 = c.begin_reopening.new.manager.me in
    let closed = ap (λ (s : SeatState). s.0.is_closed) q.1.is ∙ q.3 in
    (q.0, q.0.inc, both_sides x y, both_sides u w, all_slots, (has_begun q.0 x u y w c.begin_reopening.result me me1 q.1 closed c.begin_reopening.ensures.told).0)

pub open_era-requires-clause-manager : goal.open_era-requires-clause-manager
open_era-requires-clause-manager g c =
    let q = c.requires.manager in let x = c.args.host.sender in let y = c.args.host.receiver in let u = c.args.remote.sender in let w = c.args.remote.receiver in let me = c.args.seat.now.me in let me1 = c.begin_reopening.new.manager.me in let me2 = c.reset_words.new.seat.me in
    let closed = ap (λ (s : SeatState). s.0.is_closed) q.1.is ∙ q.3 in let z = c.args.self.now.sizes in
    may_open z q.0 c.args.inc x u y w all_slots me2 (was_reset z q.0 c.args.inc c.begin_reopening.result x u y w me me1 me2 q.1 closed (sym q.2) c.begin_reopening.ensures.told c.reset_words.ensures.all) c.reset_words.ensures.seat.told c.requires.none.2

pub next_states-next_host-requires-clause-right : goal.next_states-next_host-requires-clause-right
next_states-next_host-requires-clause-right g c =
    let x = c.args.host.sender in let y = c.args.host.receiver in let u = c.args.remote.sender in let w = c.args.remote.receiver in let me = c.args.seat.now.me in let me1 = c.begin_reopening.new.manager.me in let me2 = c.reset_words.new.seat.me in let me3 = c.open_era.new.manager.me in let z = c.args.self.now.sizes in let inc = c.args.inc in let coded = g.row.D.coded in let meaning = g.D.Desk.meaning in
    let closed = ap (λ (s : SeatState). s.0.is_closed) c.requires.manager.1.is ∙ c.requires.manager.3 in
    let v = c.requires.manager.0 in let all = c.requires.manager.1 in let same = sym c.requires.manager.2 in
    let reset = was_reset z v inc c.begin_reopening.result x u y w me me1 me2 all closed same c.begin_reopening.ensures.told c.reset_words.ensures.all in
    let o = has_opened coded meaning z v (length (fresh_of z)) inc x u y w all_slots me2 me3 c.reset_words.ensures.seat.told reset c.open_era.ensures.told in
    o.2.table

pub next_states-next_remote-requires-clause-right : goal.next_states-next_remote-requires-clause-right
next_states-next_remote-requires-clause-right g c =
    let x = c.args.host.sender in let y = c.args.host.receiver in let u = c.args.remote.sender in let w = c.args.remote.receiver in let me = c.args.seat.now.me in let me1 = c.begin_reopening.new.manager.me in let me2 = c.reset_words.new.seat.me in let me3 = c.open_era.new.manager.me in let z = c.args.self.now.sizes in let inc = c.args.inc in let coded = g.row.D.coded in let meaning = g.D.Desk.meaning in
    let closed = ap (λ (s : SeatState). s.0.is_closed) c.requires.manager.1.is ∙ c.requires.manager.3 in
    let v = c.requires.manager.0 in let all = c.requires.manager.1 in let same = sym c.requires.manager.2 in
    let reset = was_reset z v inc c.begin_reopening.result x u y w me me1 me2 all closed same c.begin_reopening.ensures.told c.reset_words.ensures.all in
    let o = has_opened coded meaning z v (length (fresh_of z)) inc x u y w all_slots me2 me3 c.reset_words.ensures.seat.told reset c.open_era.ensures.told in
    o.3.table

pub put_lanes-requires-clause-manager : goal.put_lanes-requires-clause-manager
put_lanes-requires-clause-manager g c =
    let x = c.args.host.sender in let y = c.args.host.receiver in let u = c.args.remote.sender in let w = c.args.remote.receiver in let me = c.args.seat.now.me in let me1 = c.begin_reopening.new.manager.me in let me2 = c.reset_words.new.seat.me in let me3 = c.open_era.new.manager.me in let z = c.args.self.now.sizes in let inc = c.args.inc in let coded = g.row.D.coded in let meaning = g.D.Desk.meaning in
    let closed = ap (λ (s : SeatState). s.0.is_closed) c.requires.manager.1.is ∙ c.requires.manager.3 in
    let v = c.requires.manager.0 in let all = c.requires.manager.1 in let same = sym c.requires.manager.2 in
    let reset = was_reset z v inc c.begin_reopening.result x u y w me me1 me2 all closed same c.begin_reopening.ensures.told c.reset_words.ensures.all in
    let o = has_opened coded meaning z v (length (fresh_of z)) inc x u y w all_slots me2 me3 c.reset_words.ensures.seat.told reset c.open_era.ensures.told in
    let h = c.next_states-next_host in let r = c.next_states-next_remote in (
      next_view v,
      [],
      has_next (next_view v) z.book (record y.desk { code = coded.code (meaning.fresh o.0) }) (record w.desk { code = coded.code (meaning.fresh o.1) }) h.result.0.sender r.result.0.sender h.result.0.receiver r.result.0.receiver me3 o.4
          (h.ensures.sender ∙ c.requires.host.0) (h.ensures.receiver o.0 o.2.code) (r.ensures.sender ∙ c.requires.remote.0) (r.ensures.receiver o.1 o.3.code),
    )

pub returns-clause-next : goal.returns-clause-next
returns-clause-next g c = λ v all same.
    let x = c.args.host.sender in let y = c.args.host.receiver in let u = c.args.remote.sender in let w = c.args.remote.receiver in let me = c.args.seat.now.me in let me1 = c.begin_reopening.new.manager.me in let me2 = c.reset_words.new.seat.me in let me3 = c.open_era.new.manager.me in let z = c.args.self.now.sizes in let inc = c.args.inc in let coded = g.row.D.coded in let meaning = g.D.Desk.meaning in
    let closed = ap (λ (s : SeatState). s.0.is_closed) c.requires.manager.1.is ∙ c.requires.manager.3 in
    let reset = was_reset z v inc c.begin_reopening.result x u y w me me1 me2 all closed same c.begin_reopening.ensures.told c.reset_words.ensures.all in
    let o = has_opened coded meaning z v (length (fresh_of z)) inc x u y w all_slots me2 me3 c.reset_words.ensures.seat.told reset c.open_era.ensures.told in
    c.put_lanes.ensures.put (next_view v) (opened_sides z.book (record y.desk { code = coded.code (meaning.fresh o.0) })) (opened_sides z.book (record w.desk { code = coded.code (meaning.fresh o.1) })) [] o.4

pub returns-clause-told : goal.returns-clause-told
returns-clause-told g c = let h = c.next_states-next_host.ensures.closed in let r = c.next_states-next_remote.ensures.closed in record {
  to_host = h.0;
  to_host_takers = h.1;
  to_host_handed = c.count.ensures ∙ ap (λ (l : List ℕ). length l) h.1;
  to_remote = r.0;
  to_remote_takers = r.1;
  to_remote_handed = c.count-2.ensures ∙ ap (λ (l : List ℕ). length l) r.1;
}

pub returns-clause-books : goal.returns-clause-books
returns-clause-books g c = λ v all same shut.
    let x = c.args.host.sender in let y = c.args.host.receiver in let u = c.args.remote.sender in let w = c.args.remote.receiver in let me = c.args.seat.now.me in let me1 = c.begin_reopening.new.manager.me in
    let closed = ap (λ (s : SeatState). s.0.is_closed) c.requires.manager.1.is ∙ c.requires.manager.3 in (
      (λ e. books_by (sides_at e (both_sides x y) (both_sides u w))),
      (has_begun v x u y w c.begin_reopening.result me me1 all closed c.begin_reopening.ensures.told).1,
      returns-clause-told g c,
    )

pub returns-clause-state : goal.returns-clause-state
returns-clause-state g c = λ m knows.
    let x = c.args.host.sender in let y = c.args.host.receiver in let u = c.args.remote.sender in let w = c.args.remote.receiver in let me = c.args.seat.now.me in let me1 = c.begin_reopening.new.manager.me in let me2 = c.reset_words.new.seat.me in let me3 = c.open_era.new.manager.me in let z = c.args.self.now.sizes in let inc = c.args.inc in let coded = g.row.D.coded in let meaning = g.D.Desk.meaning in
    let v = c.requires.manager.0 in let all = c.requires.manager.1 in let same = sym c.requires.manager.2 in
    let closed = ap (λ (s : SeatState). s.0.is_closed) all.is ∙ c.requires.manager.3 in
    let begun = (has_begun v x u y w c.begin_reopening.result me me1 all closed c.begin_reopening.ensures.told).0 in
    let reset = was_reset z v inc c.begin_reopening.result x u y w me me1 me2 all closed same c.begin_reopening.ensures.told c.reset_words.ensures.all in
    let o = has_opened coded meaning z v (length (fresh_of z)) inc x u y w all_slots me2 me3 c.reset_words.ensures.seat.told reset c.open_era.ensures.told in
    let known1 = still_known coded me me1 m c.begin_reopening.ensures.copy (carried_on v v _ _ all_slots all_slots me me1 refl refl all begun) knows in
    let known3 = known_opened coded meaning me2 me3 m c.open_era.ensures.step (carried_on v (next_view v) _ _ all_slots all_slots me2 me3 refl refl reset o.4) (c.reset_words.ensures.state m known1) in
    c.put_lanes.ensures.state (after_deed meaning m Opens) known3
