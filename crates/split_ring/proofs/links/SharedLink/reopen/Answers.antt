use Rattle.std.proofs.Common.{◌+◌, ◌<◌, ℕ, List, [], refl, sym, ap, ◌∙◌, subst, inl, inr, true, false}
use Rattle.link_words.specs.declared.rule.Slot.{Slot}
use Rattle.link_words.specs.declared.rule.View.{View}
use Rattle.link_words.specs.Reopens.{both_sides}
use Rattle.split_ring.specs.declared.callers.Manager.{Manager}
use Rattle.split_ring.specs.Reopens.{HasNoneBeside, next_view, refusal_from}
use Rattle.split_ring.proofs.CarriedMakes.{carrier_kept, keeps_same}
use Rattle.split_ring.proofs.Emptied.{all_alone, none_carried}
use Rattle.split_ring.proofs.Reopening.{none_seat, refused_is, rests_looked}
use Rattle.rp_base.specs.declared.kinds.End.TheVariants as side
use Rattle.link_words.specs.Calls.{SeatState}
use Rattle.split_ring.proofs.Gathering.{holder_by, in_use_by}
use Rattle.rp_base.specs.declared.kinds.Era.{Era}
use Rattle.lane_model.specs.declared.lane_links.LaneLink.{LaneLink}
use Rattle.ring_core.specs.declared.states.RingState.{RingState}
use Rattle.link_words.specs.PlacedLinks.{KnowsState}
use Rattle.split_ring.specs.States.{all_taken}
use Rattle.split_ring.proofs.StateSteps.{all_again}
use Rattle.split_ring.proofs.Reopened.{told_books, unopened_is, unopened_live, unopened_turn}
use Rattle.split_ring.proofs.links.SharedLink.reopen.Goals as goal

pub returns-in-Err-find_closed-clause-manager : goal.returns-in-Err-find_closed-clause-manager
returns-in-Err-find_closed-clause-manager g c =
    let q = c.requires in let me = c.args.manager.now.seat.me in let me1 = c.find_closed.new.seat.me in
    let after : Manager = record { seat = c.find_closed.new.seat; users = c.args.manager.now.users; out = c.args.manager.now.out } in
    (carrier_kept c.args.self.now c.args.manager.now after (record me.0 { is_closed = false }) c.in-Err-find_closed.ensures.open.1 refl refl refl refl refl c.find_closed.ensures.seat.at_table c.find_closed.ensures.order q, refl)

pub returns-in-Err-find_closed-clause-others : goal.returns-in-Err-find_closed-clause-others
returns-in-Err-find_closed-clause-others g c =
    let q = c.requires in let me = c.args.manager.now.seat.me in let me1 = c.find_closed.new.seat.me in
    let after : Manager = record { seat = c.find_closed.new.seat; users = c.args.manager.now.users; out = c.args.manager.now.out } in
    keeps_same c.args.self.now c.args.manager.now after (record me.0 { is_closed = false }) c.in-Err-find_closed.ensures.open.1 refl refl refl

pub take_lanes-requires-clause-manager : goal.take_lanes-requires-clause-manager
take_lanes-requires-clause-manager g c =
    let q = c.requires in let me = c.args.manager.now.seat.me in let me1 = c.find_closed.new.seat.me in let v : View = record me.0 { is_closed = true } in let closed = c.in-Ok-find_closed.ensures.closed in (v, (me.1, rests_looked me me1 true q.rests closed.2))

pub returns-in-Err-take_lanes-clause-manager : goal.returns-in-Err-take_lanes-clause-manager
returns-in-Err-take_lanes-clause-manager g c =
    let q = c.requires in let me = c.args.manager.now.seat.me in let me1 = c.find_closed.new.seat.me in let v : View = record me.0 { is_closed = true } in let closed = c.in-Ok-find_closed.ensures.closed in
    let none = rests_looked me me1 true q.rests closed.2 in let same = none_seat me v me.1 c.take_lanes.new.seat.me q.rests refl (c.in-Err-take_lanes.ensures.met.0 v me.1 none) in
    let after : Manager = record { seat = c.take_lanes.new.seat; users = c.args.manager.now.users; out = c.args.manager.now.out } in
    (carrier_kept c.args.self.now c.args.manager.now after (record v { copy = c.take_lanes.new.seat.me.0.copy }) same refl refl refl refl refl c.take_lanes.ensures.seat.at_table c.take_lanes.ensures.order q, refl)

pub returns-in-Err-take_lanes-clause-others : goal.returns-in-Err-take_lanes-clause-others
returns-in-Err-take_lanes-clause-others g c =
    let q = c.requires in let me = c.args.manager.now.seat.me in let me1 = c.find_closed.new.seat.me in let v : View = record me.0 { is_closed = true } in let closed = c.in-Ok-find_closed.ensures.closed in
    let none = rests_looked me me1 true q.rests closed.2 in let same = none_seat me v me.1 c.take_lanes.new.seat.me q.rests refl (c.in-Err-take_lanes.ensures.met.0 v me.1 none) in
    let after : Manager = record { seat = c.take_lanes.new.seat; users = c.args.manager.now.users; out = c.args.manager.now.out } in
    keeps_same c.args.self.now c.args.manager.now after (record v { copy = c.take_lanes.new.seat.me.0.copy }) same refl refl refl

pub returns-in-Err-take_lanes-clause-answer : goal.returns-in-Err-take_lanes-clause-answer
returns-in-Err-take_lanes-clause-answer g c =
    let q = c.requires in let me = c.args.manager.now.seat.me in let me1 = c.find_closed.new.seat.me in let v : View = record me.0 { is_closed = true } in let closed = c.in-Ok-find_closed.ensures.closed in
    let none = rests_looked me me1 true q.rests closed.2 in
    let met = c.in-Err-take_lanes.ensures.met in (
      me1,
      (me.1, none),
      met.1,
      ap (λ (s : SeatState). s.0) (none_seat me v me.1 c.take_lanes.new.seat.me q.rests refl (met.0 v me.1 none)),
      holder_by me.0 me1.0 c.in-Err-take_lanes.holder (ap (λ (s : SeatState). s.0.users) closed.2) c.in-Err-take_lanes.ensures.holder,
    )

pub put_lanes-requires-clause-manager : goal.put_lanes-requires-clause-manager
put_lanes-requires-clause-manager g c =
    let q = c.requires in let me = c.args.manager.now.seat.me in let me1 = c.find_closed.new.seat.me in let v : View = record me.0 { is_closed = true } in let closed = c.in-Ok-find_closed.ensures.closed in
    let none = rests_looked me me1 true q.rests closed.2 in (v, me.1, c.in-Ok-take_lanes.ensures.taken v me.1 none)

pub open_next-requires-clause-manager : goal.open_next-requires-clause-manager
open_next-requires-clause-manager g c =
    let q = c.requires in let me = c.args.manager.now.seat.me in let me1 = c.find_closed.new.seat.me in let v : View = record me.0 { is_closed = true } in let closed = c.in-Ok-find_closed.ensures.closed in
    let none = rests_looked me me1 true q.rests closed.2 in
    let taken = c.in-Ok-take_lanes.ensures.taken v me.1 none in let h = c.in-Ok-take_lanes.lanes.0 in let r = c.in-Ok-take_lanes.lanes.1 in let me2 = c.take_lanes.new.seat.me in
    let all = all_alone c.args.manager.now.out me v h.sender r.sender h.receiver r.receiver me2 q.blocks q.rests refl taken c.in-Ok-take_lanes.ensures.order in (v, all, closed.0, refl)

pub returns-in-Some-clause-manager : goal.returns-in-Some-clause-manager
returns-in-Some-clause-manager g c =
    let q = c.requires in let me = c.args.manager.now.seat.me in let me1 = c.find_closed.new.seat.me in let v : View = record me.0 { is_closed = true } in let closed = c.in-Ok-find_closed.ensures.closed in
    let none = rests_looked me me1 true q.rests closed.2 in
    let taken = c.in-Ok-take_lanes.ensures.taken v me.1 none in let h = c.in-Ok-take_lanes.lanes.0 in let r = c.in-Ok-take_lanes.lanes.1 in let me2 = c.take_lanes.new.seat.me in
    let left = c.put_lanes.ensures.put v (both_sides h.sender h.receiver) (both_sides r.sender r.receiver) me.1 taken in let same = none_seat me v me.1 c.put_lanes.new.seat.me q.rests refl left in
    let after : Manager = record { seat = c.put_lanes.new.seat; users = c.args.manager.now.users; out = c.args.manager.now.out } in
    (carrier_kept c.args.self.now c.args.manager.now after (record v { copy = c.put_lanes.new.seat.me.0.copy }) same refl refl refl refl refl c.put_lanes.ensures.seat.at_table c.put_lanes.ensures.order q, refl)

pub returns-in-Some-clause-others : goal.returns-in-Some-clause-others
returns-in-Some-clause-others g c =
    let q = c.requires in let me = c.args.manager.now.seat.me in let me1 = c.find_closed.new.seat.me in let v : View = record me.0 { is_closed = true } in let closed = c.in-Ok-find_closed.ensures.closed in
    let none = rests_looked me me1 true q.rests closed.2 in
    let taken = c.in-Ok-take_lanes.ensures.taken v me.1 none in let h = c.in-Ok-take_lanes.lanes.0 in let r = c.in-Ok-take_lanes.lanes.1 in let me2 = c.take_lanes.new.seat.me in
    let left = c.put_lanes.ensures.put v (both_sides h.sender h.receiver) (both_sides r.sender r.receiver) me.1 taken in let same = none_seat me v me.1 c.put_lanes.new.seat.me q.rests refl left in
    let after : Manager = record { seat = c.put_lanes.new.seat; users = c.args.manager.now.users; out = c.args.manager.now.out } in
    keeps_same c.args.self.now c.args.manager.now after (record v { copy = c.put_lanes.new.seat.me.0.copy }) same refl refl refl

pub returns-in-Some-clause-answer : goal.returns-in-Some-clause-answer
returns-in-Some-clause-answer g c =
    let q = c.requires in let me = c.args.manager.now.seat.me in let me1 = c.find_closed.new.seat.me in let v : View = record me.0 { is_closed = true } in let closed = c.in-Ok-find_closed.ensures.closed in
    let none = rests_looked me me1 true q.rests closed.2 in
    let taken = c.in-Ok-take_lanes.ensures.taken v me.1 none in let h = c.in-Ok-take_lanes.lanes.0 in let r = c.in-Ok-take_lanes.lanes.1 in let me2 = c.take_lanes.new.seat.me in
    let all = all_alone c.args.manager.now.out me v h.sender r.sender h.receiver r.receiver me2 q.blocks q.rests refl taken c.in-Ok-take_lanes.ensures.order in
    let left = c.put_lanes.ensures.put v (both_sides h.sender h.receiver) (both_sides r.sender r.receiver) me.1 taken in
    refused_is g.row.D.coded g.D.Desk.meaning me.0 h.sender r.sender h.receiver r.receiver me2 c.in-Some.fault c.put_lanes.new.seat.me.0 all
    (in_use_by me.0 me1.0 side.Host h.receiver.hands (ap (λ (s : SeatState). s.0.users) closed.2) c.in-Ok-take_lanes.ensures.users.0) (in_use_by me.0 me1.0 side.Remote r.receiver.hands (ap (λ (s : SeatState). s.0.users) closed.2) c.in-Ok-take_lanes.ensures.users.1)
    (ap (λ (k : ℕ). refusal_from h.receiver.hands r.receiver.hands k) (sym closed.0) ∙ sym c.in-Some.ensures.fault) (ap (λ (s : SeatState). s.0) (none_seat me v me.1 c.put_lanes.new.seat.me q.rests refl left))

pub returns-in-None-clause-manager : goal.returns-in-None-clause-manager
returns-in-None-clause-manager g c =
    let q = c.requires in let me = c.args.manager.now.seat.me in let me1 = c.find_closed.new.seat.me in let v : View = record me.0 { is_closed = true } in let closed = c.in-Ok-find_closed.ensures.closed in
    let none = rests_looked me me1 true q.rests closed.2 in
    let taken = c.in-Ok-take_lanes.ensures.taken v me.1 none in let h = c.in-Ok-take_lanes.lanes.0 in let r = c.in-Ok-take_lanes.lanes.1 in let me2 = c.take_lanes.new.seat.me in
    let all = all_alone c.args.manager.now.out me v h.sender r.sender h.receiver r.receiver me2 q.blocks q.rests refl taken c.in-Ok-take_lanes.ensures.order in
    let none_out = none_carried c.args.manager.now.out me v h.sender r.sender h.receiver r.receiver me2 q.blocks q.rests refl taken c.in-Ok-take_lanes.ensures.order in
    let next = c.open_next.ensures.next v all (sym closed.0) in
    let seat = none_seat me (next_view v) me.1 c.open_next.new.seat.me q.rests refl (subst (λ (l : List (ℕ × Slot)). HasNoneBeside l (next_view v) c.open_next.new.seat.me) (sym none_out) next) in
    let after : Manager = record { seat = c.open_next.new.seat; users = c.args.manager.now.users; out = c.args.manager.now.out } in
    (carrier_kept c.args.self.now c.args.manager.now after (record (next_view v) { copy = c.open_next.new.seat.me.0.copy }) seat refl refl refl refl refl c.open_next.ensures.seat.at_table c.open_next.ensures.order q, refl)

pub returns-in-None-clause-others : goal.returns-in-None-clause-others
returns-in-None-clause-others g c =
    let q = c.requires in let me = c.args.manager.now.seat.me in let me1 = c.find_closed.new.seat.me in let v : View = record me.0 { is_closed = true } in let closed = c.in-Ok-find_closed.ensures.closed in
    let none = rests_looked me me1 true q.rests closed.2 in
    let taken = c.in-Ok-take_lanes.ensures.taken v me.1 none in let h = c.in-Ok-take_lanes.lanes.0 in let r = c.in-Ok-take_lanes.lanes.1 in let me2 = c.take_lanes.new.seat.me in
    let all = all_alone c.args.manager.now.out me v h.sender r.sender h.receiver r.receiver me2 q.blocks q.rests refl taken c.in-Ok-take_lanes.ensures.order in
    let none_out = none_carried c.args.manager.now.out me v h.sender r.sender h.receiver r.receiver me2 q.blocks q.rests refl taken c.in-Ok-take_lanes.ensures.order in
    let next = c.open_next.ensures.next v all (sym closed.0) in
    let seat = none_seat me (next_view v) me.1 c.open_next.new.seat.me q.rests refl (subst (λ (l : List (ℕ × Slot)). HasNoneBeside l (next_view v) c.open_next.new.seat.me) (sym none_out) next) in
    let after : Manager = record { seat = c.open_next.new.seat; users = c.args.manager.now.users; out = c.args.manager.now.out } in
    keeps_same c.args.self.now c.args.manager.now after (record (next_view v) { copy = c.open_next.new.seat.me.0.copy }) seat refl refl refl

pub returns-in-None-clause-answer : goal.returns-in-None-clause-answer
returns-in-None-clause-answer g c =
    let q = c.requires in let me = c.args.manager.now.seat.me in let me1 = c.find_closed.new.seat.me in let v : View = record me.0 { is_closed = true } in let closed = c.in-Ok-find_closed.ensures.closed in
    let none = rests_looked me me1 true q.rests closed.2 in
    let taken = c.in-Ok-take_lanes.ensures.taken v me.1 none in let h = c.in-Ok-take_lanes.lanes.0 in let r = c.in-Ok-take_lanes.lanes.1 in let me2 = c.take_lanes.new.seat.me in
    let all = all_alone c.args.manager.now.out me v h.sender r.sender h.receiver r.receiver me2 q.blocks q.rests refl taken c.in-Ok-take_lanes.ensures.order in
    let next = c.open_next.ensures.next v all (sym closed.0) in let t = c.open_next.ensures.books v all (sym closed.0) refl in (
      t.0,
      record { own = t.1.own; unused = t.1.unused; ended = t.1.ended; back = t.1.back },
      t.2,
      c.open_next.ensures.inc ∙ closed.0,
      subst (λ (k : ℕ). k + 1 < 4294967296) closed.0 c.in-None.ensures.none.2,
      ap (λ (s : SeatState). s.0) (none_seat me (next_view v) [] c.open_next.new.seat.me q.rests refl next),
    )

pub returns-in-Err-clause-state : goal.returns-in-Err-clause-state
returns-in-Err-clause-state g c = λ m is. (inl refl, is)

pub returns-in-Err-find_closed-clause-state : goal.returns-in-Err-find_closed-clause-state
returns-in-Err-find_closed-clause-state g c = λ m is.
    let era = c.in-Err-find_closed.ensures.live m is.known in
    (inr (unopened_live g.D.Desk.meaning m c.in-Err-find_closed.era era.0 era.1), record { known = c.find_closed.ensures.state m is.known; users = is.users })

pub returns-in-Err-take_lanes-clause-state : goal.returns-in-Err-take_lanes-clause-state
returns-in-Err-take_lanes-clause-state g c = λ m is.
    let met = c.in-Err-take_lanes.ensures.refused m (c.find_closed.ensures.state m is.known) in
    (inr (unopened_turn g.D.Desk.meaning m c.in-Ok-find_closed.inc c.in-Err-take_lanes.holder (c.in-Ok-find_closed.ensures.shut m is.known) met.1), record { known = met.0; users = is.users })

pub returns-in-Some-clause-state : goal.returns-in-Some-clause-state
returns-in-Some-clause-state g c = λ m is.
    let meaning = g.D.Desk.meaning in let h = c.in-Ok-take_lanes.lanes.0 in let r = c.in-Ok-take_lanes.lanes.1 in
    let taken = c.in-Ok-take_lanes.ensures.known m (c.find_closed.ensures.state m is.known) in (
      inr (unopened_is meaning m c.in-Ok-find_closed.inc h.sender r.sender h.receiver r.receiver (c.in-Ok-find_closed.ensures.shut m is.known) taken.1 taken.2 ∙ sym c.in-Some.ensures.fault),
      record {
        known = subst (λ (l : LaneLink (RingState g.row.D.Denot)). KnowsState g.row.D.coded c.put_lanes.new.seat.me.0 l) (all_again meaning m h.sender r.sender h.receiver r.receiver taken.1 taken.2) (c.put_lanes.ensures.state (all_taken meaning m) taken.0);
        users = is.users;
      },
    )

pub returns-in-None-clause-state : goal.returns-in-None-clause-state
returns-in-None-clause-state g c = λ m is.
    let meaning = g.D.Desk.meaning in let h = c.in-Ok-take_lanes.lanes.0 in let r = c.in-Ok-take_lanes.lanes.1 in let era = c.in-Ok-find_closed.ensures.shut m is.known in
    let taken = c.in-Ok-take_lanes.ensures.known m (c.find_closed.ensures.state m is.known) in (
      unopened_is meaning m c.in-Ok-find_closed.inc h.sender r.sender h.receiver r.receiver era taken.1 taken.2 ∙ sym c.in-None.ensures.fault,
      c.open_next.ensures.inc ∙ sym (ap (λ (e : Era). e.inc) era),
      told_books m c.open_next.result h.sender r.sender h.receiver r.receiver taken.1 taken.2 c.open_next.ensures.told,
      record { known = c.open_next.ensures.state (all_taken meaning m) taken.0; users = is.users },
    )
