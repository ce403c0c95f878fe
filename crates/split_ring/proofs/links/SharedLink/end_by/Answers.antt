use Rattle.std.proofs.Common.{◌-◌, [], ◌∷◌, refl, sym, ap, ◌∙◌, subst}
use Rattle.std.specs.Prelude.{slice_index, slice_set}
use Rattle.link_words.specs.Calls.{SeatState}
use Rattle.link_words.specs.PlacedLinks.{KnowsState}
use Rattle.link_words.specs.Orderly.{IsOrderly}
use Rattle.split_ring.specs.declared.callers.CallerId.{CallerId}
use Rattle.split_ring.specs.declared.callers.Manager.{Manager}
use Rattle.split_ring.specs.CallPhases as phase
use Rattle.split_ring.specs.declared.ends.TurnHeld.{TurnHeld}
use Rattle.split_ring.specs.Focus.{after_deeds, seat_of}
use Rattle.split_ring.specs.Reclaims.{HasTurnHeld, end_deeds, ended_of, phase_of, turn_slots}
use Rattle.split_ring.specs.Seats.{pass_in}
use Rattle.split_ring.proofs.CarriedEnds.{HasTurned, all_there, has_ended, in_front, out_ended, seat_ended, stands_there, turned_home_again}
use Rattle.split_ring.proofs.CarriedLinks.{HasGone, carrier_after, others_after, seat_stepped}
use Rattle.split_ring.proofs.CarriedMakes.{carrier_copied, keeps_copied}
use Rattle.split_ring.proofs.TurnsHeld.{turn_count, turn_stands}
use Rattle.split_ring.proofs.links.SharedLink.end_by.Goals as goal

pub end_call-requires-clause-all : goal.end_call-requires-clause-all
end_call-requires-clause-all g c =
    let link = c.args.self.now in let before = c.args.manager.now in let p = phase_of c.args.call.now in let q = c.requires.caller in let a = c.turn_by.new.seat.me in
    let side = c.side_with-side.result in let had = c.slots-had.result in let base = c.out_before-before.result in let all = c.out_before-all.result in let who : CallerId = record c.args.who { follows = q.0 } in
    let h : HasTurned link who p before side had base all a = record { carrier = c.requires.manager; carries = q.1; side_is = c.side_with-side.ensures.side; had_is = c.slots-had.ensures ∙ (ap turn_slots c.requires.turn ∙ turn_count p); base_is = c.out_before-before.ensures; all_is = c.out_before-all.ensures; turned = c.turn_by.ensures.turned } in
    all_there link who p before side had base all a h

pub end_call-requires-clause-stands : goal.end_call-requires-clause-stands
end_call-requires-clause-stands g c =
    let link = c.args.self.now in let before = c.args.manager.now in let p = phase_of c.args.call.now in let q = c.requires.caller in let a = c.turn_by.new.seat.me in
    let side = c.side_with-side.result in let had = c.slots-had.result in let base = c.out_before-before.result in let all = c.out_before-all.result in let who : CallerId = record c.args.who { follows = q.0 } in
    let h : HasTurned link who p before side had base all a = record { carrier = c.requires.manager; carries = q.1; side_is = c.side_with-side.ensures.side; had_is = c.slots-had.ensures ∙ (ap turn_slots c.requires.turn ∙ turn_count p); base_is = c.out_before-before.ensures; all_is = c.out_before-all.ensures; turned = c.turn_by.ensures.turned } in
    subst (λ (t : TurnHeld). HasTurnHeld link.sizes c.args.who t (seat_of who.number a)) (sym c.requires.turn) (turn_stands link.sizes c.args.who q.0 p (seat_of who.number a) (stands_there link who p before side had base all a h))

pub returns-in-Ok-clause-manager : goal.returns-in-Ok-clause-manager
returns-in-Ok-clause-manager g c =
    let link = c.args.self.now in let before = c.args.manager.now in let p = phase_of c.args.call.now in let q = c.requires.caller in let a = c.turn_by.new.seat.me in
    let side = c.side_with-side.result in let had = c.slots-had.result in let base = c.out_before-before.result in let all = c.out_before-all.result in let who : CallerId = record c.args.who { follows = q.0 } in
    let h : HasTurned link who p before side had base all a = record { carrier = c.requires.manager; carries = q.1; side_is = c.side_with-side.ensures.side; had_is = c.slots-had.ensures ∙ (ap turn_slots c.requires.turn ∙ turn_count p); base_is = c.out_before-before.ensures; all_is = c.out_before-all.ensures; turned = c.turn_by.ensures.turned } in
    let b = c.end_call.new.seat.me in let s = c.in-Ok.ensures in let g : HasGone link who p phase.Ended before b = has_ended link who p before side had base all a h b s.leaves s.seat.order s.ended in
    let after : Manager = record { seat = c.turn_by-in-Ok.new.seat; users = before.users; out = slice_set before.out side (slice_index before.out side - had) } in
    let out = out_ended link who p before side had base all a h b g in let seat = seat_ended link who p before side had base all a h b g after.seat.me c.turn_by-in-Ok.ensures.turned in
    (carrier_after link who p phase.Ended before b g after seat out refl (c.turn_by-in-Ok.ensures.same.0 ∙ s.seat.at_table), refl)

pub returns-in-Ok-clause-others : goal.returns-in-Ok-clause-others
returns-in-Ok-clause-others g c = λ other r apart carried.
    let link = c.args.self.now in let before = c.args.manager.now in let p = phase_of c.args.call.now in let q = c.requires.caller in let a = c.turn_by.new.seat.me in
    let side = c.side_with-side.result in let had = c.slots-had.result in let base = c.out_before-before.result in let all = c.out_before-all.result in let who : CallerId = record c.args.who { follows = q.0 } in
    let h : HasTurned link who p before side had base all a = record { carrier = c.requires.manager; carries = q.1; side_is = c.side_with-side.ensures.side; had_is = c.slots-had.ensures ∙ (ap turn_slots c.requires.turn ∙ turn_count p); base_is = c.out_before-before.ensures; all_is = c.out_before-all.ensures; turned = c.turn_by.ensures.turned } in
    let b = c.end_call.new.seat.me in let s = c.in-Ok.ensures in let g : HasGone link who p phase.Ended before b = has_ended link who p before side had base all a h b s.leaves s.seat.order s.ended in
    let after : Manager = record { seat = c.turn_by-in-Ok.new.seat; users = before.users; out = slice_set before.out side (slice_index before.out side - had) } in
    let out = out_ended link who p before side had base all a h b g in let seat = seat_ended link who p before side had base all a h b g after.seat.me c.turn_by-in-Ok.ensures.turned in
    others_after link who p phase.Ended before b g after seat out refl other r apart carried

pub returns-in-Ok-clause-ended : goal.returns-in-Ok-clause-ended
returns-in-Ok-clause-ended g c =
    let link = c.args.self.now in let before = c.args.manager.now in let p = phase_of c.args.call.now in let q = c.requires.caller in let a = c.turn_by.new.seat.me in
    let side = c.side_with-side.result in let had = c.slots-had.result in let base = c.out_before-before.result in let all = c.out_before-all.result in let who : CallerId = record c.args.who { follows = q.0 } in
    let h : HasTurned link who p before side had base all a = record { carrier = c.requires.manager; carries = q.1; side_is = c.side_with-side.ensures.side; had_is = c.slots-had.ensures ∙ (ap turn_slots c.requires.turn ∙ turn_count p); base_is = c.out_before-before.ensures; all_is = c.out_before-all.ensures; turned = c.turn_by.ensures.turned } in
    let b = c.end_call.new.seat.me in let s = c.in-Ok.ensures in let g : HasGone link who p phase.Ended before b = has_ended link who p before side had base all a h b s.leaves s.seat.order s.ended in
    let after : Manager = record { seat = c.turn_by-in-Ok.new.seat; users = before.users; out = slice_set before.out side (slice_index before.out side - had) } in
    let out = out_ended link who p before side had base all a h b g in let seat = seat_ended link who p before side had base all a h b g after.seat.me c.turn_by-in-Ok.ensures.turned in
    let is = in_front link who p before side had base all a h in let there = seat_stepped link who p phase.Ended before b g after seat out refl in let now = s.ended in record {
      one = ap (λ (x : SeatState). x.0.passes) there ∙ (now.one ∙ ap (λ (x : SeatState). ended_of c.args.who (pass_in (seat_of who.number x)) ∷ []) is);
      out = ap (λ (x : SeatState). x.1) there ∙ now.out;
      sizes = ap (λ (x : SeatState). x.0.sizes) there ∙ (now.sizes ∙ ap (λ (x : SeatState). x.0.sizes) is);
    }

pub returns-in-Ok-clause-done : goal.returns-in-Ok-clause-done
returns-in-Ok-clause-done g c = λ m known.
    subst (λ (x : SeatState). KnowsState g.row.D.coded x.0 (after_deeds g.D.Desk.meaning m (end_deeds c.args.who c.args.turn c.args.is_holding))) (sym c.turn_by-in-Ok.ensures.turned)
    (c.in-Ok.ensures.done m (subst (λ (x : SeatState). KnowsState g.row.D.coded x.0 m) (sym c.turn_by.ensures.turned) known))

pub returns-in-Err-clause-manager : goal.returns-in-Err-clause-manager
returns-in-Err-clause-manager g c =
    let link = c.args.self.now in let before = c.args.manager.now in let p = phase_of c.args.call.now in let q = c.requires.caller in let a = c.turn_by.new.seat.me in
    let side = c.side_with-side.result in let had = c.slots-had.result in let base = c.out_before-before.result in let all = c.out_before-all.result in let who : CallerId = record c.args.who { follows = q.0 } in
    let h : HasTurned link who p before side had base all a = record { carrier = c.requires.manager; carries = q.1; side_is = c.side_with-side.ensures.side; had_is = c.slots-had.ensures ∙ (ap turn_slots c.requires.turn ∙ turn_count p); base_is = c.out_before-before.ensures; all_is = c.out_before-all.ensures; turned = c.turn_by.ensures.turned } in
    let b = c.end_call.new.seat.me in let s = c.in-Err.ensures in let after : Manager = record { seat = c.turn_by-in-Err.new.seat; users = before.users; out = before.out } in
    let same = turned_home_again link who p before side had base all a h b s.leaves after.seat.me s.refused.0 c.turn_by-in-Err.ensures.turned in
    (carrier_copied link before after same refl refl (c.turn_by-in-Err.ensures.same.0 ∙ s.seat.at_table) (subst (λ (x : SeatState). IsOrderly x.0) (sym c.turn_by-in-Err.ensures.turned) s.seat.order) c.requires.manager, refl)

pub returns-in-Err-clause-others : goal.returns-in-Err-clause-others
returns-in-Err-clause-others g c = λ other r apart carried.
    let link = c.args.self.now in let before = c.args.manager.now in let p = phase_of c.args.call.now in let q = c.requires.caller in let a = c.turn_by.new.seat.me in
    let side = c.side_with-side.result in let had = c.slots-had.result in let base = c.out_before-before.result in let all = c.out_before-all.result in let who : CallerId = record c.args.who { follows = q.0 } in
    let h : HasTurned link who p before side had base all a = record { carrier = c.requires.manager; carries = q.1; side_is = c.side_with-side.ensures.side; had_is = c.slots-had.ensures ∙ (ap turn_slots c.requires.turn ∙ turn_count p); base_is = c.out_before-before.ensures; all_is = c.out_before-all.ensures; turned = c.turn_by.ensures.turned } in
    let b = c.end_call.new.seat.me in let s = c.in-Err.ensures in let after : Manager = record { seat = c.turn_by-in-Err.new.seat; users = before.users; out = before.out } in
    let same = turned_home_again link who p before side had base all a h b s.leaves after.seat.me s.refused.0 c.turn_by-in-Err.ensures.turned in
    keeps_copied link before after same refl refl other r carried

pub returns-in-Err-clause-refused : goal.returns-in-Err-clause-refused
returns-in-Err-clause-refused g c =
    let link = c.args.self.now in let before = c.args.manager.now in let p = phase_of c.args.call.now in let q = c.requires.caller in let a = c.turn_by.new.seat.me in
    let side = c.side_with-side.result in let had = c.slots-had.result in let base = c.out_before-before.result in let all = c.out_before-all.result in let who : CallerId = record c.args.who { follows = q.0 } in
    let h : HasTurned link who p before side had base all a = record { carrier = c.requires.manager; carries = q.1; side_is = c.side_with-side.ensures.side; had_is = c.slots-had.ensures ∙ (ap turn_slots c.requires.turn ∙ turn_count p); base_is = c.out_before-before.ensures; all_is = c.out_before-all.ensures; turned = c.turn_by.ensures.turned } in
    let b = c.end_call.new.seat.me in let s = c.in-Err.ensures in let after : Manager = record { seat = c.turn_by-in-Err.new.seat; users = before.users; out = before.out } in
    let same = turned_home_again link who p before side had base all a h b s.leaves after.seat.me s.refused.0 c.turn_by-in-Err.ensures.turned in
    (s.refused.1, λ other r carried. keeps_copied link before after same refl refl other r carried)

pub returns-in-Err-clause-met : goal.returns-in-Err-clause-met
returns-in-Err-clause-met g c = λ m known closed.
    let met = c.in-Err.ensures.met m (subst (λ (x : SeatState). KnowsState g.row.D.coded x.0 m) (sym c.turn_by.ensures.turned) known) closed in
    (met.0, subst (λ (x : SeatState). KnowsState g.row.D.coded x.0 m) (sym c.turn_by-in-Err.ensures.turned) met.1)

pub returns-in-Ok-clause-free : goal.returns-in-Ok-clause-free
returns-in-Ok-clause-free g c = λ holds lacks m known.
    c.in-Ok.ensures.free holds lacks m (subst (λ (x : SeatState). KnowsState g.row.D.coded x.0 m) (sym c.turn_by.ensures.turned) known)
