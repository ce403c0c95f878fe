use Rattle.std.proofs.Common.{◌≤◌, ℕ, ◌+◌, ◌*◌, ◌∷◌, [], refl, sym, ap, ◌∙◌, subst}
use Rattle.atomic_table.specs.Table.{rest}
use Rattle.rp_base.specs.declared.limits.TheConstants.{BOOK_MOST}
use Rattle.lane_model.specs.declared.stages.GiveStage.TheVariants as give_stage
use Rattle.lane_model.specs.declared.stages.Work.TheVariants as work
use Rattle.vring_layout.specs.declared.words.UsedWord.{UsedWord}
use Rattle.ring_core.specs.Rings.{return_count}
use Rattle.link_words.specs.declared.rule.Event.TheVariants.{Step}
use Rattle.link_words.specs.declared.rule.Made.TheVariants as made
use Rattle.link_words.specs.declared.rule.Ring.TheVariants as ring
use Rattle.link_words.specs.declared.rule.Slot.TheVariants.{Receiver}
use Rattle.link_words.specs.Calls.{SeatState}
use Rattle.link_words.specs.Layouts.{place_in}
use Rattle.link_words.specs.Words.{receiver_slot, entry_number, sizes_at}
use Rattle.split_ring.specs.Seats.{IsAt}
use Rattle.split_ring.specs.Turns.{receive_call, receive_slots}
use Rattle.split_ring.specs.Walks.{same_hands}
use Rattle.split_ring.proofs.Focusing.{lent_alone, inside_alone, swapped_stays, stays_steps}
use Rattle.split_ring.proofs.Seats.{stores, done_then, still}
use Rattle.split_ring.proofs.GiveSteps.{gives_at, gives_entry}
use Rattle.split_ring.specs.Focus.{seat_of, front, count_of}
use Rattle.link_words.specs.Deeds.{Steps}
use Rattle.std.specs.Prelude.{None}
use Rattle.split_ring.proofs.links.SharedLink.store_given.Goals as goal

pub slot_mut-requires : goal.slot_mut-requires
slot_mut-requires g c =
    let t = c.requires.turn in let who = c.args.who in
    (c.requires.seat.at_table, (Receiver t.0, lent_alone who.number c.args.seat.now.me (receive_call who (work.Give c.args.number give_stage.Turn) t.0 0 []) (receiver_slot who.end) c.receiver_slot-slot.result (Receiver t.0) [] t.3 c.receiver_slot-slot.ensures))

pub return_count-count-requires : goal.return_count-count-requires
return_count-count-requires g c =
    let coded = g.row.D.coded in let meaning = g.D.Desk.meaning in let full = c.args.seat.now.me in let who = c.args.who in let me = seat_of who.number full in let z = c.args.self.now.sizes in let t = c.requires.turn in let x = t.0 in let w = work.Give c.args.number give_stage.Turn in
    let read = c.returned_in-returned.ensures x (inside_alone who.number full (receive_call who w x 0 []) (receiver_slot who.end) c.receiver_slot-slot.result (Receiver x) c.slot_mut.result.now [] t.3 c.slot_mut.ensures.value) in
    subst (λ (k : ℕ). k ≤ BOOK_MOST) (sym read.0) t.2

pub store_entry-requires-clause-call : goal.store_entry-requires-clause-call
store_entry-requires-clause-call g c =
    let coded = g.row.D.coded in let meaning = g.D.Desk.meaning in let full = c.args.seat.now.me in let who = c.args.who in let me = seat_of who.number full in let z = c.args.self.now.sizes in let t = c.requires.turn in let x = t.0 in let w = work.Give c.args.number give_stage.Turn in
    let read = c.returned_in-returned.ensures x (inside_alone who.number full (receive_call who w x 0 []) (receiver_slot who.end) c.receiver_slot-slot.result (Receiver x) c.slot_mut.result.now [] t.3 c.slot_mut.ensures.value) in
    let full1 : SeatState = (full.0, (c.receiver_slot-slot.result, c.slot_mut.result.now) ∷ rest full.1) in let me1 = seat_of who.number full1 in
    let at1 : IsAt me1 (receive_call who w x 0 []) (receive_slots who x) = record { one = t.3.one; in_call = t.3.in_call; out = ap (front (count_of who.number full)) (sym c.slot_mut.ensures.value) ∙ t.3.out } in
    let entry : UsedWord = record { id = c.returned_in-returned.result.1; len = 0 } in
    gives_at coded meaning z me1 who c.args.number c.return_count-count.result x entry c.requires.seat.told at1 (c.return_count-count.ensures.count ∙ ap (return_count (sizes_at z who.end)) read.0) (λ i. record { id = read.1 i; len = 0 })

pub returns-clause-stored : goal.returns-clause-stored
returns-clause-stored g c =
    let coded = g.row.D.coded in let meaning = g.D.Desk.meaning in let full = c.args.seat.now.me in let who = c.args.who in let me = seat_of who.number full in let z = c.args.self.now.sizes in let t = c.requires.turn in let x = t.0 in let w = work.Give c.args.number give_stage.Turn in
    let read = c.returned_in-returned.ensures x (inside_alone who.number full (receive_call who w x 0 []) (receiver_slot who.end) c.receiver_slot-slot.result (Receiver x) c.slot_mut.result.now [] t.3 c.slot_mut.ensures.value) in
    let full1 : SeatState = (full.0, (c.receiver_slot-slot.result, c.slot_mut.result.now) ∷ rest full.1) in let me1 = seat_of who.number full1 in
    let at1 : IsAt me1 (receive_call who w x 0 []) (receive_slots who x) = record { one = t.3.one; in_call = t.3.in_call; out = ap (front (count_of who.number full)) (sym c.slot_mut.ensures.value) ∙ t.3.out } in
    let me2 = seat_of who.number c.store_entry.new.seat.me in
    let all = gives_entry coded meaning me1 me2 who c.args.number x at1 c.store_entry.ensures.told (stores coded meaning me1 me2 (place_in (entry_number z who.end ring.Return c.return_count-count.result)) (c.returned_in-returned.result.1 + 0 * 4294967296) c.store_entry.ensures.step) in
    record { side = x; back = sym read.0; most = subst (λ (k : ℕ). k ≤ BOOK_MOST) (sym read.0) t.2; at = all.0 }

pub returns-clause-done : goal.returns-clause-done
returns-clause-done g c =
    let coded = g.row.D.coded in let meaning = g.D.Desk.meaning in let full = c.args.seat.now.me in let who = c.args.who in let me = seat_of who.number full in let z = c.args.self.now.sizes in let t = c.requires.turn in let x = t.0 in let w = work.Give c.args.number give_stage.Turn in
    let read = c.returned_in-returned.ensures x (inside_alone who.number full (receive_call who w x 0 []) (receiver_slot who.end) c.receiver_slot-slot.result (Receiver x) c.slot_mut.result.now [] t.3 c.slot_mut.ensures.value) in
    let full1 : SeatState = (full.0, (c.receiver_slot-slot.result, c.slot_mut.result.now) ∷ rest full.1) in let me1 = seat_of who.number full1 in
    let at1 : IsAt me1 (receive_call who w x 0 []) (receive_slots who x) = record { one = t.3.one; in_call = t.3.in_call; out = ap (front (count_of who.number full)) (sym c.slot_mut.ensures.value) ∙ t.3.out } in
    let me2 = seat_of who.number c.store_entry.new.seat.me in
    let all = gives_entry coded meaning me1 me2 who c.args.number x at1 c.store_entry.ensures.told (stores coded meaning me1 me2 (place_in (entry_number z who.end ring.Return c.return_count-count.result)) (c.returned_in-returned.result.1 + 0 * 4294967296) c.store_entry.ensures.step) in
    done_then coded meaning (Step made.Entry ∷ []) [] same_hands same_hands me me1 me2 (still coded meaning me me1 refl) all.1

pub store_entry-requires-clause-seat : goal.store_entry-requires-clause-seat
store_entry-requires-clause-seat g c = record { at_table = c.requires.seat.at_table; told = c.requires.seat.told; order = c.requires.seat.order }

pub returns-clause-alone : goal.returns-clause-alone
returns-clause-alone g c =
    let full = c.args.seat.now.me in let who = c.args.who in let n = who.number in let t = c.requires.turn in let x = t.0 in let w = work.Give c.args.number give_stage.Turn in
    stays_steps g.row.D.coded g.D.Desk.meaning n (Steps n 0 None) full (full.0, (c.receiver_slot-slot.result, c.slot_mut.result.now) ∷ rest full.1) c.store_entry.new.seat.me
    (swapped_stays n full (receive_call who w x 0 []) (receiver_slot who.end) c.receiver_slot-slot.result (Receiver x) c.slot_mut.result.now [] t.3) c.store_entry.ensures.alone
