use Rattle.std.proofs.Common.{[], ◌≡◌, ◌≤◌, ◌∷◌, ℕ, refl, sym, subst}
use Rattle.lane_model.specs.declared.stages.TakeStage.TheVariants as take_stage
use Rattle.lane_model.specs.declared.stages.Work.TheVariants as work
use Rattle.link_words.specs.declared.rule.Slot.TheVariants.{Receiver}
use Rattle.link_words.specs.Words.{receiver_slot}
use Rattle.split_ring.specs.Turns.{receive_call, receive_slots}
use Rattle.split_ring.proofs.Focusing.{lent_alone, inside_alone, swapped_stays}
use Rattle.rp_base.specs.declared.limits.TheConstants.{BOOK_MOST}
use Rattle.atomic_table.specs.Table.{rest}
use Rattle.link_words.specs.Calls.{SeatState}
use Rattle.split_ring.specs.Focus.{seat_of}
use Rattle.split_ring.specs.Seats.{IsAt}
use Rattle.split_ring.proofs.Seats.{still}
use Rattle.split_ring.proofs.links.SharedLink.take_begun.Goals as goal

pub slot_mut-requires : goal.slot_mut-requires
slot_mut-requires g c =
    let t = c.requires.turn in let who = c.args.who in
    (c.requires.seat.at_table, (Receiver t.0, lent_alone who.number c.args.seat.now.me (receive_call who (work.Take take_stage.Turn) t.0 0 []) (receiver_slot who.end) c.receiver_slot-slot.result (Receiver t.0) [] t.3 c.receiver_slot-slot.ensures))

pub returns-clause-seat : goal.returns-clause-seat
returns-clause-seat g c = record { at_table = c.requires.seat.at_table; told = c.requires.seat.told; order = c.requires.seat.order }

pub returns-clause-stays : goal.returns-clause-stays
returns-clause-stays g c =
    let t = c.requires.turn in let who = c.args.who in let n = who.number in let full = c.args.seat.now.me in let call = receive_call who (work.Take take_stage.Turn) t.0 0 [] in
    let k = c.receiver_slot-slot.result in let w = c.slot_mut.result.now in let full1 : SeatState = (full.0, (k, w) ∷ rest full.1) in
    swapped_stays n full call (receiver_slot who.end) k (Receiver t.0) w [] t.3

pub returns-clause-still : goal.returns-clause-still
returns-clause-still g c =
    let t = c.requires.turn in let who = c.args.who in let n = who.number in let full = c.args.seat.now.me in let call = receive_call who (work.Take take_stage.Turn) t.0 0 [] in
    let k = c.receiver_slot-slot.result in let w = c.slot_mut.result.now in let full1 : SeatState = (full.0, (k, w) ∷ rest full.1) in
    still g.row.D.coded g.D.Desk.meaning (seat_of n full) (seat_of n full1) refl

pub returns-clause-call : goal.returns-clause-call
returns-clause-call g c =
    let t = c.requires.turn in let who = c.args.who in let n = who.number in let full = c.args.seat.now.me in let call = receive_call who (work.Take take_stage.Turn) t.0 0 [] in
    let k = c.receiver_slot-slot.result in let w = c.slot_mut.result.now in let full1 : SeatState = (full.0, (k, w) ∷ rest full.1) in
    let lent : w ≡ Receiver t.0 = inside_alone n full call (receiver_slot who.end) k (Receiver t.0) w [] t.3 c.slot_mut.ensures.value in
    let read = c.handed_in.ensures t.0 lent in (
      record {
        side = t.0;
        handed = sym read;
        most = subst (λ (j : ℕ). j ≤ BOOK_MOST) (sym read) t.1;
        at = subst (λ (s : SeatState). IsAt (seat_of n s) call (receive_slots who t.0)) (λ i. (full.0, c.slot_mut.ensures.value i)) t.3;
      },
      refl,
    )
