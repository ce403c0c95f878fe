use Rattle.std.proofs.Common.{◌≡◌, List, ◌∷◌, [], ℕ, refl, sym, ap, ◌∙◌, subst, ◌≤◌}
use Rattle.atomic_table.specs.Table.{rest}
use Rattle.lane_model.specs.declared.stages.SendStage.TheVariants as stage
use Rattle.lane_model.specs.declared.stages.Turn.TheVariants as turn
use Rattle.link_words.specs.declared.rule.Call.{Call}
use Rattle.link_words.specs.declared.rule.Call.TheVariants.{Sends}
use Rattle.link_words.specs.declared.rule.SenderSide.{SenderSide}
use Rattle.link_words.specs.declared.rule.Slot.TheVariants.{Sender}
use Rattle.link_words.specs.Calls.{SeatState}
use Rattle.link_words.specs.Words.{other, sender_slot}
use Rattle.split_ring.specs.Focus.{seat_of}
use Rattle.split_ring.specs.Seats.{IsAt}
use Rattle.split_ring.proofs.Focusing.{lent_alone, inside_alone, swapped_stays}
use Rattle.split_ring.proofs.Seats.{still}
use Rattle.rp_base.specs.declared.limits.TheConstants.{BOOK_MOST}
use Rattle.split_ring.proofs.links.SharedLink.send_begun.Goals as goal

pub slot_mut-requires : goal.slot_mut-requires
slot_mut-requires g c =
    let t = c.requires.turn in let who = c.args.who in
    (c.requires.seat.at_table, (Sender t.0, lent_alone who.number c.args.seat.now.me (Sends (other who.end) (turn.Taken who.number (record { follows = who.follows; message = c.args.message.now; stage = stage.Turn })) t.0 0) (sender_slot (other who.end)) c.sender_slot-slot.result (Sender t.0) [] t.2 (c.sender_slot-slot.ensures ∙ ap sender_slot c.other.ensures)))

pub returns-clause-seat : goal.returns-clause-seat
returns-clause-seat g c = record { at_table = c.requires.seat.at_table; told = c.requires.seat.told; order = c.requires.seat.order }

pub returns-clause-stays : goal.returns-clause-stays
returns-clause-stays g c =
    let t = c.requires.turn in let who = c.args.who in let n = who.number in let full = c.args.seat.now.me in let call : Call = Sends (other who.end) (turn.Taken n (record { follows = who.follows; message = c.args.message.now; stage = stage.Turn })) t.0 0 in
    let k = c.sender_slot-slot.result in let w = c.slot_mut.result.now in let full1 : SeatState = (full.0, (k, w) ∷ rest full.1) in
    swapped_stays n full call (sender_slot (other who.end)) k (Sender t.0) w [] t.2

pub returns-clause-still : goal.returns-clause-still
returns-clause-still g c =
    let t = c.requires.turn in let who = c.args.who in let n = who.number in let full = c.args.seat.now.me in let call : Call = Sends (other who.end) (turn.Taken n (record { follows = who.follows; message = c.args.message.now; stage = stage.Turn })) t.0 0 in
    let k = c.sender_slot-slot.result in let w = c.slot_mut.result.now in let full1 : SeatState = (full.0, (k, w) ∷ rest full.1) in
    still g.row.D.coded g.D.Desk.meaning (seat_of n full) (seat_of n full1) refl

pub returns-clause-call : goal.returns-clause-call
returns-clause-call g c =
    let t = c.requires.turn in let who = c.args.who in let n = who.number in let full = c.args.seat.now.me in let call : Call = Sends (other who.end) (turn.Taken n (record { follows = who.follows; message = c.args.message.now; stage = stage.Turn })) t.0 0 in
    let k = c.sender_slot-slot.result in let w = c.slot_mut.result.now in let full1 : SeatState = (full.0, (k, w) ∷ rest full.1) in
    let lent : w ≡ Sender t.0 = inside_alone n full call (sender_slot (other who.end)) k (Sender t.0) w [] t.2 c.slot_mut.ensures.value in
    let read = c.accepted_in-accepted.ensures t.0 lent in
    let at : IsAt (seat_of n full1) call ((sender_slot (other who.end), Sender t.0) ∷ []) = subst (λ (s : SeatState). IsAt (seat_of n s) call ((sender_slot (other who.end), Sender t.0) ∷ [])) (λ i. (full.0, c.slot_mut.ensures.value i)) t.2 in
    let side : SenderSide → List ℕ → Type 0 = λ x m. IsAt (seat_of n full1) (Sends (other who.end) (turn.Taken n (record { follows = who.follows; message = m; stage = stage.Turn })) x 0) ((sender_slot (other who.end), Sender x) ∷ []) in
    let begun : side c.accepted_in-accepted.result.1.value c.of.result.value = subst (side c.accepted_in-accepted.result.1.value) (sym c.of.ensures) (subst (λ (x : SenderSide). side x c.args.message.now) (sym read.1) at) in
    ((begun, record { is = ap (λ (x : SenderSide). x.accepted) read.1 ∙ sym read.0; most = subst (λ (j : ℕ). j ≤ BOOK_MOST) (sym read.0) t.1 }), refl, c.of.ensures)
