use Rattle.std.proofs.Common.{◌+◌, ◌%◌, ℕ, List, ◌∷◌, [], refl, sym, ap, ◌∙◌, subst}
use Rattle.rp_base.specs.declared.kinds.End.{End}
use Rattle.link_words.specs.declared.rule.Event.TheVariants.{Publish}
use Rattle.link_words.specs.declared.rule.Ring.TheVariants as ring
use Rattle.link_words.specs.declared.rule.Slot.{Slot}
use Rattle.link_words.specs.declared.rule.Slot.TheVariants.{Sender}
use Rattle.link_words.specs.Calls.{SeatState}
use Rattle.atomic_table.specs.Table.{rest}
use Rattle.link_words.specs.Layouts.{place_in}
use Rattle.link_words.specs.Steps.{SendPublishesAt, accepted_side, ring_index}
use Rattle.link_words.specs.Words.{other, sender_slot}
use Rattle.split_ring.specs.Seats.{IsAt}
use Rattle.split_ring.specs.Walks.{same_hands}
use Rattle.split_ring.proofs.Focusing.{lent_alone, inside_alone, rewritten_alone, swapped_stays, steps_stay}
use Rattle.split_ring.proofs.Seats.{stores, done_then, still}
use Rattle.split_ring.proofs.SendSteps.{sent_call, publishes_at, publishes_message}
use Rattle.split_ring.specs.Focus.{seat_of}
use Rattle.link_words.specs.Deeds.{Steps}
use Rattle.std.specs.Prelude.{None}
use Rattle.split_ring.proofs.links.SharedLink.publish_message.Goals as goal

pub publish_index-requires-clause-call : goal.publish_index-requires-clause-call
publish_index-requires-clause-call g c =
    let n = c.args.call.now.who.number in let me = seat_of n c.args.seat.now.me in let call = c.args.call.now in
    subst (λ (e : End). SendPublishesAt e (call.accepted + 1) me) (sym c.other-lane.ensures) (publishes_at g.row.D.coded g.D.Desk.meaning c.args.self.now.sizes me call c.requires.seat.told c.requires.call)

pub slot_mut-side-requires : goal.slot_mut-side-requires
slot_mut-side-requires g c =
    let n = c.args.call.now.who.number in let me = seat_of n c.args.seat.now.me in let call = c.args.call.now in let full' = c.publish_index.new.seat.me in let me' = seat_of n full' in
    let all = publishes_message g.row.D.coded g.D.Desk.meaning c.args.self.now.sizes me me' call c.requires.call c.publish_index.ensures.told (stores g.row.D.coded g.D.Desk.meaning me me' (place_in (ring_index ring.Forward c.other-lane.result)) ((call.accepted + 1) % 65536) c.publish_index.ensures.step) in (
      c.publish_index.ensures.seat.at_table,
      (Sender call.side.value, lent_alone n full' (sent_call call) (sender_slot (other call.who.end)) c.sender_slot.result (Sender call.side.value) [] all.0 (c.sender_slot.ensures ∙ ap sender_slot c.other-lane.ensures)),
    )

pub accept_in-requires : goal.accept_in-requires
accept_in-requires g c =
    let n = c.args.call.now.who.number in let me = seat_of n c.args.seat.now.me in let call = c.args.call.now in let full' = c.publish_index.new.seat.me in let me' = seat_of n full' in
    let all = publishes_message g.row.D.coded g.D.Desk.meaning c.args.self.now.sizes me me' call c.requires.call c.publish_index.ensures.told (stores g.row.D.coded g.D.Desk.meaning me me' (place_in (ring_index ring.Forward c.other-lane.result)) ((call.accepted + 1) % 65536) c.publish_index.ensures.step) in
    (call.side.value, inside_alone n full' (sent_call call) (sender_slot (other call.who.end)) c.sender_slot.result (Sender call.side.value) c.slot_mut-side.result.now [] all.0 c.slot_mut-side.ensures.value, all.2)

pub returns-clause-published : goal.returns-clause-published
returns-clause-published g c =
    let n = c.args.call.now.who.number in let me = seat_of n c.args.seat.now.me in let call = c.args.call.now in let full' = c.publish_index.new.seat.me in let me' = seat_of n full' in
    let all = publishes_message g.row.D.coded g.D.Desk.meaning c.args.self.now.sizes me me' call c.requires.call c.publish_index.ensures.told (stores g.row.D.coded g.D.Desk.meaning me me' (place_in (ring_index ring.Forward c.other-lane.result)) ((call.accepted + 1) % 65536) c.publish_index.ensures.step) in
    let side_is = inside_alone n full' (sent_call call) (sender_slot (other call.who.end)) c.sender_slot.result (Sender call.side.value) c.slot_mut-side.result.now [] all.0 c.slot_mut-side.ensures.value in (
      call.who.number,
      accepted_side call.side.value call.who.number call.message.value,
      call.buffer,
      subst (λ (w : Slot). IsAt (seat_of n (full'.0, (c.sender_slot.result, c.accept_in.new.slot) ∷ rest full'.1)) (sent_call call) ((sender_slot (other call.who.end), w) ∷ []))
          (c.accept_in.ensures call.side.value side_is ∙ ap (λ (m : List ℕ). Sender (accepted_side call.side.value call.who.number m)) (sym c.requires.message))
          (rewritten_alone n full' (sent_call call) (sender_slot (other call.who.end)) c.sender_slot.result (Sender call.side.value) c.accept_in.new.slot [] all.0 (c.sender_slot.ensures ∙ ap sender_slot c.other-lane.ensures)),
    )

pub returns-clause-done : goal.returns-clause-done
returns-clause-done g c =
    let n = c.args.call.now.who.number in let me = seat_of n c.args.seat.now.me in let call = c.args.call.now in let full' = c.publish_index.new.seat.me in let me' = seat_of n full' in
    let all = publishes_message g.row.D.coded g.D.Desk.meaning c.args.self.now.sizes me me' call c.requires.call c.publish_index.ensures.told (stores g.row.D.coded g.D.Desk.meaning me me' (place_in (ring_index ring.Forward c.other-lane.result)) ((call.accepted + 1) % 65536) c.publish_index.ensures.step) in
    let after : SeatState = seat_of n (full'.0, (c.sender_slot.result, c.accept_in.new.slot) ∷ rest full'.1) in
    done_then g.row.D.coded g.D.Desk.meaning [] (Publish (other call.who.end) call.who.follows call.accepted call.message.value ∷ []) same_hands same_hands me me' after all.1 (still g.row.D.coded g.D.Desk.meaning me' after refl)

pub returns-clause-seat : goal.returns-clause-seat
returns-clause-seat g c = record { at_table = c.publish_index.ensures.seat.at_table; told = c.publish_index.ensures.seat.told; order = c.publish_index.ensures.seat.order }

pub returns-clause-alone : goal.returns-clause-alone
returns-clause-alone g c =
    let n = c.args.call.now.who.number in let full = c.args.seat.now.me in let me = seat_of n full in let call = c.args.call.now in let full' = c.publish_index.new.seat.me in let me' = seat_of n full' in
    let all = publishes_message g.row.D.coded g.D.Desk.meaning c.args.self.now.sizes me me' call c.requires.call c.publish_index.ensures.told (stores g.row.D.coded g.D.Desk.meaning me me' (place_in (ring_index ring.Forward c.other-lane.result)) ((call.accepted + 1) % 65536) c.publish_index.ensures.step) in
    steps_stay g.row.D.coded g.D.Desk.meaning n (Steps n 0 None) full full' (full'.0, (c.sender_slot.result, c.accept_in.new.slot) ∷ rest full'.1) c.publish_index.ensures.alone
    (swapped_stays n full' (sent_call call) (sender_slot (other call.who.end)) c.sender_slot.result (Sender call.side.value) c.accept_in.new.slot [] all.0)
