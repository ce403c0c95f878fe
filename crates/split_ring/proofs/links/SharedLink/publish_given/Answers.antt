use Rattle.std.proofs.Common.{◌+◌, ◌%◌, ◌∷◌, [], refl, subst}
use Rattle.atomic_table.specs.Table.{rest}
use Rattle.lane_model.specs.declared.calls.CallEnd.TheVariants as end
use Rattle.lane_model.specs.declared.stages.Turn.TheVariants as turn
use Rattle.link_words.specs.declared.rule.Call.{Call}
use Rattle.link_words.specs.declared.rule.Call.TheVariants.{Receives}
use Rattle.link_words.specs.declared.rule.Counted.TheVariants.{Gave}
use Rattle.link_words.specs.declared.rule.Event.TheVariants.{Count}
use Rattle.link_words.specs.declared.rule.Ring.TheVariants as ring
use Rattle.link_words.specs.declared.rule.Slot.{Slot}
use Rattle.link_words.specs.declared.rule.Slot.TheVariants.{Receiver}
use Rattle.link_words.specs.Calls.{SeatState}
use Rattle.link_words.specs.Layouts.{place_in}
use Rattle.link_words.specs.Steps.{ring_index, hands_but}
use Rattle.link_words.specs.Words.{receiver_slot}
use Rattle.split_ring.specs.Seats.{IsAt}
use Rattle.split_ring.specs.Walks.{same_hands}
use Rattle.split_ring.proofs.Focusing.{lent_alone, inside_alone, rewritten_alone, swapped_stays, steps_stay}
use Rattle.split_ring.proofs.Seats.{stores, done_then, still}
use Rattle.split_ring.proofs.GiveSteps.{side_given, given_at, gives_back}
use Rattle.split_ring.specs.Focus.{seat_of}
use Rattle.link_words.specs.Deeds.{Steps}
use Rattle.std.specs.Prelude.{None}
use Rattle.split_ring.proofs.links.SharedLink.publish_given.Goals as goal

pub publish_index-requires-clause-call : goal.publish_index-requires-clause-call
publish_index-requires-clause-call g c =
    given_at g.row.D.coded g.D.Desk.meaning c.args.self.now.sizes (seat_of c.args.who.number c.args.seat.now.me) c.args.who c.args.returned c.args.number c.return_count-count.result c.requires.seat.told c.requires.call c.return_count-count.ensures.count

pub slot_mut-requires : goal.slot_mut-requires
slot_mut-requires g c =
    let coded = g.row.D.coded in let meaning = g.D.Desk.meaning in let full = c.args.seat.now.me in let who = c.args.who in let me = seat_of who.number full in let z = c.args.self.now.sizes in let q = c.requires.call in let x = q.side in let number = c.args.number in let full' = c.publish_index.new.seat.me in let me' = seat_of who.number full' in
    let all = gives_back coded meaning me me' who c.args.returned number q c.publish_index.ensures.told (stores coded meaning me me' (place_in (ring_index ring.Return who.end)) ((c.return_count-count.result + 1) % 65536) c.publish_index.ensures.step) in
    let after : Call = Receives who.end (turn.Leaving who.number (end.Gave number)) (side_given x number) 0 [] in
    (c.publish_index.ensures.seat.at_table, (Receiver x, lent_alone who.number full' after (receiver_slot who.end) c.receiver_slot.result (Receiver x) [] all.0 c.receiver_slot.ensures))

pub returns-clause-given : goal.returns-clause-given
returns-clause-given g c =
    let coded = g.row.D.coded in let meaning = g.D.Desk.meaning in let full = c.args.seat.now.me in let who = c.args.who in let me = seat_of who.number full in let z = c.args.self.now.sizes in let q = c.requires.call in let x = q.side in let number = c.args.number in let full' = c.publish_index.new.seat.me in let me' = seat_of who.number full' in
    let all = gives_back coded meaning me me' who c.args.returned number q c.publish_index.ensures.told (stores coded meaning me me' (place_in (ring_index ring.Return who.end)) ((c.return_count-count.result + 1) % 65536) c.publish_index.ensures.step) in
    let after : Call = Receives who.end (turn.Leaving who.number (end.Gave number)) (side_given x number) 0 [] in
    let me'' : SeatState = seat_of who.number (full'.0, (c.receiver_slot.result, c.give_back_in.new.slot) ∷ rest full'.1) in
    let back = c.give_back_in.ensures x (inside_alone who.number full' after (receiver_slot who.end) c.receiver_slot.result (Receiver x) c.slot_mut.result.now [] all.0 c.slot_mut.ensures.value) in (
      who.number,
      side_given x number,
      0,
      [],
      subst (λ (y : Slot). IsAt me'' after ((receiver_slot who.end, y) ∷ [])) back
          (rewritten_alone who.number full' after (receiver_slot who.end) c.receiver_slot.result (Receiver x) c.give_back_in.new.slot [] all.0 c.receiver_slot.ensures),
    )

pub returns-clause-done : goal.returns-clause-done
returns-clause-done g c =
    let coded = g.row.D.coded in let meaning = g.D.Desk.meaning in let full = c.args.seat.now.me in let who = c.args.who in let me = seat_of who.number full in let z = c.args.self.now.sizes in let q = c.requires.call in let x = q.side in let number = c.args.number in let full' = c.publish_index.new.seat.me in let me' = seat_of who.number full' in
    let all = gives_back coded meaning me me' who c.args.returned number q c.publish_index.ensures.told (stores coded meaning me me' (place_in (ring_index ring.Return who.end)) ((c.return_count-count.result + 1) % 65536) c.publish_index.ensures.step) in
    let after : Call = Receives who.end (turn.Leaving who.number (end.Gave number)) (side_given x number) 0 [] in
    let me'' : SeatState = seat_of who.number (full'.0, (c.receiver_slot.result, c.give_back_in.new.slot) ∷ rest full'.1) in
    (all.1.0, all.1.1, done_then coded meaning [] (Count who.end all.1.0 (Gave (c.args.returned + 1)) ∷ []) same_hands (λ hands. hands_but hands number) me me' me'' all.1.2 (still coded meaning me' me'' refl))

pub returns-clause-seat : goal.returns-clause-seat
returns-clause-seat g c = record { at_table = c.publish_index.ensures.seat.at_table; told = c.publish_index.ensures.seat.told; order = c.publish_index.ensures.seat.order }

pub returns-clause-alone : goal.returns-clause-alone
returns-clause-alone g c =
    let coded = g.row.D.coded in let meaning = g.D.Desk.meaning in let full = c.args.seat.now.me in let who = c.args.who in let n = who.number in let me = seat_of n full in let q = c.requires.call in let x = q.side in let number = c.args.number in let full' = c.publish_index.new.seat.me in let me' = seat_of n full' in
    let all = gives_back coded meaning me me' who c.args.returned number q c.publish_index.ensures.told (stores coded meaning me me' (place_in (ring_index ring.Return who.end)) ((c.return_count-count.result + 1) % 65536) c.publish_index.ensures.step) in
    let after : Call = Receives who.end (turn.Leaving who.number (end.Gave number)) (side_given x number) 0 [] in
    steps_stay coded meaning n (Steps n 0 None) full full' (full'.0, (c.receiver_slot.result, c.give_back_in.new.slot) ∷ rest full'.1) c.publish_index.ensures.alone
    (swapped_stays n full' after (receiver_slot who.end) c.receiver_slot.result (Receiver x) c.give_back_in.new.slot [] all.0)
