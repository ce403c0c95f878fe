use Rattle.std.proofs.Common.{◌≡◌, ◌+◌, ◌*◌, ◌∷◌, [], length, refl, sym, ap, ◌∙◌, subst}
use Rattle.atomic_table.specs.Table.{rest}
use Rattle.rp_base.specs.declared.kinds.End.{End}
use Rattle.lane_model.specs.declared.stages.SendStage.TheVariants as stage
use Rattle.ring_core.specs.Rings.{entry_length}
use Rattle.link_words.specs.declared.rule.Event.TheVariants.{Step}
use Rattle.link_words.specs.declared.rule.Made.TheVariants as made
use Rattle.link_words.specs.declared.rule.Slot.{Slot}
use Rattle.link_words.specs.Calls.{SeatState}
use Rattle.link_words.specs.Steps.{SendStoresAt}
use Rattle.link_words.specs.Layouts.{place_in}
use Rattle.link_words.specs.declared.rule.Ring.TheVariants as ring
use Rattle.vring_layout.specs.declared.words.UsedWord.{UsedWord}
use Rattle.link_words.specs.Words.{other, buffer_slot, sizes_at, entry_number}
use Rattle.split_ring.specs.Sends.{send_call, send_slots, IsFilledAt}
use Rattle.split_ring.specs.Walks.{same_hands}
use Rattle.split_ring.proofs.Focusing.{lent_alone, rewritten_alone, swapped_stays, stays_steps}
use Rattle.split_ring.proofs.Seats.{stores, done_then, still}
use Rattle.split_ring.proofs.SendSteps.{stores_at, stores_entry}
use Rattle.split_ring.specs.Focus.{seat_of}
use Rattle.link_words.specs.Deeds.{Steps}
use Rattle.std.specs.Prelude.{None}
use Rattle.split_ring.proofs.links.SharedLink.store_message.Goals as goal

pub store_entry-requires-clause-call : goal.store_entry-requires-clause-call
store_entry-requires-clause-call g c =
    let n = c.args.call.now.who.number in let full = c.args.seat.now.me in let me = seat_of n full in let call = c.args.call.now in let z = c.args.self.now.sizes in let q = c.requires.call in let w = c.fill.new.slot in let lane = other call.who.end in
    let full1 : SeatState = (full.0, (c.buffer_slot-slot.result, w) ∷ rest full.1) in let me1 = seat_of n full1 in
    let slot : c.buffer_slot-slot.result ≡ buffer_slot z.to_host.capacity lane call.buffer = c.buffer_slot-slot.ensures ∙ ap (λ (e : End). buffer_slot z.to_host.capacity e call.buffer) c.other-lane.ensures in
    let filled : IsFilledAt z call stage.Buffer w me1 = (rewritten_alone n full (send_call call stage.Buffer) (buffer_slot z.to_host.capacity lane call.buffer) c.buffer_slot-slot.result q.0 w (send_slots call) q.1.0 slot, q.1.1) in
    let whole = c.sizes_of.ensures.sizes ∙ ap (sizes_at z) c.other-lane.ensures in
    let len : c.entry_length.result ≡ entry_length (sizes_at z lane) (length call.message.value) = c.entry_length.ensures ∙ ((λ i. entry_length (whole i) (length c.args.message.now)) ∙ (λ i. entry_length (sizes_at z lane) (length (sym c.requires.message i)))) in
    let entry : UsedWord = record { id = call.buffer; len = c.entry_length.result } in
    subst (λ (e : End). SendStoresAt e call.accepted entry me1) (sym c.other-lane.ensures)
    (stores_at g.row.D.coded g.D.Desk.meaning z me1 call w entry c.requires.seat.told filled (λ i. record { id = call.buffer; len = len i }))

pub returns-clause-stored : goal.returns-clause-stored
returns-clause-stored g c =
    let n = c.args.call.now.who.number in let full = c.args.seat.now.me in let me = seat_of n full in let call = c.args.call.now in let z = c.args.self.now.sizes in let q = c.requires.call in let w = c.fill.new.slot in let lane = other call.who.end in
    let full1 : SeatState = (full.0, (c.buffer_slot-slot.result, w) ∷ rest full.1) in let me1 = seat_of n full1 in
    let slot : c.buffer_slot-slot.result ≡ buffer_slot z.to_host.capacity lane call.buffer = c.buffer_slot-slot.ensures ∙ ap (λ (e : End). buffer_slot z.to_host.capacity e call.buffer) c.other-lane.ensures in
    let filled : IsFilledAt z call stage.Buffer w me1 = (rewritten_alone n full (send_call call stage.Buffer) (buffer_slot z.to_host.capacity lane call.buffer) c.buffer_slot-slot.result q.0 w (send_slots call) q.1.0 slot, q.1.1) in
    let full' = c.store_entry.new.seat.me in let me' = seat_of n full' in
    let all = stores_entry g.row.D.coded g.D.Desk.meaning z me1 me' call w filled c.store_entry.ensures.told (stores g.row.D.coded g.D.Desk.meaning me1 me' (place_in (entry_number z c.other-lane.result ring.Forward call.accepted)) (call.buffer + c.entry_length.result * 4294967296) c.store_entry.ensures.step) in
    subst (λ (x : Slot). IsFilledAt z call stage.Entry x me') c.fill.ensures all.0

pub returns-clause-done : goal.returns-clause-done
returns-clause-done g c =
    let n = c.args.call.now.who.number in let full = c.args.seat.now.me in let me = seat_of n full in let call = c.args.call.now in let z = c.args.self.now.sizes in let q = c.requires.call in let w = c.fill.new.slot in let lane = other call.who.end in
    let full1 : SeatState = (full.0, (c.buffer_slot-slot.result, w) ∷ rest full.1) in let me1 = seat_of n full1 in
    let slot : c.buffer_slot-slot.result ≡ buffer_slot z.to_host.capacity lane call.buffer = c.buffer_slot-slot.ensures ∙ ap (λ (e : End). buffer_slot z.to_host.capacity e call.buffer) c.other-lane.ensures in
    let filled : IsFilledAt z call stage.Buffer w me1 = (rewritten_alone n full (send_call call stage.Buffer) (buffer_slot z.to_host.capacity lane call.buffer) c.buffer_slot-slot.result q.0 w (send_slots call) q.1.0 slot, q.1.1) in
    let full' = c.store_entry.new.seat.me in let me' = seat_of n full' in
    let all = stores_entry g.row.D.coded g.D.Desk.meaning z me1 me' call w filled c.store_entry.ensures.told (stores g.row.D.coded g.D.Desk.meaning me1 me' (place_in (entry_number z c.other-lane.result ring.Forward call.accepted)) (call.buffer + c.entry_length.result * 4294967296) c.store_entry.ensures.step) in
    done_then g.row.D.coded g.D.Desk.meaning (Step made.Entry ∷ []) [] same_hands same_hands me me1 me' (still g.row.D.coded g.D.Desk.meaning me me1 refl) all.1

pub slot_mut-requires : goal.slot_mut-requires
slot_mut-requires g c =
    let n = c.args.call.now.who.number in let full = c.args.seat.now.me in let call = c.args.call.now in let z = c.args.self.now.sizes in let q = c.requires.call in let lane = other call.who.end in
    let slot : c.buffer_slot-slot.result ≡ buffer_slot z.to_host.capacity lane call.buffer = c.buffer_slot-slot.ensures ∙ ap (λ (e : End). buffer_slot z.to_host.capacity e call.buffer) c.other-lane.ensures in
    (c.requires.seat.at_table, (q.0, lent_alone n full (send_call call stage.Buffer) (buffer_slot z.to_host.capacity lane call.buffer) c.buffer_slot-slot.result q.0 (send_slots call) q.1.0 slot))

pub store_entry-requires-clause-seat : goal.store_entry-requires-clause-seat
store_entry-requires-clause-seat g c = record { at_table = c.requires.seat.at_table; told = c.requires.seat.told; order = c.requires.seat.order }

pub returns-clause-alone : goal.returns-clause-alone
returns-clause-alone g c =
    let n = c.args.call.now.who.number in let full = c.args.seat.now.me in let call = c.args.call.now in let z = c.args.self.now.sizes in let q = c.requires.call in let w = c.fill.new.slot in let lane = other call.who.end in
    stays_steps g.row.D.coded g.D.Desk.meaning n (Steps n 0 None) full (full.0, (c.buffer_slot-slot.result, w) ∷ rest full.1) c.store_entry.new.seat.me
    (swapped_stays n full (send_call call stage.Buffer) (buffer_slot z.to_host.capacity lane call.buffer) c.buffer_slot-slot.result q.0 w (send_slots call) q.1.0) c.store_entry.ensures.alone
