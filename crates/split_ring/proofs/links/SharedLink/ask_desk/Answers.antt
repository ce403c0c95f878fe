use Rattle.std.proofs.Common.{◌∷◌, [], refl, sym, ◌∙◌, subst, ap}
use Rattle.atomic_table.specs.Table.{rest}
use Rattle.link_words.specs.declared.rule.Event.TheVariants.{Step}
use Rattle.link_words.specs.declared.rule.Made.TheVariants as made
use Rattle.link_words.specs.declared.rule.Slot.{Slot}
use Rattle.link_words.specs.declared.rule.Slot.TheVariants.{Receiver}
use Rattle.link_words.specs.Calls.{SeatState}
use Rattle.link_words.specs.Words.{receiver_slot}
use Rattle.split_ring.specs.Binds.{asked_side, asked_call, desk_result}
use Rattle.split_ring.specs.Seats.{IsAt}
use Rattle.split_ring.specs.Sends.{live_era}
use Rattle.split_ring.specs.Walks.{same_hands}
use Rattle.split_ring.proofs.Focusing.{lent_alone, inside_alone, rewritten_alone, swapped_stays, steps_stay}
use Rattle.split_ring.proofs.Seats.{finds, done_then, still}
use Rattle.split_ring.proofs.BindSteps.{Asked, binds_at, asks_live, asks_dead, desk_ends}
use Rattle.lane_model.specs.declared.calls.CallEnd.{CallEnd}
use Rattle.lane_model.specs.declared.recoveries.LaneTurn.TheVariants as lane_turn
use Rattle.split_ring.specs.Turns.{IsLeaving}
use Rattle.split_ring.specs.Calls.{call_end, desk_said}
use Rattle.std.specs.Prelude.{Result, Ok, None}
use Rattle.rp_base.specs.declared.kinds.Endpoint.{Endpoint}
use Rattle.rp_base.specs.declared.kinds.BindFault.{BindFault}
use Rattle.split_ring.specs.Focus.{seat_of}
use Rattle.link_words.specs.Deeds.{Steps}
use Rattle.split_ring.proofs.links.SharedLink.ask_desk.Goals as goal

pub load_era-requires-clause-call : goal.load_era-requires-clause-call
load_era-requires-clause-call g c = let t = c.requires.turn in binds_at (seat_of c.args.who.number c.args.seat.now.me) c.args.who c.args.asked t.0 t.3

pub returns-else-is_live_in-clause-left : goal.returns-else-is_live_in-clause-left
returns-else-is_live_in-clause-left g c =
    let coded = g.row.D.coded in let meaning = g.D.Desk.meaning in let full = c.args.seat.now.me in let me = seat_of c.args.who.number full in let t = c.requires.turn in let full2 = c.load_era.new.seat.me in let me2 = seat_of c.args.who.number full2 in let n = c.load_era.result in
    let all = asks_dead coded meaning me me2 c.args.who c.args.asked me.0.sizes.desks n t.0 c.era_of-era.result t.3 c.load_era.ensures.told (finds coded meaning me me2 16 n c.load_era.ensures.step) c.era_of-era.ensures (sym c.is_live_in.ensures ∙ c.if-is_live_in.false) in all.0

pub returns-else-is_live_in-clause-dead : goal.returns-else-is_live_in-clause-dead
returns-else-is_live_in-clause-dead g c =
    let coded = g.row.D.coded in let meaning = g.D.Desk.meaning in let full = c.args.seat.now.me in let me = seat_of c.args.who.number full in let t = c.requires.turn in let full2 = c.load_era.new.seat.me in let me2 = seat_of c.args.who.number full2 in let n = c.load_era.result in
    let all = asks_dead coded meaning me me2 c.args.who c.args.asked me.0.sizes.desks n t.0 c.era_of-era.result t.3 c.load_era.ensures.told (finds coded meaning me me2 16 n c.load_era.ensures.step) c.era_of-era.ensures (sym c.is_live_in.ensures ∙ c.if-is_live_in.false) in (all.1, all.2)

pub slot_mut-side-requires : goal.slot_mut-side-requires
slot_mut-side-requires g c =
    let coded = g.row.D.coded in let meaning = g.D.Desk.meaning in let full = c.args.seat.now.me in let me = seat_of c.args.who.number full in let who = c.args.who in let z = c.args.self.now.sizes in let t = c.requires.turn in let x = t.0 in let full2 = c.load_era.new.seat.me in let me2 = seat_of c.args.who.number full2 in let n = c.load_era.result in
    let h : Asked coded meaning z who c.args.asked x me me2 = asks_live coded meaning z me me2 who c.args.asked n x c.era_of-era.result c.requires.seat.told t.3 c.load_era.ensures.told (finds coded meaning me me2 16 n c.load_era.ensures.step) c.era_of-era.ensures (sym c.is_live_in.ensures ∙ c.if-is_live_in.true) in
    (c.load_era.ensures.seat.at_table, (Receiver x, lent_alone who.number full2 (asked_call coded meaning who c.args.asked h.desk x) (receiver_slot who.end) c.receiver_slot.result (Receiver x) [] h.at c.receiver_slot.ensures))

pub change_desk-requires : goal.change_desk-requires
change_desk-requires g c =
    let coded = g.row.D.coded in let meaning = g.D.Desk.meaning in let full = c.args.seat.now.me in let me = seat_of c.args.who.number full in let who = c.args.who in let z = c.args.self.now.sizes in let t = c.requires.turn in let x = t.0 in let full2 = c.load_era.new.seat.me in let me2 = seat_of c.args.who.number full2 in let n = c.load_era.result in
    let h : Asked coded meaning z who c.args.asked x me me2 = asks_live coded meaning z me me2 who c.args.asked n x c.era_of-era.result c.requires.seat.told t.3 c.load_era.ensures.told (finds coded meaning me me2 16 n c.load_era.ensures.step) c.era_of-era.ensures (sym c.is_live_in.ensures ∙ c.if-is_live_in.true) in
    record { side = (x, inside_alone who.number full2 (asked_call coded meaning who c.args.asked h.desk x) (receiver_slot who.end) c.receiver_slot.result (Receiver x) c.slot_mut-side.result.now [] h.at c.slot_mut-side.ensures.value, h.right.table) }

pub returns-then-is_live_in-clause-left : goal.returns-then-is_live_in-clause-left
returns-then-is_live_in-clause-left g c =
    let coded = g.row.D.coded in let meaning = g.D.Desk.meaning in let full = c.args.seat.now.me in let me = seat_of c.args.who.number full in let who = c.args.who in let z = c.args.self.now.sizes in let t = c.requires.turn in let x = t.0 in let full2 = c.load_era.new.seat.me in let me2 = seat_of c.args.who.number full2 in let n = c.load_era.result in
    let h : Asked coded meaning z who c.args.asked x me me2 = asks_live coded meaning z me me2 who c.args.asked n x c.era_of-era.result c.requires.seat.told t.3 c.load_era.ensures.told (finds coded meaning me me2 16 n c.load_era.ensures.step) c.era_of-era.ensures (sym c.is_live_in.ensures ∙ c.if-is_live_in.true) in
    let after = asked_call coded meaning who c.args.asked h.desk x in
    let me3 : SeatState = seat_of who.number (full2.0, (c.receiver_slot.result, c.change_desk.new.slot) ∷ rest full2.1) in
    let said = c.change_desk.ensures.answered x h.desk (inside_alone who.number full2 after (receiver_slot who.end) c.receiver_slot.result (Receiver x) c.slot_mut-side.result.now [] h.at c.slot_mut-side.ensures.value) h.right.code in
    subst (λ (ended : CallEnd). IsLeaving lane_turn.Receiver who.end ended me3) (desk_ends meaning h.desk x.handed c.args.asked ∙ ap (λ (a : Result Endpoint BindFault). call_end (desk_said c.args.asked (desk_result (Ok a)))) (sym said.0)) (
      who.number,
      asked_side coded meaning h.desk x c.args.asked,
      0,
      [],
      subst (λ (y : Slot). IsAt me3 after ((receiver_slot who.end, y) ∷ [])) said.1 (rewritten_alone who.number full2 after (receiver_slot who.end) c.receiver_slot.result (Receiver x) c.change_desk.new.slot [] h.at c.receiver_slot.ensures),
    )

pub returns-then-is_live_in-clause-answered : goal.returns-then-is_live_in-clause-answered
returns-then-is_live_in-clause-answered g c =
    let coded = g.row.D.coded in let meaning = g.D.Desk.meaning in let full = c.args.seat.now.me in let me = seat_of c.args.who.number full in let who = c.args.who in let z = c.args.self.now.sizes in let t = c.requires.turn in let x = t.0 in let full2 = c.load_era.new.seat.me in let me2 = seat_of c.args.who.number full2 in let n = c.load_era.result in
    let h : Asked coded meaning z who c.args.asked x me me2 = asks_live coded meaning z me me2 who c.args.asked n x c.era_of-era.result c.requires.seat.told t.3 c.load_era.ensures.told (finds coded meaning me me2 16 n c.load_era.ensures.step) c.era_of-era.ensures (sym c.is_live_in.ensures ∙ c.if-is_live_in.true) in
    let after = asked_call coded meaning who c.args.asked h.desk x in
    let me3 : SeatState = seat_of who.number (full2.0, (c.receiver_slot.result, c.change_desk.new.slot) ∷ rest full2.1) in
    let said = c.change_desk.ensures.answered x h.desk (inside_alone who.number full2 after (receiver_slot who.end) c.receiver_slot.result (Receiver x) c.slot_mut-side.result.now [] h.at c.slot_mut-side.ensures.value) h.right.code in (
      record {
        side = x;
        desk = h.desk;
        right = h.right;
        at = t.3;
        answered = said.0;
        left = subst (λ (y : Slot). IsAt me3 after ((receiver_slot who.end, y) ∷ [])) said.1 (rewritten_alone who.number full2 after (receiver_slot who.end) c.receiver_slot.result (Receiver x) c.change_desk.new.slot [] h.at c.receiver_slot.ensures);
      },
      done_then coded meaning [] (Step (made.Era (live_era who.follows)) ∷ []) same_hands same_hands me me2 me3 h.done (still coded meaning me2 me3 refl),
    )

pub returns-then-is_live_in-clause-seat : goal.returns-then-is_live_in-clause-seat
returns-then-is_live_in-clause-seat g c = record { at_table = c.load_era.ensures.seat.at_table; told = c.load_era.ensures.seat.told; order = c.load_era.ensures.seat.order }

pub returns-then-is_live_in-clause-alone : goal.returns-then-is_live_in-clause-alone
returns-then-is_live_in-clause-alone g c =
    let coded = g.row.D.coded in let meaning = g.D.Desk.meaning in let full = c.args.seat.now.me in let who = c.args.who in let k = who.number in let me = seat_of k full in let z = c.args.self.now.sizes in let t = c.requires.turn in let x = t.0 in let full2 = c.load_era.new.seat.me in let me2 = seat_of k full2 in let n = c.load_era.result in
    let h : Asked coded meaning z who c.args.asked x me me2 = asks_live coded meaning z me me2 who c.args.asked n x c.era_of-era.result c.requires.seat.told t.3 c.load_era.ensures.told (finds coded meaning me me2 16 n c.load_era.ensures.step) c.era_of-era.ensures (sym c.is_live_in.ensures ∙ c.if-is_live_in.true) in
    steps_stay coded meaning k (Steps k 0 None) full full2 (full2.0, (c.receiver_slot.result, c.change_desk.new.slot) ∷ rest full2.1) c.load_era.ensures.alone
    (swapped_stays k full2 (asked_call coded meaning who c.args.asked h.desk x) (receiver_slot who.end) c.receiver_slot.result (Receiver x) c.change_desk.new.slot [] h.at)
