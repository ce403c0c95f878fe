use Rattle.std.proofs.Common.{◌≡◌, ℕ, ◌∷◌, [], List, refl, sym, ap, ◌∙◌, subst}
use Rattle.atomic_table.specs.Table.{rest}
use Rattle.lane_model.specs.declared.calls.CallEnd.TheVariants as end
use Rattle.lane_model.specs.declared.stages.TakeStage.TheVariants as take_stage
use Rattle.lane_model.specs.declared.stages.Turn.TheVariants as turn
use Rattle.lane_model.specs.declared.stages.Work.TheVariants as work
use Rattle.link_words.specs.declared.rule.Call.{Call}
use Rattle.link_words.specs.declared.rule.Call.TheVariants.{Receives}
use Rattle.link_words.specs.declared.rule.Event.TheVariants.{Step, Take}
use Rattle.link_words.specs.declared.rule.Made.TheVariants as made
use Rattle.link_words.specs.declared.rule.Slot.{Slot}
use Rattle.link_words.specs.declared.rule.Slot.TheVariants.{Buffer, Receiver}
use Rattle.link_words.specs.Calls.{SeatState}
use Rattle.link_words.specs.Steps.{handed_side}
use Rattle.link_words.specs.Words.{buffer_slot, receiver_slot}
use Rattle.split_ring.specs.Receives.{HasBufferOut}
use Rattle.split_ring.specs.Seats.{IsAt}
use Rattle.split_ring.specs.Sends.{live_era}
use Rattle.split_ring.specs.Turns.{receive_call, receive_slots, IsLeaving}
use Rattle.split_ring.specs.Walks.{same_hands, one_more, HasDone}
use Rattle.split_ring.proofs.Focusing.{lent_alone, inside_alone, rewritten_alone, swapped_stays, stays_steps, steps_stay}
use Rattle.split_ring.proofs.Seats.{finds, done_then, still}
use Rattle.split_ring.proofs.TakeSteps.{Handed, hands_at, hands_live, hands_dead}
use Rattle.lane_model.specs.declared.calls.CallEnd.{CallEnd}
use Rattle.lane_model.specs.declared.recoveries.LaneTurn.TheVariants as lane_turn
use Rattle.split_ring.specs.Focus.{seat_of, front, count_of}
use Rattle.link_words.specs.Deeds.{Steps}
use Rattle.std.specs.Prelude.{None}
use Rattle.split_ring.proofs.links.SharedLink.hand_over.Goals as goal

pub slot_mut-requires : goal.slot_mut-requires
slot_mut-requires g c =
    let coded = g.row.D.coded in let meaning = g.D.Desk.meaning in let full = c.args.seat.now.me in let n = c.args.call.now.who.number in let me = seat_of n full in let call = c.args.call.now in let who = call.who in let z = c.args.self.now.sizes in let b = c.args.buffer in
    let m = c.requires.call.0 in let out = c.requires.call.1 in let x = out.side in let w = work.Take take_stage.Buffer in let k = c.buffer_slot-slot.result in
    (c.requires.seat.at_table, (Buffer m, lent_alone n full (receive_call who w x b m) (buffer_slot z.to_host.capacity who.end b) k (Buffer m) (receive_slots who x) out.at c.buffer_slot-slot.ensures))

pub load_era-requires-clause-call : goal.load_era-requires-clause-call
load_era-requires-clause-call g c =
    let coded = g.row.D.coded in let meaning = g.D.Desk.meaning in let full = c.args.seat.now.me in let n = c.args.call.now.who.number in let me = seat_of n full in let call = c.args.call.now in let who = call.who in let z = c.args.self.now.sizes in let b = c.args.buffer in
    let m = c.requires.call.0 in let out = c.requires.call.1 in let x = out.side in let w = work.Take take_stage.Buffer in let k = c.buffer_slot-slot.result in
    let full1 : SeatState = (full.0, (k, c.slot_mut.result.now) ∷ rest full.1) in let me1 = seat_of n full1 in
    let out1 : HasBufferOut z call w b m me1 = record { side = x; handed = out.handed; most = out.most; at = record { one = out.at.one; in_call = out.at.in_call; out = ap (front (count_of n full)) (sym c.slot_mut.ensures.value) ∙ out.at.out } } in
    hands_at coded meaning z me1 call b m c.requires.seat.told out1

pub returns-else-is_live_in-clause-left : goal.returns-else-is_live_in-clause-left
returns-else-is_live_in-clause-left g c =
    let coded = g.row.D.coded in let meaning = g.D.Desk.meaning in let full = c.args.seat.now.me in let n = c.args.call.now.who.number in let me = seat_of n full in let call = c.args.call.now in let who = call.who in let z = c.args.self.now.sizes in let b = c.args.buffer in
    let m = c.requires.call.0 in let out = c.requires.call.1 in let x = out.side in let w = work.Take take_stage.Buffer in let k = c.buffer_slot-slot.result in
    let full1 : SeatState = (full.0, (k, c.slot_mut.result.now) ∷ rest full.1) in let me1 = seat_of n full1 in
    let out1 : HasBufferOut z call w b m me1 = record { side = x; handed = out.handed; most = out.most; at = record { one = out.at.one; in_call = out.at.in_call; out = ap (front (count_of n full)) (sym c.slot_mut.ensures.value) ∙ out.at.out } } in
    let full2 = c.load_era.new.seat.me in let me2 = seat_of n full2 in let y = c.load_era.result in let step = finds coded meaning me1 me2 16 y c.load_era.ensures.step in
    let all = hands_dead coded meaning z me1 me2 call y b m c.era_of-era.result out1 c.load_era.ensures.told step c.era_of-era.ensures (sym c.is_live_in.ensures ∙ c.if-is_live_in.false) in
    all.0

pub returns-else-is_live_in-clause-dead : goal.returns-else-is_live_in-clause-dead
returns-else-is_live_in-clause-dead g c =
    let coded = g.row.D.coded in let meaning = g.D.Desk.meaning in let full = c.args.seat.now.me in let n = c.args.call.now.who.number in let me = seat_of n full in let call = c.args.call.now in let who = call.who in let z = c.args.self.now.sizes in let b = c.args.buffer in
    let m = c.requires.call.0 in let out = c.requires.call.1 in let x = out.side in let w = work.Take take_stage.Buffer in let k = c.buffer_slot-slot.result in
    let full1 : SeatState = (full.0, (k, c.slot_mut.result.now) ∷ rest full.1) in let me1 = seat_of n full1 in
    let out1 : HasBufferOut z call w b m me1 = record { side = x; handed = out.handed; most = out.most; at = record { one = out.at.one; in_call = out.at.in_call; out = ap (front (count_of n full)) (sym c.slot_mut.ensures.value) ∙ out.at.out } } in
    let full2 = c.load_era.new.seat.me in let me2 = seat_of n full2 in let y = c.load_era.result in let step = finds coded meaning me1 me2 16 y c.load_era.ensures.step in
    let all = hands_dead coded meaning z me1 me2 call y b m c.era_of-era.result out1 c.load_era.ensures.told step c.era_of-era.ensures (sym c.is_live_in.ensures ∙ c.if-is_live_in.false) in
    (all.1, done_then coded meaning (Step (made.Era c.era_of-era.result) ∷ []) [] same_hands same_hands me me1 me2 (still coded meaning me me1 refl) all.2)

pub slot_mut-side-requires : goal.slot_mut-side-requires
slot_mut-side-requires g c =
    let coded = g.row.D.coded in let meaning = g.D.Desk.meaning in let full = c.args.seat.now.me in let n = c.args.call.now.who.number in let me = seat_of n full in let call = c.args.call.now in let who = call.who in let z = c.args.self.now.sizes in let b = c.args.buffer in
    let m = c.requires.call.0 in let out = c.requires.call.1 in let x = out.side in let w = work.Take take_stage.Buffer in let k = c.buffer_slot-slot.result in
    let full1 : SeatState = (full.0, (k, c.slot_mut.result.now) ∷ rest full.1) in let me1 = seat_of n full1 in
    let out1 : HasBufferOut z call w b m me1 = record { side = x; handed = out.handed; most = out.most; at = record { one = out.at.one; in_call = out.at.in_call; out = ap (front (count_of n full)) (sym c.slot_mut.ensures.value) ∙ out.at.out } } in
    let full2 = c.load_era.new.seat.me in let me2 = seat_of n full2 in let y = c.load_era.result in let step = finds coded meaning me1 me2 16 y c.load_era.ensures.step in
    let h : Handed coded meaning z call x b m me1 me2 = hands_live coded meaning z me1 me2 call y b m c.era_of-era.result c.requires.seat.told out1 c.load_era.ensures.told step c.era_of-era.ensures (sym c.is_live_in.ensures ∙ c.if-is_live_in.true) in
    let after : Call = Receives who.end (turn.Leaving who.number (end.Took x.handed (meaning.verdict h.desk x.handed m))) (handed_side coded meaning h.desk x who.number b m) b m in
    (c.load_era.ensures.seat.at_table, (Receiver x, lent_alone n full2 after (receiver_slot who.end) c.receiver_slot.result (Receiver x) [] h.at c.receiver_slot.ensures))

pub judge-verdict-requires : goal.judge-verdict-requires
judge-verdict-requires g c =
    let coded = g.row.D.coded in let meaning = g.D.Desk.meaning in let full = c.args.seat.now.me in let n = c.args.call.now.who.number in let me = seat_of n full in let call = c.args.call.now in let who = call.who in let z = c.args.self.now.sizes in let b = c.args.buffer in
    let m = c.requires.call.0 in let out = c.requires.call.1 in let x = out.side in let w = work.Take take_stage.Buffer in let k = c.buffer_slot-slot.result in
    let full1 : SeatState = (full.0, (k, c.slot_mut.result.now) ∷ rest full.1) in let me1 = seat_of n full1 in
    let out1 : HasBufferOut z call w b m me1 = record { side = x; handed = out.handed; most = out.most; at = record { one = out.at.one; in_call = out.at.in_call; out = ap (front (count_of n full)) (sym c.slot_mut.ensures.value) ∙ out.at.out } } in
    let full2 = c.load_era.new.seat.me in let me2 = seat_of n full2 in let y = c.load_era.result in let step = finds coded meaning me1 me2 16 y c.load_era.ensures.step in
    let h : Handed coded meaning z call x b m me1 me2 = hands_live coded meaning z me1 me2 call y b m c.era_of-era.result c.requires.seat.told out1 c.load_era.ensures.told step c.era_of-era.ensures (sym c.is_live_in.ensures ∙ c.if-is_live_in.true) in
    let after : Call = Receives who.end (turn.Leaving who.number (end.Took x.handed (meaning.verdict h.desk x.handed m))) (handed_side coded meaning h.desk x who.number b m) b m in
    record { side = (x, inside_alone n full2 after (receiver_slot who.end) c.receiver_slot.result (Receiver x) c.slot_mut-side.result.now [] h.at c.slot_mut-side.ensures.value, h.takers, h.room, h.right.table) }

pub returns-then-is_live_in-clause-left : goal.returns-then-is_live_in-clause-left
returns-then-is_live_in-clause-left g c =
    let coded = g.row.D.coded in let meaning = g.D.Desk.meaning in let full = c.args.seat.now.me in let n = c.args.call.now.who.number in let me = seat_of n full in let call = c.args.call.now in let who = call.who in let z = c.args.self.now.sizes in let b = c.args.buffer in
    let m = c.requires.call.0 in let out = c.requires.call.1 in let x = out.side in let w = work.Take take_stage.Buffer in let k = c.buffer_slot-slot.result in
    let full1 : SeatState = (full.0, (k, c.slot_mut.result.now) ∷ rest full.1) in let me1 = seat_of n full1 in
    let out1 : HasBufferOut z call w b m me1 = record { side = x; handed = out.handed; most = out.most; at = record { one = out.at.one; in_call = out.at.in_call; out = ap (front (count_of n full)) (sym c.slot_mut.ensures.value) ∙ out.at.out } } in
    let full2 = c.load_era.new.seat.me in let me2 = seat_of n full2 in let y = c.load_era.result in let step = finds coded meaning me1 me2 16 y c.load_era.ensures.step in
    let h : Handed coded meaning z call x b m me1 me2 = hands_live coded meaning z me1 me2 call y b m c.era_of-era.result c.requires.seat.told out1 c.load_era.ensures.told step c.era_of-era.ensures (sym c.is_live_in.ensures ∙ c.if-is_live_in.true) in
    let after : Call = Receives who.end (turn.Leaving who.number (end.Took x.handed (meaning.verdict h.desk x.handed m))) (handed_side coded meaning h.desk x who.number b m) b m in
    let full3 : SeatState = (full2.0, (c.receiver_slot.result, c.judge-verdict.new.slot) ∷ rest full2.1) in let me3 = seat_of n full3 in
    let said : c.read_message.new.message ≡ m = c.read_message.ensures m (inside_alone n full (receive_call who w x b m) (buffer_slot z.to_host.capacity who.end b) k (Buffer m) c.slot_mut.result.now (receive_slots who x) out.at c.slot_mut.ensures.value) in
    let judged = c.judge-verdict.ensures.judged x h.desk (inside_alone n full2 after (receiver_slot who.end) c.receiver_slot.result (Receiver x) c.slot_mut-side.result.now [] h.at c.slot_mut-side.ensures.value) h.right.code in
    subst (λ (ended : CallEnd). IsLeaving lane_turn.Receiver who.end ended me3) (λ i. end.Took (out.handed i) ((ap (meaning.verdict h.desk x.handed) (sym said) ∙ sym judged.0) i)) (
      who.number,
      handed_side coded meaning h.desk x who.number b m,
      b,
      m,
      subst (λ (y : Slot). IsAt me3 after ((receiver_slot who.end, y) ∷ [])) (judged.1 ∙ ap (λ (l : List ℕ). Receiver (handed_side coded meaning h.desk x who.number b l)) said)
          (rewritten_alone n full2 after (receiver_slot who.end) c.receiver_slot.result (Receiver x) c.judge-verdict.new.slot [] h.at c.receiver_slot.ensures),
    )

pub returns-then-is_live_in-clause-handed : goal.returns-then-is_live_in-clause-handed
returns-then-is_live_in-clause-handed g c =
    let coded = g.row.D.coded in let meaning = g.D.Desk.meaning in let full = c.args.seat.now.me in let n = c.args.call.now.who.number in let me = seat_of n full in let call = c.args.call.now in let who = call.who in let z = c.args.self.now.sizes in let b = c.args.buffer in
    let m = c.requires.call.0 in let out = c.requires.call.1 in let x = out.side in let w = work.Take take_stage.Buffer in let k = c.buffer_slot-slot.result in
    let full1 : SeatState = (full.0, (k, c.slot_mut.result.now) ∷ rest full.1) in let me1 = seat_of n full1 in
    let out1 : HasBufferOut z call w b m me1 = record { side = x; handed = out.handed; most = out.most; at = record { one = out.at.one; in_call = out.at.in_call; out = ap (front (count_of n full)) (sym c.slot_mut.ensures.value) ∙ out.at.out } } in
    let full2 = c.load_era.new.seat.me in let me2 = seat_of n full2 in let y = c.load_era.result in let step = finds coded meaning me1 me2 16 y c.load_era.ensures.step in
    let h : Handed coded meaning z call x b m me1 me2 = hands_live coded meaning z me1 me2 call y b m c.era_of-era.result c.requires.seat.told out1 c.load_era.ensures.told step c.era_of-era.ensures (sym c.is_live_in.ensures ∙ c.if-is_live_in.true) in
    let after : Call = Receives who.end (turn.Leaving who.number (end.Took x.handed (meaning.verdict h.desk x.handed m))) (handed_side coded meaning h.desk x who.number b m) b m in
    let full3 : SeatState = (full2.0, (c.receiver_slot.result, c.judge-verdict.new.slot) ∷ rest full2.1) in let me3 = seat_of n full3 in
    let said : c.read_message.new.message ≡ m = c.read_message.ensures m (inside_alone n full (receive_call who w x b m) (buffer_slot z.to_host.capacity who.end b) k (Buffer m) c.slot_mut.result.now (receive_slots who x) out.at c.slot_mut.ensures.value) in
    let judged = c.judge-verdict.ensures.judged x h.desk (inside_alone n full2 after (receiver_slot who.end) c.receiver_slot.result (Receiver x) c.slot_mut-side.result.now [] h.at c.slot_mut-side.ensures.value) h.right.code in (
      m,
      record {
        lane = refl;
        caller = refl;
        numbered = refl;
        said = said;
        desk = h.desk;
        judged = judged.0 ∙ (λ i. meaning.verdict h.desk (out.handed i) (said i));
      },
      subst (λ (i : ℕ). HasDone coded meaning (Step (made.Era (live_era who.follows)) ∷ Take who.end who.follows i m ∷ []) (one_more i) me me3) out.handed
          (done_then coded meaning [] (Step (made.Era (live_era who.follows)) ∷ Take who.end who.follows x.handed m ∷ []) same_hands (one_more x.handed) me me2 me3
          (done_then coded meaning (Step (made.Era (live_era who.follows)) ∷ Take who.end who.follows x.handed m ∷ []) [] (one_more x.handed) same_hands me me1 me2 (still coded meaning me me1 refl) h.done) (still coded meaning me2 me3 refl)),
    )

pub load_era-requires-clause-seat : goal.load_era-requires-clause-seat
load_era-requires-clause-seat g c = record { at_table = c.requires.seat.at_table; told = c.requires.seat.told; order = c.requires.seat.order }

pub returns-then-is_live_in-clause-seat : goal.returns-then-is_live_in-clause-seat
returns-then-is_live_in-clause-seat g c = record { at_table = c.load_era.ensures.seat.at_table; told = c.load_era.ensures.seat.told; order = c.load_era.ensures.seat.order }

pub returns-else-is_live_in-clause-alone : goal.returns-else-is_live_in-clause-alone
returns-else-is_live_in-clause-alone g c =
    let coded = g.row.D.coded in let meaning = g.D.Desk.meaning in let full = c.args.seat.now.me in let n = c.args.call.now.who.number in let me = seat_of n full in let call = c.args.call.now in let who = call.who in let z = c.args.self.now.sizes in let b = c.args.buffer in
    let m = c.requires.call.0 in let out = c.requires.call.1 in let x = out.side in let w = work.Take take_stage.Buffer in let k = c.buffer_slot-slot.result in
    let full1 : SeatState = (full.0, (k, c.slot_mut.result.now) ∷ rest full.1) in let me1 = seat_of n full1 in
    stays_steps coded meaning n (Steps n 0 None) full full1 c.load_era.new.seat.me (swapped_stays n full (receive_call who w x b m) (buffer_slot z.to_host.capacity who.end b) k (Buffer m) c.slot_mut.result.now (receive_slots who x) out.at) c.load_era.ensures.alone

pub returns-then-is_live_in-clause-alone : goal.returns-then-is_live_in-clause-alone
returns-then-is_live_in-clause-alone g c =
    let coded = g.row.D.coded in let meaning = g.D.Desk.meaning in let full = c.args.seat.now.me in let n = c.args.call.now.who.number in let me = seat_of n full in let call = c.args.call.now in let who = call.who in let z = c.args.self.now.sizes in let b = c.args.buffer in
    let m = c.requires.call.0 in let out = c.requires.call.1 in let x = out.side in let w = work.Take take_stage.Buffer in let k = c.buffer_slot-slot.result in
    let full1 : SeatState = (full.0, (k, c.slot_mut.result.now) ∷ rest full.1) in let me1 = seat_of n full1 in
    let out1 : HasBufferOut z call w b m me1 = record { side = x; handed = out.handed; most = out.most; at = record { one = out.at.one; in_call = out.at.in_call; out = ap (front (count_of n full)) (sym c.slot_mut.ensures.value) ∙ out.at.out } } in
    let full2 = c.load_era.new.seat.me in let me2 = seat_of n full2 in let y = c.load_era.result in let step = finds coded meaning me1 me2 16 y c.load_era.ensures.step in
    let h : Handed coded meaning z call x b m me1 me2 = hands_live coded meaning z me1 me2 call y b m c.era_of-era.result c.requires.seat.told out1 c.load_era.ensures.told step c.era_of-era.ensures (sym c.is_live_in.ensures ∙ c.if-is_live_in.true) in
    let after : Call = Receives who.end (turn.Leaving who.number (end.Took x.handed (meaning.verdict h.desk x.handed m))) (handed_side coded meaning h.desk x who.number b m) b m in
    let full3 : SeatState = (full2.0, (c.receiver_slot.result, c.judge-verdict.new.slot) ∷ rest full2.1) in
    steps_stay coded meaning n (Steps n 0 None) full full2 full3
    (stays_steps coded meaning n (Steps n 0 None) full full1 full2 (swapped_stays n full (receive_call who w x b m) (buffer_slot z.to_host.capacity who.end b) k (Buffer m) c.slot_mut.result.now (receive_slots who x) out.at) c.load_era.ensures.alone)
    (swapped_stays n full2 after (receiver_slot who.end) c.receiver_slot.result (Receiver x) c.judge-verdict.new.slot [] h.at)

pub returns-then-is_live_in-clause-out : goal.returns-then-is_live_in-clause-out
returns-then-is_live_in-clause-out g c =
    let full = c.args.seat.now.me in let n = c.args.call.now.who.number in let me = seat_of n full in let call = c.args.call.now in let who = call.who in let z = c.args.self.now.sizes in let b = c.args.buffer in
    let m = c.requires.call.0 in let out = c.requires.call.1 in let x = out.side in let w = work.Take take_stage.Buffer in let k = c.buffer_slot-slot.result in
    let said : c.read_message.new.message ≡ m = c.read_message.ensures m (inside_alone n full (receive_call who w x b m) (buffer_slot z.to_host.capacity who.end b) k (Buffer m) c.slot_mut.result.now (receive_slots who x) out.at c.slot_mut.ensures.value) in
    subst (λ (l : List ℕ). HasBufferOut z call w b l me) (sym said) out
