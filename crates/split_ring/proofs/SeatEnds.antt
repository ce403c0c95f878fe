-- The end of a call by its pass of a seat that may have several: what its steps change, one after the other.
use Rattle.std.proofs.Common.{◌≡◌, ℕ, zero, suc, ◌-◌, Bool, true, false, cond, length, List, [], ◌∷◌, ◌++◌, refl, sym, ap, ◌∙◌, subst, arith}
use Rattle.std.specs.Prelude.{Some}
use Rattle.atomic_table.specs.Table.{rest, turned}
use Rattle.rp_base.specs.declared.kinds.End.{End}
use Rattle.rp_base.specs.declared.kinds.End.TheVariants as side
use Rattle.lane_model.specs.declared.lane_links.LaneLink.{LaneLink}
use Rattle.lane_model.specs.declared.recoveries.LaneTurn.TheVariants as lane_turn
use Rattle.lane_model.specs.declared.stages.Receiving.{Receiving}
use Rattle.lane_model.specs.declared.stages.SendStage.{SendStage}
use Rattle.lane_model.specs.declared.stages.SendStage.TheVariants as stage
use Rattle.lane_model.specs.declared.stages.Sending.{Sending}
use Rattle.lane_model.specs.declared.stages.TakeStage.TheVariants as take_stage
use Rattle.lane_model.specs.declared.stages.Turn.{Turn}
use Rattle.lane_model.specs.declared.stages.Turn.TheVariants as turn
use Rattle.lane_model.specs.declared.stages.Work.{Work}
use Rattle.lane_model.specs.declared.stages.Work.TheVariants as work
use Rattle.lane_model.specs.Desks.{DeskMeaning}
use Rattle.lane_model.specs.Lanes.{holder}
use Rattle.ring_core.specs.declared.states.RingState.{RingState}
use Rattle.ring_core.specs.Owners.{sender_is_out, receiver_is_out, send_is_out, work_is_out}
use Rattle.link_words.specs.declared.rule.Call.TheVariants.{Rests, Sends, Receives}
use Rattle.link_words.specs.declared.rule.LinkSizes.{LinkSizes}
use Rattle.link_words.specs.declared.rule.Pass.{Pass}
use Rattle.link_words.specs.declared.rule.ReceiverSide.{ReceiverSide}
use Rattle.link_words.specs.declared.rule.Slot.{Slot}
use Rattle.link_words.specs.declared.rule.Slot.TheVariants.{Buffer, Receiver}
use Rattle.link_words.specs.declared.rule.View.{View}
use Rattle.link_words.specs.Calls.{SeatState, call_at, with_pass_at}
use Rattle.link_words.specs.Deeds.{ManagerTakes, after_deed}
use Rattle.link_words.specs.Passes.{place_of_number, with_call}
use Rattle.link_words.specs.Reclaims.{MayEnd, without_hands, doomed_call, ended_pass, slots_left}
use Rattle.link_words.specs.Words.{other, receiver_slot, buffer_slot}
use Rattle.split_ring.specs.Carried.{turned_by}
use Rattle.split_ring.specs.declared.callers.CallerId.{CallerId}
use Rattle.split_ring.specs.declared.ends.TurnHeld.{TurnHeld}
use Rattle.split_ring.specs.declared.ends.TurnHeld.TheVariants as held
use Rattle.split_ring.specs.Focus.{send_count, work_count, send_turn_count, work_turn_count, slot_count, front, behind, count_of, seat_of, others_of, IsAlone, LeavesOthers, StaysAlone}
use Rattle.split_ring.specs.Reclaims.{HasSend, HasReceive, HasTurnHeld, IsNow, IsReceiver, StandsAlone, ended_of, SendSlots, TakeSlots, turn_slots}
use Rattle.split_ring.specs.Seats.{pass_in}
use Rattle.split_ring.proofs.EndSteps.{receive_doomed, doomed_receive, take_slots, buffer_first, aside_slots, take_leaves, take_left}
use Rattle.split_ring.proofs.Focusing.{alone_at, call_alone}
use Rattle.split_ring.proofs.Turning.{front_behind, turned_parts}

-- two changes of a pass are one
pass_twice : (f g : Pass → Pass) (k : ℕ) (ps : List Pass) → with_pass_at g k (with_pass_at f k ps) ≡ with_pass_at (λ p. g (f p)) k ps
pass_twice f g k [] = refl
pass_twice f g zero (p ∷ ps) = refl
pass_twice f g (suc k) (p ∷ ps) = ap (λ (l : List Pass). p ∷ l) (pass_twice f g k ps)

pass_same : (k : ℕ) (ps : List Pass) → ps ≡ with_pass_at (λ p. p) k ps
pass_same k [] = refl
pass_same zero (p ∷ ps) = refl
pass_same (suc k) (p ∷ ps) = ap (λ (l : List Pass). p ∷ l) (pass_same k ps)

pub leaves_then : (n : ℕ) (a b c : SeatState) → LeavesOthers n a b → LeavesOthers n b c → LeavesOthers n a c
leaves_then n a b c one two = record {
  change = λ p. two.change (one.change p);
  view = two.view ∙ ((λ i. record (one.view i) { copy = c.0.copy; passes = with_pass_at two.change (one.here i) (one.view i).passes })
      ∙ (λ i. record a.0 { copy = c.0.copy; passes = pass_twice one.change two.change (place_of_number n a.0.passes) a.0.passes i }));
  here = two.here ∙ one.here;
  others = two.others ∙ one.others;
}

pub stays_leaves : (n : ℕ) (a b : SeatState) → StaysAlone n a b → LeavesOthers n a b
stays_leaves n a b stays = record {
  change = λ p. p;
  view = stays.view ∙ (λ i. record a.0 { copy = (sym stays.view i).copy; passes = pass_same (place_of_number n a.0.passes) a.0.passes i });
  here = ap (λ (v : View). place_of_number n v.passes) stays.view;
  others = stays.others;
}

pub leaves_none : (n : ℕ) (a : SeatState) → LeavesOthers n a a
leaves_none n a = stays_leaves n a a (record { view = refl; others = refl })

-- a turn that is another's stays so when the manager asks for it
abbrev host_by : {D : Type 0} → LaneLink (RingState D) → Turn Receiving → LaneLink (RingState D)
host_by m t = record m { to_host = record m.to_host { lane = record m.to_host.lane { receiver = t } } }

abbrev remote_by : {D : Type 0} → LaneLink (RingState D) → Turn Receiving → LaneLink (RingState D)
remote_by m t = record m { to_remote = record m.to_remote { lane = record m.to_remote.lane { receiver = t } } }

pub takes_nothing : {D : Type 0} (meaning : DeskMeaning D) (e : End) (found : ℕ) (m : LaneLink (RingState D)) → IsReceiver e found m → after_deed meaning m (ManagerTakes lane_turn.Receiver e) ≡ m
takes_nothing meaning side.Host found m is = by m.to_host.lane.receiver is
  where
    by : (t : Turn Receiving) → holder t ≡ Some found → after_deed meaning (host_by m t) (ManagerTakes lane_turn.Receiver side.Host) ≡ host_by m t
    by turn.Free is = absurd (cc)
    by (turn.Taken caller call) is = refl
    by (turn.Leaving caller end) is = refl
    by turn.Manager is = refl
takes_nothing meaning side.Remote found m is = by m.to_remote.lane.receiver is
  where
    by : (t : Turn Receiving) → holder t ≡ Some found → after_deed meaning (remote_by m t) (ManagerTakes lane_turn.Receiver side.Remote) ≡ remote_by m t
    by turn.Free is = absurd (cc)
    by (turn.Taken caller call) is = refl
    by (turn.Leaving caller end) is = refl
    by turn.Manager is = refl

-- how many slots are out with a turn
abbrev out_count : Bool → ℕ
out_count out = cond out 2 1

send_out : (s : SendStage) → send_count s ≡ out_count (send_is_out s)
send_out stage.Turn = refl
send_out stage.Era = refl
send_out stage.Look = refl
send_out stage.Buffer = refl
send_out stage.Entry = refl

send_turn_out : (t : Turn Sending) → send_turn_count t ≡ out_count (sender_is_out t)
send_turn_out turn.Free = refl
send_turn_out (turn.Taken caller call) = send_out call.stage
send_turn_out (turn.Leaving caller end) = refl
send_turn_out turn.Manager = refl

work_out : (w : Work) → work_count w ≡ out_count (work_is_out w)
work_out (work.Take take_stage.Turn) = refl
work_out (work.Take take_stage.Era) = refl
work_out (work.Take take_stage.Look) = refl
work_out (work.Take take_stage.Buffer) = refl
work_out (work.Give number given) = refl
work_out (work.Bind address) = refl
work_out (work.Unbind address) = refl

work_turn_out : (t : Turn Receiving) → work_turn_count t ≡ out_count (receiver_is_out t)
work_turn_out turn.Free = refl
work_turn_out (turn.Taken caller call) = work_out call.work
work_turn_out (turn.Leaving caller end) = refl
work_turn_out turn.Manager = refl

send_long : (out : Bool) (buffer slot : ℕ) (x : Slot) (slots : List (ℕ × Slot)) → SendSlots out buffer slot x slots → out_count out ≡ length slots
send_long true buffer slot x slots (y, is) = sym (ap length is)
send_long false buffer slot x slots is = sym (ap length is)

take_long : (out : Bool) (buffer slot : ℕ) (message : List ℕ) (x : Slot) (slots : List (ℕ × Slot)) → TakeSlots out buffer message slot x slots → out_count out ≡ length slots
take_long true buffer slot message x slots is = sym (ap length is)
take_long false buffer slot message x slots is = sym (ap length is)

-- a seat with one pass, and the slots of its turn
send_alone : (z : LinkSizes) (who : CallerId) (out : Bool) (me : SeatState) → HasSend z who out me → (pass_in me).number ≡ who.number → IsAlone who.number me × (out_count out ≡ length me.1)
send_alone z who out me h number = let long = send_long out _ _ _ me.1 h.slots in
    (alone_at who.number me (Sends (other who.end) h.turn h.side h.buffer) me.1 h.at number (send_turn_out h.turn ∙ (ap out_count h.is_out ∙ long)), long)

receive_alone : (z : LinkSizes) (who : CallerId) (out : Bool) (me : SeatState) → HasReceive z who out me → (pass_in me).number ≡ who.number → IsAlone who.number me × (out_count out ≡ length me.1)
receive_alone z who out me h number = let long = take_long out _ _ _ _ me.1 h.slots in
    (alone_at who.number me (Receives who.end h.turn h.side h.buffer h.message) me.1 h.at number (work_turn_out h.turn ∙ (ap out_count h.is_out ∙ long)), long)

pub held_alone : (z : LinkSizes) (who : CallerId) (t : TurnHeld) (me : SeatState) → HasTurnHeld z who t me → (pass_in me).number ≡ who.number → IsAlone who.number me × (turn_slots t ≡ length me.1)
held_alone z who held.Neither me at number = (alone_at who.number me (Rests who.end) [] at number refl, sym (ap length at.out))
held_alone z who held.Sender me h number = send_alone z who false me h number
held_alone z who held.SenderAndBuffer me h number = send_alone z who true me h number
held_alone z who held.Receiver me h number = receive_alone z who false me h number
held_alone z who held.ReceiverAndBuffer me h number = receive_alone z who true me h number

-- a turn whose buffer is out, with others' slots behind: the buffer goes behind them, what the caller held is put aside, and the buffer comes to the front again
module _ (z : LinkSizes) (who : CallerId) (me me1 : SeatState) (h : HasReceive z who true (seat_of who.number me))
    (closed : IsNow (with_call (pass_in (seat_of who.number me)) (doomed_call (pass_in (seat_of who.number me)).call)) (seat_of who.number me).1 (seat_of who.number me) (seat_of who.number me1)) where
  abbrev now : IsNow (doomed_receive z who true (seat_of who.number me) h) (seat_of who.number me).1 (seat_of who.number me) (seat_of who.number me1)
  now = receive_doomed z who true (seat_of who.number me) h (seat_of who.number me1) closed

  abbrev buffer_out : ℕ × Slot
  buffer_out = (buffer_slot z.to_host.capacity who.end h.buffer, Buffer h.message)

  abbrev side_aside : ℕ × Slot
  side_aside = (receiver_slot who.end, Receiver (without_hands h.side who.number))

  abbrev pub behind_side : List (ℕ × Slot)
  behind_side = others_of who.number me1 ++ buffer_out ∷ []

  abbrev pub aside_state : SeatState
  aside_state = (me1.0, buffer_out ∷ side_aside ∷ others_of who.number me1)

  two_out : count_of who.number me1 ≡ 2
  two_out = ap slot_count (call_alone (place_of_number who.number me1.0.passes) me1.0.passes ∙ ap (call_at 0) now.one) ∙ (work_turn_out h.turn ∙ ap out_count h.is_out)

  all_out : me1.1 ≡ buffer_out ∷ (receiver_slot who.end, Receiver h.side) ∷ others_of who.number me1
  all_out = sym (front_behind (count_of who.number me1) me1.1) ∙ ap (λ (l : List (ℕ × Slot)). l ++ others_of who.number me1) (now.out ∙ take_slots z who true (seat_of who.number me) h refl)

  -- the side state's slot is in front
  pub side_out : (t : SeatState) → t ≡ (me1.0, turned me1.1) → t.1 ≡ (receiver_slot who.end, Receiver h.side) ∷ behind_side
  side_out t is = ap (λ (s : SeatState). s.1) is ∙ ap turned all_out

  pub aside_is : (t me2 : SeatState) (k : ℕ) (w w' : Slot) (all : ℕ) → t ≡ (me1.0, turned me1.1) → k ≡ receiver_slot who.end → t.1 ≡ (k, w) ∷ rest t.1 → ((x : ReceiverSide) → w ≡ Receiver x → w' ≡ Receiver (without_hands x who.number)) → all ≡ length me1.1
      → me2 ≡ (t.0, turned_by (all - 1) ((k, w') ∷ rest t.1)) → me2 ≡ aside_state
  aside_is t me2 k w w' all turns at value put long is =
      let many = long ∙ ap length all_out in let count : all - 1 ≡ suc (length (others_of who.number me1)) = omega (arith, many) in
      let aside = aside_slots who h.side t.1 behind_side k w w' (side_out t turns) at value put in
      is ∙ ((λ i. ((turns i).0, turned_by (count i) (aside i))) ∙ ap (λ (l : List (ℕ × Slot)). (me1.0, l)) (turned_parts (side_aside ∷ others_of who.number me1) (buffer_out ∷ [])))

  module _ (me2 : SeatState) (is : me2 ≡ aside_state) where
    view_is : (seat_of who.number me2).0 ≡ (seat_of who.number me1).0
    view_is = ap (λ (s : SeatState). (seat_of who.number s).0) is

    slots_are : (seat_of who.number me2).1 ≡ buffer_first z who true (seat_of who.number me) h (without_hands h.side who.number)
    slots_are = ap (λ (s : SeatState). (seat_of who.number s).1) is ∙ ap (λ (c : ℕ). front c aside_state.1) two_out

    pub aside_leaves : (pass_in (seat_of who.number me)).number ≡ who.number → me.0.sizes ≡ z
        → StandsAlone (seat_of who.number me2) × MayEnd lane_turn.Receiver who.end (pass_in (seat_of who.number me2)).number (seat_of who.number me2) (pass_in (seat_of who.number me2)).call
    aside_leaves number told = take_leaves z who true (seat_of who.number me) h (seat_of who.number me1) (seat_of who.number me2) number told refl now view_is slots_are

    pub aside_left : (me3 : SeatState) → IsNow (ended_pass (pass_in (seat_of who.number me2)) (pass_in (seat_of who.number me2)).call)
        (slots_left (pass_in (seat_of who.number me2)).call (seat_of who.number me2).1) (seat_of who.number me2) me3
        → IsNow (ended_of who (pass_in (seat_of who.number me))) [] (seat_of who.number me) me3
    aside_left me3 left = take_left z who true (seat_of who.number me) h (seat_of who.number me1) (seat_of who.number me2) me3 refl now view_is slots_are left

    -- the slots of the others are where they were
    pub aside_stays : LeavesOthers who.number me1 me2
    aside_stays = stays_leaves who.number me1 me2 (subst (StaysAlone who.number me1) (sym is) (record { view = refl; others = ap (λ (c : ℕ). behind c aside_state.1) two_out }))
