-- Every step of a call keeps a lane sound by itself.
use Rattle.std.proofs.Common.{◌≡◌, ℕ, ◌<◌, ◌≤◌, ◌==◌, ◌+◌, length, cond, IsTrue, List, [], ◌∷◌, ◌++◌, refl, sym, subst, arith}
use Rattle.std.proofs.lemmas.Bool.{false≢true, eqb-false, cond_both}
use Rattle.rp_base.specs.declared.kinds.Era.{Era}
use Rattle.lane_model.specs.declared.states.Lane.{Lane}
use Rattle.lane_model.specs.declared.states.LaneState.{LaneState}
use Rattle.lane_model.specs.declared.stages.Sending.{Sending}
use Rattle.lane_model.specs.declared.stages.SendStage.{SendStage}
use Rattle.lane_model.specs.declared.stages.SendStage.TheVariants as stage
use Rattle.lane_model.specs.declared.stages.Receiving.{Receiving}
use Rattle.lane_model.specs.declared.stages.Work.{Work}
use Rattle.lane_model.specs.declared.stages.Work.TheVariants as work
use Rattle.lane_model.specs.declared.stages.TakeStage.{TakeStage}
use Rattle.lane_model.specs.declared.stages.TakeStage.TheVariants as take_stage
use Rattle.lane_model.specs.declared.stages.GiveStage.{GiveStage}
use Rattle.lane_model.specs.declared.stages.GiveStage.TheVariants as give_stage
use Rattle.lane_model.specs.declared.stages.Turn.{Turn}
use Rattle.lane_model.specs.declared.stages.Turn.TheVariants as turn
use Rattle.lane_model.specs.declared.calls.CallEnd.{CallEnd}
use Rattle.lane_model.specs.declared.calls.CallEnd.TheVariants as end
use Rattle.lane_model.specs.Desks.{DeskMeaning}
use Rattle.lane_model.specs.Lanes.{Stepped, turn_step, OfCall, taken_by, holds, is_live_in}
use Rattle.lane_model.specs.Sends.{after_send_start, send_step, sender_step, after_send_look, with_accepted}
use Rattle.lane_model.specs.Receives.{after_receive_start, after_handing, take_step, give_step, desk_step, receive_step, receiver_step, after_take_look, with_handed, with_returned}
use Rattle.lane_model.specs.Conditions.{HasRoomAt, HasRoom, HasMessageAt, IsFitWork, IsFitReceiver}
use Rattle.lane_model.specs.Soundness.{AreHandedOnce, IsSoundLane}
use Rattle.lane_model.proofs.Holdings.{length-more, handed_once, without_once, length-without-one}

-- what holds of the state, of the state with the turn left, and after each step of a call, holds after the next step
pub turn_step_has : {S C : Type 0} (P : S → Type 0) (state freed : S) (goes : ℕ → C → Stepped S) (now : Turn C)
    → P state → P freed → ((caller : ℕ) (call : C) → now ≡ turn.Taken caller call → P (goes caller call).state) → P (turn_step state freed goes now).state
turn_step_has P state freed goes turn.Free stays left on = stays
turn_step_has P state freed goes (turn.Taken caller call) stays left on = on caller call refl
turn_step_has P state freed goes (turn.Leaving caller ended) stays left on = left
turn_step_has P state freed goes turn.Manager stays left on = stays

-- what holds of the call that takes a free turn, and of who has it, holds of who has it then
pub taken_has : {C : Type 0} (P : ℕ → C → Type 0) (now : Turn C) (caller : ℕ) (call : C) → OfCall now P → P caller call → OfCall (taken_by now caller call) P
taken_has P turn.Free caller call of one = one
taken_has P (turn.Taken other other_call) caller call of one = of
taken_has P (turn.Leaving other ended) caller call of one = of
taken_has P turn.Manager caller call of one = of

-- a fact about the call that has the turn follows from another
pub of_call_map : {C : Type 0} (P Q : ℕ → C → Type 0) → ((caller : ℕ) (call : C) → P caller call → Q caller call) → (now : Turn C) → OfCall now P → OfCall now Q
of_call_map P Q from turn.Free of = tt
of_call_map P Q from (turn.Taken caller call) of = from caller call of
of_call_map P Q from (turn.Leaving caller ended) of = tt
of_call_map P Q from turn.Manager of = tt

-- a sound lane whose sender's turn alone has changed
pub sender_changed : {D : Type 0} (state : LaneState D) (next : Turn Sending) → IsSoundLane state → HasRoom next state.lane → IsSoundLane (record state { sender = next })
sender_changed state next sound room =
    record { counts = sound.counts; handed = sound.handed; out = sound.out; within = sound.within; holdings = sound.holdings; room = room; fit = sound.fit }

-- a sound lane whose receiver's turn has changed, and its desk
pub receiver_changed : {D : Type 0} (state : LaneState D) (next : Turn Receiving) (desk : D) → IsSoundLane state → IsFitReceiver next state.lane
    → IsSoundLane (record state { receiver = next; desk = desk })
receiver_changed state next desk sound fit =
    record { counts = sound.counts; handed = sound.handed; out = sound.out; within = sound.within; holdings = sound.holdings; room = sound.room; fit = fit }

work_stays_fit : (now : Work) (lane : Lane) (receiver caller : ℕ) (message : List ℕ) → IsFitWork now lane receiver → IsFitWork now (with_accepted lane caller message) receiver
work_stays_fit (work.Take now) lane receiver caller message fit = λ sought.
    let found = fit sought in
    let more = length-more lane.accepted (record { caller = caller; message = message }) in
    omega (arith, more, found)
work_stays_fit (work.Give number now) lane receiver caller message fit = fit
work_stays_fit (work.Bind address) lane receiver caller message fit = tt
work_stays_fit (work.Unbind address) lane receiver caller message fit = tt

-- what the receiver's call has found stays where one message more is accepted
pub receiver_stays_fit : (now : Turn Receiving) (lane : Lane) (caller : ℕ) (message : List ℕ) → IsFitReceiver now lane → IsFitReceiver now (with_accepted lane caller message)
receiver_stays_fit now lane caller message fit =
    of_call_map (λ receiver (r : Receiving). IsFitWork r.work lane receiver) (λ receiver (r : Receiving). IsFitWork r.work (with_accepted lane caller message) receiver)
    (λ receiver r has. work_stays_fit r.work lane receiver caller message has) now fit

-- the room that a send has found stays where a buffer is given back
pub sender_keeps_room : (now : Turn Sending) (lane : Lane) (number caller : ℕ) → HasRoom now lane → HasRoom now (with_returned lane number caller)
sender_keeps_room now lane number caller room =
    of_call_map (λ sender (s : Sending). HasRoomAt s.stage lane) (λ sender (s : Sending). HasRoomAt s.stage (with_returned lane number caller))
    (λ sender s has sought. let found = has sought in (omega (arith, found.0), found.1)) now room

-- a look for room finds room, or settles the send
pub room_if_looked : (lane : Lane) (caller : ℕ) (s : Sending) → length lane.accepted ≤ lane.returned + lane.capacity → length lane.accepted ≤ lane.book
    → HasRoom (after_send_look lane caller s) lane
room_if_looked lane caller s out within =
    let full = turn.Leaving caller (end.BookFull (length lane.accepted)) in
    let looked = turn.Taken caller (record s { stage = stage.Look }) in
    let none = turn.Leaving caller (end.NoBuffer (length lane.accepted) lane.returned) in
    cond_both (length lane.accepted == lane.returned + lane.capacity) none (cond (length lane.accepted == lane.book) full looked) (λ next. HasRoom next lane) (λ _. tt)
    (λ some. cond_both (length lane.accepted == lane.book) full looked (λ next. HasRoom next lane) (λ _. tt)
    (λ open_book.
    let free = eqb-false _ _ some in
    let fits = eqb-false _ _ open_book in
    λ sought. (omega arith, omega arith)))

-- a look for a message finds one, or settles the take
pub message_if_looked : (lane : Lane) (caller : ℕ) (r : Receiving) → length lane.takers ≤ length lane.accepted → IsFitReceiver (after_take_look lane caller r) lane
message_if_looked lane caller r handed =
    cond_both (length lane.takers == length lane.accepted) (turn.Leaving caller (end.Empty (length lane.accepted))) (turn.Taken caller (record r { work = work.Take take_stage.Look }))
    (λ next. IsFitReceiver next lane) (λ _. tt)
    (λ some. let left = eqb-false _ _ some in λ sought. omega arith)

-- a message more in the book
pub accepted_sound : {D : Type 0} (state : LaneState D) (caller : ℕ) (message : List ℕ) (ended : CallEnd) → IsSoundLane state
    → (length state.lane.accepted < state.lane.returned + state.lane.capacity) × (length state.lane.accepted < state.lane.book)
    → IsSoundLane (record state { lane = with_accepted state.lane caller message; sender = turn.Leaving caller ended })
accepted_sound state caller message ended sound room =
    let more = length-more state.lane.accepted (record { caller = caller; message = message }) in
    record {
      counts = sound.counts;
      handed = omega (arith, more, sound.handed);
      out = omega (arith, more, room.0);
      within = omega (arith, more, room.1);
      holdings = sound.holdings;
      room = tt;
      fit = receiver_stays_fit state.receiver state.lane caller message sound.fit;
    }

send_sound : {D : Type 0} (era : Era) (state : LaneState D) (caller : ℕ) (s : Sending) (now : SendStage) → IsSoundLane state → HasRoomAt now state.lane
    → IsSoundLane (send_step era state caller s now).state
send_sound era state caller s stage.Turn sound room =
    sender_changed state _ sound (cond_both (is_live_in era s.follows) _ _ (λ next. HasRoom next state.lane) (λ _ sought. absurd (false≢true sought)) (λ _. tt))
send_sound era state caller s stage.Era sound room = sender_changed state _ sound (room_if_looked state.lane caller s sound.out sound.within)
send_sound era state caller s stage.Look sound room = sender_changed state _ sound (λ sought. room refl)
send_sound era state caller s stage.Buffer sound room = sender_changed state _ sound (λ sought. room refl)
send_sound era state caller s stage.Entry sound room = accepted_sound state caller s.message (end.Sent (length state.lane.accepted)) sound (room refl)

-- a later step of the call that has the sender's turn
pub sent_on_sound : {D : Type 0} (era : Era) (state : LaneState D) → IsSoundLane state → IsSoundLane (sender_step era state).state
sent_on_sound era state sound =
    turn_step_has IsSoundLane state (record state { sender = turn.Free }) (λ caller s. send_step era state caller s s.stage) state.sender sound
    (sender_changed state turn.Free sound tt)
    (λ caller s is. send_sound era state caller s s.stage sound (subst (λ now. HasRoom now state.lane) is sound.room))

-- step 1 of a send
pub send_begun_sound : {D : Type 0} (state : LaneState D) (caller follows : ℕ) (message : List ℕ) → IsSoundLane state → IsSoundLane (after_send_start state caller follows message)
send_begun_sound state caller follows message sound =
    sender_changed state _ sound (taken_has (λ sender (s : Sending). HasRoomAt s.stage state.lane) state.sender caller _ sound.room (λ sought. absurd (false≢true sought)))

-- the handing of a message
pub handed_sound : {D : Type 0} (state : LaneState D) (caller : ℕ) (desk : D) (ended : CallEnd) → IsSoundLane state → length state.lane.takers < length state.lane.accepted
    → IsSoundLane (record state { lane = with_handed state.lane caller; receiver = turn.Leaving caller ended; desk = desk })
handed_sound state caller desk ended sound waits =
    let old = state.lane in
    let one_taker = length-more old.takers caller in
    let one_held = length-more old.held (record { number = length old.takers; caller = caller }) in
    record {
      counts = omega (arith, one_taker, one_held, sound.counts);
      handed = omega (arith, one_taker, waits);
      out = sound.out;
      within = sound.within;
      holdings = subst (λ n. AreHandedOnce n (old.held ++ record { number = length old.takers; caller = caller } ∷ [])) (sym one_taker)
          (handed_once (length old.takers) caller old.held sound.holdings);
      room = sound.room;
      fit = tt;
    }

-- a buffer that is back
pub returned_sound : {D : Type 0} (state : LaneState D) (caller number : ℕ) (ended : CallEnd) → IsSoundLane state → IsTrue (holds state.lane.held number caller)
    → IsSoundLane (record state { lane = with_returned state.lane number caller; receiver = turn.Leaving caller ended })
returned_sound state caller number ended sound has =
    let old = state.lane in
    let fewer = length-without-one (length old.takers) old.held number caller sound.holdings has in
    record {
      counts = omega (arith, fewer, sound.counts);
      handed = sound.handed;
      out = omega (arith, sound.out);
      within = sound.within;
      holdings = without_once (length old.takers) old.held number caller sound.holdings;
      room = sender_keeps_room state.sender old number caller sound.room;
      fit = tt;
    }

take_sound : {D : Type 0} (desk : DeskMeaning D) (era : Era) (state : LaneState D) (caller : ℕ) (r : Receiving) (now : TakeStage) → IsSoundLane state → HasMessageAt now state.lane
    → IsSoundLane (take_step desk era state caller r now).state
take_sound desk era state caller r take_stage.Turn sound fit =
    receiver_changed state _ state.desk sound (cond_both (is_live_in era r.follows) _ _ (λ next. IsFitReceiver next state.lane) (λ _ sought. absurd (false≢true sought)) (λ _. tt))
take_sound desk era state caller r take_stage.Era sound fit = receiver_changed state _ state.desk sound (message_if_looked state.lane caller r sound.handed)
take_sound desk era state caller r take_stage.Look sound fit = receiver_changed state _ state.desk sound (λ sought. fit refl)
take_sound desk era state caller r take_stage.Buffer sound fit =
    cond_both (is_live_in era r.follows) (after_handing desk state caller) (record state { receiver = turn.Leaving caller (end.Dead era) }) IsSoundLane
    (λ _. handed_sound state caller _ _ sound (fit refl)) (λ _. receiver_changed state (turn.Leaving caller (end.Dead era)) state.desk sound tt)

give_sound : {D : Type 0} (state : LaneState D) (caller : ℕ) (r : Receiving) (number : ℕ) (now : GiveStage) → IsSoundLane state → IsTrue (holds state.lane.held number caller)
    → IsSoundLane (give_step state caller r number now).state
give_sound state caller r number give_stage.Turn sound fit = receiver_changed state _ state.desk sound fit
give_sound state caller r number give_stage.Entry sound fit = returned_sound state caller number (end.Gave number) sound fit

desk_sound : {D : Type 0} (era : Era) (state : LaneState D) (caller : ℕ) (r : Receiving) (desk : D) (ended : CallEnd) → IsSoundLane state
    → IsSoundLane (desk_step era state caller r desk ended).state
desk_sound era state caller r desk ended sound =
    cond_both (is_live_in era r.follows) (record state { receiver = turn.Leaving caller ended; desk = desk }) (record state { receiver = turn.Leaving caller (end.Dead era) }) IsSoundLane
    (λ _. receiver_changed state (turn.Leaving caller ended) desk sound tt) (λ _. receiver_changed state (turn.Leaving caller (end.Dead era)) state.desk sound tt)

receive_sound : {D : Type 0} (desk : DeskMeaning D) (era : Era) (state : LaneState D) (caller : ℕ) (r : Receiving) (now : Work) → IsSoundLane state → IsFitWork now state.lane caller
    → IsSoundLane (receive_step desk era state caller r now).state
receive_sound desk era state caller r (work.Take now) sound fit = take_sound desk era state caller r now sound fit
receive_sound desk era state caller r (work.Give number now) sound fit = give_sound state caller r number now sound fit
receive_sound desk era state caller r (work.Bind address) sound fit = desk_sound era state caller r _ _ sound
receive_sound desk era state caller r (work.Unbind address) sound fit = desk_sound era state caller r _ _ sound

-- a later step of the call that has the receiver's turn
pub received_on_sound : {D : Type 0} (desk : DeskMeaning D) (era : Era) (state : LaneState D) → IsSoundLane state → IsSoundLane (receiver_step desk era state).state
received_on_sound desk era state sound =
    turn_step_has IsSoundLane state (record state { receiver = turn.Free }) (λ caller r. receive_step desk era state caller r r.work) state.receiver sound
    (receiver_changed state turn.Free state.desk sound tt)
    (λ caller r is. receive_sound desk era state caller r r.work sound (subst (λ now. IsFitReceiver now state.lane) is sound.fit))

-- step 1 of the other calls
pub receive_begun_sound : {D : Type 0} (state : LaneState D) (caller follows : ℕ) (first : Work) → IsSoundLane state → IsFitWork first state.lane caller
    → IsSoundLane (after_receive_start state caller follows first)
receive_begun_sound state caller follows first sound fit =
    receiver_changed state _ state.desk sound (taken_has (λ receiver (r : Receiving). IsFitWork r.work state.lane receiver) state.receiver caller _ sound.fit fit)
