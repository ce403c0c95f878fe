-- What a step of a call of one of two callers, each alone on its end, leaves of the lanes of both.
use Rattle.std.proofs.Common.{◌≡◌, ◌<◌, ◌≤◌, ℕ, ◌+◌, cond, Bool, true, false, List, [], ◌∷◌, length, Option, Some, None, refl, sym, ap, subst, arith}
use Rattle.std.proofs.lemmas.Bool.{cond_both, eq-eqb}
use Rattle.std.proofs.lemmas.List.{length-append}
use Rattle.rp_base.specs.declared.kinds.Era.{Era}
use Rattle.lane_model.specs.declared.calls.CallEnd.{CallEnd}
use Rattle.lane_model.specs.declared.calls.CallEnd.TheVariants as end
use Rattle.lane_model.specs.declared.calls.Outcome.{Outcome}
use Rattle.lane_model.specs.declared.calls.Outcome.TheVariants as outcome
use Rattle.lane_model.specs.declared.calls.Wish.{Wish}
use Rattle.lane_model.specs.declared.calls.Wish.TheVariants as wish
use Rattle.lane_model.specs.declared.stages.GiveStage.TheVariants as give_stage
use Rattle.lane_model.specs.declared.stages.Receiving.{Receiving}
use Rattle.lane_model.specs.declared.stages.Sending.{Sending}
use Rattle.lane_model.specs.declared.stages.SendStage.{SendStage}
use Rattle.lane_model.specs.declared.stages.SendStage.TheVariants as stage
use Rattle.lane_model.specs.declared.stages.TakeStage.TheVariants as take_stage
use Rattle.lane_model.specs.declared.stages.Turn.{Turn}
use Rattle.lane_model.specs.declared.stages.Turn.TheVariants as turn
use Rattle.lane_model.specs.declared.stages.Work.{Work}
use Rattle.lane_model.specs.declared.stages.Work.TheVariants as work
use Rattle.lane_model.specs.declared.states.LaneState.{LaneState}
use Rattle.lane_model.specs.Forms.{list_form}
use Rattle.lane_model.specs.Lanes.{Stepped, has_call, holder, is_live_in, taken_by}
use Rattle.lane_model.specs.Links.{Lanes, begun_outcome, lanes_step, receive_later, send_later}
use Rattle.lane_model.specs.Receives.{after_handing, desk_step, receive_step, receiver_step}
use Rattle.lane_model.specs.Sends.{send_step, sender_step}
use Rattle.lane_model.proofs.SoundLanes.{turn_step_has}
use Rattle.channel_bus.specs.Sides.{EndState, side_meaning}
use Rattle.demo_laws.proofs.OwnCalls.{IsEndOf, IsFree, IsOwnSend, IsOwnWork, SendGoes, WorkGoes, handed_by, handed_so_far, receiver_goes, receiving_left, returned_by, returned_so_far, sender_goes, sending_left, sent_by, sent_so_far}

-- ---- the turns of a caller

-- the turns of a caller in this call, or in none
abbrev pub TurnsOf : ℕ → ℕ → Option Wish → Turn Sending → Turn Receiving → Type 0
TurnsOf caller inc None sends receives = IsFree sends × IsFree receives
TurnsOf caller inc (Some (wish.Send message)) sends receives = IsOwnSend caller inc sends × IsFree receives
TurnsOf caller inc (Some wish.Take) sends receives = IsFree sends × IsOwnWork caller inc wish.Take receives
TurnsOf caller inc (Some (wish.Give number)) sends receives = IsFree sends × IsOwnWork caller inc (wish.Give number) receives
TurnsOf caller inc (Some (wish.Bind address)) sends receives = IsFree sends × IsOwnWork caller inc (wish.Bind address) receives
TurnsOf caller inc (Some (wish.Unbind address)) sends receives = ⊥

-- a caller in this call, or in none, before which so many messages were accepted, handed over and given back
pub record IsAt (caller inc : ℕ) (now : Option Wish) (lanes : Lanes (LaneState EndState)) (accepted handed returned : ℕ) : Type 0 where
  pub turns : TurnsOf caller inc now lanes.outgoing.sender lanes.incoming.receiver
  pub sent : length lanes.outgoing.lane.accepted ≡ accepted + sent_so_far lanes.outgoing.sender
  pub took : length lanes.incoming.lane.takers ≡ handed + handed_so_far lanes.incoming.receiver
  pub gave : lanes.incoming.lane.returned ≡ returned + returned_so_far lanes.incoming.receiver

-- the steps that are left of its call
abbrev pub left_on : Lanes (LaneState EndState) → ℕ
left_on lanes = sending_left lanes.outgoing.sender + receiving_left lanes.incoming.receiver

-- what a call needs to come to its end: a send has room, and a take a message
abbrev pub HasWay : Wish → Lanes (LaneState EndState) → ℕ → ℕ → Type 0
HasWay (wish.Send message) lanes accepted handed = accepted < lanes.outgoing.lane.returned + lanes.outgoing.lane.capacity
HasWay wish.Take lanes accepted handed = handed < length lanes.incoming.lane.accepted
HasWay other lanes accepted handed = Unit {0}

-- the calls that actors make
abbrev pub IsNoUnbind : Wish → Type 0
IsNoUnbind (wish.Unbind address) = ⊥
IsNoUnbind other = Unit {0}

-- the steps of a whole call but the first
abbrev pub left_behind : Wish → ℕ
left_behind (wish.Send message) = 6
left_behind wish.Take = 5
left_behind (wish.Give number) = 3
left_behind (wish.Bind address) = 2
left_behind (wish.Unbind address) = 2

free_is : {C : Type 0} (now : Turn C) → IsFree now → now ≡ turn.Free
free_is turn.Free is = refl
free_is (turn.Taken caller call) is = absurd is
free_is (turn.Leaving caller ended) is = absurd is
free_is turn.Manager is = absurd is

-- what a step leaves of a caller's call: it goes on, nearer to its end, or has come to an end that it should
abbrev pub CallGoes : ℕ → ℕ → Wish → Outcome → Lanes (LaneState EndState) → ℕ → ℕ → ℕ → ℕ → Type 0
CallGoes caller inc wanted (outcome.At step) after accepted handed returned left = IsAt caller inc (Some wanted) after accepted handed returned × (left_on after < left)
CallGoes caller inc wanted (outcome.Ended ended) after accepted handed returned left =
    IsAt caller inc None after (accepted + sent_by ended) (handed + handed_by ended) (returned + returned_by ended) × IsEndOf wanted ended × (left ≡ 1)

module _ (era : Era) (live : era.is_live ≡ true) (caller : ℕ) where
  own_send : (now : Turn Sending) → IsOwnSend caller era.inc now → has_call now caller ≡ true
  own_send turn.Free is = absurd is
  own_send (turn.Taken other s) is = eq-eqb other caller is.0
  own_send (turn.Leaving other ended) is = eq-eqb other caller is.0
  own_send turn.Manager is = absurd is

  no_call : (now : Turn Sending) → IsFree now → has_call now caller ≡ false
  no_call now is = ap (λ (t : Turn Sending). has_call t caller) (free_is now is)

  none_sent : (now : Turn Sending) → IsFree now → (sent_so_far now ≡ 0) × (sending_left now ≡ 0)
  none_sent now is = (ap sent_so_far (free_is now is), ap sending_left (free_is now is))

  none_taken : (now : Turn Receiving) → IsFree now → (handed_so_far now ≡ 0) × (returned_so_far now ≡ 0) × (receiving_left now ≡ 0)
  none_taken now is = (ap handed_so_far (free_is now is), ap returned_so_far (free_is now is), ap receiving_left (free_is now is))

  -- ends of a send
  any_send : (message : List ℕ) (ended : CallEnd) → IsEndOf (wish.Send []) ended → IsEndOf (wish.Send message) ended × (handed_by ended ≡ 0) × (returned_by ended ≡ 0)
  any_send message (end.Sent number) is = (tt, refl, refl)
  any_send message (end.BookFull accepted) is = (tt, refl, refl)
  any_send message (end.Took number judged) is = absurd is
  any_send message (end.Gave number) is = absurd is
  any_send message (end.Bound endpoint) is = absurd is
  any_send message (end.Unbound endpoint) is = absurd is
  any_send message (end.Busy other) is = absurd is
  any_send message (end.Dead era) is = absurd is
  any_send message (end.NoBuffer accepted returned) is = absurd is
  any_send message (end.Empty accepted) is = absurd is
  any_send message (end.Refused why) is = absurd is

  sends_on : (lanes : Lanes (LaneState EndState)) (message : List ℕ) (accepted handed returned : ℕ) (done : Outcome) (after : LaneState EndState)
      → IsAt caller era.inc (Some (wish.Send message)) lanes accepted handed returned → SendGoes era live caller done after accepted (sending_left lanes.outgoing.sender)
      → CallGoes caller era.inc (wish.Send message) done (record lanes { outgoing = after }) accepted handed returned (left_on lanes)
  sends_on lanes message accepted handed returned (outcome.At step) after is goes =
      let none = none_taken lanes.incoming.receiver is.turns.1 in
      (record { turns = (goes.0, is.turns.1); sent = goes.1; took = is.took; gave = is.gave }, omega (arith, goes.2, none.2))
  sends_on lanes message accepted handed returned (outcome.Ended ended) after is goes =
      let none = none_taken lanes.incoming.receiver is.turns.1 in
      let of = any_send message ended goes.1 in
      let clear = none_sent after.sender goes.0 in (
        record {
          turns = (goes.0, is.turns.1);
          sent = omega (arith, goes.2, clear.0);
          took = omega (arith, is.took, of.1);
          gave = omega (arith, is.gave, of.2);
        },
        of.0,
        omega (arith, goes.3, none.2),
      )

  works_on : (lanes : Lanes (LaneState EndState)) (wanted : Wish) (accepted handed returned : ℕ) (done : Outcome) (after : LaneState EndState)
      → IsFree lanes.outgoing.sender → length lanes.outgoing.lane.accepted ≡ accepted + sent_so_far lanes.outgoing.sender
      → ((now : Turn Receiving) → IsOwnWork caller era.inc wanted now → TurnsOf caller era.inc (Some wanted) lanes.outgoing.sender now)
      → ((ended : CallEnd) → IsEndOf wanted ended → sent_by ended ≡ 0)
      → WorkGoes era live caller wanted done after handed returned (receiving_left lanes.incoming.receiver)
      → CallGoes caller era.inc wanted done (record lanes { incoming = after }) accepted handed returned (left_on lanes)
  works_on lanes wanted accepted handed returned (outcome.At step) after free sent turns ends goes =
      let none = none_sent lanes.outgoing.sender free in
      (record { turns = turns after.receiver goes.0; sent = sent; took = goes.1; gave = goes.2 }, omega (arith, goes.3, none.1))
  works_on lanes wanted accepted handed returned (outcome.Ended ended) after free sent turns ends goes =
      let none = none_sent lanes.outgoing.sender free in
      let clear = none_taken after.receiver goes.0 in
      let silent = ends ended goes.1 in (
        record {
          turns = (free, goes.0);
          sent = omega (arith, sent, silent);
          took = omega (arith, goes.2, clear.0);
          gave = omega (arith, goes.3, clear.1);
        },
        goes.1,
        omega (arith, goes.4, none.1),
      )

  take_sends_none : (ended : CallEnd) → IsEndOf wish.Take ended → sent_by ended ≡ 0
  take_sends_none (end.Took number judged) is = refl
  take_sends_none (end.Sent number) is = absurd is
  take_sends_none (end.BookFull accepted) is = refl
  take_sends_none (end.Gave number) is = refl
  take_sends_none (end.Bound endpoint) is = refl
  take_sends_none (end.Unbound endpoint) is = refl
  take_sends_none (end.Busy other) is = refl
  take_sends_none (end.Dead era) is = refl
  take_sends_none (end.NoBuffer accepted returned) is = refl
  take_sends_none (end.Empty accepted) is = refl
  take_sends_none (end.Refused why) is = refl

  give_sends_none : (number : ℕ) (ended : CallEnd) → IsEndOf (wish.Give number) ended → sent_by ended ≡ 0
  give_sends_none number (end.Took taken judged) is = refl
  give_sends_none number (end.Sent sent) is = absurd is
  give_sends_none number (end.BookFull accepted) is = refl
  give_sends_none number (end.Gave given) is = refl
  give_sends_none number (end.Bound endpoint) is = refl
  give_sends_none number (end.Unbound endpoint) is = refl
  give_sends_none number (end.Busy other) is = refl
  give_sends_none number (end.Dead era) is = refl
  give_sends_none number (end.NoBuffer accepted returned) is = refl
  give_sends_none number (end.Empty accepted) is = refl
  give_sends_none number (end.Refused why) is = refl

  bind_sends_none : (address : ℕ) (ended : CallEnd) → IsEndOf (wish.Bind address) ended → sent_by ended ≡ 0
  bind_sends_none address (end.Took taken judged) is = refl
  bind_sends_none address (end.Sent sent) is = absurd is
  bind_sends_none address (end.BookFull accepted) is = refl
  bind_sends_none address (end.Gave given) is = refl
  bind_sends_none address (end.Bound endpoint) is = refl
  bind_sends_none address (end.Unbound endpoint) is = refl
  bind_sends_none address (end.Busy other) is = refl
  bind_sends_none address (end.Dead era) is = refl
  bind_sends_none address (end.NoBuffer accepted returned) is = refl
  bind_sends_none address (end.Empty accepted) is = refl
  bind_sends_none address (end.Refused why) is = refl

  module _ (lanes : Lanes (LaneState EndState)) (accepted handed returned : ℕ) where
    abbrev Step : Bool → Stepped (Lanes (LaneState EndState))
    Step sends = cond sends (send_later (list_form side_meaning) era lanes) (receive_later (list_form side_meaning) side_meaning era lanes)

    -- a later step of a call
    pub later_goes : (wanted : Wish) → IsAt caller era.inc (Some wanted) lanes accepted handed returned → HasWay wanted lanes accepted handed
        → let step = lanes_step (list_form side_meaning) side_meaning era lanes caller 0 None in
        CallGoes caller era.inc wanted step.outcome step.state accepted handed returned (left_on lanes)
    later_goes (wish.Send message) is way =
        subst (λ (sends : Bool). CallGoes caller era.inc (wish.Send message) (Step sends).outcome (Step sends).state accepted handed returned (left_on lanes)) (sym (own_send lanes.outgoing.sender is.turns.0))
        (sends_on lanes message accepted handed returned _ _ is (sender_goes era live caller lanes.outgoing accepted way is.turns.0 is.sent))
    later_goes wish.Take is way =
        subst (λ (sends : Bool). CallGoes caller era.inc wish.Take (Step sends).outcome (Step sends).state accepted handed returned (left_on lanes)) (sym (no_call lanes.outgoing.sender is.turns.0))
        (works_on lanes wish.Take accepted handed returned _ _ is.turns.0 is.sent (λ now own. (is.turns.0, own)) take_sends_none
        (receiver_goes era live caller lanes.incoming wish.Take handed returned way is.turns.1 is.took is.gave))
    later_goes (wish.Give number) is way =
        subst (λ (sends : Bool). CallGoes caller era.inc (wish.Give number) (Step sends).outcome (Step sends).state accepted handed returned (left_on lanes)) (sym (no_call lanes.outgoing.sender is.turns.0))
        (works_on lanes (wish.Give number) accepted handed returned _ _ is.turns.0 is.sent (λ now own. (is.turns.0, own)) (give_sends_none number)
        (receiver_goes era live caller lanes.incoming (wish.Give number) handed returned tt is.turns.1 is.took is.gave))
    later_goes (wish.Bind address) is way =
        subst (λ (sends : Bool). CallGoes caller era.inc (wish.Bind address) (Step sends).outcome (Step sends).state accepted handed returned (left_on lanes)) (sym (no_call lanes.outgoing.sender is.turns.0))
        (works_on lanes (wish.Bind address) accepted handed returned _ _ is.turns.0 is.sent (λ now own. (is.turns.0, own)) (bind_sends_none address)
        (receiver_goes era live caller lanes.incoming (wish.Bind address) handed returned tt is.turns.1 is.took is.gave))
    later_goes (wish.Unbind address) is way = absurd is.turns

    abbrev pub Begun : Wish → Outcome → Lanes (LaneState EndState) → Type 0
    Begun wanted (outcome.At step) after = IsAt caller era.inc (Some wanted) after accepted handed returned × (left_on after ≡ left_behind wanted)
    Begun wanted (outcome.Ended ended) after = ⊥

    send_begins : (message : List ℕ) (now : Turn Sending) → IsFree now → IsFree lanes.incoming.receiver → length lanes.outgoing.lane.accepted ≡ accepted
        → length lanes.incoming.lane.takers ≡ handed + handed_so_far lanes.incoming.receiver → lanes.incoming.lane.returned ≡ returned + returned_so_far lanes.incoming.receiver
        → Begun (wish.Send message) (begun_outcome (holder now))
        (record lanes { outgoing = record lanes.outgoing { sender = taken_by now caller (record { follows = era.inc; message = message; stage = stage.Turn }) } })
    send_begins message turn.Free is free all takers back =
        let none = none_taken lanes.incoming.receiver free in
        (record { turns = ((refl, refl), free); sent = omega (arith, all); took = takers; gave = back }, omega (arith, none.2))
    send_begins message (turn.Taken other call) is free all takers back = absurd is
    send_begins message (turn.Leaving other ended) is free all takers back = absurd is
    send_begins message turn.Manager is free all takers back = absurd is

    work_begins : (wanted : Wish) (first : Work) (now : Turn Receiving) → IsFree now → IsFree lanes.outgoing.sender → length lanes.incoming.lane.takers ≡ handed → lanes.incoming.lane.returned ≡ returned
        → length lanes.outgoing.lane.accepted ≡ accepted + sent_so_far lanes.outgoing.sender
        → TurnsOf caller era.inc (Some wanted) lanes.outgoing.sender (turn.Taken caller (record { follows = era.inc; work = first })) → receiving_left (turn.Taken caller (record { follows = era.inc; work = first })) ≡ left_behind wanted
        → Begun wanted (begun_outcome (holder now))
        (record lanes { incoming = record lanes.incoming { receiver = taken_by now caller (record { follows = era.inc; work = first }) } })
    work_begins wanted first turn.Free is free takers back all turns cost =
        let none = none_sent lanes.outgoing.sender free in
        (record { turns = turns; sent = all; took = omega (arith, takers); gave = omega (arith, back) }, omega (arith, none.1, cost))
    work_begins wanted first (turn.Taken other call) is free takers back all turns cost = absurd is
    work_begins wanted first (turn.Leaving other ended) is free takers back all turns cost = absurd is
    work_begins wanted first turn.Manager is free takers back all turns cost = absurd is

    -- the first step of a call
    pub first_goes : (wanted : Wish) → IsNoUnbind wanted → IsAt caller era.inc None lanes accepted handed returned
        → let step = lanes_step (list_form side_meaning) side_meaning era lanes caller era.inc (Some wanted) in Begun wanted step.outcome step.state
    first_goes (wish.Send message) plain is =
        let none = none_sent lanes.outgoing.sender is.turns.0 in
        send_begins message lanes.outgoing.sender is.turns.0 is.turns.1 (omega (arith, is.sent, none.0)) is.took is.gave
    first_goes wish.Take plain is =
        let none = none_taken lanes.incoming.receiver is.turns.1 in
        work_begins wish.Take (work.Take take_stage.Turn) lanes.incoming.receiver is.turns.1 is.turns.0 (omega (arith, is.took, none.0)) (omega (arith, is.gave, none.1)) is.sent
        (is.turns.0, (refl, refl, tt)) refl
    first_goes (wish.Give number) plain is =
        let none = none_taken lanes.incoming.receiver is.turns.1 in
        work_begins (wish.Give number) (work.Give number give_stage.Turn) lanes.incoming.receiver is.turns.1 is.turns.0 (omega (arith, is.took, none.0)) (omega (arith, is.gave, none.1)) is.sent
        (is.turns.0, (refl, refl, tt)) refl
    first_goes (wish.Bind address) plain is =
        let none = none_taken lanes.incoming.receiver is.turns.1 in
        work_begins (wish.Bind address) (work.Bind address) lanes.incoming.receiver is.turns.1 is.turns.0 (omega (arith, is.took, none.0)) (omega (arith, is.gave, none.1)) is.sent
        (is.turns.0, (refl, refl, tt)) refl
    first_goes (wish.Unbind address) plain is = absurd plain

-- ---- what a step leaves of the other's

-- a lane after a step of its sender, and after one of its receiver
pub record SendsOnly (before after : LaneState EndState) : Type 0 where
  pub receiver : after.receiver ≡ before.receiver
  pub takers : length after.lane.takers ≡ length before.lane.takers
  pub returned : after.lane.returned ≡ before.lane.returned
  pub capacity : after.lane.capacity ≡ before.lane.capacity
  pub accepted : length before.lane.accepted ≤ length after.lane.accepted

pub record TakesOnly (before after : LaneState EndState) : Type 0 where
  pub sender : after.sender ≡ before.sender
  pub accepted : length after.lane.accepted ≡ length before.lane.accepted
  pub capacity : after.lane.capacity ≡ before.lane.capacity
  pub returned : before.lane.returned ≤ after.lane.returned

same_sends : (state : LaneState EndState) (next : Turn Sending) → SendsOnly state (record state { sender = next })
same_sends state next = record { receiver = refl; takers = refl; returned = refl; capacity = refl; accepted = omega arith }

same_takes : (state : LaneState EndState) (next : Turn Receiving) → TakesOnly state (record state { receiver = next })
same_takes state next = record { sender = refl; accepted = refl; capacity = refl; returned = omega arith }

send_only : (era : Era) (state : LaneState EndState) (caller : ℕ) (s : Sending) (now : SendStage) → SendsOnly state (send_step era state caller s now).state
send_only era state caller s stage.Turn = same_sends state _
send_only era state caller s stage.Era = same_sends state _
send_only era state caller s stage.Look = same_sends state _
send_only era state caller s stage.Buffer = same_sends state _
send_only era state caller s stage.Entry =
    let longer = length-append state.lane.accepted (record { caller = caller; message = s.message } ∷ []) in
    record { receiver = refl; takers = refl; returned = refl; capacity = refl; accepted = omega (arith, longer) }

sender_only : (era : Era) (state : LaneState EndState) → SendsOnly state (sender_step era state).state
sender_only era state =
    turn_step_has (SendsOnly state) state (record state { sender = turn.Free }) (λ caller s. send_step era state caller s s.stage) state.sender
    (record { receiver = refl; takers = refl; returned = refl; capacity = refl; accepted = omega arith }) (same_sends state turn.Free) (λ caller s _. send_only era state caller s s.stage)

desk_only : (era : Era) (state : LaneState EndState) (caller : ℕ) (r : Receiving) (desk : EndState) (ended : CallEnd) → TakesOnly state (desk_step era state caller r desk ended).state
desk_only era state caller r desk ended =
    cond_both (is_live_in era r.follows) (record state { receiver = turn.Leaving caller ended; desk = desk }) (record state { receiver = turn.Leaving caller (end.Dead era) }) (TakesOnly state)
    (λ _. record { sender = refl; accepted = refl; capacity = refl; returned = omega arith }) (λ _. same_takes state _)

receive_only : (era : Era) (state : LaneState EndState) (caller : ℕ) (r : Receiving) (now : Work) → TakesOnly state (receive_step side_meaning era state caller r now).state
receive_only era state caller r (work.Take take_stage.Turn) = same_takes state _
receive_only era state caller r (work.Take take_stage.Era) = same_takes state _
receive_only era state caller r (work.Take take_stage.Look) = same_takes state _
receive_only era state caller r (work.Take take_stage.Buffer) =
    cond_both (is_live_in era r.follows) (after_handing side_meaning state caller) (record state { receiver = turn.Leaving caller (end.Dead era) }) (TakesOnly state)
    (λ _. record { sender = refl; accepted = refl; capacity = refl; returned = omega arith }) (λ _. same_takes state _)
receive_only era state caller r (work.Give number give_stage.Turn) = same_takes state _
receive_only era state caller r (work.Give number give_stage.Entry) = record { sender = refl; accepted = refl; capacity = refl; returned = omega arith }
receive_only era state caller r (work.Bind address) = desk_only era state caller r _ _
receive_only era state caller r (work.Unbind address) = desk_only era state caller r _ _

receiver_only : (era : Era) (state : LaneState EndState) → TakesOnly state (receiver_step side_meaning era state).state
receiver_only era state =
    turn_step_has (TakesOnly state) state (record state { receiver = turn.Free }) (λ caller r. receive_step side_meaning era state caller r r.work) state.receiver
    (record { sender = refl; accepted = refl; capacity = refl; returned = omega arith }) (same_takes state turn.Free) (λ caller r _. receive_only era state caller r r.work)

-- the lanes after a step of a caller of them
pub record StepsOwn (before after : Lanes (LaneState EndState)) : Type 0 where
  pub outgoing : SendsOnly before.outgoing after.outgoing
  pub incoming : TakesOnly before.incoming after.incoming

stays_out : (state : LaneState EndState) → SendsOnly state state
stays_out state = record { receiver = refl; takers = refl; returned = refl; capacity = refl; accepted = omega arith }

stays_in : (state : LaneState EndState) → TakesOnly state state
stays_in state = record { sender = refl; accepted = refl; capacity = refl; returned = omega arith }

later_own : (era : Era) (lanes : Lanes (LaneState EndState)) (sends : Bool)
    → StepsOwn lanes (cond sends (send_later (list_form side_meaning) era lanes) (receive_later (list_form side_meaning) side_meaning era lanes)).state
later_own era lanes true = record { outgoing = sender_only era lanes.outgoing; incoming = stays_in lanes.incoming }
later_own era lanes false = record { outgoing = stays_out lanes.outgoing; incoming = receiver_only era lanes.incoming }

pub steps_own : (era : Era) (lanes : Lanes (LaneState EndState)) (caller follows : ℕ) (wished : Option Wish)
    → StepsOwn lanes (lanes_step (list_form side_meaning) side_meaning era lanes caller follows wished).state
steps_own era lanes caller follows None = later_own era lanes (has_call lanes.outgoing.sender caller)
steps_own era lanes caller follows (Some (wish.Send message)) = record { outgoing = same_sends lanes.outgoing _; incoming = stays_in lanes.incoming }
steps_own era lanes caller follows (Some wish.Take) = record { outgoing = stays_out lanes.outgoing; incoming = same_takes lanes.incoming _ }
steps_own era lanes caller follows (Some (wish.Give number)) = record { outgoing = stays_out lanes.outgoing; incoming = same_takes lanes.incoming _ }
steps_own era lanes caller follows (Some (wish.Bind address)) = record { outgoing = stays_out lanes.outgoing; incoming = same_takes lanes.incoming _ }
steps_own era lanes caller follows (Some (wish.Unbind address)) = record { outgoing = stays_out lanes.outgoing; incoming = same_takes lanes.incoming _ }

-- the lanes as the other end sees them
abbrev pub swapped : Lanes (LaneState EndState) → Lanes (LaneState EndState)
swapped lanes = record { outgoing = lanes.incoming; incoming = lanes.outgoing }

-- a step of a caller leaves the call of the other, and what it needs
pub other_stays : (before after : Lanes (LaneState EndState)) (caller inc : ℕ) (now : Option Wish) (accepted handed returned : ℕ) → StepsOwn before after
    → IsAt caller inc now (swapped before) accepted handed returned → IsAt caller inc now (swapped after) accepted handed returned × (left_on (swapped after) ≡ left_on (swapped before))
other_stays before after caller inc now accepted handed returned own is =
    let sender = own.incoming.sender in
    let receiver = own.outgoing.receiver in
    let sent = ap sent_so_far sender in
    let took = ap handed_so_far receiver in
    let gave = ap returned_so_far receiver in
    let sending = ap sending_left sender in
    let receiving = ap receiving_left receiver in (
      record {
        turns = subst (λ (s : Turn Sending). TurnsOf caller inc now s after.outgoing.receiver) (sym sender)
            (subst (λ (r : Turn Receiving). TurnsOf caller inc now before.incoming.sender r) (sym receiver) is.turns);
        sent = omega (arith, is.sent, own.incoming.accepted, sent);
        took = omega (arith, is.took, own.outgoing.takers, took);
        gave = omega (arith, is.gave, own.outgoing.returned, gave);
      },
      omega (arith, sending, receiving),
    )
