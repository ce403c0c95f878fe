-- A call of a caller that alone sends on one lane and takes from the other comes one step nearer to its end with each step, and to the end that it should.
use Rattle.std.proofs.Common.{◌≡◌, ◌<◌, ℕ, ◌+◌, eqb, cond, Bool, true, ◌&&◌, [], ◌∷◌, length, Result, Ok, Err, refl, sym, ap₂, ◌∙◌, arith}
use Rattle.std.proofs.lemmas.Bool.{cond_both, eq-eqb, eqb-true, false≢true}
use Rattle.std.proofs.lemmas.List.{length-append}
use Rattle.rp_base.specs.declared.kinds.BindFault.{BindFault}
use Rattle.rp_base.specs.declared.kinds.Endpoint.{Endpoint}
use Rattle.rp_base.specs.declared.kinds.Era.{Era}
use Rattle.lane_model.specs.declared.calls.CallEnd.{CallEnd}
use Rattle.lane_model.specs.declared.calls.CallEnd.TheVariants as end
use Rattle.lane_model.specs.declared.calls.Outcome.{Outcome}
use Rattle.lane_model.specs.declared.calls.Outcome.TheVariants as outcome
use Rattle.lane_model.specs.declared.calls.Wish.{Wish}
use Rattle.lane_model.specs.declared.calls.Wish.TheVariants as wish
use Rattle.lane_model.specs.declared.stages.GiveStage.TheVariants as give_stage
use Rattle.lane_model.specs.declared.stages.Receiving.{Receiving}
use Rattle.lane_model.specs.declared.stages.Sending.{Sending}
use Rattle.lane_model.specs.declared.stages.SendStage.{SendStage}
use Rattle.lane_model.specs.declared.stages.SendStage.TheVariants as stage
use Rattle.lane_model.specs.declared.stages.TakeStage.TheVariants as take_stage
use Rattle.lane_model.specs.declared.stages.Turn.{Turn}
use Rattle.lane_model.specs.declared.stages.Turn.TheVariants as turn
use Rattle.lane_model.specs.declared.stages.Work.{Work}
use Rattle.lane_model.specs.declared.stages.Work.TheVariants as work
use Rattle.lane_model.specs.declared.states.LaneState.{LaneState}
use Rattle.lane_model.specs.Lanes.{is_live_in, turn_step}
use Rattle.lane_model.specs.Receives.{after_handing, desk_end, desk_step, receive_step, receiver_step}
use Rattle.lane_model.specs.Sends.{send_step, sender_step}
use Rattle.channel_bus.specs.Sides.{EndState, side_meaning}

-- ---- how far a call under way is from its end, and what it has done

-- the steps that are left of a send
abbrev pub stage_left : SendStage → ℕ
stage_left stage.Turn = 6
stage_left stage.Era = 5
stage_left stage.Look = 4
stage_left stage.Buffer = 3
stage_left stage.Entry = 2

abbrev pub sending_left : Turn Sending → ℕ
sending_left turn.Free = 0
sending_left (turn.Taken caller s) = stage_left s.stage
sending_left (turn.Leaving caller ended) = 1
sending_left turn.Manager = 0

-- the steps that are left of a take, a give or a binding
abbrev pub work_left : Work → ℕ
work_left (work.Take take_stage.Turn) = 5
work_left (work.Take take_stage.Era) = 4
work_left (work.Take take_stage.Look) = 3
work_left (work.Take take_stage.Buffer) = 2
work_left (work.Give number give_stage.Turn) = 3
work_left (work.Give number give_stage.Entry) = 2
work_left (work.Bind address) = 2
work_left (work.Unbind address) = 2

abbrev pub receiving_left : Turn Receiving → ℕ
receiving_left turn.Free = 0
receiving_left (turn.Taken caller r) = work_left r.work
receiving_left (turn.Leaving caller ended) = 1
receiving_left turn.Manager = 0

-- one for an end of this kind, else none
abbrev pub sent_by : CallEnd → ℕ
sent_by (end.Sent number) = 1
sent_by other = 0

abbrev pub handed_by : CallEnd → ℕ
handed_by (end.Took number judged) = 1
handed_by other = 0

abbrev pub returned_by : CallEnd → ℕ
returned_by (end.Gave number) = 1
returned_by other = 0

-- what a call under way has added to its lane
abbrev pub sent_so_far : Turn Sending → ℕ
sent_so_far turn.Free = 0
sent_so_far (turn.Taken caller s) = 0
sent_so_far (turn.Leaving caller ended) = sent_by ended
sent_so_far turn.Manager = 0

abbrev pub handed_so_far : Turn Receiving → ℕ
handed_so_far turn.Free = 0
handed_so_far (turn.Taken caller r) = 0
handed_so_far (turn.Leaving caller ended) = handed_by ended
handed_so_far turn.Manager = 0

abbrev pub returned_so_far : Turn Receiving → ℕ
returned_so_far turn.Free = 0
returned_so_far (turn.Taken caller r) = 0
returned_so_far (turn.Leaving caller ended) = returned_by ended
returned_so_far turn.Manager = 0

-- ---- which call is under way

abbrev pub IsFree : {C : Type 0} → Turn C → Type 0
IsFree turn.Free = Unit {0}
IsFree (turn.Taken caller call) = ⊥
IsFree (turn.Leaving caller ended) = ⊥
IsFree turn.Manager = ⊥

-- the ends to which the call of a wish comes
abbrev pub IsEndOf : Wish → CallEnd → Type 0
IsEndOf (wish.Send message) (end.Sent number) = Unit {0}
IsEndOf (wish.Send message) (end.BookFull accepted) = Unit {0}
IsEndOf wish.Take (end.Took number judged) = Unit {0}
IsEndOf (wish.Give number) (end.Gave given) = Unit {0}
IsEndOf (wish.Bind address) (end.Bound endpoint) = Unit {0}
IsEndOf (wish.Bind address) (end.Refused why) = Unit {0}
IsEndOf wanted ended = ⊥

-- the work of a wish
abbrev pub IsWorkOf : Wish → Work → Type 0
IsWorkOf wish.Take (work.Take stage) = Unit {0}
IsWorkOf (wish.Give number) (work.Give given stage) = Unit {0}
IsWorkOf (wish.Bind address) (work.Bind bound) = Unit {0}
IsWorkOf wanted other = ⊥

-- the send of a caller that follows this incarnation
abbrev pub IsOwnSend : ℕ → ℕ → Turn Sending → Type 0
IsOwnSend caller inc turn.Free = ⊥
IsOwnSend caller inc (turn.Taken other s) = (other ≡ caller) × (s.follows ≡ inc)
IsOwnSend caller inc (turn.Leaving other ended) = (other ≡ caller) × IsEndOf (wish.Send []) ended
IsOwnSend caller inc turn.Manager = ⊥

-- the same of the call of another wish
abbrev pub IsOwnWork : ℕ → ℕ → Wish → Turn Receiving → Type 0
IsOwnWork caller inc wanted turn.Free = ⊥
IsOwnWork caller inc wanted (turn.Taken other r) = (other ≡ caller) × (r.follows ≡ inc) × IsWorkOf wanted r.work
IsOwnWork caller inc wanted (turn.Leaving other ended) = (other ≡ caller) × IsEndOf wanted ended
IsOwnWork caller inc wanted turn.Manager = ⊥

module _ (era : Era) (live : era.is_live ≡ true) (caller : ℕ) where
  in_era : (follows : ℕ) → follows ≡ era.inc → is_live_in era follows ≡ true
  in_era follows same = ap₂ (λ (a b : Bool). a && b) (eq-eqb era.inc follows (sym same)) live

  -- ---- sends

  -- what a step of a send leaves of its lane, where so many were accepted before the send
  abbrev pub SendGoes : Outcome → LaneState EndState → ℕ → ℕ → Type 0
  SendGoes (outcome.At step) after accepted left =
      IsOwnSend caller era.inc after.sender × (length after.lane.accepted ≡ accepted + sent_so_far after.sender) × (sending_left after.sender < left)
  SendGoes (outcome.Ended ended) after accepted left = IsFree after.sender × IsEndOf (wish.Send []) ended × (length after.lane.accepted ≡ accepted + sent_by ended) × (left ≡ 1)

  module _ (out : LaneState EndState) (accepted : ℕ) (room : accepted < out.lane.returned + out.lane.capacity) where
    -- the turn after a step that leaves the lane
    turned : (next : Turn Sending) (step left : ℕ) → length out.lane.accepted ≡ accepted → IsOwnSend caller era.inc next → sent_so_far next ≡ 0 → sending_left next < left
        → SendGoes (outcome.At step) (record out { sender = next }) accepted left
    turned next step left all is none less = (is, omega (arith, all, none), less)

    stage_goes : (other : ℕ) (s : Sending) (now : SendStage) → other ≡ caller → s.follows ≡ era.inc → length out.lane.accepted ≡ accepted
        → let step = send_step era out other s now in SendGoes step.outcome step.state accepted (stage_left now)
    stage_goes other s stage.Turn mine follows all =
        cond_both (is_live_in era s.follows) (turn.Taken other (record s { stage = stage.Era })) (turn.Leaving other (end.Dead era))
        (λ (next : Turn Sending). SendGoes (outcome.At 2) (record out { sender = next }) accepted 6)
        (λ _. turned (turn.Taken other (record s { stage = stage.Era })) 2 6 all (mine, follows) refl (omega arith))
        (λ dead. absurd (false≢true (sym dead ∙ in_era s.follows follows)))
    stage_goes other s stage.Era mine follows all =
        cond_both (eqb (length out.lane.accepted) (out.lane.returned + out.lane.capacity)) (turn.Leaving other (end.NoBuffer (length out.lane.accepted) out.lane.returned))
        (cond (eqb (length out.lane.accepted) out.lane.book) (turn.Leaving other (end.BookFull (length out.lane.accepted))) (turn.Taken other (record s { stage = stage.Look })))
        (λ (next : Turn Sending). SendGoes (outcome.At 3) (record out { sender = next }) accepted 5)
        (λ none. absurd (omega (arith, all, room, eqb-true (length out.lane.accepted) (out.lane.returned + out.lane.capacity) none)))
        (λ _. cond_both (eqb (length out.lane.accepted) out.lane.book) (turn.Leaving other (end.BookFull (length out.lane.accepted))) (turn.Taken other (record s { stage = stage.Look }))
        (λ (next : Turn Sending). SendGoes (outcome.At 3) (record out { sender = next }) accepted 5)
        (λ _. turned (turn.Leaving other (end.BookFull (length out.lane.accepted))) 3 5 all (mine, tt) refl (omega arith))
        (λ _. turned (turn.Taken other (record s { stage = stage.Look })) 3 5 all (mine, follows) refl (omega arith)))
    stage_goes other s stage.Look mine follows all = turned (turn.Taken other (record s { stage = stage.Buffer })) 4 4 all (mine, follows) refl (omega arith)
    stage_goes other s stage.Buffer mine follows all = turned (turn.Taken other (record s { stage = stage.Entry })) 5 3 all (mine, follows) refl (omega arith)
    stage_goes other s stage.Entry mine follows all =
        let longer = length-append out.lane.accepted (record { caller = other; message = s.message } ∷ []) in ((mine, tt), omega (arith, all, longer), omega arith)

    send_goes : (now : Turn Sending) → IsOwnSend caller era.inc now → length out.lane.accepted ≡ accepted + sent_so_far now
        → let step = turn_step out (record out { sender = turn.Free }) (λ other s. send_step era out other s s.stage) now in SendGoes step.outcome step.state accepted (sending_left now)
    send_goes turn.Free is all = absurd is
    send_goes (turn.Taken other s) is all = stage_goes other s s.stage is.0 is.1 (omega (arith, all))
    send_goes (turn.Leaving other ended) is all = (tt, is.1, all, refl)
    send_goes turn.Manager is all = absurd is

  -- a step of the send that has the turn
  pub sender_goes : (out : LaneState EndState) (accepted : ℕ) → accepted < out.lane.returned + out.lane.capacity → IsOwnSend caller era.inc out.sender
      → length out.lane.accepted ≡ accepted + sent_so_far out.sender → let step = sender_step era out in SendGoes step.outcome step.state accepted (sending_left out.sender)
  sender_goes out accepted room is all = send_goes out accepted room out.sender is all

  -- ---- takes, gives and bindings

  abbrev pub WorkGoes : Wish → Outcome → LaneState EndState → ℕ → ℕ → ℕ → Type 0
  WorkGoes wanted (outcome.At step) after handed returned left =
      IsOwnWork caller era.inc wanted after.receiver × (length after.lane.takers ≡ handed + handed_so_far after.receiver)
      × (after.lane.returned ≡ returned + returned_so_far after.receiver) × (receiving_left after.receiver < left)
  WorkGoes wanted (outcome.Ended ended) after handed returned left =
      IsFree after.receiver × IsEndOf wanted ended × (length after.lane.takers ≡ handed + handed_by ended) × (after.lane.returned ≡ returned + returned_by ended) × (left ≡ 1)

  -- a take has a message
  abbrev pub HasMessage : Wish → ℕ → ℕ → Type 0
  HasMessage wish.Take handed accepted = handed < accepted
  HasMessage other handed accepted = Unit {0}

  module _ (into : LaneState EndState) (wanted : Wish) (handed returned : ℕ) (has : HasMessage wanted handed (length into.lane.accepted)) where
    took : (next : Turn Receiving) (step left : ℕ) → length into.lane.takers ≡ handed → into.lane.returned ≡ returned → IsOwnWork caller era.inc wanted next
        → handed_so_far next ≡ 0 → returned_so_far next ≡ 0 → receiving_left next < left → WorkGoes wanted (outcome.At step) (record into { receiver = next }) handed returned left
    took next step left takers back is none_handed none_back less = (is, omega (arith, takers, none_handed), omega (arith, back, none_back), less)

  bind_end : (address : ℕ) (answer : Result Endpoint BindFault) → IsEndOf (wish.Bind address) (desk_end end.Bound answer) × (handed_by (desk_end end.Bound answer) ≡ 0) × (returned_by (desk_end end.Bound answer) ≡ 0)
  bind_end address (Ok endpoint) = (tt, refl, refl)
  bind_end address (Err why) = (tt, refl, refl)

  bound : (into : LaneState EndState) (address handed returned other : ℕ) (r : Receiving) (desk : EndState) (ended : CallEnd) → other ≡ caller → r.follows ≡ era.inc
      → length into.lane.takers ≡ handed → into.lane.returned ≡ returned → IsEndOf (wish.Bind address) ended × (handed_by ended ≡ 0) × (returned_by ended ≡ 0)
      → WorkGoes (wish.Bind address) (outcome.At 2) (desk_step era into other r desk ended).state handed returned 2
  bound into address handed returned other r desk ended mine follows takers back is =
      cond_both (is_live_in era r.follows) (record into { receiver = turn.Leaving other ended; desk = desk }) (record into { receiver = turn.Leaving other (end.Dead era) })
      (λ (after : LaneState EndState). WorkGoes (wish.Bind address) (outcome.At 2) after handed returned 2)
      (λ _. ((mine, is.0), omega (arith, takers, is.1), omega (arith, back, is.2), omega arith))
      (λ dead. absurd (false≢true (sym dead ∙ in_era r.follows follows)))

  work_goes : (into : LaneState EndState) (wanted : Wish) (handed returned : ℕ) → HasMessage wanted handed (length into.lane.accepted)
      → (other : ℕ) (r : Receiving) (now : Work) → other ≡ caller → r.follows ≡ era.inc → IsWorkOf wanted now → length into.lane.takers ≡ handed → into.lane.returned ≡ returned
      → let step = receive_step side_meaning era into other r now in WorkGoes wanted step.outcome step.state handed returned (work_left now)
  work_goes into wish.Take handed returned has other r (work.Take take_stage.Turn) mine follows of takers back =
      cond_both (is_live_in era r.follows) (turn.Taken other (record r { work = work.Take take_stage.Era })) (turn.Leaving other (end.Dead era))
      (λ (next : Turn Receiving). WorkGoes wish.Take (outcome.At 2) (record into { receiver = next }) handed returned 5)
      (λ _. took into wish.Take handed returned has (turn.Taken other (record r { work = work.Take take_stage.Era })) 2 5 takers back (mine, follows, tt) refl refl (omega arith))
      (λ dead. absurd (false≢true (sym dead ∙ in_era r.follows follows)))
  work_goes into wish.Take handed returned has other r (work.Take take_stage.Era) mine follows of takers back =
      cond_both (eqb (length into.lane.takers) (length into.lane.accepted)) (turn.Leaving other (end.Empty (length into.lane.accepted))) (turn.Taken other (record r { work = work.Take take_stage.Look }))
      (λ (next : Turn Receiving). WorkGoes wish.Take (outcome.At 3) (record into { receiver = next }) handed returned 4)
      (λ none. absurd (omega (arith, takers, has, eqb-true (length into.lane.takers) (length into.lane.accepted) none)))
      (λ _. took into wish.Take handed returned has (turn.Taken other (record r { work = work.Take take_stage.Look })) 3 4 takers back (mine, follows, tt) refl refl (omega arith))
  work_goes into wish.Take handed returned has other r (work.Take take_stage.Look) mine follows of takers back =
      took into wish.Take handed returned has (turn.Taken other (record r { work = work.Take take_stage.Buffer })) 4 3 takers back (mine, follows, tt) refl refl (omega arith)
  work_goes into wish.Take handed returned has other r (work.Take take_stage.Buffer) mine follows of takers back =
      cond_both (is_live_in era r.follows) (after_handing side_meaning into other) (record into { receiver = turn.Leaving other (end.Dead era) })
      (λ (after : LaneState EndState). WorkGoes wish.Take (outcome.At 5) after handed returned 2)
      (λ _. let longer = length-append into.lane.takers (other ∷ []) in ((mine, tt), omega (arith, takers, longer), omega (arith, back), omega arith))
      (λ dead. absurd (false≢true (sym dead ∙ in_era r.follows follows)))
  work_goes into (wish.Give number) handed returned has other r (work.Give given give_stage.Turn) mine follows of takers back =
      took into (wish.Give number) handed returned has (turn.Taken other (record r { work = work.Give given give_stage.Entry })) 2 3 takers back (mine, follows, tt) refl refl (omega arith)
  work_goes into (wish.Give number) handed returned has other r (work.Give given give_stage.Entry) mine follows of takers back =
      ((mine, tt), omega (arith, takers), omega (arith, back), omega arith)
  work_goes into (wish.Bind address) handed returned has other r (work.Bind at) mine follows of takers back =
      bound into address handed returned other r _ _ mine follows takers back (bind_end address (side_meaning.bind_answer into.desk at (length into.lane.takers)))
  work_goes into (wish.Send message) handed returned has other r now mine follows of takers back = absurd of
  work_goes into (wish.Unbind address) handed returned has other r now mine follows of takers back = absurd of
  work_goes into wish.Take handed returned has other r (work.Give number stage) mine follows of takers back = absurd of
  work_goes into wish.Take handed returned has other r (work.Bind address) mine follows of takers back = absurd of
  work_goes into wish.Take handed returned has other r (work.Unbind address) mine follows of takers back = absurd of
  work_goes into (wish.Give number) handed returned has other r (work.Take stage) mine follows of takers back = absurd of
  work_goes into (wish.Give number) handed returned has other r (work.Bind address) mine follows of takers back = absurd of
  work_goes into (wish.Give number) handed returned has other r (work.Unbind address) mine follows of takers back = absurd of
  work_goes into (wish.Bind address) handed returned has other r (work.Take stage) mine follows of takers back = absurd of
  work_goes into (wish.Bind address) handed returned has other r (work.Give number stage) mine follows of takers back = absurd of
  work_goes into (wish.Bind address) handed returned has other r (work.Unbind at) mine follows of takers back = absurd of

  receive_goes : (into : LaneState EndState) (wanted : Wish) (handed returned : ℕ) → HasMessage wanted handed (length into.lane.accepted) → (now : Turn Receiving)
      → IsOwnWork caller era.inc wanted now → length into.lane.takers ≡ handed + handed_so_far now → into.lane.returned ≡ returned + returned_so_far now
      → let step = turn_step into (record into { receiver = turn.Free }) (λ other r. receive_step side_meaning era into other r r.work) now in
      WorkGoes wanted step.outcome step.state handed returned (receiving_left now)
  receive_goes into wanted handed returned has turn.Free is takers back = absurd is
  receive_goes into wanted handed returned has (turn.Taken other r) is takers back =
      work_goes into wanted handed returned has other r r.work is.0 is.1 is.2 (omega (arith, takers)) (omega (arith, back))
  receive_goes into wanted handed returned has (turn.Leaving other ended) is takers back = (tt, is.1, takers, back, refl)
  receive_goes into wanted handed returned has turn.Manager is takers back = absurd is

  -- a step of the call that has the receiver's turn
  pub receiver_goes : (into : LaneState EndState) (wanted : Wish) (handed returned : ℕ) → HasMessage wanted handed (length into.lane.accepted) → IsOwnWork caller era.inc wanted into.receiver
      → length into.lane.takers ≡ handed + handed_so_far into.receiver → into.lane.returned ≡ returned + returned_so_far into.receiver
      → let step = receiver_step side_meaning era into in WorkGoes wanted step.outcome step.state handed returned (receiving_left into.receiver)
  receiver_goes into wanted handed returned has is takers back = receive_goes into wanted handed returned has into.receiver is takers back
