-- The parts of a lane of rings after a step: what they stand for, and that they stay sound.
use Rattle.std.proofs.Common.{◌≡◌, ℕ, ◌<◌, ◌≤◌, true, ◌&&◌, cond, Some, None, List, [], length, get_or, vec_capacity, sym, refl, ap, ap₂, ◌∙◌, subst, arith}
use Rattle.std.proofs.lemmas.Bool.{eq-eqb}
use Rattle.rp_base.specs.declared.kinds.Era.{Era}
use Rattle.lane_model.specs.declared.states.Lane.{Lane}
use Rattle.lane_model.specs.declared.states.LaneState.{LaneState}
use Rattle.lane_model.specs.declared.calls.CallEnd.TheVariants as end
use Rattle.lane_model.specs.declared.stages.Sending.{Sending}
use Rattle.lane_model.specs.declared.stages.SendStage.{SendStage}
use Rattle.lane_model.specs.declared.stages.SendStage.TheVariants as stage
use Rattle.lane_model.specs.declared.stages.Receiving.{Receiving}
use Rattle.lane_model.specs.declared.stages.Work.{Work}
use Rattle.lane_model.specs.declared.stages.Work.TheVariants as work
use Rattle.lane_model.specs.declared.stages.TakeStage.TheVariants as take_stage
use Rattle.lane_model.specs.declared.stages.Turn.{Turn}
use Rattle.lane_model.specs.declared.stages.Turn.TheVariants as turn
use Rattle.lane_model.specs.Lanes.{holder, has_call, is_live_in, message_at}
use Rattle.lane_model.specs.Desks.{DeskMeaning}
use Rattle.lane_model.specs.Sends.{sender_step}
use Rattle.lane_model.specs.Receives.{receiver_step, after_handing}
use Rattle.ring_core.specs.declared.states.Rings.{Rings}
use Rattle.ring_core.specs.declared.states.RingState.{RingState}
use Rattle.ring_core.specs.declared.ring_lanes.RingLane.TheInside.{Inside}
use Rattle.ring_core.specs.RingSteps.{send_leaves, take_leaves, receive_leaves, by_call, ring_form}
use Rattle.ring_core.specs.RingLanes.{state_of, IsRingInside, stage_of, work_of}
use Rattle.ring_core.specs.SoundRings.{IsSoundRings}
use Rattle.ring_core.specs.Owners.{sender_is_out, receiver_is_out, send_is_out, work_is_out}
use Rattle.ring_core.proofs.OneOwner.{sending_is, taking_is}
use Rattle.ring_core.proofs.Owned.{source-below, message-below}

-- the parts are sound where what they stand for is, and no room was lost
pub inside_after : {D : Type 0} (a b : Inside D) (s : RingState D) → IsRingInside a → state_of b ≡ s → IsSoundRings s
    → vec_capacity a.hands ≤ vec_capacity b.hands → vec_capacity a.aside ≤ vec_capacity b.aside → IsRingInside b
inside_after a b s inside same sound hands aside = record {
  sound = subst IsSoundRings (sym same) sound;
  hands_room = omega (arith, inside.hands_room);
  aside_room = omega (arith, inside.aside_room);
}

-- some era, where none is read
pub any_era : Era
any_era = record { inc = 0; is_live = true }

-- the message of the send that has the turn
abbrev pub message_of : Turn Sending → List ℕ
message_of turn.Free = []
message_of (turn.Taken caller send) = send.message
message_of (turn.Leaving caller end) = []
message_of turn.Manager = []

-- what a send leaves of the rings, by its stage
pub leaves_at : (t : Turn Sending) (rings : Rings) (accepted : ℕ) (last : SendStage) → stage_of t ≡ Some last
    → by_call t rings (λ caller call. send_leaves rings accepted call.message call.stage) ≡ send_leaves rings accepted (message_of t) last
leaves_at turn.Free rings accepted last at = absurd (cc)
leaves_at (turn.Taken caller send) rings accepted last at = let same : send.stage ≡ last = cc in ap (send_leaves rings accepted send.message) same
leaves_at (turn.Leaving caller end) rings accepted last at = absurd (cc)
leaves_at turn.Manager rings accepted last at = absurd (cc)

-- a send whose stage is known has the turn
pub sending_at : (t : Turn Sending) (last : SendStage) → stage_of t ≡ Some last → (caller : ℕ) × (has_call t caller ≡ true)
sending_at turn.Free last at = absurd (cc)
sending_at (turn.Taken caller send) last at = (caller, eq-eqb caller caller refl)
sending_at (turn.Leaving caller end) last at = absurd (cc)
sending_at turn.Manager last at = absurd (cc)

-- the state after a step of a send, by its stage
pub sent_at : (D : Type 0) (meaning : DeskMeaning D) (s : RingState D) (era : Era) (after : LaneState D) (rings : Rings) (last : SendStage) → stage_of s.lane.sender ≡ Some last
    → after ≡ (sender_step era s.lane).state → rings ≡ send_leaves s.rings (length s.lane.lane.accepted) (message_of s.lane.sender) last
    → record { lane = after; rings = rings } ≡ (ring_form meaning).sent_on s era
sent_at D meaning s era after rings last at lane left =
    ap₂ (λ (x : LaneState D) (y : Rings). record { lane = x; rings = y }) lane (left ∙ sym (leaves_at s.lane.sender s.rings (length s.lane.lane.accepted) last at))

-- the message that the lane keeps is that of the send
pub message_is : (t : Turn Sending) (last : SendStage) (message : List ℕ) → stage_of t ≡ Some last → ((caller : ℕ) (send : Sending) → t ≡ turn.Taken caller send → message ≡ send.message) → message ≡ message_of t
message_is turn.Free last message at is = absurd (cc)
message_is (turn.Taken caller send) last message at is = is caller send refl
message_is (turn.Leaving caller end) last message at is = absurd (cc)
message_is turn.Manager last message at is = absurd (cc)

-- a send that has its buffer and has not stored it has a buffer of the lane
out_at_buffer : (t : Turn Sending) → stage_of t ≡ Some stage.Buffer → sender_is_out t ≡ true
out_at_buffer turn.Free at = absurd (cc)
out_at_buffer (turn.Taken caller send) at = let same : send.stage ≡ stage.Buffer = cc in ap send_is_out same
out_at_buffer (turn.Leaving caller end) at = absurd (cc)
out_at_buffer turn.Manager at = absurd (cc)

pub sending_within : {D : Type 0} (s : RingState D) → IsSoundRings s → stage_of s.lane.sender ≡ Some stage.Buffer → s.rings.sending < length s.rings.buffers
sending_within s sound at =
    let is = sending_is s sound (out_at_buffer s.lane.sender at) in
    let same = is.0 in
    let room = is.1 in
    let sized = sound.sized in
    let rings = s.rings in
    let lane = s.lane.lane in
    let below = source-below rings.sizes (length lane.accepted) (length lane.takers) lane.returned rings.forward rings.returns rings.hands rings.aside sound.owned (omega arith) in
    omega arith

-- who has the receiver's turn, and the incarnation that its call follows
abbrev pub taker_of : Turn Receiving → ℕ
taker_of turn.Free = 0
taker_of (turn.Taken caller call) = caller
taker_of (turn.Leaving caller end) = 0
taker_of turn.Manager = 0

abbrev pub follows_of : Turn Receiving → ℕ
follows_of turn.Free = 0
follows_of (turn.Taken caller call) = call.follows
follows_of (turn.Leaving caller end) = 0
follows_of turn.Manager = 0

-- what a call leaves of the rings, by its work
works_at : {D : Type 0} (t : Turn Receiving) (s : RingState D) (era : Era) (w : Work) → work_of t ≡ Some w
    → by_call t s.rings (λ caller call. receive_leaves s (is_live_in era call.follows) caller call.work) ≡ receive_leaves s (is_live_in era (follows_of t)) (taker_of t) w
works_at turn.Free s era w at = absurd (cc)
works_at (turn.Taken caller call) s era w at = let same : call.work ≡ w = cc in ap (receive_leaves s (is_live_in era call.follows) caller) same
works_at (turn.Leaving caller end) s era w at = absurd (cc)
works_at turn.Manager s era w at = absurd (cc)

pub receiving_at : (t : Turn Receiving) (w : Work) → work_of t ≡ Some w → (caller : ℕ) × (has_call t caller ≡ true)
receiving_at turn.Free w at = absurd (cc)
receiving_at (turn.Taken caller call) w at = (caller, eq-eqb caller caller refl)
receiving_at (turn.Leaving caller end) w at = absurd (cc)
receiving_at turn.Manager w at = absurd (cc)

-- the state after a step of a call that has the receiver's turn, by its work
pub received_at : (D : Type 0) (meaning : DeskMeaning D) (s : RingState D) (era : Era) (after : LaneState D) (rings : Rings) (w : Work) → work_of s.lane.receiver ≡ Some w
    → after ≡ (receiver_step meaning era s.lane).state → rings ≡ receive_leaves s (is_live_in era (follows_of s.lane.receiver)) (taker_of s.lane.receiver) w
    → record { lane = after; rings = rings } ≡ (ring_form meaning).received_on s era
received_at D meaning s era after rings w at lane left =
    ap₂ (λ (x : LaneState D) (y : Rings). record { lane = x; rings = y }) lane (left ∙ sym (works_at s.lane.receiver s era w at))

-- a take that has its buffer has that of the next message, with the message in it
out_at_taking : (t : Turn Receiving) → work_of t ≡ Some (work.Take take_stage.Buffer) → receiver_is_out t ≡ true
out_at_taking turn.Free at = absurd (cc)
out_at_taking (turn.Taken caller call) at = let same : call.work ≡ work.Take take_stage.Buffer = cc in ap work_is_out same
out_at_taking (turn.Leaving caller end) at = absurd (cc)
out_at_taking turn.Manager at = absurd (cc)

pub record IsTaking {D : Type 0} (s : RingState D) : Type 0 where
  pub within : s.rings.taking < length s.rings.buffers
  pub message : get_or s.rings.buffers s.rings.taking [] ≡ message_at s.lane.lane.accepted (length s.lane.lane.takers)
  pub some : length s.lane.lane.takers < length s.lane.lane.accepted
  pub room : length s.rings.hands < 256

pub taking_at : {D : Type 0} (s : RingState D) → IsSoundRings s → work_of s.lane.receiver ≡ Some (work.Take take_stage.Buffer) → IsTaking s
taking_at s sound at =
    let is = taking_is s sound (out_at_taking s.lane.receiver at) in
    let same = is.0 in
    let some = is.1 in
    let sized = sound.sized in
    let counted = sound.counted in
    let rings = s.rings in
    let lane = s.lane.lane in
    let below = message-below rings.sizes (length lane.accepted) (length lane.takers) lane.returned rings.forward rings.returns rings.hands rings.aside sound.owned (length lane.takers) (omega arith) some in
    record {
      within = omega arith;
      message = ap (λ b. get_or rings.buffers b []) same ∙ sound.filled.message (length lane.takers) (omega arith) some;
      some = some;
      room = omega arith;
    }

-- the state after the handing, in the incarnation that the take follows, live
handed_parts : (D : Type 0) (meaning : DeskMeaning D) (lane : Lane) (sender : Turn Sending) (receiver : Turn Receiving) (desk : D) (rings : Rings) (era : Era) (caller follows : ℕ)
    → receiver ≡ turn.Taken caller (record { follows = follows; work = work.Take take_stage.Buffer }) → is_live_in era follows ≡ true
    → record { lane = after_handing meaning (record { lane = lane; sender = sender; receiver = receiver; desk = desk }) caller; rings = take_leaves rings (length lane.takers) true caller take_stage.Buffer }
    ≡ (ring_form meaning).received_on (record { lane = record { lane = lane; sender = sender; receiver = receiver; desk = desk }; rings = rings }) era
handed_parts D meaning lane sender receiver desk rings era caller follows turn_is live =
    let at : Turn Receiving → RingState D = λ t. record { lane = record { lane = lane; sender = sender; receiver = t; desk = desk }; rings = rings } in
    let taken : Turn Receiving = turn.Taken caller (record { follows = follows; work = work.Take take_stage.Buffer }) in
    sym (ap (λ (t : Turn Receiving). (ring_form meaning).received_on (at t) era) turn_is
    ∙ ap (λ b. record {
      lane = cond b (after_handing meaning (at taken).lane caller) (record { lane = lane; sender = sender; receiver = turn.Leaving caller (end.Dead era); desk = desk });
      rings = take_leaves rings (length lane.takers) b caller take_stage.Buffer;
    }) live)

pub handed_at : (D : Type 0) (meaning : DeskMeaning D) (s : RingState D) (era : Era) (caller follows : ℕ) (after : LaneState D) (rings : Rings)
    → s.lane.receiver ≡ turn.Taken caller (record { follows = follows; work = work.Take take_stage.Buffer }) → is_live_in era follows ≡ true
    → after ≡ after_handing meaning s.lane caller → rings ≡ take_leaves s.rings (length s.lane.lane.takers) true caller take_stage.Buffer
    → record { lane = after; rings = rings } ≡ (ring_form meaning).received_on s era
handed_at D meaning s era caller follows after rings turn_is live lane left =
    ap₂ (λ (x : LaneState D) (y : Rings). record { lane = x; rings = y }) lane left
    ∙ handed_parts D meaning s.lane.lane s.lane.sender s.lane.receiver s.lane.desk s.rings era caller follows turn_is live

-- the era of an incarnation, live
pub live_era : ℕ → Era
live_era follows = record { inc = follows; is_live = true }

pub live_in_live : (follows : ℕ) → is_live_in (live_era follows) follows ≡ true
unfolding live_era
live_in_live follows = ap (λ b. b && true) (eq-eqb follows follows refl)

-- a send that is not under way leaves the rings
pub leaves_none : (t : Turn Sending) (rings : Rings) (accepted : ℕ) → stage_of t ≡ None → by_call t rings (λ caller call. send_leaves rings accepted call.message call.stage) ≡ rings
leaves_none turn.Free rings accepted at = refl
leaves_none (turn.Taken caller send) rings accepted at = absurd (cc)
leaves_none (turn.Leaving caller end) rings accepted at = refl
leaves_none turn.Manager rings accepted at = refl

-- a call that has the receiver's turn, and its stage
pub rings_of_call : {D : Type 0} (s : RingState D) (era : Era) (caller : ℕ) (call : Receiving) (after : Rings) → s.lane.receiver ≡ turn.Taken caller call
    → receive_leaves s (is_live_in era call.follows) caller call.work ≡ after
    → by_call s.lane.receiver s.rings (λ caller call. receive_leaves s (is_live_in era call.follows) caller call.work) ≡ after
rings_of_call s era caller call after at leaves = ap (λ t. by_call t s.rings (λ caller call. receive_leaves s (is_live_in era call.follows) caller call.work)) at ∙ leaves

-- the turn of a call whose caller and work are known
pub taken_by_both : (t : Turn Receiving) (w : Work) (caller : ℕ) → work_of t ≡ Some w → holder t ≡ Some caller → t ≡ turn.Taken caller (record { follows = follows_of t; work = w })
taken_by_both turn.Free w caller at has = absurd (cc)
taken_by_both (turn.Taken other call) w caller at has =
    let mine : other ≡ caller = cc in
    let same : call.work ≡ w = cc in
    ap₂ (λ (c : ℕ) (x : Work). turn.Taken c (record { follows = call.follows; work = x })) mine same
taken_by_both (turn.Leaving other end) w caller at has = absurd (cc)
taken_by_both turn.Manager w caller at has = absurd (cc)

-- the turn of a call whose work is known
pub taken_with_work : (t : Turn Receiving) (w : Work) (caller : ℕ) (r : Receiving) → work_of t ≡ Some w → t ≡ turn.Taken caller r → t ≡ turn.Taken caller (record { follows = r.follows; work = w })
taken_with_work t w caller r at is =
    let same : r.work ≡ w = cc (ap work_of is) in
    is ∙ ap (λ (x : Work). turn.Taken caller (record { follows = r.follows; work = x })) same
