-- The rings after whole calls that are refused nowhere.
use Rattle.std.proofs.Common.{◌≡◌, ◌<◌, ℕ, true, cond, List, [], length, get_or, None, refl, sym, ap, ap₂, ◌∙◌, arith}
use Rattle.std.proofs.lemmas.Bool.{eqb-false}
use Rattle.rp_base.specs.declared.kinds.Era.{Era}
use Rattle.lane_model.specs.declared.calls.CallEnd.TheVariants as end
use Rattle.lane_model.specs.declared.stages.Sending.{Sending}
use Rattle.lane_model.specs.declared.stages.SendStage.{SendStage}
use Rattle.lane_model.specs.declared.stages.SendStage.TheVariants as stage
use Rattle.lane_model.specs.declared.stages.Receiving.{Receiving}
use Rattle.lane_model.specs.declared.stages.Work.{Work}
use Rattle.lane_model.specs.declared.stages.Work.TheVariants as work
use Rattle.lane_model.specs.declared.stages.TakeStage.TheVariants as take_stage
use Rattle.lane_model.specs.declared.stages.GiveStage.TheVariants as give_stage
use Rattle.lane_model.specs.declared.stages.Turn.{Turn}
use Rattle.lane_model.specs.declared.stages.Turn.TheVariants as turn
use Rattle.lane_model.specs.Lanes.{holder, message_at}
use Rattle.lane_model.specs.Desks.{DeskMeaning}
use Rattle.lane_model.specs.Sends.{with_accepted}
use Rattle.lane_model.specs.Receives.{after_handing, with_handed, with_returned}
use Rattle.lane_model.specs.Conditions.{IsFitWork}
use Rattle.lane_model.specs.AtOnce.{after_send, after_take, after_give, SendsAtOnce, TakesAtOnce}
use Rattle.lane_model.proofs.AtOnce.{free_is, live_in}
use Rattle.ring_core.specs.declared.states.Rings.{Rings}
use Rattle.ring_core.specs.declared.states.RingState.{RingState}
use Rattle.ring_core.specs.Rings.{buffer_at}
use Rattle.ring_core.specs.RingSteps.{ring_form, send_leaves, take_leaves, give_leaves}
use Rattle.ring_core.specs.SoundRings.{IsSoundRings}
use Rattle.ring_core.proofs.Owned.{message-below}
use Rattle.ring_core.proofs.Sound.{send_begun_sound, sent_on_sound, receive_begun_sound, received_on_sound}

-- the rings after a send: entry read, buffer filled and stored, index published
abbrev pub sent_rings : Rings → ℕ → List ℕ → Rings
sent_rings rings accepted message =
    send_leaves (send_leaves (send_leaves rings accepted message stage.Look) accepted message stage.Buffer) accepted message stage.Entry

pub ring_sent : (D : Type 0) (meaning : DeskMeaning D) (s : RingState D) (era : Era) (caller : ℕ) (message : List ℕ) → SendsAtOnce s.lane → era.is_live ≡ true
    → record { lane = record s.lane { lane = with_accepted s.lane.lane caller message }; rings = sent_rings s.rings (length s.lane.lane.accepted) message }
    ≡ after_send (ring_form meaning) s era caller message
ring_sent D meaning s era caller message may live =
    let accepted = length s.lane.lane.accepted in
    let on : RingState D → RingState D = λ x. (ring_form meaning).sent_on x era in
    let at : Turn Sending → RingState D = λ t. record s { lane = record s.lane { sender = t } } in
    let call : SendStage → Turn Sending = λ last. turn.Taken caller (record { follows = era.inc; message = message; stage = last }) in
    let left : Turn Sending → RingState D = λ t. record { lane = record s.lane { lane = with_accepted s.lane.lane caller message; sender = t }; rings = sent_rings s.rings accepted message } in
    let free = free_is s.lane.sender may.free in
    let b : (ring_form meaning).after_send_start s caller era.inc message ≡ at (call stage.Turn) = ap (λ (t : Turn Sending). (ring_form meaning).after_send_start (at t) caller era.inc message) free in
    let e1 : on (at (call stage.Turn)) ≡ at (call stage.Era) = ap (λ v. at (cond v (call stage.Era) (turn.Leaving caller (end.Dead era)))) (live_in era live) in
    let e2 : on (at (call stage.Era)) ≡ at (call stage.Look) =
    ap₂ (λ v w. at (cond v (turn.Leaving caller (end.NoBuffer accepted s.lane.lane.returned)) (cond w (turn.Leaving caller (end.BookFull accepted)) (call stage.Look)))) may.room may.book in
    let all : after_send (ring_form meaning) s era caller message ≡ left turn.Free =
    ap (λ (x : RingState D). on (on (on (on (on (on x)))))) b ∙ ap (λ (x : RingState D). on (on (on (on (on x))))) e1 ∙ ap (λ (x : RingState D). on (on (on (on x)))) e2 in
    ap left free ∙ sym all

-- the rings after a take: entry read, buffer in hand
abbrev pub taken_rings : Rings → ℕ → ℕ → Rings
taken_rings rings handed caller = take_leaves (take_leaves rings handed true caller take_stage.Look) handed true caller take_stage.Buffer

pub ring_taken : (D : Type 0) (meaning : DeskMeaning D) (s : RingState D) (era : Era) (caller : ℕ) → TakesAtOnce s.lane → era.is_live ≡ true
    → record {
      lane = record s.lane {
        lane = with_handed s.lane.lane caller;
        desk = meaning.delivered s.lane.desk (length s.lane.lane.takers) (message_at s.lane.lane.accepted (length s.lane.lane.takers));
      };
      rings = taken_rings s.rings (length s.lane.lane.takers) caller;
    } ≡ after_take (ring_form meaning) s era caller
ring_taken D meaning s era caller may live =
    let handed = length s.lane.lane.takers in
    let on : RingState D → RingState D = λ x. (ring_form meaning).received_on x era in
    let at : Turn Receiving → RingState D = λ t. record s { lane = record s.lane { receiver = t } } in
    let call : Work → Turn Receiving = λ last. turn.Taken caller (record { follows = era.inc; work = last }) in
    let left : Turn Receiving → RingState D = λ t. record {
      lane = record s.lane { lane = with_handed s.lane.lane caller; receiver = t; desk = meaning.delivered s.lane.desk handed (message_at s.lane.lane.accepted handed) };
      rings = taken_rings s.rings handed caller;
    } in
    let out : RingState D = record { lane = record s.lane { receiver = call (work.Take take_stage.Buffer) }; rings = take_leaves s.rings handed true caller take_stage.Look } in
    let free = free_is s.lane.receiver may.free in
    let b : (ring_form meaning).after_receive_start s caller era.inc (work.Take take_stage.Turn) ≡ at (call (work.Take take_stage.Turn)) =
    ap (λ (t : Turn Receiving). (ring_form meaning).after_receive_start (at t) caller era.inc (work.Take take_stage.Turn)) free in
    let e1 : on (at (call (work.Take take_stage.Turn))) ≡ at (call (work.Take take_stage.Era)) =
    ap (λ v. at (cond v (call (work.Take take_stage.Era)) (turn.Leaving caller (end.Dead era)))) (live_in era live) in
    let e2 : on (at (call (work.Take take_stage.Era))) ≡ at (call (work.Take take_stage.Look)) =
    ap (λ v. at (cond v (turn.Leaving caller (end.Empty (length s.lane.lane.accepted))) (call (work.Take take_stage.Look)))) may.some in
    let e3 : on out ≡ record { lane = after_handing meaning out.lane caller; rings = taken_rings s.rings handed caller } =
    ap (λ v. record {
      lane = cond v (after_handing meaning out.lane caller) (record out.lane { receiver = turn.Leaving caller (end.Dead era) });
      rings = take_leaves out.rings handed v caller take_stage.Buffer;
    }) (live_in era live) in
    let all : after_take (ring_form meaning) s era caller ≡ left turn.Free =
    ap (λ (x : RingState D). on (on (on (on (on x))))) b ∙ ap (λ (x : RingState D). on (on (on (on x)))) e1 ∙ ap (λ (x : RingState D). on (on (on x))) e2 ∙ ap on e3 in
    ap left free ∙ sym all

-- the rings after a give: entry stored, index published
abbrev pub given_rings : Rings → ℕ → ℕ → Rings
given_rings rings returned number = give_leaves (give_leaves rings returned number give_stage.Turn) returned number give_stage.Entry

pub ring_given : (D : Type 0) (meaning : DeskMeaning D) (s : RingState D) (era : Era) (caller number : ℕ) → holder s.lane.receiver ≡ None
    → record { lane = record s.lane { lane = with_returned s.lane.lane number caller }; rings = given_rings s.rings s.lane.lane.returned number }
    ≡ after_give (ring_form meaning) s era caller number
ring_given D meaning s era caller number may =
    let on : RingState D → RingState D = λ x. (ring_form meaning).received_on x era in
    let at : Turn Receiving → RingState D = λ t. record s { lane = record s.lane { receiver = t } } in
    let left : Turn Receiving → RingState D = λ t. record { lane = record s.lane { lane = with_returned s.lane.lane number caller; receiver = t }; rings = given_rings s.rings s.lane.lane.returned number } in
    let free = free_is s.lane.receiver may in
    let all : after_give (ring_form meaning) s era caller number ≡ left turn.Free =
    ap (λ (t : Turn Receiving). on (on (on ((ring_form meaning).after_receive_start (at t) caller era.inc (work.Give number give_stage.Turn))))) free in
    ap left free ∙ sym all

-- whole calls keep the rings sound
pub after_send_sound : {D : Type 0} (meaning : DeskMeaning D) (s : RingState D) (era : Era) (caller : ℕ) (message : List ℕ) → IsSoundRings s → IsSoundRings (after_send (ring_form meaning) s era caller message)
after_send_sound {D} meaning s era caller message sound =
    let on : (x : RingState D) → IsSoundRings x → IsSoundRings ((ring_form meaning).sent_on x era) = λ x is. sent_on_sound meaning x era is in
    on _ (on _ (on _ (on _ (on _ (on _ (send_begun_sound meaning s caller era.inc message sound))))))

pub after_take_sound : {D : Type 0} (meaning : DeskMeaning D) (s : RingState D) (era : Era) (caller : ℕ) → IsSoundRings s → IsSoundRings (after_take (ring_form meaning) s era caller)
after_take_sound {D} meaning s era caller sound =
    let on : (x : RingState D) → IsSoundRings x → IsSoundRings ((ring_form meaning).received_on x era) = λ x is. received_on_sound meaning x era is in
    on _ (on _ (on _ (on _ (on _ (receive_begun_sound meaning s caller era.inc (work.Take take_stage.Turn) refl (λ sought. absurd (cc)) sound)))))

pub after_give_sound : {D : Type 0} (meaning : DeskMeaning D) (s : RingState D) (era : Era) (caller number : ℕ) → IsFitWork (work.Give number give_stage.Turn) s.lane.lane caller → IsSoundRings s
    → IsSoundRings (after_give (ring_form meaning) s era caller number)
after_give_sound {D} meaning s era caller number fit sound =
    let on : (x : RingState D) → IsSoundRings x → IsSoundRings ((ring_form meaning).received_on x era) = λ x is. received_on_sound meaning x era is in
    on _ (on _ (on _ (receive_begun_sound meaning s caller era.inc (work.Give number give_stage.Turn) refl fit sound)))

-- the next message stands in a buffer of the lane, and there is room for it in hand
pub record IsNext {D : Type 0} (s : RingState D) : Type 0 where
  pub within : buffer_at s.rings.sizes.entries s.rings.forward (length s.lane.lane.takers) < length s.rings.buffers
  pub message : get_or s.rings.buffers (buffer_at s.rings.sizes.entries s.rings.forward (length s.lane.lane.takers)) [] ≡ message_at s.lane.lane.accepted (length s.lane.lane.takers)
  pub room : length s.rings.hands < 256

pub next_is : {D : Type 0} (s : RingState D) → IsSoundRings s → TakesAtOnce s.lane → IsNext s
next_is s sound may =
    let sized = sound.sized in
    let counted = sound.counted in
    let rings = s.rings in
    let lane = s.lane.lane in
    let apart = eqb-false _ _ may.some in
    let some : length lane.takers < length lane.accepted = omega (arith, apart, counted.behind) in
    let below = message-below rings.sizes (length lane.accepted) (length lane.takers) lane.returned rings.forward rings.returns rings.hands rings.aside sound.owned (length lane.takers) (omega arith) some in
    record {
      within = omega arith;
      message = sound.filled.message (length lane.takers) (omega arith) some;
      room = omega arith;
    }
