use Rattle.split_ring.proofs.TakeWalks.{settled_as, dead_early, empty, dead_late, handed}
use Rattle.std.proofs.Common.{ℕ, refl, sym, subst}
use Rattle.lane_model.specs.declared.calls.Answer.TheVariants as answer
use Rattle.lane_model.specs.declared.calls.CallEnd.TheVariants as ends
use Rattle.lane_model.specs.declared.recoveries.LaneTurn.TheVariants as lane_turn
use Rattle.lane_model.specs.declared.stages.TakeStage.TheVariants as take_stage
use Rattle.split_ring.specs.CallPhases as phase
use Rattle.split_ring.specs.Runs.{HasRun}
use Rattle.split_ring.specs.Turns.{IsLeaving}
use Rattle.split_ring.proofs.ReceiveRuns.{take_begins, take_goes}
use Rattle.split_ring.specs.declared.callers.CallerId.{CallerId}
use Rattle.split_ring.specs.Focus.{LeavesOthers, seat_of}
use Rattle.split_ring.proofs.SeatEnds.{leaves_then, stays_leaves}
use Rattle.split_ring.specs.Receives.{taken_of, HasSettledTake}
use Rattle.std.specs.Prelude.{Ok, Err}
use Rattle.split_ring.specs.declared.takes.TakeFault.TheVariants as fault
use Rattle.split_ring.proofs.links.SharedLink.take_on.Goals as goal

pub returns-in-Err-clause-settled : goal.returns-in-Err-clause-settled
returns-in-Err-clause-settled g c =
    let coded = g.row.D.coded in let meaning = g.D.Desk.meaning in let call = c.take_begun-call.result in
    subst (λ (w : CallerId). HasSettledTake coded meaning c.args.who (Err (fault.Dead c.in-Err.era)) (seat_of w.number c.args.seat.now.me) (seat_of w.number c.find_take_era.new.seat.me)) c.take_begun-call.ensures.call.1 (
    settled_as coded meaning call c.args.who (Err (fault.Dead c.in-Err.era)) (seat_of call.who.number c.args.seat.now.me) (seat_of call.who.number c.find_take_era.new.seat.me) c.take_begun-call.ensures.call.1
    (dead_early coded meaning call c.in-Err.era (seat_of call.who.number c.args.seat.now.me) (seat_of call.who.number c.take_begun-call.new.seat.me) (seat_of call.who.number c.find_take_era.new.seat.me) c.take_begun-call.ensures.still c.in-Err.ensures.dead))

pub returns-in-Err-look_for_message-clause-settled : goal.returns-in-Err-look_for_message-clause-settled
returns-in-Err-look_for_message-clause-settled g c =
    let coded = g.row.D.coded in let meaning = g.D.Desk.meaning in let call = c.take_begun-call.result in
    subst (λ (w : CallerId). HasSettledTake coded meaning c.args.who (Err (fault.Empty c.in-Err-look_for_message.accepted)) (seat_of w.number c.args.seat.now.me) (seat_of w.number c.look_for_message.new.seat.me)) c.take_begun-call.ensures.call.1 (
    settled_as coded meaning call c.args.who (Err (fault.Empty c.in-Err-look_for_message.accepted)) (seat_of call.who.number c.args.seat.now.me) (seat_of call.who.number c.look_for_message.new.seat.me) c.take_begun-call.ensures.call.1
    (empty coded meaning call c.in-Err-look_for_message.accepted (seat_of call.who.number c.args.seat.now.me) (seat_of call.who.number c.take_begun-call.new.seat.me) (seat_of call.who.number c.find_take_era.new.seat.me) (seat_of call.who.number c.look_for_message.new.seat.me)
    c.take_begun-call.ensures.still c.in_default.ensures.live.1 c.in-Err-look_for_message.ensures.empty))

pub returns-in-Ok-clause-settled : goal.returns-in-Ok-clause-settled
returns-in-Ok-clause-settled g c =
    let coded = g.row.D.coded in let meaning = g.D.Desk.meaning in let call = c.take_begun-call.result in let handing = c.in-Ok.handing in let message = c.hand_over.new.message in
    subst (λ (w : CallerId). HasSettledTake coded meaning w (Ok (taken_of w handing message)) (seat_of w.number c.args.seat.now.me) (seat_of w.number c.hand_over.new.seat.me)) c.take_begun-call.ensures.call.1
    (handed coded meaning call c.take_filled-buffer.result (taken_of call.who handing message) (seat_of call.who.number c.args.seat.now.me) (seat_of call.who.number c.take_begun-call.new.seat.me) (seat_of call.who.number c.find_take_era.new.seat.me) (seat_of call.who.number c.look_for_message.new.seat.me) (seat_of call.who.number c.take_filled-buffer.new.seat.me) (seat_of call.who.number c.hand_over.new.seat.me)
    c.take_begun-call.ensures.still c.in_default.ensures.live.1 c.in_default-look_for_message.ensures.message.1 c.take_filled-buffer.ensures.done c.in-Ok.ensures.left c.in-Ok.ensures.handed)

pub returns-in-Err-hand_over-clause-settled : goal.returns-in-Err-hand_over-clause-settled
returns-in-Err-hand_over-clause-settled g c =
    let coded = g.row.D.coded in let meaning = g.D.Desk.meaning in let call = c.take_begun-call.result in
    subst (λ (w : CallerId). HasSettledTake coded meaning c.args.who (Err (fault.Dead c.in-Err-hand_over.era)) (seat_of w.number c.args.seat.now.me) (seat_of w.number c.hand_over.new.seat.me)) c.take_begun-call.ensures.call.1 (
    settled_as coded meaning call c.args.who (Err (fault.Dead c.in-Err-hand_over.era)) (seat_of call.who.number c.args.seat.now.me) (seat_of call.who.number c.hand_over.new.seat.me) c.take_begun-call.ensures.call.1
    (dead_late coded meaning call c.take_filled-buffer.result c.in-Err-hand_over.era (seat_of call.who.number c.args.seat.now.me) (seat_of call.who.number c.take_begun-call.new.seat.me) (seat_of call.who.number c.find_take_era.new.seat.me) (seat_of call.who.number c.look_for_message.new.seat.me) (seat_of call.who.number c.take_filled-buffer.new.seat.me) (seat_of call.who.number c.hand_over.new.seat.me)
    c.take_begun-call.ensures.still c.in_default.ensures.live.1 c.in_default-look_for_message.ensures.message.1 c.take_filled-buffer.ensures.done c.in-Err-hand_over.ensures.left c.in-Err-hand_over.ensures.dead))

pub returns-in-Err-clause-leaves : goal.returns-in-Err-clause-leaves
returns-in-Err-clause-leaves g c =
    let n = c.take_begun-call.result.who.number in let a = c.args.seat.now.me in let b = c.take_begun-call.new.seat.me in let d = c.find_take_era.new.seat.me in
    subst (λ (w : CallerId). LeavesOthers w.number a d) c.take_begun-call.ensures.call.1 (leaves_then n a b d (stays_leaves n a b c.take_begun-call.ensures.stays) c.find_take_era.ensures.alone.leaves)

pub returns-in-Err-look_for_message-clause-leaves : goal.returns-in-Err-look_for_message-clause-leaves
returns-in-Err-look_for_message-clause-leaves g c =
    let n = c.take_begun-call.result.who.number in let a = c.args.seat.now.me in let b = c.take_begun-call.new.seat.me in let d = c.find_take_era.new.seat.me in let e = c.look_for_message.new.seat.me in
    subst (λ (w : CallerId). LeavesOthers w.number a e) c.take_begun-call.ensures.call.1 (leaves_then n a d e (leaves_then n a b d (stays_leaves n a b c.take_begun-call.ensures.stays) c.find_take_era.ensures.alone.leaves) c.look_for_message.ensures.alone.leaves)

pub returns-in-Ok-clause-leaves : goal.returns-in-Ok-clause-leaves
returns-in-Ok-clause-leaves g c =
    let n = c.take_begun-call.result.who.number in let a = c.args.seat.now.me in let b = c.take_begun-call.new.seat.me in let d = c.find_take_era.new.seat.me in let e = c.look_for_message.new.seat.me in let f = c.take_filled-buffer.new.seat.me in let h = c.hand_over.new.seat.me in
    subst (λ (w : CallerId). LeavesOthers w.number a h) c.take_begun-call.ensures.call.1 (leaves_then n a f h (leaves_then n a e f (leaves_then n a d e (leaves_then n a b d (stays_leaves n a b c.take_begun-call.ensures.stays) c.find_take_era.ensures.alone.leaves) c.look_for_message.ensures.alone.leaves) c.take_filled-buffer.ensures.alone.leaves) c.hand_over.ensures.alone.leaves)

pub returns-in-Err-hand_over-clause-leaves : goal.returns-in-Err-hand_over-clause-leaves
returns-in-Err-hand_over-clause-leaves g c =
    let n = c.take_begun-call.result.who.number in let a = c.args.seat.now.me in let b = c.take_begun-call.new.seat.me in let d = c.find_take_era.new.seat.me in let e = c.look_for_message.new.seat.me in let f = c.take_filled-buffer.new.seat.me in let h = c.hand_over.new.seat.me in
    subst (λ (w : CallerId). LeavesOthers w.number a h) c.take_begun-call.ensures.call.1 (leaves_then n a f h (leaves_then n a e f (leaves_then n a d e (leaves_then n a b d (stays_leaves n a b c.take_begun-call.ensures.stays) c.find_take_era.ensures.alone.leaves) c.look_for_message.ensures.alone.leaves) c.take_filled-buffer.ensures.alone.leaves) c.hand_over.ensures.alone.leaves)

pub returns-in-Err-clause-run : goal.returns-in-Err-clause-run
returns-in-Err-clause-run g c = λ m known.
    let coded = g.row.D.coded in let meaning = g.D.Desk.meaning in let z = c.args.self.now.sizes in let call = c.take_begun-call.result in let a = c.args.seat.now.me in let b = c.take_begun-call.new.seat.me in let d = c.find_take_era.new.seat.me in
    let r0 = take_begins coded meaning z m call a b c.take_begun-call.ensures.stays c.take_begun-call.ensures.call.0 known in
    (1, refl, subst (λ (w : CallerId). HasRun coded meaning w z 1 (phase.LeavesReceiver (answer.Dead c.in-Err.era)) m d) c.take_begun-call.ensures.call.1 (take_goes coded meaning z m 0 take_stage.Turn call 0 (phase.LeavesReceiver (answer.Dead c.in-Err.era)) b d r0 c.find_take_era.ensures.alone (refl, refl, tt, tt, refl) c.in-Err.ensures.dead.1 tt))

pub returns-in-Err-look_for_message-clause-run : goal.returns-in-Err-look_for_message-clause-run
returns-in-Err-look_for_message-clause-run g c = λ m known.
    let coded = g.row.D.coded in let meaning = g.D.Desk.meaning in let z = c.args.self.now.sizes in let call = c.take_begun-call.result in let a = c.args.seat.now.me in let b = c.take_begun-call.new.seat.me in let d = c.find_take_era.new.seat.me in
    let r0 = take_begins coded meaning z m call a b c.take_begun-call.ensures.stays c.take_begun-call.ensures.call.0 known in
    let r1 = take_goes coded meaning z m 0 take_stage.Turn call 0 (phase.Takes take_stage.Era call 0) b d r0 c.find_take_era.ensures.alone (refl, refl, tt, tt, refl) (c.in_default.ensures.live.0, refl) tt in
    let e = c.look_for_message.new.seat.me in
    (2, refl, subst (λ (w : CallerId). HasRun coded meaning w z 2 (phase.LeavesReceiver (answer.Empty c.in-Err-look_for_message.accepted)) m e) c.take_begun-call.ensures.call.1 (take_goes coded meaning z m 1 take_stage.Era call 0 (phase.LeavesReceiver (answer.Empty c.in-Err-look_for_message.accepted)) d e r1 c.look_for_message.ensures.alone (refl, refl, tt, tt, refl) c.in-Err-look_for_message.ensures.empty.1 tt))

pub returns-in-Ok-clause-run : goal.returns-in-Ok-clause-run
returns-in-Ok-clause-run g c = λ m known.
    let coded = g.row.D.coded in let meaning = g.D.Desk.meaning in let z = c.args.self.now.sizes in let call = c.take_begun-call.result in let a = c.args.seat.now.me in let b = c.take_begun-call.new.seat.me in let d = c.find_take_era.new.seat.me in
    let r0 = take_begins coded meaning z m call a b c.take_begun-call.ensures.stays c.take_begun-call.ensures.call.0 known in
    let r1 = take_goes coded meaning z m 0 take_stage.Turn call 0 (phase.Takes take_stage.Era call 0) b d r0 c.find_take_era.ensures.alone (refl, refl, tt, tt, refl) (c.in_default.ensures.live.0, refl) tt in
    let e = c.look_for_message.new.seat.me in let r2 = take_goes coded meaning z m 1 take_stage.Era call 0 (phase.Takes take_stage.Look call 0) d e r1 c.look_for_message.ensures.alone (refl, refl, tt, tt, refl) (c.in_default-look_for_message.ensures.message.0, refl) tt in
    let buffer = c.take_filled-buffer.result in let f = c.take_filled-buffer.new.seat.me in let r3 = take_goes coded meaning z m 2 take_stage.Look call 0 (phase.Takes take_stage.Buffer call buffer) e f r2 c.take_filled-buffer.ensures.alone (refl, refl, tt, tt, refl) (c.take_filled-buffer.ensures.out, refl) tt in
    let h = c.hand_over.new.seat.me in let handing = c.in-Ok.handing in let message = c.hand_over.new.message in let taken = taken_of call.who handing message in let handed = c.in-Ok.ensures.handed.1 in
    (4, refl, subst (λ (w : CallerId). HasRun coded meaning w z 4 (phase.LeavesReceiver (answer.Took (taken_of w handing message).held handing.verdict)) m h) c.take_begun-call.ensures.call.1 (take_goes coded meaning z m 3 take_stage.Buffer call buffer (phase.LeavesReceiver (answer.Took taken.held taken.verdict)) f h r3 c.hand_over.ensures.alone (refl, refl, tt, tt, refl) (subst (λ (k : ℕ). IsLeaving lane_turn.Receiver call.who.end (ends.Took k taken.verdict) (seat_of call.who.number h)) (sym handed.numbered) c.in-Ok.ensures.left) (record { lane = handed.lane; caller = handed.caller; out = c.in-Ok.ensures.out })))

pub returns-in-Err-hand_over-clause-run : goal.returns-in-Err-hand_over-clause-run
returns-in-Err-hand_over-clause-run g c = λ m known.
    let coded = g.row.D.coded in let meaning = g.D.Desk.meaning in let z = c.args.self.now.sizes in let call = c.take_begun-call.result in let a = c.args.seat.now.me in let b = c.take_begun-call.new.seat.me in let d = c.find_take_era.new.seat.me in
    let r0 = take_begins coded meaning z m call a b c.take_begun-call.ensures.stays c.take_begun-call.ensures.call.0 known in
    let r1 = take_goes coded meaning z m 0 take_stage.Turn call 0 (phase.Takes take_stage.Era call 0) b d r0 c.find_take_era.ensures.alone (refl, refl, tt, tt, refl) (c.in_default.ensures.live.0, refl) tt in
    let e = c.look_for_message.new.seat.me in let r2 = take_goes coded meaning z m 1 take_stage.Era call 0 (phase.Takes take_stage.Look call 0) d e r1 c.look_for_message.ensures.alone (refl, refl, tt, tt, refl) (c.in_default-look_for_message.ensures.message.0, refl) tt in
    let buffer = c.take_filled-buffer.result in let f = c.take_filled-buffer.new.seat.me in let r3 = take_goes coded meaning z m 2 take_stage.Look call 0 (phase.Takes take_stage.Buffer call buffer) e f r2 c.take_filled-buffer.ensures.alone (refl, refl, tt, tt, refl) (c.take_filled-buffer.ensures.out, refl) tt in
    let h = c.hand_over.new.seat.me in
    (4, refl, subst (λ (w : CallerId). HasRun coded meaning w z 4 (phase.LeavesReceiver (answer.Dead c.in-Err-hand_over.era)) m h) c.take_begun-call.ensures.call.1 (take_goes coded meaning z m 3 take_stage.Buffer call buffer (phase.LeavesReceiver (answer.Dead c.in-Err-hand_over.era)) f h r3 c.hand_over.ensures.alone (refl, refl, tt, tt, refl) c.in-Err-hand_over.ensures.left tt))
