-- A caller's seat in any phase of its call has that pass alone, with the slots of the call.
use Rattle.std.proofs.Common.{◌≡◌, refl}
use Rattle.link_words.specs.declared.rule.LinkSizes.{LinkSizes}
use Rattle.lane_model.specs.declared.stages.GiveStage.TheVariants as give_stage
use Rattle.lane_model.specs.declared.stages.SendStage.TheVariants as stage
use Rattle.lane_model.specs.declared.stages.TakeStage.TheVariants as take_stage
use Rattle.link_words.specs.Calls.{SeatState}
use Rattle.split_ring.specs.declared.binds.DeskAsk.TheVariants as asks
use Rattle.split_ring.specs.declared.callers.CallerId.{CallerId}
use Rattle.split_ring.specs.CallPhases.{Phase}
use Rattle.split_ring.specs.CallPhases as phase
use Rattle.split_ring.specs.Calls.{IsInPhase}
use Rattle.split_ring.specs.Focus.{IsAlone}
use Rattle.split_ring.specs.Seats.{pass_in}
use Rattle.split_ring.proofs.Focusing.{alone_at}

pub phase_alone : (n : _) (z : LinkSizes) (who : CallerId) (p : Phase) (me : SeatState) → (pass_in me).number ≡ n → IsInPhase z who p me → IsAlone n me
phase_alone n z who (phase.Asked asked) me number at = alone_at n me _ _ at.0 number refl
phase_alone n z who (phase.Sends stage.Turn c message) me number at = alone_at n me _ _ at.0.0 number refl
phase_alone n z who (phase.Sends stage.Era c message) me number at = alone_at n me _ _ at.0.0 number refl
phase_alone n z who (phase.Sends stage.Look c message) me number at = alone_at n me _ _ at.0.0 number refl
phase_alone n z who (phase.Sends stage.Buffer c message) me number at = alone_at n me _ _ at.0.1.0 number refl
phase_alone n z who (phase.Sends stage.Entry c message) me number at = alone_at n me _ _ at.0.0 number refl
phase_alone n z who (phase.Takes take_stage.Turn c buffer) me number at = alone_at n me _ _ at.0.at number refl
phase_alone n z who (phase.Takes take_stage.Era c buffer) me number at = alone_at n me _ _ at.0.at number refl
phase_alone n z who (phase.Takes take_stage.Look c buffer) me number at = alone_at n me _ _ at.0.at number refl
phase_alone n z who (phase.Takes take_stage.Buffer c buffer) me number at = alone_at n me _ _ at.0.1.at number refl
phase_alone n z who (phase.Gives give_stage.Turn held returned) me number at = alone_at n me _ _ at.0.3 number refl
phase_alone n z who (phase.Gives give_stage.Entry held returned) me number at = alone_at n me _ _ at.0.at number refl
phase_alone n z who (phase.Asks (asks.Bind address)) me number at = alone_at n me _ _ at.3 number refl
phase_alone n z who (phase.Asks (asks.Unbind address)) me number at = alone_at n me _ _ at.3 number refl
phase_alone n z who (phase.LeavesSender answer) me number at = alone_at n me _ _ at.3 number refl
phase_alone n z who (phase.LeavesReceiver answer) me number at = alone_at n me _ _ at.4 number refl
phase_alone n z who phase.Ended me number at = absurd at
