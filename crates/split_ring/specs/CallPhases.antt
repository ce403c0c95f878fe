-- In which phase a call is (own).
use Rattle.std.specs.Prelude.{ℕ, List}
use Rattle.lane_model.specs.declared.calls.Answer.{Answer}
use Rattle.lane_model.specs.declared.calls.Ask.{Ask}
use Rattle.lane_model.specs.declared.stages.GiveStage.{GiveStage}
use Rattle.lane_model.specs.declared.stages.SendStage.{SendStage}
use Rattle.lane_model.specs.declared.stages.TakeStage.{TakeStage}
use Rattle.lane_model.specs.HeldBuffers.{HeldBuffer}
use Rattle.split_ring.specs.declared.binds.DeskAsk.{DeskAsk}
use Rattle.split_ring.specs.declared.sends.SendCall.{SendCall}
use Rattle.split_ring.specs.declared.takes.TakeCall.{TakeCall}

-- the step that a call has done last, with what the next one needs
pub data Phase : Type 0 where
  -- no step is done
  Asked : Ask → Phase
  -- a send of this message has done the step of this stage last
  Sends : SendStage → SendCall → List ℕ → Phase
  -- a take has done the step of this stage last; by the fourth it has this buffer out
  Takes : TakeStage → TakeCall → ℕ → Phase
  -- a give has done the step of this stage last; by the second so many buffers are back
  Gives : GiveStage → HeldBuffer → ℕ → Phase
  -- a binding or an unbinding has its turn
  Asks : DeskAsk → Phase
  -- the end of a send is settled, and it has its turn to leave
  LeavesSender : Answer → Phase
  -- the same of a call that has the receiver's turn
  LeavesReceiver : Answer → Phase
  -- the call has ended
  Ended : Phase
