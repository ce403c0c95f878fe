use Rattle.lane_model.specs.declared.calls.Answer.TheVariants as answer
use Rattle.lane_model.specs.declared.stages.TakeStage.TheVariants as take_stage
use Rattle.split_ring.specs.CallPhases as phase
use Rattle.split_ring.specs.Focus.{seat_of}
use Rattle.split_ring.proofs.CallSteps.{take_by, take_live, take_dead, take_found, take_empty, take_buffer}
use Rattle.split_ring.proofs.links.SharedLink.take_step.Goals as goal

pub returns-in-Ok-clause-step : goal.returns-in-Ok-clause-step
returns-in-Ok-clause-step g c =
    let coded = g.row.D.coded in let meaning = g.D.Desk.meaning in let z = c.args.self.now.sizes in let call = c.args.call.now in let full = c.args.seat.now.me in let b = c.args.buffer.now in let full' = c.find_take_era.new.seat.me in let me = seat_of call.who.number full in let me' = seat_of call.who.number full' in
    take_by coded meaning z c.args.who c.args.stage.now take_stage.Turn call b (phase.Takes take_stage.Era call b) full full' c.in-Turn.is c.requires.stands.1 (take_live coded meaning z call b me me' c.in-Ok.ensures.live)

pub returns-in-Err-clause-step : goal.returns-in-Err-clause-step
returns-in-Err-clause-step g c =
    let coded = g.row.D.coded in let meaning = g.D.Desk.meaning in let z = c.args.self.now.sizes in let call = c.args.call.now in let full = c.args.seat.now.me in let b = c.args.buffer.now in let full' = c.find_take_era.new.seat.me in let me = seat_of call.who.number full in let me' = seat_of call.who.number full' in
    take_by coded meaning z c.args.who c.args.stage.now take_stage.Turn call b (phase.LeavesReceiver (answer.Dead c.in-Err.era)) full full' c.in-Turn.is c.requires.stands.1 (take_dead coded meaning z call b c.in-Err.era me me' c.in-Err.ensures.dead)

pub returns-in-Ok-look_for_message-clause-step : goal.returns-in-Ok-look_for_message-clause-step
returns-in-Ok-look_for_message-clause-step g c =
    let coded = g.row.D.coded in let meaning = g.D.Desk.meaning in let z = c.args.self.now.sizes in let call = c.args.call.now in let full = c.args.seat.now.me in let b = c.args.buffer.now in let full' = c.look_for_message.new.seat.me in let me = seat_of call.who.number full in let me' = seat_of call.who.number full' in
    take_by coded meaning z c.args.who c.args.stage.now take_stage.Era call b (phase.Takes take_stage.Look call b) full full' c.in-Era.is c.requires.stands.1 (take_found coded meaning z call b me me' c.in-Ok-look_for_message.ensures.message)

pub returns-in-Err-look_for_message-clause-step : goal.returns-in-Err-look_for_message-clause-step
returns-in-Err-look_for_message-clause-step g c =
    let coded = g.row.D.coded in let meaning = g.D.Desk.meaning in let z = c.args.self.now.sizes in let call = c.args.call.now in let full = c.args.seat.now.me in let b = c.args.buffer.now in let full' = c.look_for_message.new.seat.me in let me = seat_of call.who.number full in let me' = seat_of call.who.number full' in
    take_by coded meaning z c.args.who c.args.stage.now take_stage.Era call b (phase.LeavesReceiver (answer.Empty c.in-Err-look_for_message.accepted)) full full' c.in-Era.is c.requires.stands.1 (take_empty coded meaning z call b c.in-Err-look_for_message.accepted me me' c.in-Err-look_for_message.ensures.empty)

pub returns-in-Look-clause-step : goal.returns-in-Look-clause-step
returns-in-Look-clause-step g c =
    let coded = g.row.D.coded in let meaning = g.D.Desk.meaning in let z = c.args.self.now.sizes in let call = c.args.call.now in let full = c.args.seat.now.me in let b = c.args.buffer.now in let full' = c.take_filled.new.seat.me in let me = seat_of call.who.number full in let me' = seat_of call.who.number full' in
    take_by coded meaning z c.args.who c.args.stage.now take_stage.Look call b (phase.Takes take_stage.Buffer call c.take_filled.result) full full' c.in-Look.is c.requires.stands.1 (take_buffer coded meaning z call b c.take_filled.result me me' c.take_filled.ensures.out c.take_filled.ensures.done)
